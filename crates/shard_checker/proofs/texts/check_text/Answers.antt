use Rattle.std.proofs.Common.{◌≡◌, ◌≢◌, rules}
use Rattle.std.specs.Prelude.{None}
use Rattle.pub_catalog.proofs.CatalogFacts.{catalog_entries_known}
use Rattle.pub_catalog.specs.CatalogView.{catalog_view}
use Rattle.replica_identity.specs.Plans.{plan_view}
use Rattle.shard_checker.specs.CatalogRefusal.{declared_refusal}
use Rattle.shard_checker.specs.CatalogTruth.{ShardingIsWrong}
use Rattle.shard_checker.specs.declared.error.CheckError.TheVariants.{OutOfMemory}
use Rattle.shard_checker.specs.Texts.{texts_view, trees_in}
use Rattle.shard_checker.proofs.ShardingLemmas.{sharding_sound}
use Rattle.shard_checker.proofs.StandingLemmas.{own_covered, own_apart, own_divided}
use Rattle.shard_checker.proofs.TextLemmas.{text_first, text_by_any, fault_tells, fault_is_no_refusal, refused_by_any, refused_read, refused_memory, refused_wrong}
use Rattle.shard_checker.proofs.texts.check_text.Goals as goal

-- nothing was refused
pub new-requires-clause-sound : goal.new-requires-clause-sound
new-requires-clause-sound c =
    sharding_sound (catalog_view c.args.catalog) (plan_view c.args.plan) (trees_in (texts_view c.args.texts.now))
    (catalog_entries_known c.args.catalog) (c.in_ok-check_texts.ensures.exact c.in_ok-read_texts.ensures)
    c.requires

pub returns-clause-sound : goal.returns-clause-sound
returns-clause-sound c =
    sharding_sound (catalog_view c.args.catalog) (plan_view c.args.plan) (trees_in (texts_view c.args.texts.now))
    (catalog_entries_known c.args.catalog) (c.in_ok-check_texts.ensures.exact c.in_ok-read_texts.ensures)
    c.requires

pub returns-clause-covered : goal.returns-clause-covered
returns-clause-covered c =
    own_covered (catalog_view c.args.catalog) (plan_view c.args.plan) c.requires (returns-clause-sound c)

pub returns-clause-apart : goal.returns-clause-apart
returns-clause-apart c =
    own_apart (catalog_view c.args.catalog) (plan_view c.args.plan) c.requires (returns-clause-sound c)

pub returns-clause-divided : goal.returns-clause-divided
returns-clause-divided c =
    own_divided (catalog_view c.args.catalog) (plan_view c.args.plan) c.requires (returns-clause-sound c)

-- what was found with the program's own test, each equivalent test finds
pub returns-clause-exact : goal.returns-clause-exact
returns-clause-exact c = λ test tells.
    text_by_any test tells (catalog_view c.args.catalog) (plan_view c.args.plan) (texts_view c.args.texts.now) None
    c.in_ok-read_texts.ensures (c.in_ok-check_texts.ensures.exact c.in_ok-read_texts.ensures)

pub returns-in_err-check_texts-clause-exact : goal.returns-in_err-check_texts-clause-exact
returns-in_err-check_texts-clause-exact c =
    refused_by_any (catalog_view c.args.catalog) (plan_view c.args.plan) (texts_view c.args.texts.now)
    c.check_texts.result c.in_err-check_texts.field-0.0 c.from_residual-in_err-check_texts.result
    (search rules) (search rules) c.in_ok-read_texts.ensures (c.check_texts.ensures.exact c.in_ok-read_texts.ensures)

pub returns-in_err-check_texts-clause-read : goal.returns-in_err-check_texts-clause-read
returns-in_err-check_texts-clause-read c =
    refused_read (catalog_view c.args.catalog) (plan_view c.args.plan) (texts_view c.args.texts.now)
    c.check_texts.result c.in_err-check_texts.field-0.0 c.from_residual-in_err-check_texts.result
    (search rules) (search rules) c.in_ok-read_texts.ensures

pub returns-in_err-check_texts-clause-memory : goal.returns-in_err-check_texts-clause-memory
returns-in_err-check_texts-clause-memory c =
    refused_memory (catalog_view c.args.catalog) (plan_view c.args.plan) (texts_view c.args.texts.now)
    c.check_texts.result c.in_err-check_texts.field-0.0 c.from_residual-in_err-check_texts.result
    (search rules) (search rules) c.check_texts.ensures.memory

pub returns-in_err-check_texts-clause-wrong : goal.returns-in_err-check_texts-clause-wrong
returns-in_err-check_texts-clause-wrong c =
    refused_wrong (catalog_view c.args.catalog) (plan_view c.args.plan) (texts_view c.args.texts.now)
    c.check_texts.result c.in_err-check_texts.field-0.0 c.from_residual-in_err-check_texts.result
    (search rules) (search rules) (catalog_entries_known c.args.catalog)
    (c.check_texts.ensures.exact c.in_ok-read_texts.ensures)

-- a text is not read
pub returns-in_err-read_texts-clause-exact : goal.returns-in_err-read_texts-clause-exact
returns-in_err-read_texts-clause-exact c = λ test tells. search (rules, text_first)

pub returns-in_err-read_texts-clause-read : goal.returns-in_err-read_texts-clause-read
returns-in_err-read_texts-clause-read c =
    fault_tells (texts_view c.args.texts.now) c.from_residual.result c.in_err-read_texts.field-0.0 (search rules)
    (search rules)

pub returns-in_err-read_texts-clause-memory : goal.returns-in_err-read_texts-clause-memory
returns-in_err-read_texts-clause-memory c =
    fault_is_no_refusal (texts_view c.args.texts.now) c.from_residual.result c.in_err-read_texts.field-0.0
    (λ error. error ≡ OutOfMemory → declared_refusal (catalog_view c.args.catalog) ≡ None) (search rules)
    (search rules)

pub returns-in_err-read_texts-clause-wrong : goal.returns-in_err-read_texts-clause-wrong
returns-in_err-read_texts-clause-wrong c =
    fault_is_no_refusal (texts_view c.args.texts.now) c.from_residual.result c.in_err-read_texts.field-0.0
    (λ error. error ≢ OutOfMemory
    → ShardingIsWrong (catalog_view c.args.catalog) (plan_view c.args.plan)
    (trees_in (texts_view c.args.texts.now)) error) (search rules) (search rules)
