use Rattle.std.proofs.Common.{◌≡◌, rules, map}
use Rattle.std.specs.Prelude.{None}
use Rattle.pub_catalog.proofs.CatalogFacts.{catalog_entries_known}
use Rattle.pub_catalog.specs.CatalogView.{catalog_view}
use Rattle.replica_identity.specs.Plans.{plan_view}
use Rattle.split_cert.specs.Where.{tree_view}
use Rattle.shard_checker.specs.CatalogRefusal.{declared_refusal}
use Rattle.shard_checker.proofs.AnyTest.{none_by_any}
use Rattle.shard_checker.proofs.ShardingLemmas.{sharding_sound}
use Rattle.shard_checker.proofs.StandingLemmas.{own_covered, own_apart, own_divided}
use Rattle.shard_checker.proofs.TellingLemmas.{refused_by_any, refused_memory, refused_wrong}
use Rattle.shard_checker.proofs.sharding.check.Goals as goal

-- nothing was refused
pub new-requires-clause-sound : goal.new-requires-clause-sound
new-requires-clause-sound g c =
    sharding_sound (catalog_view c.args.catalog) (plan_view c.args.plan) (map tree_view c.args.certs.now)
    (catalog_entries_known c.args.catalog) c.in_ok-check_sharding.ensures.exact c.requires

pub returns-clause-sound : goal.returns-clause-sound
returns-clause-sound g c =
    sharding_sound (catalog_view c.args.catalog) (plan_view c.args.plan) (map tree_view c.args.certs.now)
    (catalog_entries_known c.args.catalog) c.in_ok-check_sharding.ensures.exact c.requires

pub returns-clause-covered : goal.returns-clause-covered
returns-clause-covered g c =
    own_covered (catalog_view c.args.catalog) (plan_view c.args.plan) c.requires (returns-clause-sound g c)

pub returns-clause-apart : goal.returns-clause-apart
returns-clause-apart g c =
    own_apart (catalog_view c.args.catalog) (plan_view c.args.plan) c.requires (returns-clause-sound g c)

pub returns-clause-divided : goal.returns-clause-divided
returns-clause-divided g c =
    own_divided (catalog_view c.args.catalog) (plan_view c.args.plan) c.requires (returns-clause-sound g c)

-- what was found with the program's own test, each equivalent test finds
pub returns-in_err-check_sharding-clause-exact : goal.returns-in_err-check_sharding-clause-exact
returns-in_err-check_sharding-clause-exact g c =
    refused_by_any (catalog_view c.args.catalog) (plan_view c.args.plan) (map tree_view c.args.certs.now)
    c.check_sharding.result c.in_err-check_sharding.field-0.0 c.from_residual.result
    (search rules) (search rules) c.check_sharding.ensures.exact

pub returns-in_err-check_sharding-clause-memory : goal.returns-in_err-check_sharding-clause-memory
returns-in_err-check_sharding-clause-memory g c =
    refused_memory (catalog_view c.args.catalog) (plan_view c.args.plan) (map tree_view c.args.certs.now)
    c.check_sharding.result c.in_err-check_sharding.field-0.0 c.from_residual.result
    (search rules) (search rules) (declared_refusal (catalog_view c.args.catalog) ≡ None)
    c.check_sharding.ensures.memory

pub returns-in_err-check_sharding-clause-wrong : goal.returns-in_err-check_sharding-clause-wrong
returns-in_err-check_sharding-clause-wrong g c =
    refused_wrong (catalog_view c.args.catalog) (plan_view c.args.plan) (map tree_view c.args.certs.now)
    c.check_sharding.result c.in_err-check_sharding.field-0.0 c.from_residual.result
    (search rules) (search rules) (catalog_entries_known c.args.catalog) c.check_sharding.ensures.exact

pub returns-clause-exact : goal.returns-clause-exact
returns-clause-exact g c = λ test tells.
    none_by_any (catalog_view c.args.catalog) (plan_view c.args.plan) (map tree_view c.args.certs.now)
    c.in_ok-check_sharding.ensures.exact test tells
