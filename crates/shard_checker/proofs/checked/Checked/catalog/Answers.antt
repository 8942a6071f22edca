use Rattle.pub_catalog.specs.CatalogView.{catalog_view}
use Rattle.replica_identity.specs.Plans.{plan_view}
use Rattle.shard_checker.proofs.LimitFacts.{checked_named}
use Rattle.shard_checker.proofs.PlanFacts.{kept_own}
use Rattle.shard_checker.proofs.SoundFacts.{kept_sound}
use Rattle.shard_checker.proofs.StandingLemmas.{own_covered, own_apart, own_divided}
use Rattle.shard_checker.proofs.checked.Checked.catalog.Goals as goal

-- what the fields keep, of which there is at most one proof
pub returns-clause-sound : goal.returns-clause-sound
returns-clause-sound c = kept_sound (catalog_view c.args.self.now.catalog) c.args.self.now.sound

pub returns-clause-covered : goal.returns-clause-covered
returns-clause-covered c = let kept = c.args.self.now in
    own_covered (catalog_view kept.catalog) (plan_view kept.plan)
    (kept_own (catalog_view kept.catalog) (plan_view kept.plan) kept.own) (returns-clause-sound c)

pub returns-clause-apart : goal.returns-clause-apart
returns-clause-apart c = let kept = c.args.self.now in
    own_apart (catalog_view kept.catalog) (plan_view kept.plan)
    (kept_own (catalog_view kept.catalog) (plan_view kept.plan) kept.own) (returns-clause-sound c)

pub returns-clause-divided : goal.returns-clause-divided
returns-clause-divided c = let kept = c.args.self.now in
    own_divided (catalog_view kept.catalog) (plan_view kept.plan)
    (kept_own (catalog_view kept.catalog) (plan_view kept.plan) kept.own) (returns-clause-sound c)

pub returns-clause-names : goal.returns-clause-names
returns-clause-names c = checked_named c.args.self.now
