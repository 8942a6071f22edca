-- A catalog that was checked, with its own plan, is a publisher, as the laws of the world require.
use Rattle.pub_catalog.specs.CatalogView.{catalog_view}
use Rattle.replica_identity.specs.Plans.{plan_view}
use Rattle.shard_checker.proofs.LimitFacts.{checked_limited, checked_named}
use Rattle.shard_checker.proofs.PlanFacts.{kept_own}
use Rattle.shard_checker.proofs.SoundFacts.{kept_sound}
use Rattle.shard_checker.proofs.StandingLemmas.{own_covered, own_apart}
use Rattle.shard_world.specs.WorldLaws.{CheckedPublish}

pub checked_publish : CheckedPublish
checked_publish checked most few =
    let catalog = catalog_view checked.catalog in
    let plan = plan_view checked.plan in
    let own = kept_own catalog plan checked.own in
    let sound = kept_sound catalog checked.sound in
    record {
      own = own;
      covered = own_covered catalog plan own sound;
      apart = own_apart catalog plan own sound;
      limited = checked_limited checked;
      named = checked_named checked;
      most_is = few;
    }
