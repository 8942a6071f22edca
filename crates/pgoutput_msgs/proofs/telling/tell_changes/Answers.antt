use Rattle.std.proofs.Common.{List, sym, subst}
use Rattle.row_owners.specs.Owners.{AreOwners}
use Rattle.shard_checker.specs.CheckedView.{checked_view}
use Rattle.table_changes.specs.Records.{ChangeOf}
use Rattle.pgoutput_msgs.proofs.telling.tell_changes.Goals as goal

pub tell_each-requires-clause-owners : goal.tell_each-requires-clause-owners
tell_each-requires-clause-owners g c =
    subst (λ (changes : List ChangeOf). AreOwners (checked_view c.args.checked.now).plan changes c.args.owners.now)
    (sym c.changes.ensures.shows) c.requires
