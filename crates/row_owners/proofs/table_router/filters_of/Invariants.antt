use Rattle.std.proofs.Common.{◌≡◌, take}
use Rattle.filter_memo.specs.Plans.{filters_view}
use Rattle.shard_checker.specs.CheckedView.{checked_view}
use Rattle.row_owners.specs.Routers.{filters_of}
use Rattle.row_owners.proofs.table_router.filters_of.Given as goal

-- the filters of the first subscribers' shares
abbrev pub invariant-loop-subscriber : goal.invariant-loop-subscriber
invariant-loop-subscriber l =
    filters_view l.filters.items ≡ filters_of (take l.subscriber (checked_view l.checked).plan) l.table
