use Rattle.std.proofs.Common.{◌≡◌, ◌++◌, drop, map}
use Rattle.filter_memo.specs.Plans.{filters_view}
use Rattle.commands.specs.Eval.Carriers.{carrier_view}
use Rattle.commands.specs.Eval.Memos as spec
use Rattle.commands.proofs.eval.memory.filters_of.Given as goal

-- the filters so far, and those of the publications that are left, are those of all
abbrev pub invariant-loop-carrier : goal.invariant-loop-carrier
invariant-loop-carrier l =
    filters_view l.filters.items ++ spec.filters_of (map carrier_view (drop l.carrier-index l.carriers))
    ≡ spec.filters_of (map carrier_view l.carriers)
