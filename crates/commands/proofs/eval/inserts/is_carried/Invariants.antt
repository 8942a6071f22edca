use Rattle.std.proofs.Common.{◌≡◌, drop, map}
use Rattle.commands.specs.Eval.Carriers.{carrier_view}
use Rattle.commands.specs.Eval.Inserts as spec
use Rattle.commands.proofs.eval.inserts.is_carried.Given as goal

-- one of those that are left carries the row exactly if one of all does
abbrev pub invariant-loop-number : goal.invariant-loop-number
invariant-loop-number l =
    spec.is_carried l.row (map carrier_view (drop l.number l.carriers))
    ≡ spec.is_carried l.row (map carrier_view l.carriers)
