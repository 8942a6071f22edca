use Rattle.std.proofs.Common.{◌≡◌, drop}
use Rattle.copy_both.specs.StartOrder.{names_in}
use Rattle.copy_both.proofs.start_order.names_in.Given as goal

abbrev pub invariant-loop-option : goal.invariant-loop-option
invariant-loop-option l = names_in (drop l.option-index l.options) ≡ names_in l.options
