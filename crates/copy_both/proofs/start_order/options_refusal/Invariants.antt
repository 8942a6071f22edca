use Rattle.std.proofs.Common.{◌≡◌, [], take, drop}
use Rattle.copy_both.specs.StartOrder.{options_refusal}
use Rattle.copy_both.proofs.start_order.options_refusal.Given as goal

abbrev pub invariant-loop-index : goal.invariant-loop-index
invariant-loop-index l =
    options_refusal (take l.index l.options) (drop l.index l.options) ≡ options_refusal [] l.options
