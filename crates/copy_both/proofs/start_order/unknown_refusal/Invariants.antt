use Rattle.std.proofs.Common.{◌≡◌, drop}
use Rattle.std.specs.Prelude.{map}
use Rattle.copy_both.specs.StartOrder.{unknown_refusal}
use Rattle.copy_both.proofs.start_order.unknown_refusal.Given as goal

abbrev pub invariant-loop-name : goal.invariant-loop-name
invariant-loop-name l =
    unknown_refusal (map (λ p. p.name) l.publications) (drop l.name-index l.names)
    ≡ unknown_refusal (map (λ p. p.name) l.publications) l.names
