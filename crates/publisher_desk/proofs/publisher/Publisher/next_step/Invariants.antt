use Rattle.std.proofs.Common.{◌≡◌}
use Rattle.publisher_desk.proofs.publisher.Publisher.next_step.Given as goal

-- the viewer has seen nothing new
abbrev pub invariant-loop : goal.invariant-loop
invariant-loop g l = (l.viewer-inside ≡ l.initial.viewer-inside)
    × (goal.iterator-loop g).can_next l.iterator' × (goal.iterator-loop g).is_finite l.iterator'
