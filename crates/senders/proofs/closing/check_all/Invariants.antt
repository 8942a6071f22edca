use Rattle.std.proofs.Common.{◌≡◌, All, take}
use Rattle.publisher_desk.specs.Viewers.{IsSeenIn}
use Rattle.senders.specs.Results.{IsWitnessed, ServedOf}
use Rattle.senders.proofs.closing.check_all.Given as goal

abbrev pub invariant-loop-place : goal.invariant-loop-place
invariant-loop-place g l = (l.served ≡ l.fn.served) × (l.closing ≡ l.fn.closing)
    × All (λ (one : ServedOf). IsSeenIn l.fn.closing one.viewer) (take l.place l.fn.served)
    × All (IsWitnessed g.P.Publishing.checked) (take l.place l.fn.served)
