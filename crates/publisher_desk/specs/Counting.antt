-- How the receipts of a publisher's seats add up to the commits of its log: PostgreSQL 15, 3.4. Transactions.
use Rattle.std.specs.Prelude.{◌≡◌, ℕ, ◌+◌, ◌≤◌, List, [], ◌∷◌, length}
use Rattle.publisher_desk.specs.Seats.{SeatOf, receipts}

-- how many receipts these seats have
abbrev pub total_receipts : List SeatOf → ℕ
total_receipts [] = 0
total_receipts (seat ∷ seats) = receipts seat.notes + total_receipts seats

-- Of all seats, `left` belong to no session, and these are passed in. They are no more than all seats, and
-- have no more receipts than the log has commits. If no seat is held back, they have exactly as many.
pub record IsCounted (all left : ℕ) (seats : List SeatOf) (commits : ℕ) : Type 0 where
  pub few : left + length seats ≤ all
  pub bound : total_receipts seats ≤ commits
  pub whole : left + length seats ≡ all → total_receipts seats ≡ commits
