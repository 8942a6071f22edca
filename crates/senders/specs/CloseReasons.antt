-- Why a publisher cannot be closed: PostgreSQL 15, 3.4. Transactions, and 55.4. Streaming Replication Protocol.
use Rattle.std.specs.Prelude.{◌≡◌, ◌≢◌, ℕ, ◌+◌, ◌<◌, ◌≤◌, List, All, length}
use Rattle.shard_checker.specs.CheckedView.{CheckedOf, setting_in}
use Rattle.publisher_desk.specs.Counting.{IsCounted}
use Rattle.publisher_desk.specs.Logged.{AreSeatsIn}
use Rattle.publisher_desk.specs.Seats.{SeatOf}
use Rattle.publisher_desk.specs.SlotEvents.{acquisitions}
use Rattle.publisher_desk.specs.SlotSights.{BeginsWith}
use Rattle.publisher_desk.specs.Viewers.{ClosingOf, IsAcceptedLog, IsSeenIn, log_seen}
use Rattle.senders.specs.Gathering.{all_receipts}
use Rattle.senders.specs.Reached.{AllEndReached, AreReached, IsOrder, LacksConnection}
use Rattle.senders.specs.Results.{ServedOf}
use Rattle.senders.specs.TakenCommits.{IsTaken}
use Rattle.senders.specs.declared.close_error.CloseError.{CloseError}
use Rattle.senders.specs.declared.close_error.CloseError.TheVariants.{CountDiffers, ReceiptMissing, ReadingWrong, TakenDiffers, ConnectionMissing, StartLate, SlotDiffers, OutOfMemory}

-- The seats have a receipt for each commit of the log, and each connection took what the log has from its start on.
pub record AreTaken (checked : CheckedOf) (closing : ClosingOf) (seats : List SeatOf) (served : List ServedOf) : Type 0
  where
    pub count : length closing.log ≡ length (all_receipts seats)
    pub taken : All (IsTaken (log_seen checked closing.log)) served

-- The numbers of the connections that started a stream are those of the acquisitions, each once, and `so` holds of these
-- connections in their order, for the number of slots.
pub record StartsAre (checked : CheckedOf) (closing : ClosingOf) (seats : List SeatOf) (served : List ServedOf)
    (so : ℕ → List ServedOf → Type 0) : Type 0 where
  pub before : AreTaken checked closing seats served
  pub starts : List ServedOf
  pub ordered : IsOrder (acquisitions closing.events) served starts
  pub are : so (length checked.catalog.subscriptions) starts

-- Each reason passes what comes before it. A receipt is never missing, and no reading is wrong: the publisher's history
-- ties them to its log, and a seat of another publisher cannot be passed in. Of all seats, `left` were never handed
-- out: receipts are too few only if not all others are passed in.
abbrev pub IsReasonToRefuse : CheckedOf → ℕ → ℕ → ClosingOf → List SeatOf → List ServedOf → CloseError → Type 0
IsReasonToRefuse checked all left closing seats served CountDiffers =
    (length closing.log ≢ length (all_receipts seats)) × (left + length seats < all)
IsReasonToRefuse checked all left closing seats served ReceiptMissing = ⊥
IsReasonToRefuse checked all left closing seats served ReadingWrong = ⊥
IsReasonToRefuse checked all left closing seats served TakenDiffers =
    (length closing.log ≡ length (all_receipts seats)) × ¬ All (IsTaken (log_seen checked closing.log)) served
IsReasonToRefuse checked all left closing seats served ConnectionMissing =
    AreTaken checked closing seats served × LacksConnection (acquisitions closing.events) served
IsReasonToRefuse checked all left closing seats served StartLate =
    StartsAre checked closing seats served (λ slots starts. ¬ AreReached slots starts)
IsReasonToRefuse checked all left closing seats served SlotDiffers =
    StartsAre checked closing seats served (λ slots starts. AreReached slots starts
    × ¬ AllEndReached slots closing.slots starts)
IsReasonToRefuse checked all left closing seats served OutOfMemory = Unit {0}

-- The publisher's log has this number of commits at most, each of which was accepted after those before it. It has no
-- fewer commits than the seats have receipts, and exactly as many if no seat is held back. The receipts and readings of
-- the seats agree with it. What each seat and each connection has seen is a beginning of this log and the first events
-- of the slots. These are the reason.
pub record RefusedClose (checked : CheckedOf) (limit all left : ℕ) (closing : ClosingOf) (seats : List SeatOf)
    (served : List ServedOf) (error : CloseError) : Type 0 where
  pub accepted : IsAcceptedLog checked closing.log
  pub room : length closing.log ≤ limit
  pub counted : IsCounted all left seats (length closing.log)
  pub logged : AreSeatsIn (setting_in checked) closing.log seats
  pub shown : All (λ (seat : SeatOf). BeginsWith closing.events seat.events) seats
  pub seen : All (λ (one : ServedOf). IsSeenIn closing one.viewer) served
  pub reason : IsReasonToRefuse checked all left closing seats served error
