-- What the session of `serve` does with the lists of commands of a script: PostgreSQL 15, 3.4. Transactions. To skip a
-- list that is refused is this program's own rule.
use Rattle.std.specs.Prelude.{◌≡◌, ◌≢◌, ◌⊎◌, ℕ, ◌+◌, List, [], ◌∷◌, ◌++◌}
use Rattle.shard_checker.specs.CheckedView.{CheckedOf, setting_in}
use Rattle.table_changes.specs.Commands.{Command}
use Rattle.tables_log.specs.declared.error.CommitError.{CommitError}
use Rattle.tables_log.specs.declared.error.CommitError.TheVariants.{OutOfMemory}
use Rattle.publisher_desk.specs.Answers.{IsMade}
use Rattle.publisher_desk.specs.Logged.{IsRefused}
use Rattle.publisher_desk.specs.Receipts.{receipt_of}
use Rattle.publisher_desk.specs.Refusals.{HasFault}
use Rattle.publisher_desk.specs.Seats.{SeatOf, SeesOn}
use Rattle.publisher_desk.specs.declared.note.Note.TheVariants.{Committed}

-- A commit of the list is refused after the log that the session has then seen, and memory is not the reason.
pub record IsPassedOver (checked : CheckedOf) (limit : ℕ) (commands : List Command) (has : SeatOf) : Type 0 where
  pub error : CommitError
  pub known : error ≢ OutOfMemory
  pub refused : IsRefused checked limit has commands error
  pub fault : HasFault (setting_in checked) commands error

-- It was made a transaction, and its receipt follows the earlier notes.
pub record IsMadeLast (checked : CheckedOf) (limit time : ℕ) (commands : List Command) (had has : SeatOf) : Type 0
  where
    pub number : ℕ
    pub made : IsMade checked limit had.seen has.seen commands time number
    pub last : has.notes ≡ had.notes ++ Committed (receipt_of number commands time) ∷ []

-- It was made a transaction, or skipped. What the session had seen of the log and of the slots is a beginning of what
-- it has then seen.
abbrev pub TakesUp : CheckedOf → ℕ → ℕ → List Command → SeatOf → SeatOf → Type 0
TakesUp checked limit time commands had has =
    (IsMadeLast checked limit time commands had has
    ⊎ (IsPassedOver checked limit commands has × (has.notes ≡ had.notes))) × SeesOn had has

-- So were these lists, in order: the first at this time, and each further one at the next.
abbrev pub AreCommitted : CheckedOf → ℕ → ℕ → List (List Command) → SeatOf → SeatOf → Type 0
AreCommitted checked limit time [] had has = has ≡ had
AreCommitted checked limit time (commands ∷ lists) had has =
    (mid : SeatOf) × TakesUp checked limit time commands had mid
    × AreCommitted checked limit (time + 1) lists mid has
