-- What a connection has heard of all bytes that were read from it: PostgreSQL 15, 55.4. Streaming Replication
-- Protocol, and 55.7. Message Formats.
use Rattle.std.specs.Prelude.{◌≡◌, ◌≤◌, ℕ, max, min, Bool, true, false, List, [], ◌++◌, length, slice_get, Option, Some, None, Result, Ok, Err}
use Rattle.shard_checker.specs.CheckedView.{CheckedOf, setting_in}
use Rattle.table_changes.specs.Tables.{no_rows}
use Rattle.tables_log.specs.Lsn.{end_lsn_of}
use Rattle.tables_log.specs.Slots.{with_use}
use Rattle.tables_log.specs.StandsFor.{Transaction, AreAccepted}
use Rattle.copy_frames.specs.Frames.{fault_in}
use Rattle.copy_both.specs.Ears.{ear_started, ear_refusal}
use Rattle.copy_both.specs.HeardFrames.{frames_in, AsksIfStarted, BooksOf, GoesOnOrEnds, HasHeard, HasLinkFault, IsAnswered, IsBeginning}
use Rattle.copy_both.specs.Hearing.{first_sent}
use Rattle.copy_both.specs.declared.ear.Ear.{Ear}
use Rattle.copy_both.specs.declared.heard.Heard.{Heard}
use Rattle.copy_both.specs.declared.link_fault.LinkFault.{LinkFault}
use Rattle.copy_both.specs.declared.link_fault.LinkFault.TheVariants.{StatusAhead}
use Rattle.publisher_desk.specs.SlotEvents.{with_position}
use Rattle.publisher_desk.specs.Viewers.{ViewerOf}
use Rattle.publisher_desk.specs.declared.connection_state.ConnectionState.{ConnectionState}
use Rattle.senders.specs.Results.{books_seen}

-- no whole frame, and no length that is invalid
pub record IsSilent (bytes : List ℕ) : Type 0 where
  pub none : frames_in bytes ≡ []
  pub good : fault_in 65536 bytes ≡ None

-- A position is not before the start of the stream, which is 64 for a start at 0.
abbrev pub IsSentFrom : Option (ℕ × ℕ) → ℕ → Type 0
IsSentFrom None position = Unit {0}
IsSentFrom (Some started) position = first_sent started.1 ≤ position

-- the sent position that statuses are compared with: that up to which the slot's client was sent the log, by what its
-- sender was given, or the first position of the stream if that is greater
abbrev pub sent_after : ℕ → Option ConnectionState → ℕ
sent_after first None = first
sent_after first (Some connection) = max first connection.sent

abbrev pub sent_by : Option (ℕ × ℕ) → List ConnectionState → ℕ
sent_by None connections = 0
sent_by (Some started) connections = sent_after (first_sent started.1) (slice_get connections started.0)

-- up to where clients were sent the log after a connection has heard a piece: the client of a stream that it starts has
-- been sent nothing, and the others what they were sent before
abbrev pub sent_started : Option (ℕ × ℕ) → Bool → (ℕ → ℕ) → (ℕ → ℕ)
sent_started None was_started known = known
sent_started (Some started) true known = known
sent_started (Some started) false known = with_position started.0 0 known

-- whose connections have to be ended after the piece: those that were, but for that of a stream that it starts
abbrev pub ended_started : Option (ℕ × ℕ) → Bool → (ℕ → Bool) → (ℕ → Bool)
ended_started None was_started ended = ended
ended_started (Some started) true ended = ended
ended_started (Some started) false ended = with_use started.0 false ended

-- The bytes have this fault, where the log was a beginning of the one that is known, and some position from the start
-- on was sent. The log has the start if a status is ahead, which is then after the start.
pub record HoldsFault (checked : CheckedOf) (known : BooksOf) (bytes : List ℕ) (started : Option (ℕ × ℕ))
    (fault : LinkFault) : Type 0 where
  pub transactions : List Transaction
  pub begins : IsBeginning known.log transactions
  pub accepted : AreAccepted (setting_in checked) no_rows transactions
  pub sent : ℕ
  pub from : IsSentFrom started sent
  pub has : HasLinkFault checked known bytes (min sent (end_lsn_of (length transactions))) fault
  pub reaches : fault ≡ StatusAhead → IsSentFrom started (end_lsn_of (length transactions))

-- What was started stays so.
abbrev pub StaysStarted : Ear → Ear → Type 0
StaysStarted old new = (started : ℕ × ℕ) → ear_started old ≡ Some started → ear_started new ≡ Some started

-- A fault is in the bytes, and a start that was refused has its response.
pub record Faults (checked : CheckedOf) (known : BooksOf) (bytes : List ℕ) (started : Option (ℕ × ℕ))
    (response : List ℕ) (fault : LinkFault) : Type 0 where
  pub holds : HoldsFault checked known bytes started fault
  pub answered : IsAnswered checked known (frames_in bytes) response fault

-- an ear hears on, or a frame ended the connection, or there is a fault
abbrev pub IsExplained : CheckedOf → BooksOf → List ℕ → Ear → Result Heard LinkFault → Type 0
IsExplained checked known bytes ear (Ok heard) = GoesOnOrEnds checked known bytes ear heard.ended
IsExplained checked known bytes ear (Err fault) = Faults checked known bytes (ear_started ear) (ear_refusal ear) fault

-- With the last piece of these bytes the ear heard this.
pub record Hears (checked : CheckedOf) (known : BooksOf) (bytes : List ℕ) (old new : Ear)
    (heard : Result Heard LinkFault) : Type 0 where
  pub stays : StaysStarted old new
  pub asks : AsksIfStarted checked known (frames_in bytes) (ear_started new)
  pub explained : IsExplained checked known bytes new heard

-- So it is of each list of bytes that the ear had heard before the piece, by what its connection has then seen.
pub record HearsPiece (checked : CheckedOf) (was now : ViewerOf) (piece : List ℕ) (old new : Ear)
    (heard : Result Heard LinkFault) : Type 0 where
  pub each : (bytes : List ℕ) → HasHeard checked (books_seen was) bytes old
      → Hears checked (books_seen now) (bytes ++ piece) old new heard
