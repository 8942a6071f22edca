-- What came of a connection that was served: which stream was started for it, what was written, and why it ended:
-- PostgreSQL 15, 55.4. Streaming Replication Protocol.
use Rattle.std.specs.Prelude.{◌≡◌, ◌≢◌, ◌⊎◌, ℕ, Bool, true, false, List, [], ◌++◌, All, length, Option, Some, None}
use Rattle.std.specs.Io.KnownBytes.{Appends, Consumes}
use Rattle.shard_checker.specs.CheckedView.{CheckedOf}
use Rattle.tables_log.specs.Commits.{CommitOf}
use Rattle.copy_frames.specs.Contents.{copy_done}
use Rattle.copy_frames.specs.declared.frame.Frame.{Frame}
use Rattle.copy_both.specs.HeardFrames.{AsksFor, BooksOf, HasEnd, IsRefusedStart, IsTerminated, Requests, SentNone, frames_in}
use Rattle.copy_both.specs.Refusals.{error_response}
use Rattle.copy_both.specs.Streams.{Move, stream}
use Rattle.tables_log.specs.Lsn.{commits_before}
use Rattle.copy_both.specs.Tellings.{telling_of}
use Rattle.copy_both.specs.VoiceLaws.{AreAt, Follow, takes_in}
use Rattle.copy_both.specs.declared.link_fault.LinkFault.{LinkFault}
use Rattle.copy_both.specs.declared.link_fault.LinkFault.TheVariants as fault
use Rattle.copy_both.specs.declared.sql_state.SqlState.{SqlState}
use Rattle.senders.specs.declared.end.End.{End}
use Rattle.senders.specs.declared.end.End.TheVariants as end
use Rattle.senders.specs.Confirming.{FitsEnd, ReportsIf}
use Rattle.senders.specs.Results.{ServedOf, book_seen, books_seen}
use Rattle.stream_laws.specs.LayoutRoom.{IsClocked}
use Rattle.senders.specs.Hearing.{HoldsFault, IsSilent}

-- ---- what was written

-- one list is the end of another
pub record IsTail (rest list : List ℕ) : Type 0 where
  pub front : List ℕ
  pub list_is : list ≡ front ++ rest

-- after a stream comes nothing, or CopyDone to a client that sent it
pub data IsAfterStream (frames : List Frame) (last : List ℕ) : Type 0 where
  Nothing : last ≡ [] → IsAfterStream frames last
  Done : last ≡ copy_done → HasEnd frames 99 → IsAfterStream frames last

-- The commits that were taken up follow one another from the start on, and what was written are the first bytes of
-- their stream, in each log that has them there; all but where the sink failed or memory was refused. Where the
-- publisher was finished they are the whole stream.
pub record IsStream (checked : CheckedOf) (known : BooksOf) (frames : List Frame) (slot start : ℕ)
    (taken : List CommitOf) (written : List ℕ) (failed : Bool) (why : End) : Type 0 where
  pub asks : AsksFor checked known frames slot start
  pub follow : Follow (commits_before start) taken
  pub moves : List Move
  pub clocks : All IsClocked moves
  pub takes : takes_in moves ≡ length taken
  pub rest : List ℕ
  pub last : List ℕ
  pub last_is : IsAfterStream frames last
  pub bytes : (log : List CommitOf) → AreAt log (commits_before start) taken
      → written ++ rest ≡ stream (telling_of checked) log slot (length checked.catalog.tables) start moves ++ last
  pub all : failed ≡ false → why ≢ end.Link fault.OutOfMemory → rest ≡ []
  pub whole : why ≡ end.Finished → IsTail rest last

-- The first bytes of the ErrorResponse to a start that was refused were written, all but where the sink failed.
pub record IsResponse (checked : CheckedOf) (known : BooksOf) (frames : List Frame) (state : SqlState)
    (written : List ℕ) (failed : Bool) : Type 0 where
  pub start : IsRefusedStart checked known frames state
  pub rest : List ℕ
  pub bytes : written ++ rest ≡ error_response start.refusal
  pub all : failed ≡ false → rest ≡ []

-- where no stream was started, nothing is written but the response to a start that was refused
abbrev pub IsUnstartedAnswer : CheckedOf → BooksOf → List Frame → List ℕ → Bool → End → Type 0
IsUnstartedAnswer checked known frames written failed (end.Link (fault.BadStart state)) =
    IsResponse checked known frames state written failed
IsUnstartedAnswer checked known frames written failed other = written ≡ []

pub record IsUnstarted (checked : CheckedOf) (known : BooksOf) (frames : List Frame) (taken : List CommitOf)
    (written : List ℕ) (failed : Bool) (why : End) : Type 0 where
  pub none : taken ≡ []
  pub answer : IsUnstartedAnswer checked known frames written failed why

-- A slot is reported together with a start. A start that was refused was refused by the last of the books.
abbrev pub IsWritten : CheckedOf → BooksOf → BooksOf → List Frame → Option ℕ → Option ℕ → List CommitOf → List ℕ → Bool
    → End → Type 0
IsWritten checked known last frames (Some slot) (Some start) taken written failed why =
    IsStream checked known frames slot start taken written failed why
IsWritten checked known last frames None None taken written failed why =
    IsUnstarted checked last frames taken written failed why
IsWritten checked known last frames (Some slot) None taken written failed why = ⊥
IsWritten checked known last frames None (Some start) taken written failed why = ⊥

-- ---- why it ended

-- what was started, if both are reported
abbrev pub started_of : Option ℕ → Option ℕ → Option (ℕ × ℕ)
started_of (Some slot) (Some start) = Some (slot, start)
started_of (Some slot) None = None
started_of None start = None

-- a frame ended the connection
pub record IsEnded (frames : List Frame) : Type 0 where
  pub kind : ℕ
  pub has : HasEnd frames kind

-- by the bytes that were read, and by what the source and the sink say of themselves
abbrev pub IsEndCause : CheckedOf → BooksOf → List ℕ → Option (ℕ × ℕ) → Bool → Bool → Bool → End → Type 0
IsEndCause checked known bytes started source_failed source_ended sink_failed end.ReadFault = source_failed ≡ true
IsEndCause checked known bytes started source_failed source_ended sink_failed end.WriteFault = sink_failed ≡ true
IsEndCause checked known bytes started source_failed source_ended sink_failed (end.Link fault) =
    HoldsFault checked known bytes started fault
IsEndCause checked known bytes started source_failed source_ended sink_failed end.Client =
    (source_ended ≡ true) ⊎ IsEnded (frames_in bytes)
IsEndCause checked known bytes started source_failed source_ended sink_failed end.Finished = Unit {0}

-- why its client ended a stream: there was nothing more to read, a frame of another kind than CopyDone ended it, or
-- CopyDone did, and was answered
pub data HasClientLeft (source_ended : Bool) (frames : List Frame) (written : List ℕ) : Type 0 where
  NoMore : source_ended ≡ true → HasClientLeft source_ended frames written
  Otherwise : (kind : ℕ) → HasEnd frames kind → kind ≢ 99 → HasClientLeft source_ended frames written
  Answered : IsTail copy_done written → HasClientLeft source_ended frames written

-- how far its client was heard, which has this fault or none: there was nothing more to read, the source failed, a frame
-- ended the connection, or the fault did; a CopyDone was answered, unless the sink failed
pub data IsHeardOut (frames : List Frame) (source_failed source_ended sink_failed : Bool) (written : List ℕ)
    (found : Option LinkFault) : Type 0 where
  AllRead : source_ended ≡ true → IsHeardOut frames source_failed source_ended sink_failed written found
  Broken : source_failed ≡ true → IsHeardOut frames source_failed source_ended sink_failed written found
  Parted : (kind : ℕ) → HasEnd frames kind → (kind ≡ 99 → sink_failed ≡ false → IsTail copy_done written)
      → IsHeardOut frames source_failed source_ended sink_failed written found
  Faulty : (fault : LinkFault) → found ≡ Some fault
      → IsHeardOut frames source_failed source_ended sink_failed written found

-- its client had sent no whole frame, or Terminate first, or a start that was refused, unless memory was refused
abbrev pub HasAskedNothing : List ℕ → End → Type 0
HasAskedNothing bytes end.Client = IsSilent bytes ⊎ IsTerminated (frames_in bytes)
HasAskedNothing bytes end.ReadFault = IsSilent bytes
HasAskedNothing bytes end.WriteFault = ⊥
HasAskedNothing bytes end.Finished = ⊥
HasAskedNothing bytes (end.Link fault) = SentNone (frames_in bytes) fault

-- ---- all of it

-- What came of a connection from which these bytes were read. Starts are those of a book that the publisher has had, and
-- a start is refused by the book that it had when the connection had seen just what it has seen in the end. If it says that its client requested the position where the stream starts, the first frame does.
-- It reports the greatest position that the statuses that were heard confirm. If it reports a fault of what the client
-- sent, other than out of memory, the bytes have it, and a fault that is reported as the end is that one. If it was
-- finished, its client was heard out; and if no stream was started, its client had requested none.
pub record IsServedFor (checked : CheckedOf) (bytes : List ℕ) (source_failed source_ended : Bool)
    (before after : Option (List ℕ)) (sink_failed : Bool) (served : ServedOf) : Type 0 where
  pub written : List ℕ
  pub put : Appends before after written
  pub is : IsWritten checked (books_seen served.viewer) (book_seen served.viewer) (frames_in bytes) served.slot
      served.start served.taken written sink_failed served.end
  pub cause : IsEndCause checked (books_seen served.viewer) bytes (started_of served.slot served.start) source_failed
      source_ended sink_failed served.end
  pub requested : (slot start : ℕ) → served.slot ≡ Some slot → served.start ≡ Some start
      → served.is_requested ≡ true → Requests (frames_in bytes) slot start
  pub reports : ReportsIf (started_of served.slot served.start) served.number served.viewer.events bytes served.fault
      served.confirmed
  pub fault : (found : LinkFault) → served.fault ≡ Some found
      → HoldsFault checked (books_seen served.viewer) bytes (started_of served.slot served.start) found
  pub fits : FitsEnd served.end served.fault
  pub asked : served.slot ≡ None → HasAskedNothing bytes served.end
  pub heard : (slot : ℕ) → served.slot ≡ Some slot → served.end ≡ end.Finished
      → IsHeardOut (frames_in bytes) source_failed source_ended sink_failed written served.fault
  pub left : (slot : ℕ) → served.slot ≡ Some slot → sink_failed ≡ false → served.end ≡ end.Client
      → HasClientLeft source_ended (frames_in bytes) written

-- If a stream was started, no response to a refused start was pushed. So each push of bytes had the permit of the slot.
abbrev pub IsPermitted : Bool → Bool → ServedOf → Type 0
IsPermitted was_refused refused served = (slot : ℕ) → served.slot ≡ Some slot → refused ≡ was_refused

-- The source gave some bytes, and this came of them.
pub record IsServed (checked : CheckedOf) (left now_left : Option (List ℕ)) (source_failed source_ended : Bool)
    (before after : Option (List ℕ)) (sink_failed : Bool) (served : ServedOf) : Type 0 where
  pub bytes : List ℕ
  pub read : Consumes left now_left bytes
  pub served_for : IsServedFor checked bytes source_failed source_ended before after sink_failed served
