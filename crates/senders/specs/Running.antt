-- What a connection whose stream has started wrote, whatever was read from it: PostgreSQL 15, 55.4. Streaming
-- Replication Protocol.
use Rattle.std.specs.Prelude.{◌≡◌, ◌≢◌, ℕ, Bool, true, false, List, [], ◌++◌, All, length, Option, Some, None}
use Rattle.std.specs.Io.KnownBytes.{Appends}
use Rattle.shard_checker.specs.CheckedView.{CheckedOf}
use Rattle.tables_log.specs.Commits.{CommitOf}
use Rattle.copy_frames.specs.Contents.{copy_done}
use Rattle.copy_both.specs.Streams.{Move, stream}
use Rattle.tables_log.specs.Lsn.{commits_before}
use Rattle.copy_both.specs.Tellings.{telling_of}
use Rattle.copy_both.specs.VoiceLaws.{AreAt, Follow, takes_in}
use Rattle.copy_both.specs.declared.link_fault.LinkFault.{LinkFault}
use Rattle.copy_both.specs.declared.link_fault.LinkFault.TheVariants as fault
use Rattle.senders.specs.declared.end.End.{End}
use Rattle.senders.specs.declared.end.End.TheVariants as end
use Rattle.senders.specs.declared.outcome.Outcome.{Outcome}
use Rattle.copy_both.specs.Ears.{ear_refusal}
use Rattle.publisher_desk.specs.Sights.{StartsWith}
use Rattle.publisher_desk.specs.Viewers.{HasReleased, SeesMore, ViewerOf, new_viewer}
use Rattle.stream_laws.specs.LayoutRoom.{IsClocked}
use Rattle.senders.specs.Causes.{chosen}
use Rattle.senders.specs.Listening.{EndsAt, HearsAll, StartsOn}
use Rattle.senders.specs.Refusing.{AnswersAs, cause_by, fault_by, fault_after}
use Rattle.senders.specs.Results.{commits_of}
use Rattle.senders.specs.Sending.{TakesLogged}
use Rattle.senders.specs.Serving.{IsTail}
use Rattle.senders.specs.Speaking.{IsSaid, SaysLast}
use Rattle.senders.specs.declared.listener_end.ListenerEnd.{ListenerEnd}
use Rattle.senders.specs.declared.listener_end.ListenerEnd.TheVariants as listener_end
use Rattle.senders.specs.declared.listener.Listener.{Listener}
use Rattle.senders.specs.declared.running.Sent.{Sent}
use Rattle.senders.specs.declared.sender_end.SenderEnd.{SenderEnd}

-- No commit was taken up.
pub record IsWithout (slot start : ℕ) (found : Option LinkFault) (is : End) (outcome : Outcome) : Type 0 where
  pub slot_is : outcome.slot ≡ Some slot
  pub start_is : outcome.start ≡ Some start
  pub none : outcome.taken.items ≡ []
  pub end_is : outcome.end ≡ is
  pub fault_is : outcome.fault ≡ found

-- The last frame was said, and the first cause is reported.
pub record Concludes (slot start : ℕ) (sent : Sent) (why : Option ListenerEnd) (before after : Option (List ℕ))
    (was_failed failed : Bool) (outcome : Outcome) : Type 0 where
  pub slot_is : outcome.slot ≡ Some slot
  pub start_is : outcome.start ≡ Some start
  pub taken_is : outcome.taken ≡ sent.taken
  pub stop : SenderEnd
  pub end_is : outcome.end ≡ chosen stop sent.is_first why
  pub fault_is : outcome.fault ≡ fault_after why
  pub says : SaysLast sent.stop stop why before after was_failed failed

-- the sink failed, memory was refused, all was taken up and the client heard to its end, or the listener ended so
pub data IsEndOf (why : Option ListenerEnd) (failed : Bool) (is : End) : Type 0 where
  Writing : is ≡ end.WriteFault → failed ≡ true → IsEndOf why failed is
  Memory : is ≡ end.Link fault.OutOfMemory → IsEndOf why failed is
  Whole : (ending : ListenerEnd) → why ≡ Some ending → is ≡ end.Finished → IsEndOf why failed is
  Heard : (ending : ListenerEnd) → why ≡ Some ending → is ≡ cause_by ending → IsEndOf why failed is

-- What was written is a first part of the stream of the commits that were taken up, and then of what was said last.
pub record Streams (checked : CheckedOf) (slot start : ℕ) (before after : Option (List ℕ)) (failed : Bool)
    (why : Option ListenerEnd) (outcome : Outcome) : Type 0 where
  pub slot_is : outcome.slot ≡ Some slot
  pub start_is : outcome.start ≡ Some start
  pub written : List ℕ
  pub put : Appends before after written
  pub follow : Follow (commits_before start) (commits_of outcome)
  pub moves : List Move
  pub clocks : All IsClocked moves
  pub takes : takes_in moves ≡ length (commits_of outcome)
  pub rest : List ℕ
  pub last : List ℕ
  pub said : IsSaid why last
  pub bytes : (log : List CommitOf) → AreAt log (commits_before start) (commits_of outcome)
      → written ++ rest ≡ stream (telling_of checked) log slot (length checked.catalog.tables) start moves ++ last
  pub all : failed ≡ false → outcome.end ≢ end.Link fault.OutOfMemory → rest ≡ []
  pub whole : outcome.end ≡ end.Finished → IsTail rest last
  pub answered : failed ≡ false → outcome.end ≢ end.Link fault.OutOfMemory → why ≡ Some (listener_end.Frame 99)
      → IsTail copy_done written
  pub ends : IsEndOf why failed outcome.end
  pub fault_is : outcome.fault ≡ fault_after why
  pub refused : why ≡ Some (listener_end.Fault fault.OutOfMemory) → outcome.end ≡ end.Link fault.OutOfMemory

-- It was heard meanwhile.
pub record RunsOn (checked : CheckedOf) (was now : ViewerOf) (slot start : ℕ) (left now_left : Option (List ℕ))
    (source_failed source_ended : Bool) (before after : Option (List ℕ)) (sink_failed : Bool)
    (old new : Listener) (outcome : Outcome) : Type 0 where
  pub why : Option ListenerEnd
  pub hears : HearsAll checked was now left now_left source_failed source_ended old new why
  pub streams : Streams checked slot start before after sink_failed why outcome

-- ---- all of it, until the slot is released

-- The connection ended before a stream started, in the piece that started it, or later. `sender` is what the sender has
-- then seen.
pub data ServesOut (checked : CheckedOf) (was now : ViewerOf) (left now_left : Option (List ℕ))
    (source_failed source_ended : Bool) (before after : Option (List ℕ)) (sink_failed : Bool) (old new : Listener)
    (sender : ViewerOf) (outcome : Outcome) : Type 0 where
  Unstarted : (why : ListenerEnd) → EndsAt checked was now left now_left source_failed source_ended old new None why
      → AnswersAs why before after sink_failed (ear_refusal new.ear) → outcome.slot ≡ None → outcome.start ≡ None
      → outcome.taken.items ≡ [] → outcome.end ≡ cause_by why → outcome.fault ≡ fault_by why
      → ServesOut checked was now left now_left source_failed source_ended before after sink_failed old new sender
      outcome
  EndedAtOnce : (started : ℕ × ℕ) (why : ListenerEnd)
      → EndsAt checked was now left now_left source_failed source_ended old new (Some started) why
      → Streams checked started.0 started.1 before after sink_failed (Some why) outcome
      → TakesLogged checked new_viewer sender (commits_of outcome)
      → ServesOut checked was now left now_left source_failed source_ended before after sink_failed old new sender
      outcome
  Streamed : (started : ℕ × ℕ) (between : ViewerOf) (middle_left : Option (List ℕ)) (middle : Listener)
      → StartsOn checked was between left middle_left old middle started
      → RunsOn checked between now started.0 started.1 middle_left now_left source_failed source_ended before after
      sink_failed middle new outcome
      → TakesLogged checked new_viewer sender (commits_of outcome)
      → ServesOut checked was now left now_left source_failed source_ended before after sink_failed old new sender
      outcome

-- A connection that has a slot, whose client was sent the log up to here, has then seen what its sender has seen, and
-- releases it.
abbrev pub ReleasesIf : Option ℕ → ℕ → ViewerOf → ViewerOf → ViewerOf → Type 0
ReleasesIf None sent old sender new = (new ≡ old) × (sent ≡ 0)
ReleasesIf (Some slot) sent old sender new =
    HasReleased sent old new × SeesMore old new × StartsWith new.seen sender.seen
