-- That the frames that a subscriber sends change what the publisher heard as they do in the world: PostgreSQL 15,
-- 55.4. Streaming Replication Protocol (START_REPLICATION, Standby status update).
use Rattle.std.specs.Prelude.{◌≡◌, ◌<◌, ◌≤◌, ◌^◌, ℕ, max, min, false, List, ◌++◌, All, fold, length, map, replicate, Option, Some, None}
use Rattle.pub_catalog.specs.declared.catalog.Subscription.{Subscription}
use Rattle.tables_log.specs.Lsn.{end_lsn_of}
use Rattle.tables_log.specs.Slots.{confirmed_at, start_fault}
use Rattle.copy_frames.specs.declared.status.Status.{Status}
use Rattle.copy_both.specs.Hearing.{HearingOf, ServedFrom, frame_heard, frames_heard, is_over}
use Rattle.copy_both.specs.Streams.{Move, Keep, first_sent}
use Rattle.stream_laws.specs.Asking.{CanAsk}
use Rattle.shard_world.specs.World.{Asks, Says, Session, hear_up, up_frame}

abbrev pub start_in : Option (ℕ × ℕ) → Option ℕ
start_in None = None
start_in (Some begun) = Some begun.1

-- What was heard as a session of the world, if these moves were made before. Each requested reply is a keepalive.
abbrev pub session_of : ℕ → ℕ → List Move → HearingOf → Session
session_of subscriber now moves h =
    record {
      confirmed = confirmed_at h.slots subscriber;
      start = start_in h.started;
      moves =
          moves ++ replicate h.heard.replies (Keep now false);
    }

abbrev pub IsOwn : ℕ → Option (ℕ × ℕ) → Type 0
IsOwn subscriber None = Unit {0}
IsOwn subscriber (Some begun) = begun.0 ≡ subscriber

-- the stream, if there is one, is that of the subscriber's slot, and neither a fault nor an end came
pub record IsHearing (subscriber : ℕ) (h : HearingOf) : Type 0 where
  pub own : IsOwn subscriber h.started
  pub is_there : subscriber < length h.slots
  pub goes_on : is_over h ≡ false

-- numbers of 64 bits, and a flushed position of at most this
pub record IsWithin (limit : ℕ) (status : Status) : Type 0 where
  pub written : status.written < 2 ^ 64
  pub flushed : status.flushed < 2 ^ 64
  pub applied : status.applied < 2 ^ 64
  pub clock : status.clock < 2 ^ 64
  pub reached : status.flushed ≤ limit

-- what was heard is as the world has it, and more can be heard
pub record IsHeard (subscriber now : ℕ) (moves : List Move) (h : HearingOf) (session : Session) : Type 0 where
  pub hearing : IsHearing subscriber h
  pub session_is : session_of subscriber now moves h ≡ session

-- the stream starts here, and so far nothing was sent
pub record IsBegun (subscriber start : ℕ) (h : HearingOf) : Type 0 where
  pub started : h.started ≡ Some (subscriber, start)
  pub sent : h.sent ≡ first_sent start

-- the command that requests the stream, if there is none yet
abbrev pub StartsAreHeard : Type 0
StartsAreHeard = (served : ServedFrom) (subscriber position now : ℕ) (subscription : Subscription) (moves : List Move)
    (h : HearingOf)
    → CanAsk served.checked.catalog subscriber subscription → position < 2 ^ 64
    → start_fault h.slots (end_lsn_of served.commits) subscriber position ≡ None
    → IsHearing subscriber h → h.started ≡ None
    → IsHeard subscriber now moves (frame_heard served h (up_frame served.checked subscriber (Asks position)))
    (hear_up now (session_of subscriber now moves h) (Asks position))
    × IsBegun subscriber (max position (confirmed_at h.slots subscriber))
    (frame_heard served h (up_frame served.checked subscriber (Asks position)))

-- Statuses, which report no more than what was sent and what the log has. Each that requests a reply has one.
abbrev pub StatusesAreHeard : Type 0
StatusesAreHeard = (served : ServedFrom) (subscriber start now : ℕ) (moves : List Move) (statuses : List Status)
    (h : HearingOf)
    → IsHearing subscriber h → h.started ≡ Some (subscriber, start)
    → All (IsWithin (min h.sent (end_lsn_of served.commits))) statuses
    → IsHeard subscriber now moves
    (frames_heard served h (map (up_frame served.checked subscriber) (map Says statuses)))
    (fold (hear_up now) (session_of subscriber now moves h) (map Says statuses))
