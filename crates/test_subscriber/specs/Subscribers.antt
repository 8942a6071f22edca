-- What is seen of a subscriber, and what its calls leave: PostgreSQL 15, 31.2. Subscription, and 55.4. Streaming
-- Replication Protocol.
use Rattle.std.specs.Prelude.{◌≡◌, ℕ, Bool, false, List, [], ◌++◌, drop, map, None, Result, Ok, Err}
use Rattle.std.specs.String.{string_bytes}
use Rattle.filter_tree.specs.Datum.{Datum}
use Rattle.copy_frames.specs.Contents.{copy_data, status_body}
use Rattle.copy_frames.specs.Frames.{FrameCut, cut, rest_of}
use Rattle.copy_frames.specs.declared.status.Status.{Status}
use Rattle.test_subscriber.specs.Copies.{sub_fault}
use Rattle.test_subscriber.specs.Feeding.{limit, hear_while, StopsFor}
use Rattle.test_subscriber.specs.Frames.{MachineHeard}
use Rattle.test_subscriber.specs.Machine.{Machine, Alike, lost, opened}
use Rattle.test_subscriber.specs.StartQuery.{start_query, Asks}
use Rattle.test_subscriber.specs.Views.{machine_view, copy_of, listed_in}
use Rattle.test_subscriber.specs.declared.fault.SubFault.{SubFault}
use Rattle.test_subscriber.specs.declared.fault.SubFault.TheVariants.{Closed}
use Rattle.test_subscriber.specs.declared.phase.Phase.{Phase}
use Rattle.test_subscriber.specs.declared.phase.Phase.TheVariants.{Shut, Waiting, Idle, Busy}
use Rattle.test_subscriber.specs.declared.subscriber.Subscriber.{Subscriber}

-- ---- what is seen of it

abbrev pub sub_machine : Subscriber → Machine
sub_machine subscriber = machine_view subscriber.replica

-- the bytes that came and are not a whole frame
abbrev pub sub_held : Subscriber → List ℕ
sub_held subscriber = subscriber.inbox.bytes

-- what waits to be sent
abbrev pub sub_output : Subscriber → List ℕ
sub_output subscriber = subscriber.output.items

abbrev pub sub_slot : Subscriber → List ℕ
sub_slot subscriber = string_bytes subscriber.slot

abbrev pub sub_publications : Subscriber → List (List ℕ)
sub_publications subscriber = map string_bytes subscriber.publications.items

-- its rows of the table with this OID, in the order of their keys
abbrev pub sub_listed : Subscriber → ℕ → List (List Datum)
sub_listed subscriber oid = listed_in (copy_of subscriber.replica.copies.items oid)

-- before its first connection
abbrev pub first_machine : Machine
first_machine = record {
  phase = Shut;
  position = 0;
  wants_reply = false;
  kept = λ oid. None;
  known = λ oid. false;
  rows = λ oid key. None;
  work = λ oid key. None;
}

-- ---- what calls leave

pub record SameNames (old new : Subscriber) : Type 0 where
  pub slot : sub_slot new ≡ sub_slot old
  pub publications : sub_publications new ≡ sub_publications old

-- there is no connection: nothing is half read, and nothing waits
pub record IsCleared (old new : Subscriber) : Type 0 where
  pub held : sub_held new ≡ []
  pub output : sub_output new ≡ []
  pub names : SameNames old new

pub record Loses (old new : Subscriber) : Type 0 where
  pub machine : Alike (sub_machine new) (lost (sub_machine old))
  pub cleared : IsCleared old new

-- the start is requested at its own position, and nothing else waits
pub record Opens (old new : Subscriber) : Type 0 where
  pub machine : Alike (sub_machine new) (opened (sub_machine old))
  pub held : sub_held new ≡ []
  pub output : Asks (start_query (sub_slot old) (sub_publications old) (sub_machine old).position) [] (sub_output new)
  pub names : SameNames old new

-- what is held, and the piece after it
abbrev pub fed_cut : Subscriber → List ℕ → FrameCut
fed_cut subscriber piece = cut limit (sub_held subscriber ++ piece)

abbrev pub fed_heard : Subscriber → List ℕ → MachineHeard
fed_heard subscriber piece =
    hear_while (sub_machine subscriber).phase (fed_cut subscriber piece) (sub_machine subscriber)

pub record Feeds (old : Subscriber) (piece : List ℕ) (new : Subscriber) : Type 0 where
  pub fault : (fed_heard old piece).fault ≡ None
  pub machine : Alike (sub_machine new) (fed_heard old piece).machine
  pub held : sub_held new ≡ rest_of (fed_cut old piece)
  pub output : sub_output new ≡ sub_output old
  pub names : SameNames old new

pub record FeedStops (old : Subscriber) (piece : List ℕ) (error : SubFault) (new : Subscriber) : Type 0 where
  pub machine : StopsFor (sub_fault error) (fed_heard old piece) (fed_cut old piece) (sub_machine old) (sub_machine new)
  pub cleared : IsCleared old new

-- ---- statuses

-- there must be a connection
abbrev pub status_answer : Phase → Result (Unit {0}) SubFault
status_answer Shut = Err Closed
status_answer Waiting = Ok tt
status_answer Idle = Ok tt
status_answer (Busy begin) = Ok tt

abbrev pub reported : Machine → Machine
reported machine = record machine { wants_reply = false }

-- all up to the position is written, flushed and applied
abbrev pub status_at : ℕ → ℕ → Bool → Status
status_at position clock want =
    record { written = position; flushed = position; applied = position; clock = clock; wants_reply = want }

pub record Reports (old : Subscriber) (clock : ℕ) (want : Bool) (new : Subscriber) : Type 0 where
  pub machine : Alike (sub_machine new) (reported (sub_machine old))
  pub held : sub_held new ≡ sub_held old
  pub output : sub_output new ≡ sub_output old
      ++ copy_data (status_body (status_at (sub_machine old).position clock want))
  pub names : SameNames old new

-- ---- output: this number of the first bytes that wait are dropped, or all

pub record Passes (old : Subscriber) (count : ℕ) (new : Subscriber) : Type 0 where
  pub machine : sub_machine new ≡ sub_machine old
  pub held : sub_held new ≡ sub_held old
  pub output : sub_output new ≡ drop count (sub_output old)
  pub names : SameNames old new
