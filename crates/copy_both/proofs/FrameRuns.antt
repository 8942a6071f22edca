-- What frames that are heard one after another do: which one starts the stream, has a fault or ends it.
use Rattle.std.proofs.Common.{◌≡◌, ℕ, ◌<◌, ◌==◌, min, Bool, true, false, if◌then◌else◌, List, [], ◌∷◌, ◌++◌, length, refl, sym, ap, subst, ◌∙◌, append_assoc}
use Rattle.std.specs.Prelude.{Option, Some, None, Result, Ok, Err, nat_lt, slice_get}
use Rattle.std.proofs.lemmas.Bool.{eqb-true, ltb-true}
use Rattle.shard_checker.specs.CheckedView.{CheckedOf}
use Rattle.tables_log.specs.BookView.{book_log, book_slots}
use Rattle.tables_log.specs.Lsn.{end_lsn_of}
use Rattle.tables_log.specs.declared.book.Book.{Book}
use Rattle.tables_log.specs.declared.slots.Slot.{Slot}
use Rattle.copy_frames.specs.Contents.{status_in}
use Rattle.copy_frames.specs.declared.frame.Frame.{Frame}
use Rattle.copy_frames.specs.declared.status.Status.{Status}
use Rattle.copy_both.specs.Events.{read_event, status_event, headed_event, data_event, is_end, event_of}
use Rattle.copy_both.specs.HeardFrames.{IsFirst, IsAmong, IsLater, IsBookFor, begin_with, AsksFor, AsksIfStarted, BooksOf, IsStartedBy, HasEnd, IsTerminated, Terminates, Ends, HasBadFrame, IsRefusedStart, IsAnsweredStart, IsStatus, HasStatusAhead, sent_then}
use Rattle.copy_both.specs.Hearing.{HearingOf, ServedFrom, BeginOf, Begins, Refuses, begin_by, begin_of, begun, confirmed_by, ended_by, event_heard, frame_heard, frames_heard, is_over, is_over_by, next_heard, offer_in, unless_over, with_fault}
use Rattle.copy_both.specs.Refusals.{ExpectedQuery, error_response, state_of}
use Rattle.copy_both.specs.StartAnswers.{Refused, asked_in, asked_of, text_of_query}
use Rattle.copy_both.specs.declared.event.Event.{Event}
use Rattle.copy_both.specs.declared.event.Event.TheVariants as event
use Rattle.copy_both.specs.declared.link_fault.LinkFault.{LinkFault}
use Rattle.copy_both.specs.declared.link_fault.LinkFault.TheVariants as fault
use Rattle.copy_both.specs.declared.sql_state.SqlState.{SqlState}
use Rattle.copy_both.specs.Streams.{first_sent}
use Rattle.copy_both.proofs.HearingLemmas.{over_stays}
use Rattle.copy_both.proofs.LinkLemmas.{frames_started}
use Rattle.filter_tree.proofs.Tests.{by_test}

-- ---- over, or not

pub fault_over : (f : Option LinkFault) (kind : Option ℕ) → is_over_by f kind ≡ false → f ≡ None
fault_over None kind going = refl
fault_over (Some f) kind going = absurd cc

pub end_over : (f : Option LinkFault) (kind : Option ℕ) → is_over_by f kind ≡ false → kind ≡ None
end_over None None going = refl
end_over None (Some kind) going = absurd cc
end_over (Some f) kind going = absurd cc

pub over_by_end : (f : Option LinkFault) (kind : ℕ) → is_over_by f (Some kind) ≡ true
over_by_end None kind = refl
over_by_end (Some f) kind = refl

-- ---- events

data_status : (body : List ℕ) (found : Option Status) (status : Status) → read_event found ≡ Ok (event.Status status)
    → found ≡ Some status
data_status body None status is = absurd cc
data_status body (Some other) status is = let same : other ≡ status = cc in ap Some same

headed_status : (head : Option ℕ) (body : List ℕ) (status : Status) → headed_event head body ≡ Ok (event.Status status)
    → (head ≡ Some 114) × (status_in body ≡ Some status)
headed_status None body status is = absurd cc
headed_status (Some byte) body status is = by_test (byte == 114)
    (λ yes. (
      ap Some (eqb-true byte 114 yes),
      data_status body (status_in body) status
          (sym (ap (λ b. if b then status_event body else Err (fault.Unexpected byte)) yes) ∙ is),
    ))
    (λ no. absurd (let wrong : Err (fault.Unexpected byte) ≡ Ok (event.Status status) =
    sym (ap (λ b. if b then status_event body else Err (fault.Unexpected byte)) no) ∙ is in cc))

-- what is at the end of the tests
abbrev other_event : ℕ → Bool → Result Event LinkFault
other_event kind ends = if ends then Ok (event.End kind) else Err (fault.Unexpected kind)

other_status : (kind : ℕ) (ends : Bool) (status : Status) → other_event kind ends ≡ Ok (event.Status status) → ⊥
other_status kind true status is = cc
other_status kind false status is = cc

pub status_event_is : (frame : Frame) (status : Status) → event_of frame.kind frame.body ≡ Ok (event.Status status)
    → IsStatus frame status
status_event_is frame status is = by_test (frame.kind == 100)
    (λ yes.
    let data_is : data_event frame.body ≡ Ok (event.Status status) =
    sym (ap (λ b. if b then data_event frame.body else other_event frame.kind (is_end frame.kind)) yes) ∙ is in
    let both = headed_status (slice_get frame.body 0) frame.body status data_is in
    record { data_is = eqb-true frame.kind 100 yes; head = both.0; read = both.1 })
    (λ no. absurd (other_status frame.kind (is_end frame.kind) status
    (sym (ap (λ b. if b then data_event frame.body else other_event frame.kind (is_end frame.kind)) no) ∙ is)))

read_end : (found : Option Status) (kind : ℕ) → read_event found ≡ Ok (event.End kind) → ⊥
read_end None kind is = cc
read_end (Some status) kind is = cc

headed_end : (head : Option ℕ) (body : List ℕ) (kind : ℕ) → headed_event head body ≡ Ok (event.End kind) → ⊥
headed_end None body kind is = cc
headed_end (Some byte) body kind is = by_test (byte == 114)
    (λ yes. read_end (status_in body) kind
    (sym (ap (λ b. if b then status_event body else Err (fault.Unexpected byte)) yes) ∙ is))
    (λ no. let wrong : Err (fault.Unexpected byte) ≡ Ok (event.End kind) =
    sym (ap (λ b. if b then status_event body else Err (fault.Unexpected byte)) no) ∙ is in cc)

other_end : (of : ℕ) (ends : Bool) (kind : ℕ) → other_event of ends ≡ Ok (event.End kind) → (of ≡ kind) × (ends ≡ true)
other_end of true kind is = (cc, refl)
other_end of false kind is = absurd cc

pub end_event_is : (frame : Frame) (kind : ℕ) → event_of frame.kind frame.body ≡ Ok (event.End kind)
    → (frame.kind ≡ kind) × (is_end kind ≡ true)
end_event_is frame kind is = by_test (frame.kind == 100)
    (λ yes. absurd (headed_end (slice_get frame.body 0) frame.body kind
    (sym (ap (λ b. if b then data_event frame.body else other_event frame.kind (is_end frame.kind)) yes) ∙ is)))
    (λ no.
    let both = other_end frame.kind (is_end frame.kind) kind
    (sym (ap (λ b. if b then data_event frame.body else other_event frame.kind (is_end frame.kind)) no) ∙ is) in
    (both.0, sym (ap is_end both.0) ∙ both.1))

-- the faults that an event has
abbrev pub IsEventFault : LinkFault → Type 0
IsEventFault fault.BadLength = Unit {0}
IsEventFault (fault.Unexpected byte) = Unit {0}
IsEventFault other = ⊥

abbrev FailsSo : Result Event LinkFault → Type 0
FailsSo (Ok e) = Unit {0}
FailsSo (Err f) = IsEventFault f

fails_if : (b : Bool) (one other : Result Event LinkFault) → FailsSo one → FailsSo other
    → FailsSo (if b then one else other)
fails_if true one other first second = first
fails_if false one other first second = second

read_fails : (found : Option Status) → FailsSo (read_event found)
read_fails None = tt
read_fails (Some status) = tt

headed_fails : (head : Option ℕ) (body : List ℕ) → FailsSo (headed_event head body)
headed_fails None body = tt
headed_fails (Some byte) body =
    fails_if (byte == 114) (status_event body) (Err (fault.Unexpected byte)) (read_fails (status_in body)) tt

event_fails : (frame : Frame) → FailsSo (event_of frame.kind frame.body)
event_fails frame =
    fails_if (frame.kind == 100) (data_event frame.body) (other_event frame.kind (is_end frame.kind))
    (headed_fails (slice_get frame.body 0) frame.body)
    (fails_if (is_end frame.kind) (Ok (event.End frame.kind)) (Err (fault.Unexpected frame.kind)) tt tt)

pub event_fault : (frame : Frame) (f : LinkFault) → event_of frame.kind frame.body ≡ Err f → IsEventFault f
event_fault frame f is = let P : Result Event LinkFault → Type 0 = FailsSo in subst P is (event_fails frame)

-- ---- frames after the first

pub record FaultAmong (frames : List Frame) (f : LinkFault) : Type 0 where
  pub frame : Frame
  pub among : IsAmong frame frames
  pub fails : event_of frame.kind frame.body ≡ Err f

pub record AheadAmong (frames : List Frame) (reach : ℕ) : Type 0 where
  pub frame : Frame
  pub among : IsAmong frame frames
  pub status : Status
  pub is_status : IsStatus frame status
  pub ahead : reach < status.flushed

pub record EndAmong (frames : List Frame) (kind : ℕ) : Type 0 where
  pub frame : Frame
  pub among : IsAmong frame frames
  pub kind_is : frame.kind ≡ kind
  pub ends : is_end kind ≡ true

-- the result of frames while a stream runs
pub data Later (reach : ℕ) (frames : List Frame) (last : HearingOf) : Type 0 where
  GoesOn : is_over last ≡ false → Later reach frames last
  Faulty : (f : LinkFault) → FaultAmong frames f → last.fault ≡ Some f → Later reach frames last
  Ahead : AheadAmong frames reach → last.fault ≡ Some fault.StatusAhead → Later reach frames last
  Ended : (kind : ℕ) → EndAmong frames kind → last.fault ≡ None → last.heard.ended ≡ Some kind → Later reach frames last

among_more : (before : List Frame) (frame : Frame) (frames : List Frame) → IsAmong frame frames
    → IsAmong frame (before ++ frames)
among_more before frame frames among = record {
  before = before ++ among.before;
  after = among.after;
  frames_are = ap (λ (x : List Frame). before ++ x) among.frames_are
      ∙ sym (append_assoc before among.before (frame ∷ among.after));
}

here : (frame : Frame) (frames : List Frame) → IsAmong frame (frame ∷ frames)
here frame frames = record { before = []; after = frames; frames_are = refl }

pub later_more : (reach : ℕ) (before frames : List Frame) (last : HearingOf) → Later reach frames last
    → Later reach (before ++ frames) last
later_more reach before frames last (GoesOn going) = GoesOn going
later_more reach before frames last (Faulty f bad is) =
    Faulty f (record { frame = bad.frame; among = among_more before bad.frame frames bad.among; fails = bad.fails }) is
later_more reach before frames last (Ahead says is) =
    Ahead (record {
      frame = says.frame;
      among = among_more before says.frame frames says.among;
      status =
          says.status;
      is_status = says.is_status;
      ahead = says.ahead;
    }) is
later_more reach before frames last (Ended kind ends none is) =
    Ended kind (record {
      frame = ends.frame;
      among = among_more before ends.frame frames ends.among;
      kind_is =
          ends.kind_is;
      ends = ends.ends;
    }) none is

module _ (served : ServedFrom) (slot : ℕ) (frame : Frame) (frames : List Frame) (h : HearingOf)
    (going : is_over h ≡ false)
    (runs : (next : HearingOf) → next.started ≡ h.started → is_over next ≡ false → next.sent ≡ h.sent
    → Later (min h.sent (end_lsn_of served.commits)) frames (frames_heard served next frames)) where
  abbrev reach : ℕ
  reach = min h.sent (end_lsn_of served.commits)

  by_ahead : (status : Status) → IsStatus frame status → (ahead : Bool) → nat_lt reach status.flushed ≡ ahead
      → Later reach (frame ∷ frames) (frames_heard served (confirmed_by ahead slot status h) frames)
  by_ahead status is_status true is = Ahead (record {
    frame = frame;
    among = here frame frames;
    status = status;
    is_status = is_status;
    ahead = ltb-true reach status.flushed is;
  }) (ap (λ (x : HearingOf). x.fault) (over_stays served (with_fault fault.StatusAhead h) frames refl))
  by_ahead status is_status false is =
      later_more reach (frame ∷ []) frames (frames_heard served (confirmed_by false slot status h) frames)
      (runs (confirmed_by false slot status h) refl going refl)

  by_event : (e : Result Event LinkFault) → event_of frame.kind frame.body ≡ e
      → Later reach (frame ∷ frames) (frames_heard served (event_heard served slot e h) frames)
  by_event (Err f) is =
      Faulty f (record { frame = frame; among = here frame frames; fails = is })
      (ap (λ (x : HearingOf). x.fault) (over_stays served (with_fault f h) frames refl))
  by_event (Ok (event.End kind)) is =
      let stays : frames_heard served (ended_by kind h) frames ≡ ended_by kind h =
      over_stays served (ended_by kind h) frames (over_by_end h.fault kind) in
      let its = end_event_is frame kind is in
      Ended kind (record { frame = frame; among = here frame frames; kind_is = its.0; ends = its.1 })
      (ap (λ (x : HearingOf). x.fault) stays ∙ fault_over h.fault h.heard.ended going)
      (ap (λ (x : HearingOf). x.heard.ended) stays)
  by_event (Ok (event.Status status)) is =
      by_ahead status (status_event_is frame status is) (nat_lt reach status.flushed) refl

pub later_runs : (served : ServedFrom) (slot start : ℕ) (frames : List Frame) (h : HearingOf)
    → h.started ≡ Some (slot, start) → is_over h ≡ false
    → Later (min h.sent (end_lsn_of served.commits)) frames (frames_heard served h frames)
unfolding frames_heard
later_runs served slot start [] h is going = GoesOn going
later_runs served slot start (frame ∷ frames) h is going =
    let step : frame_heard served h frame ≡ event_heard served slot (event_of frame.kind frame.body) h =
    ap (λ over. unless_over over h (next_heard served frame h.started h)) going
    ∙ ap (λ (s : Option (ℕ × ℕ)). next_heard served frame s h) is in
    subst (λ (next : HearingOf). Later (min h.sent (end_lsn_of served.commits)) (frame ∷ frames)
    (frames_heard served next frames)) (sym step)
    (by_event served slot frame frames h going
    (λ next same still sent. subst
    (λ (n : ℕ). Later (min n (end_lsn_of served.commits)) frames (frames_heard served next frames)) sent
    (later_runs served slot start frames next (same ∙ is) still))
    (event_of frame.kind frame.body) refl)

-- ---- the first frame

-- a stream starts by a Query
pub query_of : (served : ServedFrom) (slots : List Slot) (kind : ℕ) (body : List ℕ) (slot start : ℕ)
    → begin_of served slots kind body ≡ Begins slot start → kind ≡ 81
unfolding begin_of asked_of
query_of served slots kind body slot start is = by_test (kind == 81)
    (λ yes. eqb-true kind 81 yes)
    (λ no. absurd (let wrong : Refuses ExpectedQuery ≡ Begins slot start =
    sym (ap (λ b. begin_by served slots
    (if b then asked_in (offer_in served) (text_of_query body) else Refused ExpectedQuery)) no) ∙ is in cc))

-- the result of all frames
pub data Comes (checked : CheckedOf) (known : BooksOf) (frames : List Frame) (reach : ℕ) (last : HearingOf) : Type 0 where
  Comes_on : is_over last ≡ false → IsStartedBy checked known frames last.started → Comes checked known frames reach last
  Comes_bad : (f : LinkFault) → HasBadFrame frames f → (last.started ≡ None → ⊥) → last.fault ≡ Some f
      → Comes checked known frames reach last
  Comes_refused : (state : SqlState) → IsAnsweredStart checked known frames state last.response
      → last.fault ≡ Some (fault.BadStart state) → Comes checked known frames reach last
  Comes_ahead : HasStatusAhead frames reach → (last.started ≡ None → ⊥) → last.fault ≡ Some fault.StatusAhead
      → Comes checked known frames reach last
  Comes_ended : (kind : ℕ) → HasEnd frames kind → (last.started ≡ None → IsTerminated frames) → last.fault ≡ None
      → last.heard.ended ≡ Some kind → Comes checked known frames reach last

-- and what is known of the start
pub record Ran (checked : CheckedOf) (known : BooksOf) (frames : List Frame) (reach : ℕ) (last : HearingOf) : Type 0 where
  pub asks : AsksIfStarted checked known frames last.started
  pub comes : Comes checked known frames reach last

later_in : (frame first : Frame) (others frames : List Frame) → frames ≡ first ∷ others → IsAmong frame others
    → IsLater frame frames
later_in frame first others frames are among =
    record { first = first; others = others; frames_are = are; among = among }

from_later : (checked : CheckedOf) (known : BooksOf) (first : Frame) (others frames : List Frame) (reach : ℕ) (last : HearingOf)
    (slot start : ℕ) → frames ≡ first ∷ others
    → AsksFor checked known frames slot start → last.started ≡ Some (slot, start) → Later reach others last
    → Ran checked known frames reach last
from_later checked known first others frames reach last slot start are asks is later = record {
  asks = subst (AsksIfStarted checked known frames) (sym is) asks;
  comes = by_later later;
}
  where
    goes : last.started ≡ None → ⊥
    goes none = let both : Some (slot, start) ≡ None = sym is ∙ none in cc

    by_later : Later reach others last → Comes checked known frames reach last
    by_later (GoesOn going) = Comes_on going (subst (IsStartedBy checked known frames) (sym is) asks)
    by_later (Faulty f bad fails) =
        Comes_bad f (record {
          frame = bad.frame;
          later = later_in bad.frame first others frames are bad.among;
          fails =
              bad.fails;
        }) goes fails
    by_later (Ahead says fails) =
        Comes_ahead (record {
          frame = says.frame;
          later =
              later_in says.frame first others frames are says.among;
          status = says.status;
          is_status =
              says.is_status;
          ahead = says.ahead;
        }) goes fails
    by_later (Ended kind ends none so) =
        Comes_ended kind (Ends ends.frame (later_in ends.frame first others frames are ends.among) ends.kind_is
        ends.ends) (λ no. absurd (goes no)) none so

-- ---- all frames

asks_more : (checked : CheckedOf) (known : BooksOf) (frames more : List Frame) (slot start : ℕ) → AsksFor checked known frames slot start
    → AsksFor checked known (frames ++ more) slot start
asks_more checked known frames more slot start asks = record {
  frame = asks.frame;
  first = record {
    others = asks.first.others ++ more;
    frames_are =
        ap (λ (x : List Frame). x ++ more) asks.first.frames_are;
  };
  query = asks.query;
  book = asks.book;
  is = asks.is;
  begins = asks.begins;
}

pub asks_if_more : (checked : CheckedOf) (known : BooksOf) (frames more : List Frame) (started : Option (ℕ × ℕ))
    → AsksIfStarted checked known frames started
    → AsksIfStarted checked known (frames ++ more) started
asks_if_more checked known frames more None asks = tt
asks_if_more checked known frames more (Some started) asks = asks_more checked known frames more started.0 started.1 asks

is_first : (frame : Frame) (frames : List Frame) → IsFirst frame (frame ∷ frames)
is_first frame frames = record { others = frames; frames_are = refl }

module _ (checked : CheckedOf) (known : BooksOf) (book : Book) (is_for : IsBookFor checked known book) where
  abbrev lent : ServedFrom
  lent = record { checked = checked; commits = length (book_log book) }

  abbrev RanFrom : List Frame → Option (ℕ × ℕ) → ℕ → HearingOf → Type 0
  RanFrom frames was sent last =
      Ran checked known frames (min (sent_then was sent last.started) (end_lsn_of (length (book_log book)))) last

  first_begins : (frame : Frame) (frames : List Frame) (h : HearingOf) → h.started ≡ None → is_over h ≡ false
      → h.response ≡ [] → frame.kind == 88 ≡ false → (b : BeginOf) → begin_with checked book frame ≡ b
      → RanFrom (frame ∷ frames) None h.sent (frames_heard lent (begun b h) frames)
  first_begins frame frames h none going silent other (Begins slot start) is =
      let next : HearingOf = begun (Begins slot start) h in
      let last : HearingOf = frames_heard lent next frames in
      let still : last.started ≡ Some (slot, start) = frames_started lent next frames (slot, start) refl in
      let asks : AsksFor checked known (frame ∷ frames) slot start = record {
        frame = frame;
        first = is_first frame frames;
        query = query_of lent (book_slots book) frame.kind frame.body slot start is;
        book = book;
        is = is_for;
        begins = is;
      } in
      subst (λ (s : Option (ℕ × ℕ)). Ran checked known (frame ∷ frames)
      (min (sent_then None h.sent s) (end_lsn_of (length (book_log book)))) last) (sym still)
      (from_later checked known frame frames (frame ∷ frames) (min (first_sent start) (end_lsn_of (length (book_log book))))
      last slot start refl asks still
      (later_runs lent slot start frames next refl going))
  first_begins frame frames h none going silent other (Refuses refusal) is =
      let next : HearingOf = begun (Refuses refusal) h in
      let stays : frames_heard lent next frames ≡ next = over_stays lent next frames refl in
      let refused : IsRefusedStart checked known (frame ∷ frames) (state_of refusal) = record {
        frame = frame;
        first = is_first frame frames;
        book = book;
        is = is_for;
        refusal = refusal;
        no_end = other;
        refuses = is;
        state_is = refl;
      } in
      record {
        asks = subst (AsksIfStarted checked known (frame ∷ frames)) (sym (ap (λ (x : HearingOf). x.started) stays ∙ none)) tt;
        comes = Comes_refused (state_of refusal) (record {
          refused = refused;
          response_is = ap (λ (x : HearingOf). x.response) stays
              ∙ ap (λ (x : List ℕ). x ++ error_response refusal) silent;
        }) (ap (λ (x : HearingOf). x.fault) stays);
      }

  first_ends : (frame : Frame) (frames : List Frame) (h : HearingOf) → h.started ≡ None → is_over h ≡ false
      → frame.kind ≡ 88 → RanFrom (frame ∷ frames) None h.sent (frames_heard lent (ended_by 88 h) frames)
  first_ends frame frames h none going is =
      let stays : frames_heard lent (ended_by 88 h) frames ≡ ended_by 88 h =
      over_stays lent (ended_by 88 h) frames (over_by_end h.fault 88) in
      record {
        asks = subst (AsksIfStarted checked known (frame ∷ frames)) (sym (ap (λ (x : HearingOf). x.started) stays ∙ none)) tt;
        comes =
            Comes_ended 88 (Terminates frame (is_first frame frames) is refl)
            (λ no. record { frame = frame; first = is_first frame frames; kind_is = is })
            (ap (λ (x : HearingOf). x.fault) stays ∙ fault_over h.fault h.heard.ended going)
            (ap (λ (x : HearingOf). x.heard.ended) stays);
      }

  first_runs : (frames : List Frame) (h : HearingOf) → h.started ≡ None → is_over h ≡ false → h.response ≡ []
      → h.slots ≡ book_slots book → RanFrom frames None h.sent (frames_heard lent h frames)
  unfolding frames_heard
  first_runs [] h none going silent at = record {
    asks = subst (AsksIfStarted checked known []) (sym none) tt;
    comes = Comes_on going (subst (IsStartedBy checked known []) (sym none) refl);
  }
  first_runs (frame ∷ frames) h none going silent at =
      let begins : BeginOf = begin_with checked book frame in
      let step : frame_heard lent h frame ≡ (if frame.kind == 88 then ended_by 88 h else begun begins h) =
      ap (λ over. unless_over over h (next_heard lent frame h.started h)) going
      ∙ ap (λ (s : Option (ℕ × ℕ)). next_heard lent frame s h) none
      ∙ ap (λ (slots : List Slot). if frame.kind == 88 then ended_by 88 h else
      begun (begin_of lent slots frame.kind frame.body) h) at in
      let Goal : HearingOf → Type 0 =
      λ next. RanFrom (frame ∷ frames) None h.sent (frames_heard lent next frames) in
      subst Goal (sym step)
      (by_test (frame.kind == 88)
      (λ yes. subst Goal (sym (ap (λ b. if b then ended_by 88 h else begun begins h) yes))
      (first_ends frame frames h none going (eqb-true frame.kind 88 yes)))
      (λ no. subst Goal (sym (ap (λ b. if b then ended_by 88 h else begun begins h) no))
      (first_begins frame frames h none going silent no begins refl)))

  runs_by : (before frames : List Frame) (h : HearingOf) → is_over h ≡ false → h.response ≡ []
      → h.slots ≡ book_slots book → (was : Option (ℕ × ℕ)) → h.started ≡ was → IsStartedBy checked known before was
      → RanFrom (before ++ frames) was h.sent (frames_heard lent h frames)
  runs_by before frames h going silent at None is none =
      subst (λ (x : List Frame). RanFrom (x ++ frames) None h.sent (frames_heard lent h frames)) (sym none)
      (first_runs frames h is going silent at)
  runs_by before frames h going silent at (Some started) is asks =
      let last : HearingOf = frames_heard lent h frames in
      let reach : ℕ = min h.sent (end_lsn_of (length (book_log book))) in
      from_later checked known asks.frame (asks.first.others ++ frames) (before ++ frames) reach last started.0 started.1
      (ap (λ (x : List Frame). x ++ frames) asks.first.frames_are)
      (asks_more checked known before frames started.0 started.1 asks)
      (frames_started lent h frames started is)
      (later_more reach asks.first.others frames last (later_runs lent started.0 started.1 frames h is going))

  -- the result of frames that are heard after others
  pub runs_on : (before frames : List Frame) (h : HearingOf) → is_over h ≡ false → h.response ≡ []
      → h.slots ≡ book_slots book → IsStartedBy checked known before h.started
      → Ran checked known (before ++ frames)
      (min (sent_then h.started h.sent (frames_heard lent h frames).started) (end_lsn_of (length (book_log book))))
      (frames_heard lent h frames)
  runs_on before frames h going silent at started = runs_by before frames h going silent at h.started refl started
