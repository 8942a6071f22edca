-- What came of a connection: what was read of it, and what was written.
use Rattle.senders.proofs.StreamingLemmas.{heard_unfinished}
use Rattle.std.proofs.Common.{◌≡◌, ℕ, List, [], ◌++◌, refl, sym, ◌∙◌, ap, subst, inl, inr, arith}
use Rattle.std.proofs.lemmas.Bool.Decides.{nat_tests}
use Rattle.std.specs.Prelude.{◌==◌, Bool, true, false, Option, Some, None}
use Rattle.std.proofs.KnownBytes.{Consumes-trans}
use Rattle.std.specs.Io.KnownBytes.{Consumes}
use Rattle.shard_checker.specs.CheckedView.{CheckedOf}
use Rattle.copy_both.specs.Ears.{ear_confirmed, ear_refusal, ear_started}
use Rattle.copy_frames.specs.Contents.{copy_done}
use Rattle.copy_frames.specs.declared.frame.Frame.{Frame}
use Rattle.copy_both.specs.HeardFrames.{AsksFor, AsksIfStarted, BooksOf, HasEnd, Requests, frames_in}
use Rattle.copy_both.specs.Hearing.{first_sent}
use Rattle.copy_both.specs.VoiceLaws.{Follow}
use Rattle.copy_both.specs.declared.link_fault.LinkFault.{LinkFault}
use Rattle.copy_both.specs.declared.link_fault.LinkFault.TheVariants as fault
use Rattle.tables_log.specs.Lsn.{commits_before}
use Rattle.publisher_desk.specs.Viewers.{SeesMore, ViewerOf, new_viewer}
use Rattle.publisher_desk.specs.declared.slot_event.SlotEvent.{SlotEvent}
use Rattle.senders.specs.declared.end.End.{End}
use Rattle.senders.specs.declared.end.End.TheVariants as end
use Rattle.senders.specs.declared.outcome.Outcome.{Outcome}
use Rattle.senders.specs.Confirming.{FitsEnd, HasReported, ReportsIf}
use Rattle.senders.specs.Hearing.{HoldsFault}
use Rattle.senders.specs.Listening.{EndsAt, EndsFor, EndsOf, HasListened, HearsAll, HoldsStream, HoldsStreamOf, IsHolding, StartsOn}
use Rattle.senders.specs.Refusing.{cause_by, fault_by, fault_after}
use Rattle.senders.specs.Running.{Heard, IsEndOf, Memory, Streams, Whole, Writing}
use Rattle.senders.specs.Serving.{IsEndCause, IsEnded, IsAfterStream, HasClientLeft, IsServed, IsServedFor, IsStream, IsTail, IsWritten, started_of, IsHeardOut}
use Rattle.senders.specs.Results.{ServedOf, books_seen, commits_of, served_of, book_seen}
use Rattle.senders.specs.Sending.{TakesLogged}
use Rattle.senders.specs.Serving as serving
use Rattle.senders.specs.Speaking.{IsSaid}
use Rattle.senders.specs.Speaking as speaking
use Rattle.senders.specs.declared.listener_end.ListenerEnd.{ListenerEnd}
use Rattle.senders.specs.declared.listener_end.ListenerEnd.TheVariants as listener_end
use Rattle.senders.specs.declared.listener.Listener.{Listener}
use Rattle.senders.proofs.ConfirmingLemmas.{fault_ended, reports_all, reports_more, stream_fits}
use Rattle.senders.proofs.ReadLemmas.{has_asked}
use Rattle.senders.proofs.SeenLogs.{asks_still, books_more, ends_still}

-- ---- causes

memory_cause : (checked : CheckedOf) (known : BooksOf) (bytes : List ℕ) (slot start : ℕ)
    → HoldsFault checked known bytes (Some (slot, start)) fault.OutOfMemory
memory_cause checked known bytes slot start =
    record {
      transactions = [];
      begins = record { later = known.log; log_is = refl };
      accepted = tt;
      sent = first_sent start;
      from = omega arith;
      has = tt;
      reaches = λ ahead. absurd (let no_status : fault.OutOfMemory ≡ fault.StatusAhead = ahead in cc);
    }

pub heard_cause : (checked : CheckedOf) (known : BooksOf) (bytes : List ℕ) (started : Option (ℕ × ℕ)) (response : List ℕ)
    (source_failed source_ended sink_failed : Bool) (why : ListenerEnd)
    → EndsFor checked known bytes started response source_failed source_ended why
    → IsEndCause checked known bytes started source_failed source_ended sink_failed (cause_by why)
heard_cause checked known bytes started response source_failed source_ended sink_failed listener_end.SourceFailed ends = ends
heard_cause checked known bytes started response source_failed source_ended sink_failed listener_end.SourceEnded ends = inl ends
heard_cause checked known bytes started response source_failed source_ended sink_failed (listener_end.Frame kind) ends =
    inr (record { kind = kind; has = ends })
heard_cause checked known bytes started response source_failed source_ended sink_failed (listener_end.Fault fault) ends = ends.holds

-- ---- a stream

-- what the bytes say of it, and of why its listener ended
record Knows (checked : CheckedOf) (known : BooksOf) (bytes : List ℕ) (slot start : ℕ) (source_failed source_ended : Bool)
    (why : Option ListenerEnd) (is_requested : Bool) (confirmed number : ℕ) (events : List SlotEvent) : Type 0 where
  asks : AsksFor checked known (frames_in bytes) slot start
  requested : is_requested ≡ true → Requests (frames_in bytes) slot start
  reports : HasReported bytes (slot, start) number events (fault_after why) confirmed
  response : List ℕ
  ends : (ending : ListenerEnd) → why ≡ Some ending
      → EndsFor checked known bytes (Some (slot, start)) response source_failed source_ended ending

is_last : (checked : CheckedOf) (known : BooksOf) (bytes : List ℕ) (slot start : ℕ) (source_failed source_ended : Bool)
    (why : Option ListenerEnd) (is_requested : Bool) (confirmed number : ℕ) (events : List SlotEvent) (last : List ℕ)
    → Knows checked known bytes slot start source_failed source_ended why is_requested confirmed number events
    → IsSaid why last → IsAfterStream (frames_in bytes) last
is_last checked known bytes slot start source_failed source_ended why is_requested confirmed number events last knows
    (speaking.Nothing none) =
    serving.Nothing none
is_last checked known bytes slot start source_failed source_ended why is_requested confirmed number events last knows
    (speaking.Done done is) =
    serving.Done done (knows.ends (listener_end.Frame 99) is)

module _ (checked : CheckedOf) (known : BooksOf) (bytes : List ℕ) (slot start : ℕ) (source_failed source_ended : Bool)
    (before after : Option (List ℕ)) (sink_failed : Bool) (why : Option ListenerEnd) (outcome : Outcome)
    (sent : ℕ) (is_requested : Bool) (confirmed number : ℕ) (viewer : ViewerOf) (known_is : known ≡ books_seen viewer)
    (knows : Knows checked known bytes slot start source_failed source_ended why is_requested confirmed number
    viewer.events) where
  abbrev served : ServedOf
  served = served_of outcome sent is_requested confirmed number viewer

  stream_cause : (is : End) → IsEndOf why sink_failed is
      → IsEndCause checked known bytes (Some (slot, start)) source_failed source_ended sink_failed is
  stream_cause is (Writing same failed) =
      subst (IsEndCause checked known bytes (Some (slot, start)) source_failed source_ended sink_failed) (sym same) failed
  stream_cause is (Memory same) =
      subst (IsEndCause checked known bytes (Some (slot, start)) source_failed source_ended sink_failed) (sym same)
      (memory_cause checked known bytes slot start)
  stream_cause is (Whole ending some same) =
      subst (IsEndCause checked known bytes (Some (slot, start)) source_failed source_ended sink_failed) (sym same) tt
  stream_cause is (Heard ending some same) =
      subst (IsEndCause checked known bytes (Some (slot, start)) source_failed source_ended sink_failed) (sym same)
      (heard_cause checked known bytes (Some (slot, start)) knows.response source_failed source_ended sink_failed ending
      (knows.ends ending some))

  -- a frame of this kind ended it
  left_by_kind : (written : List ℕ) (kind : ℕ) (is_done : Bool) → (kind == 99) ≡ is_done
      → HasEnd (frames_in bytes) kind → (kind ≡ 99 → IsTail copy_done written)
      → HasClientLeft source_ended (frames_in bytes) written
  left_by_kind written kind true is has answered =
      let same : kind ≡ 99 = grind (arith, nat_tests) in serving.Answered (answered same)
  left_by_kind written kind false is has answered =
      serving.Otherwise kind has (λ same. let yes : (kind == 99) ≡ true = ap (λ (k : ℕ). k == 99) same in cc)

  left_by_ending : (written : List ℕ) (why_ended : ListenerEnd) → why ≡ Some why_ended → cause_by why_ended ≡ end.Client
      → (why ≡ Some (listener_end.Frame 99) → IsTail copy_done written)
      → HasClientLeft source_ended (frames_in bytes) written
  left_by_ending written listener_end.SourceFailed some client answered = cc
  left_by_ending written listener_end.SourceEnded some client answered = serving.NoMore (knows.ends listener_end.SourceEnded some)
  left_by_ending written (listener_end.Frame kind) some client answered =
      left_by_kind written kind (kind == 99) refl (knows.ends (listener_end.Frame kind) some)
      (λ same. answered (some ∙ ap (λ (k : ℕ). Some (listener_end.Frame k)) same))
  left_by_ending written (listener_end.Fault fault) some client answered = cc

  left_by : (written : List ℕ) (is : End) → is ≡ end.Client
      → (why ≡ Some (listener_end.Frame 99) → IsTail copy_done written) → IsEndOf why sink_failed is
      → HasClientLeft source_ended (frames_in bytes) written
  left_by written is client answered (Writing same failed) = cc
  left_by written is client answered (Memory same) = cc
  left_by written is client answered (Whole ending some same) = cc
  left_by written is client answered (Heard ended some same) =
      left_by_ending written ended some (sym same ∙ client) answered

  abbrev IsOut : List ℕ → Option LinkFault → Type 0
  IsOut = IsHeardOut (frames_in bytes) source_failed source_ended sink_failed

  out_by : (written : List ℕ) (ending : ListenerEnd) → why ≡ Some ending
      → (why ≡ Some (listener_end.Frame 99) → sink_failed ≡ false → IsTail copy_done written)
      → IsOut written (fault_after why)
  out_by written listener_end.SourceFailed some answered =
      serving.Broken (knows.ends listener_end.SourceFailed some)
  out_by written listener_end.SourceEnded some answered =
      serving.AllRead (knows.ends listener_end.SourceEnded some)
  out_by written (listener_end.Frame kind) some answered =
      serving.Parted kind (knows.ends (listener_end.Frame kind) some)
      (λ same. answered (some ∙ ap (λ (k : ℕ). Some (listener_end.Frame k)) same))
  out_by written (listener_end.Fault fault) some answered = serving.Faulty fault (ap fault_after some)

  heard_out : (written : List ℕ) (is : End) → is ≡ end.Finished
      → (why ≡ Some (listener_end.Frame 99) → sink_failed ≡ false → IsTail copy_done written)
      → IsEndOf why sink_failed is → IsOut written (fault_after why)
  heard_out written is finished answered (Writing same failed) = cc
  heard_out written is finished answered (Memory same) = cc
  heard_out written is finished answered (Whole ending some same) = out_by written ending some answered
  heard_out written is finished answered (Heard ending some same) =
      absurd (heard_unfinished ending (sym same ∙ finished))

  stream_served : Streams checked slot start before after sink_failed why outcome
      → IsServedFor checked bytes source_failed source_ended before after sink_failed served
  stream_served streams =
      let is : IsStream checked known (frames_in bytes) slot start (commits_of outcome) streams.written sink_failed
      served.end = record {
        asks = knows.asks;
        follow = streams.follow;
        moves = streams.moves;
        clocks = streams.clocks;
        takes = streams.takes;
        rest = streams.rest;
        last = streams.last;
        last_is = is_last checked known bytes slot start source_failed source_ended why is_requested confirmed number
            viewer.events streams.last knows streams.said;
        bytes = streams.bytes;
        all = streams.all;
        whole = streams.whole;
      } in
      record {
        written = streams.written;
        put = streams.put;
        is = subst (λ (k : BooksOf). IsWritten checked k (book_seen viewer) (frames_in bytes) served.slot served.start
            (commits_of outcome) streams.written sink_failed served.end) known_is
            (subst (λ (o : Option ℕ). IsWritten checked known (book_seen viewer) (frames_in bytes) o served.start
            (commits_of outcome) streams.written sink_failed served.end) (sym streams.slot_is)
            (subst (λ (o : Option ℕ). IsWritten checked known (book_seen viewer) (frames_in bytes) (Some slot) o
            (commits_of outcome) streams.written sink_failed served.end) (sym streams.start_is) is));
        cause = subst (λ (k : BooksOf). IsEndCause checked k bytes (started_of served.slot served.start) source_failed
            source_ended sink_failed served.end) known_is
            (subst (λ (o : Option ℕ). IsEndCause checked known bytes (started_of o served.start) source_failed
            source_ended sink_failed served.end) (sym streams.slot_is)
            (subst (λ (o : Option ℕ). IsEndCause checked known bytes (started_of (Some slot) o) source_failed source_ended
            sink_failed served.end) (sym streams.start_is)
            (stream_cause served.end streams.ends)));
        requested = λ other at some begins says.
            let one : Some slot ≡ Some other = sym streams.slot_is ∙ some in
            let two : Some start ≡ Some at = sym streams.start_is ∙ begins in
            let same_slot : slot ≡ other = cc in
            let same_start : start ≡ at = cc in
            subst (λ (s : ℕ). Requests (frames_in bytes) s at) same_slot
            (subst (λ (n : ℕ). Requests (frames_in bytes) slot n) same_start (knows.requested says));
        reports = subst (λ (o : Option ℕ). ReportsIf (started_of o served.start) number viewer.events bytes
            served.fault confirmed) (sym streams.slot_is)
            (subst (λ (o : Option ℕ). ReportsIf (started_of (Some slot) o) number viewer.events bytes served.fault
            confirmed) (sym streams.start_is)
            (subst (λ (o : Option LinkFault). HasReported bytes (slot, start) number viewer.events o confirmed)
            (sym streams.fault_is) knows.reports));
        fits = subst (FitsEnd served.end) (sym streams.fault_is)
            (stream_fits why sink_failed served.end streams.ends streams.refused);
        fault = λ found is.
            subst (λ (k : BooksOf). HoldsFault checked k bytes (started_of served.slot served.start) found) known_is
            (subst (λ (o : Option ℕ). HoldsFault checked known bytes (started_of o served.start) found)
            (sym streams.slot_is)
            (subst (λ (o : Option ℕ). HoldsFault checked known bytes (started_of (Some slot) o) found)
            (sym streams.start_is)
            (knows.ends (listener_end.Fault found) (fault_ended why found (sym streams.fault_is ∙ is))).holds));
        asked = λ none. absurd (let no : Some slot ≡ None = sym streams.slot_is ∙ none in cc);
        heard = λ other some finished.
            subst (IsOut streams.written) (sym streams.fault_is)
            (heard_out streams.written served.end finished
            (λ done sound. streams.answered sound
            (λ memory. let no : end.Finished ≡ end.Link fault.OutOfMemory = sym finished ∙ memory in cc) done)
            streams.ends);
        left = λ other some sound client.
            left_by streams.written served.end client
            (streams.answered sound
            (λ memory. let no : end.Client ≡ end.Link fault.OutOfMemory = sym client ∙ memory in cc)) streams.ends;
      }

-- ---- what was read of it

asks_for : (checked : CheckedOf) (known : BooksOf) (bytes : List ℕ) (started : Option (ℕ × ℕ)) (slot start : ℕ)
    → AsksIfStarted checked known (frames_in bytes) started → started ≡ Some (slot, start)
    → AsksFor checked known (frames_in bytes) slot start
asks_for checked known bytes started slot start asks is = subst (AsksIfStarted checked known (frames_in bytes)) is asks

-- by what was seen when it ended, and then by what was seen in the end
module _ (checked : CheckedOf) (now last : ViewerOf) (sees : SeesMore now last) (bytes : List ℕ) (slot start : ℕ)
    (source_failed source_ended : Bool) where
  asks_last : (started : Option (ℕ × ℕ)) → AsksIfStarted checked (books_seen now) (frames_in bytes) started
      → started ≡ Some (slot, start) → AsksFor checked (books_seen last) (frames_in bytes) slot start
  asks_last started asks is =
      asks_still checked (books_seen now) (books_seen last) (books_more now last sees) (frames_in bytes) slot start
      (subst (AsksIfStarted checked (books_seen now) (frames_in bytes)) is asks)

  knows_end : (old new : Listener) (why : ListenerEnd)
      → EndsOf checked now bytes old new source_failed source_ended why
      → ear_started new.ear ≡ Some (slot, start) → (is_requested : Bool) (confirmed number : ℕ)
      → is_requested ≡ new.is_requested → confirmed ≡ ear_confirmed new.ear → number ≡ new.number
      → Knows checked (books_seen last) bytes slot start source_failed source_ended (Some why) is_requested confirmed
      number last.events
  knows_end old new why ends is is_requested confirmed number said noted numbered = record {
    asks = asks_last (ear_started new.ear) ends.asks is;
    requested = λ says. ends.requested slot start is (sym said ∙ says);
    reports = subst (λ (n : ℕ). HasReported bytes (slot, start) n last.events (fault_by why) confirmed) (sym numbered)
        (subst (HasReported bytes (slot, start) new.number last.events (fault_by why)) (sym noted)
        (reports_more bytes (slot, start) new.number now.events last.events (fault_by why) (ear_confirmed new.ear)
        sees.slots
        (subst (λ (o : Option (ℕ × ℕ)). ReportsIf o new.number now.events bytes (fault_by why) (ear_confirmed new.ear)) is
        ends.reports)));
    response = ear_refusal new.ear;
    ends = λ ending some.
        let same : why ≡ ending = cc in
        subst (EndsFor checked (books_seen last) bytes (Some (slot, start)) (ear_refusal new.ear) source_failed
        source_ended) same
        (ends_still checked (books_seen now) (books_seen last) (books_more now last sees) bytes (Some (slot, start))
        (ear_refusal new.ear) source_failed source_ended why
        (subst (λ (o : Option (ℕ × ℕ)). EndsFor checked (books_seen now) bytes o (ear_refusal new.ear) source_failed
        source_ended why) is ends.ends));
  }

  knows_on : (listener : Listener) → HasListened checked now bytes listener
      → ear_started listener.ear ≡ Some (slot, start) → (is_requested : Bool) (confirmed number : ℕ)
      → is_requested ≡ listener.is_requested → confirmed ≡ ear_confirmed listener.ear
      → Knows checked (books_seen last) bytes slot start source_failed source_ended None is_requested confirmed number
      last.events
  knows_on listener has is is_requested confirmed number said noted = record {
    asks = asks_last (ear_started listener.ear) (has_asked checked (books_seen now) bytes listener.ear has.heard) is;
    requested = λ says. has.requested slot start is (sym said ∙ says);
    reports = subst (HasReported bytes (slot, start) number last.events None) (sym noted)
        (subst (λ (o : Option (ℕ × ℕ)). ReportsIf o number last.events bytes None (ear_confirmed listener.ear)) is
        (reports_all (ear_started listener.ear) number last.events bytes (ear_confirmed listener.ear) has.heard.good
        has.confirmed));
    response = [];
    ends = λ ending some. cc;
  }

-- ---- the cases of a connection

-- what is known at the end of a stream: of its slot and its commits, and what the result will say
pub record EndsStream (checked : CheckedOf) (now last : ViewerOf) (left now_left : Option (List ℕ))
    (source_failed source_ended : Bool) (before after : Option (List ℕ)) (sink_failed : Bool) (new : Listener)
    (outcome : Outcome) (sent : ℕ) (is_requested : Bool) (confirmed number : ℕ) (sender : ViewerOf) : Type 0 where
  pub slot : ℕ
  pub start : ℕ
  pub slot_is : outcome.slot ≡ Some slot
  pub start_is : outcome.start ≡ Some start
  pub follow : Follow (commits_before start) (commits_of outcome)
  pub logged : TakesLogged checked new_viewer sender (commits_of outcome)
  pub holding : HoldsStreamOf (slot, start) new.is_requested new.number confirmed now.held
  pub frames : List Frame
  pub asks : AsksFor checked (books_seen last) frames slot start
  pub served : IsServed checked left now_left source_failed source_ended before after sink_failed
      (served_of outcome sent is_requested confirmed number last)

module _ (checked : CheckedOf) (was now last : ViewerOf) (sees : SeesMore now last) (left now_left : Option (List ℕ))
    (source_failed source_ended : Bool)
    (before after : Option (List ℕ)) (sink_failed : Bool) (old new : Listener)
    (fresh : HasListened checked was [] old) (outcome : Outcome) (sent : ℕ) (is_requested : Bool) (confirmed number : ℕ)
    (said : is_requested ≡ new.is_requested) (noted : confirmed ≡ ear_confirmed new.ear)
    (numbered : number ≡ new.number) where
  abbrev Result : ViewerOf → Type 0
  Result sender = EndsStream checked now last left now_left source_failed source_ended before after sink_failed new outcome
      sent is_requested confirmed number sender

  holds_started : (started : ℕ × ℕ) → ear_started new.ear ≡ Some started → IsHolding now new
      → HoldsStreamOf started new.is_requested new.number confirmed now.held
  holds_started started is holding =
      subst (λ (n : ℕ). HoldsStreamOf started new.is_requested new.number n now.held) (sym noted)
      (subst (λ (o : Option (ℕ × ℕ)). HoldsStream o new.is_requested new.number (ear_confirmed new.ear) now.held) is
      holding)

  ends_stream : (sender : ViewerOf) (bytes : List ℕ) (started : ℕ × ℕ) (why : Option ListenerEnd)
      → Consumes left now_left bytes → ear_started new.ear ≡ Some started → IsHolding now new
      → Knows checked (books_seen last) bytes started.0 started.1 source_failed source_ended why is_requested
      confirmed number last.events → Streams checked started.0 started.1 before after sink_failed why outcome
      → TakesLogged checked new_viewer sender (commits_of outcome) → Result sender
  ends_stream sender bytes started why read is holding knows streams logged = record {
    slot = started.0;
    start = started.1;
    slot_is = streams.slot_is;
    start_is = streams.start_is;
    follow = streams.follow;
    logged = logged;
    holding = holds_started started is holding;
    frames = frames_in bytes;
    asks = knows.asks;
    served = record {
      bytes = bytes;
      read = read;
      served_for = stream_served checked (books_seen last) bytes started.0 started.1 source_failed source_ended before
          after sink_failed why outcome sent is_requested confirmed number last refl knows streams;
    };
  }

  pub by_listener : (sender between : ViewerOf) (middle_left : Option (List ℕ)) (middle : Listener) (started : ℕ × ℕ)
      → StartsOn checked was between left middle_left old middle started
      → (why : Option ListenerEnd)
      → HearsAll checked between now middle_left now_left source_failed source_ended middle new why
      → Streams checked started.0 started.1 before after sink_failed why outcome
      → TakesLogged checked new_viewer sender (commits_of outcome) → Result sender
  by_listener sender between middle_left middle started on None more streams logged =
      let first = on.hears.heard [] fresh in
      let then = more.heard on.hears.more first.has in
      let bytes = on.hears.more ++ more.more in
      let is = then.stays started on.started_is in
      ends_stream sender bytes started None
      (Consumes-trans left middle_left now_left on.hears.more more.more on.hears.read more.read) is then.has.holding
      (knows_on checked now last sees bytes started.0 started.1 source_failed source_ended new then.has is is_requested
      confirmed number said noted) streams logged
  by_listener sender between middle_left middle started on (Some why) more streams logged =
      let first = on.hears.heard [] fresh in
      let then = more.ends on.hears.more first.has in
      let bytes = on.hears.more ++ more.more in
      let is = then.stays started on.started_is in
      ends_stream sender bytes started (Some why)
      (Consumes-trans left middle_left now_left on.hears.more more.more on.hears.read more.read) is then.holding
      (knows_end checked now last sees bytes started.0 started.1 source_failed source_ended middle new why then is
      is_requested confirmed number said noted numbered) streams logged

  pub at_once : (sender : ViewerOf) (started : ℕ × ℕ) (why : ListenerEnd)
      → EndsAt checked was now left now_left source_failed source_ended old new (Some started) why
      → Streams checked started.0 started.1 before after sink_failed (Some why) outcome
      → TakesLogged checked new_viewer sender (commits_of outcome) → Result sender
  at_once sender started why at streams logged =
      let ends = at.hears.ends [] fresh in
      ends_stream sender at.hears.more started (Some why) at.hears.read at.started_is ends.holding
      (knows_end checked now last sees at.hears.more started.0 started.1 source_failed source_ended old new why ends
      at.started_is is_requested confirmed number said noted numbered) streams logged
