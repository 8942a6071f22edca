-- What `publish` writes, and of which input that is the answer.
use Rattle.std.proofs.Common.{Bool, ◌≡◌, inl, inr, ℕ, List, [], ◌++◌, Option, Some, None, append-nil, refl, sym, ap, subst, ◌∙◌}
use Rattle.std.specs.Prelude.{IsErrAnd, IfErr, Result, Ok, Err}
use Rattle.std.proofs.KnownBytes.{Appends-trans, Consumes-nil}
use Rattle.std.proofs.lemmas.List.Elements.{All-nil}
use Rattle.std.proofs.lemmas.List.Concat.{flat_map-append}
use Rattle.std.specs.Io.KnownBytes.{Appends}
use Rattle.shard_checker.specs.CheckedView.{CheckedOf}
use Rattle.publisher_desk.specs.Seats.{SeatOf, empty_seat}
use Rattle.commands.proofs.Writing.{first_after, first_nothing, unwritten}
use Rattle.commands.specs.Output.{WritesFirst, ended, text_of}
use Rattle.commands.specs.declared.failure.Failure.{Failure}
use Rattle.commands.specs.declared.failure.Failure.TheVariants as f
use Rattle.commands.specs.declared.failure.Status.{Status}
use Rattle.cli.specs.Published.{AreCallersAt, Closes, HasClosed, IsClosing, IsLastLine, HasSaid, IsPortFor, Opens, Serves, StopsTelling}
use Rattle.cli.specs.Talks.{Conversation, HasAnswered, IsCutOff, IsSeatOf, Nobody, Nothing}
use Rattle.cli.specs.Lines.{IsPlain}
use Rattle.cli.specs.Telling.{IsStop, WritesLine, first_lines}
use Rattle.cli.specs.declared.requests.Feed.{Feed}

-- ---- the last line

module _ (checked : CheckedOf) (limit : ℕ) (seat : SeatOf) where
  pub closes : (line : List ℕ) (status : Status) (old new : Option (List ℕ)) (result : Result Status Failure)
      → IsLastLine checked limit seat line status → WritesLine line status old new result
      → Closes checked limit seat old new result
  closes line status old new (Ok told) last says = record {
    lines = says.lines;
    whole = record {
      line = line;
      are = says.whole.0;
      last = subst (λ (s : Status). IsLastLine checked limit seat line s) (sym says.whole.1) last;
    };
    appends = says.appends;
  }
  closes line status old new (Err f.OutOfMemory) last says =
      record { lines = says.lines; begun = says.begun; appends = says.appends }
  closes line status old new (Err f.Output) last says = record {
    lines = says.lines;
    part = elim says.part [
      | inl b ↦ inl b
      | inr w ↦ inr (
        w.0,
        record {
          line = line;
          are = w.1.0;
          last = subst (λ (s : Status). IsLastLine checked limit seat line s) (sym w.1.1) last;
        },
      )
    ];
    first = says.first;
  }
  closes line status old new (Err (f.CommandLine why)) last says = absurd says
  closes line status old new (Err (f.Input fault)) last says = absurd says

module _ (feed : Feed) (checked : CheckedOf) (may_fail : Bool) where
  -- ---- before the session

  silence : (before : Option (List ℕ)) → Conversation checked feed.limit empty_seat before before [] empty_seat
  silence before =
      record { lines = []; more = []; consumed = Consumes-nil before; plain = All-nil IsPlain; answered = Nothing }

  nothing_kept : (callers : Option ℕ) → IsSeatOf checked feed.limit empty_seat callers [] empty_seat empty_seat
  nothing_kept None = refl
  nothing_kept (Some port) = (refl, Nobody)

  alone : (before : Option (List ℕ)) (port : ℕ) (callers : Option ℕ) → IsPortFor feed.port port
      → AreCallersAt feed.commands callers → HasSaid feed checked before before (first_lines port callers)
  alone before port callers is are = record {
    port = port;
    callers = callers;
    answers = [];
    own = empty_seat;
    seat = empty_seat;
    port_is = is;
    callers_are = are;
    conversation = silence before;
    seat_is = nothing_kept callers;
    are = sym (append-nil (first_lines port callers));
  }

  -- it stops before the first line
  pub unopened : (before old new : Option (List ℕ)) (failure : Failure) → StopsTelling feed old new failure
      → Serves feed checked before before may_fail old new (Err failure)
  unopened before old new f.OutOfMemory stops =
      record { lines = []; begun = inl refl; appends = unwritten old new stops.stops }
  unopened before old new f.Output stops = record {
    lines = first_lines stops.port stops.callers;
    part = inl (inr (alone before stops.port stops.callers stops.port_is stops.callers_are));
    first = stops.stops;
  }
  unopened before old new (f.CommandLine why) stops = absurd stops.stops
  unopened before old new (f.Input fault) stops = absurd stops.stops

  pub unopened_returned : (before old new : Option (List ℕ)) (failure : Failure) (result : Result Status Failure)
      → StopsTelling feed old new failure → IsErrAnd result (λ failed. failed ≡ failure)
      → Serves feed checked before before may_fail old new result
  unopened_returned before old new failure (Ok told) stops is = absurd is
  unopened_returned before old new failure (Err failed) stops is =
      subst (λ (f : Failure). Serves feed checked before before may_fail old new (Err f)) (sym is)
      (unopened before old new failure stops)

  -- memory is refused before it listens
  pub nothing_said : (before old : Option (List ℕ)) (result : Result Status Failure)
      → IsErrAnd result (λ failed. failed ≡ f.OutOfMemory) → Serves feed checked before before may_fail old old result
  nothing_said before old (Ok told) is = absurd is
  nothing_said before old (Err failed) is =
      subst (λ (f : Failure). Serves feed checked before before may_fail old old (Err f)) (sym is)
      (record { lines = []; begun = inl refl; appends = unwritten old old refl })

  -- ---- after it

  module _ (port : ℕ) (callers : Option ℕ) (before after old mid : Option (List ℕ))
      (opens : Opens feed port callers old mid) where
    abbrev firsts : List (List ℕ)
    firsts = first_lines port callers

    abbrev first_text : List ℕ
    first_text = text_of firsts

    abbrev said : (answers : List (List ℕ)) (own seat : SeatOf)
        → Conversation checked feed.limit empty_seat before after answers own
        → IsSeatOf checked feed.limit empty_seat callers answers own seat
        → HasSaid feed checked before after (firsts ++ answers)
    said answers own seat talk are = record {
      port = port;
      callers = callers;
      answers = answers;
      own = own;
      seat = seat;
      port_is = opens.port_is;
      callers_are = opens.callers_are;
      conversation = talk;
      seat_is = are;
      are = refl;
    }

    said_text : (answers : List (List ℕ)) → text_of (firsts ++ answers) ≡ first_text ++ text_of answers
    said_text answers = flat_map-append ended firsts answers

    -- it is cut off
    cut_off : (new : Option (List ℕ)) (has : SeatOf) (failure : Failure)
        → IsCutOff checked feed.limit callers before after mid new empty_seat has failure
        → Serves feed checked before after may_fail old new (Err failure)
    cut_off new has f.OutOfMemory cut = record {
      lines = firsts ++ cut.answers;
      begun = inr (said cut.answers cut.own cut.has cut.conversation cut.seat_is);
      appends = subst (Appends old new) (sym (said_text cut.answers))
          (Appends-trans old mid new first_text (text_of cut.answers) opens.written cut.written);
    }
    cut_off new has f.Output cut = record {
      lines = firsts ++ cut.answers;
      part = inl (inr (said cut.answers cut.own has cut.conversation cut.seat_is));
      first = subst (λ (t : List ℕ). WritesFirst t old new) (sym (said_text cut.answers))
          (first_after first_text (text_of cut.answers) old mid new opens.written cut.first);
    }
    cut_off new has (f.CommandLine why) cut = absurd cut
    cut_off new has (f.Input fault) cut = absurd cut

    -- where the session began with an empty seat
    pub cut_off_returned : (new : Option (List ℕ)) (had has : SeatOf) (failure : Failure)
        (result : Result Status Failure) → had ≡ empty_seat
        → IsCutOff checked feed.limit callers before after mid new had has failure
        → IsErrAnd result (λ failed. failed ≡ failure) → Serves feed checked before after may_fail old new result
    cut_off_returned new had has failure (Ok told) none cut is = absurd is
    cut_off_returned new had has failure (Err failed) none cut is =
        subst (λ (f : Failure). Serves feed checked before after may_fail old new (Err f)) (sym is)
        (cut_off new has failure
        (subst (λ (seat : SeatOf). IsCutOff checked feed.limit callers before after mid new seat has failure) none
        cut))

    -- memory is refused after the session
    pub no_memory : (new : Option (List ℕ)) (limit : ℕ) {had has : SeatOf} (result : Result Status Failure)
        → feed.limit ≡ limit → had ≡ empty_seat → HasAnswered checked limit callers may_fail before after mid new had has
        → IsErrAnd result (λ failed. failed ≡ f.OutOfMemory) → Serves feed checked before after may_fail old new result
    no_memory new limit {had} {has} result same none answers is =
        let answered = subst (λ (l : ℕ). HasAnswered checked l callers may_fail before after mid new had has) (sym same)
        answers in
        cut_off_returned new had has f.OutOfMemory result none
        (record {
          answers = answered.answers;
          own = answered.own;
          has = has;
          conversation = answered.conversation;
          seat_is = answered.seat_is;
          written = answered.written;
        })
        is

    -- the last line comes
    closed_lines : {has : SeatOf} (now : Option (List ℕ))
        (answered : HasAnswered checked feed.limit callers may_fail before after mid now empty_seat has) (lines : List (List ℕ))
        (status : Status) → IsClosing checked feed.limit has lines status
        → HasClosed feed checked before after may_fail ((firsts ++ answered.answers) ++ lines) status
    closed_lines {has} now answered lines status closing = record {
      earlier = firsts ++ answered.answers;
      line = closing.line;
      said = said answered.answers answered.own has answered.conversation answered.seat_is;
      all = answered.last;
      last = closing.last;
      are = ap (λ (l : List (List ℕ)). (firsts ++ answered.answers) ++ l) closing.are;
    }

    all_text : (answers lines : List (List ℕ))
        → text_of ((firsts ++ answers) ++ lines) ≡ (first_text ++ text_of answers) ++ text_of lines
    all_text answers lines =
        flat_map-append ended (firsts ++ answers) lines
        ∙ ap (λ (t : List ℕ). t ++ text_of lines) (said_text answers)

    closes_then : (now new : Option (List ℕ)) (has : SeatOf) (result : Result Status Failure)
        → (answered : HasAnswered checked feed.limit callers may_fail before after mid now empty_seat has)
        → Closes checked feed.limit has now new result
        → Serves feed checked before after may_fail old new result
    closes_then now new has (Ok status) answered closing =
        let before_last = Appends-trans old mid now first_text (text_of answered.answers) opens.written
        answered.written in
        record {
          lines = (firsts ++ answered.answers) ++ closing.lines;
          whole = closed_lines now answered closing.lines status closing.whole;
          appends = subst (Appends old new) (sym (all_text answered.answers closing.lines))
              (Appends-trans old now new (first_text ++ text_of answered.answers) (text_of closing.lines) before_last
              closing.appends);
        }
    closes_then now new has (Err f.OutOfMemory) answered closing =
        let before_last = Appends-trans old mid now first_text (text_of answered.answers) opens.written
        answered.written in
        record {
          lines = firsts ++ answered.answers;
          begun = inr (said answered.answers answered.own has answered.conversation answered.seat_is);
          appends = subst (Appends old new)
              (append-nil (first_text ++ text_of answered.answers) ∙ sym (said_text answered.answers))
              (Appends-trans old now new (first_text ++ text_of answered.answers) [] before_last
              (subst (λ (lines : List (List ℕ)). Appends now new (text_of lines)) closing.begun closing.appends));
        }
    closes_then now new has (Err f.Output) answered closing =
        let before_last = Appends-trans old mid now first_text (text_of answered.answers) opens.written
        answered.written in
        let first = first_after (first_text ++ text_of answered.answers) (text_of closing.lines) old now new before_last
        closing.first in
        elim closing.part [
          | inl none ↦ record {
            lines = firsts ++ answered.answers;
            part = inl (inr (said answered.answers answered.own has answered.conversation answered.seat_is));
            first = subst (λ (t : List ℕ). WritesFirst t old new)
                (ap (λ (lines : List (List ℕ)). (first_text ++ text_of answered.answers) ++ text_of lines) none
                ∙ append-nil (first_text ++ text_of answered.answers) ∙ sym (said_text answered.answers)) first;
          }
          | inr whole ↦ record {
            lines = (firsts ++ answered.answers) ++ closing.lines;
            part = inr (whole.0, closed_lines now answered closing.lines whole.0 whole.1);
            first = subst (λ (t : List ℕ). WritesFirst t old new) (sym (all_text answered.answers closing.lines)) first;
          }
        ]
    closes_then now new has (Err (f.CommandLine why)) answered closing = absurd closing
    closes_then now new has (Err (f.Input fault)) answered closing = absurd closing

    -- if the session began with an empty seat
    pub closes_after : (now new : Option (List ℕ)) (limit : ℕ) {had has : SeatOf} (result : Result Status Failure)
        → feed.limit ≡ limit → had ≡ empty_seat → HasAnswered checked limit callers may_fail before after mid now had has
        → Closes checked limit has now new result → Serves feed checked before after may_fail old new result
    closes_after now new limit {had} {has} result same none answers closing =
        let answered = subst (λ (l : ℕ). HasAnswered checked l callers may_fail before after mid now had has) (sym same)
        answers in
        let first = subst (λ (seat : SeatOf). HasAnswered checked feed.limit callers may_fail before after mid now seat has)
        none answered in
        closes_then now new has result first (subst (λ (l : ℕ). Closes checked l has now new result) (sym same) closing)

-- ---- before the lines

at_itself : (asked : Option ℕ) → AreCallersAt asked asked
at_itself None = tt
at_itself (Some port) = inr refl

stops_before : (feed : Feed) (old : Option (List ℕ)) (failure : Failure) → IsStop failure
    → StopsTelling feed old old failure
stops_before feed old f.Output stop = record {
  port = feed.port;
  callers = feed.commands;
  port_is = inr refl;
  callers_are = at_itself feed.commands;
  stops = first_nothing (text_of (first_lines feed.port feed.commands)) old old refl;
}
stops_before feed old f.OutOfMemory stop = record {
  port = feed.port;
  callers = feed.commands;
  port_is = inr refl;
  callers_are = at_itself feed.commands;
  stops = refl;
}
stops_before feed old (f.CommandLine why) stop = absurd stop
stops_before feed old (f.Input fault) stop = absurd stop

pub stopped_before : {A : Type 0} (feed : Feed) (old : Option (List ℕ)) (failure : Failure) (result : Result A Failure)
    → IsStop failure → IsErrAnd result (λ failed. failed ≡ failure) → IfErr result (StopsTelling feed old old)
stopped_before feed old failure (Ok told) stop is = tt
stopped_before feed old failure (Err failed) stop is =
    subst (StopsTelling feed old old) (sym is) (stops_before feed old failure stop)
