-- Lines are answered one after another, and it may stop at each.
use Rattle.std.proofs.Common.{◌≡◌, ℕ, Bool, List, [], ◌∷◌, ◌++◌, All, Option, Some, None, append-nil, codes, refl, sym, subst}
use Rattle.std.specs.Prelude.{IfErr, IsErrAnd, Result, Ok, Err}
use Rattle.std.proofs.KnownBytes.{Appends-nil, Appends-trans, Consumes-nil, Consumes-trans}
use Rattle.std.proofs.lemmas.List.Concat.{flat_map-append}
use Rattle.std.proofs.lemmas.List.Elements.{All-nil, All-push}
use Rattle.std.specs.Io.KnownBytes.{Appends, Consumes}
use Rattle.shard_checker.specs.CheckedView.{CheckedOf}
use Rattle.publisher_desk.specs.Seats.{SeatOf}
use Rattle.commands.proofs.Writing.{first_after, text_of-more}
use Rattle.commands.specs.Output.{WritesFirst, ended, text_of}
use Rattle.commands.specs.declared.failure.Failure.{Failure}
use Rattle.commands.specs.declared.failure.Failure.TheVariants as f
use Rattle.commands.specs.declared.failure.InputFault.{InputFault}
use Rattle.commands.specs.declared.failure.InputFault.TheVariants as i
use Rattle.cli.proofs.LineLemmas.{last_of_all}
use Rattle.cli.specs.Lines.{Ends, Fails, IsPlain, Quits, ReadsLast, ReadsLine, ReadsSome, StopsLine}
use Rattle.cli.specs.Talks.{AreAnswered, Conversation, GoesOn, HasAnswered, HasBegun, IsCutOff, IsOver, IsSeatOf, Nobody, Nothing, OneMore, StopsNext}

module _ (checked : CheckedOf) (limit : ℕ) where
  -- so far: lines were read and answered, and the answers are written
  pub record IsSoFar (before now old written : Option (List ℕ)) (had has : SeatOf) : Type 0 where
    pub lines : List (List ℕ)
    pub answers : List (List ℕ)
    pub consumed : Consumes before now (text_of lines)
    pub plain : All IsPlain lines
    pub answered : AreAnswered checked limit had lines answers has
    pub appends : Appends old written (text_of answers)

  pub begins : (before old : Option (List ℕ)) (had : SeatOf) → IsSoFar before before old old had had
  begins before old had = record {
    lines = [];
    answers = [];
    consumed = Consumes-nil before;
    plain = All-nil IsPlain;
    answered = Nothing;
    appends = Appends-nil old;
  }

  -- it stops before the first line
  nothing_kept : (had : SeatOf) (callers : Option ℕ) → IsSeatOf checked limit had callers [] had had
  nothing_kept had None = refl
  nothing_kept had (Some port) = (refl, Nobody)

  pub unbegun : (had : SeatOf) (callers : Option ℕ) (before old : Option (List ℕ))
      → HasBegun checked limit callers before before old old had
  unbegun had callers before old = record {
    answers = [];
    own = had;
    has = had;
    seat_is = nothing_kept had callers;
    conversation = record {
      lines = [];
      more = [];
      consumed = Consumes-nil before;
      plain = All-nil IsPlain;
      answered = Nothing;
    };
    written = Appends-nil old;
  }

  -- a line more is read and answered
  more_lines : (lines : List (List ℕ)) (line : List ℕ) (before now after : Option (List ℕ))
      → Consumes before now (text_of lines) → Consumes now after (line ++ 10 ∷ [])
      → Consumes before after (text_of (lines ++ line ∷ []))
  more_lines lines line before now after first more =
      subst (Consumes before after) (sym (text_of-more lines line))
      (Consumes-trans before now after (text_of lines) (ended line) first more)

  more_text : (answers own : List (List ℕ)) → text_of (answers ++ own) ≡ text_of answers ++ text_of own
  more_text answers own = flat_map-append ended answers own

  pub goes_on : (before now after old written new : Option (List ℕ)) (had has next : SeatOf)
      → IsSoFar before now old written had has → GoesOn checked limit now after written new has next
      → IsSoFar before after old new had next
  goes_on before now after old written new had has next far on =
      let answer = on.answered in
      record {
        lines = far.lines ++ on.line ∷ [];
        answers = far.answers ++ answer.lines;
        consumed = more_lines far.lines on.line before now after far.consumed on.read.consumed;
        plain = All-push IsPlain far.lines on.line far.plain on.read.plain;
        answered = OneMore far.lines far.answers answer.lines on.line has next far.answered on.other answer.is;
        appends = subst (Appends old new) (sym (more_text far.answers answer.lines))
            (Appends-trans old written new (text_of far.answers) (text_of answer.lines) far.appends
            (subst (Appends written new) answer.text_is on.written));
      }

  talk : (before now after old written : Option (List ℕ)) (had has : SeatOf)
      → (far : IsSoFar before now old written had has) (more : List ℕ) → Consumes now after more
      → Conversation checked limit had before after far.answers has
  talk before now after old written had has far more consumed = record {
    lines = far.lines;
    more = more;
    consumed = Consumes-trans before now after (text_of far.lines) more far.consumed consumed;
    plain = far.plain;
    answered = far.answered;
  }

  -- there is no further line
  pub over_at_end : (may_fail : Bool) (before after old new : Option (List ℕ)) → ReadsLast before after → new ≡ old
      → IsOver checked limit may_fail before after old new
  over_at_end may_fail before after old new last same =
      record { more = last.bytes; consumed = last.consumed; last = Ends last.plain last.at_end; unwritten = same }

  pub over_failed : (may_fail : Bool) (before after old new : Option (List ℕ)) (fault : InputFault)
      → ReadsSome before after → StopsLine may_fail (f.Input fault) → new ≡ old
      → IsOver checked limit may_fail before after old new
  over_failed may_fail before after old new i.Unread some fails same =
      record { more = some.bytes; consumed = some.consumed; last = Fails fails; unwritten = same }
  over_failed may_fail before after old new i.Parts some fails same = absurd fails
  over_failed may_fail before after old new (i.Catalog error) some fails same = absurd fails
  over_failed may_fail before after old new (i.Table name) some fails same = absurd fails
  over_failed may_fail before after old new (i.Certificate number error) some fails same = absurd fails
  over_failed may_fail before after old new (i.Script error) some fails same = absurd fails

  pub is_over : (may_fail : Bool) (before now after old written new : Option (List ℕ)) (had has next : SeatOf)
      → IsSoFar before now old written had has → IsOver checked limit may_fail now after written new → next ≡ has
      → HasAnswered checked limit None may_fail before after old new had next
  unfolding talk
  is_over may_fail before now after old written new had has next far over same = record {
    answers = far.answers;
    own = has;
    conversation = talk before now after old written had has far over.more over.consumed;
    last = last_of_all may_fail before now after (text_of far.lines) over.more far.consumed over.last;
    seat_is = same;
    written = subst (λ (n : Option (List ℕ)). Appends old n (text_of far.answers)) (sym over.unwritten) far.appends;
  }

  -- the next line is `QUIT;`
  pub quits : (may_fail : Bool) (before now after old written new : Option (List ℕ)) (had has next : SeatOf)
      → IsSoFar before now old written had has → ReadsLine now after (codes "QUIT;") → new ≡ written → next ≡ has
      → HasAnswered checked limit None may_fail before after old new had next
  quits may_fail before now after old written new had has next far read silent same =
      is_over may_fail before now after old written new had has next far
      (record { more = ended (codes "QUIT;"); consumed = read.consumed; last = Quits refl; unwritten = silent }) same

  -- it stops
  pub stops : (before now after old written new : Option (List ℕ)) (had has next : SeatOf) (failure : Failure)
      → IsSoFar before now old written had has → StopsNext checked limit now after written new has next failure
      → IsCutOff checked limit None before after old new had next failure
  stops before now after old written new had has next f.OutOfMemory far lost = record {
    answers = far.answers;
    own = has;
    has = has;
    conversation = talk before now after old written had has far lost.0.bytes lost.0.consumed;
    seat_is = refl;
    written = subst (λ (n : Option (List ℕ)). Appends old n (text_of far.answers)) (sym lost.1) far.appends;
  }
  stops before now after old written new had has next f.Output far fails =
      let answer = fails.answered in
      record {
        answers = far.answers ++ answer.lines;
        own = next;
        seat_is = refl;
        conversation = record {
          lines = far.lines ++ fails.line ∷ [];
          more = [];
          consumed = subst (Consumes before after) (sym (append-nil (text_of (far.lines ++ fails.line ∷ []))))
              (more_lines far.lines fails.line before now after far.consumed fails.read.consumed);
          plain = All-push IsPlain far.lines fails.line far.plain fails.read.plain;
          answered = OneMore far.lines far.answers answer.lines fails.line has next far.answered fails.other
              answer.is;
        };
        first = subst (λ (t : List ℕ). WritesFirst t old new) (sym (more_text far.answers answer.lines))
            (first_after (text_of far.answers) (text_of answer.lines) old written new far.appends
            (subst (λ (t : List ℕ). WritesFirst t written new) answer.text_is fails.first));
      }
  stops before now after old written new had has next (f.CommandLine why) far fails = absurd fails
  stops before now after old written new had has next (f.Input fault) far fails = absurd fails

  -- the same of what a `?` gives
  pub stops_returned : {A : Type 0} (before now after old written new : Option (List ℕ)) (had has next : SeatOf)
      (failure : Failure) (result : Result A Failure) → IsSoFar before now old written had has
      → StopsNext checked limit now after written new has next failure → IsErrAnd result (λ failed. failed ≡ failure)
      → IfErr result (IsCutOff checked limit None before after old new had next)
  stops_returned before now after old written new had has next failure (Ok told) far fails is = tt
  stops_returned before now after old written new had has next failure (Err failed) far fails is =
      subst (IsCutOff checked limit None before after old new had next) (sym is)
      (stops before now after old written new had has next failure far fails)
