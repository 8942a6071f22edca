-- Callers, one after another, whose lines are answered.
use Rattle.std.proofs.Common.{◌≡◌, ℕ, Bool, List, [], Option, Some, None, refl, sym, subst}
use Rattle.std.specs.Prelude.{IfErr, OnOk, Result, Ok, Err}
use Rattle.std.proofs.KnownBytes.{Appends-nil, Consumes-nil}
use Rattle.std.proofs.lemmas.List.Elements.{All-nil}
use Rattle.publisher_desk.specs.Seats.{SeatOf}
use Rattle.shard_checker.specs.CheckedView.{CheckedOf}
use Rattle.cli.specs.Lines.{IsPlain}
use Rattle.commands.specs.declared.failure.Failure.{Failure}
use Rattle.commands.specs.declared.failure.Failure.TheVariants as f
use Rattle.cli.proofs.Talking.{unbegun}
use Rattle.cli.specs.Talks.{AreAnswered, AreHeard, HasAnswered, HasPart, HasTalked, IsCutOff, NextCaller, Nobody, Nothing}

module _ (checked : CheckedOf) (limit : ℕ) where
  -- nobody has called yet
  pub nobody : (had : SeatOf) → AreHeard checked limit had had
  nobody had = Nobody

  pub one_more : (had has next : SeatOf) → AreHeard checked limit had has → HasTalked checked limit has next
      → AreHeard checked limit had next
  one_more had has next far talked = NextCaller talked.lines talked.answers has next far talked.answered

  -- what a caller was answered, of which the last may be cut short
  pub talked : (may_fail : Bool) (before after old new : Option (List ℕ)) (had has : SeatOf)
      → HasAnswered checked limit None may_fail before after old new had has → HasTalked checked limit had has
  talked may_fail before after old new had has answered = record {
    lines = answered.conversation.lines;
    answers = answered.answers;
    answered = subst (AreAnswered checked limit had answered.conversation.lines answered.answers) (sym answered.seat_is)
        answered.conversation.answered;
  }

  pub talked_part : (before after old new : Option (List ℕ)) (had has : SeatOf)
      → HasPart checked limit None before after old new had has → HasTalked checked limit had has
  talked_part before after old new had has part = record {
    lines = part.conversation.lines;
    answers = part.answers;
    answered = subst (AreAnswered checked limit had part.conversation.lines part.answers) (sym part.seat_is)
        part.conversation.answered;
  }

  -- the reader is left as it is, and nothing is written
  pub by_callers : (may_fail : Bool) (callers : Option ℕ) (port : ℕ) → callers ≡ Some port → (before old : Option (List ℕ))
      (had has : SeatOf) → AreHeard checked limit had has
      → HasAnswered checked limit callers may_fail before before old old had has
  by_callers may_fail callers port is before old had has heard =
      subst (λ (c : Option ℕ). HasAnswered checked limit c may_fail before before old old had has) (sym is) (record {
        answers = [];
        own = had;
        conversation = record {
          lines = [];
          more = [];
          consumed = Consumes-nil before;
          plain = All-nil IsPlain;
          answered = Nothing;
        };
        last = tt;
        seat_is = (refl, heard);
        written = Appends-nil old;
      })

  pub answered_by : {A : Type 0} (may_fail : Bool) (callers : Option ℕ) (port : ℕ) → callers ≡ Some port → (before old : Option (List ℕ))
      (had has : SeatOf) (result : Result A Failure) → OnOk result (AreHeard checked limit had has)
      → OnOk result (HasAnswered checked limit callers may_fail before before old old had has)
  answered_by may_fail callers port is before old had has (Ok told) heard =
      by_callers may_fail callers port is before old had has heard
  answered_by may_fail callers port is before old had has (Err failure) heard = tt

  pub cut_off_by : {A : Type 0} (callers : Option ℕ) (before old : Option (List ℕ)) (had has : SeatOf)
      (result : Result A Failure) → IfErr result (λ failure. failure ≡ f.OutOfMemory)
      → IfErr result (IsCutOff checked limit callers before before old old had has)
  cut_off_by callers before old had has (Ok told) is = tt
  cut_off_by callers before old had has (Err failure) is =
      subst (IsCutOff checked limit callers before before old old had has) (sym is)
      (unbegun checked limit had callers before old)
