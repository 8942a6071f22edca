-- What a line is answered, by what reading it gave.
use Rattle.std.proofs.Common.{◌≡◌, ℕ, Bool, true, false, List, [], ◌∷◌, ◌++◌, Some, None, if◌then◌else◌, refl, sym, subst, codes}
use Rattle.std.specs.Prelude.{IsUtf8, Ok}
use Rattle.filter_tree.specs.declared.table.Table.{Table}
use Rattle.pub_reader.specs.Scripts.{LineOf, script_by}
use Rattle.pub_reader.specs.StepView.{step_view}
use Rattle.pub_reader.specs.Steps.{StepOf, Commit, View}
use Rattle.pub_reader.specs.declared.step.Step.{Step}
use Rattle.pub_reader.specs.declared.step.Step.TheVariants as s
use Rattle.publisher_desk.specs.Seats.{SeatOf, SeesOn}
use Rattle.shard_checker.specs.CheckedView.{CheckedOf}
use Rattle.shard_world.specs.declared.answer.Answer.{Answer}
use Rattle.table_changes.specs.Commands.{Command}
use Rattle.sql_reader.specs.KindNames.{kind_name}
use Rattle.sql_reader.specs.declared.error.ReadError.{ReadError}
use Rattle.commands.specs.Failures.{fault_line}
use Rattle.commands.specs.Output.{text_of}
use Rattle.commands.specs.Simulate.Answers.{answer_line}
use Rattle.commands.specs.Simulate.Simulation.{IsOfScript}
use Rattle.commands.specs.declared.failure.Failure.TheVariants as f
use Rattle.commands.specs.declared.failure.InputFault.{InputFault}
use Rattle.commands.specs.declared.failure.InputFault.TheVariants as i
use Rattle.cli.specs.Talks.{Answers, Committing, Empty, IsLineAnswer, Replies, Viewing, NoScript, NoText, OneStep, Tells, Unfit, first_unfit, is_fit, unfit_from}
use Rattle.cli.specs.Views.{IsViewText}

module _ (checked : CheckedOf) (limit : ℕ) (line : List ℕ) (had : SeatOf) where
  -- the seat stays as it is
  reported_alone : (lines : List (List ℕ)) (text : List ℕ) → text ≡ text_of lines
      → IsLineAnswer checked limit had line lines had → Answers checked limit line had had text
  reported_alone lines text is answer = record { lines = lines; is = answer; text_is = is }

  pub no_text : (text : List ℕ) → (IsUtf8 line → ⊥) → text ≡ text_of (fault_line i.Unread ∷ [])
      → Answers checked limit line had had text
  no_text text none is = reported_alone (fault_line i.Unread ∷ []) text is (NoText none)

  module _ (tables : List Table) (same : tables ≡ checked.catalog.tables) where
    pub no_script : (fault : InputFault) (text : List ℕ) → IsOfScript (script_by tables line) (f.Input fault)
        → text ≡ text_of (fault_line fault ∷ []) → Answers checked limit line had had text
    no_script (i.Script error) text stops is =
        reported_alone (fault_line (i.Script error) ∷ []) text is (NoScript error (rw same at stops))
    no_script i.Unread text stops is = absurd stops
    no_script i.Parts text stops is = absurd stops
    no_script (i.Catalog error) text stops is = absurd stops
    no_script (i.Table name) text stops is = absurd stops
    no_script (i.Certificate number error) text stops is = absurd stops

    reads_so : (steps : List LineOf) → script_by tables line ≡ Ok steps → script_by checked.catalog.tables line ≡ Ok steps
    reads_so steps reads = subst (λ (t : List Table). script_by t line ≡ Ok steps) same reads

    pub unfit : (steps : List LineOf) (error : ReadError) (text : List ℕ) → script_by tables line ≡ Ok steps
        → first_unfit steps ≡ Some error.place → kind_name error.kind ≡ codes "Expected"
        → text ≡ text_of (fault_line (i.Script error) ∷ []) → Answers checked limit line had had text
    unfit steps error text reads first kind is =
        reported_alone (fault_line (i.Script error) ∷ []) text is (Unfit steps error (reads_so steps reads) first kind)

    pub empty : (text : List ℕ) → script_by tables line ≡ Ok [] → text ≡ [] → Answers checked limit line had had text
    empty text reads is = reported_alone [] text is (Empty (reads_so [] reads))

    pub one_step : (step : LineOf) (text : List ℕ) (has : SeatOf) → script_by tables line ≡ Ok (step ∷ [])
        → Tells checked limit step.step had has text → Answers checked limit line had has text
    one_step step text has reads tells = record {
      lines = tells.lines;
      is = OneStep step tells.lines has (reads_so (step ∷ []) reads) tells.is tells.begins;
      text_is = tells.text_is;
    }

-- ---- the answer of a step

module _ (checked : CheckedOf) (limit : ℕ) where
  pub committed : (step : StepOf) (commands : List Command) (had has : SeatOf) (answer : Answer) (text : List ℕ)
      → step ≡ Commit commands → Replies checked limit commands had has answer
      → text ≡ text_of (answer_line answer ∷ []) → Tells checked limit step had has text
  committed step commands had has answer text e replies is =
      subst (λ (s : StepOf). Tells checked limit s had has text) (sym e) (record {
        lines = answer_line answer ∷ [];
        is = Committing commands answer replies.is;
        text_is = is;
        begins = replies.begins;
      })

  pub viewed : (step : StepOf) (had has : SeatOf) (text : List ℕ) → step ≡ View
      → has.notes ≡ had.notes → SeesOn had has → IsViewText checked has text
      → Tells checked limit step had has text
  viewed step had has text e same begins is =
      subst (λ (s : StepOf). Tells checked limit s had has text) (sym e) (record {
        lines = is.lines;
        is = Viewing is.lines is.view same;
        text_is = is.is;
        begins = begins;
      })

pub view_left : (step : Step) → is_fit (step_view step) ≡ true → ((commands : _) → step ≡ s.Commit commands → ⊥)
    → step_view step ≡ View
view_left (s.Commit commands) fit none = absurd (none commands refl)
view_left s.View fit none = refl
view_left (s.Open subscriber) fit none = absurd (cc)
view_left (s.Hear subscriber bytes) fit none = absurd (cc)
view_left (s.Take subscriber) fit none = absurd (cc)
view_left (s.Keep subscriber want) fit none = absurd (cc)
view_left (s.Deliver subscriber bytes) fit none = absurd (cc)
view_left (s.Report subscriber want) fit none = absurd (cc)
view_left (s.Lose subscriber) fit none = absurd (cc)
view_left (s.Pump subscriber) fit none = absurd (cc)

-- ---- the step of a line that has one

fit_alone : (fit : Bool) (place : ℕ) → (if fit then None else Some place) ≡ None → fit ≡ true
fit_alone true place e = refl
fit_alone false place e = absurd (cc)

not_first : (steps : List LineOf) (step : LineOf) → unfit_from false (steps ++ step ∷ []) ≡ None → ⊥
not_first [] step e = absurd (cc)
not_first (first ∷ steps) step e = absurd (cc)

not_more : (first step : LineOf) (steps : List LineOf) (fit : Bool)
    → (if fit then unfit_from false (steps ++ step ∷ []) else Some first.place) ≡ None → ⊥
not_more first step steps true e = not_first steps step e
not_more first step steps false e = absurd (cc)

-- steps of which none is unfit are one step that is fit, if there is a last one
pub is_one : (steps : List LineOf) (step : LineOf) → first_unfit (steps ++ step ∷ []) ≡ None
    → (steps ≡ []) × (is_fit step.step ≡ true)
is_one [] step none = (refl, fit_alone (is_fit step.step) step.place none)
is_one (first ∷ steps) step none = absurd (not_more first step steps (is_fit first.step) none)
