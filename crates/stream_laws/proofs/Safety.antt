-- A machine that hears messages, and what holds of it before each of them and at the end.
use Rattle.std.proofs.Common.{◌≡◌, ℕ, List, [], ◌∷◌, ◌++◌, sym, subst}
use Rattle.std.specs.Prelude.{Ok, Err}
use Rattle.std.specs.Result.{IsOkAnd}
use Rattle.pgoutput_msgs.specs.declared.message.Msg.{Msg}
use Rattle.test_subscriber.specs.Hearing.{MachineResult, hear}
use Rattle.test_subscriber.specs.Machine.{Machine}
use Rattle.stream_laws.specs.Following.{raised_by_message}

-- it is good before each message, none of them is a fault, and the goal is reached after them
abbrev pub Safe : (ℕ → Machine → Type 0) → ℕ → List Msg → Machine → (ℕ → Machine → Type 0) → Type 0
Safe Good position [] machine Goal = Goal position machine
Safe Good position (message ∷ messages) machine Goal =
    Good position machine
    × IsOkAnd (hear message machine) (λ next. Safe Good (raised_by_message position message) messages next Goal)

pub on_ok : (outcome : MachineResult) (P Q : Machine → Type 0) → IsOkAnd outcome P
    → ((machine : Machine) → P machine → Q machine) → IsOkAnd outcome Q
on_ok (Ok machine) P Q h on = on machine h
on_ok (Err fault) P Q h on = h

pub ok_as : (one other : MachineResult) (P : Machine → Type 0) → one ≡ other → IsOkAnd one P → IsOkAnd other P
ok_as one other P e h = subst (λ o. IsOkAnd o P) e h

-- the first message leaves this machine
pub safe_heard : (Good Goal : ℕ → Machine → Type 0) (position : ℕ) (message : Msg) (messages : List Msg)
    (machine next : Machine) → Good position machine → hear message machine ≡ Ok next
    → Safe Good (raised_by_message position message) messages next Goal
    → Safe Good position (message ∷ messages) machine Goal
safe_heard Good Goal position message messages machine next good heard rest = (
  good,
  subst (λ o. IsOkAnd o (λ after. Safe Good (raised_by_message position message) messages after Goal))
      (sym heard) rest,
)

pub safe_append : (Good Goal : ℕ → Machine → Type 0) (position : ℕ) (messages more : List Msg) (machine : Machine)
    → Safe Good position messages machine (λ at next. Safe Good at more next Goal)
    → Safe Good position (messages ++ more) machine Goal
safe_append Good Goal position [] more machine h = h
safe_append Good Goal position (message ∷ messages) more machine h = (
  h.0,
  on_ok (hear message machine)
      (λ next. Safe Good (raised_by_message position message) messages next (λ at last. Safe Good at more last Goal))
      (λ next. Safe Good (raised_by_message position message) (messages ++ more) next Goal) h.1
      (λ next later. safe_append Good Goal (raised_by_message position message) messages more next later),
)

pub safe_on : (Good Goal Other : ℕ → Machine → Type 0) (position : ℕ) (messages : List Msg) (machine : Machine)
    → Safe Good position messages machine Goal
    → ((at : ℕ) (next : Machine) → Goal at next → Other at next) → Safe Good position messages machine Other
safe_on Good Goal Other position [] machine h on = on position machine h
safe_on Good Goal Other position (message ∷ messages) machine h on = (
  h.0,
  on_ok (hear message machine) (λ next. Safe Good (raised_by_message position message) messages next Goal)
      (λ next. Safe Good (raised_by_message position message) messages next Other) h.1
      (λ next later. safe_on Good Goal Other (raised_by_message position message) messages next later on),
)

-- messages that leave the position, and others after them
pub safe_both : (Good Goal : ℕ → Machine → Type 0) (Middle : Machine → Type 0) (position : ℕ)
    (messages more : List Msg) (machine : Machine)
    → Safe Good position messages machine (λ at next. (at ≡ position) × Middle next)
    → ((next : Machine) → Middle next → Safe Good position more next Goal)
    → Safe Good position (messages ++ more) machine Goal
safe_both Good Goal Middle position messages more machine h on =
    safe_append Good Goal position messages more machine
    (safe_on Good (λ at next. (at ≡ position) × Middle next) (λ at next. Safe Good at more next Goal) position
    messages machine h
    (λ at next reached. subst (λ p. Safe Good p more next Goal) (sym reached.0) (on next reached.1)))
