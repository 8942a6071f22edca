-- What a call that allocates memory may return: what its definition says, or that memory ran out, which may come in
-- place of any other result.
use Rattle.std.specs.Prelude.{◌≡◌, Option, Some, None, Result, Ok, Err, IfErr}

-- An error that reports a fault reports the fault of the answer. An error that reports none says that memory ran out.
abbrev pub TellsFault : {A F : Type 0} → Option F → Result A F → Type 0
TellsFault None answer = Unit {0}
TellsFault (Some fault) answer = answer ≡ Err fault

-- The result is this answer, or out of memory. `view` gives a value as plain data, and `told` the fault that an error
-- reports, if it reports one.
abbrev pub Answers : {V E A F : Type 0} → (V → A) → (E → Option F) → Result A F → Result V E → Type 0
Answers view told answer (Ok value) = answer ≡ Ok (view value)
Answers view told answer (Err error) = TellsFault (told error) answer

-- Memory runs out only if the fact holds. `refused` is the error that says so.
abbrev pub NeedsMemoryOnlyIf : {V E : Type 0} → E → Type 0 → Result V E → Type 0
NeedsMemoryOnlyIf refused Fact result = IfErr result (λ error. error ≡ refused → Fact)
