-- How the grammar is read: each rule consumes tokens from the front of a list and gives what it reads and the tokens
-- that are left, or the first fault of the text.
use Rattle.std.specs.Prelude.{◌≡◌, ℕ, Bool, true, false, if◌then◌else◌, List, [], Option, Some, None, Result, Ok, Err}
use Rattle.filter_tree.specs.Memory.{TellsFault, Answers as AnswersBy}
use Rattle.sql_reader.specs.declared.error.ReadError.{ReadError}
use Rattle.sql_reader.specs.declared.item.Item.{Item}
use Rattle.sql_reader.specs.Items.{Items, Stop, Broken, Then, is_like}
use Rattle.sql_reader.specs.ErrorKinds.{ErrorKindOf, wrong_of, wrong_token}
use Rattle.sql_reader.specs.ErrorKinds as w

-- what is wrong, and where in the text
pub record Fault : Type 0 where
  pub place : ℕ
  pub wrong : ErrorKindOf

abbrev pub fault : ℕ → ErrorKindOf → Fault
fault place wrong = record { place = place; wrong = wrong }

-- ---- rules

abbrev pub Outcome : Type 0 → Type 0
Outcome A = Result (A × Items) Fault

abbrev pub Rule : Type 0 → Type 0
Rule A = Items → Outcome A

abbrev pub and_then : {A B : Type 0} → Outcome A → (A → Rule B) → Outcome B
and_then (Ok read) more = more read.0 read.1
and_then (Err fault) more = Err fault

infixl 10 ◌>>=◌
abbrev pub ◌>>=◌ : {A B : Type 0} → Rule A → (A → Rule B) → Rule B
rule >>= more = λ ts. and_then (rule ts) more

infixl 10 ◌>>◌
abbrev pub ◌>>◌ : {A B : Type 0} → Rule A → Rule B → Rule B
rule >> next_rule = rule >>= (λ _. next_rule)

abbrev pub pure : {A : Type 0} → A → Rule A
pure a = λ ts. Ok (a, ts)

-- what a check of something that was read returns
abbrev pub Verdict : Type 0 → Type 0
Verdict A = Result A Fault

abbrev pub with_rest : {A : Type 0} → Verdict A → Items → Outcome A
with_rest (Ok a) ts = Ok (a, ts)
with_rest (Err fault) ts = Err fault

-- a check, which consumes no token
abbrev pub check : {A : Type 0} → Verdict A → Rule A
check verdict = λ ts. with_rest verdict ts

-- ---- the next token

-- its place; the end of the text counts as a token at the text's length
abbrev pub place_ahead : Items → ℕ
place_ahead (Stop place) = place
place_ahead (Broken place kind) = place
place_ahead (Then token rest) = token.place

abbrev pub item_ahead : Items → Option Item
item_ahead (Stop place) = None
item_ahead (Broken place kind) = None
item_ahead (Then token rest) = Some token.item

abbrev pub written_ahead : Items → List ℕ
written_ahead (Stop place) = []
written_ahead (Broken place kind) = []
written_ahead (Then token rest) = token.written

-- the tokens after it
abbrev pub rest_of : Items → Items
rest_of (Stop place) = Stop place
rest_of (Broken place kind) = Broken place kind
rest_of (Then token rest) = rest

-- why no rule accepts it: it is faulty, or it fits none
abbrev pub unexpected : Items → Fault
unexpected (Stop place) = fault place w.Expected
unexpected (Broken place kind) = fault place (wrong_token kind)
unexpected (Then token rest) = fault token.place w.Expected

abbrev pub refuse : {A : Type 0} → Rule A
refuse = λ ts. Err (unexpected ts)

-- something else is wrong at it
abbrev pub refuse_as : {A : Type 0} → ErrorKindOf → Rule A
refuse_as wrong = λ ts. Err (fault (place_ahead ts) wrong)

abbrev pub here : Rule ℕ
here = λ ts. Ok (place_ahead ts, ts)

abbrev pub is_like_ahead : Item → Option Item → Bool
is_like_ahead item None = false
is_like_ahead item (Some found) = is_like found item

unfoldable pub is_ahead : Item → Items → Bool
is_ahead item ts = is_like_ahead item (item_ahead ts)

-- a look at it, which fails at a faulty token
abbrev pub looked : Rule (Unit {0})
looked (Stop place) = Ok (tt, Stop place)
looked (Broken place kind) = Err (fault place (wrong_token kind))
looked (Then token rest) = Ok (tt, Then token rest)

unfoldable pub look : Rule (Unit {0})
look ts = looked ts

-- after a look at it, whether it is this one
unfoldable pub next_is : Item → Rule Bool
next_is item = look >> (λ ts. Ok (is_ahead item ts, ts))

-- whether the text continues; a faulty token is refused
abbrev pub more_looked : Items → Verdict Bool
more_looked (Stop place) = Ok false
more_looked (Broken place kind) = Err (fault place (wrong_token kind))
more_looked (Then token rest) = Ok true

unfoldable pub more_ahead : Items → Verdict Bool
more_ahead ts = more_looked ts

-- consumes it, whatever it is
abbrev pub advance : Rule (Unit {0})
advance = λ ts. Ok (tt, rest_of ts)

-- consumes this one if it is ahead, and returns whether it was
unfoldable pub eat : Item → Rule Bool
eat item = λ ts. if is_ahead item ts then Ok (true, rest_of ts) else Ok (false, ts)

-- consumes this one, and returns its place
unfoldable pub expect : Item → Rule ℕ
expect item = λ ts. if is_ahead item ts then Ok (place_ahead ts, rest_of ts) else Err (unexpected ts)

-- ---- what a function that reads ensures

abbrev pub fault_or_none : ℕ → Option ErrorKindOf → Option Fault
fault_or_none place None = None
fault_or_none place (Some wrong) = Some (fault place wrong)

-- the fault that an error reports; out of memory reports none
abbrev pub read_fault : ReadError → Option Fault
read_fault e = fault_or_none e.place (wrong_of e.kind)

-- an error reports the fault of the text, or out of memory
abbrev pub Tells : {A : Type 0} → ReadError → Result A Fault → Type 0
Tells e outcome = TellsFault (read_fault e) outcome

-- the function's result is the rule's, or out of memory; `view` gives the value read as plain data, and `rest` are the
-- tokens left
abbrev pub Reads : {A B : Type 0} → (A → B) → Outcome B → Result A ReadError → Items → Type 0
Reads view outcome result rest = AnswersBy (λ a. (view a, rest)) read_fault outcome result

-- the same for a check
abbrev pub Answers : {A B : Type 0} → (A → B) → Verdict B → Result A ReadError → Type 0
Answers view verdict result = AnswersBy view read_fault verdict result

-- an error reports a fault
abbrev pub ReportsFault : ReadError → Fault → Type 0
ReportsFault e fault = (e.place ≡ fault.place) × (wrong_of e.kind ≡ Some fault.wrong)
