-- An input of the program: its reader, how many reads of it are left, its text, and why reading it may stop.
use Rattle.std.specs.Prelude.{◌≡◌, ◌<◌, ◌⊎◌, ℕ, Bool, true, List, IsUtf8, length, Option, IfSome}
use Rattle.commands.specs.declared.failure.Failure.{Failure}
use Rattle.commands.specs.declared.failure.Failure.TheVariants as f
use Rattle.commands.specs.declared.failure.InputFault.TheVariants as i
use Rattle.commands.specs.declared.input.Input.{Input}

abbrev pub reader_of : {R : Type 0} → Input R → R
reader_of input = input.reader

abbrev pub reads_of : {R : Type 0} → Input R → ℕ
reads_of input = input.reads_left

-- the input, if the reader's bytes are known
abbrev pub IsInput : Option (List ℕ) → List ℕ → Type 0
IsInput known input = IfSome known (λ bytes. input ≡ bytes)

-- these bytes are no input: they are too many, or not UTF-8
abbrev pub IsNoInput : List ℕ → Type 0
IsNoInput bytes = (16777216 < length bytes) ⊎ (IsUtf8 bytes → ⊥)

-- the input cannot be read: its reader is one that may fail, or its bytes, if they are known, are no input
abbrev pub IsUnread : Bool → Option (List ℕ) → Type 0
IsUnread may_fail known = (may_fail ≡ true) ⊎ IfSome known IsNoInput

-- why reading the input may stop; or memory ran out
abbrev pub IsOfReading : Bool → Option (List ℕ) → Failure → Type 0
IsOfReading may_fail known (f.Input i.Unread) = IsUnread may_fail known
IsOfReading may_fail known f.OutOfMemory = Unit {0}
IsOfReading may_fail known _ = ⊥
