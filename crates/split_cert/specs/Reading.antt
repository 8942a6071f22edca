-- How the text of a certificate is read, up to one node's two words: each rule consumes bytes from the front of a text,
-- and gives what it reads and where the reader is after it, or the first fault. The format is specific to this project.
use Rattle.std.specs.Prelude.{ℕ, ◌+◌, Bool, false, true, not, ◌&&◌, ◌==◌, nat_le, if◌then◌else◌, List, [], ◌∷◌, length, take, drop, Option, Some, None, Result, Ok, Err}
use Rattle.std.specs.List.{prefix_len}
use Rattle.split_cert.specs.declared.error.CertError.{CertError}
use Rattle.split_cert.specs.declared.error.CertError.TheVariants.{BadToken, Ended, Trailing, TooLarge, TooDeep, OutOfMemory}
use Rattle.split_cert.specs.declared.head.Head.{Head}
use Rattle.split_cert.specs.declared.head.Kind.{Kind}
use Rattle.split_cert.specs.declared.head.Kind.TheVariants.{Split, Owner, Empty, NeverNull}
use Rattle.split_cert.specs.Numbers.{word_number}
use Rattle.split_cert.specs.Tree.{max_nodes}

-- where a reader is: the place of the next byte in the text, how many nodes it has read, and the bytes from there on
pub record Here : Type 0 where
  pub place : ℕ
  pub nodes : ℕ
  pub rest : List ℕ

abbrev pub start : List ℕ → Here
start text = record { place = 0; nodes = 0; rest = text }

-- ---- rules

abbrev pub Outcome : Type 0 → Type 0
Outcome A = Result (A × Here) CertError

abbrev pub Rule : Type 0 → Type 0
Rule A = Here → Outcome A

abbrev pub and_then : {A B : Type 0} → Outcome A → (A → Rule B) → Outcome B
and_then (Ok read) more = more read.0 read.1
and_then (Err fault) more = Err fault

infixl 10 ◌>>=◌
abbrev pub ◌>>=◌ : {A B : Type 0} → Rule A → (A → Rule B) → Rule B
rule >>= more = λ here. and_then (rule here) more

infixl 10 ◌>>◌
abbrev pub ◌>>◌ : {A B : Type 0} → Rule A → Rule B → Rule B
rule >> next_rule = rule >>= (λ _. next_rule)

abbrev pub pure : {A : Type 0} → A → Rule A
pure a = λ here. Ok (a, here)

-- ---- words

abbrev pub is_of_word : ℕ → Bool
is_of_word byte = not (byte == 32)

-- how many bytes there are before the next space, or before the end
abbrev pub word_len : List ℕ → ℕ
word_len bytes = prefix_len is_of_word bytes

-- this number of bytes further
abbrev pub past : ℕ → Here → Here
past n here = record { place = here.place + n; nodes = here.nodes; rest = drop n here.rest }

-- a word is expected: it ends at a space or at the end
unfoldable pub word : Rule (List ℕ)
word here = if length here.rest == 0 then
    Err Ended else Ok (take (word_len here.rest) here.rest, past (word_len here.rest) here)

abbrev pub space_first : Here → List ℕ → Outcome (Unit {0})
space_first here [] = Err Ended
space_first here (byte ∷ bytes) = if byte == 32 then
    Ok (tt, record { place = here.place + 1; nodes = here.nodes; rest = bytes }) else Err (BadToken here.place)

-- a space is expected
unfoldable pub space : Rule (Unit {0})
space here = space_first here here.rest

-- what a word means; it began at this place
abbrev pub meant : {A : Type 0} → ℕ → Option A → Rule A
meant place None = λ here. Err (BadToken place)
meant place (Some a) = λ here. Ok (a, here)

-- ---- the two words of a node

abbrev pub letter_of : Kind → ℕ
letter_of Split = 115
letter_of Owner = 111
letter_of Empty = 101
letter_of NeverNull = 110

abbrev pub kind_of_letter : ℕ → Option Kind
kind_of_letter byte =
    if byte == letter_of Split then Some Split
    else (if byte == letter_of Owner then Some Owner
    else (if byte == letter_of Empty then Some Empty
    else (if byte == letter_of NeverNull then Some NeverNull else None)))

abbrev pub kind_of : List ℕ → Option Kind
kind_of [] = None
kind_of (byte ∷ []) = kind_of_letter byte
kind_of (byte ∷ other ∷ bytes) = None

unfoldable pub letter : Rule Kind
letter here = (word >>= (λ bytes. meant here.place (kind_of bytes))) here

unfoldable pub numeral : Rule ℕ
numeral here = (word >>= (λ bytes. meant here.place (word_number bytes))) here

abbrev pub is_split : Kind → Bool
is_split Split = true
is_split Owner = false
is_split Empty = false
is_split NeverNull = false

-- one more node is counted; this number of splits may still open on its path
unfoldable pub count : ℕ → Kind → Rule (Unit {0})
count may_open kind here =
    if nat_le max_nodes here.nodes then Err TooLarge
    else (if is_split kind && may_open == 0 then Err TooDeep
    else Ok (tt, record { place = here.place; nodes = here.nodes + 1; rest = here.rest }))

-- the letter and the number of a node. It is counted as soon as its letter is read
unfoldable pub head : ℕ → Rule Head
head may_open =
    letter >>= (λ kind. count may_open kind >> space >> numeral >>= (λ n. pure (record { kind = kind; number = n })))

-- ---- what an error reports

-- the fault that an error reports: none if memory ran out
abbrev pub cert_fault : CertError → Option CertError
cert_fault OutOfMemory = None
cert_fault (BadToken place) = Some (BadToken place)
cert_fault Ended = Some Ended
cert_fault (Trailing place) = Some (Trailing place)
cert_fault TooLarge = Some TooLarge
cert_fault TooDeep = Some TooDeep
