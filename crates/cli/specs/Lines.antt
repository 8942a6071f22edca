-- An input that is read as it arrives, by lines: a line counts when its newline has arrived. Two lines that are exactly
-- `%%` separate the lines of a catalog, those of certificates, and those of commands. The format is this program's own.
use Rattle.std.specs.Prelude.{◌≡◌, ◌≢◌, ℕ, Bool, true, false, if◌then◌else◌, List, [], ◌∷◌, ◌++◌, All, Option, Some, None, IfSome, codes}
use Rattle.std.specs.Io.KnownBytes.{Consumes, IsAtEnd}
use Rattle.std.specs.Option.{option_map}
use Rattle.commands.specs.Inputs.{IsUnread}
use Rattle.commands.specs.Output.{ended, text_of}
use Rattle.commands.specs.Parts.{is_newline, is_separator}
use Rattle.commands.specs.declared.failure.Failure.{Failure}
use Rattle.commands.specs.declared.failure.Failure.TheVariants as f
use Rattle.commands.specs.declared.failure.InputFault.TheVariants as i

-- ---- lines

-- a byte in front of the first line, if there is one
abbrev pub onto_ended : ℕ → List (List ℕ) → List (List ℕ)
onto_ended byte [] = []
onto_ended byte (line ∷ lines) = (byte ∷ line) ∷ lines

-- the lines of a text, without their newlines; what comes after the last newline is none
abbrev pub ended_lines : List ℕ → List (List ℕ)
ended_lines [] = []
ended_lines (byte ∷ text) = if is_newline byte then [] ∷ ended_lines text else onto_ended byte (ended_lines text)

-- ---- parts

pub record LineCut : Type 0 where
  pub before : List (List ℕ)
  pub after : List (List ℕ)

abbrev pub onto_before : List ℕ → LineCut → LineCut
onto_before line cut = record { before = line ∷ cut.before; after = cut.after }

-- the lines before the first one that is `%%`, and those after it
abbrev pub cut_lines : List (List ℕ) → Option LineCut
cut_lines [] = None
cut_lines (line ∷ lines) =
    if is_separator line then Some (record { before = []; after = lines })
    else option_map (onto_before line) (cut_lines lines)

-- the lines of the catalog, of the certificates, and of the commands
pub record LineParts : Type 0 where
  pub catalog : List (List ℕ)
  pub certificates : List (List ℕ)
  pub commands : List (List ℕ)

abbrev pub with_catalog : List (List ℕ) → Option LineCut → Option LineParts
with_catalog catalog None = None
with_catalog catalog (Some cut) =
    Some (record { catalog = catalog; certificates = cut.before; commands = cut.after })

abbrev pub parts_by : Option LineCut → Option LineParts
parts_by None = None
parts_by (Some cut) = with_catalog cut.before (cut_lines cut.after)

abbrev pub parts_of : List (List ℕ) → Option LineParts
parts_of lines = parts_by (cut_lines lines)

-- ---- what reading does

-- no byte of a line is a newline
abbrev pub IsPlain : List ℕ → Type 0
IsPlain line = All (λ byte. byte ≢ 10) line

-- a line was read with its newline
pub record ReadsLine (old new : Option (List ℕ)) (line : List ℕ) : Type 0 where
  pub consumed : Consumes old new (line ++ 10 ∷ [])
  pub plain : IsPlain line

-- what was read has no newline, and nothing is left
pub record ReadsLast (old new : Option (List ℕ)) : Type 0 where
  pub bytes : List ℕ
  pub consumed : Consumes old new bytes
  pub plain : IsPlain bytes
  pub at_end : IfSome old (λ bytes. IsAtEnd new)

abbrev pub IsNext : Option (List ℕ) → Option (List ℕ) → List ℕ → Bool → Type 0
IsNext old new line true = ReadsLine old new line
IsNext old new line false = ReadsLast old new

-- some bytes were read
pub record ReadsSome (old new : Option (List ℕ)) : Type 0 where
  pub bytes : List ℕ
  pub consumed : Consumes old new bytes

-- no line is read because memory ran out, or the reader, which may fail, failed
abbrev pub StopsLine : Bool → Failure → Type 0
StopsLine may_fail f.OutOfMemory = Unit {0}
StopsLine may_fail (f.Input i.Unread) = may_fail ≡ true
StopsLine may_fail _ = ⊥

-- Why nothing after these bytes is answered: they are the line `QUIT;`; or nothing is left, and they are no line; or
-- the reader may fail.
pub data AreLast (may_fail : Bool) (old new : Option (List ℕ)) (bytes : List ℕ) : Type 0 where
  Quits : bytes ≡ ended (codes "QUIT;") → AreLast may_fail old new bytes
  Ends : IsPlain bytes → IfSome old (λ all. IsAtEnd new) → AreLast may_fail old new bytes
  Fails : may_fail ≡ true → AreLast may_fail old new bytes

-- no line is `%%`
abbrev pub HasNoSeparator : List (List ℕ) → Type 0
HasNoSeparator lines = All (λ line. is_separator line ≡ false) lines

-- lines and a line `%%` were read, and the text is that of the lines
pub record ReadsPart (old new : Option (List ℕ)) (text : List ℕ) : Type 0 where
  pub lines : List (List ℕ)
  pub consumed : Consumes old new (text_of (lines ++ codes "%%" ∷ []))
  pub plain : All IsPlain lines
  pub whole : HasNoSeparator lines
  pub is : text ≡ text_of lines

-- all that was left was read, and no line of it is `%%`
pub record LacksPart (old new : Option (List ℕ)) : Type 0 where
  pub lines : List (List ℕ)
  pub last : List ℕ
  pub consumed : Consumes old new (text_of lines ++ last)
  pub plain : All IsPlain lines
  pub last_plain : IsPlain last
  pub whole : HasNoSeparator lines
  pub at_end : IfSome old (λ bytes. IsAtEnd new)

-- a part is not read: its end is missing, the input cannot be read, or memory ran out
abbrev pub StopsPart : Bool → Option (List ℕ) → Option (List ℕ) → Failure → Type 0
StopsPart may_fail old new (f.Input i.Parts) = LacksPart old new
StopsPart may_fail old new (f.Input i.Unread) = IsUnread may_fail old
StopsPart may_fail old new f.OutOfMemory = Unit {0}
StopsPart may_fail old new _ = ⊥
