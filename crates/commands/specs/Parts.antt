-- The parts of an input and the lines of a part, in the program's own format: a newline ends a line, and a last line
-- that has none counts if it is not empty. Parts are divided by lines that are exactly `%%`.
use Rattle.std.specs.Prelude.{ℕ, ◌==◌, Bool, true, ◌&&◌, if◌then◌else◌, List, [], ◌∷◌, Option, Some, None, is_none, codes}
use Rattle.std.specs.Option.{option_map}
use Rattle.std.specs.List.{before_first, after_first}
use Rattle.std.specs.Str.{bytes_eq}
use Rattle.commands.specs.declared.parts.Lines.{Lines}

abbrev pub is_newline : ℕ → Bool
is_newline byte = byte == 10

-- the first line of a text, without its newline
abbrev pub first_line : List ℕ → List ℕ
first_line text = before_first is_newline text

-- the text after the first line and its newline
abbrev pub after_line : List ℕ → List ℕ
after_line text = after_first is_newline text

-- a byte in front of the first line
abbrev pub onto_line : ℕ → List (List ℕ) → List (List ℕ)
onto_line byte [] = (byte ∷ []) ∷ []
onto_line byte (line ∷ lines) = (byte ∷ line) ∷ lines

-- the lines of a text, without their newlines
abbrev pub lines_of : List ℕ → List (List ℕ)
lines_of [] = []
lines_of (byte ∷ text) = if is_newline byte then [] ∷ lines_of text else onto_line byte (lines_of text)

-- what an iterator over lines has left
abbrev pub lines_left : Lines → List (List ℕ)
lines_left lines = lines_of lines.rest.now

-- a text cut in two: the part before a separator, and the text after it
pub record CutOnce : Type 0 where
  pub part : List ℕ
  pub rest : List ℕ

abbrev pub onto_part : ℕ → CutOnce → CutOnce
onto_part byte cut = record { part = byte ∷ cut.part; rest = cut.rest }

abbrev pub is_separator : List ℕ → Bool
is_separator line = bytes_eq line (codes "%%")

-- the cut at the first line that is `%%`; `starts` says that a line starts here
abbrev pub cut_from : Bool → List ℕ → Option CutOnce
cut_from starts [] = None
cut_from starts (byte ∷ text) =
    if starts && is_separator (first_line (byte ∷ text)) then
    Some (record { part = []; rest = after_line (byte ∷ text) })
    else option_map (onto_part byte) (cut_from (is_newline byte) text)

abbrev pub cut_of : List ℕ → Option CutOnce
cut_of text = cut_from true text

-- a cut after which there is no other
abbrev pub only_cut : Option CutOnce → Option CutOnce
only_cut None = None
only_cut (Some cut) = if is_none (cut_of cut.rest) then Some cut else None

-- the parts of a text that has two
abbrev pub two_parts : List ℕ → Option CutOnce
two_parts text = only_cut (cut_of text)

-- ---- three parts

pub record CutTwice : Type 0 where
  pub first : List ℕ
  pub second : List ℕ
  pub third : List ℕ

abbrev pub after_part : List ℕ → Option CutOnce → Option CutTwice
after_part first None = None
after_part first (Some cut) = Some (record { first = first; second = cut.part; third = cut.rest })

-- a cut whose rest has two parts
abbrev pub cut_again : Option CutOnce → Option CutTwice
cut_again None = None
cut_again (Some cut) = after_part cut.part (two_parts cut.rest)

-- the parts of a text that has three
abbrev pub three_parts : List ℕ → Option CutTwice
three_parts text = cut_again (cut_of text)
