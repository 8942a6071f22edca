-- A token is within the text, which may be cut after it, because it ends with an ASCII character.
use Rattle.std.specs.Prelude.{ℕ, ◌-◌, ◌<◌, ◌≤◌, List, length, slice_index}
use Rattle.copy_both.specs.declared.token.Piece.{Piece}
use Rattle.copy_both.specs.declared.token.Piece.TheVariants.{Blank, Whole, Bad}

-- these first bytes end this way
pub record EndsAscii (text : List ℕ) (n : ℕ) : Type 0 where
  pub some : 0 < n
  pub within : n ≤ length text
  pub last : slice_index text (n - 1) < 128

abbrev pub IsPiece : List ℕ → Piece → Type 0
IsPiece text Blank = EndsAscii text 1
IsPiece text (Whole token n) = EndsAscii text n
IsPiece text Bad = Unit {0}
