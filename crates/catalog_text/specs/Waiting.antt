-- What is still to be written of a filter, as a list whose last piece comes first: the text of the pieces, and how many
-- steps writing them takes. This is specific to this project.
use Rattle.std.specs.Prelude.{ℕ, ◌+◌, Bool, true, false, List, [], ◌∷◌, ◌++◌, codes}
use Rattle.filter_tree.specs.Expr.{Expr, Const, Atom, Not, And, Or, Is}
use Rattle.filter_tree.specs.Shape.{expr_view}
use Rattle.filter_tree.specs.declared.table.Column.{Column}
use Rattle.catalog_text.specs.FilterText.{text_if, is_below, expr_text}
use Rattle.catalog_text.specs.declared.filter.Piece.{Piece}
use Rattle.catalog_text.specs.declared.filter.Piece.TheVariants.{Words, Part, Tail}
use Rattle.catalog_text.specs.declared.level.Level.{Level}
use Rattle.catalog_text.specs.declared.level.Level.TheVariants as level

-- what comes before the words of a part, or of NOT of it
abbrev pub head : Level → Bool → Level → List ℕ
head wanted true own =
    text_if (is_below level.Not wanted) (codes "(") ++ (codes "NOT " ++ text_if (is_below own level.Not) (codes "("))
head wanted false own = text_if (is_below own wanted) (codes "(")

-- and what comes after them
abbrev pub tail : Level → Bool → Level → List ℕ
tail wanted true own = text_if (is_below own level.Not) (codes ")") ++ text_if (is_below level.Not wanted) (codes ")")
tail wanted false own = text_if (is_below own wanted) (codes ")")

abbrev pub piece_text : List Column → Piece → List ℕ
piece_text columns (Words words) = words.now
piece_text columns (Part context part) = expr_text columns context.wanted context.negated (expr_view part.now)
piece_text columns (Tail context own) = tail context.wanted context.negated own

unfoldable pub waiting_text : List Column → List Piece → List ℕ
waiting_text columns [] = []
waiting_text columns (piece ∷ pieces) = waiting_text columns pieces ++ piece_text columns piece

-- each piece is one step; a part takes one step, and those of the pieces that it makes
abbrev pub expr_steps : Expr → ℕ
expr_steps (Const known) = 1
expr_steps (Atom atom) = 1
expr_steps (Not part) = 2 + expr_steps part
expr_steps (And left right) = 3 + expr_steps left + expr_steps right
expr_steps (Or left right) = 3 + expr_steps left + expr_steps right
expr_steps (Is test part) = 5 + expr_steps part

abbrev pub piece_steps : Piece → ℕ
piece_steps (Words words) = 1
piece_steps (Part context part) = expr_steps (expr_view part.now)
piece_steps (Tail context own) = 1

unfoldable pub waiting_steps : List Piece → ℕ
waiting_steps [] = 0
waiting_steps (piece ∷ pieces) = waiting_steps pieces + piece_steps piece
