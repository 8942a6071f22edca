-- Numbered filters joined by OR: PostgreSQL 15, 9.1 Logical Operators.
use Rattle.std.specs.Prelude.{◌≡◌, ◌==◌, ◌||◌, ℕ, Bool, true, false, not, bit_and}
use Rattle.filter_tree.specs.Logic.{or_of, not_of}
use Rattle.filter_tree.specs.declared.tri.Tri.{Tri}
use Rattle.filter_memo.specs.Bits.{IsSplit, said_at, tri_by}
use Rattle.filter_memo.specs.declared.clause.Clause.{Clause}
use Rattle.filter_memo.specs.declared.clause.Values.{Values}
use Rattle.filter_memo.specs.declared.said.Said.{Said}

-- some bit is set in both words
abbrev pub meet : ℕ → ℕ → Bool
meet word mask = not (bit_and word mask == 0)

-- true where one of the filters is true, or one of the negated ones is false; else null where one of them is null
abbrev pub clause_says : Clause → Values → Tri
clause_says clause values =
    tri_by (meet values.truths clause.truths || meet values.falses clause.falses)
    (meet values.nulls clause.truths || meet values.nulls clause.falses)

abbrev pub negated_if : Bool → Tri → Tri
negated_if true tri = not_of tri
negated_if false tri = tri

-- the filter with this number, or its negation
pub record IsLiteral (clause : Clause) (number : ℕ) (is_negated : Bool) : Type 0 where
  pub says : (said : Said) (values : Values) → IsSplit said values
      → clause_says clause values ≡ negated_if is_negated (said_at said number)

-- one of the clauses or the other
pub record IsEither (one other both : Clause) : Type 0 where
  pub says : (values : Values) → clause_says both values ≡ or_of (clause_says one values) (clause_says other values)
