-- What the atoms that were found on the way to a node say about a row there: that a column is null or is not, and which
-- constants a term may be. Restates "9.2 Comparison Functions and Operators" and IN of "9.24 Row and Array
-- Comparisons": all of them but `IS NULL` and `IS DISTINCT FROM` are null if their column is null, and only then.
use Rattle.std.specs.Prelude.{ℕ, ◌==◌, Bool, true, false, not, ◌&&◌, ◌||◌, if◌then◌else◌, List, Option, Some, None, slice_get}
use Rattle.std.specs.List.{list_any, list_all}
use Rattle.filter_tree.specs.Datum.{Constant, Number, Bytes}
use Rattle.filter_tree.specs.Compare.{compare_known}
use Rattle.filter_tree.specs.Expr.{AtomOf, Cmp, IsNull, In, Between, Distinct, term_of}
use Rattle.filter_tree.specs.Lists.{column_of}
use Rattle.filter_tree.specs.Mask.{same_tri}
use Rattle.filter_tree.specs.Paths.{Path}
use Rattle.filter_tree.specs.Same.{same_term, same_atom}
use Rattle.filter_tree.specs.declared.filter.Op.{Op}
use Rattle.filter_tree.specs.declared.filter.Op.TheVariants.{Eq, Ne, Le, Ge}
use Rattle.filter_tree.specs.declared.filter.Term.{Term}
use Rattle.filter_tree.specs.declared.table.Column.{Column}
use Rattle.filter_tree.specs.declared.tri.Tri.{Tri}
use Rattle.filter_tree.specs.declared.tri.Tri.TheVariants.{True, False, Null}

-- ---- null

-- the atom has this value only if its column is null: `IS NULL` is true, or a comparison, IN or BETWEEN is null
abbrev pub tells_null : AtomOf → Tri → Bool
tells_null (Cmp term op constant) value = same_tri value Null
tells_null (IsNull column) value = same_tri value True
tells_null (In term constants) value = same_tri value Null
tells_null (Between term low high) value = same_tri value Null
tells_null (Distinct term constant) value = false

-- the atom has this value only if its column is not null: `IS NULL` or `IS DISTINCT FROM` is false, or a comparison, IN
-- or BETWEEN is known
abbrev pub tells_present : AtomOf → Tri → Bool
tells_present (Cmp term op constant) value = not (same_tri value Null)
tells_present (IsNull column) value = same_tri value False
tells_present (In term constants) value = not (same_tri value Null)
tells_present (Between term low high) value = not (same_tri value Null)
tells_present (Distinct term constant) value = same_tri value False

-- the atom with this value says that the column is null
abbrev pub says_null : ℕ → AtomOf → Tri → Bool
says_null column atom value = tells_null atom value && (column_of (term_of atom) == column)

-- it says that the column is not null
abbrev pub says_present : ℕ → AtomOf → Tri → Bool
says_present column atom value = tells_present atom value && (column_of (term_of atom) == column)

abbrev pub not_null_in : Option Column → Bool
not_null_in None = false
not_null_in (Some column) = column.not_null

-- the column is declared NOT NULL
abbrev pub is_declared : List Column → ℕ → Bool
is_declared columns column = not_null_in (slice_get columns column)

-- some atom says that the column is null
abbrev pub is_said_null : ℕ → Path → Bool
is_said_null column path = list_any (λ entry. says_null column entry.0 entry.1) path

-- some atom says that the column is not null
abbrev pub is_found_present : ℕ → Path → Bool
is_found_present column path = list_any (λ entry. says_present column entry.0 entry.1) path

-- the column is declared NOT NULL, or some atom says that it is not null
abbrev pub is_present : List Column → ℕ → Path → Bool
is_present columns column path = is_declared columns column || is_found_present column path

abbrev pub is_this_null : AtomOf → AtomOf → Tri → Bool
is_this_null wanted atom value = same_atom wanted atom && same_tri value Null

-- the atom was found to be null
abbrev pub has_null : AtomOf → Path → Bool
has_null wanted path = list_any (λ entry. is_this_null wanted entry.0 entry.1) path

-- the atom is true or false for each value, and for null
abbrev pub is_always_known : AtomOf → Bool
is_always_known (Cmp term op constant) = false
is_always_known (IsNull column) = true
is_always_known (In term constants) = false
is_always_known (Between term low high) = false
is_always_known (Distinct term constant) = true

-- the atom was found to be null, which it cannot be: it is an `IS NULL` or an `IS DISTINCT FROM`, or its column is
-- declared NOT NULL
abbrev pub is_never_null : List Column → AtomOf → Path → Bool
is_never_null columns atom path =
    has_null atom path && (is_always_known atom || is_declared columns (column_of (term_of atom)))

-- ---- values

-- the comparison holds for a value; `None` is a text that differs from each constant
abbrev pub compares : Op → Option Constant → Constant → Bool
compares op (Some value) constant = compare_known op value constant
compares Ne None (Bytes text) = true
compares op None constant = false

-- the atom is true for a value, which is not null; `None` is a text that differs from each constant that the atom names
abbrev pub holds_of : AtomOf → Option Constant → Bool
holds_of (Cmp term op constant) value = compares op value constant
holds_of (IsNull column) value = false
holds_of (In term constants) value = list_any (compares Eq value) constants
holds_of (Between term low high) value = compares Ge value (Number low) && compares Le value (Number high)
holds_of (Distinct term constant) value = compares Ne value constant

-- the atom is a test of the values of the term; all atoms on the term but `IS NULL` are
abbrev pub is_about : Term → AtomOf → Bool
is_about term (Cmp other op constant) = same_term other term
is_about term (IsNull column) = false
is_about term (In other constants) = same_term other term
is_about term (Between other low high) = same_term other term
is_about term (Distinct other constant) = same_term other term

-- what was found for the atom leaves this value for the term: if it is a test of the term and is true or false, it is
-- so for the value
abbrev pub leaves : Term → Option Constant → AtomOf → Tri → Bool
leaves term value atom True = if is_about term atom then holds_of atom value else true
leaves term value atom False = if is_about term atom then not (holds_of atom value) else true
leaves term value atom Null = true

-- all that was found leaves this value for the term
abbrev pub may_be : Term → Path → Option Constant → Bool
may_be term path value = list_all (λ entry. leaves term value entry.0 entry.1) path
