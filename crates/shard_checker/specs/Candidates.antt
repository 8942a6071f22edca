-- How the program determines whether a value is left for a term, about which no public contract says anything: it tries
-- the least number of the term's range, the numbers that atoms name and those after them, the texts that atoms name and
-- one that none does, and null. `Emptiness` defines what it determines. Certificates are specific to this project, and
-- no section of PostgreSQL's documentation describes them.
use Rattle.std.specs.Prelude.{ℤ, pos, ◌+ℤ◌, int_le, Bool, true, false, not, ◌&&◌, ◌||◌, List, [], ◌∷◌, ◌++◌, map, flat_map, if◌then◌else◌, Option, Some, None}
use Rattle.std.specs.List.{list_any, list_all}
use Rattle.std.specs.Option.{option_map}
use Rattle.filter_tree.specs.Datum.{Constant, Number, Truth, Bytes}
use Rattle.filter_tree.specs.Expr.{AtomOf, Cmp, IsNull, In, Between, Distinct}
use Rattle.filter_tree.specs.Lists.{column_of}
use Rattle.filter_tree.specs.Paths.{Path}
use Rattle.filter_tree.specs.declared.filter.Term.{Term}
use Rattle.filter_tree.specs.declared.table.ColType.{ColType}
use Rattle.filter_tree.specs.declared.table.ColType.TheVariants.{SmallInt, Integer, BigInt, Boolean, Text}
use Rattle.filter_tree.specs.declared.table.Column.{Column}
use Rattle.filter_tree.specs.declared.tri.Tri.{Tri}
use Rattle.shard_checker.specs.Domain.{kind_at, range_of}
use Rattle.shard_checker.specs.Facts.{is_declared, is_said_null, is_present, is_about, leaves, may_be, says_null, says_present}
use Rattle.shard_checker.specs.declared.candidates.Candidate as d
use Rattle.shard_checker.specs.declared.candidates.Tried.{Tried}
use Rattle.shard_checker.specs.declared.candidates.Tried.TheVariants as t
use Rattle.shard_checker.specs.declared.domain.Range.{Range}

-- the number is in the range, and left for the term
abbrev pub serves : Range → Term → Path → ℤ → Bool
serves range term path number =
    int_le range.least number && (int_le number range.greatest && may_be term path (Some (Number number)))

-- the constants that an atom names
abbrev pub constants_of : AtomOf → List Constant
constants_of (Cmp term op constant) = constant ∷ []
constants_of (IsNull column) = []
constants_of (In term constants) = constants
constants_of (Between term low high) = Number low ∷ Number high ∷ []
constants_of (Distinct term constant) = constant ∷ []

-- the number or the next one serves
abbrev pub serves_nearby : Range → Term → Path → ℤ → Bool
serves_nearby range term path number = serves range term path number || serves range term path (number +ℤ pos 1)

-- the constant is a number, and it or the next one serves
abbrev pub gives_number : Range → Term → Path → Constant → Bool
gives_number range term path (Number number) = serves_nearby range term path number
gives_number range term path constant = false

-- a number that the atom names for the term serves, or the next one does
abbrev pub names_number : Range → Term → Path → AtomOf → Bool
names_number range term path atom = is_about term atom && list_any (gives_number range term path) (constants_of atom)

-- an atom of part of the path names a number that serves
abbrev pub has_named_number : Range → Term → Path → Path → Bool
has_named_number range term path part = list_any (λ entry. names_number range term path entry.0) part

-- the least number of the range, the numbers that atoms name, and those after them
abbrev pub has_number : Range → Term → Path → Bool
has_number range term path = serves range term path range.least || has_named_number range term path path

abbrev pub is_text : Constant → Bool
is_text (Bytes text) = true
is_text constant = false

-- the constant is a text that is left for the term
abbrev pub gives_text : Term → Path → Constant → Bool
gives_text term path constant = is_text constant && may_be term path (Some constant)

-- a text that the atom names for the term is left for it
abbrev pub names_text : Term → Path → AtomOf → Bool
names_text term path atom = is_about term atom && list_any (gives_text term path) (constants_of atom)

-- an atom of part of the path names a text that is left for the term
abbrev pub has_named_text : Term → Path → Path → Bool
has_named_text term path part = list_any (λ entry. names_text term path entry.0) part

-- a text that no atom names, and those that atoms name
abbrev pub has_text : Term → Path → Bool
has_text term path = may_be term path None || has_named_text term path path

abbrev pub has_value : ColType → Term → Path → Bool
has_value SmallInt term path = has_number (range_of SmallInt term) term path
has_value Integer term path = has_number (range_of Integer term) term path
has_value BigInt term path = has_number (range_of BigInt term) term path
has_value Boolean term path = may_be term path (Some (Truth true)) || may_be term path (Some (Truth false))
has_value Text term path = has_text term path

-- no value is left: the column is not null, and would have to be, or none of the tried values is left
abbrev pub is_empty : List Column → Term → Path → Bool
is_empty columns term path =
    is_present columns (column_of term) path
    && (is_said_null (column_of term) path || not (has_value (kind_at columns (column_of term)) term path))

-- ---- the candidates of a table

-- a value that a term may have: `None` is null, and a value that is `Some None` is a text that differs from each
-- constant
pub record Candidate : Type 0 where
  pub term : Term
  pub value : Option (Option Constant)

abbrev pub candidate : Term → Option (Option Constant) → Candidate
candidate term value = record { term = term; value = value }

-- a constant as a candidate
abbrev pub constant_candidate : Term → Constant → Candidate
constant_candidate term constant = candidate term (Some (Some constant))

-- the number, if it is in the range
abbrev pub number_in : Range → Term → ℤ → List Candidate
number_in range term number =
    if int_le range.least number && int_le number range.greatest
    then constant_candidate term (Number number) ∷ [] else []

-- the number and the next one, if they are in the range
abbrev pub numbers_nearby : Range → Term → ℤ → List Candidate
numbers_nearby range term number = number_in range term number ++ number_in range term (number +ℤ pos 1)

-- what is tried for a term if an atom names the constant; the term's column has this type
abbrev pub named_by : ColType → Term → Constant → List Candidate
named_by SmallInt term (Number number) = numbers_nearby (range_of SmallInt term) term number
named_by Integer term (Number number) = numbers_nearby (range_of Integer term) term number
named_by BigInt term (Number number) = numbers_nearby (range_of BigInt term) term number
named_by Text term (Bytes text) = constant_candidate term (Bytes text) ∷ []
named_by kind term constant = []

-- what is tried for the term because of the atom
abbrev pub named_in : ColType → Term → AtomOf → List Candidate
named_in kind term atom = if is_about term atom then flat_map (named_by kind term) (constants_of atom) else []

-- what is tried for the term whatever atoms there are
abbrev pub always_tried : ColType → Term → List Candidate
always_tried SmallInt term = number_in (range_of SmallInt term) term (range_of SmallInt term).least
always_tried Integer term = number_in (range_of Integer term) term (range_of Integer term).least
always_tried BigInt term = number_in (range_of BigInt term) term (range_of BigInt term).least
always_tried Boolean term = constant_candidate term (Truth true) ∷ constant_candidate term (Truth false) ∷ []
always_tried Text term = candidate term (Some None) ∷ []

-- null, unless the term's column is declared NOT NULL
abbrev pub null_of : List Column → Term → List Candidate
null_of columns term = if is_declared columns (column_of term) then [] else candidate term None ∷ []

-- what is tried for the term
abbrev pub candidates_of : List Column → List AtomOf → Term → List Candidate
candidates_of columns atoms term =
    null_of columns term
    ++ (always_tried (kind_at columns (column_of term)) term
    ++ flat_map (named_in (kind_at columns (column_of term)) term) atoms)

-- what is tried for the terms
abbrev pub candidates_in : List Column → List AtomOf → List Term → List Candidate
candidates_in columns atoms terms = flat_map (candidates_of columns atoms) terms

-- ---- which candidates remain

-- the atom with this value leaves null for the term
abbrev pub leaves_null : Term → AtomOf → Tri → Bool
leaves_null term atom found = not (says_present (column_of term) atom found)

-- the atom with this value leaves the value for the term
abbrev pub leaves_value : Term → Option Constant → AtomOf → Tri → Bool
leaves_value term value atom found = not (says_null (column_of term) atom found) && leaves term value atom found

abbrev pub leaves_to : Term → Option (Option Constant) → AtomOf → Tri → Bool
leaves_to term None atom found = leaves_null term atom found
leaves_to term (Some value) atom found = leaves_value term value atom found

-- the atom with this value leaves the candidate
abbrev pub leaves_candidate : Candidate → AtomOf → Tri → Bool
leaves_candidate candidate atom found = leaves_to candidate.term candidate.value atom found

-- all that was found leaves the candidate
abbrev pub remains : Path → Candidate → Bool
remains path candidate = list_all (λ entry. leaves_candidate candidate entry.0 entry.1) path

-- ---- the program's candidates

abbrev pub tried_view : Tried → Option Constant
tried_view (t.Int number) = Some (Number number)
tried_view (t.Bool truth) = Some (Truth truth)
tried_view (t.Text text) = Some (Bytes text.now)
tried_view t.OtherText = None

abbrev pub candidate_view : d.Candidate → Candidate
candidate_view tried = candidate tried.term (option_map tried_view tried.value)

abbrev pub candidates_view : List d.Candidate → List Candidate
candidates_view candidates = map candidate_view candidates
