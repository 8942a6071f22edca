-- What a path says about a row is true of each row that agrees with it.
use Rattle.std.proofs.Common.{◌≡◌, ℕ, ℤ, Bool, true, false, not, ◌&&◌, ◌||◌, List, [], ◌∷◌, refl, sym, ◌∙◌, ap, subst}
use Rattle.std.specs.Prelude.{◌==◌, Option, Some, None, IfSome, if◌then◌else◌, slice_get}
use Rattle.std.specs.List.{list_any}
use Rattle.filter_tree.specs.Datum.{Constant, Number, Truth, Bytes, Datum, Missing, Known, value_at}
use Rattle.filter_tree.specs.Logic.{and_of, tri_of}
use Rattle.filter_tree.specs.Compare.{compare_known}
use Rattle.filter_tree.specs.Expr.{AtomOf, Cmp, IsNull, In, Between, Distinct, remainder_of, term_value, term_of, said_of, atom_meaning}
use Rattle.filter_tree.specs.Lists.{column_of}
use Rattle.filter_tree.specs.Mask.{same_tri}
use Rattle.filter_tree.specs.Paths.{Path, Agrees}
use Rattle.filter_tree.specs.Same.{same_atom}
use Rattle.filter_tree.specs.declared.filter.Op.TheVariants.{Le, Ge}
use Rattle.filter_tree.specs.declared.filter.Term.{Term}
use Rattle.filter_tree.specs.declared.filter.Term.TheVariants.{Col, Mod}
use Rattle.filter_tree.specs.declared.table.Column.{Column}
use Rattle.filter_tree.specs.declared.tri.Tri.{Tri}
use Rattle.filter_tree.specs.declared.tri.Tri.TheVariants.{True, False, Null}
use Rattle.filter_tree.proofs.SameLemmas.{same_atom_is, same_term_is}
use Rattle.shard_checker.specs.Facts.{tells_null, tells_present, says_null, says_present, not_null_in, is_declared, is_said_null, is_present, has_null, is_always_known, is_never_null, holds_of, is_about, leaves, may_be}
use Rattle.shard_checker.specs.Rows.{MayHold, IsTyped}
use Rattle.shard_checker.proofs.Testing.{two_true, by_either, clash, same_number}
use Rattle.filter_tree.proofs.Tests.{both_true}

-- ---- what an atom says about a value

known_tri : (b : Bool) → tri_of b ≡ Null → ⊥
known_tri true h = cc
known_tri false h = cc

both_known : (p q : Bool) → and_of (tri_of p) (tri_of q) ≡ tri_of (p && q)
both_known true true = refl
both_known true false = refl
both_known false true = refl
both_known false false = refl

said_known : (atom : AtomOf) (value : Constant) → said_of atom (Known value) ≡ tri_of (holds_of atom (Some value))
said_known (Cmp term op constant) value = refl
said_known (IsNull column) value = refl
said_known (In term constants) value = refl
said_known (Between term low high) value =
    both_known (compare_known Ge value (Number low)) (compare_known Le value (Number high))
said_known (Distinct term constant) value = refl

said_null : (atom : AtomOf) (value : Datum) → said_of atom value ≡ Null → value ≡ Missing
said_null atom Missing h = refl
said_null atom (Known value) h = absurd (known_tri (holds_of atom (Some value)) (sym (said_known atom value) ∙ h))

tells_of_null : (atom : AtomOf) (value : Datum) (found : Tri) → said_of atom value ≡ found
    → tells_null atom found ≡ true → value ≡ Missing
tells_of_null (Cmp term op constant) value Null said tells = said_null (Cmp term op constant) value said
tells_of_null (Cmp term op constant) value found said tells = absurd cc
tells_of_null (In term constants) value Null said tells = said_null (In term constants) value said
tells_of_null (In term constants) value found said tells = absurd cc
tells_of_null (Between term low high) value Null said tells = said_null (Between term low high) value said
tells_of_null (Between term low high) value found said tells = absurd cc
tells_of_null (IsNull column) Missing found said tells = refl
tells_of_null (IsNull column) (Known value) True said tells = absurd cc
tells_of_null (IsNull column) (Known value) found said tells = absurd cc
tells_of_null (Distinct term constant) value found said tells = absurd cc

never_present : (atom : AtomOf) → tells_present atom (said_of atom Missing) ≡ true → ⊥
never_present (Cmp term op constant) h = cc
never_present (IsNull column) h = cc
never_present (In term constants) h = cc
never_present (Between term low high) h = cc
never_present (Distinct term constant) h = cc

always_said : (atom : AtomOf) (value : Datum) → is_always_known atom ≡ true → said_of atom value ≡ Null → ⊥
always_said (IsNull column) Missing always h = cc
always_said (Distinct term constant) Missing always h = cc
always_said (Cmp term op constant) Missing always h = cc
always_said (In term constants) Missing always h = cc
always_said (Between term low high) Missing always h = cc
always_said atom (Known value) always h = let gone : Known value ≡ Missing = said_null atom (Known value) h in cc

-- ---- null

remainder_missing : (value : Datum) (divisor : ℤ) → remainder_of value divisor ≡ Missing → value ≡ Missing
remainder_missing Missing divisor h = refl
remainder_missing (Known (Number n)) divisor h = absurd cc
remainder_missing (Known (Truth b)) divisor h = absurd cc
remainder_missing (Known (Bytes s)) divisor h = absurd cc

term_missing : (term : Term) (row : List Datum) → term_value term row ≡ Missing
    → value_at row (column_of term) ≡ Missing
term_missing (Col column) row h = h
term_missing (Mod column divisor) row h = remainder_missing (value_at row column) divisor h

missing_term : (term : Term) (row : List Datum) → value_at row (column_of term) ≡ Missing
    → term_value term row ≡ Missing
missing_term (Col column) row h = h
missing_term (Mod column divisor) row h = ap (λ value. remainder_of value divisor) h

says_null_is : (row : List Datum) (column : ℕ) (atom : AtomOf) (value : Tri) → atom_meaning atom row ≡ value
    → says_null column atom value ≡ true → value_at row column ≡ Missing
says_null_is row column atom value meant says =
    let both = both_true (tells_null atom value) (column_of (term_of atom) == column) says in
    subst (λ k. value_at row k ≡ Missing) (same_number (column_of (term_of atom)) column both.1)
    (term_missing (term_of atom) row (tells_of_null atom (term_value (term_of atom) row) value meant both.0))

pub null_is : (row : List Datum) (column : ℕ) (path : Path) → Agrees row path → is_said_null column path ≡ true
    → value_at row column ≡ Missing
null_is row column [] agrees h = absurd cc
null_is row column (entry ∷ path) agrees h =
    by_either (says_null column entry.0 entry.1) (is_said_null column path) h
    (λ here. says_null_is row column entry.0 entry.1 agrees.0 here)
    (λ there. null_is row column path agrees.1 there)

says_present_is : (row : List Datum) (column : ℕ) (atom : AtomOf) (value : Tri) → atom_meaning atom row ≡ value
    → says_present column atom value ≡ true → value_at row column ≡ Missing → ⊥
says_present_is row column atom value meant says missing =
    let both = both_true (tells_present atom value) (column_of (term_of atom) == column) says in
    let there : value_at row (column_of (term_of atom)) ≡ Missing =
    subst (λ k. value_at row k ≡ Missing) (sym (same_number (column_of (term_of atom)) column both.1)) missing in
    let gone : term_value (term_of atom) row ≡ Missing = missing_term (term_of atom) row there in
    never_present atom (subst (λ found. tells_present atom found ≡ true) (sym meant ∙ ap (said_of atom) gone) both.0)

declared_in : (found : Option Column) (value : Datum) → IfSome found (λ column. MayHold column value)
    → not_null_in found ≡ true → value ≡ Missing → ⊥
declared_in None value fits declared missing = cc
declared_in (Some column) Missing fits declared missing = clash column.not_null declared fits
declared_in (Some column) (Known value) fits declared missing = cc

pub declared_is : (columns : List Column) (row : List Datum) (column : ℕ) → IsTyped columns row
    → is_declared columns column ≡ true → value_at row column ≡ Missing → ⊥
declared_is columns row column valid declared missing =
    declared_in (slice_get columns column) (value_at row column) (valid.fits column) declared missing

some_present_is : (row : List Datum) (column : ℕ) (path : Path) → Agrees row path
    → list_any (λ entry. says_present column entry.0 entry.1) path ≡ true → value_at row column ≡ Missing → ⊥
some_present_is row column [] agrees h missing = cc
some_present_is row column (entry ∷ path) agrees h missing =
    by_either (says_present column entry.0 entry.1) (list_any (λ entry. says_present column entry.0 entry.1) path) h
    (λ here. says_present_is row column entry.0 entry.1 agrees.0 here missing)
    (λ there. some_present_is row column path agrees.1 there missing)

pub present_is : (columns : List Column) (row : List Datum) (column : ℕ) (path : Path) → IsTyped columns row
    → Agrees row path
    → is_present columns column path ≡ true → value_at row column ≡ Missing → ⊥
present_is columns row column path valid agrees h missing =
    by_either (is_declared columns column) (list_any (λ entry. says_present column entry.0 entry.1) path) h
    (λ declared. declared_is columns row column valid declared missing)
    (λ found. some_present_is row column path agrees found missing)

same_null : (value : Tri) → same_tri value Null ≡ true → value ≡ Null
same_null Null h = refl
same_null True h = absurd cc
same_null False h = absurd cc

has_null_is : (row : List Datum) (atom : AtomOf) (path : Path) → Agrees row path → has_null atom path ≡ true
    → atom_meaning atom row ≡ Null
has_null_is row atom [] agrees h = absurd cc
has_null_is row atom (entry ∷ path) agrees h =
    by_either (same_atom atom entry.0 && same_tri entry.1 Null) (has_null atom path) h
    (λ here. let both = both_true (same_atom atom entry.0) (same_tri entry.1 Null) here in
    ap (λ c. atom_meaning c row) (same_atom_is atom entry.0 both.0) ∙ (agrees.0 ∙ same_null entry.1 both.1))
    (λ there. has_null_is row atom path agrees.1 there)

null_atom : (columns : List Column) (row : List Datum) (atom : AtomOf) → IsTyped columns row
    → atom_meaning atom row ≡ Null
    → (is_always_known atom || is_declared columns (column_of (term_of atom))) ≡ true → ⊥
null_atom columns row atom valid null h =
    by_either (is_always_known atom) (is_declared columns (column_of (term_of atom))) h
    (λ always. always_said atom (term_value (term_of atom) row) always null)
    (λ declared. declared_is columns row (column_of (term_of atom)) valid declared
    (term_missing (term_of atom) row (said_null atom (term_value (term_of atom) row) null)))

-- no row that fits the columns agrees with a path on which an atom is null that is never null
pub never_null_is : (columns : List Column) (row : List Datum) (atom : AtomOf) (path : Path) → IsTyped columns row
    → Agrees row path
    → is_never_null columns atom path ≡ true → ⊥
never_null_is columns row atom path valid agrees h =
    let both = both_true (has_null atom path) (is_always_known atom || is_declared columns (column_of (term_of atom)))
    h in
    null_atom columns row atom valid (has_null_is row atom path agrees both.0) both.1

-- ---- values

tri_true : (b : Bool) → tri_of b ≡ True → b ≡ true
tri_true true h = refl
tri_true false h = absurd cc

tri_false : (b : Bool) → tri_of b ≡ False → not b ≡ true
tri_false true h = absurd cc
tri_false false h = refl

-- a test that counts only if another test passes
counts_where : (b p : Bool) → (b ≡ true → p ≡ true) → (if b then p else true) ≡ true
counts_where true p h = h refl
counts_where false p h = refl

about_is : (term : Term) (atom : AtomOf) → is_about term atom ≡ true → term_of atom ≡ term
about_is term (Cmp other op constant) about = same_term_is other term about
about_is term (IsNull column) about = absurd cc
about_is term (In other constants) about = same_term_is other term about
about_is term (Between other low high) about = same_term_is other term about
about_is term (Distinct other constant) about = same_term_is other term about

meant_of : (row : List Datum) (term : Term) (value : Constant) (atom : AtomOf) → term_value term row ≡ Known value
    → is_about term atom ≡ true
    → atom_meaning atom row ≡ tri_of (holds_of atom (Some value))
meant_of row term value atom is about = ap (λ t. said_of atom (term_value t row)) (about_is term atom about)
    ∙ ap (said_of atom) is ∙ said_known atom value

leaves_found : (row : List Datum) (term : Term) (value : Constant) (atom : AtomOf) (found : Tri)
    → atom_meaning atom row ≡ found
    → term_value term row ≡ Known value → leaves term (Some value) atom found ≡ true
leaves_found row term value atom True meant is = counts_where (is_about term atom) (holds_of atom (Some value))
    (λ about. tri_true (holds_of atom (Some value)) (sym (meant_of row term value atom is about) ∙ meant))
leaves_found row term value atom False meant is = counts_where (is_about term atom) (not (holds_of atom (Some value)))
    (λ about. tri_false (holds_of atom (Some value)) (sym (meant_of row term value atom is about) ∙ meant))
leaves_found row term value atom Null meant is = refl

-- what was found leaves the value that a term has on a row
pub value_left : (row : List Datum) (term : Term) (value : Constant) (path : Path) → Agrees row path
    → term_value term row ≡ Known value
    → may_be term path (Some value) ≡ true
value_left row term value [] agrees is = refl
value_left row term value (entry ∷ path) agrees is =
    two_true (leaves term (Some value) entry.0 entry.1) (may_be term path (Some value))
    (leaves_found row term value entry.0 entry.1 agrees.0 is) (value_left row term value path agrees.1 is)
