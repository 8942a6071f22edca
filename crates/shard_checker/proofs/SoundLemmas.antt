-- A tree without a refusal at the end of a path: each row that fits the columns and agrees with the path has one owner.
use Rattle.std.proofs.Common.{◌≡◌, ℕ, zero, suc, ◌+◌, Bool, true, false, not, ◌&&◌, ◌||◌, List, [], ◌∷◌, ◌++◌, refl, ◌∙◌, ap, arith}
use Rattle.std.specs.Prelude.{Option, Some, None, if◌then◌else◌, slice_get}
use Rattle.std.proofs.lemmas.Option.{get_or_from_slice_get}
use Rattle.filter_tree.specs.Datum.{Constant, Datum, Missing, Known, value_at}
use Rattle.filter_tree.specs.Expr.{AtomOf, atom_meaning, meaning}
use Rattle.filter_tree.specs.Lists.{column_of}
use Rattle.filter_tree.specs.Mask.{member}
use Rattle.filter_tree.specs.Paths.{Path, Agrees, possible_of}
use Rattle.filter_tree.specs.declared.filter.Term.{Term}
use Rattle.filter_tree.specs.declared.mask.Mask.{Mask}
use Rattle.filter_tree.specs.declared.table.Column.{Column}
use Rattle.filter_tree.specs.declared.table.Table.{Table}
use Rattle.filter_tree.specs.declared.tri.Tri.{Tri}
use Rattle.filter_tree.specs.declared.tri.Tri.TheVariants.{True, False, Null}
use Rattle.filter_tree.proofs.PossibleLemmas.{possible_holds}
use Rattle.replica_identity.specs.Shares.{ShareOf, Nothing, Everything, Where, takes, is_true}
use Rattle.split_cert.specs.Tree.{Tree, Split, Owner, Empty, NeverNull, nodes}
use Rattle.shard_checker.specs.Domain.{kind_at}
use Rattle.shard_checker.specs.Facts.{is_said_null, is_present, is_never_null}
use Rattle.shard_checker.specs.Owners.{share_in, HasOneOwner, is_surely_true, must_take, may_take, is_second, second_owner}
use Rattle.shard_checker.specs.Refusal.{Subject, subject_of, first_refusal, later, second_refusal, owner_refusal, empty_refusal, never_null_refusal, earliest, split_refusal, refusal, PathIsSound}
use Rattle.shard_checker.specs.Rows.{IsTyped}
use Rattle.shard_checker.specs.Candidates.{has_value, is_empty}
use Rattle.shard_checker.specs.declared.error.CheckError.{CheckError}
use Rattle.shard_checker.specs.declared.error.CheckError.TheVariants.{NotEmpty, MayBeNull, NotOwner}
use Rattle.shard_checker.proofs.FactLemmas.{null_is, present_is, never_null_is, value_left}
use Rattle.shard_checker.proofs.RangeLemmas.{known_in_domain}
use Rattle.shard_checker.proofs.ValueLemmas.{value_found}
use Rattle.shard_checker.proofs.OwnerLemmas.{only_owner}
use Rattle.shard_checker.proofs.Testing.{by_either, not_true, clash}
use Rattle.filter_tree.proofs.Tests.{by_test, both_true}

-- ---- nodes that say that a term is empty

known_found : (columns : List Column) (row : List Datum) (term : Term) (path : Path) (value : Constant)
    → IsTyped columns row → Agrees row path
    → value_at row (column_of term) ≡ Known value → has_value (kind_at columns (column_of term)) term path ≡ true
known_found columns row term path value valid agrees is =
    let known = known_in_domain columns term row value valid is in
    value_found (kind_at columns (column_of term)) term path known.value known.in_domain
    (value_left row term known.value path agrees known.is)

-- a row on which the column is not null
some_found : (columns : List Column) (row : List Datum) (term : Term) (path : Path) (value : Datum)
    → IsTyped columns row → Agrees row path
    → (value ≡ Missing → ⊥) → value_at row (column_of term) ≡ value
    → has_value (kind_at columns (column_of term)) term path ≡ true
some_found columns row term path Missing valid agrees present is = absurd (present refl)
some_found columns row term path (Known value) valid agrees present is =
    known_found columns row term path value valid agrees is

-- no row that fits the columns agrees with a path that leaves a term empty
empty_is : (columns : List Column) (row : List Datum) (term : Term) (path : Path) → IsTyped columns row
    → Agrees row path → is_empty columns term path ≡ true → ⊥
empty_is columns row term path valid agrees h =
    let both = both_true (is_present columns (column_of term) path)
    (is_said_null (column_of term) path || not (has_value (kind_at columns (column_of term)) term path)) h in
    let present : value_at row (column_of term) ≡ Missing → ⊥ =
    present_is columns row (column_of term) path valid agrees both.0 in
    by_either (is_said_null (column_of term) path) (not (has_value (kind_at columns (column_of term)) term path)) both.1
    (λ null. present (null_is row (column_of term) path agrees null))
    (λ none. clash (has_value (kind_at columns (column_of term)) term path)
    (some_found columns row term path (value_at row (column_of term)) valid agrees present refl)
    (not_true _ none))

-- a test that decides whether there is a refusal
passed : (b : Bool) (error : CheckError) → (if b then None else Some error) ≡ None → b ≡ true
passed true error h = refl
passed false error h = absurd cc

empty_sound : (subject : Subject) (path : Path) (node : ℕ) (found : Option Term)
    → empty_refusal is_empty subject path node found ≡ None → PathIsSound subject.columns subject.shares path
empty_sound subject path node None h = absurd cc
empty_sound subject path node (Some term) h = record {
  one_owner = λ row valid agrees. absurd
      (empty_is subject.columns row term path valid agrees
      (passed (is_empty subject.columns term path) (NotEmpty subject.table node) h));
}

never_null_sound : (subject : Subject) (path : Path) (node : ℕ) (found : Option AtomOf)
    → never_null_refusal subject path node found ≡ None → PathIsSound subject.columns subject.shares path
never_null_sound subject path node None h = absurd cc
never_null_sound subject path node (Some atom) h = record {
  one_owner = λ row valid agrees. absurd
      (never_null_is subject.columns row atom path valid agrees
      (passed (is_never_null subject.columns atom path) (MayBeNull subject.table node) h));
}

-- ---- nodes that name an owner

surely_true : (mask : Mask) (value : Tri) → is_surely_true mask ≡ true → member mask value ≡ true → is_true value ≡ true
surely_true mask True sure has = refl
surely_true mask False sure has =
    let both = both_true mask.truth (not mask.falsity && not mask.null) sure in
    let rest = both_true (not mask.falsity) (not mask.null) both.1 in
    absurd (clash mask.falsity has (not_true mask.falsity rest.0))
surely_true mask Null sure has =
    let both = both_true mask.truth (not mask.falsity && not mask.null) sure in
    let rest = both_true (not mask.falsity) (not mask.null) both.1 in
    absurd (clash mask.null has (not_true mask.null rest.1))

must_take_is : (share : ShareOf) (row : List Datum) (path : Path) → Agrees row path → must_take share path ≡ true
    → takes share row ≡ true
must_take_is Nothing row path agrees h = absurd cc
must_take_is Everything row path agrees h = refl
must_take_is (Where filter) row path agrees h =
    surely_true (possible_of filter path) (meaning filter row) h (possible_holds filter path row agrees)

has_true : (mask : Mask) (value : Tri) → member mask value ≡ true → is_true value ≡ true → mask.truth ≡ true
has_true mask True has holds = has
has_true mask False has holds = absurd cc
has_true mask Null has holds = absurd cc

may_take_is : (share : ShareOf) (row : List Datum) (path : Path) → Agrees row path → takes share row ≡ true
    → may_take share path ≡ true
may_take_is Nothing row path agrees h = absurd cc
may_take_is Everything row path agrees h = refl
may_take_is (Where filter) row path agrees h =
    has_true (possible_of filter path) (meaning filter row) (possible_holds filter path row agrees) h

first_is_not : (owner number : ℕ) (share : ShareOf) (path : Path) (rest : Option ℕ)
    → (if is_second owner number share path then Some number else rest) ≡ None
    → (is_second owner number share path ≡ false) × (rest ≡ None)
first_is_not owner number share path rest h = by_test (is_second owner number share path)
    (λ second. absurd (let found = rw second at h in cc))
    (λ first. let later : rest ≡ None = rw first at h in (first, later))

no_second : (owner number : ℕ) (shares : List ShareOf) (path : Path) → second_owner owner number shares path ≡ None
    → (other : ℕ) → may_take (share_in shares other) path ≡ true → number + other ≡ owner
no_second owner number [] path h other may = absurd cc
no_second owner number (share ∷ shares) path h zero may =
    let both = first_is_not owner number share path (second_owner owner (number + 1) shares path) h in
    let here = only_owner owner number share path both.0 may in
    omega arith
no_second owner number (share ∷ shares) path h (suc other) may =
    let both = first_is_not owner number share path (second_owner owner (number + 1) shares path) h in
    let there = no_second owner (number + 1) shares path both.1 other may in
    omega arith

no_refusal : (subject : Subject) (node : ℕ) (second : Option ℕ) → second_refusal subject node second ≡ None
    → second ≡ None
no_refusal subject node None h = refl
no_refusal subject node (Some second) h = absurd cc

owner_passed : (owns : Bool) (second : Option CheckError) (not_owner : CheckError)
    → (if owns then second else Some not_owner) ≡ None → (owns ≡ true) × (second ≡ None)
owner_passed true second not_owner h = (refl, h)
owner_passed false second not_owner h = absurd cc

owner_sound : (subject : Subject) (path : Path) (node owner : ℕ) (found : Option ShareOf)
    → slice_get subject.shares owner ≡ found
    → owner_refusal subject path node owner found ≡ None → PathIsSound subject.columns subject.shares path
owner_sound subject path node owner None e h = absurd cc
owner_sound subject path node owner (Some share) e h =
    let both = owner_passed (must_take share path)
    (second_refusal subject node (second_owner owner 0 subject.shares path)) (NotOwner subject.table node) h in
    let alone = no_refusal subject node (second_owner owner 0 subject.shares path) both.1 in
    let is : share_in subject.shares owner ≡ share = get_or_from_slice_get subject.shares owner share Nothing e in
    record {
      one_owner = λ row valid agrees. record {
        owner = owner;
        takes_it = ap (λ s. takes s row) is ∙ must_take_is share row path agrees both.0;
        no_other = λ other h. let there =
            no_second owner 0 subject.shares path alone other
            (may_take_is (share_in subject.shares other) row path agrees h) in omega arith;
      };
    }

-- ---- splits

agrees_longer : (row : List Datum) (path : Path) (atom : AtomOf) (value : Tri) → Agrees row path
    → atom_meaning atom row ≡ value
    → Agrees row (path ++ (atom, value) ∷ [])
agrees_longer row [] atom value agrees is = (is, tt)
agrees_longer row (entry ∷ path) atom value agrees is = (agrees.0, agrees_longer row path atom value agrees.1 is)

pub first_none : (one next : Option CheckError) → earliest one next ≡ None → (one ≡ None) × (next ≡ None)
first_none None next h = (refl, h)
first_none (Some error) next h = absurd cc

-- a row goes to the branch of the value that the atom has on it
one_branch : (columns : List Column) (shares : List ShareOf) (path : Path) (atom : AtomOf)
    → PathIsSound columns shares (path ++ (atom, True) ∷ []) → PathIsSound columns shares (path ++ (atom, False) ∷ [])
    → PathIsSound columns shares (path ++ (atom, Null) ∷ [])
    → (row : List Datum) (value : Tri) → IsTyped columns row → Agrees row path → atom_meaning atom row ≡ value
    → HasOneOwner shares row
one_branch columns shares path atom if_true if_false if_null row True valid agrees is =
    if_true.one_owner row valid (agrees_longer row path atom True agrees is)
one_branch columns shares path atom if_true if_false if_null row False valid agrees is =
    if_false.one_owner row valid (agrees_longer row path atom False agrees is)
one_branch columns shares path atom if_true if_false if_null row Null valid agrees is =
    if_null.one_owner row valid (agrees_longer row path atom Null agrees is)

split_sound : (subject : Subject) (path : Path) (node : ℕ) (found : Option AtomOf)
    (if_true if_false if_null : Path → Option CheckError)
    → ((longer : Path) → if_true longer ≡ None → PathIsSound subject.columns subject.shares longer)
    → ((longer : Path) → if_false longer ≡ None → PathIsSound subject.columns subject.shares longer)
    → ((longer : Path) → if_null longer ≡ None → PathIsSound subject.columns subject.shares longer)
    → split_refusal subject path node found if_true if_false if_null ≡ None
    → PathIsSound subject.columns subject.shares path
split_sound subject path node None if_true if_false if_null at_true at_false at_null h = absurd cc
split_sound subject path node (Some atom) if_true if_false if_null at_true at_false at_null h =
    let both = first_none (if_true (path ++ (atom, True) ∷ []))
    (earliest (if_false (path ++ (atom, False) ∷ [])) (if_null (path ++ (atom, Null) ∷ []))) h in
    let rest = first_none (if_false (path ++ (atom, False) ∷ [])) (if_null (path ++ (atom, Null) ∷ [])) both.1 in
    record {
      one_owner = λ row valid agrees. one_branch subject.columns subject.shares path atom
          (at_true (path ++ (atom, True) ∷ []) both.0) (at_false (path ++ (atom, False) ∷ []) rest.0)
          (at_null (path ++ (atom, Null) ∷ []) rest.1)
          row (atom_meaning atom row) valid agrees refl;
    }

pub refusal_sound : (subject : Subject) (tree : Tree) (path : Path) (node : ℕ)
    → refusal is_empty subject tree path node ≡ None → PathIsSound subject.columns subject.shares path
refusal_sound subject (Split index if_true if_false if_null) path node h =
    split_sound subject path node (slice_get subject.atoms index)
    (λ longer. refusal is_empty subject if_true longer (later node 1))
    (λ longer. refusal is_empty subject if_false longer (later (later node 1) (nodes if_true)))
    (λ longer. refusal is_empty subject if_null longer (later (later (later node 1) (nodes if_true)) (nodes if_false)))
    (λ longer. refusal_sound subject if_true longer (later node 1))
    (λ longer. refusal_sound subject if_false longer (later (later node 1) (nodes if_true)))
    (λ longer. refusal_sound subject if_null longer (later (later (later node 1) (nodes if_true)) (nodes if_false)))
    h
refusal_sound subject (Owner subscriber) path node h =
    owner_sound subject path node subscriber (slice_get subject.shares subscriber) refl h
refusal_sound subject (Empty term) path node h = empty_sound subject path node (slice_get subject.terms term) h
refusal_sound subject (NeverNull index) path node h =
    never_null_sound subject path node (slice_get subject.atoms index) h

-- a certificate without a refusal
pub certificate_sound : (number : ℕ) (table : Table) (shares : List ShareOf) (tree : Tree)
    → first_refusal is_empty number table shares tree ≡ None
    → (row : List Datum) → IsTyped table.columns row → HasOneOwner shares row
certificate_sound number table shares tree h row valid =
    (refusal_sound (subject_of number table.columns shares) tree [] 0 h).one_owner row valid tt
