-- What the first refusal says about the node that it names is true.
use Rattle.std.proofs.Common.{◌≡◌, ℕ, zero, suc, ◌+◌, ◌<◌, Bool, true, false, not, List, [], ◌∷◌, ◌++◌, refl, ◌∙◌, subst, inl, inr, arith}
use Rattle.std.specs.Prelude.{Option, Some, None, if◌then◌else◌, ◌==◌, ◌⊎◌, slice_get}
use Rattle.std.specs.Cmp.{unsigned_Decides}
use Rattle.filter_tree.specs.Expr.{AtomOf}
use Rattle.filter_tree.specs.Paths.{Path}
use Rattle.filter_tree.specs.declared.filter.Term.{Term}
use Rattle.filter_tree.specs.declared.table.Table.{Table}
use Rattle.filter_tree.specs.declared.tri.Tri.TheVariants.{True, False, Null}
use Rattle.replica_identity.specs.Shares.{ShareOf}
use Rattle.split_cert.specs.Tree.{Tree, Split, Owner, Empty, NeverNull, nodes}
use Rattle.shard_checker.specs.Facts.{is_never_null}
use Rattle.shard_checker.specs.Owners.{share_in, must_take, may_take, is_second, second_owner}
use Rattle.shard_checker.specs.Refusal.{Subject, subject_of, later, second_refusal, others_refusal, owner_refusal, empty_refusal, never_null_refusal, earliest, split_refusal, refusal, first_refusal}
use Rattle.shard_checker.specs.Candidates.{is_empty}
use Rattle.shard_checker.specs.Truth.{IsLeastOther, HasSecond, EmptyIsWrong, NeverNullIsWrong, OwnerIsWrong, SplitIsWrong, IsWrong, CertificateIsWrong}
use Rattle.shard_checker.specs.declared.error.CheckError.{CheckError}
use Rattle.shard_checker.specs.declared.error.CheckError.TheVariants.{BadIndex, NotEmpty, MayBeNull, NotOwner, SecondOwner}
use Rattle.shard_checker.proofs.EmptyLemmas.{not_empty_has}
use Rattle.shard_checker.proofs.OwnerLemmas.{only_owner}
use Rattle.shard_checker.proofs.Testing.{not_true, clash}
use Rattle.filter_tree.proofs.Tests.{by_test, both_true}

pub same_some : (one other : CheckError) → Some one ≡ Some other → other ≡ one
same_some one other h = cc

-- a test that decides whether there is a refusal
pub failed : (b : Bool) (one error : CheckError) → (if b then None else Some one) ≡ Some error → (b ≡ false)
    × (error ≡ one)
failed true one error h = absurd cc
failed false one error h = (refl, same_some one error h)

empty_wrong : (subject : Subject) (path : Path) (node : ℕ) (found : Option Term) (error : CheckError)
    → empty_refusal is_empty subject path node found ≡ Some error → EmptyIsWrong subject path node found error
empty_wrong subject path node None error h = same_some (BadIndex subject.table node) error h
empty_wrong subject path node (Some term) error h =
    let both = failed (is_empty subject.columns term path) (NotEmpty subject.table node) error h in
    (both.1, not_empty_has subject.columns term path both.0)

never_null_wrong : (subject : Subject) (path : Path) (node : ℕ) (found : Option AtomOf) (error : CheckError)
    → never_null_refusal subject path node found ≡ Some error → NeverNullIsWrong subject path node found error
never_null_wrong subject path node None error h = same_some (BadIndex subject.table node) error h
never_null_wrong subject path node (Some atom) error h =
    let both = failed (is_never_null subject.columns atom path) (MayBeNull subject.table node) error h in
    (both.1, both.0)

-- ---- owners

-- what the search for a second owner finds, in a list whose first share has this number
record IsFound (owner number second : ℕ) (shares : List ShareOf) (path : Path) : Type 0 where
  place : ℕ
  at : second ≡ number + place
  other : second ≡ owner → ⊥
  may : may_take (share_in shares place) path ≡ true
  least : (earlier : ℕ) → earlier < place → may_take (share_in shares earlier) path ≡ true → number + earlier ≡ owner

second_is : (owner number : ℕ) (share : ShareOf) (path : Path) → is_second owner number share path ≡ true
    → (number ≡ owner → ⊥) × (may_take share path ≡ true)
second_is owner number share path h =
    let both = both_true (not (number == owner)) (may_take share path) h in
    ((λ same. clash (number == owner) ((unsigned_Decides number owner).1 same) (not_true _ both.0)), both.1)

least_before : (owner number : ℕ) (share : ShareOf) (shares : List ShareOf) (path : Path) (place : ℕ)
    → is_second owner number share path ≡ false
    → ((earlier : ℕ) → earlier < place → may_take (share_in shares earlier) path ≡ true → number + 1 + earlier ≡ owner)
    → (earlier : ℕ) → earlier < suc place → may_take (share_in (share ∷ shares) earlier) path ≡ true
    → number + earlier ≡ owner
least_before owner number share shares path place first least zero below may = let is =
    only_owner owner number share path first may in omega arith
least_before owner number share shares path place first least (suc earlier) below may = let is =
    least earlier (omega arith) may in omega arith

found_by : (owner number : ℕ) (share : ShareOf) (path : Path) (rest : Option ℕ) (second : ℕ)
    → (if is_second owner number share path then Some number else rest) ≡ Some second
    → ((is_second owner number share path ≡ true) × (number ≡ second)) ⊎
    ((is_second owner number share path ≡ false) × (rest ≡ Some second))
found_by owner number share path rest second h = by_test (is_second owner number share path)
    (λ here. let found : Some number ≡ Some second = rw here at h in let same : number ≡ second = cc in
    inl (here, same))
    (λ there. let found : rest ≡ Some second = rw there at h in inr (there, found))

found_in : (owner number : ℕ) (share : ShareOf) (shares : List ShareOf) (path : Path) (second : ℕ)
    → (second_owner owner (number + 1) shares path ≡ Some second → IsFound owner (number + 1) second shares path)
    → ((is_second owner number share path ≡ true) × (number ≡ second)) ⊎
    ((is_second owner number share path ≡ false) × (second_owner owner (number + 1) shares path ≡ Some second))
    → IsFound owner number second (share ∷ shares) path
found_in owner number share shares path second later (inl here) =
    let is = second_is owner number share path here.0 in
    record {
      place = 0;
      at = omega (arith, here.1);
      other = λ same. is.0 (here.1 ∙ same);
      may = is.1;
      least = λ earlier below may. absurd (omega arith);
    }
found_in owner number share shares path second later (inr there) =
    let rest = later there.1 in
    record {
      place = suc rest.place;
      at = omega (arith, rest.at);
      other = rest.other;
      may = rest.may;
      least = least_before owner number share shares path rest.place there.0 rest.least;
    }

found_is : (owner number : ℕ) (shares : List ShareOf) (path : Path) (second : ℕ)
    → second_owner owner number shares path ≡ Some second → IsFound owner number second shares path
found_is owner number [] path second h = absurd cc
found_is owner number (share ∷ shares) path second h =
    found_in owner number share shares path second (λ later. found_is owner (number + 1) shares path second later)
    (found_by owner number share path (second_owner owner (number + 1) shares path) second h)

least_other : (owner second : ℕ) (shares : List ShareOf) (path : Path)
    → second_owner owner 0 shares path ≡ Some second → IsLeastOther shares path owner second
least_other owner second shares path h =
    let found = found_is owner 0 shares path second h in
    let same : found.place ≡ second = omega (arith, found.at) in
    record {
      other = found.other;
      may = subst (λ k. may_take (share_in shares k) path ≡ true) same found.may;
      least = λ number below may. let is = found.least number (omega (arith, same)) may in omega (arith, is);
    }

others_wrong : (subject : Subject) (path : Path) (node owner : ℕ) (error : CheckError) (found : Option ℕ)
    → second_owner owner 0 subject.shares path ≡ found
    → second_refusal subject node found ≡ Some error → HasSecond subject path node owner error
others_wrong subject path node owner error None e h = absurd cc
others_wrong subject path node owner error (Some second) e h =
    record {
      second = second;
      is = same_some (SecondOwner subject.table node second) error h;
      least =
          least_other owner second subject.shares path e;
    }

owner_wrong : (subject : Subject) (path : Path) (node owner : ℕ) (found : Option ShareOf) (error : CheckError)
    → owner_refusal subject path node owner found ≡ Some error
    → OwnerIsWrong subject path node owner found error
owner_wrong subject path node owner None error h = same_some (BadIndex subject.table node) error h
owner_wrong subject path node owner (Some share) error h = by_test (must_take share path)
    (λ takes_it. let rest : others_refusal subject path node owner ≡ Some error = rw takes_it at h in
    inr (others_wrong subject path node owner error (second_owner owner 0 subject.shares path) refl rest))
    (λ leaves_it. let rest : Some (NotOwner subject.table node) ≡ Some error = rw leaves_it at h in
    inl (same_some (NotOwner subject.table node) error rest, leaves_it))

-- ---- trees

first_some : (one next : Option CheckError) (error : CheckError) → earliest one next ≡ Some error
    → (one ≡ Some error) ⊎ (next ≡ Some error)
first_some None next error h = inr h
first_some (Some one) next error h = inl h

of_three : {A B C : Type 0} (one two three : Option CheckError) (error : CheckError) → (one ≡ Some error → A)
    → (two ≡ Some error → B) → (three ≡ Some error → C)
    → (one ≡ Some error) ⊎ (earliest two three ≡ Some error) → A ⊎ (B ⊎ C)
of_three one two three error at_one at_two at_three (inl h) = inl (at_one h)
of_three one None three error at_one at_two at_three (inr h) = inr (inr (at_three h))
of_three one (Some two) three error at_one at_two at_three (inr h) = inr (inl (at_two h))

split_wrong : (subject : Subject) (path : Path) (node : ℕ) (found : Option AtomOf) (error : CheckError)
    (if_true if_false if_null : Path → Option CheckError)
    (true_wrong false_wrong null_wrong : Path → Type 0)
    → ((longer : Path) → if_true longer ≡ Some error → true_wrong longer)
    → ((longer : Path) → if_false longer ≡ Some error → false_wrong longer)
    → ((longer : Path) → if_null longer ≡ Some error → null_wrong longer)
    → split_refusal subject path node found if_true if_false if_null ≡ Some error
    → SplitIsWrong subject path node found true_wrong false_wrong null_wrong error
split_wrong subject path node None error if_true if_false if_null true_wrong false_wrong null_wrong at_true at_false
    at_null h = same_some (BadIndex subject.table node) error h
split_wrong subject path node (Some atom) error if_true if_false if_null true_wrong false_wrong null_wrong at_true
    at_false at_null h =
    of_three (if_true (path ++ (atom, True) ∷ [])) (if_false (path ++ (atom, False) ∷ []))
    (if_null (path ++ (atom, Null) ∷ [])) error
    (at_true (path ++ (atom, True) ∷ [])) (at_false (path ++ (atom, False) ∷ [])) (at_null (path ++ (atom, Null) ∷ []))
    (first_some (if_true (path ++ (atom, True) ∷ []))
    (earliest (if_false (path ++ (atom, False) ∷ [])) (if_null (path ++ (atom, Null) ∷ []))) error h)

refusal_true : (subject : Subject) (tree : Tree) (path : Path) (node : ℕ) (error : CheckError)
    → refusal is_empty subject tree path node ≡ Some error → IsWrong subject tree path node error
refusal_true subject (Split index if_true if_false if_null) path node error h =
    split_wrong subject path node (slice_get subject.atoms index) error
    (λ longer. refusal is_empty subject if_true longer (later node 1))
    (λ longer. refusal is_empty subject if_false longer (later (later node 1) (nodes if_true)))
    (λ longer. refusal is_empty subject if_null longer (later (later (later node 1) (nodes if_true)) (nodes if_false)))
    (λ longer. IsWrong subject if_true longer (later node 1) error)
    (λ longer. IsWrong subject if_false longer (later (later node 1) (nodes if_true)) error)
    (λ longer. IsWrong subject if_null longer (later (later (later node 1) (nodes if_true)) (nodes if_false)) error)
    (λ longer. refusal_true subject if_true longer (later node 1) error)
    (λ longer. refusal_true subject if_false longer (later (later node 1) (nodes if_true)) error)
    (λ longer. refusal_true subject if_null longer (later (later (later node 1) (nodes if_true)) (nodes if_false))
    error)
    h
refusal_true subject (Owner subscriber) path node error h =
    owner_wrong subject path node subscriber (slice_get subject.shares subscriber) error h
refusal_true subject (Empty term) path node error h =
    empty_wrong subject path node (slice_get subject.terms term) error h
refusal_true subject (NeverNull index) path node error h =
    never_null_wrong subject path node (slice_get subject.atoms index) error h

pub certificate_wrong : (number : ℕ) (table : Table) (shares : List ShareOf) (tree : Tree) (error : CheckError)
    → first_refusal is_empty number table shares tree ≡ Some error
    → CertificateIsWrong number table shares tree error
certificate_wrong number table shares tree error h =
    refusal_true (subject_of number table.columns shares) tree [] 0 error h
