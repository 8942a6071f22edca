-- The numbered atoms of shares are distinct, and are all that the shares' filters have.
use Rattle.std.proofs.Common.{◌≡◌, Bool, true, false, ◌&&◌, List, [], ◌∷◌, ◌++◌, refl, sym, subst, ◌∙◌}
use Rattle.std.specs.Prelude.{flat_map, fold}
use Rattle.std.specs.List.{list_any, list_all}
use Rattle.std.proofs.lemmas.List.Folds.{list_any-append, list_all-append}
use Rattle.filter_tree.specs.Expr.{AtomOf, Expr, Const, Atom, Not, And, Or, Is}
use Rattle.filter_tree.specs.Lists.{with_item, atoms_in, distinct_atoms}
use Rattle.filter_tree.specs.Same.{same_atom}
use Rattle.filter_tree.proofs.SameLemmas.{same_atom_is, same_atom_of_equal}
use Rattle.replica_identity.specs.Shares.{ShareOf, Nothing, Everything, Where}
use Rattle.shard_checker.specs.KnownAtoms.{Differ}
use Rattle.shard_checker.specs.Numbering.{share_atoms, numbered_atoms}
use Rattle.shard_checker.specs.Steps.{names_only, all_name_only, filter_of}
use Rattle.shard_checker.proofs.KnownLemmas.{none_of, other_way}
use Rattle.shard_checker.proofs.Testing.{two_true, right_true, left_true}
use Rattle.filter_tree.proofs.Tests.{by_test}

-- ---- no atom is numbered twice

differ_then : (atoms : List AtomOf) (atom : AtomOf) → Differ atoms → list_any (same_atom atom) atoms ≡ false
    → Differ (atoms ++ atom ∷ [])
differ_then [] atom h new = (refl, tt)
differ_then (first ∷ atoms) atom h new =
    let both = none_of (same_atom atom first) (list_any (same_atom atom) atoms) new in (
      list_any-append (same_atom first) atoms (atom ∷ [])
          ∙ rw (h.0, other_way atom first both.0) refl,
      differ_then atoms atom h.1 both.1,
    )

differ_with : (atoms : List AtomOf) (atom : AtomOf) → Differ atoms → Differ (with_item same_atom atoms atom)
differ_with atoms atom h = by_test (list_any (same_atom atom) atoms)
    (λ found. rw found h)
    (λ new. rw new (differ_then atoms atom h new))

differ_all : (atoms more : List AtomOf) → Differ atoms → Differ (fold (with_item same_atom) atoms more)
differ_all atoms [] h = h
differ_all atoms (atom ∷ more) h = differ_all (with_item same_atom atoms atom) more (differ_with atoms atom h)

pub numbered_differ : (shares : List ShareOf) → Differ (numbered_atoms shares)
numbered_differ shares = differ_all [] (flat_map share_atoms shares) tt

-- ---- all atoms are numbered

-- each of some atoms is among others
abbrev among : List AtomOf → List AtomOf → Bool
among atoms some = list_all (λ atom. list_any (same_atom atom) atoms) some

both_of : (p q : Bool) → (p && q) ≡ true → (p ≡ true) × (q ≡ true)
both_of true q h = (refl, h)
both_of false q h = absurd cc

still_there : (wanted : AtomOf) (atoms : List AtomOf) (atom : AtomOf) → list_any (same_atom wanted) atoms ≡ true
    → list_any (same_atom wanted) (with_item same_atom atoms atom) ≡ true
still_there wanted atoms atom h = by_test (list_any (same_atom atom) atoms)
    (λ found. rw found h)
    (λ new. rw new (list_any-append (same_atom wanted) atoms (atom ∷ []) ∙ left_true _ _ h))

there_at_end : (wanted : AtomOf) (atoms more : List AtomOf) → list_any (same_atom wanted) atoms ≡ true
    → list_any (same_atom wanted) (fold (with_item same_atom) atoms more) ≡ true
there_at_end wanted atoms [] h = h
there_at_end wanted atoms (atom ∷ more) h =
    there_at_end wanted (with_item same_atom atoms atom) more (still_there wanted atoms atom h)

there_once_added : (atoms : List AtomOf) (atom : AtomOf)
    → list_any (same_atom atom) (with_item same_atom atoms atom) ≡ true
there_once_added atoms atom = by_test (list_any (same_atom atom) atoms)
    (λ found. rw found found)
    (λ new. rw new (list_any-append (same_atom atom) atoms (atom ∷ [])
    ∙ right_true _ _ (left_true _ _ (same_atom_of_equal atom atom refl))))

all_added : (atoms more : List AtomOf) → among (fold (with_item same_atom) atoms more) more ≡ true
all_added atoms [] = refl
all_added atoms (atom ∷ more) =
    two_true _ _ (there_at_end atom (with_item same_atom atoms atom) more (there_once_added atoms atom))
    (all_added (with_item same_atom atoms atom) more)

same_is_there : (wanted : AtomOf) (atoms some : List AtomOf) → among atoms some ≡ true
    → list_any (same_atom wanted) some ≡ true → list_any (same_atom wanted) atoms ≡ true
same_is_there wanted atoms [] all h = absurd cc
same_is_there wanted atoms (atom ∷ some) all h =
    let both = both_of _ _ all in
    by_test (same_atom wanted atom)
    (λ here. subst (λ a. list_any (same_atom a) atoms ≡ true) (sym (same_atom_is wanted atom here)) both.0)
    (λ later. let rest : list_any (same_atom wanted) some ≡ true = rw later at h in
    same_is_there wanted atoms some both.1 rest)

among_those : (atoms some part : List AtomOf) → among atoms some ≡ true → among some part ≡ true
    → among atoms part ≡ true
among_those atoms some [] all h = refl
among_those atoms some (atom ∷ part) all h =
    let both = both_of _ _ h in
    two_true _ _ (same_is_there atom atoms some all both.0) (among_those atoms some part all both.1)

names_by_atoms : (atoms : List AtomOf) (filter : Expr) → among atoms (atoms_in filter) ≡ true
    → names_only atoms filter ≡ true
names_by_atoms atoms (Const known) h = refl
names_by_atoms atoms (Atom atom) h = (both_of _ _ h).0
names_by_atoms atoms (Not part) h = names_by_atoms atoms part h
names_by_atoms atoms (And left right) h =
    let both = both_of _ _
    (sym (list_all-append (λ atom. list_any (same_atom atom) atoms) (atoms_in left) (atoms_in right)) ∙ h) in
    two_true _ _ (names_by_atoms atoms left both.0) (names_by_atoms atoms right both.1)
names_by_atoms atoms (Or left right) h =
    let both = both_of _ _
    (sym (list_all-append (λ atom. list_any (same_atom atom) atoms) (atoms_in left) (atoms_in right)) ∙ h) in
    two_true _ _ (names_by_atoms atoms left both.0) (names_by_atoms atoms right both.1)
names_by_atoms atoms (Is test part) h = names_by_atoms atoms part h

share_names : (atoms : List AtomOf) (share : ShareOf) → among atoms (share_atoms share) ≡ true
    → names_only atoms (filter_of share) ≡ true
share_names atoms Nothing h = refl
share_names atoms Everything h = refl
share_names atoms (Where filter) h =
    names_by_atoms atoms filter
    (among_those atoms (distinct_atoms filter) (atoms_in filter) h (all_added [] (atoms_in filter)))

all_names : (atoms : List AtomOf) (shares : List ShareOf) → among atoms (flat_map share_atoms shares) ≡ true
    → all_name_only atoms shares ≡ true
all_names atoms [] h = refl
all_names atoms (share ∷ shares) h =
    let both = both_of _ _
    (sym (list_all-append (λ atom. list_any (same_atom atom) atoms) (share_atoms share)
    (flat_map share_atoms shares)) ∙ h) in
    two_true _ _ (share_names atoms share both.0) (all_names atoms shares both.1)

pub numbered_names : (shares : List ShareOf) → all_name_only (numbered_atoms shares) shares ≡ true
numbered_names shares = all_names (numbered_atoms shares) shares (all_added [] (flat_map share_atoms shares))
