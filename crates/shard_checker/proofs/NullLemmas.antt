-- An atom that was found to be null is identified by its number.
use Rattle.std.proofs.Common.{◌≡◌, ℕ, zero, suc, ◌<◌, true, false, ◌&&◌, ◌||◌, List, [], ◌∷◌, ◌++◌, length, refl, sym, ap, ◌∙◌, arith}
use Rattle.std.specs.Prelude.{◌==◌, Some, slice_get}
use Rattle.std.proofs.lemmas.Option.{same_Some}
use Rattle.filter_tree.specs.Expr.{AtomOf}
use Rattle.filter_tree.specs.Mask.{same_tri}
use Rattle.filter_tree.specs.Paths.{Path}
use Rattle.filter_tree.specs.Same.{same_atom}
use Rattle.filter_tree.specs.declared.tri.Tri.TheVariants.{Null}
use Rattle.filter_tree.proofs.SameLemmas.{same_atom_is, same_atom_of_equal}
use Rattle.shard_checker.specs.Facts.{is_this_null, has_null}
use Rattle.shard_checker.specs.KnownAtoms.{Differ, AreUndos, null_at}
use Rattle.shard_checker.specs.declared.known.Undo.{Undo}
use Rattle.shard_checker.proofs.KnownLemmas.{not_there}
use Rattle.shard_checker.proofs.Testing.{same_number, not_true_false, number_itself, right_true, two_false}
use Rattle.filter_tree.proofs.Tests.{by_test}

-- atoms at two numbers are the same only if the numbers are equal
numbers_tell : (atoms : List AtomOf) (one other : ℕ) (first second : AtomOf) → Differ atoms
    → slice_get atoms one ≡ Some first → slice_get atoms other ≡ Some second
    → same_atom first second ≡ true → one ≡ other
numbers_tell [] one other first second differ there again same = absurd cc
numbers_tell (atom ∷ atoms) zero zero first second differ there again same = refl
numbers_tell (atom ∷ atoms) zero (suc other) first second differ there again same =
    absurd (let apart = not_there (same_atom atom) atoms other second differ.0 again in let is : atom ≡ first =
    same_Some atom first there in
    let found : same_atom atom second ≡ true = ap (λ a. same_atom a second) is ∙ same in cc)
numbers_tell (atom ∷ atoms) (suc one) zero first second differ there again same =
    absurd (let apart = not_there (same_atom atom) atoms one first differ.0 there in let is : atom ≡ second =
    same_Some atom second again in
    let found : same_atom atom first ≡ true =
    same_atom_of_equal atom first (is ∙ sym (same_atom_is first second same)) in cc)
numbers_tell (atom ∷ atoms) (suc one) (suc other) first second differ there again same =
    ap suc (numbers_tell atoms one other first second differ.1 there again same)

by_number : (atoms : List AtomOf) (number named : ℕ) (wanted atom : AtomOf) → Differ atoms
    → slice_get atoms number ≡ Some wanted → slice_get atoms named ≡ Some atom
    → (named == number) ≡ same_atom wanted atom
by_number atoms number named wanted atom differ there found = by_test (same_atom wanted atom)
    (λ same. ap (λ n. n == number) (sym (numbers_tell atoms number named wanted atom differ there found same))
    ∙ number_itself number ∙ sym same)
    (λ other. not_true_false (named == number) (λ equal.
    let is : wanted ≡ atom =
    same_Some wanted atom (sym there ∙ ap (slice_get atoms) (sym (same_number named number equal)) ∙ found) in
    let same = same_atom_of_equal wanted atom is in cc) ∙ sym other)

module _ (atoms : List AtomOf) (number : ℕ) (wanted : AtomOf) (differ : Differ atoms)
    (there : slice_get atoms number ≡ Some wanted) where
  -- some entry, or none
  null_in : (done : Path) (undos : List Undo) (path : Path) (place : ℕ) → AreUndos atoms done undos path
      → null_at number (slice_get undos place) (slice_get path place) ≡ true → has_null wanted path ≡ true
  null_in done [] [] place are h = absurd cc
  null_in done [] (e ∷ path) place are h = absurd are
  null_in done (b ∷ undos) [] place are h = absurd are
  null_in done (b ∷ undos) (e ∷ path) zero are h =
      ap (λ x. x || has_null wanted path)
      (sym (ap (λ x. x && same_tri e.1 Null) (by_number atoms number b.number wanted e.0 differ there are.0.0))
      ∙ h)
  null_in done (b ∷ undos) (e ∷ path) (suc place) are h =
      right_true (is_this_null wanted e.0 e.1) _ (null_in (done ++ e ∷ []) undos path place are.1 h)

  null_not_in : (done : Path) (undos : List Undo) (path : Path) → AreUndos atoms done undos path
      → ((place : ℕ) → place < length path → null_at number (slice_get undos place) (slice_get path place) ≡ false)
      → has_null wanted path ≡ false
  null_not_in done undos [] are h = refl
  null_not_in done [] (e ∷ path) are h = absurd are
  null_not_in done (b ∷ undos) (e ∷ path) are h =
      two_false (is_this_null wanted e.0 e.1) _
      (sym (ap (λ x. x && same_tri e.1 Null) (by_number atoms number b.number wanted e.0 differ there are.0.0))
      ∙ h 0 (omega arith))
      (null_not_in (done ++ e ∷ []) undos path are.1 (λ place within. h (suc place) (omega arith)))

  pub null_found : (undos : List Undo) (path : Path) (place : ℕ) → AreUndos atoms [] undos path
      → null_at number (slice_get undos place) (slice_get path place) ≡ true → has_null wanted path ≡ true
  null_found undos path place are h = null_in [] undos path place are h

  pub null_nowhere : (undos : List Undo) (path : Path) → AreUndos atoms [] undos path
      → ((place : ℕ) → place < length path → null_at number (slice_get undos place) (slice_get path place) ≡ false)
      → has_null wanted path ≡ false
  null_nowhere undos path are h = null_not_in [] undos path are h

pub ruleset nulls = (null_found, null_nowhere)
