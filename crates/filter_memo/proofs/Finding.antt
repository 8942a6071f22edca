-- A bound that a search finds.
use Rattle.std.proofs.Common.{◌≡◌, ℕ, zero, suc, ◌<◌, Bool, true, List, [], ◌∷◌, length, subst, arith}
use Rattle.std.specs.Prelude.{Result, Ok, Err, slice_index_or}
use Rattle.std.specs.List.{HoldsAt, list_any}
use Rattle.std.specs.List.Sorted.{IsSearchInRange}
use Rattle.std.specs.Ordering.{eq_by_cmp}
use Rattle.std.specs.Result.{is_ok}
use Rattle.std.specs.Cmp.{Equal-is}
use Rattle.std.proofs.lemmas.List.Folds.{list_any_at}
use Rattle.std.specs.Prelude.{IfOk}
use Rattle.std.specs.declared.cmp.Ordering.TheVariants.{Equal}
use Rattle.filter_tree.specs.Datum.{Constant, Known}
use Rattle.filter_tree.specs.Order.{datum_cmp}
use Rattle.filter_tree.specs.Values.{datum_view}
use Rattle.filter_tree.specs.declared.value.Value.{Value}
use Rattle.filter_tree.specs.declared.value.Value.TheVariants.{Null}
use Rattle.filter_tree.proofs.Tests.{by_test}
use Rattle.filter_memo.specs.Covering.{has}

-- what a search finds is a bound
pub found_is_bound : {A : _} (bounds : List (Value A)) (value : Value A) (constant : Constant) (result : Result ℕ ℕ)
    → datum_view value ≡ Known constant → IsSearchInRange result (length bounds)
    → IfOk result (HoldsAt (λ bound. datum_cmp (datum_view bound) (datum_view value) ≡ Equal) bounds)
    → is_ok result ≡ true → has bounds constant ≡ true
found_is_bound bounds value constant (Ok index) e within holds h =
    list_any_at (λ bound. eq_by_cmp datum_cmp (datum_view bound) (Known constant)) bounds index Null within
    ((Equal-is _).1 (subst (λ datum. datum_cmp (datum_view (slice_index_or bounds index Null)) datum ≡ Equal) e
    (holds Null)))
found_is_bound bounds value constant (Err index) e within holds h = absurd cc

-- the index of an element that passes a test
pub index_of : {X : Type 0} (test : X → Bool) (xs : List X) → list_any test xs ≡ true
    → (index : ℕ) × ((index < length xs) × HoldsAt (λ x. test x ≡ true) xs index)
index_of test [] h = absurd cc
index_of test (x ∷ xs) h = by_test (test x)
    (λ here. (zero, (omega arith, λ d. here)))
    (λ no. let later : list_any test xs ≡ true = rw no at h in
    let found = index_of test xs later in
    (suc found.0, (omega (arith, found.1.0), λ d. found.1.1 d)))
