-- Values in one bucket have the same order to each bound.
use Rattle.std.proofs.Common.{◌≡◌, ℕ, ◌<◌, true, List, [], ◌∷◌, length, refl, sym, ap, subst, ◌∙◌, arith}
use Rattle.std.specs.Prelude.{Result, Ok, Err, slice_index_or}
use Rattle.std.proofs.Common.{inl, inr}
use Rattle.std.specs.Cmp.{Equal-is}
use Rattle.std.specs.List.Sorted.{IsSorted, IsBinarySearchResult}
use Rattle.std.specs.Ordering.{eq_by_cmp}
use Rattle.std.proofs.lemmas.Bool.{cases_lt}
use Rattle.std.proofs.lemmas.List.Sorted.{searchable_from_sorted}
use Rattle.std.specs.declared.cmp.Ordering.TheVariants.{Equal}
use Rattle.filter_tree.specs.Datum.{Constant, Datum, Known}
use Rattle.filter_tree.specs.Order.{datum_cmp, row_cmp}
use Rattle.filter_tree.specs.Values.{datum_view}
use Rattle.filter_tree.specs.declared.value.Value.{Value}
use Rattle.filter_tree.specs.declared.value.Value.TheVariants.{Null}
use Rattle.filter_tree.proofs.OrderLemmas.{datum_total, row_tie}
use Rattle.filter_memo.specs.Covering.{has}
use Rattle.filter_memo.specs.Buckets.{value_cmp, IsBucket}
use Rattle.filter_memo.specs.declared.bucket.Bucket.{Bucket}
use Rattle.filter_memo.proofs.Finding.{index_of}

-- values that tie are the same
pub tied : (v w : Datum) → datum_cmp v w ≡ Equal → v ≡ w
tied v w e =
    let rows : row_cmp (v ∷ []) (w ∷ []) ≡ Equal = rw e refl in
    let same : (v ∷ []) ≡ (w ∷ []) = row_tie _ _ rows in
    cc

module _ {A : _} (bounds : List (Value A)) (sorted : IsSorted value_cmp bounds) (v w : Datum) where
  -- both values are on the same side of each bound
  side_at : (found : Result ℕ ℕ) → IsBinarySearchResult (λ bound. datum_cmp (datum_view bound) v) bounds found
      → IsBinarySearchResult (λ bound. datum_cmp (datum_view bound) w) bounds found
      → (other : ℕ) → other < length bounds
      → datum_cmp (datum_view (slice_index_or bounds other Null)) v
      ≡ datum_cmp (datum_view (slice_index_or bounds other Null)) w
  side_at (Ok index) at_v at_w other within =
      let same : v ≡ w = sym (tied _ _ (at_v Null)) ∙ tied _ _ (at_w Null) in
      ap (λ datum. datum_cmp (datum_view (slice_index_or bounds other Null)) datum) same
  side_at (Err index) at_v at_w other within =
      let of_v = at_v (searchable_from_sorted datum_total (λ bound. datum_view bound) bounds v sorted) in
      let of_w = at_w (searchable_from_sorted datum_total (λ bound. datum_view bound) bounds w sorted) in
      elim (cases_lt other index) [
        | inl below ↦ of_v.0 other Null (omega arith) below ∙ sym (of_w.0 other Null (omega arith) below)
        | inr from ↦ of_v.1 other Null from within ∙ sym (of_w.1 other Null from within)
      ]

  pub same_side : (bucket : Bucket) → IsBucket bounds v bucket → IsBucket bounds w bucket
      → (constant : Constant) → has bounds constant ≡ true
      → datum_cmp (Known constant) v ≡ datum_cmp (Known constant) w
  same_side bucket at_v at_w constant h =
      let bound = index_of (λ (value : Value A). eq_by_cmp datum_cmp (datum_view value) (Known constant)) bounds h in
      let is : datum_view (slice_index_or bounds bound.0 Null) ≡ Known constant =
      tied _ _ ((Equal-is _).0 (bound.1.1 Null)) in
      subst (λ datum. datum_cmp datum v ≡ datum_cmp datum w) is
      (side_at bucket.found at_v.found at_w.found bound.0 bound.1.0)
