-- The order of rows is total, and ties rows exactly if they are the same.
use Rattle.std.proofs.Common.{◌≡◌, ℤ, Bool, true, false, refl, sym, ap, subst, ◌∙◌}
use Rattle.std.specs.Ordering.{int_cmp, bool_cmp, eq_by_cmp, ordering_then}
use Rattle.std.specs.Cmp.{IsTotalOrder, Equal-is, both_ways, tied_itself, nat_cmp_total, int_cmp_total, bool_cmp_total, on_total, then_total}
use Rattle.std.specs.Cmp.Lexicographic.{lists_total, nat_list_cmp_total}
use Rattle.std.specs.FinMap.{IsAntisymmetric, nat_cmp-IsAntisymmetric, int_cmp-IsAntisymmetric, slice_cmp-IsAntisymmetric}
use Rattle.std.specs.declared.cmp.Ordering.{Ordering}
use Rattle.std.specs.declared.cmp.Ordering.TheVariants.{Less, Equal, Greater}
use Rattle.filter_tree.specs.Datum.{Constant, Number, Truth, Bytes, Missing, Known}
use Rattle.filter_tree.specs.Order.{datum_rank, datum_number, datum_truth, datum_bytes, datum_cmp, row_cmp, OrdersValues, TiesSameRows}
use Rattle.filter_tree.specs.Same.{same_row}
use Rattle.filter_tree.proofs.SameLemmas.{equal_from_same_row, same_row_of_equal}

-- ---- total

pub datum_total : IsTotalOrder datum_cmp
datum_total = then_total (on_total datum_rank nat_cmp_total) (then_total (on_total datum_number int_cmp_total)
    (then_total (on_total datum_truth bool_cmp_total) (on_total datum_bytes nat_list_cmp_total)))

pub row_total : IsTotalOrder row_cmp
row_total = lists_total datum_total

-- ---- two values of one kind

pub then_equal : (order : Ordering) → ordering_then order Equal ≡ order
then_equal Less = refl
then_equal Equal = refl
then_equal Greater = refl

numbers_by_size : (one other : ℤ) → datum_cmp (Known (Number one)) (Known (Number other)) ≡ int_cmp one other
numbers_by_size one other = then_equal (int_cmp one other)

truths_by_value : (one other : Bool) → datum_cmp (Known (Truth one)) (Known (Truth other)) ≡ bool_cmp one other
truths_by_value one other = then_equal (bool_cmp one other)

nulls_first : (value : Constant) → datum_cmp Missing (Known value) ≡ Less
nulls_first (Number number) = refl
nulls_first (Truth truth) = refl
nulls_first (Bytes bytes) = refl

pub orders_values : OrdersValues
orders_values = record
    { nulls = nulls_first; numbers = numbers_by_size; truths = truths_by_value; texts = λ one other. refl }

-- ---- ties

truths_tie : (one other : Bool) → bool_cmp one other ≡ Equal → one ≡ other
truths_tie false false e = refl
truths_tie false true e = absurd cc
truths_tie true false e = absurd cc
truths_tie true true e = refl

datum_tie : IsAntisymmetric datum_cmp
datum_tie Missing Missing e = refl
datum_tie Missing (Known (Number n)) e = absurd cc
datum_tie Missing (Known (Truth q)) e = absurd cc
datum_tie Missing (Known (Bytes t)) e = absurd cc
datum_tie (Known (Number m)) Missing e = absurd cc
datum_tie (Known (Number m)) (Known (Number n)) e =
    ap (λ number. Known (Number number)) (int_cmp-IsAntisymmetric m n (sym (numbers_by_size m n) ∙ e))
datum_tie (Known (Number m)) (Known (Truth q)) e = absurd cc
datum_tie (Known (Number m)) (Known (Bytes t)) e = absurd cc
datum_tie (Known (Truth p)) Missing e = absurd cc
datum_tie (Known (Truth p)) (Known (Number n)) e = absurd cc
datum_tie (Known (Truth p)) (Known (Truth q)) e =
    ap (λ truth. Known (Truth truth)) (truths_tie p q (sym (truths_by_value p q) ∙ e))
datum_tie (Known (Truth p)) (Known (Bytes t)) e = absurd cc
datum_tie (Known (Bytes s)) Missing e = absurd cc
datum_tie (Known (Bytes s)) (Known (Number n)) e = absurd cc
datum_tie (Known (Bytes s)) (Known (Truth q)) e = absurd cc
datum_tie (Known (Bytes s)) (Known (Bytes t)) e =
    ap (λ bytes. Known (Bytes bytes)) (slice_cmp-IsAntisymmetric nat_cmp-IsAntisymmetric s t e)

pub row_tie : IsAntisymmetric row_cmp
row_tie = slice_cmp-IsAntisymmetric datum_tie

pub ties_same_rows : TiesSameRows
ties_same_rows one other = both_ways (eq_by_cmp row_cmp one other) (same_row one other)
    (λ tied. same_row_of_equal one other (row_tie one other ((Equal-is (row_cmp one other)).0 tied)))
    (λ same. let equal : one ≡ other = equal_from_same_row one other same in
    (Equal-is (row_cmp one other)).1 (subst (λ row. row_cmp one row ≡ Equal) equal (tied_itself row_total one)))
