use Rattle.std.proofs.Common.{◌≡◌, ℤ, List, [], ◌∷◌, Some, true, refl, sym, ap, ◌∙◌, rules, w64, FitsSigned}
use Rattle.std.specs.Prelude.{slice_get}
use Rattle.std.specs.Ordering.{is_ne, int_cmp, ordering_then}
use Rattle.std.proofs.lemmas.Int.{to_z-of_z}
use Rattle.std.specs.declared.cmp.Ordering.{Ordering}
use Rattle.std.specs.declared.cmp.Ordering.TheVariants.{Less, Equal, Greater}
use Rattle.filter_tree.specs.Datum.{Datum, Number, Known}
use Rattle.filter_tree.specs.Order.{datum_cmp, row_cmp}
use Rattle.filter_tree.proofs.OrderLemmas.{orders_values}
use Rattle.filter_tree.proofs.order.order_of_first_numbers.Goals as goal

decided : (order rest : Ordering) → is_ne order ≡ true → ordering_then order rest ≡ order
decided Less rest differs = refl
decided Equal rest differs = absurd cc
decided Greater rest differs = refl

-- rows that begin with numbers that differ
numbers_decide : (row other : List Datum) (m n : ℤ) → slice_get row 0 ≡ Some (Known (Number m))
    → slice_get other 0 ≡ Some (Known (Number n))
    → is_ne (int_cmp m n) ≡ true → row_cmp row other ≡ int_cmp m n
numbers_decide [] other m n is also differs = absurd cc
numbers_decide (value ∷ values) [] m n is also differs = absurd cc
numbers_decide (value ∷ values) (another ∷ others) m n is also differs =
    let first : value ≡ Known (Number m) = cc in
    let second : another ≡ Known (Number n) = cc in
    let order : datum_cmp value another ≡ int_cmp m n = (λ i. datum_cmp (first i) (second i))
    ∙ orders_values.numbers m n in
    ap (λ o. ordering_then o (row_cmp values others)) order ∙ decided (int_cmp m n) (row_cmp values others) differs

pub returns-in-Some-Some : goal.returns-in-Some-Some
returns-in-Some-Some g c = λ differs.
    let arm = c.in-Some-Some in
    let fits : FitsSigned w64 arm.number = search rules in
    let also_fits : FitsSigned w64 arm.other_number = search rules in
    let order : c.cmp.result ≡ int_cmp arm.number arm.other_number = simp to_z-of_z at c.cmp.ensures in
    numbers_decide c.args.row.now c.args.other.now arm.number arm.other_number arm.ensures arm.ensures'
    (ap is_ne (sym order) ∙ differs)
    ∙ sym order
