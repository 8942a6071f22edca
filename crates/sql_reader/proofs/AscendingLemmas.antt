-- A list in ascending order has the constants from which it is made, each once.
use Rattle.std.proofs.Common.{◌≡◌, Bool, true, false, ◌||◌, List, [], ◌∷◌, refl, sym, ap, ◌∙◌}
use Rattle.std.specs.Prelude.{fold}
use Rattle.std.specs.List.{list_any, AllByRecursion}
use Rattle.std.specs.List.Sorted.{IsStrictlySortedBy}
use Rattle.std.specs.Ordering.{match_ordering, ordering_then, ordering_reverse}
use Rattle.std.specs.Cmp.{IsTotalOrder, on_total}
use Rattle.std.specs.declared.cmp.Ordering.{Ordering}
use Rattle.std.specs.declared.cmp.Ordering.TheVariants.{Less, Equal, Greater}
use Rattle.filter_tree.specs.Datum.{Constant, Known}
use Rattle.filter_tree.specs.Order.{row_cmp}
use Rattle.filter_tree.specs.Same.{same_constant}
use Rattle.filter_tree.proofs.OrderLemmas.{datum_total, row_tie}
use Rattle.sql_reader.specs.Ascending.{constant_cmp, inserted_in_order, ascending, ListsAscend}
use Rattle.filter_tree.proofs.Tests.{or_false}

-- ---- the order

constant_total : IsTotalOrder constant_cmp
constant_total = on_total Known datum_total

constant_tie : (one other : Constant) → constant_cmp one other ≡ Equal → one ≡ other
constant_tie one other e =
    let tie : row_cmp (Known one ∷ []) (Known other ∷ []) ≡ Equal = ap (λ order. ordering_then order Equal) e in
    let rows : (Known one ∷ []) ≡ (Known other ∷ []) = row_tie (Known one ∷ []) (Known other ∷ []) tie in
    cc

is_after : (one other : Constant) → constant_cmp other one ≡ Greater → constant_cmp one other ≡ Less
is_after one other e = constant_total.antisymm one other ∙ ap ordering_reverse e

-- ---- it ascends

abbrev AllAfter : Constant → List Constant → Type 0
AllAfter constant constants = AllByRecursion (λ other. constant_cmp constant other ≡ Less) constants

all_after : (one other : Constant) (constants : List Constant) → constant_cmp one other ≡ Less
    → AllAfter other constants → AllAfter one constants
all_after one other [] less h = h
all_after one other (constant ∷ constants) less h =
    (constant_total.trans one other constant less h.0, all_after one other constants less h.1)

placed_after : (one constant : Constant) (constants : List Constant) → constant_cmp one constant ≡ Less
    → AllAfter one constants → AllAfter one (inserted_in_order constants constant)
placed_after one constant [] less h = (less, h)
placed_after one constant (first ∷ rest) less h =
    by (constant_cmp constant first) (placed_after one constant rest less h.1)
  where
    by : (order : Ordering) → AllAfter one (inserted_in_order rest constant)
        → AllAfter one
        (match_ordering order (constant ∷ first ∷ rest) (first ∷ rest) (first ∷ inserted_in_order rest constant))
    by Less later = (less, h)
    by Equal later = h
    by Greater later = (h.0, later)

placed_strictly : (constant : Constant) (constants : List Constant) → IsStrictlySortedBy constant_cmp constants
    → IsStrictlySortedBy constant_cmp (inserted_in_order constants constant)
unfolding IsStrictlySortedBy
placed_strictly constant [] h = (tt, tt)
placed_strictly constant (first ∷ rest) h =
    by (constant_cmp constant first) refl (placed_strictly constant rest h.1)
  where
    by : (order : Ordering) → constant_cmp constant first ≡ order
        → IsStrictlySortedBy constant_cmp (inserted_in_order rest constant)
        → IsStrictlySortedBy constant_cmp
        (match_ordering order (constant ∷ first ∷ rest) (first ∷ rest) (first ∷ inserted_in_order rest constant))
    by Less e later = ((e, all_after constant first rest e h.0), h)
    by Equal e later = h
    by Greater e later = (placed_after first constant rest (is_after first constant e) h.0, later)

all_strictly : (held constants : List Constant) → IsStrictlySortedBy constant_cmp held
    → IsStrictlySortedBy constant_cmp (fold inserted_in_order held constants)
all_strictly held [] h = h
all_strictly held (constant ∷ constants) h =
    all_strictly (inserted_in_order held constant) constants (placed_strictly constant held h)

ascending_strictly : (constants : List Constant) → IsStrictlySortedBy constant_cmp (ascending constants)
unfolding ascending IsStrictlySortedBy
ascending_strictly constants = all_strictly [] constants tt

-- ---- it has the same constants

or_twice : (p q : Bool) → (p || q) ≡ (p || (p || q))
or_twice true q = refl
or_twice false q = refl

or_swap : (p q r : Bool) → (p || (q || r)) ≡ (q || (p || r))
or_swap true true r = refl
or_swap true false r = refl
or_swap false true r = refl
or_swap false false r = refl

or_turn : (p q r : Bool) → ((p || q) || r) ≡ (q || (p || r))
or_turn true true r = refl
or_turn true false r = refl
or_turn false true r = refl
or_turn false false r = refl

any_placed : (p : Constant → Bool) (constant : Constant) (constants : List Constant)
    → list_any p (inserted_in_order constants constant) ≡ (p constant || list_any p constants)
any_placed p constant [] = refl
any_placed p constant (first ∷ rest) =
    by (constant_cmp constant first) refl (any_placed p constant rest)
  where
    by : (order : Ordering) → constant_cmp constant first ≡ order
        → list_any p (inserted_in_order rest constant) ≡ (p constant || list_any p rest)
        → list_any p
        (match_ordering order (constant ∷ first ∷ rest) (first ∷ rest) (first ∷ inserted_in_order rest constant))
        ≡ (p constant || (p first || list_any p rest))
    by Less e later = refl
    by Equal e later = or_twice (p first) (list_any p rest)
        ∙ ap (λ k. p k || (p first || list_any p rest)) (sym (constant_tie constant first e))
    by Greater e later = ap (λ q. p first || q) later ∙ or_swap (p first) (p constant) (list_any p rest)

any_of_all : (p : Constant → Bool) (held constants : List Constant)
    → list_any p (fold inserted_in_order held constants) ≡ (list_any p held || list_any p constants)
any_of_all p held [] = sym (or_false (list_any p held))
any_of_all p held (constant ∷ constants) =
    any_of_all p (inserted_in_order held constant) constants
    ∙ ap (λ q. q || list_any p constants) (any_placed p constant held)
    ∙ or_turn (p constant) (list_any p held) (list_any p constants)

pub any_ascending : (p : Constant → Bool) (constants : List Constant)
    → list_any p (ascending constants) ≡ list_any p constants
unfolding ascending
any_ascending p constants = any_of_all p [] constants

pub lists_ascend_law : ListsAscend
lists_ascend_law = record {
  strictly = ascending_strictly;
  members =
      λ constant constants. any_ascending (same_constant constant) constants;
}
