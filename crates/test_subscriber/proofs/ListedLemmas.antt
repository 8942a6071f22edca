-- What is listed of the copy of a table, and what is found in it by keys.
use Rattle.std.proofs.Common.{◌≡◌, ℕ, List, [], refl, sym, ◌∙◌, ap, subst, arith, get_or}
use Rattle.std.specs.Prelude.{Option, Some, None}
use Rattle.std.proofs.lemmas.List.Sorted.{IsPermutation-refl}
use Rattle.std.proofs.lemmas.Option.{slice_get-get_or}
use Rattle.filter_tree.specs.Datum.{Datum}
use Rattle.tables_log.specs.Listing.{ListsFound}
use Rattle.tables_log.specs.Places.{IsInOrder}
use Rattle.tables_log.specs.Staging.{kept, kept_values}
use Rattle.tables_log.proofs.ListingLemmas.{lists_none}
use Rattle.test_subscriber.specs.Views.{copy_of, kept_in, listed_in, place_of}
use Rattle.test_subscriber.specs.declared.table_copy.TableCopy.{TableCopy}
use Rattle.test_subscriber.proofs.CopyLemmas.{found_at, found_nowhere, place_within}

abbrev Lists : Option TableCopy → Type 0
Lists copy = ListsFound (kept_in copy) (listed_in copy)

abbrev InOrder : List (List Datum) → Option TableCopy → Type 0
InOrder rows copy = IsInOrder (listed_in copy) rows

none_in_order : IsInOrder [] []
none_in_order = record { same = IsPermutation-refl []; ascending = λ k d low within. absurd (omega (arith, within)) }

-- ---- if there is no copy

pub nowhere_in_order : (copies : List TableCopy) (oid : ℕ) (rows : List (List Datum)) → place_of copies oid ≡ None
    → rows ≡ [] → InOrder rows (copy_of copies oid)
nowhere_in_order copies oid rows none empty =
    subst (InOrder rows) (sym (found_nowhere copies oid none))
    (subst (λ listed. IsInOrder [] listed) (sym empty) none_in_order)

pub nowhere_listed : (copies : List TableCopy) (oid : ℕ) → place_of copies oid ≡ None → Lists (copy_of copies oid)
nowhere_listed copies oid none =
    subst Lists (sym (found_nowhere copies oid none)) (lists_none (kept_in None) (λ key. refl))

-- ---- if there is one

module _ (copies : List TableCopy) (oid place : ℕ) (copy : TableCopy) (there : place_of copies oid ≡ Some place)
    (is : copy ≡ get_or copies place copy) where
  copy_is : Some copy ≡ copy_of copies oid
  copy_is = ap Some is ∙ sym (slice_get-get_or copies place copy (place_within copies oid place there))
      ∙ sym (found_at copies oid place there)

  pub copy_in_order : (rows : List (List Datum)) → IsInOrder (kept_values copy.rows) rows
      → InOrder rows (copy_of copies oid)
  copy_in_order rows h = subst (InOrder rows) copy_is h

  pub copy_listed : ListsFound (kept copy.rows) (kept_values copy.rows) → Lists (copy_of copies oid)
  copy_listed h = subst Lists copy_is h
