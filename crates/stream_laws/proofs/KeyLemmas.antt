-- The columns that a Relation flags identify rows as the replica identity does.
use Rattle.std.proofs.Common.{◌≡◌, ℕ, zero, suc, ◌+◌, ◌<◌, ◌≤◌, Bool, true, false, ◌||◌, List, [], ◌∷◌, length, refl, sym, ◌∙◌, ap, subst, arith, add-zero, zero-add}
use Rattle.std.specs.Prelude.{Option, Some, None, ◌==◌, nat_lt, is_none, slice_get, unwrap_or}
use Rattle.std.specs.Cmp.{unsigned_Decides}
use Rattle.std.specs.List.{list_any}
use Rattle.std.proofs.lemmas.Bool.{ltb-true, ltb-false, or_right, eq-eqb}
use Rattle.std.proofs.lemmas.Option.{slice_get_past, same_Some}
use Rattle.filter_tree.specs.Datum.{Datum, Missing, value_at}
use Rattle.filter_tree.specs.Valid.{IsValid}
use Rattle.filter_tree.specs.declared.table.Column.{Column}
use Rattle.filter_tree.specs.declared.table.Table.{Table}
use Rattle.filter_tree.proofs.ValidLemmas.{valid_from_no_fault}
use Rattle.table_changes.specs.Columns.{values_at}
use Rattle.table_changes.specs.Setting.{Recorded, Columns, Whole, Nowhere, fits}
use Rattle.table_changes.specs.Standing.{Covered}
use Rattle.table_changes.proofs.TableLemmas.{at_next}
use Rattle.replica_identity.specs.Identities.{identity_columns, is_covered}
use Rattle.replica_identity.specs.Setting.{recorded_as, table_fault, row_identity, identity_in, blanked_by, blanked_in}
use Rattle.replica_identity.proofs.SettingLemmas.{columns_identify}
use Rattle.shard_checker.specs.CheckedView.{CheckedOf, setting_in}
use Rattle.pgoutput_msgs.specs.Telling.{columns_from}
use Rattle.test_subscriber.specs.Shapes.{if_flagged, flagged_from}
use Rattle.stream_laws.specs.Following.{flagged_in, own_key}
use Rattle.stream_laws.proofs.CommandSteps.{TellsIdentity}
use Rattle.stream_laws.proofs.EntryLemmas.{past_end}
use Rattle.filter_tree.proofs.Tests.{by_test, both_true}

-- ---- values in columns, one by one

first_same : (x y : Datum) (xs ys : List Datum) → x ∷ xs ≡ y ∷ ys → x ≡ y
first_same x y xs ys h = cc

others_same : (x y : Datum) (xs ys : List Datum) → x ∷ xs ≡ y ∷ ys → xs ≡ ys
others_same x y xs ys h = cc

both_same : (x y : Datum) (xs ys : List Datum) → x ≡ y → xs ≡ ys → x ∷ xs ≡ y ∷ ys
both_same x y xs ys h k = cc

abbrev has : List ℕ → ℕ → Bool
has columns column = list_any (λ number. number == column) columns

-- rows with the same values in columns have the same value in each
each_same : (columns : List ℕ) (one other : List Datum) → values_at columns one ≡ values_at columns other
    → (column : ℕ) → has columns column ≡ true → value_at one column ≡ value_at other column
each_same [] one other h column k = absurd cc
each_same (first ∷ columns) one other h column k = by_test (first == column)
    (λ here. subst (λ n. value_at one n ≡ value_at other n) ((unsigned_Decides first column).0 here)
    (first_same (value_at one first) (value_at other first) (values_at columns one) (values_at columns other) h))
    (λ beside. each_same columns one other
    (others_same (value_at one first) (value_at other first) (values_at columns one) (values_at columns other) h)
    column
    (sym (ap (λ b. b || has columns column) beside) ∙ k))

all_same : (columns : List ℕ) (one other : List Datum)
    → ((column : ℕ) → has columns column ≡ true → value_at one column ≡ value_at other column)
    → values_at columns one ≡ values_at columns other
all_same [] one other h = refl
all_same (first ∷ columns) one other h =
    both_same (value_at one first) (value_at other first) (values_at columns one) (values_at columns other)
    (h first (ap (λ b. b || has columns first) (eq-eqb first first refl)))
    (all_same columns one other (λ column k. h column (or_right (first == column) (has columns column) k)))

-- ---- columns that are flagged

flagged_head : (flag : Bool) (number : ℕ) (others : List ℕ) (one other : List Datum) → flag ≡ true
    → values_at (if_flagged flag number others) one ≡ values_at (if_flagged flag number others) other
    → value_at one number ≡ value_at other number
flagged_head true number others one other e h =
    first_same (value_at one number) (value_at other number) (values_at others one) (values_at others other) h
flagged_head false number others one other e h = absurd cc

flagged_tail : (flag : Bool) (number : ℕ) (others : List ℕ) (one other : List Datum)
    → values_at (if_flagged flag number others) one ≡ values_at (if_flagged flag number others) other
    → values_at others one ≡ values_at others other
flagged_tail true number others one other h =
    others_same (value_at one number) (value_at other number) (values_at others one) (values_at others other) h
flagged_tail false number others one other h = h

flagged_both : (flag : Bool) (number : ℕ) (others : List ℕ) (one other : List Datum)
    → (flag ≡ true → value_at one number ≡ value_at other number) → values_at others one ≡ values_at others other
    → values_at (if_flagged flag number others) one ≡ values_at (if_flagged flag number others) other
flagged_both true number others one other h k =
    both_same (value_at one number) (value_at other number) (values_at others one) (values_at others other) (h refl) k
flagged_both false number others one other h k = k

each_flagged : (table : Table) (number : ℕ) (columns : List Column) (one other : List Datum)
    → values_at (flagged_from number (columns_from table number columns)) one
    ≡ values_at (flagged_from number (columns_from table number columns)) other
    → (k : ℕ) → k < length columns → is_covered table (number + k) ≡ true
    → value_at one (number + k) ≡ value_at other (number + k)
each_flagged table number [] one other h k less covered = absurd (omega (arith, less))
each_flagged table number (column ∷ columns) one other h zero less covered =
    subst (λ n. value_at one n ≡ value_at other n) (sym (add-zero number))
    (flagged_head (is_covered table number) number
    (flagged_from (number + 1) (columns_from table (number + 1) columns)) one other
    (subst (λ n. is_covered table n ≡ true) (add-zero number) covered) h)
each_flagged table number (column ∷ columns) one other h (suc k) less covered =
    subst (λ n. value_at one n ≡ value_at other n) (sym (at_next number k))
    (each_flagged table (number + 1) columns one other
    (flagged_tail (is_covered table number) number
    (flagged_from (number + 1) (columns_from table (number + 1) columns)) one other h)
    k (omega (arith, less)) (subst (λ n. is_covered table n ≡ true) (at_next number k) covered))

all_flagged : (table : Table) (number : ℕ) (columns : List Column) (one other : List Datum)
    → ((k : ℕ) → is_covered table (number + k) ≡ true → value_at one (number + k) ≡ value_at other (number + k))
    → values_at (flagged_from number (columns_from table number columns)) one
    ≡ values_at (flagged_from number (columns_from table number columns)) other
all_flagged table number [] one other h = refl
all_flagged table number (column ∷ columns) one other h =
    flagged_both (is_covered table number) number
    (flagged_from (number + 1) (columns_from table (number + 1) columns)) one other
    (λ covered. subst (λ n. value_at one n ≡ value_at other n) (add-zero number)
    (h 0 (subst (λ n. is_covered table n ≡ true) (sym (add-zero number)) covered)))
    (all_flagged table (number + 1) columns one other
    (λ k covered. subst (λ n. value_at one n ≡ value_at other n) (at_next number k)
    (h (suc k) (subst (λ n. is_covered table n ≡ true) (sym (at_next number k)) covered))))

value_past : (row : List Datum) (column : ℕ) → length row ≤ column → value_at row column ≡ Missing
value_past row column h = ap (λ found. unwrap_or found Missing) (slice_get_past row column h)

-- rows as wide as the table have the same values in the flagged columns if, and only if, they have them in those of the
-- identity
identity_from_flags : (table : Table) (one other : List Datum) → length one ≡ length table.columns
    → length other ≡ length table.columns
    → values_at (flagged_in (Some table)) one ≡ values_at (flagged_in (Some table)) other
    → values_at (identity_columns table) one ≡ values_at (identity_columns table) other
identity_from_flags table one other wide also h = all_same (identity_columns table) one other
    (λ column covered. by_test (nat_lt column (length table.columns))
    (λ less. subst (λ n. value_at one n ≡ value_at other n) (zero-add column)
    (each_flagged table 0 table.columns one other h column (ltb-true column (length table.columns) less)
    (subst (λ n. is_covered table n ≡ true) (sym (zero-add column)) covered)))
    (λ past.
    let most : length table.columns ≤ column = ltb-false column (length table.columns) past in
    value_past one column (omega (arith, most, wide)) ∙ sym (value_past other column (omega (arith, most, also)))))

flags_from_identity : (table : Table) (one other : List Datum)
    → values_at (identity_columns table) one ≡ values_at (identity_columns table) other
    → values_at (flagged_in (Some table)) one ≡ values_at (flagged_in (Some table)) other
flags_from_identity table one other h = all_flagged table 0 table.columns one other
    (λ k covered. each_same (identity_columns table) one other h (0 + k) covered)

-- ---- rows that fit a table of the catalog

pub record IsRowOf (checked : CheckedOf) (number : ℕ) (row : List Datum) : Type 0 where
  pub table : Table
  pub there : slice_get checked.catalog.tables number ≡ Some table
  pub valid : IsValid table.columns row

none_is : {A : Type 0} (found : Option A) → is_none found ≡ true → found ≡ None
none_is None h = refl
none_is (Some x) h = absurd cc

pub row_of : (checked : CheckedOf) (number : ℕ) (row : List Datum) → fits (setting_in checked) number row ≡ true
    → IsRowOf checked number row
row_of checked number row h = by_found (slice_get checked.catalog.tables number) refl
  where
    both : ((nat_lt number (length checked.catalog.tables)) ≡ true)
        × (is_none (table_fault (slice_get checked.catalog.tables number) row) ≡ true)
    both = both_true (nat_lt number (length checked.catalog.tables))
        (is_none (table_fault (slice_get checked.catalog.tables number) row)) h

    by_found : (found : Option Table) → slice_get checked.catalog.tables number ≡ found → IsRowOf checked number row
    by_found None e = absurd
        (let past = past_end checked.catalog.tables number e in
        omega (arith, past, ltb-true number (length checked.catalog.tables) both.0))
    by_found (Some table) e = record {
      table = table;
      there = e;
      valid = valid_from_no_fault table.columns row
          (ap (λ found. table_fault found row) (sym e)
          ∙ none_is (table_fault (slice_get checked.catalog.tables number) row) both.1);
    }

pub key_at_table : (checked : CheckedOf) (number : ℕ) (table : Table) (row : List Datum)
    → slice_get checked.catalog.tables number ≡ Some table
    → own_key checked number row ≡ values_at (flagged_in (Some table)) row
key_at_table checked number table row there = ap (λ found. values_at (flagged_in found) row) there

-- what is recorded has the identity's columns, with nulls or as they were
blanked_values : (table : Table) (row : List Datum) (as_it : Recorded)
    → row_identity as_it table (blanked_by as_it table row) ≡ row_identity as_it table row
    → values_at (flagged_in (Some table)) (blanked_by as_it table row) ≡ values_at (flagged_in (Some table)) row
blanked_values table row Columns h = flags_from_identity table (blanked_by Columns table row) row h
blanked_values table row Whole h = refl
blanked_values table row Nowhere h = flags_from_identity table (blanked_by Nowhere table row) row h

pub tells_identity : (checked : CheckedOf) → Covered (setting_in checked)
    → TellsIdentity (setting_in checked) (own_key checked)
tells_identity checked covered = record {
  same_identity = λ number one other first second keys.
      let of_one = row_of checked number one first in
      let of_other = row_of checked number other second in
      let tables : of_other.table ≡ of_one.table =
      same_Some of_other.table of_one.table (sym of_other.there ∙ of_one.there) in
      let wide : length other ≡ length of_one.table.columns = of_other.valid.wide
      ∙ ap (λ (t : Table). length t.columns) tables in
      ap (λ found. identity_in found one) of_one.there ∙ columns_identify of_one.table one of_one.valid.wide
      ∙ identity_from_flags of_one.table one other of_one.valid.wide wide
      (sym (key_at_table checked number of_one.table one of_one.there) ∙ keys
      ∙ key_at_table checked number of_one.table other of_one.there)
      ∙ sym (ap (λ found. identity_in found other) of_one.there ∙ columns_identify of_one.table other wide);
  same_key = λ number one other first second same.
      let of_one = row_of checked number one first in
      let of_other = row_of checked number other second in
      let tables : of_other.table ≡ of_one.table =
      same_Some of_other.table of_one.table (sym of_other.there ∙ of_one.there) in
      let wide : length other ≡ length of_one.table.columns = of_other.valid.wide
      ∙ ap (λ (t : Table). length t.columns) tables in
      key_at_table checked number of_one.table one of_one.there
      ∙ flags_from_identity of_one.table one other
      (sym (ap (λ found. identity_in found one) of_one.there ∙ columns_identify of_one.table one of_one.valid.wide)
      ∙ same
      ∙ ap (λ found. identity_in found other) of_one.there ∙ columns_identify of_one.table other wide)
      ∙ sym (key_at_table checked number of_one.table other of_one.there);
  blanked = λ number row fit.
      let of_row = row_of checked number row fit in
      let same : identity_in (Some of_row.table) (blanked_in (Some of_row.table) row)
      ≡ identity_in (Some of_row.table) row =
      subst (λ found. identity_in found (blanked_in found row) ≡ identity_in found row) of_row.there
      (covered.blanked number row) in
      ap (λ found. own_key checked number (blanked_in found row)) of_row.there
      ∙ key_at_table checked number of_row.table (blanked_in (Some of_row.table) row) of_row.there
      ∙ blanked_values of_row.table row (recorded_as of_row.table.identity) same
      ∙ sym (key_at_table checked number of_row.table row of_row.there);
}
