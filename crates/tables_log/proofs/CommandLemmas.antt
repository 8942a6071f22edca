-- What commands do to the rows of one table is what they do to all tables.
use Rattle.std.proofs.Common.{◌≡◌, ℕ, zero, suc, ◌<◌, ◌≤◌, Bool, true, false, List, [], ◌∷◌, length, sym, ◌∙◌, ap, subst, arith}
use Rattle.std.specs.Prelude.{Option, Some, None, Result, Ok, Err, IfOk, slice_index_or, is_some, nat_lt, slice_get, slice_set, option_map}
use Rattle.std.proofs.lemmas.Bool.{lt-ltb, ltb-true}
use Rattle.std.proofs.lemmas.List.{length-map}
use Rattle.std.proofs.lemmas.Option.{slice_get-map, slice_get-get_or}
use Rattle.filter_tree.specs.Datum.{Datum}
use Rattle.filter_tree.specs.Expr.{Expr}
use Rattle.filter_tree.specs.Valid.{row_fault}
use Rattle.filter_tree.specs.declared.table.Table.{Table}
use Rattle.pub_catalog.specs.Catalogs.{CatalogOf}
use Rattle.replica_identity.specs.ChangeView.{change_view}
use Rattle.replica_identity.specs.declared.change.Change.{Change}
use Rattle.shard_checker.specs.CheckedView.{CheckedOf, setting_in}
use Rattle.replica_identity.specs.Parts.{part_in}
use Rattle.replica_identity.specs.Plans.{PlanOf}
use Rattle.replica_identity.specs.Setting.{table_fault, keys_in, setting_of}
use Rattle.replica_identity.proofs.PartLemmas.{records_parts}
use Rattle.table_changes.specs.Commands.{Command, Insert, Update, Delete, CommandFault, NoTable, NoSuchRow, DuplicateKey, unless, unless_unfit, named, fault_of}
use Rattle.table_changes.specs.Records as r
use Rattle.table_changes.specs.Tables.{Tables, SameTables, put, put_in, take_out, without, is_free_from, is_free}
use Rattle.table_changes.proofs.CommandListLemmas.{free_from_alike}
use Rattle.table_changes.proofs.TableLemmas.{some_is}
use Rattle.tables_log.specs.Applying.{without_at, unless_taken, delete_fault, replace_fault, ReplacesRow, InsertsRow, DeletesRow, UpdatesRow, TriesRows, widths_of, HasMaps, Applies, Tries}
use Rattle.tables_log.specs.Places.{Places, put_at, seen_at, seen_in, widths, values_in, PutsRow, KeepsRows, KeepsTables}
use Rattle.tables_log.specs.Faults.{Finds}
use Rattle.tables_log.specs.Sendable.{IsSendableRow, IsSendableChange}
use Rattle.tables_log.specs.declared.error.Refused.{Refused}
use Rattle.tables_log.specs.declared.table_rows.TableRows.{TableRows}
use Rattle.tables_log.proofs.PlaceLemmas.{within, put_is, put_others, seen_before, sees_tables, keeps_tables}
use Rattle.tables_log.proofs.SendableLemmas.{part_sendable}
use Rattle.filter_tree.proofs.Tests.{by_test}

-- ---- which tables exist

pub is_known : (catalog : CatalogOf Expr) (plan : PlanOf) (number : ℕ) (table : Table)
    → slice_get catalog.tables number ≡ Some table → (setting_of catalog plan).known number ≡ true
is_known catalog plan number table there =
    lt-ltb number (length catalog.tables) (within catalog.tables number table there)

pub below_found : {X : Type 0} (xs : List X) (number : ℕ) → number < length xs → slice_get xs number ≡ None → ⊥
below_found [] number low none = omega arith
below_found (x ∷ xs) zero low none = cc
below_found (x ∷ xs) (suc number) low none = below_found xs number (omega arith) none

missing : {X : Type 0} (xs : List X) (number : ℕ) → slice_get xs number ≡ None → nat_lt number (length xs) ≡ false
missing xs number none =
    by_test (nat_lt number (length xs)) (λ h. absurd (below_found xs number (ltb-true number (length xs) h) none))
    (λ h. h)

pub is_unknown : (catalog : CatalogOf Expr) (plan : PlanOf) (number : ℕ) → slice_get catalog.tables number ≡ None
    → (setting_of catalog plan).known number ≡ false
is_unknown catalog plan number none = missing catalog.tables number none

-- each table has its maps
pub has_rows : (tables : List Table) (rows : List TableRows) (number : ℕ) (table : Table)
    → widths rows ≡ widths_of tables → slice_get tables number ≡ Some table → number < length rows
has_rows tables rows number table wide there =
    let first : length (widths rows) ≡ length rows = length-map rows (λ (row : TableRows). length row.maps.items) in
    let last : length (widths_of tables) ≡ length tables =
    length-map tables (λ (one : Table). length (keys_in (Some one))) in
    let same : length (widths rows) ≡ length (widths_of tables) = ap length wide in
    let low : number < length tables = within tables number table there in
    omega arith

pub has_width : (tables : List Table) (rows : List TableRows) (number : ℕ) (table : Table) (found : TableRows)
    → widths rows ≡ widths_of tables
    → slice_get tables number ≡ Some table → slice_get rows number ≡ Some found
    → length found.maps.items ≡ length (keys_in (Some table))
has_width tables rows number table found wide there at =
    let width_of : TableRows → ℕ = λ row. length row.maps.items in
    let count_of : Table → ℕ = λ one. length (keys_in (Some one)) in
    some_is (width_of found) (count_of table)
    (sym (slice_get-map width_of rows number ∙ ap (option_map width_of) at)
    ∙ ap (λ list. slice_get list number) wide
    ∙ slice_get-map count_of tables number ∙ ap (option_map count_of) there)

-- ---- faults

module _ (catalog : CatalogOf Expr) (plan : PlanOf) (tables : Tables) (number : ℕ) where
  pub unknown_insert : (row : List Datum) → slice_get catalog.tables number ≡ None
      → fault_of (setting_of catalog plan) tables (Insert number row) ≡ Some NoTable
  unknown_insert row none =
      ap (λ b. unless b NoTable
      (unless_unfit ((setting_of catalog plan).fault number row)
      (unless (is_free (setting_of catalog plan).keys tables number row) DuplicateKey None)))
      (is_unknown catalog plan number none)

  pub unknown_delete : (key : List Datum) → slice_get catalog.tables number ≡ None
      → fault_of (setting_of catalog plan) tables (Delete number key) ≡ Some NoTable
  unknown_delete key none =
      ap (λ b. unless b NoTable (unless (is_some (named tables number key)) NoSuchRow None))
      (is_unknown catalog plan number none)

  pub unknown_update : (key row : List Datum) → slice_get catalog.tables number ≡ None
      → fault_of (setting_of catalog plan) tables (Update number key row) ≡ Some NoTable
  unknown_update key row none =
      ap (λ b. unless b NoTable
      (unless_unfit ((setting_of catalog plan).fault number row) (unless (is_some (named tables number key)) NoSuchRow
      (unless (is_free (setting_of catalog plan).keys
      (without (setting_of catalog plan).keys tables number (named tables number key)) number row) DuplicateKey
      None))))
      (is_unknown catalog plan number none)

-- for a table that exists, whose rows are at these places
module _ (catalog : CatalogOf Expr) (plan : PlanOf) (tables : Tables) (number : ℕ) (table : Table)
    (there : slice_get catalog.tables number ≡ Some table)
    (places : Places) (same : (key : ℕ) (value : List Datum) → tables number key value ≡ places key value) where
  keys_are : (setting_of catalog plan).keys number ≡ keys_in (Some table)
  keys_are = ap keys_in there

  fault_is : (row : List Datum) → (setting_of catalog plan).fault number row ≡ row_fault table.columns row
  fault_is row = ap (λ found. table_fault found row) there

  free_is : (others : Tables) (seen : Places)
      → ((key : ℕ) (value : List Datum) → others number key value ≡ seen key value) → (row : List Datum)
      → is_free (setting_of catalog plan).keys others number row ≡ is_free_from seen 0 (keys_in (Some table)) row
  free_is others seen alike row =
      ap (λ keys. is_free_from (others number) 0 keys row) keys_are
      ∙ free_from_alike (others number) seen alike 0 (keys_in (Some table)) row

  pub insert_fault : (row : List Datum)
      → fault_of (setting_of catalog plan) tables (Insert number row)
      ≡ unless_unfit (row_fault table.columns row) (unless_taken (keys_in (Some table)) places row)
  insert_fault row =
      ap (λ b. unless b NoTable
      (unless_unfit ((setting_of catalog plan).fault number row)
      (unless (is_free (setting_of catalog plan).keys tables number row) DuplicateKey None)))
      (is_known catalog plan number table there)
      ∙ ap (λ fault. unless_unfit fault
      (unless (is_free (setting_of catalog plan).keys tables number row) DuplicateKey None)) (fault_is row)
      ∙ ap (λ b. unless_unfit (row_fault table.columns row) (unless b DuplicateKey None))
      (free_is tables places same row)

  pub delete_fault_is : (key : List Datum)
      → fault_of (setting_of catalog plan) tables (Delete number key) ≡ delete_fault places key
  delete_fault_is key =
      ap (λ b. unless b NoTable (unless (is_some (named tables number key)) NoSuchRow None))
      (is_known catalog plan number table there)
      ∙ ap (λ found. unless (is_some found) NoSuchRow None) (same 0 key)

  pub out_is : (row : List Datum) (found : Option (List Datum)) (key : ℕ) (value : List Datum)
      → put (setting_of catalog plan).keys tables number row found number key value
      ≡ put_at places (values_in (keys_in (Some table)) row) found key value
  out_is row found key value =
      put_is (setting_of catalog plan).keys tables places number row found key value (same key value)
      ∙ ap (λ keys. put_at places (values_in keys row) found key value) keys_are

  without_is : (found : Option (List Datum)) (key : ℕ) (value : List Datum)
      → without (setting_of catalog plan).keys tables number found number key value
      ≡ without_at (keys_in (Some table)) places found key value
  without_is None key value = same key value
  without_is (Some row) key value = out_is row None key value

  pub update_fault_is : (key row : List Datum)
      → fault_of (setting_of catalog plan) tables (Update number key row)
      ≡ unless_unfit (row_fault table.columns row) (replace_fault (keys_in (Some table)) places key row)
  update_fault_is key row =
      let free : Option (List Datum) → Bool =
      λ found. is_free (setting_of catalog plan).keys (without (setting_of catalog plan).keys tables number found)
      number row in
      ap (λ b. unless b NoTable
      (unless_unfit ((setting_of catalog plan).fault number row)
      (unless (is_some (named tables number key)) NoSuchRow
      (unless (free (named tables number key)) DuplicateKey None))))
      (is_known catalog plan number table there)
      ∙ ap (λ fault. unless_unfit fault
      (unless (is_some (named tables number key)) NoSuchRow
      (unless (free (named tables number key)) DuplicateKey None))) (fault_is row)
      ∙ ap (λ found. unless_unfit (row_fault table.columns row)
      (unless (is_some found) NoSuchRow (unless (free found) DuplicateKey None))) (same 0 key)
      ∙ ap (λ b. unless_unfit (row_fault table.columns row)
      (unless (is_some (places 0 key)) NoSuchRow (unless b DuplicateKey None)))
      (free_is (without (setting_of catalog plan).keys tables number (places 0 key))
      (without_at (keys_in (Some table)) places (places 0 key)) (without_is (places 0 key)) row)

-- ---- what commands leave, and what is recorded of them

module _ (catalog : CatalogOf Expr) (plan : PlanOf) (old : List TableRows) (number : ℕ) (table : Table)
    (rows new : TableRows)
    (there : slice_get catalog.tables number ≡ Some table) (at : slice_get old number ≡ Some rows) where
  alike : (key : ℕ) (value : List Datum) → seen_in old number key value ≡ seen_at rows.maps.items key value
  alike key value = seen_before old number rows rows at key value

  pub insert_applies : (row : List Datum) (change : r.ChangeOf) → number < 64
      → unless_unfit (row_fault table.columns row) (unless_taken (keys_in (Some table)) (seen_at rows.maps.items) row)
      ≡ None
      → InsertsRow table number rows new row change
      → Applies (setting_of catalog plan) old (slice_set old number new) (Insert number row) change
  insert_applies row change low h inserts = record {
    no_fault = insert_fault catalog plan (seen_in old) number table there (seen_at rows.maps.items) alike row ∙ h;
    leaves = sees_tables old number rows new at (put_in (setting_of catalog plan).keys (seen_in old) number row)
        (λ key value. inserts.puts.sees key value
        ∙ sym (out_is catalog plan (seen_in old) number table there (seen_at rows.maps.items) alike row (Some row)
        key value))
        (λ other apart key value. put_others (setting_of catalog plan).keys (seen_in old) number row (Some row) other
        apart key value);
    records = inserts.records;
    sendable = subst IsSendableChange (sym inserts.records)
        (let both : IsSendableChange (r.Insert number row) = (low, inserts.sendable) in both);
  }

  module _ (key gone : List Datum) (found : seen_at rows.maps.items 0 key ≡ Some gone) where
    named_is : named (seen_in old) number key ≡ Some gone
    named_is = alike 0 key ∙ found

    delete_one : (change : r.ChangeOf) → change ≡ r.Delete number (part_in table gone None) → number < 64
        → IsSendableRow gone → PutsRow rows new (values_in (keys_in (Some table)) gone) None
        → Applies (setting_of catalog plan) old (slice_set old number new) (Delete number key) change
    delete_one change is low sendable puts = record {
      no_fault = delete_fault_is catalog plan (seen_in old) number table there (seen_at rows.maps.items) alike key
          ∙ ap (λ place. unless (is_some place) NoSuchRow None) found;
      leaves = subst (λ place. SameTables (seen_in (slice_set old number new))
          (without (setting_of catalog plan).keys (seen_in old) number place)) (sym named_is)
          (sees_tables old number rows new at (take_out (setting_of catalog plan).keys (seen_in old) number gone)
          (λ place value. puts.sees place value
          ∙ sym (out_is catalog plan (seen_in old) number table there (seen_at rows.maps.items) alike gone None
          place value))
          (λ other apart place value. put_others (setting_of catalog plan).keys (seen_in old) number gone None other
          apart place value));
      records = is ∙ ap (r.Delete number) (sym (records_parts catalog plan number table there gone None))
          ∙ ap (λ place. r.Delete number (r.part_found (setting_of catalog plan) number place None)) (sym named_is);
      sendable = subst IsSendableChange (sym is)
          (let both : IsSendableChange (r.Delete number (part_in table gone None)) =
          (low, part_sendable table gone None sendable) in both);
    }

    update_one : (row : List Datum) (change : r.ChangeOf)
        → change ≡ r.Update number (part_in table gone (Some row)) row → number < 64 → IsSendableRow gone
        → IsSendableRow row
        → unless_unfit (row_fault table.columns row)
        (replace_fault (keys_in (Some table)) (seen_at rows.maps.items) key row) ≡ None
        → ReplacesRow rows new (keys_in (Some table)) gone row
        → Applies (setting_of catalog plan) old (slice_set old number new) (Update number key row) change
    update_one row change is low sendable new_sendable h replaces = record {
      no_fault = update_fault_is catalog plan (seen_in old) number table there (seen_at rows.maps.items) alike key row
          ∙ h;
      leaves = subst (λ place. SameTables (seen_in (slice_set old number new))
          (put_in (setting_of catalog plan).keys (without (setting_of catalog plan).keys (seen_in old) number place)
          number row))
          (sym named_is)
          (sees_tables old number rows new at
          (put_in (setting_of catalog plan).keys
          (take_out (setting_of catalog plan).keys (seen_in old) number gone) number row)
          (λ place value. replaces.sees place value
          ∙ sym (out_is catalog plan (take_out (setting_of catalog plan).keys (seen_in old) number gone) number table
          there
          (put_at (seen_at rows.maps.items) (values_in (keys_in (Some table)) gone) None)
          (λ k v. out_is catalog plan (seen_in old) number table there (seen_at rows.maps.items) alike gone None k v)
          row (Some row) place value))
          (λ other apart place value.
          put_others (setting_of catalog plan).keys
          (take_out (setting_of catalog plan).keys (seen_in old) number gone) number row (Some row) other apart
          place value
          ∙ put_others (setting_of catalog plan).keys (seen_in old) number gone None other apart place value));
      records = is ∙ ap (λ one. r.Update number one row)
          (sym (records_parts catalog plan number table there gone (Some row)))
          ∙ ap (λ place. r.Update number (r.part_found (setting_of catalog plan) number place (Some row)) row)
          (sym named_is);
      sendable = subst IsSendableChange (sym is)
          (let all : IsSendableChange (r.Update number (part_in table gone (Some row)) row) =
          (low, part_sendable table gone (Some row) sendable, new_sendable) in all);
    }

  pub delete_applies : (key : List Datum) (change : r.ChangeOf) → number < 64
      → DeletesRow table number rows new key change
      → Applies (setting_of catalog plan) old (slice_set old number new) (Delete number key) change
  delete_applies key change low deletes =
      delete_one key deletes.gone deletes.found change deletes.records low deletes.gone_sendable deletes.puts

  pub update_applies : (key row : List Datum) (change : r.ChangeOf) → number < 64
      → unless_unfit (row_fault table.columns row)
      (replace_fault (keys_in (Some table)) (seen_at rows.maps.items) key row) ≡ None
      → UpdatesRow table number rows new key row change
      → Applies (setting_of catalog plan) old (slice_set old number new) (Update number key row) change
  update_applies key row change low h updates =
      update_one key updates.gone updates.found row change updates.records low updates.gone_sendable updates.sendable
      h updates.puts

-- ---- answers

-- what holds of a good answer, and what else holds because there is no fault
pub if_ok : {V : Type 0} (result : Result V Refused) (fault : Option CommandFault) (P Q : V → Type 0)
    → Finds fault result → IfOk result P
    → ((value : V) → fault ≡ None → P value → Q value) → IfOk result Q
if_ok (Ok value) fault P Q finds ok more = more value finds ok
if_ok (Err refused) fault P Q finds ok more = tt

pub low_number : (tables : List Table) (number : ℕ) (table : Table) → length tables ≤ 64
    → slice_get tables number ≡ Some table → number < 64
low_number tables number table few there = let low : number < length tables = within tables number table there in
    omega arith

-- ---- one table of all, in which a command was tried

module _ (checked : CheckedOf) (tables : List TableRows) (number : ℕ) (table : Table) (missing_rows new : TableRows)
    (maps : HasMaps checked.catalog.tables tables)
    (there : slice_get checked.catalog.tables number ≡ Some table) where
  here : slice_get tables number ≡ Some (slice_index_or tables number missing_rows)
  here = slice_get-get_or tables number missing_rows
      (has_rows checked.catalog.tables tables number table maps.wide there)

  pub narrow_here : length table.columns ≤ 100
  narrow_here = maps.narrow.narrow number table there

  pub wide_here : length (slice_index_or tables number missing_rows).maps.items ≡ length (keys_in (Some table))
  wide_here = has_width checked.catalog.tables tables number table (slice_index_or tables number missing_rows)
      maps.wide there here

  keeps_here : KeepsRows (slice_index_or tables number missing_rows) new
      → KeepsTables tables (slice_set tables number new)
  keeps_here keeps = keeps_tables tables number (slice_index_or tables number missing_rows) new here keeps

  before : (key : ℕ) (value : List Datum)
      → seen_in tables number key value ≡ seen_at (slice_index_or tables number missing_rows).maps.items key value
  before key value = seen_before tables number (slice_index_or tables number missing_rows) new here key value

  low : number < 64
  low = low_number checked.catalog.tables number table maps.narrow.few there

  -- what holds of the call on this table's rows holds of all tables
  tries_here : (command : Command) (refusal : Option CommandFault) (IsDone : r.ChangeOf → Type 0)
      (result : Result Change Refused)
      → fault_of (setting_in checked) (seen_in tables) command ≡ refusal
      → ((change : r.ChangeOf) → refusal ≡ None → IsDone change
      → Applies (setting_in checked) tables (slice_set tables number new) command change)
      → TriesRows refusal (λ change. IsDone (change_view change)) (slice_index_or tables number missing_rows) result new
      → Tries (setting_in checked) command tables result (slice_set tables number new)
  tries_here command refusal IsDone result same applies tries = record {
    fault = subst (λ fault. Finds fault result) (sym same) tries.fault;
    keeps = keeps_here tries.keeps;
    ok = if_ok result refusal (λ change. IsDone (change_view change))
        (λ change. Applies (setting_in checked) tables (slice_set tables number new) command (change_view change))
        tries.fault tries.ok (λ change none done. applies (change_view change) none done);
  }

  pub tries_insert : (result : Result Change Refused) (row : List Datum)
      → TriesRows (unless_unfit (row_fault table.columns row)
      (unless_taken (keys_in (Some table)) (seen_at (slice_index_or tables number missing_rows).maps.items) row))
      (λ change. InsertsRow table number (slice_index_or tables number missing_rows) new row (change_view change))
      (slice_index_or tables number missing_rows) result new
      → Tries (setting_in checked) (Insert number row) tables result (slice_set tables number new)
  tries_insert result row = tries_here (Insert number row)
      (unless_unfit (row_fault table.columns row)
      (unless_taken (keys_in (Some table)) (seen_at (slice_index_or tables number missing_rows).maps.items) row))
      (InsertsRow table number (slice_index_or tables number missing_rows) new row) result
      (insert_fault checked.catalog checked.plan (seen_in tables) number table there
      (seen_at (slice_index_or tables number missing_rows).maps.items) before row)
      (λ change none inserts. insert_applies checked.catalog checked.plan tables number table
      (slice_index_or tables number missing_rows) new there here row change low none inserts)

  pub tries_delete : (result : Result Change Refused) (key : List Datum)
      → TriesRows (delete_fault (seen_at (slice_index_or tables number missing_rows).maps.items) key)
      (λ change. DeletesRow table number (slice_index_or tables number missing_rows) new key (change_view change))
      (slice_index_or tables number missing_rows) result new
      → Tries (setting_in checked) (Delete number key) tables result (slice_set tables number new)
  tries_delete result key = tries_here (Delete number key)
      (delete_fault (seen_at (slice_index_or tables number missing_rows).maps.items) key)
      (DeletesRow table number (slice_index_or tables number missing_rows) new key) result
      (delete_fault_is checked.catalog checked.plan (seen_in tables) number table there
      (seen_at (slice_index_or tables number missing_rows).maps.items) before key)
      (λ change none deletes. delete_applies checked.catalog checked.plan tables number table
      (slice_index_or tables number missing_rows) new there here key change low deletes)

  pub tries_update : (result : Result Change Refused) (key row : List Datum)
      → TriesRows (unless_unfit (row_fault table.columns row)
      (replace_fault (keys_in (Some table)) (seen_at (slice_index_or tables number missing_rows).maps.items) key
      row))
      (λ change. UpdatesRow table number (slice_index_or tables number missing_rows) new key row
      (change_view change)) (slice_index_or tables number missing_rows) result new
      → Tries (setting_in checked) (Update number key row) tables result (slice_set tables number new)
  tries_update result key row = tries_here (Update number key row)
      (unless_unfit (row_fault table.columns row)
      (replace_fault (keys_in (Some table)) (seen_at (slice_index_or tables number missing_rows).maps.items) key
      row))
      (UpdatesRow table number (slice_index_or tables number missing_rows) new key row) result
      (update_fault_is checked.catalog checked.plan (seen_in tables) number table there
      (seen_at (slice_index_or tables number missing_rows).maps.items) before key row)
      (λ change none updates. update_applies checked.catalog checked.plan tables number table
      (slice_index_or tables number missing_rows) new there here key row change low none updates)
