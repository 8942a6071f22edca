-- A sound sharding has what the laws about changes of tables require of its setting.
use Rattle.std.proofs.Common.{◌≡◌, ◌≢◌, ℕ, zero, suc, ◌+◌, ◌<◌, Bool, true, false, not, ◌&&◌, ◌||◌, List, [], ◌∷◌, length, refl, sym, ◌∙◌, ap, subst, arith}
use Rattle.std.specs.Prelude.{Option, Some, None, IfSome, ◌==◌, nat_lt, if◌then◌else◌, is_none, slice_get, filter_map}
use Rattle.std.specs.List.{list_any, list_all}
use Rattle.std.proofs.lemmas.Bool.{ltb-true}
use Rattle.std.proofs.lemmas.Option.{slice_get_within}
use Rattle.filter_tree.specs.Datum.{Datum, Missing, Known, value_at}
use Rattle.filter_tree.specs.Expr.{Expr}
use Rattle.filter_tree.specs.Lists.{distinct_columns, AgreesOn}
use Rattle.filter_tree.specs.Valid.{row_fault, Fits, IsValid}
use Rattle.filter_tree.specs.declared.table.Identity.{Identity}
use Rattle.filter_tree.specs.declared.table.Identity.TheVariants.{Default, Index, Full, Nothing}
use Rattle.filter_tree.specs.declared.table.Column.{Column}
use Rattle.filter_tree.specs.declared.table.Table.{Table}
use Rattle.filter_tree.specs.declared.table.UniqueIndex.{UniqueIndex}
use Rattle.filter_tree.proofs.ListsLemmas.{determined_by_columns}
use Rattle.filter_tree.proofs.ValidLemmas.{valid_from_no_fault}
use Rattle.pub_catalog.specs.Catalogs.{CatalogOf, PublicationOf, EntryOf}
use Rattle.pub_catalog.specs.IndexIdentities.{takes_no_null, take_no_null, identifies}
use Rattle.pub_catalog.specs.declared.catalog.Subscription.{Subscription}
use Rattle.replica_identity.specs.Identities.{index_columns, columns_by, identity_columns, identity_tells, tells_rows_apart}
use Rattle.replica_identity.specs.Passes.{listed_by, lets, entry_carries, carries}
use Rattle.replica_identity.specs.Plans.{PlanOf, TakesWhatPasses, share_at, plan_of}
use Rattle.replica_identity.specs.Setting.{recorded_as, table_fault, recorded_in, row_identity, identity_in, blanked_by, blanked_in, setting_of}
use Rattle.replica_identity.specs.Shares.{ShareOf, Everything, Where, takes, is_true, is_nothing}
use Rattle.replica_identity.specs.Shares as share
use Rattle.replica_identity.proofs.PassingLemmas.{takes_what_passes}
use Rattle.replica_identity.proofs.SettingLemmas.{has_primary_keys, has_table}
use Rattle.table_changes.specs.Columns.{values_at, is_null, unless_null, blanked_from}
use Rattle.table_changes.specs.Commands.{Command, fault_of, applied}
use Rattle.table_changes.specs.Setting.{Nowhere, fits}
use Rattle.table_changes.specs.Standing.{Covered, Apart, KeepsApart, PassesToOne, DividesRows}
use Rattle.table_changes.specs.Tables.{Tables, holds, Stands}
use Rattle.table_changes.proofs.ChangeLemmas.{keeps_keyed, is_new_or_old}
use Rattle.table_changes.proofs.TableLemmas.{one_row, at_zero, zero_more, at_next}
use Rattle.shard_checker.specs.Rows.{IsTyped}
use Rattle.shard_checker.specs.Sound.{is_listed, is_taken, RowHasOneOwner, is_covered_by, entry_is_covered, IsSound}
use Rattle.shard_checker.proofs.RowLemmas.{typed_of_valid}
use Rattle.shard_checker.proofs.Testing.{left_true, right_true, by_either, same_number, number_itself}
use Rattle.filter_tree.proofs.Tests.{by_test, both_true}

-- whether the list has the number
abbrev has : List ℕ → ℕ → Bool
has numbers number = list_any (λ n. n == number) numbers

-- ---- rows with the same identity pass alike

value_alike : (columns : List ℕ) (one other : List Datum) (column : ℕ)
    → values_at columns one ≡ values_at columns other → has columns column ≡ true
    → value_at one column ≡ value_at other column
value_alike [] one other column e h = absurd cc
value_alike (first ∷ columns) one other column e h =
    let here : value_at one first ≡ value_at other first = cc in
    let rest : values_at columns one ≡ values_at columns other = cc in
    by_either (first == column) (has columns column) h
    (λ same. subst (λ c. value_at one c ≡ value_at other c) (same_number first column same) here)
    (λ later. value_alike columns one other column rest later)

agrees : (found columns : List ℕ) (one other : List Datum) → values_at columns one ≡ values_at columns other
    → list_all (has columns) found ≡ true → AgreesOn found one other
agrees [] columns one other e h = tt
agrees (column ∷ found) columns one other e h =
    let both = both_true (has columns column) (list_all (has columns) found) h in
    (value_alike columns one other column e both.0, agrees found columns one other e both.1)

lets_alike : (table : Table) (filter : Option Expr) (one other : List Datum)
    → values_at (identity_columns table) one ≡ values_at (identity_columns table) other
    → is_covered_by (Some table) filter ≡ true → lets filter one ≡ lets filter other
lets_alike table None one other e h = refl
lets_alike table (Some filter) one other e h =
    ap is_true ((determined_by_columns filter (distinct_columns filter) refl).same_meaning one other
    (agrees (distinct_columns filter) (identity_columns table) one other e h))

entry_alike : (tables : List Table) (number : ℕ) (table : Table) (entry : EntryOf Expr) (one other : List Datum)
    → slice_get tables number ≡ Some table
    → values_at (identity_columns table) one ≡ values_at (identity_columns table) other
    → entry_is_covered tables entry ≡ true → entry_carries number one entry ≡ entry_carries number other entry
entry_alike tables number table entry one other there e h = by_test (entry.table == number)
    (λ same. let found : slice_get tables entry.table ≡ Some table =
    ap (slice_get tables) (same_number entry.table number same) ∙ there in
    ap (λ b. (entry.table == number) && b)
    (lets_alike table entry.filter one other e (subst (λ f. is_covered_by f entry.filter ≡ true) found h)))
    (λ differs. rw differs refl)

entries_alike : (tables : List Table) (number : ℕ) (table : Table) (entries : List (EntryOf Expr))
    (one other : List Datum) → slice_get tables number ≡ Some table
    → values_at (identity_columns table) one ≡ values_at (identity_columns table) other
    → list_all (entry_is_covered tables) entries ≡ true
    → list_any (entry_carries number one) entries ≡ list_any (entry_carries number other) entries
entries_alike tables number table [] one other there e h = refl
entries_alike tables number table (entry ∷ entries) one other there e h =
    let both = both_true (entry_is_covered tables entry) (list_all (entry_is_covered tables) entries) h in
    ap (λ b. b || list_any (entry_carries number one) entries)
    (entry_alike tables number table entry one other there e both.0)
    ∙ ap (λ b. entry_carries number other entry || b)
    (entries_alike tables number table entries one other there e both.1)

abbrev onto : Option (PublicationOf Expr) → List (PublicationOf Expr) → List (PublicationOf Expr)
onto None rest = rest
onto (Some publication) rest = publication ∷ rest

abbrev AllCovered : List Table → Option (PublicationOf Expr) → Type 0
AllCovered tables found = IfSome found (λ publication. list_all (entry_is_covered tables) publication.entries ≡ true)

one_alike : (tables : List Table) (number : ℕ) (table : Table) (found : Option (PublicationOf Expr))
    (rest : List (PublicationOf Expr)) (one other : List Datum)
    → slice_get tables number ≡ Some table
    → values_at (identity_columns table) one ≡ values_at (identity_columns table) other → AllCovered tables found
    → list_any (carries number one) rest ≡ list_any (carries number other) rest
    → list_any (carries number one) (onto found rest) ≡ list_any (carries number other) (onto found rest)
one_alike tables number table None rest one other there e covered later = later
one_alike tables number table (Some publication) rest one other there e covered later =
    ap (λ b. b || list_any (carries number one) rest)
    (entries_alike tables number table publication.entries one other there e covered)
    ∙ ap (λ b. carries number other publication || b) later

listed_alike : (catalog : CatalogOf Expr) (number : ℕ) (table : Table) (numbers : List ℕ) (one other : List Datum)
    → slice_get catalog.tables number ≡ Some table
    → values_at (identity_columns table) one ≡ values_at (identity_columns table) other
    → ((n : ℕ) → has numbers n ≡ true → AllCovered catalog.tables (slice_get catalog.publications n))
    → list_any (carries number one) (filter_map (slice_get catalog.publications) numbers)
    ≡ list_any (carries number other) (filter_map (slice_get catalog.publications) numbers)
listed_alike catalog number table [] one other there e covered = refl
listed_alike catalog number table (n ∷ numbers) one other there e covered =
    one_alike catalog.tables number table (slice_get catalog.publications n)
    (filter_map (slice_get catalog.publications) numbers) one other there e
    (covered n (left_true (n == n) (has numbers n) (number_itself n)))
    (listed_alike catalog number table numbers one other there e
    (λ m h. covered m (right_true (n == m) (has numbers m) h)))

-- a publication that a subscription lists is subscribed
listed_is_taken : (subscriptions : List Subscription) (place : ℕ) (subscription : Subscription)
    → slice_get subscriptions place ≡ Some subscription
    → (n : ℕ) → has subscription.publications n ≡ true → is_taken subscriptions n ≡ true
listed_is_taken [] place subscription there n h = absurd cc
listed_is_taken (first ∷ subscriptions) zero subscription there n h =
    let same : first ≡ subscription = cc in
    left_true (is_listed n first) (is_taken subscriptions n) (subst (λ s. is_listed n s ≡ true) (sym same) h)
listed_is_taken (first ∷ subscriptions) (suc place) subscription there n h =
    right_true (is_listed n first) (is_taken subscriptions n)
    (listed_is_taken subscriptions place subscription there n h)

passes_alike : (catalog : CatalogOf Expr) → IsSound catalog
    → (subscriber number : ℕ) (table : Table) (found : Option Subscription) (one other : List Datum)
    → slice_get catalog.subscriptions subscriber ≡ found → slice_get catalog.tables number ≡ Some table
    → values_at (identity_columns table) one ≡ values_at (identity_columns table) other
    → list_any (carries number one) (listed_by catalog.publications found)
    ≡ list_any (carries number other) (listed_by catalog.publications found)
passes_alike catalog sound subscriber number table None one other at there e = refl
passes_alike catalog sound subscriber number table (Some subscription) one other at there e =
    listed_alike catalog number table subscription.publications one other there e
    (λ n h. sound.covered n (listed_is_taken catalog.subscriptions subscriber subscription at n h))

-- under FULL rows with the same identity are the same row; otherwise they have the same value in each column of the
-- identity
by_identity : {P : Type 0} (identity : Identity) (table : Table) (one other : List Datum)
    → row_identity (recorded_as identity) table one ≡ row_identity (recorded_as identity) table other
    → (one ≡ other → P) → (values_at (identity_columns table) one ≡ values_at (identity_columns table) other → P) → P
by_identity Default table one other h whole some = some h
by_identity (Index number) table one other h whole some = some h
by_identity Full table one other h whole some = whole h
by_identity Nothing table one other h whole some = some h

takes_alike : (catalog : CatalogOf Expr) (plan : PlanOf) → IsSound catalog → TakesWhatPasses catalog plan
    → (subscriber number : ℕ) (found : Option Table) (one other : List Datum)
    → slice_get catalog.tables number ≡ found → identity_in found one ≡ identity_in found other
    → takes (share_at plan subscriber number) one ≡ takes (share_at plan subscriber number) other
takes_alike catalog plan sound own subscriber number None one other there h =
    ap (takes (share_at plan subscriber number)) h
takes_alike catalog plan sound own subscriber number (Some table) one other there h =
    let within = slice_get_within catalog.tables number table there in
    by_identity table.identity table one other h
    (λ same. ap (takes (share_at plan subscriber number)) same)
    (λ some. own.same subscriber number within one
    ∙ passes_alike catalog sound subscriber number table (slice_get catalog.subscriptions subscriber) one other refl
    there some
    ∙ sym (own.same subscriber number within other))

-- ---- blanked rows

value_kept : (columns : List ℕ) (number : ℕ) (row : List Datum) (place : ℕ) → has columns (number + place) ≡ true
    → value_at (blanked_from columns number row) place ≡ value_at row place
value_kept columns number [] place h = refl
value_kept columns number (value ∷ values) zero h =
    ap (λ b. if b then value else Missing) (subst (λ n. has columns n ≡ true) (at_zero number) h)
value_kept columns number (value ∷ values) (suc place) h =
    value_kept columns (number + 1) values place (subst (λ n. has columns n ≡ true) (at_next number place) h)

values_kept : (columns part : List ℕ) (row : List Datum)
    → ((column : ℕ) → has part column ≡ true → has columns column ≡ true)
    → values_at part (blanked_from columns 0 row) ≡ values_at part row
values_kept columns [] row within = refl
values_kept columns (column ∷ part) row within =
    let here : has columns column ≡ true =
    within column (left_true (column == column) (has part column) (number_itself column)) in
    ap (λ value. value ∷ values_at part (blanked_from columns 0 row))
    (value_kept columns 0 row column (subst (λ n. has columns n ≡ true) (sym (zero_more column)) here))
    ∙ ap (λ values. value_at row column ∷ values)
    (values_kept columns part row
    (λ another h. within another (right_true (column == another) (has part another) h)))

blanked_as : (identity : Identity) (table : Table) (row : List Datum)
    → row_identity (recorded_as identity) table (blanked_by (recorded_as identity) table row)
    ≡ row_identity (recorded_as identity) table row
blanked_as Default table row = values_kept (identity_columns table) (identity_columns table) row (λ column h. h)
blanked_as (Index number) table row = values_kept (identity_columns table) (identity_columns table) row (λ column h. h)
blanked_as Full table row = refl
blanked_as Nothing table row = values_kept (identity_columns table) (identity_columns table) row (λ column h. h)

blanked_is : (found : Option Table) (row : List Datum)
    → identity_in found (blanked_in found row) ≡ identity_in found row
blanked_is None row = refl
blanked_is (Some table) row = blanked_as table.identity table row

recorded_some : (identity : Identity) (table : Table) → identity_tells identity table ≡ true
    → recorded_as identity ≢ Nowhere
recorded_some Default table h = λ e. cc
recorded_some (Index number) table h = λ e. cc
recorded_some Full table h = λ e. cc
recorded_some Nothing table h = absurd cc

recorded_is : (found : Option Table) → IfSome found (λ table. tells_rows_apart table ≡ true)
    → recorded_in found ≢ Nowhere
recorded_is None h = λ e. cc
recorded_is (Some table) h = recorded_some table.identity table h

-- a subscriber that gets a row gets something
takes_some : (given : ShareOf) (row : List Datum) → takes given row ≡ true → not (is_nothing given) ≡ true
takes_some share.Nothing row h = absurd cc
takes_some Everything row h = refl
takes_some (Where filter) row h = refl

pub covered : (catalog : CatalogOf Expr) (plan : PlanOf) → IsSound catalog → TakesWhatPasses catalog plan
    → Covered (setting_of catalog plan)
covered catalog plan sound own = record {
  decides = λ subscriber table one other h. takes_alike catalog plan sound own subscriber table
      (slice_get catalog.tables table) one other refl h;
  blanked = λ table row. blanked_is (slice_get catalog.tables table) row;
  recorded = λ table. recorded_is (slice_get catalog.tables table) (sound.identified table);
  carried = λ subscriber table row h. takes_some (share_at plan subscriber table) row h;
}

-- ---- a row that fits has no null in NOT NULL columns

no_fault : {A : Type 0} (found : Option A) → is_none found ≡ true → found ≡ None
no_fault None h = refl
no_fault (Some fault) h = absurd cc

valid_of_fits : (catalog : CatalogOf Expr) (plan : PlanOf) (number : ℕ) (table : Table) (row : List Datum)
    → slice_get catalog.tables number ≡ Some table
    → fits (setting_of catalog plan) number row ≡ true → IsValid table.columns row
valid_of_fits catalog plan number table row there h =
    let both = both_true (nat_lt number (length catalog.tables))
    (is_none (table_fault (slice_get catalog.tables number) row)) h in
    valid_from_no_fault table.columns row
    (no_fault (row_fault table.columns row) (subst (λ found. is_none (table_fault found row) ≡ true) there both.1))

value_there : (found : Option Column) (value : Datum) → IfSome found (λ column. Fits column value)
    → takes_no_null found ≡ true → is_null value ≡ false
value_there None value fit h = absurd cc
value_there (Some column) Missing fit h = absurd (let nullable : column.not_null ≡ false = fit in cc)
value_there (Some column) (Known constant) fit h = refl

no_null_in : (columns : List Column) (row : List Datum) → IsValid columns row → (numbers : List ℕ)
    → take_no_null columns numbers ≡ true → list_any is_null (values_at numbers row) ≡ false
no_null_in columns row valid [] h = refl
no_null_in columns row valid (number ∷ numbers) h =
    let both = both_true (takes_no_null (slice_get columns number)) (take_no_null columns numbers) h in
    let here : is_null (value_at row number) ≡ false =
    value_there (slice_get columns number) (value_at row number) (valid.fits number) both.0 in
    let later : list_any is_null (values_at numbers row) ≡ false = no_null_in columns row valid numbers both.1 in
    rw (here, later) refl

whole_value : (values : List Datum) → list_any is_null values ≡ false → unless_null values ≡ Some values
whole_value values h = rw h refl

-- ---- identities distinguish rows

-- what is known about tables and about what a command without a fault leaves of them
record Leaves (catalog : CatalogOf Expr) (plan : PlanOf) (tables : Tables) (command : Command) : Type 0 where
  accepted : fault_of (setting_of catalog plan) tables command ≡ None
  before : Stands (setting_of catalog plan).keys tables
  apart : Apart (setting_of catalog plan) tables

-- two rows that exist after the command
record BothHeld (catalog : CatalogOf Expr) (plan : PlanOf) (tables : Tables) (command : Command) (number : ℕ)
    (one other : List Datum) : Type 0 where
  first : holds (setting_of catalog plan).keys (applied (setting_of catalog plan) tables command) number one ≡ true
  second : holds (setting_of catalog plan).keys (applied (setting_of catalog plan) tables command) number other ≡ true
  same : (setting_of catalog plan).identity number one ≡ (setting_of catalog plan).identity number other

-- a row with a null in NOT NULL columns existed before the command
was_there : (catalog : CatalogOf Expr) (plan : PlanOf) (tables : Tables) (command : Command)
    → Leaves catalog plan tables command
    → (number : ℕ) (table : Table) → slice_get catalog.tables number ≡ Some table → (columns : List ℕ)
    → take_no_null table.columns columns ≡ true → (row : List Datum)
    → holds (setting_of catalog plan).keys (applied (setting_of catalog plan) tables command) number row ≡ true
    → list_any is_null (values_at columns row) ≡ true
    → holds (setting_of catalog plan).keys tables number row ≡ true
was_there catalog plan tables command leaves number table there columns none row held null =
    is_new_or_old (setting_of catalog plan) (has_primary_keys catalog plan) tables command leaves.accepted
    leaves.before number row held
    (λ fit. absurd (let whole =
    no_null_in table.columns row (valid_of_fits catalog plan number table row there fit) columns none in cc))
    (λ old. old)

apart_by_index : (catalog : CatalogOf Expr) (plan : PlanOf) (tables : Tables) (command : Command)
    → Leaves catalog plan tables command
    → (number : ℕ) (table : Table) → slice_get catalog.tables number ≡ Some table → (one other : List Datum)
    → BothHeld catalog plan tables command number one other
    → (place : ℕ) (index : UniqueIndex) → slice_get table.indexes place ≡ Some index
    → take_no_null table.columns index.columns ≡ true
    → values_at index.columns one ≡ values_at index.columns other → one ≡ other
apart_by_index catalog plan tables command leaves number table there one other both place index at none same =
    by_test (list_any is_null (values_at index.columns one))
    (λ null. leaves.apart number one other
    (was_there catalog plan tables command leaves number table there index.columns none one both.first null)
    (was_there catalog plan tables command leaves number table there index.columns none other both.second
    (subst (λ values. list_any is_null values ≡ true) same null))
    both.same)
    (λ whole.
    let keys = (has_table catalog plan number table there).indexed place index at in
    let value = whole_value (values_at index.columns one) whole in
    one_row (setting_of catalog plan).keys (applied (setting_of catalog plan) tables command)
    (keeps_keyed (setting_of catalog plan) tables command leaves.accepted leaves.before)
    number (place + 1) one other (values_at index.columns one) both.first both.second
    (keys one ∙ value) (keys other ∙ ap unless_null (sym same) ∙ value))

apart_by_key : (catalog : CatalogOf Expr) (plan : PlanOf) (tables : Tables) (command : Command)
    → Leaves catalog plan tables command
    → (number : ℕ) (table : Table) → slice_get catalog.tables number ≡ Some table → (one other : List Datum)
    → BothHeld catalog plan tables command number one other
    → values_at table.key one ≡ values_at table.key other → one ≡ other
apart_by_key catalog plan tables command leaves number table there one other both same =
    let keys = (has_table catalog plan number table there).primary in
    one_row (setting_of catalog plan).keys (applied (setting_of catalog plan) tables command)
    (keeps_keyed (setting_of catalog plan) tables command leaves.accepted leaves.before)
    number 0 one other (values_at table.key one) both.first both.second (keys one) (keys other ∙ ap Some (sym same))

-- by an index that was looked up
by_found : {P : Type 0} (table : Table) (one other : List Datum) (found : Option UniqueIndex)
    → identifies table.columns found ≡ true
    → values_at (index_columns found) one ≡ values_at (index_columns found) other
    → ((index : UniqueIndex) → found ≡ Some index → take_no_null table.columns index.columns ≡ true
    → values_at index.columns one ≡ values_at index.columns other → P) → P
by_found table one other None tells same next = absurd cc
by_found table one other (Some index) tells same next = next index refl tells same

-- the values of the columns of an identity
by_columns : (identity : Identity) (table : Table) (one other : List Datum) → table.identity ≡ identity
    → values_at (identity_columns table) one ≡ values_at (identity_columns table) other
    → values_at (columns_by identity table) one ≡ values_at (columns_by identity table) other
by_columns identity table one other is h =
    subst (λ i. values_at (columns_by i table) one ≡ values_at (columns_by i table) other) is h

apart_by : (catalog : CatalogOf Expr) (plan : PlanOf) (tables : Tables) (command : Command)
    → Leaves catalog plan tables command
    → (number : ℕ) (table : Table) → slice_get catalog.tables number ≡ Some table → (one other : List Datum)
    → BothHeld catalog plan tables command number one other
    → (identity : Identity) → table.identity ≡ identity → identity_tells identity table ≡ true
    → row_identity (recorded_as identity) table one ≡ row_identity (recorded_as identity) table other → one ≡ other
apart_by catalog plan tables command leaves number table there one other both Default is tells same =
    apart_by_key catalog plan tables command leaves number table there one other both
    (by_columns Default table one other is same)
apart_by catalog plan tables command leaves number table there one other both (Index place) is tells same =
    by_found table one other (slice_get table.indexes place) tells (by_columns (Index place) table one other is same)
    (λ index at none values. apart_by_index catalog plan tables command leaves number table there one other both place
    index at none values)
apart_by catalog plan tables command leaves number table there one other both Full is tells same = same
apart_by catalog plan tables command leaves number table there one other both Nothing is tells same = absurd cc

apart_in : (catalog : CatalogOf Expr) (plan : PlanOf) (tables : Tables) (command : Command)
    → Leaves catalog plan tables command
    → (number : ℕ) (one other : List Datum) → BothHeld catalog plan tables command number one other
    → (found : Option Table) → slice_get catalog.tables number ≡ found
    → IfSome found (λ table. tells_rows_apart table ≡ true)
    → identity_in found one ≡ identity_in found other → one ≡ other
apart_in catalog plan tables command leaves number one other both None there tells same = same
apart_in catalog plan tables command leaves number one other both (Some table) there tells same =
    apart_by catalog plan tables command leaves number table there one other both table.identity refl tells same

pub keeps_apart : (catalog : CatalogOf Expr) (plan : PlanOf) → IsSound catalog → KeepsApart (setting_of catalog plan)
keeps_apart catalog plan sound = record {
  kept = λ tables command accepted before apart number one other h k e.
      apart_in catalog plan tables command (record { accepted = accepted; before = before; apart = apart }) number one
      other
      (record { first = h; second = k; same = e }) (slice_get catalog.tables number) refl (sound.identified number) e;
}

-- ---- one subscriber

is_there : (tables : List Table) (number : ℕ) → number < length tables → slice_get tables number ≡ None → ⊥
is_there [] number h e = absurd (omega arith)
is_there (table ∷ tables) zero h e = cc
is_there (table ∷ tables) (suc number) h e = is_there tables number (omega arith) e

one_owner : (catalog : CatalogOf Expr) (plan : PlanOf) → TakesWhatPasses catalog plan → (number : ℕ)
    → number < length catalog.tables → (row : List Datum)
    → RowHasOneOwner catalog number row → PassesToOne (setting_of catalog plan) number row
one_owner catalog plan own number within row one = record {
  owner = one.owner;
  takes_it = own.same one.owner number within row ∙ one.takes_it;
  no_other = λ other h. one.no_other other (sym (own.same other number within row) ∙ h);
}

one_of_fitting : (catalog : CatalogOf Expr) (plan : PlanOf) → TakesWhatPasses catalog plan → (number : ℕ)
    → number < length catalog.tables
    → (found : Option Table) (row : List Datum) → slice_get catalog.tables number ≡ found
    → is_none (table_fault found row) ≡ true
    → IfSome found (λ table. (row : List Datum) → IsTyped table.columns row → RowHasOneOwner catalog number row)
    → PassesToOne (setting_of catalog plan) number row
one_of_fitting catalog plan own number within None row there h sound =
    absurd (is_there catalog.tables number within there)
one_of_fitting catalog plan own number within (Some table) row there h sound =
    one_owner catalog plan own number within row
    (sound row (typed_of_valid table.columns row
    (valid_from_no_fault table.columns row (no_fault (row_fault table.columns row) h))))

pub setting_sound : (catalog : CatalogOf Expr) (plan : PlanOf) → IsSound catalog → TakesWhatPasses catalog plan
    → DividesRows (setting_of catalog plan)
setting_sound catalog plan sound own = record {
  one_owner = λ table row h.
      let both = both_true (nat_lt table (length catalog.tables))
      (is_none (table_fault (slice_get catalog.tables table) row)) h in
      one_of_fitting catalog plan own table (ltb-true table (length catalog.tables) both.0)
      (slice_get catalog.tables table) row refl both.1 (sound.one_owner table);
}

-- ---- for a plan that is the catalog's own

pub own_covered : (catalog : CatalogOf Expr) (plan : PlanOf) → plan ≡ plan_of catalog → IsSound catalog
    → Covered (setting_of catalog plan)
own_covered catalog plan own sound = covered catalog plan sound (takes_what_passes catalog plan own)

pub own_apart : (catalog : CatalogOf Expr) (plan : PlanOf) → plan ≡ plan_of catalog → IsSound catalog
    → KeepsApart (setting_of catalog plan)
own_apart catalog plan own sound = keeps_apart catalog plan sound

pub own_divided : (catalog : CatalogOf Expr) (plan : PlanOf) → plan ≡ plan_of catalog → IsSound catalog
    → DividesRows (setting_of catalog plan)
own_divided catalog plan own sound = setting_sound catalog plan sound (takes_what_passes catalog plan own)

pub ruleset standing = (own_covered, own_apart, own_divided)
