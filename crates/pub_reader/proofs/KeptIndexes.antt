-- Indexes and identities have columns that exist, and a table has at most 8 indexes.
use Rattle.std.proofs.Common.{◌≡◌, ℕ, zero, suc, ◌<◌, ◌≤◌, Bool, true, false, List, [], ◌∷◌, ◌++◌, All, length, refl, ap, subst, arith}
use Rattle.std.specs.Prelude.{nat_le, if◌then◌else◌, Option, Some, None, Ok, Err, slice_get}
use Rattle.std.specs.Option.{is_some}
use Rattle.std.proofs.lemmas.List.{length_push}
use Rattle.std.proofs.lemmas.List.Elements.{All-nil, All-cons, All-head, All-tail, All-push}
use Rattle.filter_tree.specs.declared.table.Column.{Column}
use Rattle.filter_tree.specs.declared.table.Identity.{Identity}
use Rattle.filter_tree.specs.declared.table.Identity.TheVariants.{Default, Index, Full, Nothing}
use Rattle.filter_tree.specs.declared.table.Table.{Table}
use Rattle.filter_tree.specs.declared.table.UniqueIndex.{UniqueIndex}
use Rattle.sql_reader.specs.declared.column.FoundColumn.{FoundColumn}
use Rattle.sql_reader.specs.declared.word.Keyword.TheVariants as k
use Rattle.sql_reader.specs.declared.item.Item.{Item}
use Rattle.sql_reader.specs.declared.item.Item.TheVariants as i
use Rattle.sql_reader.specs.declared.name.PlacedName.{PlacedName}
use Rattle.sql_reader.specs.Expressions.{known_column}
use Rattle.sql_reader.specs.Items.{Items}
use Rattle.sql_reader.specs.Names.{name}
use Rattle.sql_reader.specs.Reading.{Fault, ◌>>◌, with_rest, eat, expect, item_ahead}
use Rattle.sql_reader.specs.Repetitions.{link}
use Rattle.sql_reader.proofs.Keeping.{Gives, then-gives, any-gives, repeat-gives, link-gives}
use Rattle.sql_reader.proofs.NamedParts.{known_column-gives}
use Rattle.sql_reader.proofs.Widths.{AreColumns, room-gives, below}
use Rattle.pub_catalog.specs.CatalogLimits.{IsIndexOf, IsIdentity}
use Rattle.pub_catalog.specs.Catalogs.{schema_at, columns_at, indexes_at, identified, indexed}
use Rattle.pub_reader.specs.Drafts.{DraftOf, find_index, find_relation}
use Rattle.pub_reader.specs.Identities.{action, by_index, index_named, using_index, identity_by, identity, replica_identity}
use Rattle.pub_catalog.specs.IndexIdentities.{identifies}
use Rattle.pub_reader.specs.Indexes.{check_new_index, method, once_in_index, index_column, indexed_columns, index_tail, index_body, indexed_table}
use Rattle.pub_reader.specs.TableNames.{table_number}

-- the limits of a table, without the limits of its names
pub record IsSizedTable (table : Table) : Type 0 where
  pub columns : length table.columns ≤ 100
  pub keyed : AreColumns table.columns table.key
  pub indexes : length table.indexes ≤ 8
  pub indexed : All (IsIndexOf table.columns) table.indexes
  pub identified : IsIdentity table.columns table.indexes table.identity

-- ---- the columns of an index

index_column-gives : (columns : List Column) (numbers : List ℕ) (ts : Items) → AreColumns columns numbers
    → Gives (AreColumns columns) (index_column columns numbers ts)
unfolding index_column
index_column-gives columns numbers ts h =
    any-gives (AreColumns columns) (name ts) _ (λ called ts2.
    then-gives (λ (column : FoundColumn). column.number < length columns) (AreColumns columns)
    (with_rest (known_column columns called) ts2) _ (known_column-gives columns called ts2) (λ column ts3 within.
    any-gives (AreColumns columns) (with_rest (once_in_index numbers called column) ts3) _ (λ n ts4.
    All-push (λ number. number < length columns) numbers column.number h within)))

index_columns-gives : (columns : List Column) (ts : Items) → Gives (AreColumns columns) (indexed_columns columns ts)
unfolding indexed_columns
index_columns-gives columns ts =
    then-gives (AreColumns columns) (AreColumns columns) (index_column columns [] ts) _
    (index_column-gives columns [] ts (All-nil (λ number. number < length columns))) (λ numbers ts2 h.
    repeat-gives (AreColumns columns) (link i.Comma (index_column columns))
    (link-gives (AreColumns columns) i.Comma (index_column columns) (index_column-gives columns)) numbers ts2 h)

pub index_body-gives : (columns : List Column) (ts : Items) → Gives (AreColumns columns) (index_body columns ts)
unfolding index_body
index_body-gives columns ts =
    any-gives (AreColumns columns) (method ts) _ (λ u ts2.
    any-gives (AreColumns columns) (expect i.Open ts2) _ (λ a ts3.
    then-gives (AreColumns columns) (AreColumns columns) (indexed_columns columns ts3) _
    (index_columns-gives columns ts3) (λ numbers ts4 h.
    any-gives (AreColumns columns) (expect i.Close ts4) _ (λ b ts5.
    any-gives (AreColumns columns) (index_tail ts5) _ (λ v ts6. h)))))

-- ---- room for an index

abbrev pub HasRoom : List Table → ℕ → Type 0
HasRoom tables number = length (indexes_at tables number) < 8

check_new_index-gives : (tables : List Table) (number : ℕ) (called : PlacedName) (ts : Items)
    → Gives (λ (u : Unit {0}). HasRoom tables number) (with_rest (check_new_index tables number called) ts)
unfolding check_new_index
check_new_index-gives tables number called ts =
    room-gives (is_some (find_relation (schema_at tables number) called.text tables))
    (nat_le 8 (length (indexes_at tables number))) (length (indexes_at tables number)) 8 _ _ ts
    (below 8 (length (indexes_at tables number)))

pub indexed_table-gives : {S : Type 0} (draft : DraftOf S) (called : PlacedName) (ts : Items)
    → Gives (HasRoom draft.tables) (indexed_table draft called ts)
unfolding indexed_table
indexed_table-gives draft called ts =
    any-gives (HasRoom draft.tables) (expect (i.Keyword k.On) ts) _ (λ a ts2.
    any-gives (HasRoom draft.tables) (eat (i.Keyword k.Only) ts2) _ (λ b ts3.
    any-gives (HasRoom draft.tables) (table_number draft ts3) _ (λ number ts4.
    then-gives (λ (u : Unit {0}). HasRoom draft.tables number) (HasRoom draft.tables)
    (with_rest (check_new_index draft.tables number called) ts4) _
    (check_new_index-gives draft.tables number called ts4) (λ n ts5 room. room))))

-- ---- the identity of a table

module _ (columns : List Column) (indexes : List UniqueIndex) where
  chosen_identity : (is : Bool) (identity : Identity) (fault : Fault) (ts : Items)
      → (is ≡ true → IsIdentity columns indexes identity)
      → Gives (IsIdentity columns indexes) (with_rest (if is then Ok identity else Err fault) ts)
  chosen_identity true identity fault ts h = h refl
  chosen_identity false identity fault ts h = tt

  by_index-gives : (called : PlacedName) (found : Option ℕ) (ts : Items)
      → Gives (IsIdentity columns indexes) (with_rest (by_index columns indexes called found) ts)
  by_index-gives called None ts = tt
  by_index-gives called (Some number) ts =
      chosen_identity (identifies columns (slice_get indexes number)) (Index number) _ ts (λ is. is)

  using_index-gives : (ts : Items) → Gives (IsIdentity columns indexes) (using_index columns indexes ts)
  unfolding using_index index_named
  using_index-gives ts =
      any-gives (IsIdentity columns indexes) (expect (i.Keyword k.Using) ts) _ (λ a ts2.
      any-gives (IsIdentity columns indexes) (expect (i.Keyword k.Index) ts2) _ (λ b ts3.
      any-gives (IsIdentity columns indexes) (name ts3) _
      (λ called ts4. by_index-gives called (find_index called.text indexes) ts4)))

  identity_by-gives : (item : Option Item) (ts : Items)
      → Gives (IsIdentity columns indexes) (identity_by columns indexes item ts)
  identity_by-gives (Some (i.Keyword k.Default)) ts = tt
  identity_by-gives (Some (i.Keyword k.Full)) ts = tt
  identity_by-gives (Some (i.Keyword k.Nothing)) ts = tt
  identity_by-gives (Some (i.Keyword k.Using)) ts = using_index-gives ts
  identity_by-gives _ ts = tt

  pub replica_identity-gives : (ts : Items) → Gives (IsIdentity columns indexes) (replica_identity columns indexes ts)
  unfolding replica_identity identity
  replica_identity-gives ts =
      any-gives (IsIdentity columns indexes) ((action >> expect (i.Keyword k.Identity)) ts) _
      (λ a ts3. identity_by-gives (item_ahead ts3) ts3)

-- ---- tables

pub length-identified : (tables : List Table) (number : ℕ) (identity : Identity)
    → length (identified tables number identity) ≡ length tables
length-identified [] number identity = refl
length-identified (table ∷ tables) zero identity = refl
length-identified (table ∷ tables) (suc number) identity = ap suc (length-identified tables number identity)

pub length-indexed : (tables : List Table) (number : ℕ) (index : UniqueIndex)
    → length (indexed tables number index) ≡ length tables
length-indexed [] number index = refl
length-indexed (table ∷ tables) zero index = refl
length-indexed (table ∷ tables) (suc number) index = ap suc (length-indexed tables number index)

with_identity : (table : Table) (identity : Identity) → IsSizedTable table
    → IsIdentity table.columns table.indexes identity → IsSizedTable (record table { identity = identity })
with_identity table identity h is =
    record { columns = h.columns; keyed = h.keyed; indexes = h.indexes; indexed = h.indexed; identified = is }

pub identified-limited : (tables : List Table) (number : ℕ) (identity : Identity) → All IsSizedTable tables
    → IsIdentity (columns_at tables number) (indexes_at tables number) identity
    → All IsSizedTable (identified tables number identity)
identified-limited [] number identity h is = h
identified-limited (table ∷ tables) zero identity h is =
    All-cons IsSizedTable (record table { identity = identity }) tables
    (with_identity table identity (All-head IsSizedTable table tables h) is)
    (All-tail IsSizedTable table tables h)
identified-limited (table ∷ tables) (suc number) identity h is =
    All-cons IsSizedTable table (identified tables number identity) (All-head IsSizedTable table tables h)
    (identified-limited tables number identity (All-tail IsSizedTable table tables h) is)

-- one more index changes none of those before it
still_identifies : (columns : List Column) (indexes : List UniqueIndex) (index : UniqueIndex) (number : ℕ)
    → identifies columns (slice_get indexes number) ≡ true
    → identifies columns (slice_get (indexes ++ index ∷ []) number) ≡ true
still_identifies columns [] index number is = absurd cc
still_identifies columns (first ∷ indexes) index zero is = is
still_identifies columns (first ∷ indexes) index (suc number) is = still_identifies columns indexes index number is

still_identity : (columns : List Column) (indexes : List UniqueIndex) (index : UniqueIndex) (identity : Identity)
    → IsIdentity columns indexes identity → IsIdentity columns (indexes ++ index ∷ []) identity
still_identity columns indexes index (Index number) is = still_identifies columns indexes index number is
still_identity columns indexes index Default is = tt
still_identity columns indexes index Full is = tt
still_identity columns indexes index Nothing is = tt

with_index : (table : Table) (index : UniqueIndex) → IsSizedTable table → length table.indexes < 8
    → IsIndexOf table.columns index
    → IsSizedTable (record table { indexes = table.indexes ++ index ∷ [] })
with_index table index h room is = record {
  columns = h.columns;
  keyed = h.keyed;
  indexes = omega (arith, length_push table.indexes index);
  indexed = All-push (IsIndexOf table.columns) table.indexes index h.indexed is;
  identified = still_identity table.columns table.indexes index table.identity h.identified;
}

pub indexed-limited : (tables : List Table) (number : ℕ) (index : UniqueIndex) → All IsSizedTable tables
    → HasRoom tables number
    → IsIndexOf (columns_at tables number) index → All IsSizedTable (indexed tables number index)
indexed-limited [] number index h room is = h
indexed-limited (table ∷ tables) zero index h room is =
    All-cons IsSizedTable (record table { indexes = table.indexes ++ index ∷ [] }) tables
    (with_index table index (All-head IsSizedTable table tables h) room is) (All-tail IsSizedTable table tables h)
indexed-limited (table ∷ tables) (suc number) index h room is =
    All-cons IsSizedTable table (indexed tables number index) (All-head IsSizedTable table tables h)
    (indexed-limited tables number index (All-tail IsSizedTable table tables h) room is)
