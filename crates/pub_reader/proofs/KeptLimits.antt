-- Each statement preserves the limits of a catalog.
use Rattle.std.proofs.Common.{◌≡◌, ℕ, ◌<◌, ◌≤◌, List, [], ◌∷◌, ◌++◌, All, length, get_or, subst, arith}
use Rattle.std.specs.Prelude.{nat_le, Option, Some, Ok}
use Rattle.std.specs.Option.{is_some}
use Rattle.std.proofs.lemmas.List.{length_push, length-map}
use Rattle.std.proofs.lemmas.List.Elements.{All-nil, All-push}
use Rattle.filter_tree.specs.declared.table.Identity.{Identity}
use Rattle.filter_tree.specs.declared.table.Table.{Table}
use Rattle.filter_tree.specs.declared.table.UniqueIndex.{UniqueIndex}
use Rattle.sql_reader.specs.declared.word.Keyword.TheVariants as k
use Rattle.sql_reader.specs.declared.item.Item.{Item}
use Rattle.sql_reader.specs.declared.item.Item.TheVariants as i
use Rattle.sql_reader.specs.declared.name.PlacedName.{PlacedName}
use Rattle.sql_reader.specs.Columns.{Parts, elements}
use Rattle.sql_reader.specs.Expressions.{Forms}
use Rattle.sql_reader.specs.Items.{Items}
use Rattle.sql_reader.specs.Names.{name}
use Rattle.sql_reader.specs.Reading.{with_rest, eat, expect, is_ahead, item_ahead, more_ahead, rest_of}
use Rattle.sql_reader.specs.Repetitions.{each}
use Rattle.sql_reader.proofs.Keeping.{Gives, then-gives, any-gives, repeat-gives, each-gives}
use Rattle.sql_reader.proofs.Widths.{IsNarrow, room-gives, below, elements-gives}
use Rattle.pub_reader.specs.declared.table_name.NewName.{NewName}
use Rattle.pub_catalog.specs.CatalogLimits.{IsIndexOf, IsIdentity, IsNamed, IsLimitedTable, IsLimited}
use Rattle.pub_catalog.specs.Catalogs.{columns_at, indexes_at, identified, indexed}
use Rattle.pub_reader.specs.Drafts.{DraftOf, no_draft, resolved, resolved_publication, find_relation, find_publication, find_subscription}
use Rattle.pub_reader.specs.Identities.{replica_identity, alter_table}
use Rattle.pub_reader.specs.Indexes.{index_body, indexed_table, create_index}
use Rattle.pub_reader.specs.Publications.{check_new_publication, new_publication_name, for_clause, create_publication}
use Rattle.pub_reader.specs.Publishing.{parameters_clause}
use Rattle.pub_reader.specs.Schemas.{create_schema, check_new_schema}
use Rattle.pub_reader.specs.Statements.{created_by, created, create, statement_by, statement, ended_statement, statements}
use Rattle.pub_reader.specs.Subscriptions.{check_new_subscription, new_subscription_name, subscription_body, create_subscription}
use Rattle.pub_reader.specs.TableNames.{table_number, check_new_table, new_named, table_head, new_name}
use Rattle.pub_reader.specs.Tables.{keyed, new_table, table_tail, table_body, create_table}
use Rattle.pub_reader.proofs.KeptIndexes.{IsSizedTable, HasRoom, length-identified, length-indexed, identified-limited, indexed-limited, replica_identity-gives, indexed_table-gives, index_body-gives}

-- the limits, as a catalog keeps them while it is being read
abbrev AreLimited : List Table → Type 0
AreLimited tables = (length tables ≤ 64) × All IsSizedTable tables

abbrev Limited : {S : Type 0} → DraftOf S → Type 0
Limited draft = AreLimited draft.tables × ((length draft.publications ≤ 64) × (length draft.subscriptions ≤ 32))

pushed : {A : Type 0} (most : ℕ) (xs : List A) (x : A) → length xs < most → length (xs ++ x ∷ []) ≤ most
pushed most xs x room = omega (arith, length_push xs x)

-- ---- tables

identified-within : (tables : List Table) (number : ℕ) (identity : Identity) → AreLimited tables
    → IsIdentity (columns_at tables number) (indexes_at tables number) identity
    → AreLimited (identified tables number identity)
identified-within tables number identity h is =
    (omega (arith, length-identified tables number identity, h.0), identified-limited tables number identity h.1 is)

indexed-within : (tables : List Table) (number : ℕ) (index : UniqueIndex) → AreLimited tables → HasRoom tables number
    → IsIndexOf (columns_at tables number) index
    → AreLimited (indexed tables number index)
indexed-within tables number index h room is =
    (omega (arith, length-indexed tables number index, h.0), indexed-limited tables number index h.1 room is)

-- a table of at most 100 columns, which has no index yet
made : (called : NewName) (parts : Parts) → IsNarrow parts → IsSizedTable (new_table called parts)
made called parts narrow =
    record {
      columns = narrow.0;
      keyed = narrow.1;
      indexes = omega arith;
      indexed =
          All-nil (IsIndexOf parts.columns);
      identified = tt;
    }

pushed-within : (tables : List Table) (table : Table) → length tables < 64 → AreLimited tables → IsSizedTable table
    → AreLimited (tables ++ table ∷ [])
pushed-within tables table room h is = (pushed 64 tables table room, All-push IsSizedTable tables table h.1 is)

check_new_table-gives : (tables : List Table) (called : NewName) (ts : Items)
    → Gives (λ (u : Unit {0}). length tables < 64) (with_rest (check_new_table tables called) ts)
unfolding check_new_table
check_new_table-gives tables called ts =
    room-gives (is_some (find_relation called.schema called.name.text tables)) (nat_le 64 (length tables))
    (length tables) 64 _ _ ts (below 64 (length tables))

new_name-gives : {S : Type 0} (draft : DraftOf S) (ts : Items)
    → Gives (λ (called : NewName). length draft.tables < 64) (new_name draft ts)
unfolding new_name
new_name-gives {S} draft ts =
    let room : NewName → Type 0 = λ called. length draft.tables < 64 in
    any-gives room (name ts) _ (λ first ts2.
    any-gives room (new_named draft.schemas (is_ahead (i.Keyword k.If) ts) first ts2) _ (λ called ts3.
    then-gives (λ (u : Unit {0}). length draft.tables < 64) room (with_rest (check_new_table draft.tables called) ts3)
    _ (check_new_table-gives draft.tables called ts3) (λ n ts4 h.
    any-gives room (table_head ts4) _ (λ m ts5. h))))

table_body-gives : (called : PlacedName) (ts : Items) → Gives IsNarrow (table_body called ts)
unfolding table_body
table_body-gives called ts =
    any-gives IsNarrow (expect i.Open ts) _ (λ a ts2.
    then-gives IsNarrow IsNarrow (elements ts2) _ (elements-gives ts2) (λ parts ts3 h.
    any-gives IsNarrow (expect i.Close ts3) _ (λ b ts4.
    any-gives IsNarrow (with_rest (keyed called parts) ts4) _ (λ n ts5.
    any-gives IsNarrow (table_tail ts5) _ (λ m ts6. h)))))

create_table-gives : {S : Type 0} (draft : DraftOf S) (ts : Items) → Limited draft
    → Gives Limited (create_table draft ts)
unfolding create_table
create_table-gives draft ts h =
    then-gives (λ (called : NewName). length draft.tables < 64) Limited (new_name draft ts) _
    (new_name-gives draft ts) (λ called ts2 room.
    then-gives IsNarrow Limited (table_body called.name ts2) _ (table_body-gives called.name ts2) (λ parts ts3 narrow.
    (pushed-within draft.tables _ room h.0 (made called parts narrow), h.1)))

alter_table-gives : {S : Type 0} (draft : DraftOf S) (ts : Items) → Limited draft → Gives Limited (alter_table draft ts)
unfolding alter_table
alter_table-gives draft ts h =
    any-gives Limited (expect (i.Keyword k.Alter) ts) _ (λ a ts2.
    any-gives Limited (expect (i.Keyword k.Table) ts2) _ (λ b ts3.
    any-gives Limited (eat (i.Keyword k.Only) ts3) _ (λ c ts4.
    any-gives Limited (table_number draft ts4) _ (λ number ts5.
    then-gives (IsIdentity (columns_at draft.tables number) (indexes_at draft.tables number)) Limited
    (replica_identity (columns_at draft.tables number) (indexes_at draft.tables number) ts5) _
    (replica_identity-gives (columns_at draft.tables number) (indexes_at draft.tables number) ts5) (λ recorded ts6 is.
    (identified-within draft.tables number recorded h.0 is, h.1))))))

create_index-gives : {S : Type 0} (draft : DraftOf S) (ts : Items) → Limited draft
    → Gives Limited (create_index draft ts)
unfolding create_index
create_index-gives draft ts h =
    any-gives Limited (expect (i.Keyword k.Index) ts) _ (λ a ts2.
    any-gives Limited (name ts2) _ (λ called ts3.
    then-gives (HasRoom draft.tables) Limited (indexed_table draft called ts3) _
    (indexed_table-gives draft called ts3) (λ number ts4 room.
    then-gives (λ (numbers : List ℕ). All (λ n. n < length (columns_at draft.tables number)) numbers) Limited
    (index_body (columns_at draft.tables number) ts4) _
    (index_body-gives (columns_at draft.tables number) ts4) (λ numbers ts5 is.
    (indexed-within draft.tables number _ h.0 room is, h.1)))))

-- ---- schemas, publications and subscriptions

create_schema-gives : {S : Type 0} (draft : DraftOf S) (ts : Items) → Limited draft
    → Gives Limited (create_schema draft ts)
unfolding create_schema
create_schema-gives draft ts h =
    any-gives Limited (name ts) _
    (λ called ts2. any-gives Limited (with_rest (check_new_schema draft.schemas called) ts2) _ (λ n ts3. h))

check_new_publication-gives : {S : Type 0} (draft : DraftOf S) (called : PlacedName) (ts : Items)
    → Gives (λ (u : Unit {0}). length draft.publications < 64) (with_rest (check_new_publication draft called) ts)
unfolding check_new_publication
check_new_publication-gives draft called ts =
    room-gives (is_some (find_publication called.text draft.publications)) (nat_le 64 (length draft.publications))
    (length draft.publications) 64 _ _ ts (below 64 (length draft.publications))

publication_name-gives : {S : Type 0} (draft : DraftOf S) (ts : Items)
    → Gives (λ (called : PlacedName). length draft.publications < 64) (new_publication_name draft ts)
unfolding new_publication_name
publication_name-gives {S} draft ts =
    let room : PlacedName → Type 0 = λ called. length draft.publications < 64 in
    any-gives room (name ts) _ (λ called ts2.
    then-gives (λ (u : Unit {0}). length draft.publications < 64) room
    (with_rest (check_new_publication draft called) ts2) _ (check_new_publication-gives draft called ts2)
    (λ n ts3 h. h))

create_publication-gives : {S : Type 0} (forms : Forms S) (draft : DraftOf S) (ts : Items) → Limited draft
    → Gives Limited (create_publication forms draft ts)
unfolding create_publication
create_publication-gives forms draft ts h =
    then-gives (λ (called : PlacedName). length draft.publications < 64) Limited (new_publication_name draft ts) _
    (publication_name-gives draft ts) (λ called ts2 room.
    any-gives Limited (for_clause forms draft ts2) _ (λ coverage ts3.
    any-gives Limited (parameters_clause ts3) _ (λ given ts4. (h.0, (pushed 64 draft.publications _ room, h.1.1)))))

check_new_subscription-gives : {S : Type 0} (draft : DraftOf S) (called : PlacedName) (ts : Items)
    → Gives (λ (u : Unit {0}). length draft.subscriptions < 32) (with_rest (check_new_subscription draft called) ts)
unfolding check_new_subscription
check_new_subscription-gives draft called ts =
    room-gives (is_some (find_subscription called.text draft.subscriptions)) (nat_le 32 (length draft.subscriptions))
    (length draft.subscriptions) 32 _ _ ts (below 32 (length draft.subscriptions))

subscription_name-gives : {S : Type 0} (draft : DraftOf S) (ts : Items)
    → Gives (λ (called : PlacedName). length draft.subscriptions < 32) (new_subscription_name draft ts)
unfolding new_subscription_name
subscription_name-gives {S} draft ts =
    let room : PlacedName → Type 0 = λ called. length draft.subscriptions < 32 in
    any-gives room (name ts) _ (λ called ts2.
    then-gives (λ (u : Unit {0}). length draft.subscriptions < 32) room
    (with_rest (check_new_subscription draft called) ts2) _ (check_new_subscription-gives draft called ts2)
    (λ n ts3 h. h))

create_subscription-gives : {S : Type 0} (draft : DraftOf S) (ts : Items) → Limited draft
    → Gives Limited (create_subscription draft ts)
unfolding create_subscription
create_subscription-gives draft ts h =
    then-gives (λ (called : PlacedName). length draft.subscriptions < 32) Limited (new_subscription_name draft ts) _
    (subscription_name-gives draft ts) (λ called ts2 room.
    any-gives Limited (subscription_body draft ts2) _
    (λ numbers ts3. (h.0, (h.1.0, pushed 32 draft.subscriptions _ room))))

-- ---- statements

module _ {S : Type 0} (forms : Forms S) where
  created_by-gives : (item : Option Item) (draft : DraftOf S) (ts : Items) → Limited draft
      → Gives Limited (created_by forms item draft ts)
  created_by-gives (Some (i.Keyword k.Table)) draft ts h = create_table-gives draft (rest_of ts) h
  created_by-gives (Some (i.Keyword k.Publication)) draft ts h = create_publication-gives forms draft (rest_of ts) h
  created_by-gives (Some (i.Keyword k.Schema)) draft ts h = create_schema-gives draft (rest_of ts) h
  created_by-gives (Some (i.Keyword k.Subscription)) draft ts h = create_subscription-gives draft (rest_of ts) h
  created_by-gives (Some (i.Keyword k.Unique)) draft ts h = create_index-gives draft (rest_of ts) h
  created_by-gives _ draft ts h = tt

  create-gives : (draft : DraftOf S) (ts : Items) → Limited draft → Gives Limited (create forms draft ts)
  unfolding create created
  create-gives draft ts h =
      any-gives Limited (expect (i.Keyword k.Create) ts) _ (λ a ts2. created_by-gives (item_ahead ts2) draft ts2 h)

  statement_by-gives : (item : Option Item) (draft : DraftOf S) (ts : Items) → Limited draft
      → Gives Limited (statement_by forms item draft ts)
  statement_by-gives (Some (i.Keyword k.Create)) draft ts h = create-gives draft ts h
  statement_by-gives (Some (i.Keyword k.Alter)) draft ts h = alter_table-gives draft ts h
  statement_by-gives (Some i.Semicolon) draft ts h = h
  statement_by-gives _ draft ts h = tt

  ended_statement-gives : (draft : DraftOf S) (ts : Items) → Limited draft
      → Gives Limited (ended_statement forms draft ts)
  unfolding ended_statement statement
  ended_statement-gives draft ts h =
      then-gives Limited Limited (statement forms draft ts) _ (statement_by-gives (item_ahead ts) draft ts h)
      (λ made ts2 l.
      any-gives Limited (expect i.Semicolon ts2) _ (λ a ts3. l))

  statements-gives : (ts : Items) → Gives Limited (statements forms no_draft ts)
  unfolding statements
  statements-gives ts =
      repeat-gives Limited (each more_ahead (ended_statement forms))
      (each-gives Limited more_ahead (ended_statement forms) ended_statement-gives) no_draft ts
      ((omega arith, All-nil IsSizedTable), (omega arith, omega arith))

-- ---- the end of the catalog

both_limits : (table : Table) → IsSizedTable table → IsNamed table → IsLimitedTable table
both_limits table h named =
    record {
      columns = h.columns;
      keyed = h.keyed;
      indexes = h.indexes;
      indexed = h.indexed;
      identified =
          h.identified;
      named = named;
    }

resolved-within : {S : Type 0} (draft : DraftOf S) → Limited draft → All IsNamed draft.tables
    → IsLimited (resolved draft)
resolved-within draft h named = record {
  tables = h.0.0;
  each_table = λ n d low. both_limits (get_or draft.tables n d) (h.0.1 n d low) (named n d low);
  publications = omega (arith, length-map draft.publications (resolved_publication draft.tables), h.1.0);
  subscriptions = h.1.1;
}

-- what is made of the statements of a text, if its names are plain
pub resolved_limited : {S : Type 0} (forms : Forms S) (ts : Items) (draft : DraftOf S) (rest : Items)
    → statements forms no_draft ts ≡ Ok (draft, rest) → All IsNamed draft.tables
    → IsLimited (resolved draft)
resolved_limited forms ts draft rest e named =
    resolved-within draft (subst (Gives Limited) e (statements-gives forms ts)) named
