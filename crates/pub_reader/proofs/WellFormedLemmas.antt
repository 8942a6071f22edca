-- A catalog that is read is well formed: each statement preserves it.
use Rattle.std.proofs.Common.{◌≡◌, ℕ, zero, suc, ◌<◌, Bool, true, false, List, [], ◌∷◌, ◌++◌, All, length, refl, subst}
use Rattle.std.specs.Prelude.{nat_le, Option, Some, None, Ok, Err}
use Rattle.std.specs.List.{IsDistinct}
use Rattle.std.proofs.lemmas.List.Elements.{All-nil, All-cons, All-head, All-tail, All-push}
use Rattle.filter_tree.specs.declared.table.Identity.{Identity}
use Rattle.filter_tree.specs.declared.table.Table.{Table}
use Rattle.filter_tree.specs.declared.table.UniqueIndex.{UniqueIndex}
use Rattle.filter_tree.specs.Expr.{Expr}
use Rattle.sql_reader.specs.declared.error.Limit.{Limit}
use Rattle.sql_reader.specs.declared.error.Limit.TheVariants.{Tables, Indexes}
use Rattle.sql_reader.specs.declared.item.Item.{Item}
use Rattle.sql_reader.specs.declared.item.Item.TheVariants as i
use Rattle.sql_reader.specs.declared.name.PlacedName.{PlacedName}
use Rattle.sql_reader.specs.declared.word.Keyword.TheVariants as k
use Rattle.sql_reader.specs.Expressions.{Forms}
use Rattle.sql_reader.specs.Items.{Items, items_of}
use Rattle.sql_reader.specs.Names.{name}
use Rattle.sql_reader.specs.Reading.{Outcome, with_rest, eat, expect, is_ahead, item_ahead, more_ahead, rest_of}
use Rattle.sql_reader.specs.Repetitions.{each}
use Rattle.sql_reader.specs.Written.{as_filter}
use Rattle.sql_reader.proofs.Keeping.{Gives, then-gives, any-gives, repeat-gives, each-gives}
use Rattle.pub_catalog.specs.Catalogs.{CatalogOf, schema_at, columns_at, indexes_at, identified, indexed}
use Rattle.pub_reader.specs.declared.table_name.NewName.{NewName}
use Rattle.pub_reader.specs.Drafts.{DraftOf, no_draft, find_relation, resolved}
use Rattle.pub_reader.specs.Identities.{replica_identity, alter_table}
use Rattle.pub_reader.specs.Indexes.{check_new_index, index_body, indexed_table, create_index}
use Rattle.pub_reader.specs.Publications.{new_publication_name, for_clause, create_publication}
use Rattle.pub_reader.specs.Publishing.{parameters_clause}
use Rattle.pub_reader.specs.Schemas.{fresh, create_schema, check_new_schema}
use Rattle.pub_reader.specs.Statements.{created_by, created, create, statement_by, statement, ended_statement, statements, finished, catalog_by}
use Rattle.pub_reader.specs.Subscriptions.{new_subscription_name, subscription_body, create_subscription}
use Rattle.pub_reader.specs.TableNames.{table_number, check_new_table, new_named, table_head, new_name}
use Rattle.pub_reader.specs.Tables.{new_table, table_body, create_table}
use Rattle.pub_reader.specs.WellFormed.{AreColumns, IsWellFormedTable, IsWellFormed, SuitsTable, CatalogsAreWellFormed}
use Rattle.pub_reader.proofs.KeptFilters.{IsThere, table_number-there, resolved_entries_have}
use Rattle.pub_reader.proofs.OwnColumns.{HasOwn, table_body-own, index_body-own}
use Rattle.pub_reader.proofs.OwnRelations.{AreOwnRelations, table-own, index-own, identity-own}
use Rattle.pub_reader.proofs.SuitingFilters.{expression-suits}

-- ---- tables

new-formed : (called : NewName) (parts : _) → HasOwn parts → IsWellFormedTable (new_table called parts)
new-formed called parts own =
    record {
      named = own.named;
      keyed = own.keyed;
      not_null = own.not_null;
      indexed = All-nil (λ (index : UniqueIndex). AreColumns parts.columns index.columns);
    }

with_identity : (table : Table) (identity : Identity) → IsWellFormedTable table
    → IsWellFormedTable (record table { identity = identity })
with_identity table identity h =
    record { named = h.named; keyed = h.keyed; not_null = h.not_null; indexed = h.indexed }

identified-formed : (tables : List Table) (number : ℕ) (identity : Identity) → All IsWellFormedTable tables
    → All IsWellFormedTable (identified tables number identity)
identified-formed [] number identity h = h
identified-formed (table ∷ tables) zero identity h =
    All-cons IsWellFormedTable (record table { identity = identity }) tables
    (with_identity table identity (All-head IsWellFormedTable table tables h))
    (All-tail IsWellFormedTable table tables h)
identified-formed (table ∷ tables) (suc number) identity h =
    All-cons IsWellFormedTable table (identified tables number identity) (All-head IsWellFormedTable table tables h)
    (identified-formed tables number identity (All-tail IsWellFormedTable table tables h))

with_index : (table : Table) (index : UniqueIndex) → IsWellFormedTable table → AreColumns table.columns index.columns
    → IsWellFormedTable (record table { indexes = table.indexes ++ index ∷ [] })
with_index table index h is =
    record {
      named = h.named;
      keyed = h.keyed;
      not_null = h.not_null;
      indexed = All-push (λ (other : UniqueIndex). AreColumns table.columns other.columns) table.indexes index h.indexed
          is;
    }

indexed-formed : (tables : List Table) (number : ℕ) (index : UniqueIndex) → All IsWellFormedTable tables
    → AreColumns (columns_at tables number) index.columns → All IsWellFormedTable (indexed tables number index)
indexed-formed [] number index h is = h
indexed-formed (table ∷ tables) zero index h is =
    All-cons IsWellFormedTable (record table { indexes = table.indexes ++ index ∷ [] }) tables
    (with_index table index (All-head IsWellFormedTable table tables h) is)
    (All-tail IsWellFormedTable table tables h)
indexed-formed (table ∷ tables) (suc number) index h is =
    All-cons IsWellFormedTable table (indexed tables number index) (All-head IsWellFormedTable table tables h)
    (indexed-formed tables number index (All-tail IsWellFormedTable table tables h) is)

-- ---- statements

-- tables and indexes have names of their own, and each table is well formed
abbrev AreFormed : List Table → Type 0
AreFormed tables = AreOwnRelations tables × All IsWellFormedTable tables

abbrev Formed : {S : Type 0} → DraftOf S → Type 0
Formed draft = AreFormed draft.tables

fresh-free : (called : PlacedName) (found : Option ℕ) (is_full : Bool) (limit : Limit) (ts : Items)
    → Gives (λ (u : Unit {0}). found ≡ None) (with_rest (fresh called found is_full limit) ts)
fresh-free called None true limit ts = tt
fresh-free called None false limit ts = refl
fresh-free called (Some number) is_full limit ts = tt

abbrev IsNew : List Table → NewName → Type 0
IsNew tables called = find_relation called.schema called.name.text tables ≡ None

check_new_table-free : (tables : List Table) (called : NewName) (ts : Items)
    → Gives (λ (u : Unit {0}). IsNew tables called) (with_rest (check_new_table tables called) ts)
unfolding check_new_table
check_new_table-free tables called ts =
    fresh-free called.name (find_relation called.schema called.name.text tables) (nat_le 64 (length tables)) Tables ts

new_name-free : {S : Type 0} (draft : DraftOf S) (ts : Items) → Gives (IsNew draft.tables) (new_name draft ts)
unfolding new_name
new_name-free draft ts =
    any-gives (IsNew draft.tables) (name ts) _ (λ first ts2.
    any-gives (IsNew draft.tables) (new_named draft.schemas (is_ahead (i.Keyword k.If) ts) first ts2) _
    (λ called ts3.
    then-gives (λ (u : Unit {0}). IsNew draft.tables called) (IsNew draft.tables)
    (with_rest (check_new_table draft.tables called) ts3) _ (check_new_table-free draft.tables called ts3)
    (λ n ts4 free. any-gives (IsNew draft.tables) (table_head ts4) _ (λ m ts5. free))))

create_table-formed : {S : Type 0} (draft : DraftOf S) (ts : Items) → Formed draft
    → Gives Formed (create_table draft ts)
unfolding create_table
create_table-formed draft ts h =
    then-gives (IsNew draft.tables) Formed (new_name draft ts) _ (new_name-free draft ts) (λ called ts2 free.
    then-gives HasOwn Formed (table_body called.name ts2) _ (table_body-own called.name ts2) (λ parts ts3 own. (
      table-own draft.tables (new_table called parts) refl free h.0,
      All-push IsWellFormedTable draft.tables (new_table called parts) h.1 (new-formed called parts own),
    )))

alter_table-formed : {S : Type 0} (draft : DraftOf S) (ts : Items) → Formed draft → Gives Formed (alter_table draft ts)
unfolding alter_table
alter_table-formed draft ts h =
    any-gives Formed (expect (i.Keyword k.Alter) ts) _ (λ a ts2.
    any-gives Formed (expect (i.Keyword k.Table) ts2) _ (λ b ts3.
    any-gives Formed (eat (i.Keyword k.Only) ts3) _ (λ c ts4.
    any-gives Formed (table_number draft ts4) _ (λ number ts5.
    any-gives Formed (replica_identity (columns_at draft.tables number) (indexes_at draft.tables number) ts5) _
    (λ recorded ts6.
    (identity-own draft.tables number recorded h.0, identified-formed draft.tables number recorded h.1))))))

-- a table that exists, and a name that is new in its schema
abbrev IsNewIn : List Table → PlacedName → ℕ → Type 0
IsNewIn tables called number =
    (number < length tables) × (find_relation (schema_at tables number) called.text tables ≡ None)

check_new_index-free : (tables : List Table) (number : ℕ) (called : PlacedName) (ts : Items)
    → Gives (λ (u : Unit {0}). find_relation (schema_at tables number) called.text tables ≡ None)
    (with_rest (check_new_index tables number called) ts)
unfolding check_new_index
check_new_index-free tables number called ts =
    fresh-free called (find_relation (schema_at tables number) called.text tables)
    (nat_le 8 (length (indexes_at tables number))) Indexes ts

indexed_table-free : {S : Type 0} (draft : DraftOf S) (called : PlacedName) (ts : Items)
    → Gives (IsNewIn draft.tables called) (indexed_table draft called ts)
unfolding indexed_table
indexed_table-free draft called ts =
    let new = IsNewIn draft.tables called in
    any-gives new (expect (i.Keyword k.On) ts) _ (λ a ts2.
    any-gives new (eat (i.Keyword k.Only) ts2) _ (λ b ts3.
    then-gives (IsThere draft.tables) new (table_number draft ts3) _ (table_number-there draft ts3)
    (λ number ts4 there.
    then-gives (λ (u : Unit {0}). find_relation (schema_at draft.tables number) called.text draft.tables ≡ None) new
    (with_rest (check_new_index draft.tables number called) ts4) _
    (check_new_index-free draft.tables number called ts4) (λ n ts5 free. (there, free)))))

create_index-formed : {S : Type 0} (draft : DraftOf S) (ts : Items) → Formed draft
    → Gives Formed (create_index draft ts)
unfolding create_index
create_index-formed draft ts h =
    any-gives Formed (expect (i.Keyword k.Index) ts) _ (λ a ts2.
    any-gives Formed (name ts2) _ (λ called ts3.
    then-gives (IsNewIn draft.tables called) Formed (indexed_table draft called ts3) _
    (indexed_table-free draft called ts3) (λ number ts4 new.
    then-gives (AreColumns (columns_at draft.tables number)) Formed
    (index_body (columns_at draft.tables number) ts4) _
    (index_body-own (columns_at draft.tables number) ts4) (λ numbers ts5 own.
    let index : UniqueIndex = record { name = called.text; columns = numbers } in (
      index-own draft.tables number index new.0 new.1 h.0,
      indexed-formed draft.tables number index h.1 own,
    )))))

create_schema-formed : {S : Type 0} (draft : DraftOf S) (ts : Items) → Formed draft
    → Gives Formed (create_schema draft ts)
unfolding create_schema
create_schema-formed draft ts h =
    any-gives Formed (name ts) _
    (λ called ts2. any-gives Formed (with_rest (check_new_schema draft.schemas called) ts2) _ (λ n ts3. h))

create_subscription-formed : {S : Type 0} (draft : DraftOf S) (ts : Items) → Formed draft
    → Gives Formed (create_subscription draft ts)
unfolding create_subscription
create_subscription-formed draft ts h =
    any-gives Formed (new_subscription_name draft ts) _
    (λ called ts2. any-gives Formed (subscription_body draft ts2) _ (λ numbers ts3. h))

module _ {S : Type 0} (forms : Forms S) where
  create_publication-formed : (draft : DraftOf S) (ts : Items) → Formed draft
      → Gives Formed (create_publication forms draft ts)
  unfolding create_publication
  create_publication-formed draft ts h =
      any-gives Formed (new_publication_name draft ts) _ (λ called ts2.
      any-gives Formed (for_clause forms draft ts2) _ (λ coverage ts3.
      any-gives Formed (parameters_clause ts3) _ (λ given ts4. h)))

  created_by-formed : (item : Option Item) (draft : DraftOf S) (ts : Items) → Formed draft
      → Gives Formed (created_by forms item draft ts)
  created_by-formed (Some (i.Keyword k.Table)) draft ts h = create_table-formed draft (rest_of ts) h
  created_by-formed (Some (i.Keyword k.Publication)) draft ts h = create_publication-formed draft (rest_of ts) h
  created_by-formed (Some (i.Keyword k.Schema)) draft ts h = create_schema-formed draft (rest_of ts) h
  created_by-formed (Some (i.Keyword k.Subscription)) draft ts h = create_subscription-formed draft (rest_of ts) h
  created_by-formed (Some (i.Keyword k.Unique)) draft ts h = create_index-formed draft (rest_of ts) h
  created_by-formed _ draft ts h = tt

  create-formed : (draft : DraftOf S) (ts : Items) → Formed draft → Gives Formed (create forms draft ts)
  unfolding create created
  create-formed draft ts h =
      any-gives Formed (expect (i.Keyword k.Create) ts) _ (λ a ts2. created_by-formed (item_ahead ts2) draft ts2 h)

  statement_by-formed : (item : Option Item) (draft : DraftOf S) (ts : Items) → Formed draft
      → Gives Formed (statement_by forms item draft ts)
  statement_by-formed (Some (i.Keyword k.Create)) draft ts h = create-formed draft ts h
  statement_by-formed (Some (i.Keyword k.Alter)) draft ts h = alter_table-formed draft ts h
  statement_by-formed (Some i.Semicolon) draft ts h = h
  statement_by-formed _ draft ts h = tt

  ended_statement-formed : (draft : DraftOf S) (ts : Items) → Formed draft
      → Gives Formed (ended_statement forms draft ts)
  unfolding ended_statement statement
  ended_statement-formed draft ts h =
      then-gives Formed Formed (statement forms draft ts) _ (statement_by-formed (item_ahead ts) draft ts h)
      (λ made ts2 f. any-gives Formed (expect i.Semicolon ts2) _ (λ a ts3. f))

  none_formed : AreFormed []
  unfolding IsDistinct
  none_formed = (tt, All-nil IsWellFormedTable)

  statements-formed : (ts : Items) → Gives Formed (statements forms no_draft ts)
  unfolding statements
  statements-formed ts =
      repeat-gives Formed (each more_ahead (ended_statement forms))
      (each-gives Formed more_ahead (ended_statement forms) ended_statement-formed) no_draft ts none_formed

-- ---- the law

-- what is made of the statements of a text
resolved_formed : (ts : Items) (draft : DraftOf Expr) (rest : Items)
    → statements as_filter no_draft ts ≡ Ok (draft, rest) → IsWellFormed (resolved draft)
resolved_formed ts draft rest e =
    let formed : Formed draft = subst (Gives Formed) e (statements-formed as_filter ts) in
    record {
      named = formed.0;
      tables = formed.1;
      entries = λ n d low m f inside.
          let known = resolved_entries_have SuitsTable expression-suits ts draft rest e n d low m f inside in
          record { table = known.0; filter = known.1 };
    }

finished-formed : (ts : Items) (read : Outcome (DraftOf Expr)) → statements as_filter no_draft ts ≡ read
    → (catalog : CatalogOf Expr) → finished read ≡ Ok catalog → IsWellFormed catalog
finished-formed ts (Ok (draft, rest)) e catalog is =
    let same : resolved draft ≡ catalog = cc in subst IsWellFormed same (resolved_formed ts draft rest e)
finished-formed ts (Err fault) e catalog is = absurd cc

pub catalogs_are_well_formed : CatalogsAreWellFormed
unfolding catalog_by
catalogs_are_well_formed text catalog is =
    finished-formed (items_of text) (statements as_filter no_draft (items_of text)) refl catalog is
