-- Each statement preserves what is stated about names: they are as a text writes them, and each publication and
-- subscription has its own.
use Rattle.std.proofs.Common.{◌≡◌, ℕ, zero, suc, ◌<◌, Bool, true, List, [], ◌∷◌, ◌++◌, All, length, get_or, subst, arith, rules}
use Rattle.std.specs.Prelude.{Option, Some, Ok, Err}
use Rattle.std.proofs.lemmas.List.Elements.{All-cons, All-head, All-tail, All-push}
use Rattle.std.proofs.lemmas.Str.{IsUtf8-from_ascii}
use Rattle.filter_tree.specs.declared.table.Identity.{Identity}
use Rattle.filter_tree.specs.declared.table.Table.{Table}
use Rattle.filter_tree.specs.declared.table.UniqueIndex.{UniqueIndex}
use Rattle.sql_tokens.specs.PlainNames.{IsPlainName}
use Rattle.sql_reader.specs.declared.item.Item.{Item}
use Rattle.sql_reader.specs.declared.item.Item.TheVariants as i
use Rattle.sql_reader.specs.declared.name.PlacedName.{PlacedName}
use Rattle.sql_reader.specs.declared.reader.Reader.{Reader}
use Rattle.sql_reader.specs.declared.word.Keyword.TheVariants as k
use Rattle.sql_reader.specs.Items.{to_read, Items}
use Rattle.sql_reader.specs.Columns.{elements}
use Rattle.sql_reader.specs.Expressions.{Forms}
use Rattle.sql_reader.specs.Names.{name}
use Rattle.sql_reader.specs.Reading.{Outcome, with_rest, look, eat, expect, is_ahead, item_ahead, rest_of}
use Rattle.sql_reader.proofs.Keeping.{Gives, any-gives, then-gives}
use Rattle.sql_reader.proofs.Leaving.{Leaves, then-leaves}
use Rattle.sql_reader.proofs.PlainNames.{ArePlain, Any, NamesPlain, ColumnsPlain, any-plain, check-plain, expect-plain, look-plain, name-plain, elements-plain, rest_plain, reader_plain}
use Rattle.pub_reader.specs.declared.table_name.NewName.{NewName}
use Rattle.pub_catalog.specs.CatalogLimits.{IsNamed}
use Rattle.pub_reader.specs.DraftNames.{IsNamedDraft}
use Rattle.pub_catalog.specs.Catalogs.{columns_at, indexes_at, identified, indexed}
use Rattle.pub_reader.specs.Drafts.{DraftOf, public_schema}
use Rattle.pub_reader.specs.Identities.{replica_identity, alter_table}
use Rattle.pub_reader.specs.Indexes.{index_body, indexed_table, create_index}
use Rattle.pub_reader.specs.Schemas.{create_schema, known_schema, check_new_schema}
use Rattle.pub_reader.specs.Statements.{created_by, created, create, statement_by, statement, ended_statement}
use Rattle.pub_reader.specs.TableNames.{table_number, name_in_schema, check_new_table, new_in_schema, new_by, new_named, head_by, table_head, new_name}
use Rattle.pub_reader.specs.Tables.{keyed, new_table, tail_by, table_tail, table_body, create_table}
use Rattle.pub_reader.proofs.OwnNames.{first_of, create_publication-named, create_subscription-named}

-- ---- the name of a new table

public_plain : IsPlainName public_schema
public_plain = record {
  some = omega arith;
  short = omega arith;
  no_zero = λ found. no_zero_at found.0 found.1 found.2;
  utf8 =
      IsUtf8-from_ascii public_schema (search rules);
}
  where
    no_zero_at : (n : ℕ) → n < length public_schema → get_or public_schema n 0 ≡ 0 → ⊥
    no_zero_at zero low is = cc
    no_zero_at (suc zero) low is = cc
    no_zero_at (suc (suc zero)) low is = cc
    no_zero_at (suc (suc (suc zero))) low is = cc
    no_zero_at (suc (suc (suc (suc zero)))) low is = cc
    no_zero_at (suc (suc (suc (suc (suc zero))))) low is = cc
    no_zero_at (suc (suc (suc (suc (suc (suc n)))))) low is = omega (arith, low)

-- a plain name of a plain schema, and plain tokens are left
abbrev NewPlain : NewName → Items → Type 0
NewPlain called ts = IsPlainName called.schema × (IsPlainName called.name.text × ArePlain ts)

name_in_schema-plain : (schemas : List (List ℕ)) (schema : PlacedName) (ts : Items) → ArePlain ts
    → Leaves NamesPlain (name_in_schema schemas schema ts)
unfolding name_in_schema
name_in_schema-plain schemas schema ts h =
    any-plain NamesPlain (with_rest (known_schema schemas schema) ts) _
    (check-plain (known_schema schemas schema) ts h) (λ n ts2 p.
    any-plain NamesPlain (expect i.Dot ts2) _ (expect-plain i.Dot ts2 (rest_plain ts2 p)) (λ a ts3 q. name-plain ts3 q))

new_in_schema-plain : (schemas : List (List ℕ)) (schema : PlacedName) (ts : Items) → IsPlainName schema.text
    → ArePlain ts → Leaves NewPlain (new_in_schema schemas schema ts)
unfolding new_in_schema
new_in_schema-plain schemas schema ts plain h =
    then-leaves NamesPlain NewPlain (name_in_schema schemas schema ts) _ (name_in_schema-plain schemas schema ts h)
    (λ called ts2 p. (plain, p))

new_by-plain : (is_if : Bool) (item : Option Item) (schemas : List (List ℕ)) (called : PlacedName) (ts : Items)
    → IsPlainName called.text → ArePlain ts
    → Leaves NewPlain (new_by is_if item schemas called ts)
new_by-plain true (Some (i.Keyword k.Not)) schemas called ts plain h = tt
new_by-plain is_if (Some i.Dot) schemas called ts plain h = new_in_schema-plain schemas called ts plain h
new_by-plain is_if _ schemas called ts plain h = (public_plain, (plain, h))

new_named-plain : (schemas : List (List ℕ)) (is_if : Bool) (called : PlacedName) (ts : Items)
    → IsPlainName called.text → ArePlain ts → Leaves NewPlain (new_named schemas is_if called ts)
unfolding new_named
new_named-plain schemas is_if called ts plain h =
    any-plain NewPlain (look ts) _ (look-plain ts h)
    (λ u ts2 p. new_by-plain is_if (item_ahead ts2) schemas called ts2 plain p)

head_by-plain : (item : Option Item) (ts : Items) → ArePlain ts → Leaves Any (head_by item ts)
head_by-plain (Some (i.Keyword k.Partition)) ts h = tt
head_by-plain _ ts h = h

table_head-plain : (ts : Items) → ArePlain ts → Leaves Any (table_head ts)
unfolding table_head
table_head-plain ts h = head_by-plain (item_ahead ts) ts h

new_name-plain : {S : Type 0} (draft : DraftOf S) (ts : Items) → ArePlain ts → Leaves NewPlain (new_name draft ts)
unfolding new_name
new_name-plain draft ts h =
    then-leaves NamesPlain NewPlain (name ts) _ (name-plain ts h) (λ first ts2 p.
    then-leaves NewPlain NewPlain (new_named draft.schemas (is_ahead (i.Keyword k.If) ts) first ts2) _
    (new_named-plain draft.schemas (is_ahead (i.Keyword k.If) ts) first ts2 p.0 p.1) (λ called ts3 q.
    any-plain NewPlain (with_rest (check_new_table draft.tables called) ts3) _
    (check-plain (check_new_table draft.tables called) ts3 q.1.1) (λ n ts4 r.
    any-plain NewPlain (table_head ts4) _ (table_head-plain ts4 r) (λ m ts5 s. (q.0, (q.1.0, s))))))

-- ---- CREATE TABLE

tail_by-plain : (item : Option Item) (ts : Items) → ArePlain ts → Leaves Any (tail_by item ts)
tail_by-plain (Some (i.Keyword k.Inherits)) ts h = tt
tail_by-plain (Some (i.Keyword k.Partition)) ts h = tt
tail_by-plain _ ts h = h

table_tail-plain : (ts : Items) → ArePlain ts → Leaves Any (table_tail ts)
unfolding table_tail
table_tail-plain ts h = tail_by-plain (item_ahead ts) ts h

table_body-plain : (called : PlacedName) (ts : Items) → ArePlain ts → Leaves ColumnsPlain (table_body called ts)
unfolding table_body
table_body-plain called ts h =
    any-plain ColumnsPlain (expect i.Open ts) _ (expect-plain i.Open ts (rest_plain ts h)) (λ a ts2 p.
    then-leaves ColumnsPlain ColumnsPlain (elements ts2) _ (elements-plain ts2 p) (λ parts ts3 q.
    any-plain ColumnsPlain (expect i.Close ts3) _ (expect-plain i.Close ts3 (rest_plain ts3 q.1)) (λ b ts4 r.
    any-plain ColumnsPlain (with_rest (keyed called parts) ts4) _ (check-plain (keyed called parts) ts4 r) (λ n ts5 s.
    any-plain ColumnsPlain (table_tail ts5) _ (table_tail-plain ts5 s) (λ m ts6 u. (q.0, u))))))

-- the same names when tables change
with_tables : {S : Type 0} (draft : DraftOf S) (tables : List Table) → IsNamedDraft draft → All IsNamed tables
    → IsNamedDraft (record draft { tables = tables })
with_tables draft tables named all =
    record {
      tables = all;
      publications = named.publications;
      subscriptions = named.subscriptions;
      taken =
          named.taken;
    }

create_table-named : {S : Type 0} (draft : DraftOf S) (ts : Items) → ArePlain ts → IsNamedDraft draft
    → Gives IsNamedDraft (create_table draft ts)
unfolding create_table
create_table-named draft ts h named =
    first_of IsNamedDraft _ (
    then-leaves NewPlain (λ made ts2. IsNamedDraft made) (new_name draft ts) _ (new_name-plain draft ts h)
    (λ called ts2 p.
    then-leaves ColumnsPlain (λ made ts3. IsNamedDraft made) (table_body called.name ts2) _
    (table_body-plain called.name ts2 p.1.1) (λ parts ts3 q.
    with_tables draft (draft.tables ++ new_table called parts ∷ []) named
    (All-push IsNamed draft.tables (new_table called parts) named.tables
    (record { schema = p.0; name = p.1.0; columns = q.0 })))))

-- ---- other statements

identified-named : (tables : List Table) (number : ℕ) (identity : Identity) → All IsNamed tables
    → All IsNamed (identified tables number identity)
identified-named [] number identity h = h
identified-named (table ∷ tables) zero identity h =
    let first = All-head IsNamed table tables h in
    All-cons IsNamed (record table { identity = identity }) tables
    (record { schema = first.schema; name = first.name; columns = first.columns })
    (All-tail IsNamed table tables h)
identified-named (table ∷ tables) (suc number) identity h =
    All-cons IsNamed table (identified tables number identity) (All-head IsNamed table tables h)
    (identified-named tables number identity (All-tail IsNamed table tables h))

indexed-named : (tables : List Table) (number : ℕ) (index : UniqueIndex) → All IsNamed tables
    → All IsNamed (indexed tables number index)
indexed-named [] number index h = h
indexed-named (table ∷ tables) zero index h =
    let first = All-head IsNamed table tables h in
    All-cons IsNamed (record table { indexes = table.indexes ++ index ∷ [] }) tables
    (record { schema = first.schema; name = first.name; columns = first.columns })
    (All-tail IsNamed table tables h)
indexed-named (table ∷ tables) (suc number) index h =
    All-cons IsNamed table (indexed tables number index) (All-head IsNamed table tables h)
    (indexed-named tables number index (All-tail IsNamed table tables h))

alter_table-named : {S : Type 0} (draft : DraftOf S) (ts : Items) → IsNamedDraft draft
    → Gives IsNamedDraft (alter_table draft ts)
unfolding alter_table
alter_table-named draft ts h =
    any-gives IsNamedDraft (expect (i.Keyword k.Alter) ts) _ (λ a ts2.
    any-gives IsNamedDraft (expect (i.Keyword k.Table) ts2) _ (λ b ts3.
    any-gives IsNamedDraft (eat (i.Keyword k.Only) ts3) _ (λ c ts4.
    any-gives IsNamedDraft (table_number draft ts4) _ (λ number ts5.
    any-gives IsNamedDraft (replica_identity (columns_at draft.tables number) (indexes_at draft.tables number) ts5) _
    (λ recorded ts6.
    with_tables draft (identified draft.tables number recorded) h
    (identified-named draft.tables number recorded h.tables))))))

create_index-named : {S : Type 0} (draft : DraftOf S) (ts : Items) → IsNamedDraft draft
    → Gives IsNamedDraft (create_index draft ts)
unfolding create_index
create_index-named draft ts h =
    any-gives IsNamedDraft (expect (i.Keyword k.Index) ts) _ (λ a ts2.
    any-gives IsNamedDraft (name ts2) _ (λ called ts3.
    any-gives IsNamedDraft (indexed_table draft called ts3) _ (λ number ts4.
    any-gives IsNamedDraft (index_body (columns_at draft.tables number) ts4) _
    (λ numbers ts5. with_tables draft _ h (indexed-named draft.tables number _ h.tables)))))

with_schemas : {S : Type 0} (draft : DraftOf S) (schemas : List (List ℕ)) → IsNamedDraft draft
    → IsNamedDraft (record draft { schemas = schemas })
with_schemas draft schemas named =
    record {
      tables = named.tables;
      publications = named.publications;
      subscriptions = named.subscriptions;
      taken =
          named.taken;
    }

create_schema-named : {S : Type 0} (draft : DraftOf S) (ts : Items) → IsNamedDraft draft
    → Gives IsNamedDraft (create_schema draft ts)
unfolding create_schema
create_schema-named draft ts h =
    any-gives IsNamedDraft (name ts) _
    (λ called ts2. any-gives IsNamedDraft (with_rest (check_new_schema draft.schemas called) ts2) _
    (λ n ts3. with_schemas draft _ h))

-- ---- statements

module _ {S : Type 0} (forms : Forms S) where
  created_by-named : (item : Option Item) (draft : DraftOf S) (ts : Items) → ArePlain ts → IsNamedDraft draft
      → Gives IsNamedDraft (created_by forms item draft ts)
  created_by-named (Some (i.Keyword k.Table)) draft ts p h = create_table-named draft (rest_of ts) (rest_plain ts p) h
  created_by-named (Some (i.Keyword k.Publication)) draft ts p h =
      create_publication-named forms draft (rest_of ts) (rest_plain ts p) h
  created_by-named (Some (i.Keyword k.Schema)) draft ts p h = create_schema-named draft (rest_of ts) h
  created_by-named (Some (i.Keyword k.Subscription)) draft ts p h =
      create_subscription-named draft (rest_of ts) (rest_plain ts p) h
  created_by-named (Some (i.Keyword k.Unique)) draft ts p h = create_index-named draft (rest_of ts) h
  created_by-named _ draft ts p h = tt

  create-named : (draft : DraftOf S) (ts : Items) → ArePlain (rest_of ts) → IsNamedDraft draft
      → Gives IsNamedDraft (create forms draft ts)
  unfolding create created
  create-named draft ts p h =
      first_of IsNamedDraft _ (
      any-plain (λ made ts2. IsNamedDraft made) (expect (i.Keyword k.Create) ts) _
      (expect-plain (i.Keyword k.Create) ts p) (λ a ts2 q.
      any_left (created_by forms (item_ahead ts2) draft ts2) (created_by-named (item_ahead ts2) draft ts2 q h)))
    where
      any_left : (read : Outcome (DraftOf S)) → Gives IsNamedDraft read → Leaves (λ made ts2. IsNamedDraft made) read
      any_left (Ok read) g = g
      any_left (Err fault) g = tt

  statement_by-named : (item : Option Item) (draft : DraftOf S) (ts : Items) → ArePlain (rest_of ts)
      → IsNamedDraft draft → Gives IsNamedDraft (statement_by forms item draft ts)
  statement_by-named (Some (i.Keyword k.Create)) draft ts p h = create-named draft ts p h
  statement_by-named (Some (i.Keyword k.Alter)) draft ts p h = alter_table-named draft ts h
  statement_by-named (Some i.Semicolon) draft ts p h = h
  statement_by-named _ draft ts p h = tt

  ended-named : (draft : DraftOf S) (ts : Items) → ArePlain (rest_of ts) → IsNamedDraft draft
      → Gives IsNamedDraft (ended_statement forms draft ts)
  unfolding ended_statement statement
  ended-named draft ts p h =
      then-gives IsNamedDraft IsNamedDraft (statement forms draft ts) _
      (statement_by-named (item_ahead ts) draft ts p h) (λ made ts2 named.
      any-gives IsNamedDraft (expect i.Semicolon ts2) _ (λ a ts3. named))

  -- after a statement that a reader reads
  pub statement_named : (r : Reader) (draft made : DraftOf S) (rest : Items)
      → ended_statement forms draft (to_read r) ≡ Ok (made, rest) → IsNamedDraft draft → IsNamedDraft made
  statement_named r draft made rest e h =
      subst (Gives IsNamedDraft) e (ended-named draft (to_read r) (reader_plain r) h)
