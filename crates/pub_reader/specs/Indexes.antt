-- CREATE UNIQUE INDEX: PostgreSQL 15, SQL Commands, CREATE INDEX, and "Data Definition", 5.9 Schemas. An index is in
-- its table's schema, and has only columns: an order, an operator class, an expression, and the clauses after the list
-- are not supported.
use Rattle.std.specs.Prelude.{ℕ, ◌==◌, nat_le, if◌then◌else◌, List, [], ◌∷◌, ◌++◌, length, Option, Some, Ok, Err, codes}
use Rattle.std.specs.List.{list_any}
use Rattle.std.specs.Str.{bytes_eq}
use Rattle.filter_tree.specs.declared.table.Column.{Column}
use Rattle.filter_tree.specs.declared.table.Table.{Table}
use Rattle.pub_reader.specs.Grammar.k
use Rattle.pub_reader.specs.Grammar.i
use Rattle.pub_reader.specs.Grammar.w
use Rattle.pub_reader.specs.Grammar.{Item, PlacedName, Rule, Verdict, fault, ◌>>=◌, ◌>>◌, pure, check, refuse_as, eat, expect, item_ahead, link, repeat, name}
use Rattle.sql_reader.specs.declared.column.FoundColumn.{FoundColumn}
use Rattle.sql_reader.specs.declared.error.Omitted.TheVariants.{Clause}
use Rattle.sql_reader.specs.declared.error.Limit.TheVariants.{Indexes}
use Rattle.sql_reader.specs.Expressions.{known_column}
use Rattle.pub_catalog.specs.Catalogs.{schema_at, columns_at, indexes_at, indexed}
use Rattle.pub_reader.specs.Drafts.{DraftOf, find_relation}
use Rattle.pub_reader.specs.Schemas.{fresh}
use Rattle.pub_reader.specs.TableNames.{table_number}

-- a new index of the table with this number has a name that no table and no index of the table's schema has, and a
-- table has at most 8 indexes
unfoldable pub check_new_index : List Table → ℕ → PlacedName → Verdict (Unit {0})
check_new_index tables number called =
    fresh called (find_relation (schema_at tables number) called.text tables)
    (nat_le 8 (length (indexes_at tables number))) Indexes

-- ---- the method

-- no method other than B-tree is supported
unfoldable pub known_method : PlacedName → Verdict (Unit {0})
known_method called = if bytes_eq called.text (codes "btree") then
    Ok tt else Err (fault called.place (w.LeftOut Clause))

unfoldable pub named_method : Rule (Unit {0})
named_method = do
  expect (i.Keyword k.Using)
  called ← name
  check (known_method called)

-- without USING the method is B-tree
abbrev pub method_by : Option Item → Rule (Unit {0})
method_by (Some (i.Keyword k.Using)) = named_method
method_by _ = pure tt

unfoldable pub method : Rule (Unit {0})
method ts = method_by (item_ahead ts) ts

-- ---- the columns, each at most once

unfoldable pub once_in_index : List ℕ → PlacedName → FoundColumn → Verdict (Unit {0})
once_in_index numbers called column = if list_any (λ n. n == column.number) numbers then
    Err (fault called.place w.NameTwice) else Ok tt

unfoldable pub index_column : List Column → List ℕ → Rule (List ℕ)
index_column columns numbers = do
  called ← name
  column ← check (known_column columns called)
  check (once_in_index numbers called column)
  pure (numbers ++ column.number ∷ [])

unfoldable pub indexed_columns : List Column → Rule (List ℕ)
indexed_columns columns = index_column columns [] >>= repeat (link i.Comma (index_column columns))

-- ---- the statement

-- words after the columns are a clause that is not supported
abbrev pub index_tail_by : Option Item → Rule (Unit {0})
index_tail_by (Some (i.Keyword keyword)) = refuse_as (w.LeftOut Clause)
index_tail_by (Some i.Word) = refuse_as (w.LeftOut Clause)
index_tail_by _ = pure tt

unfoldable pub index_tail : Rule (Unit {0})
index_tail ts = index_tail_by (item_ahead ts) ts

-- after the name of a table with these columns
unfoldable pub index_body : List Column → Rule (List ℕ)
index_body columns = do
  method
  expect i.Open
  numbers ← indexed_columns columns
  expect i.Close
  index_tail
  pure numbers

-- the number of the table that is indexed
unfoldable pub indexed_table : {S : Type 0} → DraftOf S → PlacedName → Rule ℕ
indexed_table draft called = do
  expect (i.Keyword k.On)
  -- ONLY excludes the partitions of a table, of which there are none
  eat (i.Keyword k.Only)
  number ← table_number draft
  check (check_new_index draft.tables number called)
  pure number

-- after CREATE UNIQUE
unfoldable pub create_index : {S : Type 0} → DraftOf S → Rule (DraftOf S)
create_index draft = do
  expect (i.Keyword k.Index)
  called ← name
  number ← indexed_table draft called
  columns ← index_body (columns_at draft.tables number)
  pure (record draft { tables = indexed draft.tables number (record { name = called.text; columns = columns }) })
