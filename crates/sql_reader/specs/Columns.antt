-- The elements of CREATE TABLE: columns with their types and constraints, and the primary key: PostgreSQL 15, SQL
-- Commands, CREATE TABLE, and "Data Types", Table 8.1.
use Rattle.std.specs.Prelude.{ℕ, zero, suc, Bool, true, false, not, ◌||◌, nat_le, ◌==◌, if◌then◌else◌, List, [], ◌∷◌, ◌++◌, length, Option, Some, None, Ok, Err, codes}
use Rattle.std.specs.List.{list_any}
use Rattle.std.specs.Option.{is_some}
use Rattle.std.specs.Str.{str_eq_ignore_ascii_case}
use Rattle.filter_tree.specs.declared.table.ColType.{ColType}
use Rattle.filter_tree.specs.declared.table.ColType.TheVariants.{SmallInt, Integer, BigInt, Boolean, Text}
use Rattle.filter_tree.specs.declared.table.Column.{Column}
use Rattle.sql_reader.specs.declared.word.Keyword.{Keyword}
use Rattle.sql_reader.specs.declared.word.Keyword.TheVariants as k
use Rattle.sql_reader.specs.declared.item.Item.{Item}
use Rattle.sql_reader.specs.declared.item.Item.TheVariants as i
use Rattle.sql_reader.specs.declared.name.PlacedName.{PlacedName}
use Rattle.sql_reader.specs.declared.column.FoundColumn.{FoundColumn}
use Rattle.sql_reader.specs.declared.error.Omitted.TheVariants.{Constraint, DataType}
use Rattle.sql_reader.specs.declared.error.Limit.TheVariants.{Columns}
use Rattle.sql_reader.specs.ErrorKinds as w
use Rattle.sql_reader.specs.Expressions.{find_column, known_column}
use Rattle.sql_reader.specs.Items.{Items, Broken}
use Rattle.sql_reader.specs.Names.{name, name_ahead}
use Rattle.sql_reader.specs.Reading.{Fault, Rule, Verdict, fault, place_ahead, ◌>>=◌, ◌>>◌, pure, check, refuse, refuse_as, unexpected, advance, expect, item_ahead, written_ahead, rest_of}
use Rattle.sql_reader.specs.Repetitions.{link, each, repeat}
use Rattle.sql_reader.specs.declared.column_rule.Constraints.{Constraints}
use Rattle.sql_reader.specs.declared.element.TableParts.{TableParts}

-- the elements read so far: the columns, and the numbers of the key's columns once there is a key
pub record Parts : Type 0 where
  pub columns : List Column
  pub key : List ℕ

-- the elements as the code has them
abbrev pub parts_view : TableParts → Parts
parts_view parts = record { columns = parts.columns.items; key = parts.key.items }

-- a clause that is not supported, at the token ahead
abbrev pub unsupported_at : Items → Fault
unsupported_at ts = fault (place_ahead ts) (w.LeftOut Constraint)

abbrev pub unsupported : {A : Type 0} → Rule A
unsupported = λ ts. Err (unsupported_at ts)

-- ---- types

-- the type that a word names, in upper or lower case
abbrev pub type_named : List ℕ → Option ColType
type_named word =
    if str_eq_ignore_ascii_case word (codes "smallint") || str_eq_ignore_ascii_case word (codes "int2") then
    Some SmallInt else
    if str_eq_ignore_ascii_case word (codes "integer")
    || (str_eq_ignore_ascii_case word (codes "int") || str_eq_ignore_ascii_case word (codes "int4")) then
    Some Integer else
    if str_eq_ignore_ascii_case word (codes "bigint") || str_eq_ignore_ascii_case word (codes "int8") then
    Some BigInt else
    if str_eq_ignore_ascii_case word (codes "boolean") || str_eq_ignore_ascii_case word (codes "bool") then
    Some Boolean else
    if str_eq_ignore_ascii_case word (codes "text") then Some Text else
    None

-- a quoted name names none of these types
abbrev pub type_by : Option Item → List ℕ → Option ColType
type_by (Some i.QuotedName) written = None
type_by _ written = type_named written

abbrev pub type_taken : Option ColType → Rule ColType
type_taken (Some kind) = λ ts. Ok (kind, rest_of ts)
type_taken None = refuse_as (w.LeftOut DataType)

unfoldable pub column_type : Rule ColType
column_type ts =
    if name_ahead ts then type_taken (type_by (item_ahead ts) (written_ahead ts)) ts
    else Err (unexpected ts)

-- ---- constraints of a column, each at most once

-- the words with which a constraint of a column begins, including constraints that are not supported
abbrev pub is_constraint : Option Item → Bool
is_constraint (Some (i.Keyword k.Not)) = true
is_constraint (Some (i.Keyword k.Primary)) = true
is_constraint (Some (i.Keyword k.Null)) = true
is_constraint (Some (i.Keyword k.Default)) = true
is_constraint (Some (i.Keyword k.Check)) = true
is_constraint (Some (i.Keyword k.Unique)) = true
is_constraint (Some (i.Keyword k.References)) = true
is_constraint (Some (i.Keyword k.Constraint)) = true
is_constraint _ = false

abbrev pub constraint_looked : Items → Verdict Bool
constraint_looked (Broken place kind) = Err (unexpected (Broken place kind))
constraint_looked ts = Ok (is_constraint (item_ahead ts))

unfoldable pub constraint_ahead : Items → Verdict Bool
constraint_ahead ts = constraint_looked ts

-- a word and this keyword after it, which give the column these constraints
unfoldable pub given_by : Keyword → Constraints → Rule Constraints
given_by second given = advance >> expect (i.Keyword second) >> pure given

abbrev pub constraint_by : Bool → Constraints → Option Item → Rule Constraints
constraint_by has_key given (Some (i.Keyword k.Not)) = if given.not_null then
    refuse else given_by k.Null (record given { not_null = true })
constraint_by has_key given (Some (i.Keyword k.Primary)) = if has_key || given.key then
    refuse else given_by k.Key (record given { key = true })
constraint_by has_key given _ = unsupported

-- one more constraint of a table that already has a key or not
unfoldable pub constraint : Bool → Constraints → Rule Constraints
constraint has_key given ts = constraint_by has_key given (item_ahead ts) ts

abbrev pub no_constraints : Constraints
no_constraints = record { not_null = false; key = false }

unfoldable pub constraints : Bool → Rule Constraints
constraints has_key = repeat (each constraint_ahead (constraint has_key)) no_constraints

-- ---- columns

abbrev pub has_key : Parts → Bool
has_key parts = not (length parts.key == 0)

-- a new column has a new name, and there are at most 100
unfoldable pub new_column : Parts → PlacedName → Verdict (Unit {0})
new_column parts called =
    if is_some (find_column called.text parts.columns) then Err (fault called.place w.NameTwice)
    else (if nat_le 100 (length parts.columns) then Err (fault called.place (w.TooMany Columns)) else Ok tt)

-- the columns of a primary key are NOT NULL
abbrev pub with_column : Parts → PlacedName → ColType → Constraints → Parts
with_column parts called kind given = record {
  columns = parts.columns ++ record { name = called.text; kind = kind; not_null = given.not_null || given.key } ∷ [];
  key = if given.key then length parts.columns ∷ [] else parts.key;
}

unfoldable pub column_element : Parts → Rule Parts
column_element parts = do
  called ← name
  check (new_column parts called)
  kind ← column_type
  given ← constraints (has_key parts)
  pure (with_column parts called kind given)

-- ---- the primary key as an element of its own

-- the columns, with the column of this number made NOT NULL
abbrev pub required : List Column → ℕ → List Column
required [] number = []
required (column ∷ columns) zero = record column { not_null = true } ∷ columns
required (column ∷ columns) (suc number) = column ∷ required columns number

unfoldable pub once_in_key : Parts → PlacedName → FoundColumn → Verdict (Unit {0})
once_in_key parts called column =
    if list_any (λ n. n == column.number) parts.key then Err (fault called.place w.NameTwice) else Ok tt

abbrev pub with_key_column : Parts → FoundColumn → Parts
with_key_column parts column =
    record { columns = required parts.columns column.number; key = parts.key ++ column.number ∷ [] }

unfoldable pub key_column : Parts → Rule Parts
key_column parts = do
  called ← name
  column ← check (known_column parts.columns called)
  check (once_in_key parts called column)
  pure (with_key_column parts column)

unfoldable pub key_columns : Parts → Rule Parts
key_columns parts = key_column parts >>= repeat (link i.Comma key_column)

unfoldable pub first_key : Parts → Rule Parts
first_key parts = do
  expect (i.Keyword k.Primary)
  expect (i.Keyword k.Key)
  expect i.Open
  keyed ← key_columns parts
  expect i.Close
  pure keyed

-- a second primary key is refused
unfoldable pub key_element : Parts → Rule Parts
key_element parts = if has_key parts then refuse else first_key parts

-- ---- elements

abbrev pub element_by : Option Item → Parts → Rule Parts
element_by (Some (i.Keyword k.Primary)) parts = key_element parts
element_by (Some (i.Keyword k.Check)) parts = unsupported
element_by (Some (i.Keyword k.Unique)) parts = unsupported
element_by (Some (i.Keyword k.Foreign)) parts = unsupported
element_by (Some (i.Keyword k.Constraint)) parts = unsupported
element_by _ parts = column_element parts

unfoldable pub element : Parts → Rule Parts
element parts ts = element_by (item_ahead ts) parts ts

abbrev pub no_parts : Parts
no_parts = record { columns = []; key = [] }

unfoldable pub elements : Rule Parts
elements = element no_parts >>= repeat (link i.Comma element)
