-- What every catalog has that is read, whatever its text: PostgreSQL 15, SQL Commands, CREATE TABLE, CREATE INDEX and
-- CREATE PUBLICATION, and "Logical Replication", 31.3 Row Filters. The type `Catalog` says the rest: its limits, what
-- names are, which identities there are, and that publications and subscriptions have names of their own.
use Rattle.std.specs.Prelude.{◌≡◌, ◌≢◌, ◌<◌, ℕ, pos, Bool, true, ◌&&◌, nat_eq, List, [], ◌∷◌, ◌++◌, All, length, map, Option, Some, None, Ok, IfSome, slice_get}
use Rattle.std.specs.List.{IsDistinct}
use Rattle.std.specs.Str.{bytes_eq}
use Rattle.filter_tree.specs.declared.filter.Op.{Op}
use Rattle.filter_tree.specs.declared.filter.Op.TheVariants.{Eq, Ne}
use Rattle.filter_tree.specs.declared.filter.Term.{Term}
use Rattle.filter_tree.specs.declared.filter.Term.TheVariants.{Col, Mod}
use Rattle.filter_tree.specs.declared.table.ColType.{ColType}
use Rattle.filter_tree.specs.declared.table.ColType.TheVariants.{SmallInt, Integer, BigInt, Boolean, Text}
use Rattle.filter_tree.specs.declared.table.Column.{Column}
use Rattle.filter_tree.specs.declared.table.Table.{Table}
use Rattle.filter_tree.specs.Datum.{Constant, Number, Truth, Bytes}
use Rattle.filter_tree.specs.Expr.{AtomOf, Cmp, IsNull, In, Between, Distinct, term_of, Expr}
use Rattle.filter_tree.specs.Lists.{atoms_in, column_of}
use Rattle.pub_catalog.specs.Catalogs.{EntryOf, CatalogOf, columns_at}
use Rattle.pub_catalog.specs.IndexIdentities.{take_no_null}
use Rattle.sql_reader.specs.Written.{as_filter}
use Rattle.pub_reader.specs.Statements.{catalog_by}

-- ---- names

-- the schema and the name of a table, and those of its unique indexes, which are in the same schema
abbrev pub names_of_table : Table → List (List ℕ × List ℕ)
names_of_table table = (table.schema, table.name) ∷ map (λ index. (table.schema, index.name)) table.indexes

abbrev pub names_of_tables : List Table → List (List ℕ × List ℕ)
names_of_tables [] = []
names_of_tables (table ∷ tables) = names_of_table table ++ names_of_tables tables

abbrev pub same_name : List ℕ × List ℕ → List ℕ × List ℕ → Bool
same_name one other = bytes_eq one.0 other.0 && bytes_eq one.1 other.1

-- ---- tables

-- numbers of a table's columns: at least one, and none twice
pub record AreColumns (columns : List Column) (numbers : List ℕ) : Type 0 where
  pub some : 0 < length numbers
  pub once : IsDistinct nat_eq numbers
  pub known : All (λ number. number < length columns) numbers

-- no two columns have the same name, and the columns of the primary key are NOT NULL
pub record IsWellFormedTable (table : Table) : Type 0 where
  pub named : IsDistinct bytes_eq (map (λ column. column.name) table.columns)
  pub keyed : AreColumns table.columns table.key
  pub not_null : take_no_null table.columns table.key ≡ true
  pub indexed : All (λ index. AreColumns table.columns index.columns) table.indexes

-- ---- filters

abbrev pub IsInteger : ColType → Type 0
IsInteger SmallInt = Unit {0}
IsInteger Integer = Unit {0}
IsInteger BigInt = Unit {0}
IsInteger _ = ⊥

-- a number for an integer type, a truth value for boolean, and bytes for text
abbrev pub IsOfKind : ColType → Constant → Type 0
IsOfKind kind (Number number) = IsInteger kind
IsOfKind Boolean (Truth truth) = Unit {0}
IsOfKind Text (Bytes bytes) = Unit {0}
IsOfKind _ _ = ⊥

-- only integers have a remainder, and the divisor is not 0
abbrev pub IsTermOf : ColType → Term → Type 0
IsTermOf kind (Col column) = Unit {0}
IsTermOf kind (Mod column divisor) = IsInteger kind × (divisor ≢ pos 0)

-- only integers have an order
abbrev pub IsOpOf : ColType → Op → Type 0
IsOpOf kind Eq = Unit {0}
IsOpOf kind Ne = Unit {0}
IsOpOf kind _ = IsInteger kind

-- the atom suits a column of this type
abbrev pub SuitsType : ColType → AtomOf → Type 0
SuitsType kind (Cmp term op constant) = IsTermOf kind term × (IsOpOf kind op × IsOfKind kind constant)
SuitsType kind (IsNull column) = Unit {0}
SuitsType kind (In term constants) = IsTermOf kind term × ((0 < length constants) × All (IsOfKind kind) constants)
SuitsType kind (Between term low high) = IsTermOf kind term × IsInteger kind
SuitsType kind (Distinct term constant) = IsTermOf kind term × IsOfKind kind constant

-- the column exists, and the atom suits its type
abbrev pub SuitsColumn : Option Column → AtomOf → Type 0
SuitsColumn None atom = ⊥
SuitsColumn (Some column) atom = SuitsType column.kind atom

abbrev pub SuitsTable : List Column → Expr → Type 0
SuitsTable columns filter =
    All (λ atom. SuitsColumn (slice_get columns (column_of (term_of atom))) atom) (atoms_in filter)

-- an entry for one of these tables, whose filter suits that table
pub record IsWellFormedEntry (tables : List Table) (entry : EntryOf Expr) : Type 0 where
  pub table : entry.table < length tables
  pub filter : IfSome entry.filter (SuitsTable (columns_at tables entry.table))

-- ---- catalogs

-- no table and no index has the name of another one of its schema
pub record IsWellFormed (catalog : CatalogOf Expr) : Type 0 where
  pub named : IsDistinct same_name (names_of_tables catalog.tables)
  pub tables : All IsWellFormedTable catalog.tables
  pub entries : All (λ publication. All (IsWellFormedEntry catalog.tables) publication.entries) catalog.publications

-- the law: each catalog that a text spells is well formed
abbrev pub CatalogsAreWellFormed : Type 0
CatalogsAreWellFormed =
    (text : List ℕ) (catalog : CatalogOf Expr) → catalog_by as_filter text ≡ Ok catalog → IsWellFormed catalog
