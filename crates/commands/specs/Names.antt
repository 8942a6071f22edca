-- The names of publications, tables, columns and subscribers, as their catalog names them (PostgreSQL 15, "Schemas",
-- 5.9, and "Logical Replication", 31.1 Publication and 31.2 Subscription), and the words of a line.
use Rattle.std.specs.Prelude.{ℕ, List, [], ◌∷◌, ◌++◌, Option, Some, None, slice_get, codes}
use Rattle.std.specs.Fmt.{decimal}
use Rattle.std.specs.List.{flat_map}
use Rattle.filter_tree.specs.Expr.{Expr}
use Rattle.filter_tree.specs.declared.table.Column.{Column}
use Rattle.filter_tree.specs.declared.table.Table.{Table}
use Rattle.filter_tree.specs.declared.validity.RowFault.{RowFault}
use Rattle.filter_tree.specs.declared.validity.RowFault.TheVariants as r
use Rattle.pub_catalog.specs.Catalogs.{PublicationOf}
use Rattle.pub_catalog.specs.declared.catalog.Subscription.{Subscription}

-- ---- names by numbers; what the catalog lacks has the empty name

abbrev pub publication_named : Option (PublicationOf Expr) → List ℕ
publication_named None = []
publication_named (Some publication) = publication.name

abbrev pub plain_publication : List (PublicationOf Expr) → ℕ → List ℕ
plain_publication publications number = publication_named (slice_get publications number)

abbrev pub subscriber_named : Option Subscription → List ℕ
subscriber_named None = []
subscriber_named (Some subscription) = subscription.name

-- a subscriber's name is its subscription's
abbrev pub subscriber_name : List Subscription → ℕ → List ℕ
subscriber_name subscriptions number = subscriber_named (slice_get subscriptions number)

-- `schema.name`
abbrev pub dotted_name : Option Table → List ℕ
dotted_name None = []
dotted_name (Some table) = table.schema ++ 46 ∷ table.name

abbrev pub plain_table : List Table → ℕ → List ℕ
plain_table tables number = dotted_name (slice_get tables number)

abbrev pub column_named : Option Column → List ℕ
column_named None = []
column_named (Some column) = column.name

abbrev pub column_in : Option Table → ℕ → List ℕ
column_in None number = []
column_in (Some table) number = column_named (slice_get table.columns number)

abbrev pub plain_column : List Table → ℕ → ℕ → List ℕ
plain_column tables table number = column_in (slice_get tables table) number

-- ---- words of a line

-- each word with a space before it
abbrev pub spaced : List (List ℕ) → List ℕ
spaced words = flat_map (λ word. 32 ∷ word) words

-- a word, a space, and a number
abbrev pub counted : List ℕ → ℕ → List ℕ
counted word number = word ++ 32 ∷ decimal number

-- the name of a fault, and the number of its column
abbrev pub fault_words : RowFault → List ℕ
fault_words r.Width = codes "Width"
fault_words (r.NullInNotNull column) = counted (codes "NullInNotNull") column
fault_words (r.WrongType column) = counted (codes "WrongType") column
fault_words (r.OutOfRange column) = counted (codes "OutOfRange") column
fault_words (r.NulInText column) = counted (codes "NulInText") column
fault_words (r.TextTooLong column) = counted (codes "TextTooLong") column
