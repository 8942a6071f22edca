-- What publications carry of a table: PostgreSQL 15, "Logical Replication", 31.1 Publication and 31.3 Row Filters.
use Rattle.std.specs.Prelude.{ℕ, ◌==◌, Bool, ◌&&◌, if◌then◌else◌, List, Option, Some, None, is_none, find, option_and_then, filter_map}
use Rattle.std.specs.List.{list_any}
use Rattle.std.specs.Option.{option_map}
use Rattle.filter_tree.specs.Expr.{Expr}
use Rattle.filter_tree.specs.Shape.{expr_view}
use Rattle.pub_catalog.specs.declared.catalog.Entry.{Entry}
use Rattle.pub_catalog.specs.declared.catalog.Publication.{Publication}
use Rattle.commands.specs.declared.eval.carriers.Carrier.{Carrier}

-- a publication that carries a table: its name, and its filter; with no filter it carries all rows
pub record CarrierOf : Type 0 where
  pub name : List ℕ
  pub filter : Option Expr

abbrev pub is_entry_for : ℕ → Entry → Bool
is_entry_for table entry = entry.table == table

abbrev pub is_whole : ℕ → Entry → Bool
is_whole table entry = is_entry_for table entry && is_none entry.filter

-- all rows, where an entry for the table has no filter, or else the rows of its entry's filter
abbrev pub carried_by : ℕ → Publication → Option CarrierOf
carried_by table publication =
    if list_any (is_whole table) publication.entries.items then Some (record { name = publication.name; filter = None })
    else option_map (λ filter. record { name = publication.name; filter = Some (expr_view filter) })
    (option_and_then (λ entry. entry.filter) (find (is_entry_for table) publication.entries.items))

-- the publications that carry the table, in their order
abbrev pub carriers_of : ℕ → List Publication → List CarrierOf
carriers_of table publications = filter_map (carried_by table) publications

-- what a carrier of the code is the view of
abbrev pub carrier_view : Carrier → CarrierOf
carrier_view carrier =
    record { name = carrier.name.now; filter = option_map (λ filter. expr_view filter.now) carrier.filter }
