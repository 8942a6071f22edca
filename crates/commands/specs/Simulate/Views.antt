-- The lines that show the contents of the publisher and of each subscriber, in the program's own format: names as the
-- catalog has them, and rows as constants (PostgreSQL 15, "SQL Syntax", 4.1.2).
use Rattle.std.specs.Prelude.{ℕ, ◌+◌, List, [], ◌∷◌, ◌++◌, map, codes}
use Rattle.std.specs.Fmt.{decimal}
use Rattle.filter_tree.specs.Datum.{Datum}
use Rattle.filter_tree.specs.Expr.{Expr}
use Rattle.filter_tree.specs.declared.table.Table.{Table}
use Rattle.pub_catalog.specs.Catalogs.{CatalogOf}
use Rattle.shard_world.specs.ViewMeaning.{shown_rows}
use Rattle.shard_world.specs.declared.view.SubscriberView.{SubscriberView}
use Rattle.shard_world.specs.declared.view.View.{View}
use Rattle.sql_reader.specs.WrittenRows.{row_text}
use Rattle.commands.specs.Names.{subscriber_name, plain_table, counted}
use Rattle.commands.specs.Simulate.Answers.{position_text}

-- ---- rows

-- the publisher's, table by table
abbrev pub publisher_rows : View → List (List (List Datum))
publisher_rows view = map (λ rows. rows.items) view.rows.items

-- after these bytes the table's name, and the row
abbrev pub row_line : List ℕ → List Table → ℕ → List Datum → List ℕ
row_line before tables number row = before ++ plain_table tables number ++ 32 ∷ row_text row

-- a line for each row of each table, of which the first has this number
abbrev pub rows_lines : List ℕ → List Table → ℕ → List (List (List Datum)) → List (List ℕ)
rows_lines before tables number [] = []
rows_lines before tables number (rows ∷ later) =
    map (row_line before tables number) rows ++ rows_lines before tables (number + 1) later

-- ---- subscribers

-- its name, its position, how many commits that counts, and its slot's confirmed position
abbrev pub subscriber_line : List ℕ → SubscriberView → List ℕ
subscriber_line name shown =
    name ++ 32 ∷ position_text shown.position ++ 32 ∷ decimal shown.applied ++ codes " confirmed "
    ++ position_text shown.confirmed

-- that line, and then its rows, each after its name
abbrev pub named_lines : List ℕ → List Table → SubscriberView → List (List ℕ)
named_lines name tables shown = subscriber_line name shown ∷ rows_lines (name ++ 32 ∷ []) tables 0 (shown_rows shown)

-- those of each subscriber, of which the first has this number
abbrev pub subscribers_lines : CatalogOf Expr → ℕ → List SubscriberView → List (List ℕ)
subscribers_lines catalog number [] = []
subscribers_lines catalog number (shown ∷ later) =
    named_lines (subscriber_name catalog.subscriptions number) catalog.tables shown
    ++ subscribers_lines catalog (number + 1) later

-- ---- all

-- the log's length, the publisher's rows, and each subscriber
abbrev pub view_lines : CatalogOf Expr → View → List (List ℕ)
view_lines catalog view =
    counted (codes "log") view.log
    ∷ (rows_lines [] catalog.tables 0 (publisher_rows view) ++ subscribers_lines catalog 0 view.subscribers.items)
