use Rattle.std.proofs.Common.{◌∙◌, ◌++◌, ℕ, List, ap, codes}
use Rattle.std.specs.List.{flat_map}
use Rattle.std.specs.String.{string_bytes}
use Rattle.filter_tree.specs.declared.table.Column.{Column}
use Rattle.catalog_text.specs.CatalogText.{column_text, columns_text, create_text, table_sql}
use Rattle.catalog_text.proofs.Joins.{joined_7}
use Rattle.catalog_text.proofs.tables.write_create.Goals as goal

pub returns : goal.returns
unfolding create_text
returns c =
    let table = c.args.table.now in
    let columns = c.as_slice-columns.ensures in
    joined_7 (string_bytes c.args.text.now) (codes "CREATE TABLE ") (table_sql table) (codes " (")
    (flat_map column_text table.columns) (codes "PRIMARY KEY") (columns_text table.columns table.key) (codes ");\n")
    c.in_ok-push_str.ensures.bytes c.in_ok-write_table_name.ensures c.in_ok-push_str-2.ensures.bytes
    (c.in_ok-write_columns.ensures
    ∙ ap (λ (them : List Column). string_bytes c.push_str-2.new.self ++ flat_map column_text them) columns)
    c.in_ok-push_str-3.ensures.bytes
    (c.in_ok-write_column_list.ensures
    ∙ ap (λ (them : List Column). string_bytes c.push_str-3.new.self ++ columns_text them c.as_slice.result.now) columns
    ∙ ap (λ (key : List ℕ). string_bytes c.push_str-3.new.self ++ columns_text table.columns key) c.as_slice.ensures)
    c.in_ok-push_str-4.ensures.bytes
