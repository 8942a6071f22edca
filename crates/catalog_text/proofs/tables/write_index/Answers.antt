use Rattle.std.proofs.Common.{◌∙◌, ◌++◌, ℕ, List, ap, codes}
use Rattle.std.specs.String.{string_bytes}
use Rattle.filter_tree.specs.declared.table.Column.{Column}
use Rattle.catalog_text.specs.CatalogText.{columns_text, index_text, table_sql}
use Rattle.catalog_text.specs.FilterText.{name_text}
use Rattle.catalog_text.proofs.Joins.{joined_6}
use Rattle.catalog_text.proofs.tables.write_index.Goals as goal

pub returns : goal.returns
unfolding index_text
returns c =
    let table = c.args.table.now in
    let index = c.args.index.now in
    let named = string_bytes c.write_table_name.new.text in
    joined_6 (string_bytes c.args.text.now) (codes "CREATE UNIQUE INDEX ") (name_text index.name) (codes " ON ")
    (table_sql table) (columns_text table.columns index.columns) (codes ";\n")
    c.in_ok-push_str.ensures.bytes
    (c.in_ok-write_name.ensures ∙ ap (λ (name : List ℕ). string_bytes c.push_str.new.self ++ name_text name) c.as_str.ensures)
    c.in_ok-push_str-2.ensures.bytes c.in_ok-write_table_name.ensures
    (c.in_ok-write_column_list.ensures
    ∙ ap (λ (them : List Column). named ++ columns_text them c.as_slice-2.result.now) c.as_slice.ensures
    ∙ ap (λ (numbers : List ℕ). named ++ columns_text table.columns numbers) c.as_slice-2.ensures)
    c.in_ok-push_str-3.ensures.bytes
