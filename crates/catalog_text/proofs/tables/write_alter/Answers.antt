use Rattle.std.proofs.Common.{◌∙◌, ◌++◌, List, ap, codes}
use Rattle.std.specs.String.{string_bytes}
use Rattle.filter_tree.specs.declared.table.UniqueIndex.{UniqueIndex}
use Rattle.catalog_text.specs.CatalogText.{alter_text, identity_text, table_sql}
use Rattle.catalog_text.proofs.Joins.{joined_5}
use Rattle.catalog_text.proofs.tables.write_alter.Goals as goal

pub returns : goal.returns
unfolding alter_text
returns c =
    let table = c.args.table.now in
    joined_5 (string_bytes c.args.text.now) (codes "ALTER TABLE ") (table_sql table) (codes " REPLICA IDENTITY ")
    (identity_text table.indexes table.identity) (codes ";\n") c.in_ok-push_str.ensures.bytes
    c.in_ok-write_table_name.ensures c.in_ok-push_str-2.ensures.bytes
    (c.in_ok-write_identity.ensures
    ∙ ap (λ (indexes : List UniqueIndex). string_bytes c.push_str-2.new.self ++ identity_text indexes table.identity)
    c.as_slice.ensures)
    c.in_ok-push_str-3.ensures.bytes
