use Rattle.std.proofs.Common.{◌∙◌, ◌+◌, ◌++◌, ℕ, List, ap, drop, sym, take}
use Rattle.std.specs.String.{string_bytes}
use Rattle.catalog_text.proofs.Joins.{next_part}
use Rattle.catalog_text.proofs.Steps.{tables_step}
use Rattle.catalog_text.specs.CatalogText.{made_text, table_text, tables_from}
use Rattle.catalog_text.proofs.tables.write_tables.Goals as goal

pub loop-number-preserved : goal.loop-number-preserved
loop-number-preserved c =
    let all = c.args.tables.now in
    let n = c.loop-number.number in
    let table = c.index-tables-number.result in
    let text = string_bytes c.loop-number.text in
    let rest = tables_from all (n + 1) (drop (n + 1) all) in
    let whole = string_bytes c.args.text.now ++ tables_from all 0 all in
    next_part (string_bytes c.write_schema.new.text) (table_text table) rest whole
    (next_part text (made_text (take n all) table.schema) (table_text table ++ rest) whole
    (ap (λ (left : List ℕ). text ++ left) (sym (tables_step all n table c.loop-number-test.true c.index-tables-number.is))
    ∙ c.loop-number.invariant)
    (c.in_ok-write_schema.ensures ∙ ap (λ (schema : List ℕ). text ++ made_text (take n all) schema) c.as_str.ensures))
    c.in_ok-write_table.ensures
