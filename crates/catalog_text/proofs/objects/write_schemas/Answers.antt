use Rattle.std.proofs.Common.{◌∙◌, ◌+◌, ◌++◌, ℕ, List, ap, drop, map, sym, take}
use Rattle.std.specs.String.{string_bytes}
use Rattle.pub_catalog.specs.CatalogView.{entry_view}
use Rattle.catalog_text.proofs.Joins.{next_part}
use Rattle.catalog_text.proofs.Steps.{schemas_step}
use Rattle.catalog_text.specs.CatalogText.{schema_of, schemas_from, whole_text}
use Rattle.catalog_text.proofs.objects.write_schemas.Goals as goal

pub loop-number-preserved : goal.loop-number-preserved
loop-number-preserved c =
    let tables = c.args.tables.now in
    let all = c.args.entries.now in
    let n = c.loop-number.number in
    let entry = c.index-entries-number.result in
    let text = string_bytes c.loop-number.text in
    let earlier = map entry_view (take n all) in
    let rest = schemas_from tables (map entry_view all) (n + 1) (map entry_view (drop (n + 1) all)) in
    let whole = string_bytes c.args.text.now ++ schemas_from tables (map entry_view all) 0 (map entry_view all) in
    next_part text (whole_text tables earlier (schema_of tables entry.table)) rest whole
    (ap (λ (left : List ℕ). text ++ left)
    (sym (schemas_step tables all n entry c.loop-number-test.true c.index-entries-number.is))
    ∙ c.loop-number.invariant)
    (c.in_ok-write_whole.ensures
    ∙ ap (λ (schema : List ℕ). text ++ whole_text tables earlier schema) c.schema_of-schema.ensures)
