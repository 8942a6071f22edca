use Rattle.std.proofs.Common.{rules, ◌≡◌, Some, None, Ok, refl, ap, ◌∙◌, slice_get, length, map}
use Rattle.std.proofs.lemmas.Option.{slice_get_read}
use Rattle.pub_catalog.specs.CatalogView.{catalog_view}
use Rattle.pub_reader.specs.Statements.{catalog_by}
use Rattle.sql_reader.specs.Written.{as_filter}
use Rattle.commands.specs.Eval.Carriers.{carrier_view, carriers_of}
use Rattle.commands.specs.Eval.Tables.{table_named_by}
use Rattle.commands.specs.Parts.{CutOnce, two_parts}
use Rattle.commands.proofs.Evaluating.{evaluated}
use Rattle.commands.proofs.eval.evaluate.Goals as goal

pub returns-in_default-clause-ends : goal.returns-in_default-clause-ends
returns-in_default-clause-ends g c =
    let cut : CutOnce = record { part = c.in_ok-catalog.catalog.now; rest = c.in_ok-catalog.rows.now } in
    let parts : two_parts c.args.input.now ≡ Some cut = search rules in
    let reads : catalog_by as_filter cut.part ≡ Ok (catalog_view c.in_ok-catalog-2.catalog) =
    c.in_ok-catalog-2.ensures.catalog in
    let unknown : table_named_by c.args.word.now c.in_ok-catalog-2.catalog.tables.items ≡ None = search rules in (
      (
        record { cut = cut; catalog = c.in_ok-catalog-2.catalog; parts = parts; reads = reads; unknown = unknown },
        refl,
      ),
      refl,
    )

pub returns-clause-ends : goal.returns-clause-ends
returns-clause-ends g c =
    let cut : CutOnce = record { part = c.in_ok-catalog.catalog.now; rest = c.in_ok-catalog.rows.now } in
    let parts : two_parts c.args.input.now ≡ Some cut = search rules in
    let reads : catalog_by as_filter cut.part ≡ Ok (catalog_view c.in_ok-catalog-2.catalog) =
    c.in_ok-catalog-2.ensures.catalog in
    let named : table_named_by c.args.word.now c.in_ok-catalog-2.catalog.tables.items ≡ Some c.in-Some.number =
    search rules in
    let found : slice_get c.in_ok-catalog-2.catalog.tables.items c.in-Some.number ≡ Some c.index.result.now =
    slice_get_read c.in_ok-catalog-2.catalog.tables.items (length c.in_ok-catalog-2.catalog.tables.items)
    c.in-Some.number c.index.result.now refl (search rules) (search rules) in
    let same : map carrier_view c.as_slice-3.result.now
    ≡ carriers_of c.in-Some.number c.in_ok-catalog-2.catalog.publications.items =
    ap (map carrier_view) c.as_slice-3.ensures.value ∙ c.in_ok-carriers.ensures
    ∙ ap (carriers_of c.in-Some.number) c.as_slice-2.ensures.value in
    evaluated c.args.wanted c.args.input.now c.args.word.now (g.W.Writer.contents c.args.writer.now)
    (g.W.Writer.contents c.write_rows.new.writer) cut c.in_ok-catalog-2.catalog c.in-Some.number c.index.result.now
    (map carrier_view c.as_slice-3.result.now) same parts reads named found c.write_rows.result c.write_rows.ensures.written
