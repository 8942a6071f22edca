use Rattle.std.proofs.Common.{sym, ap, ◌∙◌}
use Rattle.std.specs.Option.{option_copied}
use Rattle.std.specs.Prelude.{slice_get}
use Rattle.tables_log.proofs.ListingLemmas.{lists_no_map, lists_first}
use Rattle.tables_log.proofs.table_rows.TableRows.rows.Goals as goal

pub returns-in_default-clause-found : goal.returns-in_default-clause-found
returns-in_default-clause-found c =
    lists_no_map c.args.self.now.maps.items
    (ap (λ maps. slice_get maps 0) (sym c.deref.ensures.value) ∙ sym c.first.ensures.value
    ∙ ap option_copied c.in_default.is)

pub returns-clause-found : goal.returns-clause-found
returns-clause-found c =
    lists_first c.args.self.now.maps.items c.in-Some.map.now
    (ap (λ maps. slice_get maps 0) (sym c.deref.ensures.value) ∙ sym c.first.ensures.value
    ∙ ap option_copied c.in-Some.is) c.in_ok-shared.ensures.found
