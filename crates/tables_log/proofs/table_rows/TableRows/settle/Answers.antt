use Rattle.std.proofs.Common.{arith, ap, subst, sym, length, ◌∙◌}
use Rattle.std.specs.Prelude.{slice_index_or}
use Rattle.std.specs.Vec.{with_items}
use Rattle.std.proofs.lemmas.Option.{slice_get-get_or}
use Rattle.tables_log.specs.Places.{seen_at}
use Rattle.tables_log.proofs.PlaceLemmas.{written}
use Rattle.tables_log.proofs.PassLemmas.{Going, settles_next, settles_rows}
use Rattle.tables_log.proofs.table_rows.TableRows.settle.Goals as goal

pub loop-map-preserved : goal.loop-map-preserved
loop-map-preserved c =
    settles_next c.loop-map.map-items c.deref_mut-map-items.result.now c.loop-map.map-index
    (slice_index_or c.loop-map.map-items c.loop-map.map-index c.map-item.result) c.settle.new.self
    (slice_get-get_or c.loop-map.map-items c.loop-map.map-index c.map-item.result (omega arith)) c.settle.ensures
    c.loop-map.invariant

pub returns : goal.returns
returns c =
    settles_rows c.args.self.now (record { maps = with_items c.args.self.now.maps c.loop-map.map-items })
    c.loop-map.map-index (omega (arith, ap length c.deref_mut-map-items.ensures.value))
    (subst (λ items. Going items c.args.self.now.maps.items c.loop-map.map-index (seen_at c.args.self.now.maps.items)
    (seen_at c.args.self.now.maps.items))
    (sym (written c.args.self.now.maps.len c.loop-map.map-items c.args.self.now.maps.items
    (c.loop-map.invariant.width ∙ ap length c.deref_mut-map-items.ensures.value ∙ sym c.args.self.now.maps.ok.0)))
    (subst (λ first. Going c.loop-map.map-items first c.loop-map.map-index (seen_at first) (seen_at first))
    c.deref_mut-map-items.ensures.value c.loop-map.invariant))
