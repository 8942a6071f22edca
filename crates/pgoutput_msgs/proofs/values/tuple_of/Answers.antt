use Rattle.std.proofs.Common.{map, refl, sym, subst, ap, ◌∷◌, ◌∙◌, ◌+◌, drop, arith}
use Rattle.std.specs.Prelude.{All}
use Rattle.filter_tree.specs.Values.{datum_view}
use Rattle.pgoutput_msgs.specs.Ranges.{IsTupleWithinRange, IsCellText}
use Rattle.pgoutput_msgs.specs.ValueText.{cells_of}
use Rattle.pgoutput_msgs.specs.declared.tuple.Cell.{Cell}
use Rattle.pgoutput_msgs.proofs.GatheringLemmas.{none_gathered, gathers_on, all_gathered}
use Rattle.pgoutput_msgs.proofs.RowLemmas.{valid_row_fits}
use Rattle.pgoutput_msgs.proofs.values.tuple_of.Goals as goal

pub loop-value-init : goal.loop-value-init
loop-value-init g c =
    none_gathered IsCellText (λ number left. cells_of (map datum_view left)) c.values-values.result.now
    c.in_ok-cells.cells.items c.in_ok-cells.ensures.items

pub loop-value-preserved : goal.loop-value-preserved
loop-value-preserved g c =
    gathers_on IsCellText (λ number left. cells_of (map datum_view left)) c.values-values.result.now
    c.loop-value.cells.items c.push.new.self.items c.loop-value.value-index
    c.value-item.result c.in_ok-value_text.field-0 c.value-item.is c.loop-value-test.true
    (ap (λ (x : Cell). x ∷ cells_of (map datum_view (drop (c.loop-value.value-index + 1) c.values-values.result.now)))
    (sym c.in_ok-value_text.ensures.exact))
    c.in_ok-push.ensures.items c.in_ok-value_text.ensures.text c.loop-value.invariant

pub returns-clause-exact : goal.returns-clause-exact
returns-clause-exact g c =
    c.from_cells.ensures
    ∙ all_gathered IsCellText (λ number left. cells_of (map datum_view left)) c.values-values.result.now
    c.loop-value.cells.items c.loop-value.value-index (omega arith) refl
    c.loop-value.invariant
    ∙ ap cells_of c.values-values.ensures

pub returns-clause-room : goal.returns-clause-room
returns-clause-room g c = λ columns valid few.
    subst IsTupleWithinRange (sym (returns-clause-exact g c)) (valid_row_fits columns _ valid few)

pub returns-clause-texts : goal.returns-clause-texts
returns-clause-texts g c = subst (All IsCellText) (sym c.from_cells.ensures) c.loop-value.invariant.each
