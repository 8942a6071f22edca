use Rattle.std.proofs.Common.{◌≡◌, ◌∷◌, ◌+◌, drop, refl, sym, ap, subst, ◌∙◌, arith, rules}
use Rattle.std.specs.Prelude.{All}
use Rattle.std.proofs.lemmas.Grind.{common_steps}
use Rattle.pgoutput_msgs.specs.Ranges.{HasTextName}
use Rattle.pgoutput_msgs.specs.Telling.{sent_column, columns_from}
use Rattle.pgoutput_msgs.specs.declared.relation.RelationColumn.{RelationColumn}
use Rattle.pgoutput_msgs.proofs.GatheringLemmas.{none_gathered, gathers_on, all_gathered}
use Rattle.pgoutput_msgs.proofs.tables.relation_of.Goals as goal

pub loop-place-init : goal.loop-place-init
loop-place-init c = none_gathered HasTextName (columns_from c.args.table.now) c.as_slice-columns.result.now
    c.in_ok-made.made.items c.in_ok-made.ensures.items

pub loop-place-preserved : goal.loop-place-preserved
loop-place-preserved c =
    let exact : c.in_ok-column_of.field-0
    ≡ sent_column c.args.table.now c.loop-place.place c.index-columns-place.result =
    first_of (search rules, grind (arith, common_steps)) in
    gathers_on HasTextName (columns_from c.args.table.now) c.as_slice-columns.result.now c.loop-place.made.items
    c.push.new.self.items c.loop-place.place
    c.index-columns-place.result c.in_ok-column_of.field-0 c.index-columns-place.is c.loop-place-test.true
    (ap (λ (x : RelationColumn). x
    ∷ columns_from c.args.table.now (c.loop-place.place + 1)
    (drop (c.loop-place.place + 1) c.as_slice-columns.result.now))
    (sym exact))
    c.in_ok-push.ensures.items c.in_ok-column_of.ensures.text c.loop-place.invariant

pub returns-clause-exact : goal.returns-clause-exact
returns-clause-exact c =
    let columns : c.from_vec.result ≡ columns_from c.args.table.now 0 c.args.table.now.columns =
    c.from_vec.ensures
    ∙ all_gathered HasTextName (columns_from c.args.table.now) c.as_slice-columns.result.now c.loop-place.made.items
    c.loop-place.place (omega arith) refl c.loop-place.invariant
    ∙ ap (columns_from c.args.table.now 0) c.as_slice-columns.ensures in
    first_of (cc, search rules, grind (arith, common_steps))

pub returns-clause-texts : goal.returns-clause-texts
returns-clause-texts c =
    let each : All HasTextName c.from_vec.result =
    subst (All HasTextName) (sym c.from_vec.ensures) c.loop-place.invariant.each in
    first_of (search rules, grind (arith, common_steps))
