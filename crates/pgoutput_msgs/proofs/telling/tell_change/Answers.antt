use Rattle.std.proofs.Common.{◌≡◌, Some, None, refl, sym, ap, ◌∙◌, rules}
use Rattle.replica_identity.specs.ChangeView.{change_view}
use Rattle.replica_identity.specs.Plans.{PlanOf, plan_view}
use Rattle.replica_identity.specs.Transforms.{out_for}
use Rattle.shard_checker.specs.CheckedView.{CheckedOf, checked_view, setting_in}
use Rattle.table_changes.specs.Outs as o
use Rattle.table_changes.specs.Outs.{got}
use Rattle.table_changes.specs.Records as r
use Rattle.pgoutput_msgs.specs.Telling.{mark_by}
use Rattle.pgoutput_msgs.proofs.Everywhere.{is_sendable}
use Rattle.pgoutput_msgs.proofs.SinkLemmas.{said_of, nothing_taken}
use Rattle.pgoutput_msgs.proofs.TellingLemmas.{got_none, got_truncate, nothing_marked}
use Rattle.pgoutput_msgs.proofs.telling.tell_change.Goals as goal

pub say_truncate-requires-clause-sendable : goal.say_truncate-requires-clause-sendable
say_truncate-requires-clause-sendable g c =
    let checked : CheckedOf = checked_view c.args.checked.now in
    let change : r.ChangeOf = change_view c.args.change.now in
    let plan : PlanOf = plan_view c.plan-plan.result.now in
    let own : plan ≡ checked.plan = search rules in
    let out : Some (o.Truncate c.in-Some-Truncate.numbers.now) ≡ out_for plan c.args.subscriber change = search rules in
    is_sendable checked c.args.subscriber change (r.Truncate c.as_slice.result.now) c.requires
    (got_truncate checked c.args.subscriber change plan c.in-Some-Truncate.numbers.now c.as_slice.result.now own
    (c.as_slice.ensures.value ∙ c.in_ok-carried-in-Some-Truncate.ensures.exact) out)

pub returns-in-None-clause-said : goal.returns-in-None-clause-said
returns-in-None-clause-said g c =
    let checked : CheckedOf = checked_view c.args.checked.now in
    let change : r.ChangeOf = change_view c.args.change.now in
    let plan : PlanOf = plan_view c.plan-plan.result.now in
    let own : plan ≡ checked.plan = search rules in
    let out : None ≡ out_for plan c.args.subscriber change = search rules in
    said_of g.S.MessageSink.takes_one c.args.sink.now c.args.sink.now checked.catalog.tables checked.catalog.tables
    c.args.relation_sent.now None (got (setting_in checked) c.args.subscriber change)
    refl (got_none checked c.args.subscriber change plan own out)
    (nothing_taken g.S.MessageSink.takes_one c.args.sink.now checked.catalog.tables c.args.relation_sent.now)

pub returns-in-None-clause-relation_sent : goal.returns-in-None-clause-relation_sent
returns-in-None-clause-relation_sent g c =
    let checked : CheckedOf = checked_view c.args.checked.now in
    let change : r.ChangeOf = change_view c.args.change.now in
    let plan : PlanOf = plan_view c.plan-plan.result.now in
    let own : plan ≡ checked.plan = search rules in
    let out : None ≡ out_for plan c.args.subscriber change = search rules in
    nothing_marked c.args.relation_sent.now
    ∙ ap (mark_by c.args.relation_sent.now) (sym (got_none checked c.args.subscriber change plan own out))
