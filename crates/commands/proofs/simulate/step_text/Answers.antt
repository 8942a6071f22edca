use Rattle.std.specs.String.{string_bytes}
use Rattle.std.proofs.lemmas.Result.{IfOk-weaker}
use Rattle.pub_catalog.specs.CatalogView.{catalog_view}
use Rattle.pub_reader.specs.StepView.{step_view}
use Rattle.shard_world.specs.World.{event_view}
use Rattle.commands.proofs.StepLines.{event_made, pump_made, view_made}
use Rattle.commands.proofs.simulate.step_text.Goals as goal

pub returns-in-Event : goal.returns-in-Event
returns-in-Event c =
    IfOk-weaker c.answer_text.result _ _ (λ text is.
    event_made c.args.world.now c.step.new.self c.args.now (step_view c.args.step) (string_bytes text)
    (event_view c.in-Event.event) c.step.result c.in-Event.ensures c.step.ensures is)
    c.answer_text.ensures

pub returns-in-Pump : goal.returns-in-Pump
returns-in-Pump c =
    IfOk-weaker c.answer_text-in-Pump.result _ _ (λ text is.
    pump_made c.args.world.now c.pump.new.self c.args.now (step_view c.args.step) (string_bytes text)
    c.in-Pump.subscriber c.pump.result c.in-Pump.ensures c.pump.ensures is)
    c.answer_text-in-Pump.ensures

pub returns-in_ok-view-in-View : goal.returns-in_ok-view-in-View
returns-in_ok-view-in-View c =
    IfOk-weaker c.view_text.result _ _ (λ text is.
    view_made c.args.world.now c.args.now (step_view c.args.step) (catalog_view c.args.catalog.now)
    c.in_ok-view-in-View.field-0 (string_bytes text) c.in-View.ensures c.requires
    c.in_ok-view-in-View.ensures is)
    c.view_text.ensures
