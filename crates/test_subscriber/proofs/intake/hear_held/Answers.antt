use Rattle.std.proofs.Common.{rules}
use Rattle.copy_frames.specs.Frames.{cut}
use Rattle.test_subscriber.specs.Copies.{sub_fault}
use Rattle.test_subscriber.specs.Feeding.{StopsFor}
use Rattle.test_subscriber.specs.Frames.{hear_cut}
use Rattle.test_subscriber.specs.Machine.{stopped}
use Rattle.test_subscriber.specs.Views.{machine_view}
use Rattle.test_subscriber.proofs.IntakeLemmas.{at_next, hears_held, stops_after}
use Rattle.test_subscriber.proofs.intake.hear_held.Goals as goal

pub returns-in_err-hear_frame-clause-stops : goal.returns-in_err-hear_frame-clause-stops
returns-in_err-hear_frame-clause-stops c =
    let stops : StopsFor (sub_fault c.in_err-hear_frame.field-0.0)
    (hear_cut (cut c.args.inbox.now.limit c.args.inbox.now.bytes) (machine_view c.args.replica.now))
    (cut c.args.inbox.now.limit c.args.inbox.now.bytes) (machine_view c.args.replica.now)
    (stopped (machine_view c.hear_frame.new.self)) =
    stops_after c.args.inbox.now c.loop-frame.inbox c.in_ok-frame.field-0 c.in-Some.frame c.next.new.self
    (machine_view c.args.replica.now) (machine_view c.loop-frame.replica) (machine_view c.hear_frame.new.self)
    c.in_err-hear_frame.field-0.0
    c.loop-frame.invariant c.in-Some.is c.in_ok-frame.ensures.given c.in_err-hear_frame.ensures.fault
    c.in_err-hear_frame.ensures.stays in
    search rules

pub loop-frame-preserved-in_ok-hear_frame : goal.loop-frame-preserved-in_ok-hear_frame
loop-frame-preserved-in_ok-hear_frame c =
    at_next c.args.inbox.now c.loop-frame.inbox c.in_ok-frame.field-0 c.in-Some.frame c.next.new.self
    (machine_view c.args.replica.now) (machine_view c.loop-frame.replica) (machine_view c.hear_frame.new.self)
    c.loop-frame.invariant c.in-Some.is c.in_ok-frame.ensures.given c.in_ok-hear_frame.ensures.ok

pub loop-frame-preserved : goal.loop-frame-preserved
loop-frame-preserved c =
    at_next c.args.inbox.now c.loop-frame.inbox c.in_ok-frame.field-0 c.in-Some.frame c.next.new.self
    (machine_view c.args.replica.now) (machine_view c.loop-frame.replica) (machine_view c.hear_frame.new.self)
    c.loop-frame.invariant c.in-Some.is c.in_ok-frame.ensures.given c.in_ok-hear_frame.ensures.ok

pub returns-clause-ok : goal.returns-clause-ok
returns-clause-ok c =
    hears_held c.args.inbox.now c.loop-frame.inbox c.in_ok-frame.field-0 c.next.new.self
    (machine_view c.args.replica.now) (machine_view c.loop-frame.replica)
    c.loop-frame.invariant c.in_default.not-Some c.in_ok-frame.ensures.given
