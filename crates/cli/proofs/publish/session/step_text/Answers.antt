use Rattle.std.proofs.Common.{ap, map}
use Rattle.std.proofs.lemmas.Result.{IfOk-weaker}
use Rattle.std.specs.String.{string_bytes}
use Rattle.pub_reader.specs.StepView.{step_view}
use Rattle.table_changes.specs.Commands.{command_view}
use Rattle.cli.proofs.LineAnswers.{committed, view_left, viewed}
use Rattle.cli.proofs.publish.session.step_text.Goals as goal

pub returns-in-Commit : goal.returns-in-Commit
returns-in-Commit g c =
    IfOk-weaker c.answer_text.result _ _
    (λ text is. committed g.P.Publishing.checked g.P.Publishing.limit (step_view c.args.step)
    (map command_view c.in-Commit.commands.items) c.args.seat.now c.commit.new.seat c.commit.result (string_bytes text)
    (ap step_view c.in-Commit.is) c.commit.ensures is)
    c.answer_text.ensures

pub returns-in_default : goal.returns-in_default
returns-in_default g c =
    IfOk-weaker c.view_text.result _ _
    (λ text is. viewed g.P.Publishing.checked g.P.Publishing.limit (step_view c.args.step) c.args.seat.now
    c.view_text.new.seat (string_bytes text) (view_left c.args.step c.requires c.in_default.not-Commit)
    c.view_text.ensures.same c.view_text.ensures.begins is)
    c.view_text.ensures.text
