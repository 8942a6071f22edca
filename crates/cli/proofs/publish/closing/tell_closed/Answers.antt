use Rattle.std.proofs.Common.{rules, ◌≡◌, ℕ, List, subst}
use Rattle.std.specs.String.{string_bytes}
use Rattle.commands.specs.declared.failure.Status.TheVariants.{Done}
use Rattle.cli.proofs.Published.{closes}
use Rattle.cli.specs.Telling.{WritesLine, closed_line}
use Rattle.cli.proofs.publish.closing.tell_closed.Goals as goal

pub returns : goal.returns
returns g c checked limit seat last =
    let old = g.W.Writer.contents c.args.writer.now in
    let new = g.W.Writer.contents c.say.new.writer in
    let line = closed_line c.args.commits c.args.connections in
    let is : string_bytes c.in_ok-line.line ≡ line = search rules in
    closes checked limit seat line Done old new c.say.result last
    (subst (λ (text : List ℕ). WritesLine text Done old new c.say.result) is c.say.ensures)
