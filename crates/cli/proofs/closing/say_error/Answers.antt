use Rattle.std.proofs.Common.{rules, ◌≡◌, ◌++◌, ℕ, List, subst, codes}
use Rattle.std.specs.Prelude.{Some}
use Rattle.std.specs.String.{string_bytes}
use Rattle.commands.specs.declared.failure.Status.TheVariants.{Refused}
use Rattle.cli.proofs.Telling.{closes}
use Rattle.cli.specs.Telling.{WritesLine, name_of}
use Rattle.cli.proofs.closing.say_error.Goals as goal

pub returns : goal.returns
returns g c service last =
    let old = g.W.Writer.contents c.args.writer.now in
    let new = g.W.Writer.contents c.say.new.writer in
    let name = c.in_ok-name.name.now in
    let named : name_of c.args.error ≡ Some name = search rules in
    let is : string_bytes c.in_ok-line.line ≡ codes "close " ++ name = search rules in
    closes service (codes "close " ++ name) Refused old new c.say.result (last name named)
    (subst (λ (text : List ℕ). WritesLine text Refused old new c.say.result) is c.say.ensures)
