use Rattle.std.proofs.Common.{◌∙◌, ℕ, List, [], ◌∷◌, ◌++◌, Option, append_assoc, append-nil, codes, ap, sym}
use Rattle.std.proofs.lemmas.Result.{IfOk-weaker}
use Rattle.commands.proofs.Writing.{text_of-one}
use Rattle.commands.specs.Names.{counted}
use Rattle.commands.specs.Output.{ended, text_of}
use Rattle.cli.specs.Telling.{first_lines, listening_line}
use Rattle.cli.proofs.publish.door.ports_text.Goals as goal

pub returns-in-Some : goal.returns-in-Some
returns-in-Some c =
    let line = listening_line c.args.port in
    let more = ended (counted (codes "commands") c.in-Some.callers) in
    IfOk-weaker c.format.result _ _
    (λ text is. is ∙ sym (ap (λ (t : List ℕ). ended line ++ t) (append-nil more) ∙ append_assoc line (10 ∷ []) more)
    ∙ sym (ap (λ (callers : Option ℕ). text_of (first_lines c.args.port callers)) c.in-Some.is))
    c.format.ensures.ok

pub returns-in-None : goal.returns-in-None
returns-in-None c =
    IfOk-weaker c.format-in-None.result _ _
    (λ text is. is ∙ sym (text_of-one (listening_line c.args.port))
    ∙ sym (ap (λ (callers : Option ℕ). text_of (first_lines c.args.port callers)) c.in-None.is))
    c.format-in-None.ensures.ok
