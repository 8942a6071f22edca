use Rattle.std.proofs.Common.{◌≡◌, ◌∙◌, ap, ap₂, codes}
use Rattle.std.proofs.lemmas.Result.{IfOk-weaker}
use Rattle.clap.specs.Words.{app_of, new_app, with_rule}
use Rattle.clap.specs.Simple.{app_of_fields}
use Rattle.command_tree.proofs.tree.simulate_command.Goals as goal

pub returns-clause-shape : goal.returns-clause-shape
returns-clause-shape c =
    let about_is : app_of c.about.result ≡ new_app (codes "simulate") = ap app_of_fields c.about.ensures
    ∙ c.new.ensures.app in
    IfOk-weaker c.arg.result _ _
    (λ command adds. adds.shape c.limit_argument-limit.ensures.local
    ∙ ap₂ with_rule about_is c.limit_argument-limit.ensures.rule) c.arg.ensures
