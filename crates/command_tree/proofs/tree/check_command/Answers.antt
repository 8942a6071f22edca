use Rattle.std.proofs.Common.{rules, ◌≡◌, ◌∙◌, ap, ap₂, codes}
use Rattle.std.proofs.lemmas.Result.{IfOk-weaker}
use Rattle.clap.specs.Words.{app_of, new_app, rule_of, with_rule}
use Rattle.clap.specs.Simple.{app_of_fields}
use Rattle.command_tree.specs.Tree.{show_rule}
use Rattle.command_tree.proofs.tree.check_command.Goals as goal

pub returns-clause-shape : goal.returns-clause-shape
returns-clause-shape c =
    let show_is : rule_of c.action-show.result ≡ show_rule = search rules in
    let about_is : app_of c.about.result ≡ new_app (codes "check") = ap app_of_fields c.about.ensures
    ∙ c.new-2.ensures.app in
    IfOk-weaker c.arg.result _ _ (λ command adds. adds.shape (search rules) ∙ ap₂ with_rule about_is show_is)
    c.arg.ensures
