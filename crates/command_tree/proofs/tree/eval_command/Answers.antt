use Rattle.std.proofs.Common.{rules, ◌≡◌, ◌∙◌, ap, ap₂, codes}
use Rattle.std.proofs.lemmas.Result.{IfOk-weaker}
use Rattle.clap.specs.Words.{app_of, new_app, rule_of, with_rule}
use Rattle.clap.specs.Simple.{app_of_fields}
use Rattle.command_tree.specs.Tree.{table_rule, insert_rule}
use Rattle.command_tree.proofs.tree.eval_command.Goals as goal

pub returns-clause-shape : goal.returns-clause-shape
returns-clause-shape c =
    let table_is : rule_of c.action-table.result ≡ table_rule = search rules in
    let insert_is : rule_of c.action-insert.result ≡ insert_rule = search rules in
    let about_is : app_of c.about.result ≡ new_app (codes "eval") = ap app_of_fields c.about.ensures
    ∙ c.new-3.ensures.app in
    let first_is : app_of c.in_ok-arg.field-0 ≡ with_rule (new_app (codes "eval")) table_rule =
    c.in_ok-arg.ensures.shape (search rules) ∙ ap₂ with_rule about_is table_is in
    IfOk-weaker c.arg-2.result _ _ (λ command adds. adds.shape (search rules) ∙ ap₂ with_rule first_is insert_is)
    c.arg-2.ensures
