use Rattle.std.proofs.Common.{◌≡◌, ◌∙◌, ap, ap₂, codes}
use Rattle.std.proofs.lemmas.Result.{IfOk-weaker}
use Rattle.clap.specs.Words.{app_of, new_app, with_rule}
use Rattle.clap.specs.Simple.{app_of_fields}
use Rattle.command_tree.specs.Tree.{limit_rule}
use Rattle.command_tree.specs.Tree.{port_rule}
use Rattle.command_tree.proofs.tree.serve_command.Goals as goal

pub returns-clause-shape : goal.returns-clause-shape
returns-clause-shape c =
    let about_is : app_of c.after_help.result ≡ new_app (codes "serve") = ap app_of_fields c.after_help.ensures
    ∙ ap app_of_fields c.about.ensures ∙ c.new.ensures.app in
    let first_is : app_of c.in_ok-arg.field-0 ≡ with_rule (new_app (codes "serve")) port_rule =
    c.in_ok-arg.ensures.shape c.port_argument-port.ensures.local
    ∙ ap₂ with_rule about_is c.port_argument-port.ensures.rule in
    let second_is : app_of c.in_ok-arg-2.field-0
    ≡ with_rule (with_rule (new_app (codes "serve")) port_rule) limit_rule =
    c.in_ok-arg-2.ensures.shape c.limit_argument-limit.ensures.local
    ∙ ap₂ with_rule first_is c.limit_argument-limit.ensures.rule in
    IfOk-weaker c.arg-3.result _ _
    (λ command adds. adds.shape c.connections_argument-connections.ensures.local
    ∙ ap₂ with_rule second_is c.connections_argument-connections.ensures.rule) c.arg-3.ensures
