use Rattle.std.proofs.Common.{◌≡◌, ◌∙◌, ap, true, codes}
use Rattle.std.specs.Prelude.{Some}
use Rattle.clap.specs.Walk.{Rule}
use Rattle.clap.specs.Words.{new_rule, rule_of}
use Rattle.clap.specs.declared.builder.action.ArgAction.TheVariants.{Set}
use Rattle.command_tree.proofs.tree.port_argument.Goals as goal

pub returns-clause-rule : goal.returns-clause-rule
returns-clause-rule c =
    let long_is : rule_of c.long.result ≡ record (new_rule (codes "port")) { long = Some (codes "port") } =
    ap rule_of c.long.ensures ∙ ap (λ (r : Rule). record r { long = Some (codes "port") }) c.new.ensures.rule in
    let named_is : rule_of c.value_name.result
    ≡ record (new_rule (codes "port")) { long = Some (codes "port"); value_names = 1 } =
    ap rule_of c.value_name.ensures ∙ ap (λ (r : Rule). record r { value_names = 1 }) long_is in
    let help_is : rule_of c.help.result
    ≡ record (new_rule (codes "port")) { long = Some (codes "port"); value_names = 1 } = ap rule_of c.help.ensures
    ∙ named_is in
    let required_is : rule_of c.required.result
    ≡ record (new_rule (codes "port")) { long = Some (codes "port"); value_names = 1; required = true } =
    ap rule_of c.required.ensures ∙ ap (λ (r : Rule). record r { required = true }) help_is in
    ap rule_of c.action.ensures ∙ ap (λ (r : Rule). record r { action = Some Set }) required_is
