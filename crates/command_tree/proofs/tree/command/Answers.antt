use Rattle.std.proofs.Common.{◌≡◌, ◌∙◌, ap, ap₂, true, false, codes}
use Rattle.std.proofs.lemmas.Result.{IfOk-weaker}
use Rattle.clap.specs.Words.{App, app_of, new_app, with_subcommand}
use Rattle.clap.specs.Simple.{app_of_fields, on_top}
use Rattle.clap.specs.declared.builder.command.Command.{Command}
use Rattle.clap.specs.declared.builder.command.Command.TheOpen.{Command-F}
use Rattle.clap.specs.declared.builder.command.Command.TheViews.{out-Command}
use Rattle.command_tree.specs.Tree.{eval_command, show_command, check_command, make_command, simulate_command, serve_command, bare}
use Rattle.command_tree.proofs.tree.command.Goals as goal

pub returns : goal.returns
returns c =
    let show_is : app_of c.about-show.result ≡ show_command =
    ap app_of_fields c.about-show.ensures ∙ c.new.ensures.app in
    let make_is : app_of c.about-make.result ≡ make_command =
    ap app_of_fields c.about-make.ensures ∙ c.new-2.ensures.app in
    let show_local : (out-Command c.about-show.result).has_globals ≡ false =
    ap (λ (fields : Command-F Command). fields.has_globals) c.about-show.ensures ∙ c.new.ensures.local in
    let make_local : (out-Command c.about-make.result).has_globals ≡ false =
    ap (λ (fields : Command-F Command). fields.has_globals) c.about-make.ensures ∙ c.new-2.ensures.local in
    let above_is : app_of c.about.result ≡ new_app (codes "pgshard") = ap app_of_fields c.about.ensures
    ∙ c.new-3.ensures.app in
    let version_is : app_of c.version.result
    ≡ on_top (λ top. record top { has_version = true }) (new_app (codes "pgshard")) =
    ap app_of_fields c.version.ensures ∙ ap (on_top (λ top. record top { has_version = true })) above_is in
    let propagated_is : app_of c.propagate_version.result
    ≡ on_top (λ top. record top { has_version = true; propagate_version = true }) (new_app (codes "pgshard")) =
    ap app_of_fields c.propagate_version.ensures
    ∙ ap (on_top (λ top. record top { propagate_version = true })) version_is in
    let help_is : app_of c.after_help.result
    ≡ on_top (λ top. record top { has_version = true; propagate_version = true }) (new_app (codes "pgshard")) =
    ap app_of_fields c.after_help.ensures ∙ propagated_is in
    let required_is : app_of c.subcommand_required.result ≡ bare =
    ap app_of_fields c.subcommand_required.ensures
    ∙ ap (on_top (λ top. record top { subcommand_required = true })) help_is in
    let first_is : app_of c.in_ok-subcommand.field-0 ≡ with_subcommand bare eval_command.top =
    c.in_ok-subcommand.ensures.shape c.in_ok-eval.ensures.local
    ∙ ap₂ with_subcommand required_is (ap (λ (a : App). a.top) c.in_ok-eval.ensures.shape) in
    let with_show = with_subcommand (with_subcommand bare eval_command.top) show_command.top in
    let second_is : app_of c.in_ok-subcommand-2.field-0 ≡ with_show =
    c.in_ok-subcommand-2.ensures.shape show_local
    ∙ ap₂ with_subcommand first_is (ap (λ (a : App). a.top) show_is) in
    let third_is : app_of c.in_ok-subcommand-3.field-0 ≡ with_subcommand with_show check_command.top =
    c.in_ok-subcommand-3.ensures.shape c.in_ok-check.ensures.local
    ∙ ap₂ with_subcommand second_is (ap (λ (a : App). a.top) c.in_ok-check.ensures.shape) in
    let fourth_is : app_of c.in_ok-subcommand-4.field-0
    ≡ with_subcommand (with_subcommand with_show check_command.top) make_command.top =
    c.in_ok-subcommand-4.ensures.shape make_local
    ∙ ap₂ with_subcommand third_is (ap (λ (a : App). a.top) make_is) in
    let fifth_is : app_of c.in_ok-subcommand-5.field-0
    ≡ with_subcommand
    (with_subcommand (with_subcommand with_show check_command.top) make_command.top) simulate_command.top =
    c.in_ok-subcommand-5.ensures.shape c.in_ok-simulate.ensures.local
    ∙ ap₂ with_subcommand fourth_is (ap (λ (a : App). a.top) c.in_ok-simulate.ensures.shape) in
    let sixth_is : app_of c.in_ok-subcommand-6.field-0
    ≡ with_subcommand (with_subcommand
    (with_subcommand (with_subcommand with_show check_command.top) make_command.top) simulate_command.top)
    serve_command.top =
    c.in_ok-subcommand-6.ensures.shape c.in_ok-serve.ensures.local
    ∙ ap₂ with_subcommand fifth_is (ap (λ (a : App). a.top) c.in_ok-serve.ensures.shape) in
    IfOk-weaker c.subcommand-7.result _ _
    (λ command adds. adds.shape c.in_ok-publish.ensures.local
    ∙ ap₂ with_subcommand sixth_is (ap (λ (a : App). a.top) c.in_ok-publish.ensures.shape))
    c.subcommand-7.ensures
