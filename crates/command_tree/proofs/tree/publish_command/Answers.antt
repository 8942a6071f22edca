use Rattle.std.proofs.Common.{◌≡◌, ◌∙◌, Bool, false, ap, ap₂, codes}
use Rattle.std.specs.Prelude.{◌||◌}
use Rattle.std.proofs.lemmas.Result.{IfOk-weaker}
use Rattle.clap.specs.Words.{App, app_of, new_app, with_rule}
use Rattle.clap.specs.Simple.{app_of_fields}
use Rattle.clap.specs.Built.{AddsArg}
use Rattle.clap.specs.declared.builder.arg.Arg.{Arg}
use Rattle.clap.specs.declared.builder.command.Command.{Command}
use Rattle.clap.specs.declared.builder.command.Command.TheOpen.{Command-F}
use Rattle.clap.specs.declared.builder.command.Command.TheViews.{out-Command}
use Rattle.command_tree.specs.Tree.{commands_rule, keepalive_rule, limit_rule, port_file_rule, port_rule, start_timeout_rule, timeout_rule, write_timeout_rule}
use Rattle.command_tree.proofs.tree.publish_command.Goals as goal

pub returns-clause-shape : goal.returns-clause-shape
returns-clause-shape c =
    let about_is : app_of c.after_help.result ≡ new_app (codes "publish") = ap app_of_fields c.after_help.ensures
    ∙ ap app_of_fields c.about.ensures ∙ c.new.ensures.app in
    let first_is : app_of c.in_ok-with_port.with_port ≡ with_rule (new_app (codes "publish")) port_rule =
    c.in_ok-with_port.ensures.shape c.port_argument-port.ensures.local
    ∙ ap₂ with_rule about_is c.port_argument-port.ensures.rule in
    let second_is : app_of c.in_ok-with_port_file.with_port_file
    ≡ with_rule (with_rule (new_app (codes "publish")) port_rule) port_file_rule =
    c.in_ok-with_port_file.ensures.shape c.port_file_argument-port_file.ensures.local
    ∙ ap₂ with_rule first_is c.port_file_argument-port_file.ensures.rule in
    let two : App = with_rule (with_rule (new_app (codes "publish")) port_rule) port_file_rule in
    let third_is : app_of c.in_ok-with_commands.with_commands ≡ with_rule two commands_rule =
    c.in_ok-with_commands.ensures.shape c.commands_argument-commands.ensures.local
    ∙ ap₂ with_rule second_is c.commands_argument-commands.ensures.rule in
    let fourth_is : app_of c.in_ok-with_limit.with_limit ≡ with_rule (with_rule two commands_rule) limit_rule =
    c.in_ok-with_limit.ensures.shape c.limit_argument-limit.ensures.local
    ∙ ap₂ with_rule third_is c.limit_argument-limit.ensures.rule in
    let four : App = with_rule (with_rule two commands_rule) limit_rule in
    let fifth_is : app_of c.in_ok-with_start_timeout.with_start_timeout ≡ with_rule four start_timeout_rule =
    c.in_ok-with_start_timeout.ensures.shape c.start_timeout_argument-start_timeout.ensures.local
    ∙ ap₂ with_rule fourth_is c.start_timeout_argument-start_timeout.ensures.rule in
    let sixth_is : app_of c.in_ok-with_write_timeout.with_write_timeout ≡ with_rule (with_rule four start_timeout_rule) write_timeout_rule =
    c.in_ok-with_write_timeout.ensures.shape c.write_timeout_argument-write_timeout.ensures.local
    ∙ ap₂ with_rule fifth_is c.write_timeout_argument-write_timeout.ensures.rule in
    let six : App = with_rule (with_rule four start_timeout_rule) write_timeout_rule in
    let seventh_is : app_of c.in_ok-with_keepalive.with_keepalive ≡ with_rule six keepalive_rule =
    c.in_ok-with_keepalive.ensures.shape c.keepalive_argument-keepalive.ensures.local
    ∙ ap₂ with_rule sixth_is c.keepalive_argument-keepalive.ensures.rule in
    let eighth_is : app_of c.in_ok-with_timeout.with_timeout ≡ with_rule (with_rule six keepalive_rule) timeout_rule =
    c.in_ok-with_timeout.ensures.shape c.timeout_argument-timeout.ensures.local
    ∙ ap₂ with_rule seventh_is c.timeout_argument-timeout.ensures.rule in
    IfOk-weaker c.arg-9.result _ _
    (λ command adds. adds.shape c.log_argument-log.ensures.local
    ∙ ap₂ with_rule eighth_is c.log_argument-log.ensures.rule) c.arg-9.ensures

still_local : (old : Command) (a : Arg) (new : Command) → AddsArg old a new → (out-Command old).has_globals ≡ false
    → a.global ≡ false → (out-Command new).has_globals ≡ false
still_local old a new adds was is =
    adds.globals ∙ ap₂ (λ (x y : Bool). x || y) was is

pub returns-clause-local : goal.returns-clause-local
returns-clause-local c =
    let named : (out-Command c.after_help.result).has_globals ≡ false =
    ap (λ (fields : Command-F Command). fields.has_globals) c.after_help.ensures
    ∙ ap (λ (fields : Command-F Command). fields.has_globals) c.about.ensures ∙ c.new.ensures.local in
    let first = still_local _ _ _ c.in_ok-with_port.ensures named c.port_argument-port.ensures.local in
    let second = still_local _ _ _ c.in_ok-with_port_file.ensures first c.port_file_argument-port_file.ensures.local in
    let third = still_local _ _ _ c.in_ok-with_commands.ensures second c.commands_argument-commands.ensures.local in
    let fourth = still_local _ _ _ c.in_ok-with_limit.ensures third c.limit_argument-limit.ensures.local in
    let fifth = still_local _ _ _ c.in_ok-with_start_timeout.ensures fourth c.start_timeout_argument-start_timeout.ensures.local in
    let sixth = still_local _ _ _ c.in_ok-with_write_timeout.ensures fifth c.write_timeout_argument-write_timeout.ensures.local in
    let seventh = still_local _ _ _ c.in_ok-with_keepalive.ensures sixth c.keepalive_argument-keepalive.ensures.local in
    let eighth = still_local _ _ _ c.in_ok-with_timeout.ensures seventh c.timeout_argument-timeout.ensures.local in
    IfOk-weaker c.arg-9.result _ _
    (λ command adds. still_local _ _ command adds eighth c.log_argument-log.ensures.local)
    c.arg-9.ensures
