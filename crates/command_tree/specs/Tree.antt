-- The subcommands of `pgshard` and their arguments, as they are described to the crate `clap`. `show` and `make` take no
-- arguments, `eval` a table's name and the flag `--insert`, `check` the flag `--show`, and `simulate` `--limit` with a
-- number. `serve` takes `--port`, `--limit` and `--connections` with a number each, and `publish` `--port`, a file and
-- numbers for its other options, and a format.
use Rattle.std.specs.Prelude.{true, Some, codes}
use Rattle.clap.specs.Words.{App, Rule, new_app, new_rule, with_rule, with_subcommand}
use Rattle.clap.specs.Simple.{on_top}
use Rattle.clap.specs.declared.builder.action.ArgAction.TheVariants.{Set, SetTrue}

abbrev pub table_rule : Rule
table_rule = record (new_rule (codes "TABLE")) { required = true; action = Some Set }

abbrev pub insert_rule : Rule
insert_rule = record (new_rule (codes "insert")) { long = Some (codes "insert"); action = Some SetTrue }

abbrev pub eval_command : App
eval_command = with_rule (with_rule (new_app (codes "eval")) table_rule) insert_rule

abbrev pub show_command : App
show_command = new_app (codes "show")

abbrev pub show_rule : Rule
show_rule = record (new_rule (codes "show")) { long = Some (codes "show"); action = Some SetTrue }

abbrev pub check_command : App
check_command = with_rule (new_app (codes "check")) show_rule

abbrev pub make_command : App
make_command = new_app (codes "make")

abbrev pub limit_rule : Rule
limit_rule = record (new_rule (codes "limit")) { long = Some (codes "limit"); value_names = 1; action = Some Set }

abbrev pub simulate_command : App
simulate_command = with_rule (new_app (codes "simulate")) limit_rule

abbrev pub port_rule : Rule
port_rule = record (new_rule (codes "port"))
    { long = Some (codes "port"); value_names = 1; required = true; action = Some Set }

abbrev pub connections_rule : Rule
connections_rule = record (new_rule (codes "connections"))
    { long = Some (codes "connections"); value_names = 1; action = Some Set }

abbrev pub serve_command : App
serve_command = with_rule (with_rule (with_rule (new_app (codes "serve")) port_rule) limit_rule) connections_rule

abbrev pub port_file_rule : Rule
port_file_rule = record (new_rule (codes "port-file"))
    { long = Some (codes "port-file"); value_names = 1; action = Some Set }

abbrev pub commands_rule : Rule
commands_rule = record (new_rule (codes "commands"))
    { long = Some (codes "commands"); value_names = 1; action = Some Set }

abbrev pub start_timeout_rule : Rule
start_timeout_rule = record (new_rule (codes "start-timeout"))
    { long = Some (codes "start-timeout"); value_names = 1; action = Some Set }

abbrev pub write_timeout_rule : Rule
write_timeout_rule = record (new_rule (codes "write-timeout"))
    { long = Some (codes "write-timeout"); value_names = 1; action = Some Set }

abbrev pub keepalive_rule : Rule
keepalive_rule = record (new_rule (codes "keepalive"))
    { long = Some (codes "keepalive"); value_names = 1; action = Some Set }

abbrev pub timeout_rule : Rule
timeout_rule = record (new_rule (codes "timeout")) { long = Some (codes "timeout"); value_names = 1; action = Some Set }

abbrev pub log_rule : Rule
log_rule = record (new_rule (codes "log")) { long = Some (codes "log"); value_names = 1; action = Some Set }

abbrev pub publish_command : App
publish_command = with_rule (with_rule (with_rule (with_rule (with_rule (with_rule (with_rule (with_rule (with_rule
    (new_app (codes "publish")) port_rule) port_file_rule) commands_rule) limit_rule) start_timeout_rule)
    write_timeout_rule) keepalive_rule) timeout_rule) log_rule

-- the program without its subcommands
abbrev pub bare : App
bare = on_top (λ top. record top { has_version = true; propagate_version = true; subcommand_required = true })
    (new_app (codes "pgshard"))

abbrev pub pgshard : App
pgshard = with_subcommand (with_subcommand (with_subcommand (with_subcommand (with_subcommand (with_subcommand
    (with_subcommand bare
    eval_command.top) show_command.top) check_command.top) make_command.top) simulate_command.top) serve_command.top)
    publish_command.top
