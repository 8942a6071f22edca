use Rattle.std.proofs.Common.{◌≡◌, ◌<◌, map}
use Rattle.sql_reader.specs.declared.item.Item.TheVariants.{Comma}
use Rattle.sql_reader.specs.Items.{to_read, size}
use Rattle.sql_reader.specs.Repetitions.{link, repeat}
use Rattle.table_changes.specs.Commands.{command_view}
use Rattle.pub_reader.specs.ScriptCommands as spec
use Rattle.pub_reader.proofs.script_command.command_list.Given as goal

abbrev pub invariant-loop-commands : goal.invariant-loop-commands
invariant-loop-commands l = record {
  so_far : spec.command_list l.tables (to_read l.fn.r)
      ≡ repeat (link Comma (spec.one_command l.tables)) (map command_view l.commands.items) (to_read l.r);
  fewer : size (to_read l.r) < size (to_read l.fn.r);
}

abbrev pub decreases-loop-commands : goal.decreases-loop-commands
decreases-loop-commands l = size (to_read l.r)
