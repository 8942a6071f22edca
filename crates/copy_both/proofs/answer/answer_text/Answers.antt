use Rattle.std.proofs.Common.{sym, ◌∙◌}
use Rattle.copy_both.proofs.ShortNames.{command_is_short}
use Rattle.copy_both.proofs.answer.answer_text.Goals as goal

pub answer_command-requires : goal.answer_command-requires
answer_command-requires c =
    command_is_short c.args.text.now c.in-Some.command (sym c.in-Some.is ∙ c.in_ok-command.ensures)
