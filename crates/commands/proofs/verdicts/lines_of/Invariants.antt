use Rattle.std.proofs.Common.{◌≡◌, ◌++◌}
use Rattle.shard_checker.specs.Texts.{texts_view}
use Rattle.commands.specs.Parts.{lines_left}
use Rattle.commands.specs.Parts as parts
use Rattle.commands.proofs.verdicts.lines_of.Given as goal

-- the lines so far, and those that are left, are all
abbrev pub invariant-loop-line : goal.invariant-loop-line
invariant-loop-line l = texts_view l.lines.items ++ lines_left l.line-iterator ≡ parts.lines_of l.text
