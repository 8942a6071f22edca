use Rattle.std.proofs.Common.{◌≡◌, map, take}
use Rattle.std.specs.String.{string_bytes}
use Rattle.commands.specs.Eval.Answers.{line_of}
use Rattle.commands.specs.Eval.Carriers.{carrier_view}
use Rattle.commands.proofs.eval.answers.push_answers.Given as goal

abbrev pub invariant-loop-number : goal.invariant-loop-number
invariant-loop-number l = string_bytes l.line ≡ line_of l.row (map carrier_view (take l.number l.carriers))
