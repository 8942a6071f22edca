use Rattle.commands.proofs.Writing.{IsToGo}
use Rattle.commands.proofs.writer.try_write.Given as goal

abbrev pub invariant-loop : goal.invariant-loop
invariant-loop g l = IsToGo l.text l.rest (g.W.Write.contents l.initial.writer) (g.W.Write.contents l.writer)
