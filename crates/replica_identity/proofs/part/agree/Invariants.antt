use Rattle.std.proofs.Common.{◌≡◌, drop}
use Rattle.replica_identity.specs.Parts.{agree_in}
use Rattle.replica_identity.proofs.part.agree.Given as goal

-- the rows agree in the columns that are left exactly if they do in all of them
abbrev pub invariant-loop-column : goal.invariant-loop-column
invariant-loop-column l = agree_in l.one l.other (drop l.column-index l.columns) ≡ agree_in l.one l.other l.columns
