use Rattle.std.proofs.Common.{◌≡◌, ◌++◌, drop, map}
use Rattle.pgoutput_msgs.specs.Telling.{oid_of}
use Rattle.pgoutput_msgs.proofs.spoken.oids_of.Given as goal

-- the OIDs so far, and those of the remaining tables
abbrev pub invariant-loop-number : goal.invariant-loop-number
invariant-loop-number l = l.oids.items ++ map oid_of (drop l.number-index l.numbers) ≡ map oid_of l.numbers
