use Rattle.std.proofs.Common.{◌≡◌, ◌++◌, drop, map}
use Rattle.commands.specs.Eval.Carriers as spec
use Rattle.commands.proofs.eval.carriers.carriers_of.Given as goal

-- the carriers so far, and those among the publications that are left, are those of all
abbrev pub invariant-loop-publication : goal.invariant-loop-publication
invariant-loop-publication l =
    map spec.carrier_view l.carriers.items ++ spec.carriers_of l.table (drop l.publication-index l.publications)
    ≡ spec.carriers_of l.table l.publications
