use Rattle.std.proofs.Common.{◌≡◌, drop, map}
use Rattle.pub_reader.specs.ScriptView.{line_view}
use Rattle.cli.specs.Scripts as spec
use Rattle.cli.proofs.script.first_other.Given as goal

-- the first of those that are left is the first of all
abbrev pub invariant-loop-line : goal.invariant-loop-line
invariant-loop-line l =
    spec.first_other (map line_view (drop l.line-index l.lines)) ≡ spec.first_other (map line_view l.lines)
