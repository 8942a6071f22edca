use Rattle.std.proofs.Common.{◌≡◌, ◌+◌, ◌++◌, ◌≤◌, length, map}
use Rattle.pub_reader.specs.ScriptView.{line_view}
use Rattle.cli.specs.Scripts as spec
use Rattle.cli.proofs.script.lists_of.Given as goal

abbrev pub invariant-loop-line : goal.invariant-loop-line
invariant-loop-line l =
    (map spec.list_view l.lists.items ++ spec.lists_of (map line_view l.line-iterator.rest.items)
    ≡ spec.lists_of (map line_view l.fn.lines.items))
    × (length l.lists.items + length l.line-iterator.rest.items ≤ length l.fn.lines.items)
