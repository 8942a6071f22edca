use Rattle.std.proofs.Common.{◌≡◌, ◌++◌, drop, map}
use Rattle.std.specs.Arc.{arc_value}
use Rattle.std.specs.List.{take_while}
use Rattle.tables_log.specs.Routes.{commit_in, lacks}
use Rattle.tables_log.proofs.routed.passed_over.Given as goal

-- what was gathered, and then what is passed over of the rest
abbrev pub invariant-loop-entry : goal.invariant-loop-entry
invariant-loop-entry l =
    map (λ commit. arc_value commit) l.commits.items
    ++ map commit_in (take_while (lacks l.subscriber) (drop l.entry-index l.entries))
    ≡ map commit_in (take_while (lacks l.subscriber) l.entries)
