use Rattle.std.proofs.Common.{◌≡◌, ◌∷◌, map}
use Rattle.std.specs.Prelude.{fold, length}
use Rattle.filter_tree.specs.Values.{constant_view}
use Rattle.sql_reader.specs.Ascending.{ascending, inserted_in_order}
use Rattle.sql_reader.specs.Memberships.{all_beside}
use Rattle.sql_reader.specs.Operands.{operand_view, verdict_map}
use Rattle.sql_reader.proofs.list.literals_of.Given as goal

-- the literals so far, among which those that are left are placed
abbrev pub invariant-loop-operand : goal.invariant-loop-operand
invariant-loop-operand l =
    verdict_map (fold inserted_in_order (map constant_view l.literals.items))
    (all_beside l.place l.kind (map operand_view l.others.items))
    ≡ verdict_map (λ constants. ascending (constant_view l.fn.first ∷ constants))
    (all_beside l.place l.kind (map operand_view l.fn.others.items))

abbrev pub decreases-loop-operand : goal.decreases-loop-operand
decreases-loop-operand l = length l.others.items
