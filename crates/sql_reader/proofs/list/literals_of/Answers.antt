use Rattle.std.proofs.Common.{◌≡◌, [], ◌∷◌, map, ap, ◌∙◌}
use Rattle.std.specs.Prelude.{fold}
use Rattle.filter_tree.specs.Values.{constant_view}
use Rattle.sql_reader.specs.Ascending.{inserted_in_order}
use Rattle.sql_reader.specs.Memberships.{all_beside}
use Rattle.sql_reader.specs.Operands.{operand_view, verdict_map}
use Rattle.sql_reader.proofs.Placing.{first_placed}
use Rattle.sql_reader.proofs.list.literals_of.Goals as goal

pub loop-operand-init : goal.loop-operand-init
loop-operand-init c =
    let first = constant_view c.args.first in
    let others = all_beside c.args.place c.args.kind (map operand_view c.args.others.items) in
    let none : map constant_view c.new-literals.result.items ≡ [] =
    ap (map constant_view) c.new-literals.ensures.items in
    let one : map constant_view c.put.new.literals.items ≡ first ∷ [] = c.in_ok-put.ensures
    ∙ ap (λ held. inserted_in_order held first) none in
    ap (λ held. verdict_map (fold inserted_in_order held) others) one ∙ first_placed first others
