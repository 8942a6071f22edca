use Rattle.std.proofs.Common.{sym, ◌∙◌, rules, w64, FitsSigned}
use Rattle.std.specs.Ordering.{int_cmp}
use Rattle.std.proofs.lemmas.Int.{to_z-of_z}
use Rattle.filter_tree.specs.Order.{row_cmp}
use Rattle.tables_log.specs.Layers.{kept_under}
use Rattle.tables_log.specs.Staging.{kept}
use Rattle.tables_log.proofs.NumberLemmas.{found_number}
use Rattle.tables_log.proofs.staged.Staged.get.Goals as goal

pub returns-in-Some : goal.returns-in-Some
unfolding kept
returns-in-Some g c =
    let map = c.args.self.now in
    let fits : FitsSigned w64 c.in-Some.number = search rules in
    simp to_z-of_z at c.get.ensures
    ∙ sym (found_number (kept_under int_cmp map.numbers.base map.numbers.made.items map.numbers.undo.items)
    (kept_under row_cmp map.rows.base map.rows.made.items map.rows.undo.items) c.args.key.now c.in-Some.number
    (sym c.only_number.ensures ∙ c.in-Some.is))
