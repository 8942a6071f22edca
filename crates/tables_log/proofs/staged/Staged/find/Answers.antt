use Rattle.std.proofs.Common.{sym, ◌∙◌, rules, w64, FitsSigned}
use Rattle.std.specs.Ordering.{int_cmp}
use Rattle.std.proofs.lemmas.Int.{to_z-of_z}
use Rattle.filter_tree.specs.Order.{row_cmp}
use Rattle.tables_log.specs.Layers.{shown}
use Rattle.tables_log.specs.Staging.{seen}
use Rattle.tables_log.proofs.NumberLemmas.{found_number}
use Rattle.tables_log.proofs.staged.Staged.find.Goals as goal

pub returns-in-Some : goal.returns-in-Some
unfolding seen
returns-in-Some g c =
    let map = c.args.self.now in
    let fits : FitsSigned w64 c.in-Some.number = search rules in
    simp to_z-of_z at c.find.ensures
    ∙ sym (found_number (shown int_cmp map.numbers.base map.numbers.fresh map.numbers.emptied)
    (shown row_cmp map.rows.base map.rows.fresh map.rows.emptied)
    c.args.key.now c.in-Some.number (sym c.only_number.ensures ∙ c.in-Some.is))
