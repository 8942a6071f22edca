use Rattle.std.proofs.Common.{◌≡◌, None, sym, subst, ◌∙◌, rules, w64, FitsSigned}
use Rattle.std.specs.Prelude.{is_some, IfOk}
use Rattle.std.specs.Ordering.{int_cmp}
use Rattle.std.proofs.lemmas.Int.{to_z-of_z}
use Rattle.std.proofs.lemmas.Result.{on_ok_weaker}
use Rattle.filter_tree.specs.Order.{row_cmp}
use Rattle.tables_log.specs.Layers.{shown}
use Rattle.tables_log.specs.Staging.{seen}
use Rattle.tables_log.proofs.NumberLemmas.{found_number, found_row, puts_number, puts_row}
use Rattle.tables_log.proofs.staged.Staged.take.Goals as goal

pub returns-in-Some-clause-puts : goal.returns-in-Some-clause-puts
unfolding seen
returns-in-Some-clause-puts g c =
    let map = c.args.self.now in
    let numbers = c.take.new.self in
    let fits : FitsSigned w64 c.in-Some.number = search rules in
    on_ok_weaker c.take.result (λ puts. record {
      sees = puts_number (shown int_cmp map.numbers.base map.numbers.fresh map.numbers.emptied)
          (shown int_cmp numbers.base numbers.fresh numbers.emptied)
          (shown row_cmp map.rows.base map.rows.fresh map.rows.emptied) c.args.key c.in-Some.number None
          (sym c.only_number.ensures ∙ c.in-Some.is)
          (simp to_z-of_z at puts);
    }) c.take.ensures.puts

pub returns-in-None-clause-puts : goal.returns-in-None-clause-puts
unfolding seen
returns-in-None-clause-puts g c =
    let map = c.args.self.now in
    let rows = c.take-in-None.new.self in
    on_ok_weaker c.take-in-None.result (λ puts. record {
      sees = puts_row (shown int_cmp map.numbers.base map.numbers.fresh map.numbers.emptied)
          (shown row_cmp map.rows.base map.rows.fresh map.rows.emptied)
          (shown row_cmp rows.base rows.fresh rows.emptied) c.args.key None (sym c.only_number.ensures ∙ c.in-None.is)
          puts;
    }) c.take-in-None.ensures.puts

pub returns-in-Some-clause-was : goal.returns-in-Some-clause-was
unfolding seen
returns-in-Some-clause-was g c =
    let map = c.args.self.now in
    let fits : FitsSigned w64 c.in-Some.number = search rules in
    subst (λ found. IfOk c.take.result (λ was. was ≡ is_some found))
    (sym (found_number (shown int_cmp map.numbers.base map.numbers.fresh map.numbers.emptied)
    (shown row_cmp map.rows.base map.rows.fresh map.rows.emptied) c.args.key c.in-Some.number
    (sym c.only_number.ensures ∙ c.in-Some.is)))
    (simp to_z-of_z at c.take.ensures.was)

pub returns-in-None-clause-was : goal.returns-in-None-clause-was
unfolding seen
returns-in-None-clause-was g c =
    let map = c.args.self.now in
    subst (λ found. IfOk c.take-in-None.result (λ was. was ≡ is_some found))
    (sym (found_row (shown int_cmp map.numbers.base map.numbers.fresh map.numbers.emptied)
    (shown row_cmp map.rows.base map.rows.fresh map.rows.emptied) c.args.key
    (sym c.only_number.ensures ∙ c.in-None.is)))
    c.take-in-None.ensures.was
