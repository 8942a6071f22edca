use Rattle.std.proofs.Common.{◌≡◌, drop}
use Rattle.std.specs.Prelude.{fold, nat_eq}
use Rattle.filter_tree.specs.Lists.{with_item, distinct}
use Rattle.tables_log.proofs.truncating.each_once.Given as goal

abbrev pub invariant-loop-number : goal.invariant-loop-number
invariant-loop-number l =
    fold (with_item nat_eq) l.once.items (drop l.number-index l.numbers) ≡ distinct nat_eq l.numbers
