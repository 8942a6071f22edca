use Rattle.std.proofs.Common.{◌≡◌, drop}
use Rattle.std.specs.List.{list_any}
use Rattle.filter_tree.proofs.distinct.has.Given as goal

-- the item is among those that are left exactly if it is among all
abbrev pub invariant-loop-held : goal.invariant-loop-held
invariant-loop-held g l =
    list_any (g.T.Distinct.same l.item) (drop l.held-index l.items) ≡ list_any (g.T.Distinct.same l.item) l.items
