use Rattle.std.proofs.Common.{◌≡◌, take, map}
use Rattle.std.specs.Prelude.{Option}
use Rattle.std.specs.List.{list_any}
use Rattle.filter_tree.specs.Datum.{Constant}
use Rattle.filter_tree.specs.Values.{constant_view}
use Rattle.filter_tree.specs.declared.filter.Op.TheVariants.{Eq}
use Rattle.shard_checker.specs.Facts.{compares}
use Rattle.shard_checker.specs.Members.{has}
use Rattle.shard_checker.proofs.members.Members.of_list.Given as goal

-- the members are the constants so far
abbrev pub invariant-loop-constant : goal.invariant-loop-constant
invariant-loop-constant g l = (value : Option Constant) →
    has l.members value ≡ list_any (compares Eq value) (take l.constant-index (map constant_view l.constants))
