use Rattle.std.proofs.Common.{◌≡◌, drop}
use Rattle.filter_tree.specs.Valid.{columns_fault}
use Rattle.filter_tree.proofs.validity.first_fault.Given as goal

-- the first fault of the columns that are left is that of all
abbrev pub invariant-loop-number : goal.invariant-loop-number
invariant-loop-number g l = columns_fault l.number (drop l.number l.columns) l.row ≡ columns_fault 0 l.columns l.row
