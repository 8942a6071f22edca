use Rattle.std.proofs.Common.{◌≡◌, ◌++◌, drop}
use Rattle.shard_checker.specs.Owners.{shares_view}
use Rattle.cert_search.specs.Owners.{owners_from}
use Rattle.cert_search.proofs.owners.owners_of.Given as goal

-- the owners so far, and those of the shares that are left
abbrev pub invariant-loop-number : goal.invariant-loop-number
invariant-loop-number l =
    l.owners.items ++ owners_from l.number (shares_view (drop l.number l.shares)) l.row
    ≡ owners_from 0 (shares_view l.shares) l.row
