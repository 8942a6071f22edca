use Rattle.std.proofs.Common.{◌≡◌, map}
use Rattle.std.specs.Prelude.{replicate}
use Rattle.replica_identity.specs.Shares.{share_view, Nothing}
use Rattle.replica_identity.proofs.planning.no_shares.Given as goal

abbrev pub invariant-loop : goal.invariant-loop
invariant-loop l = map share_view l.shares.items ≡ replicate l.counter Nothing
