use Rattle.std.proofs.Common.{◌≡◌, drop}
use Rattle.shard_checker.specs.CatalogRefusal.{identity_refusal}
use Rattle.shard_checker.proofs.covering.check_identities.Given as goal

-- the refusal of those that are left is that of all
abbrev pub invariant-loop-number : goal.invariant-loop-number
invariant-loop-number l = identity_refusal l.number (drop l.number l.tables) ≡ identity_refusal 0 l.tables
