-- Shares that may take a row.
use Rattle.std.proofs.Common.{◌≡◌, ℕ, true, false, not, refl}
use Rattle.std.specs.Prelude.{◌==◌}
use Rattle.filter_tree.specs.Paths.{Path}
use Rattle.replica_identity.specs.Shares.{ShareOf}
use Rattle.shard_checker.specs.Owners.{may_take, is_second}
use Rattle.shard_checker.proofs.Testing.{clash, same_number}
use Rattle.filter_tree.proofs.Tests.{by_test}

-- a share that may take a row, and is not another share's, is the owner's
pub only_owner : (owner number : ℕ) (share : ShareOf) (path : Path) → is_second owner number share path ≡ false
    → may_take share path ≡ true → number ≡ owner
only_owner owner number share path h may = by_test (number == owner)
    (λ same. same_number number owner same)
    (λ differs. absurd (let no : not (number == owner) ≡ true = rw differs refl in
    let second : is_second owner number share path ≡ true = rw (no, may) refl in clash _ second h))
