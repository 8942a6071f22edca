use Rattle.std.proofs.Common.{◌≡◌, drop}
use Rattle.shard_checker.specs.Claims.{claims_refusal}
use Rattle.shard_checker.specs.LeafMasks.{all_at}
use Rattle.shard_checker.specs.Refusal.{subject_view}
use Rattle.shard_checker.proofs.claims.check_each.Given as goal

-- the refusal of the claims that are left is that of all
abbrev pub invariant-loop-leaf : goal.invariant-loop-leaf
invariant-loop-leaf g l =
    claims_refusal (subject_view l.subject) l.subject.formulas.now.roots.items (λ leaf. all_at leaf l.masks) l.leaf
    (drop l.leaf l.claims)
    ≡ claims_refusal (subject_view l.subject) l.subject.formulas.now.roots.items (λ leaf. all_at leaf l.masks) 0
    l.claims
