-- shard_checker/proofs/nulls/has_null/Invariants.antt
use Rattle.std.proofs.Common.{◌≡◌, ℕ, ◌<◌, false}
use Rattle.std.specs.Prelude.{slice_get}
use Rattle.filter_tree.specs.Paths.{path_view}
use Rattle.shard_checker.specs.KnownAtoms.{null_at}
use Rattle.shard_checker.proofs.nulls.has_null.Given as goal

-- the atom is null at no place so far
abbrev pub invariant-loop-place : goal.invariant-loop-place
invariant-loop-place g l = (place : ℕ) → place < l.place
    → null_at l.number (slice_get l.walk.known.undos.items place) (slice_get (path_view l.walk.path.items) place)
    ≡ false
