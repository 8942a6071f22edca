use Rattle.std.proofs.Common.{◌≡◌, ◌++◌, drop, map}
use Rattle.std.specs.Prelude.{flat_map}
use Rattle.filter_tree.specs.Values.{constant_view}
use Rattle.shard_checker.specs.Candidates.{candidates_view, named_by}
use Rattle.shard_checker.proofs.candidates.add_constants.Given as goal

-- with the constants that are left the candidates are those of all
abbrev pub invariant-loop-constant : goal.invariant-loop-constant
invariant-loop-constant g l =
    candidates_view l.candidates.items
    ++ flat_map (named_by l.kind l.term) (map constant_view (drop l.constant-index l.constants))
    ≡ candidates_view l.initial.candidates.items ++ flat_map (named_by l.kind l.term) (map constant_view l.constants)
