use Rattle.std.proofs.Common.{◌≡◌, ◌++◌, drop}
use Rattle.std.specs.Prelude.{flat_map}
use Rattle.filter_tree.specs.Shape.{atoms_view}
use Rattle.shard_checker.specs.Candidates.{candidates_view, candidates_of}
use Rattle.shard_checker.proofs.candidates.candidates_in.Given as goal

-- with the terms that are left the candidates are those of all
abbrev pub invariant-loop-term : goal.invariant-loop-term
invariant-loop-term g l =
    candidates_view l.candidates.items
    ++ flat_map (candidates_of l.columns (atoms_view l.atoms)) (drop l.term-index l.terms)
    ≡ flat_map (candidates_of l.columns (atoms_view l.atoms)) l.terms
