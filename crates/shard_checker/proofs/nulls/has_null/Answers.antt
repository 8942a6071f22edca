-- shard_checker/proofs/nulls/has_null/Answers.antt
use Rattle.std.proofs.Common.{◌≡◌, length, sym, arith}
use Rattle.std.proofs.lemmas.List.{length-map}
use Rattle.filter_tree.specs.Paths.{path_view}
use Rattle.filter_tree.specs.Shape.{atom_view}
use Rattle.shard_checker.specs.Refusal.{subject_view}
use Rattle.shard_checker.proofs.NullLemmas.{null_nowhere}
use Rattle.shard_checker.proofs.nulls.has_null.Goals as goal

-- it is null at no place
pub returns : goal.returns
returns g c =
    let subject = subject_view c.args.subject.now in
    let walk = c.args.walk.now in
    let sized : length (path_view walk.path.items) ≡ length walk.path.items = length-map walk.path.items _ in
    sym (null_nowhere subject.atoms c.args.number (atom_view c.args.atom.now) c.requires.ready.prepared.differ
    c.requires.atom walk.known.undos.items (path_view walk.path.items)
    c.requires.ready.knows.undos (λ place within. c.loop-place.invariant place (omega arith)))
