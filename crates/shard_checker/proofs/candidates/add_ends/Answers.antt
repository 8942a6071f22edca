use Rattle.std.proofs.Common.{◌++◌, ap, sym, ◌∙◌, append_assoc}
use Rattle.std.specs.Prelude.{List}
use Rattle.std.proofs.lemmas.Int.{to_z-of_z}
use Rattle.std.proofs.lemmas.List.{append-nil}
use Rattle.filter_tree.specs.Datum.{Number}
use Rattle.shard_checker.specs.Candidates.{Candidate, candidates_view, named_by}
use Rattle.shard_checker.proofs.candidates.add_ends.Goals as goal

pub returns : goal.returns
returns c =
    let old = candidates_view c.args.candidates.now.items in
    let first = named_by c.args.kind c.args.term (Number c.args.low) in
    let second = named_by c.args.kind c.args.term (Number c.args.high) in
    let fits_low = c.ranges.low in
    let fits_high = c.ranges.high in
    let one = rw to_z-of_z at c.in_ok-add_named.ensures in
    let other = rw to_z-of_z at c.in_ok-add_named-2.ensures in
    other
    ∙ ap (λ (found : List Candidate). found ++ second) one
    ∙ append_assoc old first second
    ∙ ap (λ (found : List Candidate). old ++ (first ++ found)) (sym (append-nil second))
