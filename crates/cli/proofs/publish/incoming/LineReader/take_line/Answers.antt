use Rattle.std.proofs.Common.{rules, ◌≡◌, ◌∙◌, sym}
use Rattle.cli.proofs.LineLemmas.{takes}
use Rattle.cli.proofs.publish.incoming.LineReader.take_line.Goals as goal

pub returns-in_ok-extend_from_slice-in-Some-clause-moved : goal.returns-in_ok-extend_from_slice-in-Some-clause-moved
returns-in_ok-extend_from_slice-in-Some-clause-moved g c =
    let same : c.deref.result.now ≡ c.args.self.now.piece.items = search rules in
    takes c.args.self.now.piece.items c.deref.result.now c.args.line.now.items c.extend_from_slice.new.self.items
    c.args.self.now.start c.args.self.now.end c.in-Some.at same c.args.self.now.bounded
    (sym c.newline_in.ensures ∙ c.in-Some.is) c.in_ok-extend_from_slice-in-Some.ensures.items
