use Rattle.std.proofs.Common.{List, ℕ, sym, true≢false}
use Rattle.cli.specs.Incoming.{coming}
use Rattle.cli.specs.Lines.{ReadsPart}
use Rattle.cli.proofs.LineLemmas.{part_no_text}
use Rattle.cli.proofs.publish.parts.read_part.Goals as goal

-- the part is no text
pub returns-clause-err : goal.returns-clause-err
returns-clause-err g c =
    let part : List ℕ = c.in_ok-part.part.items in
    let read : ReadsPart (coming g.I.Read.remaining c.args.lines.now) (coming g.I.Read.remaining c.read_lines.new.lines)
    part = c.in_ok-part.ensures.ok in
    part_no_text g.I.Reader.may_fail (coming g.I.Read.remaining c.args.lines.now)
    (coming g.I.Read.remaining c.read_lines.new.lines) part read (λ text. true≢false (sym (c.in-Err.ensures.succeeds text)))
