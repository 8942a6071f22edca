use Rattle.cli.proofs.LineLemmas.{reading_ends, reading_goes_on}
use Rattle.cli.specs.Incoming.{coming}
use Rattle.cli.specs.Lines.{ReadsLine}
use Rattle.commands.specs.Parts.{is_separator}
use Rattle.std.proofs.Common.{rules, ◌≡◌, ◌++◌, ◌∷◌, [], false, codes}
use Rattle.cli.proofs.publish.parts.read_lines.Goals as goal

pub returns-then-is_separator-clause-ok : goal.returns-then-is_separator-clause-ok
returns-then-is_separator-clause-ok g c =
    let read : ReadsLine (coming g.I.Read.remaining c.loop.lines) (coming g.I.Read.remaining c.next_line.new.self)
    c.next_line.new.line.items = search rules in
    let is : c.next_line.new.line.items ≡ codes "%%" = search rules in
    reading_ends (coming g.I.Read.remaining c.args.lines.now) (coming g.I.Read.remaining c.loop.lines)
    (coming g.I.Read.remaining c.next_line.new.self) c.loop.part.items c.next_line.new.line.items c.loop.invariant read is

pub loop-preserved : goal.loop-preserved
loop-preserved g c =
    let read : ReadsLine (coming g.I.Read.remaining c.loop.lines) (coming g.I.Read.remaining c.next_line.new.self)
    c.next_line.new.line.items = search rules in
    let other : is_separator c.next_line.new.line.items ≡ false = search rules in
    let more : c.extend_from_slice.new.self.items ≡ c.loop.part.items ++ (c.next_line.new.line.items ++ 10 ∷ []) =
    search rules in
    reading_goes_on (coming g.I.Read.remaining c.args.lines.now) (coming g.I.Read.remaining c.loop.lines)
    (coming g.I.Read.remaining c.next_line.new.self) c.loop.part.items c.next_line.new.line.items
    c.extend_from_slice.new.self.items c.loop.invariant read other more
