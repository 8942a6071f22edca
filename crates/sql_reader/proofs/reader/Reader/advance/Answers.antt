use Rattle.std.proofs.Common.{ap, sym, ◌∙◌}
use Rattle.sql_tokens.specs.Left.{left}
use Rattle.sql_reader.specs.Items as spec
use Rattle.sql_reader.specs.Items.{items, ahead_of}
use Rattle.sql_reader.specs.Reading.{rest_of}
use Rattle.sql_reader.proofs.reader.Reader.advance.Goals as goal

-- the tokens after the one ahead
pub returns-in-Item : goal.returns-in-Item
unfolding spec.to_read
returns-in-Item c =
    let r = c.args.self.now in
    c.look_at.ensures
    ∙ ap (λ ahead. rest_of (ahead_of ahead r.place r.written.now (items (left r.tokens)))) (sym c.in-Item.is)
