use Rattle.std.proofs.Common.{true, false, Ok, ap, sym, ◌∙◌, if◌then◌else◌}
use Rattle.sql_reader.specs.Items.{to_read}
use Rattle.sql_reader.specs.Reading as spec
use Rattle.sql_reader.specs.Reading.{rest_of}
use Rattle.sql_reader.proofs.reader.Reader.eat.Goals as goal

-- another token is ahead, and stays
pub returns-else-is_ahead-clause-takes : goal.returns-else-is_ahead-clause-takes
unfolding spec.eat
returns-else-is_ahead-clause-takes c =
    let ts = to_read c.args.self.now in
    ap (λ ahead. if ahead then Ok (true, rest_of ts) else Ok (false, ts))
    (sym c.is-is_ahead.ensures ∙ c.if-is_ahead.false)
    ∙ ap (λ taken. Ok (taken, ts)) (sym c.if-is_ahead.false)
