use Rattle.std.proofs.Common.{Ok, Err, ap, sym, subst, ◌∙◌, ◌<◌, if◌then◌else◌}
use Rattle.sql_reader.specs.Items.{to_read, size}
use Rattle.sql_reader.specs.Reading as spec
use Rattle.sql_reader.specs.Reading.{place_ahead, rest_of, unexpected}
use Rattle.sql_reader.proofs.Ahead.{rest_is_fewer}
use Rattle.sql_reader.proofs.reader.Reader.expect.Goals as goal

-- the token is ahead, and is consumed
pub returns-clause-takes : goal.returns-clause-takes
unfolding spec.expect
returns-clause-takes c =
    let ts = to_read c.args.self.now in
    let is_ahead = sym c.is.ensures ∙ c.if-not-is.false in (
      ap (λ ahead. if ahead then Ok (place_ahead ts, rest_of ts) else Err (unexpected ts)) is_ahead
          ∙ ap (λ place. Ok (place, rest_of ts)) (sym c.place-place.ensures)
          ∙ ap (λ rest. Ok (c.place-place.result, rest)) (sym c.advance.ensures),
      subst (λ rest. size rest < size ts) (sym c.advance.ensures) (rest_is_fewer c.args.item ts is_ahead),
    )
