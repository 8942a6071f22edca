use Rattle.std.proofs.Common.{◌≡◌, true, Ok, Err, ap, sym, subst, ◌∙◌, ◌<◌, if◌then◌else◌}
use Rattle.sql_reader.specs.Items.{to_read, size}
use Rattle.sql_reader.specs.Names as spec
use Rattle.sql_reader.specs.Names.{name_ahead, name_meant}
use Rattle.sql_reader.specs.Reading.{item_ahead, place_ahead, written_ahead, rest_of, unexpected}
use Rattle.sql_reader.proofs.Ahead.{rest_of_name_is_fewer}
use Rattle.sql_reader.proofs.name.read_name.Goals as goal

-- a name is ahead, and is consumed
pub returns : goal.returns
unfolding spec.name
returns c =
    let ts = to_read c.args.r.now in
    let meant = name_meant (item_ahead ts) (written_ahead ts) in
    let is_ahead : name_ahead ts ≡ true = sym c.is_name_ahead.ensures.value ∙ c.if-not-is_name_ahead.false in (
      ap (λ ahead. if ahead then
          Ok (record { place = place_ahead ts; text = meant }, rest_of ts) else Err (unexpected ts)) is_ahead
          ∙ ap (λ place. Ok (record { place = place; text = meant }, rest_of ts)) (sym c.place-place.ensures)
          ∙ ap (λ text. Ok (record { place = c.place-place.result; text = text }, rest_of ts))
          (sym c.in_ok-text.ensures)
          ∙ ap (λ rest. Ok (record { place = c.place-place.result; text = c.in_ok-text.text }, rest))
          (sym c.advance.ensures),
      subst (λ rest. size rest < size ts) (sym c.advance.ensures) (rest_of_name_is_fewer ts is_ahead),
    )
