use Rattle.std.proofs.Common.{◌≡◌, arith, drop, sym, ◌∙◌}
use Rattle.std.specs.Prelude.{pos}
use Rattle.std.proofs.lemmas.Int.{ints}
use mir.Syntax.{w64}
use mir.Val.{of_z, to_z}
use Rattle.sql_reader.specs.PlainRows.{AreDigits}
use Rattle.sql_reader.proofs.PlainRows.{number_is_plain}
use Rattle.sql_reader.proofs.plain_row.plain_number.Goals as goal

pub returns : goal.returns
returns c =
    let are : AreDigits (drop c.args.place c.args.text.now) c.in_ok-digits.digits =
    rw (← c.rest_from.ensures) c.in_ok-digits.ensures.digits in
    let value : to_z w64 (of_z w64 c.positive.result) ≡ pos c.in_ok-digits.digits.number =
    omega (arith, ints, c.positive.ensures, are.small) in
    number_is_plain c.args.text.now c.args.place c.in_ok-digits.digits (to_z w64 (of_z w64 c.positive.result)) value are
    (c.is_end.ensures.within c.if-not-is_end.false) (sym c.is_end.ensures.value ∙ c.if-not-is_end.false)
