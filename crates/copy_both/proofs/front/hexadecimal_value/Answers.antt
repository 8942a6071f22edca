use Rattle.std.proofs.Common.{ap, ◌∙◌}
use Rattle.std.specs.Str.Parse.{digits_value}
use Rattle.copy_both.proofs.Numerals.{no_plus, is_numeral}
use Rattle.copy_both.proofs.front.hexadecimal_value.Goals as goal

pub returns-in-Ok : goal.returns-in-Ok
returns-in-Ok c = c.in-Ok.ensures.value.1
    ∙ ap (digits_value 16) (no_plus c.args.digits.now c.requires.some c.requires.digits)

pub returns-in-Err : goal.returns-in-Err
returns-in-Err c = absurd
    (c.in-Err.ensures.value (is_numeral c.args.digits.now c.requires.some c.requires.few c.requires.digits))
