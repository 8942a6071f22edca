use Rattle.std.proofs.Common.{◌≡◌, true, get_or, sym, ◌∙◌, arith}
use Rattle.std.specs.Char.{is_ascii_digit}
use Rattle.std.proofs.lemmas.List.Sums.{prefix_len-drop_yes}
use Rattle.sql_reader.proofs.PlainRows.{number_of-take_more}
use Rattle.sql_reader.proofs.plain_row.leading_digits.Goals as goal

pub loop-length-preserved : goal.loop-length-preserved
loop-length-preserved c =
    let bytes = c.args.bytes.now in
    let length = c.loop-length.length in
    let digit : is_ascii_digit (get_or bytes length 0) ≡ true = sym c.is_ascii_digit.ensures.value
    ∙ c.if-is_ascii_digit.true in
    record {
      counted = omega (
        arith,
        c.loop-length.invariant.counted,
        prefix_len-drop_yes is_ascii_digit bytes length 0 c.loop-length-test.true digit,
      );
      within = omega arith;
      spelled = omega (
        arith,
        c.loop-length.invariant.spelled,
        number_of-take_more bytes length c.loop-length-test.true,
        c.from.ensures,
        c.saturating_sub.ensures,
      );
    }
