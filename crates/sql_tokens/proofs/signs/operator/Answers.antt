use Rattle.std.proofs.Common.{arith}
use Rattle.std.proofs.lemmas.Grind.{common_steps}
use Rattle.sql_tokens.proofs.Ends.{signs_some, signs_token}
use Rattle.sql_tokens.proofs.signs.operator.Goals as goal

pub operator_len-length-requires : goal.operator_len-length-requires
operator_len-length-requires c =
    let some = signs_some c.args.bytes.now c.requires.sign c.requires.line c.requires.block in
    grind (arith, common_steps)

pub returns-in-Some-clause-within : goal.returns-in-Some-clause-within
returns-in-Some-clause-within c =
    signs_token c.args.bytes.now c.operator_len-length.result c.in-Some.operator c.operator_len-length.ensures.some
    (grind (arith, common_steps))
    (grind (arith, common_steps))
