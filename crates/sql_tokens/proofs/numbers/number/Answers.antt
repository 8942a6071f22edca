use Rattle.std.proofs.Common.{arith}
use Rattle.std.proofs.lemmas.Bool.Decides.{nat_tests}
use Rattle.sql_tokens.proofs.Ends.{digits_token}
use Rattle.sql_tokens.proofs.numbers.number.Goals as goal

pub returns-in-Some-clause-within : goal.returns-in-Some-clause-within
returns-in-Some-clause-within c =
    digits_token c.args.bytes.now c.run_len-length.result c.in-Some.value c.requires c.run_len-length.ensures.value
    (grind (arith, nat_tests, c.in-Some.ensures.value))
