use Rattle.std.proofs.Common.{arith}
use Rattle.std.proofs.lemmas.Grind.{common_steps}
use Rattle.sql_tokens.proofs.Ends.{word_token}
use Rattle.sql_tokens.proofs.front.word.Goals as goal

pub returns-else-length-gt-NAME_BYTES-clause-within : goal.returns-else-length-gt-NAME_BYTES-clause-within
returns-else-length-gt-NAME_BYTES-clause-within c =
    word_token c.args.bytes.now c.run_len-length.result c.requires (grind (arith, common_steps))
