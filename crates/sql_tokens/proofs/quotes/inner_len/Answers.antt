use Rattle.std.proofs.Common.{◌≡◌, Some, arith}
use Rattle.std.proofs.lemmas.Grind.{common_steps}
use Rattle.sql_tokens.specs.Quotes.{inner_len}
use Rattle.sql_tokens.proofs.QuoteLoops.{inner_from, inner_turns, inner_len-ends}
use Rattle.sql_tokens.proofs.quotes.inner_len.Goals as goal

pub returns-then-is_quote-2-clause-closes : goal.returns-then-is_quote-2-clause-closes
unfolding inner_from
returns-then-is_quote-2-clause-closes c =
    let found : inner_len c.args.quote c.args.bytes.now ≡ Some c.loop-rest.length =
    grind (arith, common_steps, inner_turns) in
    inner_len-ends c.args.quote c.args.bytes.now c.loop-rest.length found
