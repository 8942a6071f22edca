use Rattle.std.proofs.Common.{◌≡◌, ◌+◌, ◌≤◌, true, length}
use Rattle.sql_tokens.specs.Comments.{longer}
use Rattle.sql_tokens.specs.Quotes.{inner_len}
use Rattle.sql_tokens.proofs.QuoteLoops.{inner_from}
use Rattle.sql_tokens.proofs.quotes.inner_len.Given as goal

abbrev pub invariant-loop-rest : goal.invariant-loop-rest
invariant-loop-rest l =
    (longer l.length (inner_from l.quote l.is_quote l.rest) ≡ inner_len l.quote l.bytes)
    × (l.length + length l.rest ≤ length l.bytes)
    × (l.is_quote ≡ true → l.length + 1 + length l.rest ≤ length l.bytes)

abbrev pub decreases-loop-rest : goal.decreases-loop-rest
decreases-loop-rest l = length l.rest
