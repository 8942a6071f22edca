use Rattle.std.proofs.Common.{◌≡◌, ◌+◌, ◌≤◌, length}
use Rattle.sql_tokens.specs.Quotes.{undoubled}
use Rattle.sql_tokens.proofs.QuoteLoops.{undoubled_from}
use Rattle.sql_tokens.proofs.quotes.undoubled_len.Given as goal

abbrev pub invariant-loop-rest : goal.invariant-loop-rest
invariant-loop-rest l =
    (l.length + undoubled_from l.quote l.is_quote l.rest ≡ length (undoubled l.quote l.inner))
    × (l.length + length l.rest ≤ length l.inner)

abbrev pub decreases-loop-rest : goal.decreases-loop-rest
decreases-loop-rest l = length l.rest
