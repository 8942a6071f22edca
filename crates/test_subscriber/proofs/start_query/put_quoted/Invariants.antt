use Rattle.std.proofs.Common.{◌≡◌, ◌++◌, drop}
use Rattle.sql_tokens.specs.Doubled.{doubled}
use Rattle.test_subscriber.proofs.start_query.put_quoted.Given as goal

-- what is written, and the remaining bytes with their quotes doubled, make all
abbrev pub invariant-loop-byte : goal.invariant-loop-byte
invariant-loop-byte l =
    l.text.items ++ doubled l.quote (drop l.byte-index l.inner) ≡ l.initial.text.items ++ doubled l.quote l.inner
