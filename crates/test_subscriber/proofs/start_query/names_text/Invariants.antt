use Rattle.std.proofs.Common.{◌≡◌, ◌++◌, drop, map}
use Rattle.std.specs.Prelude.{codes}
use Rattle.std.specs.List.{flat_map}
use Rattle.std.specs.String.{string_bytes}
use Rattle.sql_tokens.specs.Doubled.{in_quotes}
use Rattle.test_subscriber.specs.StartQuery.{names_text}
use Rattle.test_subscriber.proofs.start_query.names_text.Given as goal

-- what is written, and the remaining names after a comma each, make the text of all
abbrev pub invariant-loop-name : goal.invariant-loop-name
invariant-loop-name l =
    l.text.items ++ flat_map (λ name. codes "," ++ in_quotes 34 name) (map string_bytes (drop l.name-index l.others))
    ≡ names_text (map string_bytes l.names)
