use Rattle.std.proofs.Common.{◌≡◌, ◌++◌, drop, map}
use Rattle.std.specs.Prelude.{codes}
use Rattle.std.specs.List.{flat_map, join_by}
use Rattle.std.specs.String.{string_bytes}
use Rattle.catalog_text.proofs.catalog.write_words.Given as goal

-- what is written, and the words that are left, each after a comma, make up the text of all
abbrev pub invariant-loop-word : goal.invariant-loop-word
invariant-loop-word l =
    string_bytes l.text ++ flat_map (λ word. codes ", " ++ word) (map (λ word. word.now) (drop l.word-index l.others))
    ≡ string_bytes l.fn.text ++ join_by (λ word. word) (codes ", ") (map (λ word. word.now) l.words)
