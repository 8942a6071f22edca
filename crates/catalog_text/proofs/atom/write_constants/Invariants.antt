use Rattle.std.proofs.Common.{◌≡◌, ◌++◌, drop, map}
use Rattle.std.specs.Prelude.{codes}
use Rattle.std.specs.List.{flat_map, join_by}
use Rattle.std.specs.String.{string_bytes}
use Rattle.filter_tree.specs.Values.{constant_view}
use Rattle.catalog_text.specs.FilterText.{constant_text}
use Rattle.catalog_text.proofs.atom.write_constants.Given as goal

-- what is written, and the constants that are left, each after a comma, make up the text of all
abbrev pub invariant-loop-constant : goal.invariant-loop-constant
invariant-loop-constant l =
    string_bytes l.text ++ flat_map (λ constant. codes ", " ++ constant_text constant)
    (map constant_view (drop l.constant-index l.others))
    ≡ string_bytes l.fn.text ++ join_by constant_text (codes ", ") (map constant_view l.constants)
