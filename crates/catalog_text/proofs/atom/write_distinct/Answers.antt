use Rattle.std.proofs.Common.{◌∙◌, ◌++◌, ℕ, List, ap, codes}
use Rattle.std.specs.String.{string_bytes}
use Rattle.filter_tree.specs.Values.{constant_view}
use Rattle.catalog_text.specs.FilterText.{constant_text, not_text, term_text}
use Rattle.catalog_text.proofs.Joins.{joined_5}
use Rattle.catalog_text.proofs.atom.write_distinct.Goals as goal

pub returns : goal.returns
returns c =
    joined_5 (string_bytes c.args.text.now) (term_text c.args.columns.now c.args.term) (codes " IS")
    (not_text c.args.negated) (codes " DISTINCT FROM ") (constant_text (constant_view c.args.constant.now))
    c.in_ok-write_term.ensures c.in_ok-push_str.ensures.bytes
    (c.in_ok-push_str-2.ensures.bytes ∙ ap (λ (t : List ℕ). string_bytes c.push_str.new.self ++ t) c.not_text.ensures)
    c.in_ok-push_str-3.ensures.bytes c.in_ok-write_constant.ensures
