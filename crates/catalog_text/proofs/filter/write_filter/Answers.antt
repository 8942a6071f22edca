use Rattle.std.proofs.Common.{◌∙◌, ◌++◌, ℕ, Bool, List, ap, ap₂}
use Rattle.std.specs.String.{string_bytes}
use Rattle.filter_tree.specs.Shape.{expr_view}
use Rattle.catalog_text.proofs.Pieces.{only_waits}
use Rattle.catalog_text.specs.FilterText.{expr_text}
use Rattle.catalog_text.specs.declared.level.Level.{Level}
use Rattle.catalog_text.proofs.filter.write_filter.Goals as goal

pub returns : goal.returns
returns c =
    let columns = c.args.columns.now in
    let part_text = λ (wanted : Level) (negated : Bool). expr_text columns wanted negated (expr_view c.args.filter.now) in
    c.in_ok-write_waiting.ensures
    ∙ ap (λ (text : List ℕ). string_bytes c.args.text.now ++ text)
    (only_waits columns _ _ _ _ c.new-waiting.ensures.items c.in_ok-push.ensures.items
    (ap₂ part_text c.plain.ensures.wanted c.plain.ensures.negated))
