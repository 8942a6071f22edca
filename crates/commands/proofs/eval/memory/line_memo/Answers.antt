use Rattle.std.proofs.Common.{◌≡◌, List, Option, map, sym, ap, subst, ◌∙◌}
use Rattle.filter_memo.specs.Memos.{Follows, IsMemoOf}
use Rattle.filter_memo.specs.Plans.{filters_view}
use Rattle.filter_tree.specs.Expr.{Expr}
use Rattle.commands.specs.Eval.Carriers.{carrier_view}
use Rattle.commands.specs.Eval.Memos.{filters_of, kept_of}
use Rattle.commands.proofs.Answering.{texts_follow}
use Rattle.commands.proofs.eval.memory.line_memo.Goals as goal

pub returns : goal.returns
returns c =
    let carriers = map carrier_view c.args.carriers.now in
    let text_of = kept_of c.args.wanted carriers in
    let same : filters_view c.deref.result.now ≡ filters_of carriers =
    ap filters_view c.deref.ensures.value ∙ c.in_ok-filters.ensures in
    subst (λ (filters : List (Option Expr)). IsMemoOf filters text_of c.in_ok-memo.memo) same
    (c.in_ok-memo.ensures text_of
    (subst (λ (filters : List (Option Expr)). Follows filters text_of) (sym same) (texts_follow c.args.wanted carriers)))
