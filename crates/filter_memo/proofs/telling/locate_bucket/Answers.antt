use Rattle.std.proofs.Common.{ℕ, List, subst}
use Rattle.std.proofs.lemmas.List.Elements.{All-set}
use Rattle.filter_memo.specs.Telling.{TellsThese, IsCell}
use Rattle.filter_memo.proofs.Judging.{new_cell, kept_now}
use Rattle.filter_memo.proofs.telling.locate_bucket.Goals as goal

pub returns-then-index-len : goal.returns-then-index-len
returns-then-index-len c = λ are.
    let values : TellsThese c.args.parts.now c.args.breakpoints.now.numbers.items c.args.row.now c.judge-said.result =
    subst (λ (numbers : List ℕ). TellsThese c.args.parts.now numbers c.args.row.now c.judge-said.result)
    c.deref-2.ensures.value c.judge-said.ensures in
    kept_now c.args.parts.now c.args.all_breakpoints.now c.args.cells.now are c.args.row.now c.args.number
    c.args.breakpoints.now c.requires.breakpoints c.judge-said.result _ values
    (All-set (IsCell c.args.parts.now c.args.all_breakpoints.now) c.args.cells.now.buckets.items _ _
    (new_cell c.args.parts.now c.args.all_breakpoints.now c.args.cells.now are c.args.row.now c.args.number
    c.args.breakpoints.now
    c.requires.breakpoints c.bucket_in-bucket.result c.bucket_in-bucket.ensures c.judge-said.result values) are.buckets)
    are.intervals
