use Rattle.std.proofs.Common.{rules, ◌≡◌, ◌≤ℤ◌, ℕ, List, Some, sym, subst}
use Rattle.std.specs.Prelude.{slice_get}
use Rattle.std.proofs.lemmas.List.Elements.{All-set}
use Rattle.filter_tree.specs.Expr.{term_value}
use Rattle.filter_memo.specs.Intervals.{IsBetween}
use Rattle.filter_memo.specs.Telling.{TellsThese, IsInterval}
use Rattle.filter_memo.specs.declared.interval.Interval.{Interval}
use Rattle.filter_memo.specs.declared.said.Said.{Said}
use Rattle.filter_memo.proofs.Judging.{interval_before, new_interval, kept_now}
use Rattle.filter_memo.proofs.telling.locate_number.Goals as goal

pub returns-in-Some : goal.returns-in-Some
returns-in-Some c = λ are.
    let found : slice_get c.args.cells.now.intervals.items c.cell_of-index.result ≡ Some c.in-Some.found =
    subst (λ (intervals : List Interval). slice_get intervals c.cell_of-index.result ≡ Some c.in-Some.found)
    c.deref.ensures.value c.in-Some.ensures.found in
    let from : c.in-Some.found.low ≤ℤ c.args.value = search rules in
    let upto : c.args.value ≤ℤ c.in-Some.found.high = search rules in
    interval_before c.args.parts.now c.args.all_breakpoints.now c.args.cells.now are c.args.row.now c.args.number
    c.args.breakpoints.now c.requires.breakpoints c.cell_of-index.result c.in-Some.found found c.in-Some.ensures.term
    (record {
      number = c.args.value;
      is = c.requires.value;
      from = from;
      upto = upto;
    })

pub returns-then-index-len : goal.returns-then-index-len
returns-then-index-len c = λ are.
    let values : TellsThese c.args.parts.now c.args.breakpoints.now.numbers.items c.args.row.now c.judge-said.result =
    subst (λ (numbers : List ℕ). TellsThese c.args.parts.now numbers c.args.row.now c.judge-said.result)
    c.deref-2.ensures.value c.judge-said.ensures in
    let from : c.in-Some-interval_of.interval.low ≤ℤ c.args.value = search rules in
    let upto : c.args.value ≤ℤ c.in-Some-interval_of.interval.high = search rules in
    let within : IsBetween (term_value c.args.breakpoints.now.term c.args.row.now) c.in-Some-interval_of.interval.low
    c.in-Some-interval_of.interval.high = record {
      number = c.args.value;
      is = c.requires.value;
      from = from;
      upto = upto;
    } in
    kept_now c.args.parts.now c.args.all_breakpoints.now c.args.cells.now are c.args.row.now c.args.number
    c.args.breakpoints.now c.requires.breakpoints c.judge-said.result _ values are.buckets
    (All-set (IsInterval c.args.parts.now c.args.all_breakpoints.now) c.args.cells.now.intervals.items _ _
    (new_interval c.args.parts.now c.args.all_breakpoints.now c.args.cells.now are c.args.row.now c.args.number
    c.args.breakpoints.now c.requires.breakpoints c.in-Some-interval_of.interval c.in-Some-interval_of.ensures.term
    c.in-Some-interval_of.ensures.alike within
    (subst (λ (said : Said). TellsThese c.args.parts.now c.args.breakpoints.now.numbers.items c.args.row.now said)
    (sym c.in-Some-interval_of.ensures.said) values)) are.intervals)
