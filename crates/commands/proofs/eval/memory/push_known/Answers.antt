use Rattle.std.proofs.Common.{rules, ◌≡◌, map, ◌∙◌}
use Rattle.std.specs.String.{string_bytes}
use Rattle.commands.specs.Eval.Carriers.{carrier_view}
use Rattle.commands.specs.Eval.Memos.{filters_of, kept_of}
use Rattle.commands.proofs.Answering.{knows}
use Rattle.commands.proofs.eval.memory.push_known.Goals as goal

pub returns-in-Some-clause-line : goal.returns-in-Some-clause-line
returns-in-Some-clause-line c =
    let carriers = map carrier_view c.args.carriers.now in
    let text_of = kept_of c.args.wanted carriers in
    let is = c.locate-said.ensures.memo (filters_of carriers) text_of c.requires.memo in
    let located = c.locate-said.ensures.located (filters_of carriers) text_of c.requires.memo in
    let pushed : string_bytes c.push_str.new.self ≡ c.in-Some.text.now = search rules in
    pushed ∙ c.in-Some.ensures (filters_of carriers) text_of c.args.row.now is located

pub returns-in-Some-clause-memo : goal.returns-in-Some-clause-memo
returns-in-Some-clause-memo c =
    let carriers = map carrier_view c.args.carriers.now in
    c.locate-said.ensures.memo (filters_of carriers) (kept_of c.args.wanted carriers) c.requires.memo

pub push_anew-requires-clause-memo : goal.push_anew-requires-clause-memo
push_anew-requires-clause-memo c =
    let carriers = map carrier_view c.args.carriers.now in
    let text_of = kept_of c.args.wanted carriers in
    knows carriers text_of c.args.row.now c.locate-said.new.self c.locate-said.result
    (c.locate-said.ensures.memo (filters_of carriers) text_of c.requires.memo)
    (c.locate-said.ensures.located (filters_of carriers) text_of c.requires.memo)

pub returns-clause-memo : goal.returns-clause-memo
returns-clause-memo c =
    let carriers = map carrier_view c.args.carriers.now in
    let text_of = kept_of c.args.wanted carriers in
    let is = c.locate-said.ensures.memo (filters_of carriers) text_of c.requires.memo in
    let located = c.locate-said.ensures.located (filters_of carriers) text_of c.requires.memo in
    c.in_ok-keep.ensures (filters_of carriers) text_of c.args.row.now is located
    (c.as_str.ensures.value ∙ c.in_ok-push_anew.ensures)
