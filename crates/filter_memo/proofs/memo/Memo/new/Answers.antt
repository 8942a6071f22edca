use Rattle.filter_memo.specs.Plans.{filters_view}
use Rattle.filter_memo.proofs.Memos.{fresh}
use Rattle.filter_memo.proofs.memo.Memo.new.Goals as goal

pub returns : goal.returns
returns c = λ text_of follows.
    fresh _ (filters_view c.args.filters.now) text_of c.in_ok-atoms.ensures c.in_ok-empty_slots.ensures follows
