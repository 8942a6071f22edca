use Rattle.std.proofs.Common.{refl}
use Rattle.filter_memo.proofs.Memos.{other_atoms}
use Rattle.filter_memo.proofs.memo.Memo.locate.Goals as goal

pub returns-clause-memo : goal.returns-clause-memo
returns-clause-memo c = λ filters text_of is.
    other_atoms c.args.self.now _ filters text_of is (c.locate.ensures.atoms filters is.atoms) c.locate.ensures.same refl
