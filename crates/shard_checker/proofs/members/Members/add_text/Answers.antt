use Rattle.std.proofs.Common.{refl}
use Rattle.shard_checker.proofs.MemberLemmas.{text_added, adds_text}
use Rattle.shard_checker.proofs.members.Members.add_text.Goals as goal

pub returns : goal.returns
returns c =
    let old = c.args.self.now in
    adds_text old
    (record { numbers = old.numbers; texts = c.insert.new.self; has_true = old.has_true; has_false = old.has_false })
    c.args.text.now refl refl refl
    (text_added old.texts.keys c.insert.new.self.keys c.args.text c.in_ok-insert.field-0 c.in_ok-insert.ensures.keys
    c.in_ok-insert.ensures.added)
