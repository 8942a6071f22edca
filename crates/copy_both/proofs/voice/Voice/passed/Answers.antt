use Rattle.std.proofs.Common.{◌≡◌, length, drop, sym, ap, ◌∙◌, arith}
use Rattle.std.proofs.lemmas.List.{length-drop}
use Rattle.copy_both.proofs.voice.Voice.passed.Goals as goal

-- if fewer bytes are passed than wait, some still wait
pub returns-then-count-len-clause-room : goal.returns-then-count-len-clause-room
returns-then-count-len-clause-room c = λ none.
    let gone : length (drop c.args.count c.args.self.now.out.items) ≡ 0 =
    ap length (sym c.advance.ensures.items ∙ none) in
    absurd (omega (
      arith,
      gone,
      length-drop c.args.count c.args.self.now.out.items,
      c.if-count-len.true,
      c.len.ensures.value,
    ))
