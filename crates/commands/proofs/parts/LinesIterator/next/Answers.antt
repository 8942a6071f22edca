use Rattle.std.proofs.Common.{rules, ◌≡◌, ◌<◌, ◌==◌, ◌∷◌, length, false, sym, ap, arith}
use Rattle.std.proofs.lemmas.Bool.Decides.{nat_tests}
use Rattle.commands.specs.Parts.{lines_of}
use Rattle.commands.proofs.LineCuts.{lines_of-some}
use Rattle.commands.proofs.parts.LinesIterator.next.Goals as goal

pub returns-clause-steps : goal.returns-clause-steps
returns-clause-steps c =
    let full : (length c.args.self.now.rest.now == 0) ≡ false = sym (c.if-is_empty.ensures) in
    let some : 0 < length c.args.self.now.rest.now = grind (arith, nat_tests) in
    rw (c.first_line.ensures.line, c.first_line.ensures.after) (lines_of-some c.args.self.now.rest.now some)

pub returns-clause-goes : goal.returns-clause-goes
returns-clause-goes c =
    let left : lines_of c.args.self.now.rest.now ≡ c.first_line.result.0.now ∷ lines_of c.first_line.result.1.now =
    returns-clause-steps c in
    let fewer : length (lines_of c.first_line.result.1.now) < length (lines_of c.args.self.now.rest.now) =
    omega (arith, ap length left) in
    record {
      on = λ finite. (search rules, search rules, fewer);
      keeps = search rules;
      rests = search rules;
    }
