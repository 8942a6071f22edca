use Rattle.std.proofs.Common.{rules, ◌≡◌, ◌<◌, ◌==◌, length, false, sym, arith}
use Rattle.std.proofs.lemmas.Bool.Decides.{nat_tests}
use Rattle.commands.specs.Parts.{is_separator, first_line}
use Rattle.commands.proofs.LineCuts.{later_after_line}
use Rattle.commands.proofs.parts.cut.Goals as goal

pub loop-rest-preserved : goal.loop-rest-preserved
loop-rest-preserved c =
    let full : (length c.loop-rest.rest.now == 0) ≡ false = sym (c.loop-rest-test.ensures) in
    let some : 0 < length c.loop-rest.rest.now = grind (arith, nat_tests) in
    let other : is_separator (first_line c.loop-rest.rest.now) ≡ false =
    rw (← c.first_line.ensures.line) (sym (c.if-eq.ensures)) in (
      rw c.first_line.ensures.after
          (later_after_line c.args.text.now c.loop-rest.rest.now some other c.loop-rest.invariant.0),
      search rules,
    )
