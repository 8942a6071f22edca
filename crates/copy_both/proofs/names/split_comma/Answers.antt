use Rattle.std.proofs.Common.{◌≡◌, drop, sym, ap, ◌∙◌}
use Rattle.copy_both.proofs.ListLoops.{no_comma, at_comma}
use Rattle.copy_both.proofs.names.split_comma.Goals as goal

pub returns-in_default-clause-split : goal.returns-in_default-clause-split
returns-in_default-clause-split c = no_comma c.args.tokens.now (sym c.in_default.ensures)

pub returns-clause-split : goal.returns-clause-split
returns-clause-split c =
    let found = at_comma c.args.tokens.now c.in-Some.place (sym c.in-Some.ensures) in
    let after : c.split_at-2.result.1.now ≡ drop 1 (drop c.in-Some.place c.args.tokens.now) =
    c.split_at-2.ensures.back ∙ ap (drop 1) c.split_at.ensures.back in
    rw (c.split_at.ensures.front, after) found.1
