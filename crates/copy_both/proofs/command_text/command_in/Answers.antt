use Rattle.std.proofs.Common.{rules, arith, ◌≡◌, true}
use Rattle.copy_both.specs.CommandText.{has_keywords}
use Rattle.copy_both.proofs.CommandLoops.{command_is, command_read}
use Rattle.copy_both.proofs.command_text.command_in.Goals as goal

pub returns : goal.returns
returns c =
    let keywords : has_keywords c.start-item.result c.slot-item.result c.logical-item.result ≡ true = search rules in
    let is =
    command_is c.args.tokens.now c.start-item.result c.slot-item.result c.name-item.result c.logical-item.result
    c.place-item.result
    (omega (arith, c.in-len5-up.len_at_least)) c.start-item.is c.slot-item.is c.name-item.is c.logical-item.is
    c.place-item.is keywords in
    command_read _ _ _ _ _ _ _ _ c.in_ok-command_with.ensures c.name_in.ensures c.position_in.ensures
    c.in_ok-options.ensures is
