use Rattle.std.proofs.Common.{◌+◌, ◌≤◌, length, drop, arith, length-drop}
use Rattle.sql_tokens.specs.declared.kinds.Token.{Token}
use Rattle.sql_tokens.specs.Pieces.{IsToken}
use Rattle.sql_tokens.proofs.Cuts.{cut}
use Rattle.sql_tokens.proofs.scan.token_at.Goals as goal

pub returns-in-Whole-clause-token : goal.returns-in-Whole-clause-token
returns-in-Whole-clause-token c =
    let text = c.as_bytes-bytes.result.now in
    let token : Token = record { kind = c.in-Whole.kind; place = c.loop-place.place; length = c.in-Whole.length } in
    let found : IsToken (drop token.place text) token.kind token.length =
    rw (← c.split_at.ensures.back) c.in-Whole.ensures.within in
    let inside : token.place + token.length ≤ length text =
    omega (arith, found.within, length-drop token.place text, c.loop-place-test.true) in
    rw (← c.as_bytes-bytes.ensures.value) (cut text token c.as_bytes-bytes.ensures.utf8 inside found)
