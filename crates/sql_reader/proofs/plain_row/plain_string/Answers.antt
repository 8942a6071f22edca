use Rattle.std.proofs.Common.{◌≡◌, ◌+◌, ◌-◌, ◌<◌, get_or, drop, take, sym, ap, ◌∙◌, arith}
use Rattle.std.specs.List.{prefix_len}
use Rattle.std.proofs.lemmas.Str.{lead_after_ascii}
use Rattle.sql_reader.specs.PlainRows.{is_plain}
use Rattle.sql_reader.proofs.PlainRows.{string_is_plain}
use Rattle.sql_reader.proofs.plain_row.plain_string.Goals as goal

pub range-requires-clause-start_boundary : goal.range-requires-clause-start_boundary
range-requires-clause-start_boundary c =
    let ascii : get_or c.args.text.now c.args.place 0 < 128 = omega (arith, c.requires.quote) in
    λ _. (omega (arith, c.requires.within), lead_after_ascii c.args.text.now c.args.place c.utf8.text ascii)

pub returns : goal.returns
returns c =
    let text = c.args.text.now in
    let place = c.args.place in
    let count = c.plain_len-length.result in
    let is : count ≡ prefix_len is_plain (drop (place + 1) text) = c.plain_len-length.ensures.value
    ∙ ap (prefix_len is_plain) c.rest_from.ensures in
    let cut : place + 1 + count - (place + 1) ≡ count = omega arith in
    string_is_plain text place count c.in_ok-copy.copy
    (c.in_ok-copy.ensures ∙ c.range.ensures.value ∙ ap (λ n. take n (drop (place + 1) text)) cut) is
    c.if-length-gt-MAX_TEXT_BYTES.false c.requires.quote (sym c.byte_at.ensures.value ∙ c.if-byte_at-ne39.false)
    (c.is_end.ensures.within c.if-not-is_end.false) (sym c.is_end.ensures.value ∙ c.if-not-is_end.false)
