use Rattle.sql_reader.proofs.PlainRows.{word_at}
use Rattle.sql_reader.proofs.plain_row.is_word.Goals as goal

pub returns-then-starts_with : goal.returns-then-starts_with
returns-then-starts_with c = λ ends.
    word_at c.args.text.now c.args.place c.args.word.now c.rest_from.result.now c.starts_with.result c.is_end.result
    c.rest_from.ensures c.starts_with.ensures.value c.if-starts_with.true (c.is_end.ensures.within ends)
    c.is_end.ensures.value ends
