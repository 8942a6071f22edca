use Rattle.sql_reader.proofs.PlainRows.{null_is_plain, true_is_plain, false_is_plain}
use Rattle.sql_reader.proofs.plain_row.plain_word.Goals as goal

pub returns-then-is_word : goal.returns-then-is_word
returns-then-is_word c = null_is_plain c.args.text.now c.args.place (c.is_word.ensures c.if-is_word.true)

pub returns-then-is_word-2 : goal.returns-then-is_word-2
returns-then-is_word-2 c = true_is_plain c.args.text.now c.args.place (c.is_word-2.ensures c.if-is_word-2.true)

pub returns-then-is_word-3 : goal.returns-then-is_word-3
returns-then-is_word-3 c = false_is_plain c.args.text.now c.args.place (c.is_word-3.ensures c.if-is_word-3.true)
