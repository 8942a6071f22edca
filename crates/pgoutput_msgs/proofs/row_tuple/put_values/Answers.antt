use Rattle.std.proofs.Common.{rules, arith}
use Rattle.std.proofs.lemmas.Grind.{common_steps}
use Rattle.pgoutput_msgs.specs.ValueText.{value_spelling}
use Rattle.pgoutput_msgs.proofs.RowWriting.{value_fits, no_texts, texts_on, all_texts}
use Rattle.pgoutput_msgs.proofs.Writing.{room_left, writes_on, all_written}
use Rattle.pgoutput_msgs.proofs.row_tuple.put_values.Goals as goal

pub loop-value-init : goal.loop-value-init
loop-value-init c = (first_of (search rules, grind (arith, common_steps)), no_texts c.args.values.now)

pub put_value-requires-clause-fits : goal.put_value-requires-clause-fits
put_value-requires-clause-fits c =
    value_fits c.args.values.now c.loop-value.value-index c.value-item.result c.value-item.is c.loop-value-test.true
    c.requires.fits

pub put_value-requires-clause-room : goal.put_value-requires-clause-room
put_value-requires-clause-room c =
    room_left value_spelling c.args.out.now c.loop-value.out c.args.values.now c.loop-value.value-index
    c.value-item.result c.value-item.is c.loop-value-test.true
    c.loop-value.invariant.0 c.requires.room

pub loop-value-preserved : goal.loop-value-preserved
loop-value-preserved c = (
  writes_on value_spelling c.args.out.now c.loop-value.out c.put_value.new.out c.args.values.now
      c.loop-value.value-index c.value-item.result c.value-item.is c.loop-value-test.true
      c.loop-value.invariant.0 c.put_value.ensures.puts,
  texts_on c.args.values.now c.loop-value.value-index c.value-item.result c.value-item.is c.loop-value-test.true
      c.put_value.ensures.text c.loop-value.invariant.1,
)

pub returns-clause-puts : goal.returns-clause-puts
returns-clause-puts c =
    all_written value_spelling c.args.out.now c.loop-value.out c.args.values.now c.loop-value.value-index
    c.loop-value-test.false c.loop-value.invariant.0

pub returns-clause-texts : goal.returns-clause-texts
returns-clause-texts c =
    all_texts c.args.values.now c.loop-value.value-index c.loop-value-test.false c.loop-value.invariant.1
