use Rattle.std.proofs.Common.{length, subst, ap, arith}
use Rattle.pgoutput_msgs.specs.Spelling.{spelling_of}
use Rattle.pgoutput_msgs.specs.Telling.{relation_of}
use Rattle.pgoutput_msgs.specs.declared.message.Msg.TheVariants as m
use Rattle.pgoutput_msgs.specs.declared.relation.Relation.{Relation}
use Rattle.pgoutput_msgs.proofs.RoomLemmas.{length_columns}
use Rattle.pgoutput_msgs.proofs.SentLemmas.{plain_relation}
use Rattle.pgoutput_msgs.proofs.SinkLemmas.{takes_message}
use Rattle.copy_both.specs.Framing.{AddsFrame}
use Rattle.copy_both.proofs.frames.FramesMessageSink.relation.Goals as goal

pub add-requires-clause-fits : goal.add-requires-clause-fits
add-requires-clause-fits c =
    omega (
      arith,
      ap (λ (r : Relation). length r.columns) c.in_ok-relation.ensures.exact,
      length_columns c.args.table.now 0 c.args.table.now.columns,
      c.requires.limited.columns,
    )

pub add-requires-clause-short : goal.add-requires-clause-short
add-requires-clause-short c =
    let short = (plain_relation c.args.number c.args.table.now c.requires.number c.requires.limited.columns
    c.requires.limited.named).short in
    omega (arith, ap (λ (r : Relation). length (spelling_of (m.Relation r))) c.in_ok-relation.ensures.exact, short)

pub returns : goal.returns
returns c =
    takes_message AddsFrame c.args.self.now c.add.new.self (m.Relation (relation_of c.args.number c.args.table.now))
    (subst (λ (r : Relation). AddsFrame c.args.self.now c.add.new.self (m.Relation r)) c.in_ok-relation.ensures.exact
    c.in_ok-add.ensures)
