use Rattle.std.proofs.Common.{sym, subst}
use Rattle.pgoutput_msgs.specs.Room.{Puts}
use Rattle.pgoutput_msgs.proofs.RowWriting.{spelled_row}
use Rattle.pgoutput_msgs.proofs.Writing.{puts_both}
use Rattle.pgoutput_msgs.proofs.row_tuple.put_counted.Goals as goal

pub returns-clause-puts : goal.returns-clause-puts
returns-clause-puts c =
    subst (Puts c.args.out.now c.put_values.new.out) (sym (spelled_row c.args.values.now))
    (puts_both c.args.out.now c.put_int16.new.out c.put_values.new.out _ _ c.put_int16.ensures
    c.put_values.ensures.puts)
