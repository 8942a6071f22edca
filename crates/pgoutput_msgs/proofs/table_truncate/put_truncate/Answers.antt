use Rattle.std.proofs.Common.{subst}
use Rattle.pgoutput_msgs.specs.Room.{Puts}
use Rattle.pgoutput_msgs.proofs.RowWriting.{spelled_truncate}
use Rattle.pgoutput_msgs.proofs.Writing.{puts_both}
use Rattle.pgoutput_msgs.proofs.table_truncate.put_truncate.Goals as goal

pub returns : goal.returns
returns c =
    let options = puts_both c.put_int32.new.out c.put_byte-2.new.out c.put_oids.new.out _ _ c.put_byte-2.ensures
    c.put_oids.ensures in
    let counted = puts_both c.put_byte.new.out c.put_int32.new.out c.put_oids.new.out _ _ c.put_int32.ensures options in
    subst (Puts c.args.out.now c.put_oids.new.out) (spelled_truncate c.args.tables.now)
    (puts_both c.args.out.now c.put_byte.new.out c.put_oids.new.out _ _ c.put_byte.ensures counted)
