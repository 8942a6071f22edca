use Rattle.std.proofs.Common.{map, arith}
use Rattle.std.proofs.lemmas.List.{length-map}
use Rattle.pgoutput_msgs.specs.Telling.{oid_of}
use Rattle.pgoutput_msgs.proofs.Writing.{length_fours}
use Rattle.pgoutput_msgs.proofs.table_truncate.encode_truncate.Goals as goal

pub put_truncate-requires-clause-room : goal.put_truncate-requires-clause-room
put_truncate-requires-clause-room c =
    omega (
      arith,
      c.in_ok-reserve.ensures.ok,
      length_fours (map oid_of c.args.tables.now),
      length-map c.args.tables.now oid_of,
    )
