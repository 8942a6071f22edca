use Rattle.std.proofs.Common.{arith}
use Rattle.pgoutput_msgs.proofs.Writing.{length_fours}
use Rattle.pgoutput_msgs.proofs.truncate.truncate_len.Goals as goal

pub returns : goal.returns
returns c = omega (arith, length_fours c.args.relations.now)
