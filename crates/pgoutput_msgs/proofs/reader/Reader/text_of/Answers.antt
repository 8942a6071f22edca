use Rattle.std.proofs.Common.{arith}
use Rattle.pgoutput_msgs.proofs.Fields.{utf8_read, utf8_refused}
use Rattle.pgoutput_msgs.proofs.reader.Reader.text_of.Goals as goal

pub returns-in_ok-from_str-in-Ok : goal.returns-in_ok-from_str-in-Ok
returns-in_ok-from_str-in-Ok c = grind (arith, utf8_read c.args.bytes.now c.args.self.now c.in-Ok.ensures.cases.1)

pub returns-in-Err : goal.returns-in-Err
returns-in-Err c = utf8_refused c.args.bytes.now c.args.self.now c.in-Err.ensures.cases.0
