-- The result for bytes that spell no message.
use Rattle.std.proofs.Common.{ap}
use Rattle.std.specs.Prelude.{Result}
use Rattle.filter_tree.specs.Memory.{TellsFault}
use Rattle.pgoutput_msgs.specs.Reading as r
use Rattle.pgoutput_msgs.specs.declared.error.MsgError.{MsgError}
use Rattle.pgoutput_msgs.specs.declared.error.MsgError.TheVariants.{Unknown, Toast, BadCount, Short, BadText, Trailing, OutOfMemory}
use Rattle.pgoutput_msgs.specs.declared.message.Msg.{Msg}
use Rattle.test_subscriber.specs.Copies.{RefusedBy}
use Rattle.test_subscriber.specs.Frames.{fault_of, message_of}

pub decode_refuses : (error : MsgError) (answer : Result Msg MsgError) → TellsFault (r.msg_fault error) answer
    → RefusedBy (message_of answer) (fault_of error)
decode_refuses (Unknown found) answer tells = ap message_of tells
decode_refuses Toast answer tells = ap message_of tells
decode_refuses BadCount answer tells = ap message_of tells
decode_refuses Short answer tells = ap message_of tells
decode_refuses BadText answer tells = ap message_of tells
decode_refuses Trailing answer tells = ap message_of tells
decode_refuses OutOfMemory answer tells = tt
