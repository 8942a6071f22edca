-- A voice may be sent to another thread.
use denote.Param.Send.{IsSend, sendable, struct_send, recorded_send}
use denote.Struct.Declared.{shape}
use Rattle.std.proofs.Crossing.{crosses, Arc-send}
use Rattle.bytes.proofs.unique.BytesMut.TheSendSync as BM
use Rattle.shard_checker.specs.contracts.checked.Checked as C
use Rattle.tables_log.proofs.Crossing.{checked_send, checked_sync}
use Rattle.copy_both.specs.contracts.voice.Voice as V

pub voice_field_send : IsSend V.the_field.row
voice_field_send = struct_send (shape V.the_type) (
  search sendable,
  (
    Arc-send C.the_row checked_send checked_sync,
    (search (sendable, crosses) depth 40, (search (BM.the_send, sendable, crosses) depth 60, tt)),
  ),
)

pub voice_send : IsSend V.the_row
voice_send = recorded_send V.the_field.row _ _ V.the_type.to_one voice_field_send
