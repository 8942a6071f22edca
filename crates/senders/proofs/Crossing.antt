-- A listener may go to another thread.
use denote.Param.Send.{IsSend, sendable, struct_send, recorded_send}
use denote.Struct.Declared.{shape}
use Rattle.std.proofs.Crossing.{crosses, Arc-send}
use Rattle.bytes.proofs.unique.BytesMut.TheSendSync as BM
use Rattle.shard_checker.specs.contracts.checked.Checked as C
use Rattle.tables_log.proofs.Crossing.{checked_send, checked_sync}
use Rattle.copy_frames.proofs.deframer.Deframer.TheSendSync as DF
use Rattle.copy_both.specs.contracts.ear.Ear as E
use Rattle.copy_both.specs.contracts.session.Session as S
use Rattle.senders.specs.contracts.listener.Listener as L

session_field_send : IsSend S.the_field.row
session_field_send = struct_send (shape S.the_type) (
  search sendable,
  (
    Arc-send C.the_row checked_send checked_sync,
    (
      search (sendable, crosses) depth 40,
      (search sendable depth 40, (search (BM.the_send, sendable, crosses) depth 60, tt)),
    ),
  ),
)

ear_field_send : IsSend E.the_field.row
ear_field_send = struct_send (shape E.the_type) (DF.the_send, (search sendable depth 40, (session_field_send, tt)))

listener_field_send : IsSend L.the_field.row
listener_field_send =
    struct_send (shape L.the_type) (
      ear_field_send,
      (
        search (sendable, crosses) depth 40,
        (search sendable, (search sendable, (search sendable, tt))),
      ),
    )

pub listener_send : IsSend L.the_row
listener_send = recorded_send L.the_field.row _ _ L.the_type.to_one listener_field_send
