-- Threads may share a publisher, and a seat may go to another thread. The lemmas of `tables_log/proofs/Crossing` say
-- what crosses threads of a book and of a checked catalog.
use denote.RattleType.{RattleType}
use denote.Param.Send.{IsSend, IsSync, sendable, struct_send, struct_sync, recorded_send, recorded_sync, view_send, view_sync}
use denote.Struct.Declared.{shape}
use Rattle.std.proofs.Crossing.{crosses, Vec-send, Arc-sync}
use Rattle.std.specs.declared.sync.ledger.Ledger as led
use Rattle.std.proofs.sync.ledger.Book.TheSendSync as LB
use Rattle.shard_checker.specs.contracts.checked.Checked as C
use Rattle.tables_log.proofs.Crossing.{book_field_send, checked_send, checked_sync}
use Rattle.publisher_desk.specs.declared.naming.Publishing as pub_
use Rattle.publisher_desk.specs.contracts.desk.Desk as D
use Rattle.publisher_desk.specs.contracts.desk.Desk.TheInside as DI
use Rattle.publisher_desk.specs.contracts.moved.Moved as Mo
use Rattle.publisher_desk.specs.contracts.publisher.Publisher as P
use Rattle.publisher_desk.specs.contracts.publisher.Publisher.TheInside as PI
use Rattle.publisher_desk.specs.contracts.connection_state.ConnectionState as W
use Rattle.publisher_desk.specs.contracts.seat.Seat as Se
use Rattle.publisher_desk.proofs.history.History.TheSendSync as HS
use Rattle.publisher_desk.proofs.seat.Seat.TheSendSync as SeS
use Rattle.publisher_desk.proofs.slot_history.SlotHistory.TheSendSync as SHS
use Rattle.publisher_desk.proofs.viewer.Viewer.TheSendSync as ViS
use Rattle.publisher_desk.specs.contracts.viewer.Viewer as Vi

connection_send : IsSend W.the_row
connection_send = search sendable depth 60

moved_sync : IsSync Mo.the_field.row
moved_sync = search (sendable, crosses) depth 200 fits 3000 parts 0

module _ (Q : RattleType) (p : pub_.Ghosts Q.Denot) (l : led.Ghosts Q.Denot) where
  pub desk_send : IsSend (D.the_row Q p l)
  desk_send = view_send _ _ _ _ _ (recorded_send (DI.the_field Q p l).row _ _ (DI.the_type Q p l).to_one
      (struct_send (shape (DI.the_type Q p l)) (
        book_field_send,
        (
          LB.the_send Q l,
          (Vec-send W.the_row connection_send, (search sendable, (HS.the_send Q p l, (SHS.the_send Q p l, tt)))),
        ),
      )))

  publisher_field_sync : IsSync (PI.the_field Q p l).row
  publisher_field_sync = struct_sync (shape (PI.the_type Q p l)) (
    search sendable,
    (
      Arc-sync C.the_row checked_send checked_sync,
      (search (desk_send, crosses), (moved_sync, (search sendable, tt))),
    ),
  )

  pub publisher_sync : IsSync (P.the_row Q p l)
  publisher_sync = view_sync _ _ _ _ _
      (recorded_sync (PI.the_field Q p l).row _ _ (PI.the_type Q p l).to_one publisher_field_sync)

  pub seat_send : IsSend (Se.the_row Q p l)
  seat_send = SeS.the_send Q p l

  pub viewer_send : IsSend (Vi.the_row Q p l)
  viewer_send = ViS.the_send Q p l
