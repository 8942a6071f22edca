use mir.Syntax.{of_param}
use base.Fraction.{full_share}
use denote.Param.{param}
use denote.Param.Send.{Quiet-if, part_keyless}
use Rattle.std.proofs.Crossing.{Vec-send}
use Rattle.publisher_desk.proofs.Crossing.{publisher_sync, seat_send}
use Rattle.sender_tests.proofs.board.Board.TheSendSync as B
use Rattle.sender_tests.proofs.running.run.Goals as goal

-- captures: rt, publisher, seats, board
pub join-requires-send-F : goal.join-requires-send-F
join-requires-send-F g c κs within =
    let publisher = publisher_sync (param 0 g.row.P) g.P.Publishing g.P.Ledger in
    let seats = Vec-send _ (seat_send (param 0 g.row.P) g.P.Publishing g.P.Ledger) in
    record {
      owned = λ x vs vss. (
        tt,
        (
          (tt, c.type_bounds.sync-R.shared x.0.now x.0.ref_ptr.0 x.0.ref_ptr.1 _),
          (
            (tt, publisher.shared x.1.now x.1.ref_ptr.0 x.1.ref_ptr.1 _),
            (
              (tt, (tt, λ y. (part_keyless _ seats full_share y x.2.ref_ptr.0 x.2.ref_ptr.1, tt))),
              (
                (tt, B.the_sync.shared x.3.now x.3.ref_ptr.0 x.3.ref_ptr.1 _),
                tt,
              ),
            ),
          ),
        ),
      );
      leaving = λ k. Quiet-if (k (of_param 1)) _ _ (λ x w. (tt, (tt, (tt, tt)))) (λ x w. tt);
    }
