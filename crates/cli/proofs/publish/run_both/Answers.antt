use mathlib.Core.List.{[]}
use mir.Syntax.{of_param}
use denote.Param.{param}
use denote.Param.Send.{Quiet-if, mut_slice_send}
use Rattle.publisher_desk.proofs.Crossing.{publisher_sync}
use Rattle.cli.specs.contracts.publish.places.Berth as Be
use Rattle.cli.proofs.publish.places.Berth.TheSendSync as BeS
use Rattle.cli.proofs.Crossing.{hall_sync, listener_sync}
use Rattle.cli.proofs.publish.run_both.Goals as goal

-- captures: rt, publisher, hall, listener, berths
pub join_mut-answered-requires-send-F : goal.join_mut-answered-requires-send-F
join_mut-answered-requires-send-F g c κs within =
    let publisher = publisher_sync (param 0 g.row.P) g.P.Publishing g.P.Ledger in
    record {
      owned = λ x vs vss. (
        tt,
        (
          (tt, c.type_bounds.sync-R.shared x.0.now x.0.ref_ptr.0 x.0.ref_ptr.1 _),
          (
            (tt, publisher.shared x.1.now x.1.ref_ptr.0 x.1.ref_ptr.1 _),
            (
              (tt, hall_sync.shared x.2.now x.2.ref_ptr.0 x.2.ref_ptr.1 _),
              (
                (tt, listener_sync.shared x.3.now x.3.ref_ptr.0 x.3.ref_ptr.1 []),
                (
                  (mut_slice_send (of_param 1) [] (Be.the_row (param 0 g.row.P) g.P.Publishing g.P.Ledger)
                      (BeS.the_send (param 0 g.row.P) g.P.Publishing g.P.Ledger)).owned x.4 [],
                  tt,
                ),
              ),
            ),
          ),
        ),
      );
      leaving = λ k. Quiet-if (k (of_param 1)) _ _ (λ x w. (tt, (tt, (tt, (tt, (tt, tt)))))) (λ x w. tt);
    }
