use mathlib.Core.List.{[]}
use mir.Syntax.{of_param}
use denote.Param.{param}
use denote.Param.Send.{Quiet-if, mut_slice_send}
use Rattle.publisher_desk.proofs.Crossing.{publisher_sync}
use Rattle.cli.specs.contracts.connections.ConnectionPlace as Pl
use Rattle.cli.proofs.connections.ConnectionPlace.TheSendSync as PlS
use Rattle.cli.proofs.Crossing.{listener_sync}
use Rattle.cli.proofs.running.run_in.Goals as goal

-- captures: rt, publisher, listener, places
pub join_mut-committed-requires-send-F : goal.join_mut-committed-requires-send-F
join_mut-committed-requires-send-F g c κs within =
    let publisher = publisher_sync (param 0 g.row.P) g.P.Publishing g.P.Ledger in
    record {
      owned = λ x vs vss. (
        tt,
        (
          (tt, c.type_bounds.sync-R.shared x.0.now x.0.ref_ptr.0 x.0.ref_ptr.1 _),
          (
            (tt, publisher.shared x.1.now x.1.ref_ptr.0 x.1.ref_ptr.1 _),
            (
              (tt, listener_sync.shared x.2.now x.2.ref_ptr.0 x.2.ref_ptr.1 []),
              (
                (mut_slice_send (of_param 1) [] (Pl.the_row (param 0 g.row.P) g.P.Publishing g.P.Ledger)
                    (PlS.the_send (param 0 g.row.P) g.P.Publishing g.P.Ledger)).owned x.3 [],
                tt,
              ),
            ),
          ),
        ),
      );
      leaving = λ k. Quiet-if (k (of_param 1)) _ _ (λ x w. (tt, (tt, (tt, (tt, tt))))) (λ x w. tt);
    }
