use mir.Syntax.{of_param}
use denote.Param.{param}
use denote.Param.Send.{Quiet-if}
use Rattle.publisher_desk.proofs.Crossing.{publisher_sync}
use Rattle.cli.proofs.Crossing.{hall_sync}
use Rattle.cli.proofs.publish.places.attend_all.Goals as goal

-- captures: rt, publisher, hall
pub join_mut-requires-send-F : goal.join_mut-requires-send-F
join_mut-requires-send-F g c κs within =
    let publisher = publisher_sync (param 0 g.row.P) g.P.Publishing g.P.Ledger in
    record {
      owned = λ x vs vss. (
        tt,
        (
          (tt, c.type_bounds.sync-R.shared x.0.now x.0.ref_ptr.0 x.0.ref_ptr.1 _),
          (
            (tt, publisher.shared x.1.now x.1.ref_ptr.0 x.1.ref_ptr.1 _),
            ((tt, hall_sync.shared x.2.now x.2.ref_ptr.0 x.2.ref_ptr.1 _), tt),
          ),
        ),
      );
      leaving = λ k. Quiet-if (k (of_param 1)) _ _ (λ x w. tt) (λ x w. tt);
    }
