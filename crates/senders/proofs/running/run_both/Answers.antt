use mir.Syntax.{of_param}
use base.Fraction.{full_share}
use mathlib.Core.List.{[]}
use denote.Builtin.{usize}
use denote.Param.{param}
use denote.Param.Send.{IsSync, Quiet-if, part_keyless, sendable}
use Rattle.publisher_desk.proofs.Crossing.{publisher_sync, viewer_send}
use Rattle.senders.specs.contracts.listener.Listener as L
use Rattle.senders.proofs.Crossing.{listener_send}
use Rattle.senders.proofs.running.run_both.Goals as goal

slot_sync : IsSync usize
slot_sync = search sendable

-- captures: rt, publisher, viewer, slot, listener, reader
pub join_mut-why-requires-send-F : goal.join_mut-why-requires-send-F
join_mut-why-requires-send-F g c κs within =
    let publisher = publisher_sync (param 0 g.row.P) g.P.Publishing g.P.Ledger in
    let viewer = viewer_send (param 0 g.row.P) g.P.Publishing g.P.Ledger in
    record {
      owned = λ x vs vss. (
        tt,
        (
          (tt, c.type_bounds.sync-R.shared x.0.now x.0.ref_ptr.0 x.0.ref_ptr.1 _),
          (
            (tt, publisher.shared x.1.now x.1.ref_ptr.0 x.1.ref_ptr.1 _),
            (
              (tt, (tt, λ y. (part_keyless _ viewer full_share y x.2.ref_ptr.0 x.2.ref_ptr.1, tt))),
              (
                (tt, slot_sync.shared x.3.now x.3.ref_ptr.0 x.3.ref_ptr.1 []),
                (
                  (tt, (tt, λ y. (part_keyless L.the_row listener_send full_share y x.4.ref_ptr.0 x.4.ref_ptr.1, tt))),
                  (
                    (tt, (tt, λ y. (part_keyless _ c.type_bounds.send-S full_share y x.5.ref_ptr.0 x.5.ref_ptr.1, tt))),
                    tt,
                  ),
                ),
              ),
            ),
          ),
        ),
      );
      leaving = λ k. Quiet-if (k (of_param 1)) _ _ (λ x w. (tt, (tt, (tt, (tt, (tt, (tt, tt))))))) (λ x w. tt);
    }
