use mathlib.Core.List.{[]}
use mir.Syntax.{of_param}
use base.Fraction.{full_share}
use denote.Param.{param}
use denote.Param.Send.{IsSync, Quiet-if, part_keyless, sendable}
use Rattle.std.specs.contracts.alloc.Global as Heap
use Rattle.publisher_desk.proofs.Crossing.{publisher_sync, seat_send}
use Rattle.session_tests.proofs.threads.both_sessions.Goals as goal

heap_sync : IsSync Heap.the_row
heap_sync = search sendable depth 40

-- captures: rt, alloc, shared, first
pub join-one-requires-send-F : goal.join-one-requires-send-F
join-one-requires-send-F g c κs within =
    let publisher = publisher_sync (param 0 g.row.P) g.P.Publishing g.P.Ledger in
    record {
      owned = λ x vs vss. (
        tt,
        (
          (tt, c.type_bounds.sync-R.shared x.0.now x.0.ref_ptr.0 x.0.ref_ptr.1 _),
          (
            (tt, heap_sync.shared x.1.now x.1.ref_ptr.0 x.1.ref_ptr.1 []),
            (
              (tt, publisher.shared x.2.now x.2.ref_ptr.0 x.2.ref_ptr.1 _),
              (
                (
                  tt,
                  (
                    tt,
                    λ y. (
                      part_keyless _ (seat_send (param 0 g.row.P) g.P.Publishing g.P.Ledger) full_share y
                          x.3.ref_ptr.0 x.3.ref_ptr.1,
                      tt,
                    ),
                  ),
                ),
                tt,
              ),
            ),
          ),
        ),
      );
      leaving = λ k. Quiet-if (k (of_param 1)) _ _ (λ x w. (tt, (tt, (tt, (tt, tt))))) (λ x w. tt);
    }
