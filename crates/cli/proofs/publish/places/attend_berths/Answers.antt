use Rattle.std.proofs.Common.{slice_index_or, subst}
use denote.Param.{param}
use Rattle.publisher_desk.proofs.Crossing.{publisher_sync}
use Rattle.cli.specs.Connections.{StayServed}
use Rattle.cli.specs.declared.publish.places.Berth.{Berth}
use Rattle.cli.proofs.Berths.{stay_served}
use Rattle.cli.proofs.Crossing.{hall_sync, listener_sync}
use Rattle.cli.proofs.publish.places.attend_berths.Goals as goal

-- captures: rt, publisher, hall, listener
pub for_each_mut-requires-sync-F : goal.for_each_mut-requires-sync-F
for_each_mut-requires-sync-F g c κs within =
    let publisher = publisher_sync (param 0 g.row.P) g.P.Publishing g.P.Ledger in
    record {
      shared = λ x b o ν. (
        (
          ((λ q. tt), c.type_bounds.sync-R.shared x.0.now x.0.ref_ptr.0 x.0.ref_ptr.1 _),
          (
            ((λ q. tt), publisher.shared x.1.now x.1.ref_ptr.0 x.1.ref_ptr.1 _),
            (
              ((λ q. tt), hall_sync.shared x.2.now x.2.ref_ptr.0 x.2.ref_ptr.1 _),
              (((λ q. tt), listener_sync.shared x.3.now x.3.ref_ptr.0 x.3.ref_ptr.1 ν), tt),
            ),
          ),
        ),
        λ q. tt,
      );
    }

pub returns : goal.returns
returns g c =
    let checked = g.P.Publishing.checked in
    stay_served checked c.args.berths.now c.for_each_mut.new.s (search)
    (λ place other below. let at = (c.for_each_mut.ensures place other below).1 in
    let first = slice_index_or c.args.berths.now place other in
    subst (λ (after : Berth _). StayServed checked first.served.items after.served.items) at.left
    (subst (λ (before : Berth _). StayServed checked before.served.items at.after_call.now.served.items)
    at.argument_is at.call))
