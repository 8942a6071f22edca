use Rattle.std.proofs.Common.{refl, rules}
use Rattle.std.specs.Prelude.{false}
use Rattle.std.specs.Arc.{arc_value}
use Rattle.shard_checker.specs.CheckedView.{checked_view}
use Rattle.publisher_desk.proofs.HeldLemmas.{new_held}
use Rattle.publisher_desk.proofs.desk.Desk.new.Goals as goal

pub invariant_of-result : goal.invariant_of-result
invariant_of-result g c =
    new_held (checked_view (arc_value c.args.checked)) g.P.Publishing.checked c.in_ok-book.book c.args.limit
    g.P.Publishing.limit c.args.counted.total c.len.result
    (record { sent = 0; wants_reply = false; has_ended = false }) c.in_ok-connections.connections.items c.args.history
    c.args.slots
    c.in_ok-book.ensures
    c.requires.checked c.requires.limit c.requires.total refl (search rules) (search rules)
    c.requires.history c.requires.slots
