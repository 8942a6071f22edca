use Rattle.std.proofs.Common.{Bor, List, map, subst}
use Rattle.tables_log.specs.BookView.{book_slots}
use Rattle.senders.specs.Reached.{AllEndReached, AreReached}
use Rattle.senders.specs.Results.{ServedOf}
use Rattle.senders.proofs.ReachLemmas.{in_order}
use Rattle.senders.proofs.reaching.check_starts.Goals as goal

pub returns-then-not-are_reached-clause-err : goal.returns-then-not-are_reached-clause-err
returns-then-not-are_reached-clause-err g c = record {
  starts = map (λ (one : Bor ServedOf). one.now) c.sort_by_number.new.starts.items;
  ordered = in_order c.args.acquired c.args.served.now c.in_ok-starts.starts.items c.sort_by_number.new.starts.items
      c.as_slice-order.result.now c.in_ok-starts.ensures c.sort_by_number.ensures.all c.as_slice-order.ensures.value
      c.if-not-are_numbered.ensures;
  are = subst (λ (list : List (Bor ServedOf)). ¬ AreReached c.args.slots
      (map (λ (one : Bor ServedOf). one.now) list)) c.as_slice-order.ensures.value c.if-not-are_reached.ensures;
}

pub returns-then-not-are_kept-clause-err : goal.returns-then-not-are_kept-clause-err
returns-then-not-are_kept-clause-err g c = record {
  starts = map (λ (one : Bor ServedOf). one.now) c.sort_by_number.new.starts.items;
  ordered = in_order c.args.acquired c.args.served.now c.in_ok-starts.starts.items c.sort_by_number.new.starts.items
      c.as_slice-order.result.now c.in_ok-starts.ensures c.sort_by_number.ensures.all c.as_slice-order.ensures.value
      c.if-not-are_numbered.ensures;
  are = (
    subst (λ (list : List (Bor ServedOf)). AreReached c.args.slots (map (λ (one : Bor ServedOf). one.now) list))
        c.as_slice-order.ensures.value c.if-not-are_reached.ensures,
    subst (λ (list : List (Bor ServedOf)). ¬ AllEndReached c.args.slots (book_slots c.args.book.now)
        (map (λ (one : Bor ServedOf). one.now) list)) c.as_slice-order.ensures.value c.if-not-are_kept.ensures,
  );
}

pub returns-clause-ok : goal.returns-clause-ok
returns-clause-ok g c = record {
  starts = map (λ (one : Bor ServedOf). one.now) c.sort_by_number.new.starts.items;
  ordered = in_order c.args.acquired c.args.served.now c.in_ok-starts.starts.items c.sort_by_number.new.starts.items
      c.as_slice-order.result.now c.in_ok-starts.ensures c.sort_by_number.ensures.all c.as_slice-order.ensures.value
      c.if-not-are_numbered.ensures;
  reached = subst (λ (list : List (Bor ServedOf)). AreReached c.args.slots
      (map (λ (one : Bor ServedOf). one.now) list)) c.as_slice-order.ensures.value c.if-not-are_reached.ensures;
  kept = subst (λ (list : List (Bor ServedOf)). AllEndReached c.args.slots (book_slots c.args.book.now)
      (map (λ (one : Bor ServedOf). one.now) list)) c.as_slice-order.ensures.value c.if-not-are_kept.ensures;
}
