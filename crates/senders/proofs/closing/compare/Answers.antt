use Rattle.std.proofs.Common.{rules}
use Rattle.std.proofs.lemmas.Bool.{MatchBool-at_true, MatchBool-at_false}
use Rattle.senders.specs.CloseCauses.{IsCloseCause}
use Rattle.senders.proofs.ReplayLemmas.{passes_on}
use Rattle.senders.proofs.ClosingLemmas.{unlike_compared, wrong_compared, taken_compared, start_compared, closed_compared}
use Rattle.senders.proofs.closing.compare.Goals as goal

pub returns-in_err-receipts-clause-err : goal.returns-in_err-receipts-clause-err
returns-in_err-receipts-clause-err g c closing told =
    passes_on (IsCloseCause c.args.book.now c.args.acquired c.args.seats.now c.args.served.now) c.from_residual.result
    c.in_err-receipts.field-0.0 (search rules) (c.in_err-receipts.ensures.err c.args.acquired c.args.served.now)

pub returns-in_err-replay-clause-err : goal.returns-in_err-replay-clause-err
returns-in_err-replay-clause-err g c closing told =
    passes_on (IsCloseCause c.args.book.now c.args.acquired c.args.seats.now c.args.served.now)
    c.from_residual-in_err-replay.result c.in_err-replay.field-0.0 (search rules)
    (unlike_compared c.args.book.now c.replay.new.fresh c.args.seats.now c.in_ok-receipts.receipts.items
    c.as_slice.result.now c.as_slice.ensures.value c.in_ok-receipts.ensures.ok
    c.in_ok-receipts.ensures.long c.args.acquired c.args.served.now c.in_err-replay.field-0.0
    c.in_err-replay.ensures.err)

pub returns-then-not-branch-clause-err : goal.returns-then-not-branch-clause-err
returns-then-not-branch-clause-err g c closing told =
    wrong_compared c.args.book.now c.replay.new.fresh c.args.seats.now c.in_ok-receipts.receipts.items
    c.as_slice.result.now c.as_slice.ensures.value c.in_ok-receipts.ensures.ok c.in_ok-receipts.ensures.long
    c.in_ok-readings.readings.items c.sort_readings.new.readings.items c.as_slice-2.result.now
    c.in_ok-readings.ensures c.sort_readings.ensures.all c.as_slice-2.ensures.value
    c.in_ok-replay.ensures.ok c.in_ok-replay.ensures.all
    (MatchBool-at_false _ _ c.if-not-branch.true c.in_ok-replay.ensures.right)

pub returns-then-not-are_complete-clause-err : goal.returns-then-not-are_complete-clause-err
returns-then-not-are_complete-clause-err g c closing told =
    taken_compared c.args.book.now c.replay.new.fresh c.args.seats.now c.in_ok-receipts.receipts.items
    c.as_slice.result.now c.as_slice.ensures.value c.in_ok-receipts.ensures.ok c.in_ok-receipts.ensures.long
    c.in_ok-readings.readings.items c.sort_readings.new.readings.items c.as_slice-2.result.now
    c.in_ok-readings.ensures c.sort_readings.ensures.all c.as_slice-2.ensures.value
    c.in_ok-replay.ensures.ok c.in_ok-replay.ensures.all
    (MatchBool-at_true _ _ c.if-not-branch.false c.in_ok-replay.ensures.right) c.args.acquired c.args.served.now
    c.if-not-are_complete.ensures

pub returns-clause-err : goal.returns-clause-err
returns-clause-err g c closing told =
    start_compared c.args.book.now c.replay.new.fresh c.args.seats.now c.in_ok-receipts.receipts.items
    c.as_slice.result.now c.as_slice.ensures.value c.in_ok-receipts.ensures.ok c.in_ok-receipts.ensures.long
    c.in_ok-readings.readings.items c.sort_readings.new.readings.items c.as_slice-2.result.now
    c.in_ok-readings.ensures c.sort_readings.ensures.all c.as_slice-2.ensures.value
    c.in_ok-replay.ensures.ok c.in_ok-replay.ensures.all
    (MatchBool-at_true _ _ c.if-not-branch.false c.in_ok-replay.ensures.right) c.args.acquired c.args.served.now
    c.args.slots c.requires.slots c.if-not-are_complete.ensures closing told
    c.check_starts.result c.check_starts.ensures.err

pub returns-clause-ok : goal.returns-clause-ok
returns-clause-ok g c closing told slots_are =
    closed_compared c.args.book.now c.replay.new.fresh c.args.seats.now c.in_ok-receipts.receipts.items
    c.as_slice.result.now c.as_slice.ensures.value c.in_ok-receipts.ensures.ok c.in_ok-receipts.ensures.long
    c.in_ok-readings.readings.items c.sort_readings.new.readings.items c.as_slice-2.result.now
    c.in_ok-readings.ensures c.sort_readings.ensures.all c.as_slice-2.ensures.value
    c.in_ok-replay.ensures.ok c.in_ok-replay.ensures.all
    (MatchBool-at_true _ _ c.if-not-branch.false c.in_ok-replay.ensures.right) c.args.acquired c.args.served.now
    c.args.slots c.requires.slots c.if-not-are_complete.ensures closing told
    c.check_starts.result c.check_starts.ensures.ok slots_are
    c.in_ok-receipts.ensures.forward c.in_ok-receipts.ensures.timed
