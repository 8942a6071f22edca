use Rattle.std.proofs.Common.{Bor, map, arith, rules}
use Rattle.publisher_desk.specs.Receipts.{ReceiptOf}
use Rattle.senders.specs.Replays.{IsUnlikeIn}
use Rattle.senders.proofs.ReplayLemmas.{shown_here, passes_on, missing_one, replays_one}
use Rattle.senders.proofs.replaying.advance.Goals as goal

pub returns-in_err-make_again-clause-err : goal.returns-in_err-make_again-clause-err
returns-in_err-make_again-clause-err c =
    passes_on (IsUnlikeIn c.args.book.now (map (λ (one : Bor ReceiptOf). one.now) c.args.receipts.now))
    c.from_residual.result c.in_err-make_again.field-0.0 (search rules)
    (missing_one c.args.book.now c.loop-place.fresh (map (λ (one : Bor ReceiptOf). one.now) c.args.receipts.now)
    c.index-receipts-place.result.now c.loop-place.place
    c.loop-place.invariant.0 c.loop-place.invariant.1
    (shown_here c.args.receipts.now c.loop-place.place c.index-receipts-place.result (omega arith)
    c.index-receipts-place.is)
    c.requires.long c.in_err-make_again.field-0.0 c.in_err-make_again.ensures.err)

pub loop-place-preserved : goal.loop-place-preserved
loop-place-preserved c =
    replays_one c.args.book.now c.loop-place.fresh (map (λ (one : Bor ReceiptOf). one.now) c.args.receipts.now)
    c.index-receipts-place.result.now c.loop-place.place
    c.loop-place.invariant.0 c.loop-place.invariant.1
    (shown_here c.args.receipts.now c.loop-place.place c.index-receipts-place.result (omega arith)
    c.index-receipts-place.is)
    c.make_again.new.fresh c.in_ok-make_again.ensures.ok
