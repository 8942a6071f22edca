use Rattle.std.proofs.Common.{◌≡◌, ◌∙◌, ℕ, List, ap, rules, subst, sym}
use Rattle.shard_world.proofs.ViewLemmas.{at_more}
use Rattle.shard_world.specs.ViewContents.{AllAt}
use Rattle.tables_log.specs.BookView.{book_slots}
use Rattle.tables_log.specs.declared.slots.Slot.{Slot}
use Rattle.cli.proofs.SlotLemmas.{then_kept}
use Rattle.cli.specs.Views.{progress_seen}
use Rattle.cli.specs.declared.publish.view.Progress.{Progress}
use Rattle.cli.proofs.publish.view.progress_in.Goals as goal

pub returns-in_err-push-clause-kept : goal.returns-in_err-push-clause-kept
returns-in_err-push-clause-kept c =
    then_kept c.args.book.now c.loop-slot.book c.progress_of.new.book c.loop-slot.invariant.0 c.progress_of.ensures.kept

pub loop-slot-preserved : goal.loop-slot-preserved
loop-slot-preserved c =
    let slots = book_slots c.args.book.now in
    let connections = c.args.connections.now in
    let so_far = c.loop-slot.progress.items in
    let one : c.progress_of.result ≡ progress_seen slots connections c.loop-slot.slot =
    c.progress_of.ensures.shows
    ∙ ap (λ (its : List Slot). progress_seen its connections c.loop-slot.slot) c.loop-slot.invariant.0.slots_are in (
      then_kept c.args.book.now c.loop-slot.book c.progress_of.new.book c.loop-slot.invariant.0
          c.progress_of.ensures.kept,
      search rules,
      subst (λ (all : List Progress). AllAt (λ slot one. one ≡ progress_seen slots connections slot) all)
          (sym c.in_ok-push.ensures.items)
          (at_more (λ slot one. one ≡ progress_seen slots connections slot) so_far c.progress_of.result
          c.loop-slot.invariant.2
          (one ∙ ap (λ (n : ℕ). progress_seen slots connections n) (sym c.loop-slot.invariant.1))),
    )
