use Rattle.cli.proofs.SlotLemmas.{kept_changes, kept_confirmed, kept_uses}
use Rattle.cli.proofs.publish.view.ViewingSlotTask.use_slots.Goals as goal

pub returns-in_err-progress-clause-slots : goal.returns-in_err-progress-clause-slots
returns-in_err-progress-clause-slots c =
    kept_changes c.args.book.now c.progress_in.new.book c.progress_in.ensures.kept

pub returns-in_err-progress-clause-uses : goal.returns-in_err-progress-clause-uses
returns-in_err-progress-clause-uses c = kept_uses c.args.book.now c.progress_in.new.book c.progress_in.ensures.kept

pub returns-in_err-progress-clause-confirmed : goal.returns-in_err-progress-clause-confirmed
returns-in_err-progress-clause-confirmed c =
    kept_confirmed c.args.book.now c.progress_in.new.book c.progress_in.ensures.kept

pub returns-clause-slots : goal.returns-clause-slots
returns-clause-slots c = kept_changes c.args.book.now c.progress_in.new.book c.progress_in.ensures.kept

pub returns-clause-uses : goal.returns-clause-uses
returns-clause-uses c = kept_uses c.args.book.now c.progress_in.new.book c.progress_in.ensures.kept

pub returns-clause-confirmed : goal.returns-clause-confirmed
returns-clause-confirmed c = kept_confirmed c.args.book.now c.progress_in.new.book c.progress_in.ensures.kept
