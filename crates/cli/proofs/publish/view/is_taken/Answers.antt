use Rattle.std.proofs.Common.{sym, ◌∙◌}
use Rattle.std.specs.Prelude.{slice_get}
use Rattle.tables_log.specs.BookView.{book_slots}
use Rattle.cli.proofs.SlotLemmas.{book_looked, refused_taken, untaken}
use Rattle.cli.proofs.publish.view.is_taken.Goals as goal

pub returns-in-Ok-clause-kept : goal.returns-in-Ok-clause-kept
returns-in-Ok-clause-kept c =
    book_looked c.args.book.now c.start.new.self c.release.new.self _ c.args.slot 0 c.in-Ok.ensures.accepted
    c.in-Ok.ensures.ok c.release.ensures

pub returns-in-Ok-clause-taken : goal.returns-in-Ok-clause-taken
returns-in-Ok-clause-taken c = sym (untaken (book_slots c.args.book.now) _ c.args.slot 0 c.in-Ok.ensures.accepted)

pub returns-in-Err-clause-taken : goal.returns-in-Err-clause-taken
returns-in-Err-clause-taken c =
    c.is_in_use.ensures
    ∙ sym (refused_taken (slice_get (book_slots c.args.book.now) c.args.slot) _ c.in-Err.error c.in-Err.ensures.refused)
