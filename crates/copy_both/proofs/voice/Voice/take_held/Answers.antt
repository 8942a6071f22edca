use Rattle.std.proofs.Common.{ℕ, ap, sym, ◌∙◌}
use Rattle.std.specs.Prelude.{Ok}
use Rattle.tables_log.specs.BookView.{book_checked, book_log}
use Rattle.copy_both.specs.Voices.{voice_checked, voice_stage}
use Rattle.copy_both.specs.declared.taken.Taken.TheVariants.{Skipped}
use Rattle.copy_both.proofs.SkipLemmas.{routed_alike, spared_answer, spared_is_quiet, spared_is_read_back}
use Rattle.copy_both.proofs.voice.Voice.take_held.Goals as goal

pub returns-then-is_spared-clause-answer : goal.returns-then-is_spared-clause-answer
returns-then-is_spared-clause-answer c =
    spared_answer (voice_checked c.args.self.now) (book_checked c.args.book.now) (book_log c.args.book.now)
    c.args.commit.now c.number-number.result c.concerned.result c.concerned.ensures c.requires.alike c.requires.held
    c.number-number.ensures.shows (voice_stage c.args.self.now) (c.is_spared.ensures c.if-is_spared.true)
    ∙ ap (λ (n : ℕ). Ok (Skipped n)) (sym c.number-number.ensures.shows)

pub returns-then-is_spared-clause-ok : goal.returns-then-is_spared-clause-ok
returns-then-is_spared-clause-ok c = c.skip.ensures c.args.now

pub returns-then-is_spared-clause-read_back : goal.returns-then-is_spared-clause-read_back
returns-then-is_spared-clause-read_back c =
    spared_is_read_back (voice_checked c.args.self.now) (book_checked c.args.book.now) (book_log c.args.book.now)
    c.args.commit.now c.number-number.result c.concerned.result c.concerned.ensures c.requires.alike c.requires.held
    c.number-number.ensures.shows (voice_stage c.args.self.now) (c.is_spared.ensures c.if-is_spared.true)

pub skip-requires-clause-quiet : goal.skip-requires-clause-quiet
skip-requires-clause-quiet c =
    spared_is_quiet (voice_checked c.args.self.now) (book_checked c.args.book.now) (book_log c.args.book.now)
    c.args.commit.now c.number-number.result c.concerned.result c.concerned.ensures c.requires.alike c.requires.held
    c.number-number.ensures.shows (voice_stage c.args.self.now) (c.is_spared.ensures c.if-is_spared.true)

pub take_routed-requires-clause-routed : goal.take_routed-requires-clause-routed
take_routed-requires-clause-routed c =
    routed_alike (book_checked c.args.book.now).plan (voice_checked c.args.self.now).plan c.requires.alike
    c.in-Ok-Some.entry (rw c.in-Ok-Some.field-0-is at c.in-Ok-Some.ensures.routed)
