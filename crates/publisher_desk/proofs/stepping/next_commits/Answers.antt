use Rattle.std.proofs.Common.{◌≡◌, ◌-◌, [], length, sym, ◌∙◌, ap, subst}
use Rattle.std.specs.Arc.{arc_value}
use Rattle.std.specs.Option.{option_map}
use Rattle.std.specs.Prelude.{IfSome, Option, Some}
use Rattle.tables_log.specs.BookView.{book_checked, book_log}
use Rattle.tables_log.specs.Logs.{entry_at}
use Rattle.tables_log.specs.Routes.{IsRouted, commit_in, passed_over}
use Rattle.tables_log.specs.declared.routed.Routed.{Routed}
use Rattle.publisher_desk.proofs.StepLemmas.{entry_within, last_is, last_within, next_concerns, none_passed, some_numbered}
use Rattle.publisher_desk.proofs.stepping.next_commits.Goals as goal

pub returns-in-Some-clause-last : goal.returns-in-Some-clause-last
returns-in-Some-clause-last c =
    last_is (λ commit. arc_value commit) (book_checked c.args.book.now).plan c.args.slot c.args.number
    (length (book_log c.args.book.now)) c.number-last.result c.in_ok-passed.passed.items c.deref.result.now
    c.in-Some.last.now c.deref-in-Some.result.now c.requires.some c.deref.ensures.value c.in-Some.ensures.value
    c.deref-in-Some.ensures c.number-last.ensures.shows c.in_ok-passed.ensures.passed c.in_ok-passed.ensures.within

pub returns-in-Some-clause-within : goal.returns-in-Some-clause-within
returns-in-Some-clause-within c =
    last_within (λ commit. arc_value commit) (book_checked c.args.book.now).plan c.args.slot c.args.number
    (length (book_log c.args.book.now)) c.number-last.result c.in_ok-passed.passed.items c.deref.result.now
    c.in-Some.last.now c.deref-in-Some.result.now c.requires.some c.deref.ensures.value c.in-Some.ensures.value
    c.deref-in-Some.ensures c.number-last.ensures.shows c.in_ok-passed.ensures.passed c.in_ok-passed.ensures.within

pub returns-clause-entry : goal.returns-clause-entry
returns-clause-entry c =
    let at : entry_at (book_log c.args.book.now) c.args.number ≡ Some (commit_in c.in-Some-2.entry) =
    sym c.in_ok-entry.ensures.shows ∙ ap (option_map commit_in) c.in-Some-2.is in
    let none : passed_over (book_checked c.args.book.now).plan c.args.slot (book_log c.args.book.now)
    (c.args.number - 1) ≡ [] =
    sym c.in_ok-passed.ensures.shows
    ∙ none_passed (λ commit. arc_value commit) c.in_ok-passed.passed.items c.deref.result.now c.deref.ensures.value
    c.in_default.ensures.value in (
      at,
      next_concerns (book_checked c.args.book.now).plan c.args.slot c.args.number (book_log c.args.book.now)
          (commit_in c.in-Some-2.entry) c.requires.some at none,
    )

pub returns-clause-next : goal.returns-clause-next
returns-clause-next c =
    let at : entry_at (book_log c.args.book.now) c.args.number ≡ Some (commit_in c.in-Some-2.entry) =
    sym c.in_ok-entry.ensures.shows ∙ ap (option_map commit_in) c.in-Some-2.is in
    let none : passed_over (book_checked c.args.book.now).plan c.args.slot (book_log c.args.book.now)
    (c.args.number - 1) ≡ [] =
    sym c.in_ok-passed.ensures.shows
    ∙ none_passed (λ commit. arc_value commit) c.in_ok-passed.passed.items c.deref.result.now c.deref.ensures.value
    c.in_default.ensures.value in (
      some_numbered commit_in c.in_ok-entry.field-0 c.in-Some-2.entry c.args.number
          c.in-Some-2.is c.in_ok-entry.ensures.numbered,
      next_concerns (book_checked c.args.book.now).plan c.args.slot c.args.number (book_log c.args.book.now)
          (commit_in c.in-Some-2.entry) c.requires.some at none,
      subst (λ (found : Option Routed). IfSome found (IsRouted (book_checked c.args.book.now).plan)) c.in-Some-2.is
          c.in_ok-entry.ensures.routed,
    )

pub returns-clause-within : goal.returns-clause-within
returns-clause-within c =
    entry_within (book_log c.args.book.now) c.args.number (commit_in c.in-Some-2.entry) c.requires.some
    (sym c.in_ok-entry.ensures.shows ∙ ap (option_map commit_in) c.in-Some-2.is)
