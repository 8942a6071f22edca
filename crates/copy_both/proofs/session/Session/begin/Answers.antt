use Rattle.std.proofs.Common.{◌≡◌, ℕ, List, ◌++◌, length, max, subst, sym, ap, ◌∙◌, Some, None}
use Rattle.shard_checker.specs.CheckedView.{CheckedOf}
use Rattle.tables_log.specs.BookView.{book_log, book_slots}
use Rattle.tables_log.specs.Lsn.{end_lsn_of}
use Rattle.tables_log.specs.Slots.{confirmed_at, start_fault}
use Rattle.copy_both.specs.Refusals.{RefusalOf, state_of, error_response}
use Rattle.copy_both.specs.Sessions.{served_by}
use Rattle.copy_both.specs.StartOrder.{slot_name, book_refusal}
use Rattle.copy_both.proofs.StartLemmas.{refused_begin, refused_start, taken_begin}
use Rattle.copy_both.proofs.session.Session.begin.Goals as goal

pub returns-in-Refused-clause-begun : goal.returns-in-Refused-clause-begun
returns-in-Refused-clause-begun c =
    refused_begin (served_by c.args.self.now c.args.book.now) (book_slots c.args.book.now) c.args.frame.now.kind
    c.args.frame.now.body c.in-Refused.state
    c.args.self.now.response.items c.ask.new.self.response.items
    (sym c.in-Refused.is ∙ c.in_ok-state.ensures.asked) c.in_ok-state.ensures.ok

pub returns-in-Ok-clause-begun : goal.returns-in-Ok-clause-begun
returns-in-Ok-clause-begun c =
    let slots = book_slots c.args.book.now in
    let slot : ℕ = c.in-Stream.slot in
    rw c.new.ensures
    (taken_begin (served_by c.args.self.now c.args.book.now) slots (book_slots c.start.new.self) c.args.frame.now.kind
    c.args.frame.now.body slot c.in-Stream.position c.in-Ok.start c.args.self.now.response.items
    c.ask.new.self.response.items (sym c.in-Stream.is ∙ c.in_ok-state.ensures.asked)
    (subst (λ (p : ℕ). start_fault slots (end_lsn_of (length (book_log c.args.book.now))) slot p ≡ None)
    c.to_u64.ensures c.in-Ok.ensures.accepted)
    (subst (λ (p : ℕ). c.in-Ok.start ≡ max p (confirmed_at slots slot)) c.to_u64.ensures c.in-Ok.ensures.at)
    c.in-Ok.ensures.ok.slots_are c.in_ok-state.ensures.ok)

pub returns-in_ok-refuse-in-Err-clause-begun : goal.returns-in_ok-refuse-in-Err-clause-begun
returns-in_ok-refuse-in-Err-clause-begun c =
    let refusal : CheckedOf → RefusalOf =
    λ k. book_refusal (slot_name k.catalog.subscriptions c.in-Stream.slot) c.in-Err.error in
    let middle : List ℕ = c.ask.new.self.response.items in
    let slots = book_slots c.args.book.now in
    let slot : ℕ = c.in-Stream.slot in
    refused_start (served_by c.args.self.now c.args.book.now) (book_slots c.args.book.now)
    (book_slots c.start.new.self) c.args.frame.now.kind c.args.frame.now.body
    c.in-Stream.slot c.in-Stream.position c.in-Err.error c.in_ok-refuse-in-Err.field-0 c.args.self.now.response.items
    middle c.refuse.new.self.response.items
    (sym c.in-Stream.is ∙ c.in_ok-state.ensures.asked)
    (subst (λ (p : ℕ).
    start_fault slots (end_lsn_of (length (book_log c.args.book.now))) slot p ≡ Some c.in-Err.error)
    c.to_u64.ensures c.in-Err.ensures.refused) c.in-Err.ensures.err.slots_are
    c.in_ok-state.ensures.ok
    (c.in_ok-refuse-in-Err.ensures.state
    ∙ ap (λ (k : CheckedOf). state_of (refusal k)) c.in_ok-state.ensures.kept.checked)
    (c.in_ok-refuse-in-Err.ensures.ok
    ∙ ap (λ (k : CheckedOf). middle ++ error_response (refusal k)) c.in_ok-state.ensures.kept.checked)
