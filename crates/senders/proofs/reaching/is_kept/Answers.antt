use Rattle.std.proofs.Common.{◌≡◌, ◌∙◌, Bor, List, ap, leb, map, subst, sym, ℕ}
use Rattle.std.specs.Prelude.{MatchBool}
use Rattle.tables_log.specs.BookView.{book_slots}
use Rattle.tables_log.specs.Lsn.{commits_before}
use Rattle.tables_log.specs.declared.slots.Slot.{Slot}
use Rattle.senders.specs.Reached.{EndsReached}
use Rattle.senders.specs.Results.{ServedOf}
use Rattle.senders.proofs.ResumeLemmas.{kept_so}
use Rattle.senders.proofs.reaching.is_kept.Goals as goal

pub returns : goal.returns
returns g c =
    let order : List ServedOf = map (λ (one : Bor ServedOf). one.now) c.args.starts.now in
    let slots : List Slot = book_slots c.args.book.now in
    let before : c.commits_before.result ≡ commits_before c.confirmed.result =
    c.commits_before.ensures.exact ∙ ap commits_before c.new.ensures in
    subst (λ (n : ℕ). MatchBool (leb n c.in-Some.reach) (EndsReached order slots c.args.slot)
    (¬ EndsReached order slots c.args.slot)) (sym before)
    (kept_so order slots c.args.slot c.in-Some.reach c.confirmed.result c.in-Some.ensures.reach
    c.confirmed.ensures.shows)
