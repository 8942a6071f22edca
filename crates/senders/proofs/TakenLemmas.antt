-- What connections took is what the log of their publisher has, and their streams are in its events.
use Rattle.std.proofs.Common.{◌≡◌, ℕ, ◌≤◌, List, length, get_or, refl, sym, subst, arith}
use Rattle.std.proofs.lemmas.List.Elements.{All-weaker}
use Rattle.std.specs.Prelude.{All}
use Rattle.tables_log.specs.BookView.{book_checked, book_log}
use Rattle.tables_log.specs.Commits.{CommitOf}
use Rattle.tables_log.specs.declared.book.Book.{Book}
use Rattle.copy_both.specs.VoiceLaws.{AreAt}
use Rattle.publisher_desk.specs.Seats.{SeatOf}
use Rattle.publisher_desk.specs.Viewers.{ClosingOf, IsSeenIn}
use Rattle.senders.specs.Closing.{HadStreamIn}
use Rattle.senders.specs.Histories.{AreWitnessed}
use Rattle.senders.specs.Results.{IsWitnessed, ServedOf, taken_from}
use Rattle.senders.specs.TakenCommits.{IsTaken, IsComplete}
use Rattle.senders.proofs.BeginningLemmas.{at_in_log, length_seen, stream_longer}
use Rattle.senders.proofs.LoggedLemmas.{long}

-- one that is not complete is not the log's
pub not_taken : (log : List CommitOf) (served : List ServedOf) → ¬ All (IsComplete log) served
    → ¬ All (IsTaken log) served
not_taken log served short taken =
    short (All-weaker (IsTaken log) (IsComplete log) (λ one its. its.complete) served taken)

module _ (book : Book) (closing : ClosingOf) (acquired : ℕ) (seats : List SeatOf) (served : List ServedOf)
    (told : AreWitnessed (book_checked book) closing acquired seats served book) where
  pub taken_all : All (IsComplete (book_log book)) served → All (IsTaken (book_log book)) served
  taken_all complete place other below =
      let one : ServedOf = get_or served place other in
      let its : IsWitnessed (book_checked book) one = told.witnessed place other below in
      let seen : IsSeenIn closing one.viewer = told.seen place other below in
      let few : length one.viewer.seen ≤ length closing.log =
      length_seen closing.log one.viewer.seen seen.log in
      let all : length (book_log book) ≡ length closing.log =
      long (book_checked book) closing.log book seats refl told.logged in
      record {
        within = let start = its.within in omega (arith, start, few, all);
        at = subst (λ (log : List CommitOf). AreAt log (taken_from one) one.taken) (sym told.logged.stands.log)
            (at_in_log (book_checked book) closing.log one.viewer.seen (taken_from one) one.taken seen.log
            its.taken);
        complete = complete place other below;
      }

  pub had_all : All (HadStreamIn closing.events) served
  had_all place other below =
      let one : ServedOf = get_or served place other in
      let its : IsWitnessed (book_checked book) one = told.witnessed place other below in
      let seen : IsSeenIn closing one.viewer = told.seen place other below in
      stream_longer one.slot one.start one.is_requested one.number one.confirmed one.sent (length one.viewer.seen)
      closing.events one.viewer.events seen.slots its.had
