-- The last line of a publisher that is closed, or cannot be closed.
use Rattle.std.proofs.Common.{◌≡◌, ℕ, List, [], ◌∷◌, ◌++◌, All, length, map, refl, sym, ap, subst, ◌∙◌, append-nil, arith}
use Rattle.std.proofs.lemmas.List.{get_or-map, length-map}
use Rattle.std.proofs.lemmas.List.Sorted.{length_permutation}
use Rattle.shard_checker.specs.CheckedView.{CheckedOf}
use Rattle.tables_log.specs.BookView.{book_log}
use Rattle.tables_log.specs.declared.book.Book.{Book}
use Rattle.publisher_desk.specs.Seats.{SeatOf, empty_seat}
use Rattle.publisher_desk.specs.Viewers.{ClosingOf}
use Rattle.senders.specs.CloseReasons.{RefusedClose}
use Rattle.senders.specs.Closing.{IsClosed}
use Rattle.senders.specs.Gathering.{all_receipts, receipts_in}
use Rattle.senders.specs.declared.close_error.CloseError.{CloseError}
use Rattle.senders.specs.Results.{ServedOf}
use Rattle.commands.specs.declared.failure.Status.TheVariants.{Done}
use Rattle.cli.proofs.Sessions.{receipts_are_all}
use Rattle.cli.specs.Connections.{IsFilled, WasServed}
use Rattle.cli.specs.Telling.{Closed, Differs, IsFor, IsLast, IsLastOf, IsOver, ServiceOf, closed_line}
use Rattle.cli.specs.declared.connections.ConnectionPlace.{ConnectionPlace}
use Rattle.cli.specs.declared.connections.ConnectionPlace.TheVariants.{Ended}

-- ---- what came of the connections

pub one_more : {P : Type 0} (all : List ServedOf) (one : ServedOf) (rest : List (ConnectionPlace P))
    → map Ended (all ++ one ∷ []) ++ rest ≡ map Ended all ++ Ended one ∷ rest
one_more [] one rest = refl
one_more {P} (first ∷ all) one rest = ap (λ (l : List (ConnectionPlace P)). Ended first ∷ l) (one_more all one rest)

-- places in which connections have ended have what came of them
pub all_served : {P : Type 0} (checked : CheckedOf) (served : List ServedOf)
    → All (IsFilled {P = P} checked) (map Ended served)
    → All (WasServed checked) served
all_served {P} checked served filled place other below =
    subst (λ (p : ConnectionPlace P). IsFilled checked p) (get_or-map (λ (s : ServedOf). Ended s) served place other (Ended other) below)
    (filled place (Ended other) (omega (arith, below, length-map {B = ConnectionPlace P} served (λ (s : ServedOf). Ended s))))

-- ---- how it ended

-- the log has as many commits as the session has notes
module _ (service : ServiceOf) (seat : SeatOf) (served : List ServedOf) (over : IsOver service seat served)
    (checked : CheckedOf) (limit : ℕ) (closing : ClosingOf) (is_for : IsFor service checked limit) where
  commits : (book : Book) → IsClosed checked limit closing (seat ∷ []) served book
      → length (book_log book) ≡ length seat.notes
  commits book closed =
      closed.counted ∙ (length_permutation (all_receipts (seat ∷ [])) closing.log closed.ordered.all
      ∙ (ap length (append-nil (receipts_in seat.notes))
      ∙ receipts_are_all service.checked service.limit 1 service.lists empty_seat seat over.committed refl))

  pub closed_is_last : (book : Book) → IsClosed checked limit closing (seat ∷ []) served book
      → IsLast service (closed_line (length (book_log book)) (length served)) Done
  closed_is_last book closed =
      subst (λ (n : ℕ). IsLast service (closed_line n (length served)) Done) (sym (commits book closed))
      (Closed seat served closing book over
      (subst (λ (c : CheckedOf). IsClosed c service.limit closing (seat ∷ []) served book) (sym is_for.checked_is)
      (subst (λ (l : ℕ). IsClosed checked l closing (seat ∷ []) served book) (sym is_for.limit_is) closed)))

  pub error_is_last : (error : CloseError) → RefusedClose checked limit 1000 999 closing (seat ∷ []) served error
      → IsLastOf service error
  error_is_last error refused name named =
      Differs seat served closing error name over
      (subst (λ (c : CheckedOf). RefusedClose c service.limit 1000 999 closing (seat ∷ []) served error)
      (sym is_for.checked_is)
      (subst (λ (l : ℕ). RefusedClose checked l 1000 999 closing (seat ∷ []) served error) (sym is_for.limit_is)
      refused))
      named
