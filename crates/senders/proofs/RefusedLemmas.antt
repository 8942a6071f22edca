-- What came of a connection on which no stream was started.
use Rattle.std.proofs.Common.{◌≡◌, ℕ, List, [], map, refl, sym, ◌∙◌, ap, subst, inl, inr}
use Rattle.std.specs.Prelude.{Bool, false, Option, Some, None}
use Rattle.std.specs.Arc.{arc_value}
use Rattle.std.specs.Io.KnownBytes.{Appends}
use Rattle.std.proofs.KnownBytes.{Appends-nil, Consumes-nil}
use Rattle.shard_checker.specs.CheckedView.{CheckedOf}
use Rattle.copy_both.specs.Ears.{ear_confirmed, ear_refusal, ear_started}
use Rattle.copy_both.specs.HeardFrames.{BooksOf, IsAnswered, frames_in}
use Rattle.copy_both.specs.declared.link_fault.LinkFault.{LinkFault}
use Rattle.copy_both.specs.declared.link_fault.LinkFault.TheVariants as fault
use Rattle.senders.specs.declared.end.End.{End}
use Rattle.senders.specs.declared.end.End.TheVariants as end
use Rattle.senders.specs.declared.outcome.Outcome.{Outcome}
use Rattle.senders.specs.Confirming.{FitsEnd, ReportsIf}
use Rattle.senders.specs.Listening.{EndsAt, EndsFor, HasListened, HasSentNone, RefusesLast}
use Rattle.senders.specs.Hearing.{HoldsFault}
use Rattle.senders.specs.Refusing.{AnswersAs, cause_by, fault_by}
use Rattle.senders.specs.Results.{book_seen, books_seen, commits_of, served_of}
use Rattle.senders.specs.Serving.{HasAskedNothing, IsUnstartedAnswer, IsEndCause, IsServed, IsServedFor, IsWritten, started_of}
use Rattle.senders.specs.declared.listener_end.ListenerEnd.{ListenerEnd}
use Rattle.senders.specs.declared.listener_end.ListenerEnd.TheVariants as listener_end
use Rattle.senders.specs.declared.listener.Listener.{Listener}
use Rattle.publisher_desk.specs.Viewers.{ViewerOf, new_viewer}
use Rattle.senders.proofs.ConfirmingLemmas.{fault_end, listener_fits}
use Rattle.senders.proofs.ServingLemmas.{heard_cause}

-- what was written for this end
record Answered (checked : CheckedOf) (known : BooksOf) (bytes : List ℕ) (before after : Option (List ℕ))
    (failed : Bool) (why : End) : Type 0 where
  written : List ℕ
  put : Appends before after written
  answer : IsUnstartedAnswer checked known (frames_in bytes) written failed why

module _ (checked : CheckedOf) (known : BooksOf) (bytes : List ℕ) (before after : Option (List ℕ)) (failed : Bool)
    (response : List ℕ) where
  by_fault : (f : LinkFault) → IsAnswered checked known (frames_in bytes) response f
      → AnswersAs (listener_end.Fault f) before after failed response
      → Answered checked known bytes before after failed (end.Link f)
  by_fault (fault.BadStart state) ends answers = record {
    written = answers.written;
    put = answers.put;
    answer = record {
      start = ends.refused;
      rest = answers.rest;
      bytes = answers.bytes_are ∙ ends.response_is;
      all = answers.all;
    };
  }
  by_fault fault.FrameTooLong ends answers = record { written = []; put = answers; answer = refl }
  by_fault fault.BadLength ends answers = record { written = []; put = answers; answer = refl }
  by_fault (fault.Unexpected byte) ends answers = record { written = []; put = answers; answer = refl }
  by_fault fault.StatusAhead ends answers = record { written = []; put = answers; answer = refl }
  by_fault fault.Closed ends answers = record { written = []; put = answers; answer = refl }
  by_fault fault.OutOfMemory ends answers = record { written = []; put = answers; answer = refl }

  answered : (why : ListenerEnd)
      → ((f : LinkFault) → why ≡ listener_end.Fault f → IsAnswered checked known (frames_in bytes) response f)
      → AnswersAs why before after failed response → Answered checked known bytes before after failed (cause_by why)
  answered listener_end.SourceFailed ends answers = record { written = []; put = answers; answer = refl }
  answered listener_end.SourceEnded ends answers = record { written = []; put = answers; answer = refl }
  answered (listener_end.Frame kind) ends answers = record { written = []; put = answers; answer = refl }
  answered (listener_end.Fault f) ends answers = by_fault f (ends f refl) answers

-- the answer to a start that was refused is that of the book that was seen last
last_answered : (checked : CheckedOf) (viewer : ViewerOf) (bytes : List ℕ) (listener : Listener) (why : ListenerEnd)
    → RefusesLast checked viewer bytes listener why → ear_started listener.ear ≡ None → (f : LinkFault)
    → why ≡ listener_end.Fault f → IsAnswered checked (book_seen viewer) (frames_in bytes) (ear_refusal listener.ear) f
last_answered checked viewer bytes listener why refuses none f is =
    (subst (RefusesLast checked viewer bytes listener) is refuses none).0

asked_nothing : (bytes : List ℕ) (why : ListenerEnd) → HasSentNone bytes why → HasAskedNothing bytes (cause_by why)
asked_nothing bytes listener_end.SourceFailed none = none
asked_nothing bytes listener_end.SourceEnded none = inl none
asked_nothing bytes (listener_end.Frame kind) none = inr none
asked_nothing bytes (listener_end.Fault f) none = none

module _ (checked : CheckedOf) (bytes : List ℕ) (source_failed source_ended : Bool) (before after : Option (List ℕ))
    (failed : Bool) (outcome : Outcome) (sent : ℕ) (is_requested : Bool) (confirmed number : ℕ) (viewer : ViewerOf)
    (unconfirmed : confirmed ≡ 0)
    (faults : (found : LinkFault) → outcome.fault ≡ Some found
    → HoldsFault checked (books_seen viewer) bytes None found) (fits : FitsEnd outcome.end outcome.fault)
    (no_slot : outcome.slot ≡ None) (no_start : outcome.start ≡ None) (none : outcome.taken.items ≡ []) where
  abbrev known : BooksOf
  known = books_seen viewer

  unstarted : Answered checked (book_seen viewer) bytes before after failed outcome.end
      → HasAskedNothing bytes outcome.end
      → IsEndCause checked known bytes None source_failed source_ended failed outcome.end
      → IsServedFor checked bytes source_failed source_ended before after failed
      (served_of outcome sent is_requested confirmed number viewer)
  unstarted answer asked cause = record {
    written = answer.written;
    put = answer.put;
    is = subst (λ (o : Option ℕ). IsWritten checked known (book_seen viewer) (frames_in bytes) o outcome.start
        (commits_of outcome) answer.written failed outcome.end) (sym no_slot)
        (subst (λ (o : Option ℕ). IsWritten checked known (book_seen viewer) (frames_in bytes) None o
        (commits_of outcome) answer.written failed outcome.end) (sym no_start)
        (record { none = ap (map (λ commit. arc_value commit)) none; answer = answer.answer }));
    cause = subst (λ (o : Option ℕ). IsEndCause checked known bytes (started_of o outcome.start) source_failed
        source_ended failed outcome.end) (sym no_slot) cause;
    requested = λ slot start some begins says. cc;
    reports = subst (λ (o : Option ℕ). ReportsIf (started_of o outcome.start) number viewer.events bytes outcome.fault
        confirmed)
        (sym no_slot) unconfirmed;
    fits = fits;
    fault = λ found is. subst (λ (o : Option ℕ). HoldsFault checked known bytes (started_of o outcome.start) found)
        (sym no_slot) (faults found is);
    asked = λ none. asked;
    heard = λ slot some finished. cc;
    left = λ slot some sound client. cc;
  }

-- the connection ended before a stream was started
pub served_refused : (checked : CheckedOf) (was now : ViewerOf) (left now_left : Option (List ℕ))
    (source_failed source_ended : Bool)
    (before after : Option (List ℕ)) (failed : Bool) (old new : Listener) (outcome : Outcome) (sent : ℕ) (is_requested : Bool)
    (confirmed number : ℕ) (why : ListenerEnd) → confirmed ≡ ear_confirmed new.ear
    → HasListened checked was [] old → EndsAt checked was now left now_left source_failed source_ended old new None why
    → AnswersAs why before after failed (ear_refusal new.ear)
    → outcome.slot ≡ None → outcome.start ≡ None → outcome.taken.items ≡ [] → outcome.end ≡ cause_by why
    → outcome.fault ≡ fault_by why
    → IsServed checked left now_left source_failed source_ended before after failed
    (served_of outcome sent is_requested confirmed number now)
served_refused checked was now left now_left source_failed source_ended before after failed old new outcome
    sent is_requested confirmed number why noted fresh at answers no_slot no_start none same fault_is =
    let bytes : List ℕ = at.hears.more in
    let known = books_seen now in
    let all = at.hears.ends [] fresh in
    let ends : EndsFor checked known bytes None (ear_refusal new.ear) source_failed source_ended why =
    subst (λ (o : Option (ℕ × ℕ)). EndsFor checked known bytes o (ear_refusal new.ear) source_failed source_ended why)
    at.started_is all.ends in
    record {
      bytes = bytes;
      read = at.hears.read;
      served_for = unstarted checked bytes source_failed source_ended before after failed outcome sent is_requested
          confirmed number now
          (noted ∙ subst (λ (o : Option (ℕ × ℕ)). ReportsIf o new.number now.events bytes (fault_by why)
          (ear_confirmed new.ear))
          at.started_is all.reports)
          (λ found is. (subst (EndsFor checked known bytes None (ear_refusal new.ear) source_failed source_ended)
          (fault_end why found (sym fault_is ∙ is)) ends).holds)
          (subst (λ (e : End). FitsEnd e outcome.fault) (sym same)
          (subst (FitsEnd (cause_by why)) (sym fault_is) (listener_fits why)))
          no_slot no_start none
          (subst (Answered checked (book_seen now) bytes before after failed) (sym same)
          (answered checked (book_seen now) bytes before after failed (ear_refusal new.ear) why
          (last_answered checked now bytes new why all.refuses at.started_is) answers))
          (subst (HasAskedNothing bytes) (sym same) (asked_nothing bytes why (all.none at.started_is)))
          (subst (IsEndCause checked known bytes None source_failed source_ended failed) (sym same)
          (heard_cause checked known bytes None (ear_refusal new.ear) source_failed source_ended failed why ends));
    }

-- no byte was read
pub served_nothing : (checked : CheckedOf) (left : Option (List ℕ)) (source_failed source_ended : Bool)
    (before : Option (List ℕ)) (failed : Bool) (outcome : Outcome)
    → outcome.slot ≡ None → outcome.start ≡ None → outcome.taken.items ≡ [] → outcome.end ≡ end.Link fault.OutOfMemory
    → outcome.fault ≡ None
    → IsServed checked left left source_failed source_ended before before failed (served_of outcome 0 false 0 0 new_viewer)
served_nothing checked left source_failed source_ended before failed outcome no_slot no_start none same sound = record {
  bytes = [];
  read = Consumes-nil left;
  served_for = unstarted checked [] source_failed source_ended before before failed outcome 0 false 0 0 new_viewer
      refl (λ found is. absurd (let no : None ≡ Some found = sym sound ∙ is in cc))
      (subst (λ (e : End). FitsEnd e outcome.fault) (sym same) tt) no_slot no_start none
      (subst (Answered checked (book_seen new_viewer) [] before before failed) (sym same)
      (record { written = []; put = Appends-nil before; answer = refl }))
      (subst (HasAskedNothing []) (sym same) tt)
      (subst (IsEndCause checked (books_seen new_viewer) [] None source_failed source_ended failed) (sym same) (record {
        transactions = [];
        begins = record { later = []; log_is = refl };
        accepted = tt;
        sent = 0;
        from = tt;
        has = tt;
        reaches = λ ahead. tt;
      }));
}
