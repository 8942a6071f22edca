-- What a connection has seen stays so as it sees more, and the commits that it took are those of the log.
use Rattle.std.proofs.Common.{◌≡◌, ◌≢◌, ℕ, zero, suc, ◌-◌, ◌<◌, ◌≤◌, List, [], ◌∷◌, ◌++◌, length, map, take, drop, get_or, min, Bool, refl, sym, ◌∙◌, ap, subst, append_assoc, append-nil, arith}
use Rattle.std.specs.Prelude.{◌==◌, if◌then◌else◌, All, Contains, Option, Some, None, slice_get}
use Rattle.std.proofs.lemmas.List.{map-append}
use Rattle.std.proofs.lemmas.List.Elements.{All-append, All-cons, All-nil}
use Rattle.filter_tree.proofs.Tests.{by_test}
use Rattle.shard_checker.specs.CheckedView.{CheckedOf}
use Rattle.replica_identity.specs.Plans.{PlanOf}
use Rattle.tables_log.specs.Commits.{CommitOf}
use Rattle.tables_log.proofs.PlaceLemmas.{number_apart}
use Rattle.tables_log.specs.Logs.{entry_at}
use Rattle.tables_log.specs.Routes.{ArePassed, passed_over}
use Rattle.tables_log.specs.StandsFor.{Transaction}
use Rattle.tables_log.specs.Lsn.{end_lsn_of}
use Rattle.tables_log.specs.declared.book.Book.{Book}
use Rattle.copy_frames.specs.declared.frame.Frame.{Frame}
use Rattle.copy_both.specs.Ears.{ear_started}
use Rattle.copy_both.specs.HeardFrames.{AsksFor, AsksIfStarted, BooksOf, HasHeard, HasLinkFault, IsAnswered, IsBeginning, IsBookFor, IsRefusedStart, IsStartedBy, frames_in}
use Rattle.copy_both.specs.declared.ear.Ear.{Ear}
use Rattle.copy_both.specs.declared.link_fault.LinkFault.{LinkFault}
use Rattle.copy_both.specs.declared.link_fault.LinkFault.TheVariants as fault
use Rattle.copy_both.specs.declared.sql_state.SqlState.{SqlState}
use Rattle.copy_both.specs.VoiceLaws.{AreAt, Follow}
use Rattle.publisher_desk.specs.Receipts.{ReceiptOf, transactions_of}
use Rattle.publisher_desk.specs.Sights.{StartsWith}
use Rattle.publisher_desk.specs.SlotEvents.{no_use, use_by, uses_from, uses_in}
use Rattle.publisher_desk.specs.Viewers.{SeesMore, ViewerOf, log_seen}
use Rattle.publisher_desk.specs.declared.slot_event.SlotEvent.{SlotEvent}
use Rattle.publisher_desk.proofs.LoggedLemmas.{transactions_append}
use Rattle.senders.proofs.BeginningLemmas.{get_longer, log_goes_on}
use Rattle.senders.specs.Hearing.{Faults, HoldsFault}
use Rattle.senders.specs.Listening.{EndsFor}
use Rattle.senders.specs.Results.{books_seen}
use Rattle.senders.specs.Sending.{AreLogged, IsLogged, TakesLogged}
use Rattle.senders.specs.declared.listener_end.ListenerEnd.{ListenerEnd}
use Rattle.senders.specs.declared.listener_end.ListenerEnd.TheVariants as listener_end

-- ---- a longer log

pub logged_more : (checked : CheckedOf) (new old : List ReceiptOf) (commits : List CommitOf) → StartsWith new old
    → AreLogged checked old commits → AreLogged checked new commits
logged_more checked new old commits begins logged place other low =
    let longer = log_goes_on checked new old begins in
    let one = logged place other low in
    subst (λ (log : List CommitOf). IsLogged log (get_or commits place other)) (sym longer.is) (record {
      place = one.place;
      number_is = one.number_is;
      at = get_longer (log_seen checked old) longer.others one.place (get_or commits place other) one.at;
    })

-- ---- commits of the log

-- each at its number, as they follow one another
pub logged_at : (checked : CheckedOf) (seen : List ReceiptOf) (count : ℕ) (commits : List CommitOf)
    → Follow count commits → AreLogged checked seen commits → AreAt (log_seen checked seen) count commits
logged_at checked seen count [] follow logged = tt
logged_at checked seen count (commit ∷ commits) follow logged =
    let one = logged 0 commit (omega arith) in
    let same : one.place ≡ count = let next = follow.0 in let number = one.number_is in omega (arith, next, number) in (
      subst (λ (place : ℕ). slice_get (log_seen checked seen) place ≡ Some commit) same one.at,
      logged_at checked seen (suc count) commits follow.1
          (λ place other low. logged (suc place) other (omega (arith, low))),
    )

pub entry_logged : (log : List CommitOf) (number : ℕ) (commit : CommitOf) → entry_at log number ≡ Some commit
    → commit.number ≡ number → IsLogged log commit
entry_logged log number commit found is = by_test (number == 0)
    (λ zero_is. absurd (let none : Some commit ≡ None = sym found
    ∙ ap (λ b. if b then None else slice_get log (number - 1)) zero_is in cc))
    (λ some.
    let apart : number ≢ 0 = number_apart number 0 some in
    record {
      place = number - 1;
      number_is = omega (arith, is, apart);
      at = sym (sym found ∙ ap (λ b. if b then None else slice_get log (number - 1)) some);
    })

at_shift : (first : CommitOf) (log : List CommitOf) (place : ℕ) (commits : List CommitOf) → AreAt log place commits
    → AreAt (first ∷ log) (suc place) commits
at_shift first log place [] at = tt
at_shift first log place (commit ∷ commits) at = (at.0, at_shift first log (suc place) commits at.1)

at_self : (log : List CommitOf) → AreAt log 0 log
at_self [] = tt
at_self (commit ∷ log) = (refl, at_shift commit log 0 log (at_self log))

at_drop : (log : List CommitOf) (done : ℕ) → AreAt log done (drop done log)
at_drop log zero = at_self log
at_drop [] (suc done) = tt
at_drop (commit ∷ log) (suc done) = at_shift commit log done (drop done log) (at_drop log done)

at_take : (log : List CommitOf) (place count : ℕ) (commits : List CommitOf) → AreAt log place commits
    → AreAt log place (take count commits)
at_take log place zero commits at = tt
at_take log place (suc count) [] at = tt
at_take log place (suc count) (commit ∷ commits) at = (at.0, at_take log (suc place) count commits at.1)

numbered_logged : (log : List CommitOf) (plan : PlanOf) (slot done : ℕ) (commits : List CommitOf)
    → AreAt log done commits → ArePassed plan slot done commits → All (IsLogged log) commits
numbered_logged log plan slot done [] at passed place other low = absurd (omega (arith, low))
numbered_logged log plan slot done (commit ∷ commits) at passed zero other low =
    record { place = done; number_is = passed.0.0; at = at.0 }
numbered_logged log plan slot done (commit ∷ commits) at passed (suc place) other low =
    numbered_logged log plan slot (suc done) commits at.1 passed.1 place other (omega (arith, low))

-- the commits that are passed over
pub passed_logged : (checked : CheckedOf) (seen : List ReceiptOf) (plan : PlanOf) (slot number : ℕ)
    (commits : List CommitOf) → commits ≡ passed_over plan slot (log_seen checked seen) (number - 1)
    → ArePassed plan slot (number - 1) commits → AreLogged checked seen commits
passed_logged checked seen plan slot number commits are passed =
    let log = log_seen checked seen in
    let next = take 64 (drop (number - 1) log) in
    numbered_logged log plan slot (number - 1) commits
    (subst (λ (list : List CommitOf). AreAt log (number - 1) list) (sym are)
    (at_take log (number - 1) (_) next
    (at_take log (number - 1) 64 (drop (number - 1) log) (at_drop log (number - 1))))) passed

-- what a sender has taken, as it sees more and takes more
pub takes_first : (checked : CheckedOf) (viewer : ViewerOf) (taken : List CommitOf) → taken ≡ []
    → TakesLogged checked viewer viewer taken
takes_first checked viewer taken none = record {
  sees = record { log = ([], sym (append-nil viewer.seen)); slots = ([], sym (append-nil viewer.events)) };
  logged = subst (AreLogged checked viewer.seen) (sym none) (All-nil (IsLogged (log_seen checked viewer.seen)));
}

module _ (checked : CheckedOf) (first was now : ViewerOf) (sees : SeesMore was now) (taken : List CommitOf)
    (before : TakesLogged checked first was taken) where
  pub takes_kept : (same : List CommitOf) → same ≡ taken → TakesLogged checked first now same
  takes_kept same is = subst (TakesLogged checked first now) (sym is) (record {
    sees = record {
      log = (
        before.sees.log.0 ++ sees.log.0,
        sees.log.1 ∙ (ap (λ (list : List ReceiptOf). list ++ sees.log.0) before.sees.log.1
            ∙ append_assoc first.seen before.sees.log.0 sees.log.0),
      );
      slots = (
        before.sees.slots.0 ++ sees.slots.0,
        sees.slots.1 ∙ (ap (λ (list : List SlotEvent). list ++ sees.slots.0) before.sees.slots.1
            ∙ append_assoc first.events before.sees.slots.0 sees.slots.0),
      );
    };
    logged = logged_more checked now.seen was.seen taken sees.log before.logged;
  })

  pub takes_more : (more all : List CommitOf) → AreLogged checked now.seen more → all ≡ taken ++ more
      → TakesLogged checked first now all
  takes_more more all logged is = subst (TakesLogged checked first now) (sym is) (record {
    sees = (takes_kept taken refl).sees;
    logged = All-append (IsLogged (log_seen checked now.seen)) taken more (takes_kept taken refl).logged logged;
  })

  -- one commit, or those that are passed over, of a list of references
  module _ {X : Type 0} (view : X → CommitOf) (old new : List X) (taken_is : map view old ≡ taken) where
    pub takes_entry : (pushed : X) (commit : CommitOf) → view pushed ≡ commit → new ≡ old ++ pushed ∷ []
        → IsLogged (log_seen checked now.seen) commit → TakesLogged checked first now (map view new)
    takes_entry pushed commit is pushes logged =
        takes_more (commit ∷ []) (map view new) (All-cons (IsLogged (log_seen checked now.seen)) commit [] logged (All-nil (IsLogged (log_seen checked now.seen))))
        (ap (map view) pushes ∙ (map-append view old (pushed ∷ [])
        ∙ (ap (λ (list : List CommitOf). list ++ view pushed ∷ []) taken_is
        ∙ ap (λ (one : CommitOf). taken ++ one ∷ []) is)))

    pub takes_passed : (passed : List X) → new ≡ old ++ passed → AreLogged checked now.seen (map view passed)
        → TakesLogged checked first now (map view new)
    takes_passed passed pushes logged =
        takes_more (map view passed) (map view new) logged
        (ap (map view) pushes ∙ (map-append view old passed
        ∙ ap (λ (list : List CommitOf). list ++ map view passed) taken_is))

-- ---- more books

uses_front : (used : ℕ → Bool) (events more : List SlotEvent) (place : ℕ) (other : ℕ → Bool)
    → place < length (uses_from used events)
    → get_or (uses_from used (events ++ more)) place other ≡ get_or (uses_from used events) place other
uses_front used [] [] place other low = refl
uses_front used [] (event ∷ more) zero other low = refl
uses_front used [] (event ∷ more) (suc place) other low = absurd (omega (arith, low))
uses_front used (event ∷ events) more zero other low = refl
uses_front used (event ∷ events) more (suc place) other low =
    uses_front (use_by event used) events more place other (omega (arith, low))

uses_longer : (used : ℕ → Bool) (events more : List SlotEvent)
    → length (uses_from used events) ≤ length (uses_from used (events ++ more))
uses_longer used [] [] = omega arith
uses_longer used [] (event ∷ more) = omega arith
uses_longer used (event ∷ events) more = let rest = uses_longer (use_by event used) events more in omega (arith, rest)

-- a publisher that has had more books
pub record AreMore (old new : BooksOf) : Type 0 where
  pub log : (transactions : List Transaction) → IsBeginning old.log transactions → IsBeginning new.log transactions
  pub fewer : new.least ≤ old.least
  pub uses : (test : ℕ → Bool) → Contains old.uses test → Contains new.uses test

pub books_more : (old new : ViewerOf) → SeesMore old new → AreMore (books_seen old) (books_seen new)
books_more old new sees = record {
  log = λ transactions begins. record {
    later = begins.later ++ transactions_of sees.log.0;
    log_is = ap transactions_of sees.log.1
        ∙ (transactions_append old.seen sees.log.0
        ∙ (ap (λ (list : List Transaction). list ++ transactions_of sees.log.0) begins.log_is
        ∙ append_assoc transactions begins.later (transactions_of sees.log.0)));
  };
  fewer = omega arith;
  uses = λ test among.
      let longer : List SlotEvent = old.events ++ sees.slots.0 in
      let long = uses_longer no_use old.events sees.slots.0 in
      let below = among.1 in
      subst (λ (events : List SlotEvent). Contains (uses_in events) test) (sym sees.slots.1) (
        among.0,
        omega (arith, below, long),
        uses_front no_use old.events sees.slots.0 among.0 test below ∙ among.2,
      );
}

-- what it has seen is no less than what it had seen before
pub same_books : (viewer : ViewerOf) → AreMore (books_seen viewer) (books_seen viewer)
same_books viewer = record { log = λ transactions begins. begins; fewer = omega arith; uses = λ test among. among }

pub sees_same : (viewer : ViewerOf) → SeesMore viewer viewer
sees_same viewer = record {
  log = ([], sym (append-nil viewer.seen));
  slots = ([], sym (append-nil viewer.events));
}

pub sees_on : (first second third : ViewerOf) → SeesMore first second → SeesMore second third → SeesMore first third
sees_on first second third one two = record {
  log = (
    one.log.0 ++ two.log.0,
    two.log.1 ∙ (ap (λ (list : List ReceiptOf). list ++ two.log.0) one.log.1
        ∙ append_assoc first.seen one.log.0 two.log.0),
  );
  slots = (
    one.slots.0 ++ two.slots.0,
    two.slots.1 ∙ (ap (λ (list : List SlotEvent). list ++ two.slots.0) one.slots.1
        ∙ append_assoc first.events one.slots.0 two.slots.0),
  );
}

-- ---- what bytes say, by more books

module _ (checked : CheckedOf) (old new : BooksOf) (more : AreMore old new) where
  book_still : (book : Book) → IsBookFor checked old book → IsBookFor checked new book
  book_still book is = record {
    named = is.named;
    each = is.each;
    transactions = is.transactions;
    stands = is.stands;
    begins = more.log is.transactions is.begins;
    enough = let fewer = more.fewer in let enough = is.enough in omega (arith, fewer, enough);
    used = is.used;
    among = more.uses is.used is.among;
    slots_are = is.slots_are;
  }

  pub asks_still : (frames : List Frame) (slot start : ℕ) → AsksFor checked old frames slot start
      → AsksFor checked new frames slot start
  asks_still frames slot start asks = record {
    frame = asks.frame;
    first = asks.first;
    query = asks.query;
    book = asks.book;
    is = book_still asks.book asks.is;
    begins = asks.begins;
  }

  pub started_still : (frames : List Frame) (started : Option (ℕ × ℕ)) → IsStartedBy checked old frames started
      → IsStartedBy checked new frames started
  started_still frames None by = by
  started_still frames (Some started) by = asks_still frames started.0 started.1 by

  pub asked_still : (frames : List Frame) (started : Option (ℕ × ℕ)) → AsksIfStarted checked old frames started
      → AsksIfStarted checked new frames started
  asked_still frames None asks = asks
  asked_still frames (Some started) asks = asks_still frames started.0 started.1 asks

  pub heard_still : (bytes : List ℕ) (ear : Ear) → HasHeard checked old bytes ear → HasHeard checked new bytes ear
  heard_still bytes ear has = record {
    checked_is = has.checked_is;
    phase_is = has.phase_is;
    held = has.held;
    good = has.good;
    started = started_still (frames_in bytes) (ear_started ear) has.started;
  }

  abbrev refused_still : (frames : List Frame) (state : SqlState) → IsRefusedStart checked old frames state
      → IsRefusedStart checked new frames state
  refused_still frames state refused = record {
    frame = refused.frame;
    first = refused.first;
    book = refused.book;
    is = book_still refused.book refused.is;
    refusal = refused.refusal;
    no_end = refused.no_end;
    refuses = refused.refuses;
    state_is = refused.state_is;
  }

  fault_still : (bytes : List ℕ) (reach : ℕ) (f : LinkFault) → HasLinkFault checked old bytes reach f
      → HasLinkFault checked new bytes reach f
  fault_still bytes reach fault.FrameTooLong has = has
  fault_still bytes reach fault.BadLength has = has
  fault_still bytes reach (fault.Unexpected byte) has = has
  fault_still bytes reach (fault.BadStart state) has = refused_still (frames_in bytes) state has
  fault_still bytes reach fault.StatusAhead has = has
  fault_still bytes reach fault.Closed has = has
  fault_still bytes reach fault.OutOfMemory has = has

  pub holds_still : (bytes : List ℕ) (started : Option (ℕ × ℕ)) (f : LinkFault)
      → HoldsFault checked old bytes started f → HoldsFault checked new bytes started f
  holds_still bytes started f holds = record {
    transactions = holds.transactions;
    begins = more.log holds.transactions holds.begins;
    accepted = holds.accepted;
    sent = holds.sent;
    from = holds.from;
    has = fault_still bytes (min holds.sent (end_lsn_of (length holds.transactions))) f holds.has;
    reaches = holds.reaches;
  }

  answered_still : (frames : List Frame) (response : List ℕ) (f : LinkFault) → IsAnswered checked old frames response f
      → IsAnswered checked new frames response f
  answered_still frames response fault.FrameTooLong answered = answered
  answered_still frames response fault.BadLength answered = answered
  answered_still frames response (fault.Unexpected byte) answered = answered
  answered_still frames response (fault.BadStart state) answered = record {
    refused = refused_still frames state answered.refused;
    response_is = answered.response_is;
  }
  answered_still frames response fault.StatusAhead answered = answered
  answered_still frames response fault.Closed answered = answered
  answered_still frames response fault.OutOfMemory answered = answered

  pub faults_still : (bytes : List ℕ) (started : Option (ℕ × ℕ)) (response : List ℕ) (f : LinkFault)
      → Faults checked old bytes started response f → Faults checked new bytes started response f
  faults_still bytes started response f faults = record {
    holds = holds_still bytes started f faults.holds;
    answered = answered_still (frames_in bytes) response f faults.answered;
  }

  pub ends_still : (bytes : List ℕ) (started : Option (ℕ × ℕ)) (response : List ℕ) (failed ended : Bool)
      (why : ListenerEnd) → EndsFor checked old bytes started response failed ended why
      → EndsFor checked new bytes started response failed ended why
  ends_still bytes started response failed ended listener_end.SourceFailed ends = ends
  ends_still bytes started response failed ended listener_end.SourceEnded ends = ends
  ends_still bytes started response failed ended (listener_end.Frame kind) ends = ends
  ends_still bytes started response failed ended (listener_end.Fault f) ends =
      faults_still bytes started response f ends
