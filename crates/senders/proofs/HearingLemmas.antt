-- What a listener has heard, piece by piece.
use Rattle.std.proofs.Common.{◌≡◌, ◌<◌, ◌≤◌, ℕ, min, List, [], ◌++◌, length, refl, sym, ◌∙◌, ap, subst, append-nil, arith}
use Rattle.std.specs.Prelude.{Option, Some, None, Result, Ok, Err, IfErr, slice_get}
use Rattle.std.proofs.Math.Nat.{le-max_left}
use Rattle.std.proofs.lemmas.Option.{slice_get_within}
use Rattle.shard_checker.specs.CheckedView.{CheckedOf, setting_in}
use Rattle.table_changes.specs.Tables.{no_rows}
use Rattle.tables_log.specs.BookView.{book_log, book_slots}
use Rattle.tables_log.specs.Lsn.{end_lsn_of}
use Rattle.tables_log.specs.Slots.{confirmed_at}
use Rattle.tables_log.specs.StandsFor.{AreAccepted}
use Rattle.tables_log.specs.declared.book.Book.{Book}
use Rattle.tables_log.specs.declared.slots.Slot.{Slot}
use Rattle.tables_log.proofs.StandLemmas.{each_is_logged}
use Rattle.copy_frames.specs.Frames.{cut, frames_of, rest_of}
use Rattle.copy_both.specs.Ears.{ear_confirmed, ear_refusal, ear_started}
use Rattle.copy_both.specs.HeardFrames.{AsksFor, BooksOf, HasLinkFault, HasHeard, Explains, IsAnswered, IsBookFor, SentNone, frames_in, reach_of, sent_then, IsStartedBy}
use Rattle.copy_both.specs.declared.ear.Ear.{Ear}
use Rattle.copy_both.specs.declared.heard.Heard.{Heard}
use Rattle.copy_both.specs.declared.link_fault.LinkFault.{LinkFault}
use Rattle.copy_both.specs.declared.link_fault.LinkFault.TheVariants as fault
use Rattle.copy_both.specs.ConfirmedFrames.{HasConfirmedAll}
use Rattle.copy_both.proofs.ConfirmedHeard.{confirmations_are_heard}
use Rattle.copy_both.proofs.PiecesHeard.{asks_stay, frames_more, late_starts_are_requested, pieces_are_heard, requests_stay}
use Rattle.copy_both.specs.Hearing.{ServedFrom, first_sent}
use Rattle.copy_both.proofs.StartBounds.{faultless_start, is_begun}
use Rattle.publisher_desk.specs.Receipts.{transactions_of}
use Rattle.publisher_desk.specs.SlotEvents.{confirmed_after, events_then, events_with, use_after}
use Rattle.publisher_desk.specs.declared.slot_event.SlotEvent.{SlotEvent}
use Rattle.publisher_desk.specs.declared.slot_event.SlotEvent.TheVariants.{Confirmed}
use Rattle.publisher_desk.proofs.EventLemmas.{use_more}
use Rattle.publisher_desk.specs.Viewers.{IsUsed, SeesMore, ViewerOf}
use Rattle.publisher_desk.specs.declared.connection_state.ConnectionState.{ConnectionState}
use Rattle.publisher_desk.specs.declared.slot_event.Acquisition.{Acquisition}
use Rattle.publisher_desk.specs.declared.slot_event.Confirmation.{Confirmation}
use Rattle.senders.specs.Hearing.{HearsPiece, IsExplained, IsSentFrom, StaysStarted, sent_after, sent_by}
use Rattle.senders.specs.Confirming.{ConfirmsBy, IsRefusedAt}
use Rattle.senders.specs.Listening.{AcquiresFor, HasListened, HeardPiece, NotesAhead, RefusesNow, SaysOfPiece, SaysRequested, piece_of}
use Rattle.senders.specs.Results.{StartsFrom, book_seen, books_seen}
use Rattle.senders.specs.declared.listener.Listened.{Listened}
use Rattle.senders.proofs.SeenLogs.{AreMore, books_more, heard_still, sees_same}
use Rattle.senders.specs.declared.listener.Listener.{Listener}
use Rattle.copy_both.proofs.RaisedSlots.{Raises, hearing_raises}
use Rattle.senders.proofs.ConfirmingLemmas.{confirms_lower, confirms_nothing}
use Rattle.senders.proofs.HoldingLemmas.{holding_after, mine_after, use_among}
use Rattle.senders.proofs.RefusedStatuses.{refused_then}

-- ---- a piece, under the lock

sent_from : (was now : Option (ℕ × ℕ)) (sent : ℕ) → IsSentFrom was sent
    → ((started : ℕ × ℕ) → was ≡ Some started → now ≡ Some started) → IsSentFrom now (sent_then was sent now)
sent_from (Some started) now sent from stays =
    subst (λ (o : Option (ℕ × ℕ)). IsSentFrom o sent) (sym (stays started refl)) from
sent_from None None sent from stays = tt
sent_from None (Some started) sent from stays = omega arith

-- the log of the book has the start if a status is ahead
abbrev LogReaches : Book → Ear → Result Heard LinkFault → Type 0
LogReaches book ear heard =
    heard ≡ Err fault.StatusAhead → IsSentFrom (ear_started ear) (end_lsn_of (length (book_log book)))

explained : (checked : CheckedOf) (known : BooksOf) (bytes : List ℕ) (old new : Ear) (book : Book) (sent : ℕ)
    (heard : Result Heard LinkFault) → IsBookFor checked known book → IsSentFrom (ear_started old) sent
    → LogReaches book new heard → StaysStarted old new
    → IfErr heard (IsAnswered checked known (frames_in bytes) (ear_refusal new))
    → Explains checked known bytes new (reach_of old new book sent) heard → IsExplained checked known bytes new heard
explained checked known bytes old new book sent (Ok heard) is from reaches stays answered explains = explains
explained checked known bytes old new book sent (Err fault) is from reaches stays answered explains = record {
  holds = record {
    transactions = is.transactions;
    begins = is.begins;
    accepted = subst (λ (c : CheckedOf). AreAccepted (setting_in c) no_rows is.transactions) is.named
        is.stands.accepted;
    sent = sent_then (ear_started old) sent (ear_started new);
    from = sent_from (ear_started old) (ear_started new) sent from stays;
    has = subst (λ (n : ℕ). HasLinkFault checked known bytes
        (min (sent_then (ear_started old) sent (ear_started new)) (end_lsn_of n)) fault)
        (each_is_logged book is.transactions is.stands) explains;
    reaches = λ ahead. subst (λ (n : ℕ). IsSentFrom (ear_started new) (end_lsn_of n))
        (each_is_logged book is.transactions is.stands) (reaches (ap (λ (f : LinkFault). Err f) ahead));
  };
  answered = answered;
}

from_first : (first : ℕ) (connection : Option ConnectionState) → first ≤ sent_after first connection
from_first first None = omega arith
from_first first (Some connection) = le-max_left first connection.sent

from_start : (started : Option (ℕ × ℕ)) (connections : List ConnectionState)
    → IsSentFrom started (sent_by started connections)
from_start None connections = tt
from_start (Some started) connections = from_first (first_sent started.1) (slice_get connections started.0)

first_or : Option (ℕ × ℕ) → ℕ
first_or None = 0
first_or (Some started) = first_sent started.1

from_first_or : (started : Option (ℕ × ℕ)) → IsSentFrom started (first_or started)
unfolding first_or
from_first_or None = tt
from_first_or (Some started) = omega arith

-- what is known of a piece under the lock, by what its connection has seen
module _ (checked : CheckedOf) (was now : ViewerOf) (more : AreMore (books_seen was) (books_seen now))
    (before after : Listener) (old new : Book) (connections : List ConnectionState) (heard : Result Heard LinkFault)
    (is : IsBookFor checked (books_seen now) old) (did : HeardPiece before after old new connections heard) where
  abbrev known : BooksOf
  known = books_seen now

  abbrev sent : ℕ
  sent = sent_by (ear_started before.ear) connections

  has_now : (bytes : List ℕ) → HasHeard checked (books_seen was) bytes before.ear → HasHeard checked known bytes before.ear
  has_now bytes has = heard_still checked (books_seen was) known more bytes before.ear has

  pub hears_piece : HearsPiece checked was now (piece_of before) before.ear after.ear heard
  hears_piece = record {
    each = λ bytes has.
        let on = pieces_are_heard checked known bytes (piece_of before) before.ear after.ear old new sent heard
        (has_now bytes has) is did.answer did.left in
        record {
          stays = on.stays;
          asks = on.asks;
          explained = explained checked known (bytes ++ piece_of before) before.ear after.ear old sent heard is
              (from_start (ear_started before.ear) connections) did.reaches on.stays on.answered on.explains;
        };
  }

  says_of_piece : (bytes : List ℕ) → HasListened checked was bytes before → (start : Option (ℕ × ℕ))
      → ear_started before.ear ≡ start → SaysRequested (bytes ++ piece_of before) after
  says_of_piece bytes has None none slot start started says =
      late_starts_are_requested checked known bytes (piece_of before) before.ear after.ear old new
      sent heard (has_now bytes has.heard) is did.left none slot start started
      (subst (StartsFrom (confirmed_at (book_slots old) slot) start) says
      (did.compares.from none slot start started))
  says_of_piece bytes has (Some one) some slot start started says =
      let on = pieces_are_heard checked known bytes (piece_of before) before.ear after.ear old new
      sent heard (has_now bytes has.heard) is did.answer did.left in
      let both : Some one ≡ Some (slot, start) = sym (on.stays one some) ∙ started in
      let same : one ≡ (slot, start) = cc in
      requests_stay checked (books_seen was) bytes (piece_of before) before.ear slot start has.heard
      (has.requested slot start (some ∙ ap (λ (s : ℕ × ℕ). Some s) same) (sym (did.compares.stays one some) ∙ says))

  pub says_requested : (bytes : List ℕ) → HasListened checked was bytes before
      → SaysRequested (bytes ++ piece_of before) after
  says_requested bytes has = says_of_piece bytes has (ear_started before.ear) refl

  -- what the client had been sent when a status was refused, which the log has
  abbrev sent_now : ℕ
  sent_now = sent_then (ear_started before.ear) sent (ear_started after.ear)

  abbrev IsRefusedThen : Type 0
  IsRefusedThen = heard ≡ Err fault.StatusAhead → (s : ℕ × ℕ) → ear_started after.ear ≡ Some s
      → (sent_now ≤ end_lsn_of (length (book_log old))) × IsRefusedAt s after.number now.events sent_now

  pub confirms_of : (bytes : List ℕ) → HasListened checked was bytes before → IsRefusedThen
      → ConfirmsBy (ear_started after.ear) after.number now.events (frames_in (bytes ++ piece_of before)) heard
      (ear_confirmed after.ear)
  confirms_of bytes has refused =
      confirms_lower (ear_started after.ear) after.number now.events (frames_in (bytes ++ piece_of before)) sent_now
      (reach_of before.ear after.ear old sent) heard (ear_confirmed after.ear)
      (λ ahead s some. let at = refused ahead s some in let low = at.0 in (omega (arith, low), at.1))
      (confirmations_are_heard checked known bytes (piece_of before) before.ear after.ear old new sent heard
      (has_now bytes has.heard) did.answer did.left has.confirmed)

-- ---- a use of the slots by a listener

-- the slot of a stream that was started exists in each book of the publisher
started_exists : (checked : CheckedOf) (viewer : ViewerOf) (bytes : List ℕ) (listener : Listener) (slots : List Slot)
    → length slots ≡ length checked.catalog.subscriptions → HasListened checked viewer bytes listener
    → (started : ℕ × ℕ) → ear_started listener.ear ≡ Some started → started.0 < length slots
started_exists checked viewer bytes listener slots each has started is =
    let asks : AsksFor checked (books_seen viewer) (frames_in bytes) started.0 started.1 =
    subst (IsStartedBy checked (books_seen viewer) (frames_in bytes)) is has.heard.started in
    let served : ServedFrom = record { checked = checked; commits = length (book_log asks.book) } in
    let begun = is_begun served (book_slots asks.book) started.0 started.1 asks.frame.kind asks.frame.body asks.begins in
    let startable = faultless_start (slice_get (book_slots asks.book) started.0) (end_lsn_of served.commits)
    begun.position begun.no_fault in
    let low = slice_get_within (book_slots asks.book) started.0 startable.slot startable.exists in
    let its = asks.is.each in omega (arith, low, its, each)

both_hold : (heard : Result Heard LinkFault) (P Q : LinkFault → Type 0) → IfErr heard P → IfErr heard Q
    → IfErr heard (λ fault. P fault × Q fault)
both_hold (Ok it) P Q first second = tt
both_hold (Err fault) P Q first second = (first, second)

-- an ear that has started no stream has heard no frame, whatever books its publisher has had
fresh_heard : (checked : CheckedOf) (one other : BooksOf) (bytes : List ℕ) (ear : Ear) → ear_started ear ≡ None
    → HasHeard checked one bytes ear → HasHeard checked other bytes ear
fresh_heard checked one other bytes ear idle has = record {
  checked_is = has.checked_is;
  phase_is = has.phase_is;
  held = has.held;
  good = has.good;
  started = subst (IsStartedBy checked other (frames_in bytes)) (sym idle)
      (subst (IsStartedBy checked one (frames_in bytes)) idle has.started);
}

unstarted_before : (was now : Option (ℕ × ℕ)) → ((started : ℕ × ℕ) → was ≡ Some started → now ≡ Some started)
    → now ≡ None → was ≡ None
unstarted_before None now stays none = refl
unstarted_before (Some started) now stays none =
    absurd (let both : Some started ≡ None = sym (stays started refl) ∙ none in cc)

-- no slot was acquired without a stream
unacquired : (before after : Listener) (number : ℕ) (acquired : Option Acquisition)
    → AcquiresFor before after number acquired → ear_started after.ear ≡ None → acquired ≡ None
unacquired before after number None acquires none = refl
unacquired before after number (Some one) acquires none =
    absurd (let both : Some (one.slot, one.start) ≡ None = sym acquires.1 ∙ none in cc)

same_use : (acquired : Option Acquisition) (confirmed : Option Confirmation) (events now : List SlotEvent)
    → now ≡ events_then confirmed (events_with acquired events) → acquired ≡ None → use_after now ≡ use_after events
same_use None None events now is none = ap use_after is
same_use None (Some one) events now is none = ap use_after is ∙ use_more events (Confirmed one)
same_use (Some it) confirmed events now is none = absurd cc

-- what a listener does with the book that it is lent
abbrev pub ListenerDid : Listener → Listener → Book → Book → List ConnectionState → List ConnectionState → ℕ
    → Option Acquisition → Option Confirmation → Listened → Type 0
ListenerDid before after old new connections left number acquired confirmed listened =
    HeardPiece before after old new connections listened.heard × AcquiresFor before after number acquired
    × NotesAhead (ear_started after.ear) listened.heard confirmed

module _ (checked : CheckedOf) (was now : ViewerOf) (sees : SeesMore was now) (before after : Listener) (slot : Option ℕ)
    (listened : Listened) (used : IsUsed ListenerDid checked was now before after listened slot) where
  abbrev book_was : IsBookFor checked (books_seen now) used.lent.old
  book_was = record {
    named = used.lent.named;
    each = used.each;
    transactions = used.lent.transactions;
    stands = used.lent.stands;
    begins = record { later = []; log_is = used.log_is ∙ sym (append-nil used.lent.transactions) };
    used = use_after used.events;
    enough = omega arith;
    among = use_among used.acquired used.confirmed used.events now.events used.events_are;
    slots_are = used.used;
  }

  raised : Raises (sent_by (ear_started before.ear) used.lent.connections) (ear_started before.ear)
      (ear_started after.ear) (book_slots used.lent.old) (book_slots used.lent.new) (ear_confirmed before.ear)
      (ear_confirmed after.ear)
  raised = hearing_raises before.ear after.ear used.lent.old used.lent.new (piece_of before)
      (sent_by (ear_started before.ear) used.lent.connections) listened.heard used.lent.does.0.left

  pub heard_used : HearsPiece checked was now (piece_of before) before.ear after.ear listened.heard
  heard_used = hears_piece checked was now (books_more was now sees) before after used.lent.old used.lent.new
      used.lent.connections listened.heard book_was used.lent.does.0

  -- the book was the one that the publisher still has
  book_last : ear_started after.ear ≡ None → IsBookFor checked (book_seen now) used.lent.old
  book_last none = record {
    named = used.lent.named;
    each = used.each;
    transactions = used.lent.transactions;
    stands = used.lent.stands;
    begins = record { later = []; log_is = used.log_is ∙ sym (append-nil used.lent.transactions) };
    enough = let same = ap length used.log_is in omega (arith, same);
    used = use_after used.events;
    among = (
      0,
      omega arith,
      same_use used.acquired used.confirmed used.events now.events used.events_are
          (unacquired before after used.number used.acquired used.lent.does.1 none),
    );
    slots_are = used.used;
  }

  refuses_used : (bytes : List ℕ) → HasListened checked was bytes before
      → RefusesNow checked now (bytes ++ piece_of before) after listened.heard
  unfolding book_last
  refuses_used bytes has none =
      let on = pieces_are_heard checked (book_seen now) bytes (piece_of before) before.ear after.ear used.lent.old
      used.lent.new (sent_by (ear_started before.ear) used.lent.connections) listened.heard
      (fresh_heard checked (books_seen was) (book_seen now) bytes before.ear
      (unstarted_before (ear_started before.ear) (ear_started after.ear) raised.stays none) has.heard)
      (book_last none) used.lent.does.0.answer used.lent.does.0.left in
      both_hold listened.heard
      (IsAnswered checked (book_seen now) (frames_in (bytes ++ piece_of before)) (ear_refusal after.ear))
      (SentNone (frames_in (bytes ++ piece_of before))) on.answered (on.none none)

  pub says_used : SaysOfPiece checked was now (piece_of before) before after listened.heard
  says_used = record {
    each = λ bytes has. says_requested checked was now (books_more was now sees) before after used.lent.old
        used.lent.new used.lent.connections listened.heard book_was used.lent.does.0 bytes has;
    confirms = λ bytes has. confirms_of checked was now (books_more was now sees) before after used.lent.old
        used.lent.new used.lent.connections listened.heard book_was used.lent.does.0 bytes has
        (λ ahead s some. refused_then before after used.events now.events used.acquired used.confirmed was.held
        used.number used.lent.connections (length (book_log used.lent.old)) listened.heard used.lent.does.1
        used.lent.does.2 raised.stays used.had used.mine used.number_is used.events_are used.sent used.ends
        has.holding used.lent.does.0.reaches ahead s some);
    refuses = refuses_used;
    holding = λ bytes has. holding_after before after (book_slots used.lent.old) (book_slots used.lent.new) used.events
        now.events was.held now.held used.number used.found used.known used.had _ raised
        used.lent.does.0.compares.stays
        used.acquired used.lent.does.1
        (λ started is. started_exists checked was bytes before (book_slots used.lent.old) used.each has started is)
        (λ none. subst (λ (o : Option (ℕ × ℕ)). HasConfirmedAll o (frames_in bytes) (ear_confirmed before.ear)) none
        has.confirmed)
        used.lent.does.0.compares.from used.held_is has.holding;
    mine = mine_after before after was.held now.held used.number (confirmed_after used.events)
        (confirmed_after now.events) used.acquired used.lent.does.1 raised.stays used.held_is;
    sees = sees;
  }

-- nothing was heard
module _ (checked : CheckedOf) (was now : ViewerOf) (same : now ≡ was) (before after : Listener) (unused : after ≡ before)
  where
    pub heard_nothing : HearsPiece checked was now (piece_of before) before.ear after.ear (Err fault.OutOfMemory)
    heard_nothing = subst (λ (l : Listener). HearsPiece checked was now (piece_of before) before.ear l.ear
        (Err fault.OutOfMemory)) (sym unused)
        (subst (λ (v : ViewerOf). HearsPiece checked was v (piece_of before) before.ear before.ear
        (Err fault.OutOfMemory)) (sym same) (record {
          each = λ bytes has. record {
            stays = λ started is. is;
            asks = asks_stay checked (books_seen was) bytes (piece_of before) before.ear has;
            explained = record {
              holds = record {
                transactions = [];
                begins = record { later = transactions_of was.seen; log_is = refl };
                accepted = tt;
                sent = first_or (ear_started before.ear);
                from = from_first_or (ear_started before.ear);
                has = tt;
                reaches = λ ahead. absurd cc;
              };
              answered = tt;
            };
          };
        }))

    pub says_nothing : SaysOfPiece checked was now (piece_of before) before after (Err fault.OutOfMemory)
    says_nothing = subst (λ (l : Listener). SaysOfPiece checked was now (piece_of before) before l
        (Err fault.OutOfMemory)) (sym unused)
        (subst (λ (v : ViewerOf). SaysOfPiece checked was v (piece_of before) before before (Err fault.OutOfMemory))
        (sym same) (record {
          each = λ bytes has slot start started says.
              requests_stay checked (books_seen was) bytes (piece_of before) before.ear slot start has.heard
              (has.requested slot start started says);
          confirms = λ bytes has.
              confirms_nothing (ear_started before.ear) before.number was.events (frames_in bytes)
              (frames_in (bytes ++ piece_of before))
              (frames_of (cut 65536 (rest_of (cut 65536 bytes) ++ piece_of before))) (ear_confirmed before.ear)
              (frames_more checked (books_seen was) bytes (piece_of before) before.ear has.heard) has.confirmed;
          refuses = λ bytes has none. (tt, tt);
          holding = λ bytes has. has.holding;
          mine = λ has. has;
          sees = sees_same was;
        }))
