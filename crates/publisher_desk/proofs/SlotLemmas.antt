-- What a connection does with the slots keeps what the lock holds, and what it then knows.
use Rattle.std.proofs.Common.{◌≡◌, ℕ, ◌+◌, ◌≤◌, List, [], ◌∷◌, ◌++◌, Bool, true, false, refl, sym, ap, ◌∙◌, subst, append-nil, append_assoc, cond, eq-eqb, length, arith}
use Rattle.std.specs.Prelude.{Option, Some, None}
use Rattle.shard_checker.specs.CheckedView.{CheckedOf, setting_in}
use Rattle.table_changes.specs.Tables.{no_rows}
use Rattle.tables_log.specs.BookView.{book_checked, book_log, book_slots}
use Rattle.tables_log.specs.Committing.{ChangesSlots}
use Rattle.tables_log.specs.Slots.{AreInUse, released}
use Rattle.tables_log.specs.StandsFor.{entries_from}
use Rattle.tables_log.specs.declared.book.Book.{Book}
use Rattle.tables_log.specs.declared.slots.Slot.{Slot}
use Rattle.publisher_desk.specs.Held.{AreEventsOf}
use Rattle.publisher_desk.specs.Logged.{IsHistoryOf}
use Rattle.publisher_desk.specs.Receipts.{ReceiptOf, transactions_of}
use Rattle.publisher_desk.specs.Sights.{Sees, StartsWith, times}
use Rattle.publisher_desk.specs.SlotEvents.{Acquires, AreConfirmed, AreDated, IsDated, acquisitions, advanced_after, confirmed_after, use_after, no_position, no_use}
use Rattle.publisher_desk.specs.SlotSights.{AddsEvent, BeginsWith, HasSlot, MayHaveSlot, OwnsHeld, SeesEvents, hold, hold_with, slot_view}
use Rattle.publisher_desk.specs.Viewers.{HadSlot, HasReleased, Holds, IsAcceptedLog, Releases, SeesLog, SeesMore, ViewerOf, log_seen, release}
use Rattle.publisher_desk.specs.declared.sight.HistoryView.{HistoryView}
use Rattle.publisher_desk.specs.declared.sight.Sight.{Sight}
use Rattle.publisher_desk.specs.declared.slot_event.Acquisition.{Acquisition}
use Rattle.publisher_desk.specs.declared.slot_event.Confirmation.{Confirmation}
use Rattle.publisher_desk.specs.declared.slot_event.Release.{Release}
use Rattle.publisher_desk.specs.declared.slot_event.SlotEvent.{SlotEvent}
use Rattle.publisher_desk.specs.declared.slot_event.SlotEvent.TheVariants.{Acquired, Confirmed, Released}
use Rattle.publisher_desk.specs.declared.slot_sight.Hold.{Hold}
use Rattle.publisher_desk.specs.declared.slot_sight.SlotSight.{SlotSight}
use Rattle.publisher_desk.specs.declared.slot_sight.SlotView.{SlotView}
use Rattle.publisher_desk.proofs.EventLemmas.{acquired_has, confirmed_more, its_in_use, turn_push, use_more, within_push}
use Rattle.publisher_desk.proofs.HeldLemmas.{dated_same}
use Rattle.publisher_desk.proofs.KeptLemmas.{times_last}
use Rattle.publisher_desk.proofs.LoggedLemmas.{history_long}
use Rattle.tables_log.proofs.SlotUses.{released_uses}
use Rattle.publisher_desk.proofs.PositionLemmas.{released_stays}
use Rattle.publisher_desk.proofs.SlotsHeld.{begins_longer}
use Rattle.publisher_desk.proofs.SlotsKept.{held_confirmed}

-- ---- the book's slots

-- a slot that is acquired was free, by the events
pub was_free : (book : Book) (events : SlotView) (new : List Slot) (one : Acquisition) → AreEventsOf book events
    → Acquires (book_slots book) new one → use_after events.all one.slot ≡ false
was_free book events new one are acquires = sym (are.used one.slot acquires.takes.slot acquires.takes.exists) ∙ acquires.takes.free

pub dated_push : (commits : ℕ) (events : List SlotEvent) (event : SlotEvent) → AreDated commits events
    → IsDated commits event → AreDated commits (events ++ event ∷ [])
dated_push commits [] event dated last = (last, tt)
dated_push commits (first ∷ events) event dated last = (dated.0, dated_push commits events event dated.1 last)

pub released_events : (old new : Book) (events more : SlotView) (one : Release)
    → one.commits ≡ length (book_log old) → AreEventsOf old events
    → ChangesSlots old new (released (book_slots old) one.slot)
    → more ≡ slot_view true (events.all ++ Released one ∷ []) [] → (was now : SlotSight)
    → AddsEvent events.all (Released one) was now → AreEventsOf new more
released_events old new events more one dated are changes same was now adds = subst (AreEventsOf new) (sym same) (record {
  used = subst (AreInUse (use_after (events.all ++ Released one ∷ []))) (sym changes.slots_are)
      (subst (λ (used : ℕ → Bool). AreInUse used (released (book_slots old) one.slot))
      (sym (use_more events.all (Released one)))
      (released_uses (use_after events.all) (book_slots old) one.slot are.used));
  confirmed = subst (AreConfirmed (confirmed_after (events.all ++ Released one ∷ []))) (sym changes.slots_are)
      (λ number. released_stays (book_slots old) one.slot number ∙ (are.confirmed number
      ∙ sym (ap (λ (known : ℕ → ℕ). known number) (confirmed_more events.all (Released one)))));
  turns = turn_push no_use no_position events.all (Released one) are.turns
      (its_in_use events.all was.held one.slot adds.kept adds.may);
  within = within_push events.all (Released one) are.within tt;
  dated = dated_push (length (book_log new)) events.all (Released one)
      (dated_same old new (released (book_slots old) one.slot) changes events.all are.dated)
      (let same_log = ap length changes.log in omega (arith, dated, same_log));
  idle = refl;
})

-- ---- the log

pub log_shown : (checked : CheckedOf) (book : Book) (history : HistoryView) → book_checked book ≡ checked
    → IsHistoryOf book history → book_log book ≡ log_seen checked history.all
log_shown checked book history named is = is.stands.log
    ∙ ap (λ (one : CheckedOf). entries_from (setting_in one) no_rows 1 (transactions_of history.all)) named

pub log_accepted : (checked : CheckedOf) (book : Book) (history : HistoryView) → book_checked book ≡ checked
    → IsHistoryOf book history → IsAcceptedLog checked history.all
log_accepted checked book history named is =
    subst (λ (one : CheckedOf). IsAcceptedLog one history.all) named is.stands.accepted

-- the log that is then seen
pub shown_accepted : (checked : CheckedOf) (log : List ReceiptOf) (old new : Sight) → Sees log old new
    → IsAcceptedLog checked log → IsAcceptedLog checked new.seen
shown_accepted checked log old new sees = subst (IsAcceptedLog checked) (sym sees.seen)

-- ---- what a connection knows

begins_same : (events : List SlotEvent) → BeginsWith events events
begins_same events = ([], sym (append-nil events))

pub sees_more_log : (log : List ReceiptOf) (old new : Sight) → Sees log old new → StartsWith new.seen old.seen
sees_more_log log old new sees = (sees.begins.0, sees.seen ∙ sees.begins.1)

pub starts_then : (all some few : List ReceiptOf) → StartsWith all some → StartsWith some few → StartsWith all few
starts_then all some few first second = (
  second.0 ++ first.0,
  first.1 ∙ ap (λ (list : List ReceiptOf). list ++ first.0) second.1 ∙ append_assoc few second.0 first.0,
)

pub sees_more_events : (all : List SlotEvent) (was now : SlotSight) → SeesEvents all was now
    → BeginsWith now.events was.events
sees_more_events all was now sees = (sees.begins.0, sees.seen ∙ sees.begins.1)

pub adds_more_events : (all : List SlotEvent) (event : SlotEvent) (was now : SlotSight) → AddsEvent all event was now
    → BeginsWith now.events was.events
adds_more_events all event was now adds =
    subst (λ (list : List SlotEvent). BeginsWith list was.events) (sym adds.seen)
    (begins_longer all (event ∷ []) was.events adds.begins)

-- it still has the slot that it had
pub sees_has : (all : List SlotEvent) (was now : SlotSight) → SeesEvents all was now
    → MayHaveSlot now.events now.held
sees_has all was now sees =
    subst (λ (held : Option Hold). MayHaveSlot now.events held) (sym sees.held)
    (subst (λ (list : List SlotEvent). MayHaveSlot list was.held) (sym sees.seen) sees.kept)

-- a slot that is acquired now
abbrev pub newly_held : List SlotEvent → Acquisition → Hold
newly_held all one = hold one (acquisitions all + 1) (confirmed_after all one.slot) (confirmed_after all one.slot)

pub acquires_has : (all : List SlotEvent) (one : Acquisition) (was now : SlotSight)
    → AddsEvent all (Acquired one) was now → MayHaveSlot now.events now.held
acquires_has all one was now adds =
    subst (λ (held : Option Hold). MayHaveSlot now.events held) (sym adds.held)
    (subst (λ (list : List SlotEvent). HasSlot list (newly_held all one)) (sym adds.seen) (acquired_has all one adds.may))

pub confirms_has : (all : List SlotEvent) (one : Confirmation) (was now : SlotSight)
    → AddsEvent all (Confirmed one) was now → MayHaveSlot now.events now.held
confirms_has all one was now adds =
    subst (λ (held : Option Hold). MayHaveSlot now.events held) (sym adds.held)
    (subst (λ (list : List SlotEvent). MayHaveSlot list (hold_with one.position was.held)) (sym adds.seen)
    (held_confirmed all one was.held adds.kept adds.may))

-- the number of its acquisition is its own
pub sees_owns : (all : List SlotEvent) (was now : SlotSight) → SeesEvents all was now → OwnsHeld was.held was.own
    → OwnsHeld now.held now.own
sees_owns all was now sees owns =
    subst (λ (held : Option Hold). OwnsHeld held now.own) (sym sees.held)
    (subst (OwnsHeld was.held) (sym sees.own) owns)

pub acquires_owns : (all : List SlotEvent) (one : Acquisition) (was now : SlotSight)
    → AddsEvent all (Acquired one) was now → OwnsHeld now.held now.own
acquires_owns all one was now adds =
    subst (λ (held : Option Hold). OwnsHeld held now.own) (sym adds.held)
    (subst (λ (own : List ℕ). 1 ≤ times (acquisitions all + 1) own) (sym adds.own)
    (times_last (acquisitions all + 1) was.own))

confirmed_owns : (position : ℕ) (held : Option Hold) (own : List ℕ) → OwnsHeld held own
    → OwnsHeld (hold_with position held) own
confirmed_owns position None own owns = tt
confirmed_owns position (Some mine) own owns = owns

pub confirms_owns : (all : List SlotEvent) (one : Confirmation) (was now : SlotSight)
    → AddsEvent all (Confirmed one) was now → OwnsHeld was.held was.own → OwnsHeld now.held now.own
confirms_owns all one was now adds owns =
    subst (λ (held : Option Hold). OwnsHeld held now.own) (sym adds.held)
    (subst (OwnsHeld (hold_with one.position was.held)) (sym adds.own)
    (confirmed_owns one.position was.held was.own owns))

-- ---- a release

-- it was released when the log had as many commits as the connection has then seen
pub releases_at : (slot sent commits : ℕ) (book : Book) (history : HistoryView) (old new : Sight)
    (events : List SlotEvent) (was now : SlotSight) → sent ≡ advanced_after events slot → commits ≡ length (book_log book)
    → IsHistoryOf book history → Sees history.all old new → AddsEvent events (Released (release slot commits)) was now
    → Releases slot sent (length new.seen) was now
releases_at slot sent commits book history old new events was now sent_is commits_are is sees adds = record {
  events = events;
  sent_is = sent_is;
  adds = subst (λ (n : ℕ). AddsEvent events (Released (release slot n)) was now)
      (commits_are ∙ history_long book history is ∙ ap (λ (log : List ReceiptOf). length log) (sym sees.seen)) adds;
}

pub releases_none : (slot sent commits : ℕ) (was now : SlotSight) → Releases slot sent commits was now
    → MayHaveSlot now.events now.held
releases_none slot sent commits was now releases =
    subst (λ (held : Option Hold). MayHaveSlot now.events held) (sym releases.adds.held) tt

pub releases_owns : (slot sent commits : ℕ) (was now : SlotSight) → Releases slot sent commits was now
    → OwnsHeld now.held now.own
releases_owns slot sent commits was now releases =
    subst (λ (held : Option Hold). OwnsHeld held now.own) (sym releases.adds.held) tt

-- the slot that it had, as events tell
had_slot : (all now : List SlotEvent) (slot sent commits : ℕ) (mine : Hold) → HasSlot all mine
    → mine.acquisition.slot ≡ slot → sent ≡ advanced_after all slot → now ≡ all ++ Released (release slot commits) ∷ []
    → HadSlot now mine sent commits
had_slot all now slot sent commits mine has same sent_is now_is = record {
  before = has.before;
  between = has.after;
  after = [];
  events_are = now_is ∙ (ap (λ (list : List SlotEvent). list ++ Released (release slot commits) ∷ []) has.events_are
      ∙ ap (λ (n : ℕ). has.before ++ Acquired mine.acquisition ∷ has.after ++ Released (release n commits) ∷ [])
      (sym same));
  number_is = has.number_is;
  was_free = has.was_free;
  keep = has.keep;
  found_is = has.found_is;
  confirmed_is = has.confirmed_is
      ∙ ap (λ (list : List SlotEvent). confirmed_after list mine.acquisition.slot) has.events_are;
  sent_is = sent_is
      ∙ (ap (advanced_after all) (sym same)
      ∙ ap (λ (list : List SlotEvent). advanced_after list mine.acquisition.slot) has.events_are);
}

free_then : (all now : List SlotEvent) (slot commits : ℕ) (mine : Hold) → mine.acquisition.slot ≡ slot
    → now ≡ all ++ Released (release slot commits) ∷ [] → use_after now mine.acquisition.slot ≡ false
free_then all now slot commits mine same now_is =
    ap (λ (list : List SlotEvent). use_after list mine.acquisition.slot) now_is
    ∙ (ap (λ (used : ℕ → Bool). used mine.acquisition.slot) (use_more all (Released (release slot commits)))
    ∙ ap (λ b. cond b false (use_after all mine.acquisition.slot)) (eq-eqb mine.acquisition.slot slot same))

pub has_released : (slot sent : ℕ) (before after : ViewerOf) (was now : SlotSight) → before.held ≡ was.held
    → after.events ≡ now.events → after.held ≡ now.held → after.own ≡ now.own → Holds was.held slot
    → OwnsHeld was.held was.own → Releases slot sent (length after.seen) was now → HasReleased sent before after
has_released slot sent before after was now old_is events_are new_is own_is holds owns releases =
    let adds = releases.adds in
    let kept : HasSlot releases.events holds.mine =
    subst (MayHaveSlot releases.events) holds.held_is adds.kept in
    record {
      mine = holds.mine;
      was = old_is ∙ holds.held_is;
      had = had_slot releases.events after.events slot sent (length after.seen) holds.mine kept holds.slot_is
          releases.sent_is (events_are ∙ adds.seen);
      free = free_then releases.events after.events slot (length after.seen) holds.mine holds.slot_is
          (events_are ∙ adds.seen);
      none = new_is ∙ adds.held;
      own = subst (λ (own : List ℕ). 1 ≤ times holds.mine.number own) (sym (own_is ∙ adds.own))
          (subst (λ (held : Option Hold). OwnsHeld held was.own) holds.held_is owns);
    }

pub released_more : (checked : CheckedOf) (slot sent commits : ℕ) (viewer : ViewerOf) (old new : Sight)
    (was now : SlotSight) → record { seen = old.seen; events = was.events; held = was.held; own = was.own } ≡ viewer
    → SeesLog checked old new → Releases slot sent commits was now
    → SeesMore viewer (record { seen = new.seen; events = now.events; held = now.held; own = now.own })
released_more checked slot sent commits viewer old new was now viewer_is sees releases =
    subst (λ (v : ViewerOf). SeesMore v (record {
      seen = new.seen;
      events = now.events;
      held = now.held;
      own = now.own;
    })) viewer_is
    (record {
      log = sees_more_log sees.log old new sees.sees;
      slots = adds_more_events releases.events (Released (release slot commits)) was now releases.adds;
    })
