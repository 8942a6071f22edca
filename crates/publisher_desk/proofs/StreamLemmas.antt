-- A use of the slots by a connection keeps what the lock holds, and what the connection then knows.
use Rattle.std.proofs.Common.{◌≡◌, ◌≤◌, ℕ, ◌+◌, List, [], ◌++◌, Bool, true, refl, sym, ap, ◌∙◌, subst, append-nil, append_assoc, cond, length}
use Rattle.std.specs.Prelude.{◌==◌, Option, Some, None}
use Rattle.shard_checker.specs.CheckedView.{CheckedOf, setting_in}
use Rattle.table_changes.specs.Tables.{no_rows}
use Rattle.tables_log.specs.BookView.{book_log, book_slots}
use Rattle.tables_log.specs.Committing.{ChangesSlots}
use Rattle.tables_log.specs.Slots.{AreInUse, confirmed_at}
use Rattle.tables_log.specs.StandsFor.{Transaction, AreAccepted}
use Rattle.tables_log.specs.declared.book.Book.{Book}
use Rattle.tables_log.specs.declared.slots.Slot.{Slot}
use Rattle.publisher_desk.specs.Held.{AreEventsOf}
use Rattle.publisher_desk.specs.Receipts.{transactions_of}
use Rattle.publisher_desk.specs.Sights.{StartsWith}
use Rattle.publisher_desk.specs.SlotEvents.{AreConfirmed, AreDated, AreInTurn, AreSent, AreWithinReach, MayAcquire, MayConfirm, acquisitions, advanced_after, confirmed_after, events_then, events_with, no_position, no_use, use_after}
use Rattle.publisher_desk.specs.SlotSights.{BeginsWith, HasIt, MayHappen, MayHaveSlot, OwnsHeld, hold, hold_with, slot_view}
use Rattle.publisher_desk.specs.Viewers.{AcquiresSight, ChangesSight, ConfirmsSight, HoldsFor, HoldsIf, IsAcceptedLog, IsUsed, IsUsedIf, IsStreamed, IsStreamedIf, MayNote, SeesMore, ViewerOf, held_with, hold_at}
use Rattle.publisher_desk.specs.declared.connection_state.ConnectionState.{ConnectionState}
use Rattle.publisher_desk.specs.declared.sight.Sight.{Sight}
use Rattle.publisher_desk.specs.declared.slot_event.Acquisition.{Acquisition}
use Rattle.publisher_desk.specs.declared.slot_event.Confirmation.{Confirmation}
use Rattle.publisher_desk.specs.declared.slot_event.SlotEvent.{SlotEvent}
use Rattle.publisher_desk.specs.declared.slot_event.SlotEvent.TheVariants.{Acquired, Confirmed}
use Rattle.publisher_desk.specs.declared.slot_sight.Hold.{Hold}
use Rattle.publisher_desk.specs.declared.slot_sight.SlotSight.{SlotSight}
use Rattle.publisher_desk.specs.declared.slot_sight.SlotView.{SlotView}
use Rattle.publisher_desk.proofs.EventLemmas.{confirmed_more, its_in_use, turn_push, use_more, within_push}
use Rattle.publisher_desk.proofs.HeldLemmas.{dated_same}
use Rattle.publisher_desk.proofs.SentLemmas.{confirmed_within}
use Rattle.table_changes.proofs.TableLemmas.{some_is}
use Rattle.publisher_desk.proofs.SlotLemmas.{acquires_has, acquires_owns, adds_more_events, confirms_has, confirms_owns, dated_push, sees_has, sees_more_events, sees_more_log, sees_owns, shown_accepted, was_free}

-- ---- the events, and the book's slots

use_acquired : (old new : List Slot) (acquired : Option Acquisition) (events : List SlotEvent)
    → MayAcquire old new acquired → AreInUse (use_after events) old
    → AreInUse (use_after (events_with acquired events)) new
use_acquired old new None events may used = may (use_after events) used
use_acquired old new (Some one) events may used =
    subst (λ (test : ℕ → Bool). AreInUse test new) (sym (use_more events (Acquired one)))
    (may.takes.uses (use_after events) used)

use_confirmed : (confirmed : Option Confirmation) (events : List SlotEvent)
    → use_after (events_then confirmed events) ≡ use_after events
use_confirmed None events = refl
use_confirmed (Some one) events = use_more events (Confirmed one)

positions_acquired : (acquired : Option Acquisition) (events : List SlotEvent)
    → confirmed_after (events_with acquired events) ≡ confirmed_after events
positions_acquired None events = refl
positions_acquired (Some one) events = confirmed_more events (Acquired one)

pub positions_confirmed : (old new : List Slot) (stream : Option (ℕ × ℕ)) (acquired : Option Acquisition)
    (confirmed : Option Confirmation) (connections : List ConnectionState) (events : List SlotEvent)
    → MayConfirm stream acquired confirmed connections old new
    → AreConfirmed (confirmed_after events) old
    → AreConfirmed (confirmed_after (events_then confirmed (events_with acquired events))) new
positions_confirmed old new stream acquired None connections events may are number =
    may number ∙ (are number ∙ sym (ap (λ (known : ℕ → ℕ). known number) (positions_acquired acquired events)))
positions_confirmed old new stream acquired (Some one) connections events may are number =
    let same : confirmed_at old number ≡ confirmed_after (events_with acquired events) number =
    are number ∙ sym (ap (λ (known : ℕ → ℕ). known number) (positions_acquired acquired events)) in
    may.positions number
    ∙ (ap (λ (k : ℕ). cond (number == one.slot) one.position k) same
    ∙ sym (ap (λ (known : ℕ → ℕ). known number) (confirmed_more (events_with acquired events) (Confirmed one))))

dated_acquired : (commits : ℕ) (acquired : Option Acquisition) (events : List SlotEvent) → AreDated commits events
    → AreDated commits (events_with acquired events)
dated_acquired commits None events dated = dated
dated_acquired commits (Some one) events dated = dated_push commits events (Acquired one) dated tt

dated_confirmed : (commits : ℕ) (confirmed : Option Confirmation) (events : List SlotEvent) → AreDated commits events
    → AreDated commits (events_then confirmed events)
dated_confirmed commits None events dated = dated
dated_confirmed commits (Some one) events dated = dated_push commits events (Confirmed one) dated tt

-- each event comes in turn
turns_acquired : (acquired : Option Acquisition) (events : List SlotEvent) (was between : SlotSight)
    → AcquiresSight acquired events was between → AreInTurn no_use no_position events
    → AreInTurn no_use no_position (events_with acquired events)
turns_acquired None events was between sees turns = turns
turns_acquired (Some one) events was between adds turns =
    turn_push no_use no_position events (Acquired one) turns adds.may

turns_confirmed : (old new : List Slot) (stream : Option (ℕ × ℕ)) (acquired : Option Acquisition)
    (confirmed : Option Confirmation) (connections : List ConnectionState) (events : List SlotEvent)
    (between now : SlotSight) → MayConfirm stream acquired confirmed connections old new → AreConfirmed (confirmed_after events) old
    → ConfirmsSight confirmed (events_with acquired events) between now
    → AreInTurn no_use no_position (events_with acquired events)
    → AreInTurn no_use no_position (events_then confirmed (events_with acquired events))
turns_confirmed old new stream acquired None connections events between now may are same turns = turns
turns_confirmed old new stream acquired (Some one) connections events between now may are adds turns =
    let was : confirmed_at old one.slot ≡ confirmed_after (events_with acquired events) one.slot =
    are one.slot ∙ sym (ap (λ (known : ℕ → ℕ). known one.slot) (positions_acquired acquired events)) in
    turn_push no_use no_position (events_with acquired events) (Confirmed one) turns (
      its_in_use (events_with acquired events) between.held one.slot adds.kept adds.may,
      subst (λ (n : ℕ). n ≤ one.position) was may.rises,
    )

acquired_kept : (acquired : Option Acquisition) (all : List SlotEvent) (was between : SlotSight)
    → AcquiresSight acquired all was between → MayHaveSlot all was.held
acquired_kept None all was between sees = sees.kept
acquired_kept (Some one) all was between adds = adds.kept

-- what was confirmed for a slot before
was_confirmed : (old : List Slot) (acquired : Option Acquisition) (events : List SlotEvent)
    → AreConfirmed (confirmed_after events) old → (slot : ℕ)
    → confirmed_at old slot ≡ confirmed_after (events_with acquired events) slot
was_confirmed old acquired events are slot =
    are slot ∙ sym (ap (λ (known : ℕ → ℕ). known slot) (positions_acquired acquired events))

within_acquired : (acquired : Option Acquisition) (events : List SlotEvent) → AreWithinReach [] events
    → AreWithinReach [] (events_with acquired events)
within_acquired None events within = within
within_acquired (Some one) events within = within_push events (Acquired one) within tt

within_confirmed : (old new : List Slot) (stream : Option (ℕ × ℕ)) (acquired : Option Acquisition)
    (confirmed : Option Confirmation) (connections : List ConnectionState) (events : List SlotEvent)
    (held : Option Hold) → MayConfirm stream acquired confirmed connections old new
    → AreConfirmed (confirmed_after events) old → AreSent (advanced_after events) connections → HoldsIf held stream
    → MayHaveSlot events held → AreWithinReach [] (events_with acquired events)
    → AreWithinReach [] (events_then confirmed (events_with acquired events))
within_confirmed old new stream acquired None connections events held may are sent holds has within = within
within_confirmed old new stream acquired (Some one) connections events held may are sent holds has within =
    within_push (events_with acquired events) (Confirmed one) within
    (confirmed_within old new connections stream acquired one events held may sent holds has
    (was_confirmed old acquired events are one.slot))

pub streamed_events : (old new : Book) (events more : SlotView) (stream : Option (ℕ × ℕ)) (acquired : Option Acquisition)
    (confirmed : Option Confirmation) (connections : List ConnectionState) → AreEventsOf old events → ChangesSlots old new (book_slots new)
    → MayAcquire (book_slots old) (book_slots new) acquired
    → MayConfirm stream acquired confirmed connections (book_slots old) (book_slots new)
    → AreSent (advanced_after events.all) connections
    → more ≡ slot_view true (events_then confirmed (events_with acquired events.all)) [] → (was now : SlotSight)
    → HoldsIf was.held stream → ChangesSight acquired confirmed events.all was now → AreEventsOf new more
streamed_events old new events more stream acquired confirmed connections are changes takes confirms sent same was now
    holds sight =
    let then : List SlotEvent = events_with acquired events.all in
    subst (AreEventsOf new) (sym same) (record {
      used = subst (λ (test : ℕ → Bool). AreInUse test (book_slots new)) (sym (use_confirmed confirmed then))
          (use_acquired (book_slots old) (book_slots new) acquired events.all takes are.used);
      confirmed = positions_confirmed (book_slots old) (book_slots new) stream acquired confirmed connections events.all
          confirms are.confirmed;
      turns = turns_confirmed (book_slots old) (book_slots new) stream acquired confirmed connections events.all
          sight.between now confirms are.confirmed sight.confirms
          (turns_acquired acquired events.all was sight.between sight.acquires are.turns);
      within = within_confirmed (book_slots old) (book_slots new) stream acquired confirmed connections events.all
          was.held confirms are.confirmed sent holds
          (acquired_kept acquired events.all was sight.between sight.acquires)
          (within_acquired acquired events.all are.within);
      dated = dated_confirmed (length (book_log new)) confirmed then
          (dated_acquired (length (book_log new)) acquired events.all
          (dated_same old new (book_slots new) changes events.all are.dated));
      idle = refl;
    })

-- a slot that is acquired was free
pub may_acquire : (book : Book) (events : SlotView) (new : List Slot) (acquired : Option Acquisition)
    (held : Option Hold) → AreEventsOf book events → MayAcquire (book_slots book) new acquired → (one : Acquisition)
    → acquired ≡ Some one → MayHappen (Acquired one) events.all held
may_acquire book events new acquired held are may one some =
    was_free book events new one are (subst (MayAcquire (book_slots book) new) some may)

-- what is confirmed is for the slot that the connection has
pub may_note : (old new : List Slot) (stream : Option (ℕ × ℕ)) (acquired : Option Acquisition)
    (confirmed : Option Confirmation) (connections : List ConnectionState) (held : Option Hold) → HoldsIf held stream
    → MayConfirm stream acquired confirmed connections old new → MayNote acquired confirmed held
may_note old new stream acquired None connections held holds may = tt
may_note old new stream None (Some one) connections held holds may =
    let holding : HoldsFor held (one.slot, may.start) = subst (HoldsIf held) may.mine holds in
    record { mine = holding.mine; held_is = holding.held_is; slot_is = holding.slot_is }
may_note old new stream (Some it) (Some one) connections held holds may =
    ap (λ (s : ℕ × ℕ). s.0) (some_is (it.slot, it.start) (one.slot, may.start) may.mine)

-- ---- what the connection knows then

pub note_has : (acquired : Option Acquisition) (one : Confirmation) (all : List SlotEvent) (was between : SlotSight)
    → AcquiresSight acquired all was between → MayNote acquired (Some one) was.held → HasIt between.held one.slot
note_has None one all was between sees may = (may.mine, sees.held ∙ may.held_is, may.slot_is)
note_has (Some it) one all was between adds may =
    (hold it (acquisitions all + 1) (confirmed_after all it.slot) (confirmed_after all it.slot), adds.held, may)

acquires_more : (acquired : Option Acquisition) (all : List SlotEvent) (was between : SlotSight)
    → AcquiresSight acquired all was between → BeginsWith between.events was.events
acquires_more None all was between sees = sees_more_events all was between sees
acquires_more (Some one) all was between adds = adds_more_events all (Acquired one) was between adds

confirms_more : (confirmed : Option Confirmation) (all : List SlotEvent) (between now : SlotSight)
    → ConfirmsSight confirmed all between now → BeginsWith now.events between.events
confirms_more None all between now same =
    ([], ap (λ (s : SlotSight). s.events) same ∙ sym (append-nil between.events))
confirms_more (Some one) all between now adds = adds_more_events all (Confirmed one) between now adds

begins_then : (all some few : List SlotEvent) → BeginsWith all some → BeginsWith some few → BeginsWith all few
begins_then all some few first second = (
  second.0 ++ first.0,
  first.1 ∙ (ap (λ (list : List SlotEvent). list ++ first.0) second.1 ∙ append_assoc few second.0 first.0),
)

acquired_has_slot : (acquired : Option Acquisition) (all : List SlotEvent) (was between : SlotSight)
    → AcquiresSight acquired all was between → MayHaveSlot between.events between.held
acquired_has_slot None all was between sees = sees_has all was between sees
acquired_has_slot (Some one) all was between adds = acquires_has all one was between adds

confirmed_has_slot : (confirmed : Option Confirmation) (all : List SlotEvent) (between now : SlotSight)
    → ConfirmsSight confirmed all between now → MayHaveSlot between.events between.held
    → MayHaveSlot now.events now.held
confirmed_has_slot None all between now same has =
    subst (λ (s : SlotSight). MayHaveSlot s.events s.held) (sym same) has
confirmed_has_slot (Some one) all between now adds has = confirms_has all one between now adds

acquired_owns : (acquired : Option Acquisition) (all : List SlotEvent) (was between : SlotSight)
    → AcquiresSight acquired all was between → OwnsHeld was.held was.own → OwnsHeld between.held between.own
acquired_owns None all was between sees owns = sees_owns all was between sees owns
acquired_owns (Some one) all was between adds owns = acquires_owns all one was between adds

confirmed_owns : (confirmed : Option Confirmation) (all : List SlotEvent) (between now : SlotSight)
    → ConfirmsSight confirmed all between now → OwnsHeld between.held between.own → OwnsHeld now.held now.own
confirmed_owns None all between now same owns = subst (λ (s : SlotSight). OwnsHeld s.held s.own) (sym same) owns
confirmed_owns (Some one) all between now adds owns = confirms_owns all one between now adds owns

acquired_events : (acquired : Option Acquisition) (all : List SlotEvent) (was between : SlotSight)
    → AcquiresSight acquired all was between → between.events ≡ events_with acquired all
acquired_events None all was between sees = sees.seen
acquired_events (Some one) all was between adds = adds.seen

confirmed_events : (confirmed : Option Confirmation) (all : List SlotEvent) (between now : SlotSight)
    → ConfirmsSight confirmed all between now → between.events ≡ all → now.events ≡ events_then confirmed all
confirmed_events None all between now same seen = ap (λ (s : SlotSight). s.events) same ∙ seen
confirmed_events (Some one) all between now adds seen = adds.seen

-- ---- the slot that it has then

held_known : (held : Option Hold) (events : List SlotEvent) → MayHaveSlot events held
    → held ≡ hold_at (confirmed_after events) held
held_known None events has = refl
held_known (Some mine) events has =
    ap (λ (n : ℕ). Some (hold mine.acquisition mine.number mine.found n)) has.confirmed_is

hold_twice : (known : ℕ → ℕ) (position : ℕ) (held : Option Hold) → hold_at known (hold_with position held) ≡ hold_at known held
hold_twice known position None = refl
hold_twice known position (Some mine) = refl

confirmed_held : (known : ℕ → ℕ) (confirmed : Option Confirmation) (all : List SlotEvent) (between now : SlotSight)
    → ConfirmsSight confirmed all between now → hold_at known now.held ≡ hold_at known between.held
confirmed_held known None all between now same = ap (λ (s : SlotSight). hold_at known s.held) same
confirmed_held known (Some one) all between now adds =
    ap (hold_at known) adds.held ∙ hold_twice known one.position between.held

acquired_held : (known : ℕ → ℕ) (acquired : Option Acquisition) (number : ℕ) (all : List SlotEvent)
    (was between : SlotSight) → number ≡ acquisitions all + 1 → AcquiresSight acquired all was between
    → hold_at known between.held ≡ held_with acquired number (confirmed_after all) known was.held
acquired_held known None number all was between number_is sees = ap (hold_at known) sees.held
acquired_held known (Some one) number all was between number_is adds =
    ap (hold_at known) adds.held
    ∙ ap (λ (n : ℕ). Some (hold one n (confirmed_after all one.slot) (known one.slot))) (sym number_is)

-- ---- all of it

module _ (acquired : Option Acquisition) (confirmed : Option Confirmation) (all : List SlotEvent) (was now : SlotSight)
    (changes : ChangesSight acquired confirmed all was now) where
  changes_more : BeginsWith now.events was.events
  changes_more = begins_then now.events changes.between.events was.events
      (confirms_more confirmed (events_with acquired all) changes.between now changes.confirms)
      (acquires_more acquired all was changes.between changes.acquires)

  changes_has : MayHaveSlot now.events now.held
  changes_has = confirmed_has_slot confirmed (events_with acquired all) changes.between now changes.confirms
      (acquired_has_slot acquired all was changes.between changes.acquires)

  changes_owns : OwnsHeld was.held was.own → OwnsHeld now.held now.own
  changes_owns owns = confirmed_owns confirmed (events_with acquired all) changes.between now changes.confirms
      (acquired_owns acquired all was changes.between changes.acquires owns)

  changes_events : now.events ≡ events_then confirmed (events_with acquired all)
  changes_events = confirmed_events confirmed (events_with acquired all) changes.between now changes.confirms
      (acquired_events acquired all was changes.between changes.acquires)

  changes_held : (number : ℕ) → number ≡ acquisitions all + 1
      → now.held ≡ held_with acquired number (confirmed_after all) (confirmed_after now.events) was.held
  changes_held number number_is =
      held_known now.held now.events changes_has
      ∙ (confirmed_held (confirmed_after now.events) confirmed (events_with acquired all) changes.between now
      changes.confirms
      ∙ acquired_held (confirmed_after now.events) acquired number all was changes.between number_is changes.acquires)

-- ---- what contracts see of it

module _ {U A : Type 0}
    (did : U → U → Book → Book → List ConnectionState → List ConnectionState → ℕ → Option Acquisition
    → Option Confirmation → A → Type 0)
    (checked : CheckedOf) (before after : U) (old new : Sight) (was now : SlotSight) where
  pub used_has : (answer : Option (A × Option ℕ)) → IsStreamedIf did checked before after old new was now answer
      → MayHaveSlot was.events was.held → MayHaveSlot now.events now.held
  used_has None unused has = subst (λ (s : SlotSight). MayHaveSlot s.events s.held) (sym unused.slots) has
  used_has (Some answer) streamed has =
      changes_has streamed.acquired streamed.confirmed streamed.events was now streamed.changes

  pub used_owns : (answer : Option (A × Option ℕ)) → IsStreamedIf did checked before after old new was now answer
      → OwnsHeld was.held was.own → OwnsHeld now.held now.own
  used_owns None unused owns = subst (λ (s : SlotSight). OwnsHeld s.held s.own) (sym unused.slots) owns
  used_owns (Some answer) streamed owns =
      changes_owns streamed.acquired streamed.confirmed streamed.events was now streamed.changes owns

-- what contracts see of it
module _ {U A : Type 0}
    (did : U → U → Book → Book → List ConnectionState → List ConnectionState → ℕ → Option Acquisition
    → Option Confirmation → A → Type 0)
    (checked : CheckedOf) (before after : U) (old new : Sight) (was now : SlotSight) (viewer later : ViewerOf)
    (viewer_is : record { seen = old.seen; events = was.events; held = was.held; own = was.own } ≡ viewer)
    (later_is : later ≡ record { seen = new.seen; events = now.events; held = now.held; own = now.own }) where
  its_events : {answer : A} {permit : Option ℕ}
      → (streamed : IsStreamed did checked before after old new was now answer permit)
      → now.events ≡ events_then streamed.confirmed (events_with streamed.acquired streamed.events)
  its_events streamed =
      changes_events streamed.acquired streamed.confirmed streamed.events was now streamed.changes

  is_used : (answer : A) (permit : Option ℕ) → IsStreamed did checked before after old new was now answer permit
      → IsUsed did checked viewer later before after answer permit
  is_used answer permit streamed = record {
    number = streamed.number;
    acquired = streamed.acquired;
    confirmed = streamed.confirmed;
    lent = streamed.lent;
    log_is = ap (λ (v : ViewerOf). transactions_of v.seen) later_is ∙ ap transactions_of streamed.sees.seen
        ∙ streamed.log_is;
    events = streamed.events;
    used = streamed.used;
    each = streamed.each;
    found = streamed.found;
    sent = streamed.sent;
    ends = streamed.ends;
    had = subst (λ (v : ViewerOf). MayHaveSlot streamed.events v.held) viewer_is
        (acquired_kept streamed.acquired streamed.events was streamed.changes.between streamed.changes.acquires);
    mine = subst (λ (v : ViewerOf). MayNote streamed.acquired streamed.confirmed v.held) viewer_is streamed.mine;
    number_is = streamed.number_is;
    events_are = ap (λ (v : ViewerOf). v.events) later_is ∙ its_events streamed;
    known = subst (λ (list : List SlotEvent). AreConfirmed (confirmed_after list) (book_slots streamed.lent.new))
        (sym (ap (λ (v : ViewerOf). v.events) later_is ∙ its_events streamed)) streamed.known;
    held_is = ap (λ (v : ViewerOf). v.held) later_is
        ∙ (changes_held streamed.acquired streamed.confirmed streamed.events was now streamed.changes streamed.number
        streamed.number_is
        ∙ (ap (λ (v : ViewerOf). held_with streamed.acquired streamed.number (confirmed_after streamed.events)
        (confirmed_after v.events) was.held) (sym later_is)
        ∙ ap (λ (v : ViewerOf). held_with streamed.acquired streamed.number (confirmed_after streamed.events)
        (confirmed_after later.events) v.held) viewer_is));
    permit_is = streamed.permit_is;
  }

  pub used_accepted : (answer : Option (A × Option ℕ)) → IsStreamedIf did checked before after old new was now answer
      → IsAcceptedLog checked old.seen → IsAcceptedLog checked new.seen
  used_accepted None unused accepted =
      subst (λ (s : Sight). IsAcceptedLog checked s.seen) (sym unused.log) accepted
  used_accepted (Some answer) streamed accepted =
      shown_accepted checked streamed.log old new streamed.sees
      (subst (λ (list : List Transaction). AreAccepted (setting_in checked) no_rows list) (sym streamed.log_is)
      (subst (λ (one : CheckedOf). AreAccepted (setting_in one) no_rows streamed.lent.transactions) streamed.lent.named
      streamed.lent.stands.accepted))

  pub used_if : (answer : Option (A × Option ℕ)) → IsStreamedIf did checked before after old new was now answer
      → IsUsedIf did checked viewer later before after answer
  used_if None unused = record {
    viewer = later_is ∙ (λ i. record {
      seen = (unused.log i).seen;
      events = (unused.slots i).events;
      held = (unused.slots i).held;
      own = (unused.slots i).own;
    }) ∙ viewer_is;
    user = unused.user;
  }
  used_if (Some answered) streamed = is_used answered.0 answered.1 streamed

  more_of : StartsWith new.seen old.seen → BeginsWith now.events was.events → SeesMore viewer later
  more_of log slots = subst (λ (v : ViewerOf). SeesMore v later) viewer_is
      (subst (λ (v : ViewerOf). SeesMore (record {
        seen = old.seen;
        events = was.events;
        held = was.held;
        own = was.own;
      }) v) (sym later_is) (record { log = log; slots = slots }))

  pub used_more : (answer : Option (A × Option ℕ)) → IsStreamedIf did checked before after old new was now answer
      → SeesMore viewer later
  used_more None unused =
      more_of ([], ap (λ (s : Sight). s.seen) unused.log ∙ sym (append-nil old.seen))
      ([], ap (λ (s : SlotSight). s.events) unused.slots ∙ sym (append-nil was.events))
  used_more (Some answer) streamed =
      more_of (sees_more_log streamed.log old new streamed.sees)
      (changes_more streamed.acquired streamed.confirmed streamed.events was now streamed.changes)
