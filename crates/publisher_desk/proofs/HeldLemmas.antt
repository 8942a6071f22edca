-- What is so of a publisher's book stays so, and what it makes of answers.
use Rattle.std.proofs.Common.{◌≡◌, ℕ, ◌+◌, ◌≤◌, List, [], ◌∷◌, ◌++◌, length, sym, ◌∙◌, ap, subst, arith, length-append, refl, true≢false}
use Rattle.std.specs.Prelude.{replicate, true}
use Rattle.std.proofs.lemmas.List.{length-replicate}
use Rattle.row_owners.specs.Owners.{OwnedWhere}
use Rattle.row_owners.specs.declared.owner_set.OwnerSet.{OwnerSet}
use Rattle.shard_checker.specs.CheckedView.{CheckedOf, setting_in}
use Rattle.table_changes.specs.Commands.{Command}
use Rattle.table_changes.specs.CommandLists.{AreAlike}
use Rattle.table_changes.specs.Tables.{no_rows}
use Rattle.table_changes.proofs.CommandListLemmas.{are_alike}
use Rattle.tables_log.specs.BookView.{book_checked, book_limit, book_log, book_rows, book_setting, book_slots}
use Rattle.tables_log.specs.Committing.{IsNew, Commits, IsKept, ChangesSlots, RefusedBy}
use Rattle.tables_log.specs.Commits.{CommitOf}
use Rattle.tables_log.specs.Logs.{entry_at}
use Rattle.tables_log.specs.Routes.{gets_some}
use Rattle.tables_log.specs.Slots.{AreInUse, KeepsUse}
use Rattle.tables_log.specs.StandsFor.{Transaction, AreAccepted, StandsFor, after}
use Rattle.tables_log.specs.declared.book.Book.{Book}
use Rattle.tables_log.specs.declared.error.CommitError.{CommitError}
use Rattle.tables_log.specs.declared.error.CommitError.TheVariants as e
use Rattle.tables_log.specs.declared.slots.Slot.{Slot}
use Rattle.tables_log.proofs.StandLemmas.{new_stands, each_is_logged, commits_add_one, slots_keep_it}
use Rattle.publisher_desk.specs.Answers.{IsMade, IsRefusedAfter}
use Rattle.publisher_desk.specs.Held.{IsLogOf, AddsEntry, AreEventsOf, IsBookOf, IsHeldFor}
use Rattle.publisher_desk.specs.Logged.{IsHistoryOf, Refuses}
use Rattle.publisher_desk.specs.Receipts.{ReceiptOf, receipt_of, transactions_of}
use Rattle.publisher_desk.specs.Sights.{AddsTo, Sees, view_of}
use Rattle.publisher_desk.specs.SlotEvents.{AreConfirmed, AreDated, AreSent, HaveEnded, KeepsConfirmed, advanced_after, confirmed_after, over_after, sent_at, use_after}
use Rattle.publisher_desk.specs.SlotSights.{slot_view}
use Rattle.publisher_desk.specs.declared.sight.Sight.{Sight}
use Rattle.publisher_desk.specs.declared.sight.HistoryView.{HistoryView}
use Rattle.publisher_desk.specs.declared.connection_state.ConnectionState.{ConnectionState}
use Rattle.publisher_desk.specs.declared.slot_event.SlotEvent.{SlotEvent}
use Rattle.publisher_desk.specs.declared.slot_event.SlotEvent.TheVariants.{Acquired, Advanced, Confirmed, Released}
use Rattle.publisher_desk.specs.declared.slot_sight.SlotView.{SlotView}
use Rattle.tables_log.proofs.SlotUses.{new_unused}
use Rattle.publisher_desk.proofs.PositionLemmas.{new_unconfirmed, new_unsent}

dated_longer : (commits more : ℕ) → commits ≤ more → (events : List SlotEvent) → AreDated commits events
    → AreDated more events
dated_longer commits more longer [] dated = tt
dated_longer commits more longer (Acquired one ∷ events) dated =
    (tt, dated_longer commits more longer events dated.1)
dated_longer commits more longer (Advanced one ∷ events) dated =
    let low = dated.0 in (omega (arith, low, longer), dated_longer commits more longer events dated.1)
dated_longer commits more longer (Confirmed one ∷ events) dated =
    (tt, dated_longer commits more longer events dated.1)
dated_longer commits more longer (Released one ∷ events) dated =
    let low = dated.0 in (omega (arith, low, longer), dated_longer commits more longer events dated.1)

-- ---- the book

log_of : (checked : CheckedOf) (book : Book) (transactions : List Transaction) → book_checked book ≡ checked
    → StandsFor book transactions → IsLogOf checked transactions (book_log book)
log_of checked book transactions named stands =
    subst (λ (one : CheckedOf). IsLogOf one transactions (book_log book)) named
    (record { accepted = stands.accepted; entries = stands.log })

pub new_held : (one checked : CheckedOf) (book : Book) (limit most total count : ℕ) (idle : ConnectionState)
    (connections : List ConnectionState)
    (history : HistoryView) (events : SlotView) → IsNew book one limit → one ≡ checked → limit ≡ most → total ≡ 0
    → idle.sent ≡ 0 → connections ≡ replicate count idle → count ≡ length checked.catalog.subscriptions
    → history ≡ view_of true [] [] → events ≡ slot_view true [] []
    → IsHeldFor checked most book total connections history events
new_held one checked book limit most total count idle connections history events new same bound none unsent all long
    empty eventless =
    let stands : StandsFor book [] = new_stands book one limit new in
    record {
      is = record {
        named = new.checked_is ∙ same;
        limited = new.limit_is ∙ bound;
        transactions = [];
        stands = stands;
      };
      counted = ap length new.log ∙ sym none;
      slots = ap length all ∙ length-replicate count idle ∙ long;
      sent = subst (λ (view : SlotView). AreSent (advanced_after view.all) connections) (sym eventless)
          (λ slot. ap (λ (list : List ConnectionState). sent_at list slot) all ∙ new_unsent count idle unsent slot);
      ended = subst (λ (view : SlotView). HaveEnded (over_after view.all) connections) (sym eventless)
          (λ slot over. absurd (true≢false (sym over)));
      history_is = subst (IsHistoryOf book) (sym empty) (record { stands = stands; idle = refl });
      events_are = subst (AreEventsOf book) (sym eventless) (record {
        used = new_unused book one limit new;
        confirmed = λ number. new_unconfirmed book one limit new number;
        turns = tt;
        within = tt;
        dated = tt;
        idle = refl;
      });
    }

pub commit_held : (checked : CheckedOf) (limit : ℕ) (old new : Book) (commands : List Command)
    (time number total more : ℕ) (connections : List ConnectionState) (history longer : HistoryView) (events : SlotView)
    → Commits old new commands time number
    → more ≡ total + 1 → IsHistoryOf new longer
    → IsHeldFor checked limit old total connections history events
    → IsHeldFor checked limit new more connections longer events
commit_held checked limit old new commands time number total more connections history longer events commits one of_new
    held =
    let count : length (book_log new) ≡ length (book_log old) + 1 = ap length commits.log
    ∙ length-append (book_log old) _ in
    record {
      is = record {
        named = commits.checked ∙ held.is.named;
        limited = commits.limit ∙ held.is.limited;
        transactions = held.is.transactions ++ record { commands = commands; time = time } ∷ [];
        stands = commits_add_one old new commands time number commits held.is.transactions held.is.stands;
      };
      counted = omega (arith, count, held.counted, one);
      slots = held.slots;
      sent = held.sent;
      ended = held.ended;
      history_is = of_new;
      events_are = record {
        used = subst (AreInUse (use_after events.all)) (sym commits.slots) held.events_are.used;
        confirmed = subst (AreConfirmed (confirmed_after events.all)) (sym commits.slots) held.events_are.confirmed;
        turns = held.events_are.turns;
        within = held.events_are.within;
        dated = dated_longer (length (book_log old)) (length (book_log new)) (omega (arith, count)) events.all
            held.events_are.dated;
        idle = held.events_are.idle;
      };
    }

slots_held : (checked : CheckedOf) (limit : ℕ) (old new : Book) (slots : List Slot) (total : ℕ)
    (connections : List ConnectionState)
    (history : HistoryView) (events : SlotView) → ChangesSlots old new slots → AreEventsOf new events
    → IsHeldFor checked limit old total connections history events
    → IsHeldFor checked limit new total connections history events
slots_held checked limit old new slots total connections history events changes now held = record {
  is = record {
    named = changes.checked ∙ held.is.named;
    limited = changes.limit ∙ held.is.limited;
    transactions = held.is.transactions;
    stands = slots_keep_it old new slots changes held.is.transactions held.is.stands;
  };
  counted = ap length changes.log ∙ held.counted;
  slots = held.slots;
  sent = held.sent;
  ended = held.ended;
  history_is = record {
    stands = slots_keep_it old new slots changes (transactions_of history.all) held.history_is.stands;
    idle = held.history_is.idle;
  };
  events_are = now;
}

-- the log is the same
pub dated_same : (old new : Book) (slots : List Slot) → ChangesSlots old new slots → (events : List SlotEvent)
    → AreDated (length (book_log old)) events → AreDated (length (book_log new)) events
dated_same old new slots changes events dated =
    subst (λ (n : ℕ). AreDated n events) (sym (ap length changes.log)) dated

pub kept_events : (old new : Book) (slots : List Slot) (events : SlotView) → ChangesSlots old new slots
    → KeepsUse (book_slots old) slots → KeepsConfirmed (book_slots old) slots → AreEventsOf old events
    → AreEventsOf new events
kept_events old new slots events changes keeps stays are = record {
  used = subst (AreInUse (use_after events.all)) (sym changes.slots_are) (keeps (use_after events.all) are.used);
  confirmed = subst (AreConfirmed (confirmed_after events.all)) (sym changes.slots_are)
      (λ number. stays number ∙ are.confirmed number);
  turns = are.turns;
  within = are.within;
  dated = dated_same old new slots changes events.all are.dated;
  idle = are.idle;
}

pub kept_held : (checked : CheckedOf) (limit : ℕ) (old new : Book) (total more : ℕ) (connections : List ConnectionState)
    (history : HistoryView) (events : SlotView) → IsKept old new → more ≡ total
    → IsHeldFor checked limit old total connections history events
    → IsHeldFor checked limit new more connections history events
kept_held checked limit old new total more connections history events kept same held =
    subst (λ (n : ℕ). IsHeldFor checked limit new n connections history events) (sym same)
    (slots_held checked limit old new (book_slots old) total connections history events kept
    (kept_events old new (book_slots old) events kept (λ used are. are) (λ number. refl) held.events_are) held)

-- ---- answers

module _ (checked : CheckedOf) (limit : ℕ) (old : Book) (is : IsBookOf checked limit old) where
  adds_entry : (new : Book) (commands : List Command) (time number : ℕ) → Commits old new commands time number
      → AddsEntry checked (book_log old) (book_log new) commands time number
  adds_entry new commands time number commits = record {
    number_is = commits.number_is;
    transactions = is.transactions;
    before = log_of checked old is.transactions is.named is.stands;
    now = log_of checked new (is.transactions ++ record { commands = commands; time = time } ∷ [])
        (commits.checked ∙ is.named)
        (commits_add_one old new commands time number commits is.transactions is.stands);
  }

  pub adds_as : (new : Book) (commands told : List Command) (time number own : ℕ) (seen : List CommitOf)
      → Commits old new commands time number → book_log old ≡ seen → commands ≡ told → number ≡ own
      → AddsEntry checked seen (book_log new) told time own
  adds_as new commands told time number own seen commits seen_is told_is own_is =
      subst (λ (n : ℕ). AddsEntry checked seen (book_log new) told time n) own_is
      (subst (λ (list : List Command). AddsEntry checked seen (book_log new) list time number) told_is
      (subst (λ (log : List CommitOf). AddsEntry checked log (book_log new) commands time number) seen_is
      (adds_entry new commands time number commits)))

  -- the seat has seen the whole log, which ends with the receipt
  pub made_as : (new : Book) (commands told : List Command) (time number : ℕ) (receipt : ReceiptOf)
      (history longer : HistoryView) (before after : Sight) → Commits old new commands time number
      → receipt ≡ receipt_of number told time → IsHistoryOf new longer
      → longer ≡ view_of true (history.all ++ receipt ∷ []) [] → AddsTo history.all receipt before after
      → IsMade checked limit before.seen after.seen told time receipt.number
  made_as new commands told time number receipt history longer before after commits is_receipt of_new longer_is adds =
      let own : receipt.number ≡ number = ap (λ (one : ReceiptOf). one.number) is_receipt in
      let named : receipt_of number told time ≡ receipt_of receipt.number told time =
      ap (λ n. receipt_of n told time) (sym own) in
      let all : longer.all ≡ after.seen = ap (λ (view : HistoryView). view.all) longer_is ∙ sym adds.seen in
      record {
        earlier = history.all;
        begins = adds.begins;
        seen_is = adds.seen
            ∙ ap (λ (one : ReceiptOf). history.all ++ one ∷ []) (is_receipt ∙ named);
        number_is = adds.number;
        within = omega (arith, own, commits.number_is, commits.room, is.limited);
        accepted = subst (λ (list : List ReceiptOf). AreAccepted (setting_in checked) no_rows (transactions_of list)) all
            (subst (λ (one : CheckedOf). AreAccepted (setting_in one) no_rows (transactions_of longer.all))
            (commits.checked ∙ is.named) of_new.stands.accepted);
      }

  refused_in : (transactions : List Transaction) → StandsFor old transactions → (commands : List Command)
      → (error : CommitError) → RefusedBy old commands error
      → IsRefusedAfter (book_checked old) (book_limit old) transactions commands error
  refused_in transactions stands commands e.EmptyTransaction refused = refused
  refused_in transactions stands commands e.TooManyCommands refused = refused
  refused_in transactions stands commands e.LogFull refused = record {
    sized = refused.transaction;
    full = sym (each_is_logged old transactions stands) ∙ refused.full;
  }
  refused_in transactions stands commands (e.At number fault) refused =
      let alike : AreAlike (book_setting old) (book_rows old) (after (book_setting old) transactions) =
      are_alike (book_setting old) (book_rows old) (after (book_setting old) transactions) stands.rows in
      let count = each_is_logged old transactions stands in
      record {
        sized = refused.transaction;
        room = omega (arith, refused.room, count);
        first = sym (alike.first 1 commands) ∙ refused.first;
      }
  refused_in transactions stands commands e.OutOfMemory refused = tt

  pub is_refused : (transactions : List Transaction) → StandsFor old transactions → (commands : List Command)
      → (error : CommitError) → RefusedBy old commands error
      → IsRefusedAfter checked limit transactions commands error
  is_refused transactions stands commands error refused =
      subst (λ (n : ℕ). IsRefusedAfter checked n transactions commands error) is.limited
      (subst (λ (one : CheckedOf). IsRefusedAfter one (book_limit old) transactions commands error) is.named
      (refused_in transactions stands commands error refused))

  -- of the whole log, which the seat has seen
  pub refuses : (history : HistoryView) (before after : Sight) (commands : List Command) (error : CommitError)
      → IsHistoryOf old history → Sees history.all before after → RefusedBy old commands error
      → Refuses checked limit commands before after error
  refuses history before after commands error told sees refused = record {
    log = history.all;
    sees = sees;
    accepted = subst (λ (one : CheckedOf). AreAccepted (setting_in one) no_rows (transactions_of history.all)) is.named
        told.stands.accepted;
    refused = is_refused (transactions_of history.all) told.stands commands error refused;
  }

-- for users of a lent book: whatever is said of its slots, they are those that it has
pub slots_left : (old new : Book) (slots : List Slot) → ChangesSlots old new slots
    → ChangesSlots old new (book_slots new)
slots_left old new slots changes =
    record {
      checked = changes.checked;
      limit = changes.limit;
      rows = changes.rows;
      log = changes.log;
      slots_are =
          refl;
    }

-- ---- who is woken

-- the subscribers that get something of a commit, by the plan of the checked catalog
pub concerned_in : (one checked : CheckedOf) (log : List CommitOf) (set : OwnerSet) (number : ℕ) → one ≡ checked
    → OwnedWhere set (gets_some one.plan (entry_at log number))
    → OwnedWhere set (gets_some checked.plan (entry_at log number))
concerned_in one checked log set number =
    subst (λ (other : CheckedOf). OwnedWhere set (gets_some other.plan (entry_at log number)))
