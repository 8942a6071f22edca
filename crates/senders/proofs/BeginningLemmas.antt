-- A log that goes on has the commits that its beginning had at their places, and events that go on keep what happened.
use Rattle.std.proofs.Common.{◌≡◌, ℕ, zero, suc, ◌+◌, ◌≤◌, max, Bool, Option, Some, None, List, [], ◌∷◌, ◌++◌, length, sym, ◌∙◌, ap, subst, arith, length-append, append_assoc}
use Rattle.std.specs.Prelude.{fold, slice_get}
use Rattle.shard_checker.specs.CheckedView.{CheckedOf, setting_in}
use Rattle.table_changes.specs.Records.{record_of}
use Rattle.table_changes.specs.Setting.{Setting}
use Rattle.table_changes.specs.Tables.{Tables, no_rows}
use Rattle.tables_log.specs.Commits.{CommitOf, commit_of}
use Rattle.tables_log.specs.StandsFor.{Transaction, entries_from, left_by}
use Rattle.copy_both.specs.VoiceLaws.{AreAt}
use Rattle.publisher_desk.specs.Receipts.{ReceiptOf, transactions_of}
use Rattle.publisher_desk.specs.Sights.{StartsWith}
use Rattle.publisher_desk.specs.SlotSights.{BeginsWith, hold}
use Rattle.publisher_desk.specs.Viewers.{HadSlot, log_seen, release}
use Rattle.publisher_desk.specs.declared.slot_event.SlotEvent.{SlotEvent}
use Rattle.publisher_desk.specs.declared.slot_event.SlotEvent.TheVariants.{Acquired, Released}
use Rattle.publisher_desk.specs.declared.slot_sight.Hold.{Hold}
use Rattle.publisher_desk.proofs.LoggedLemmas.{transactions_append}
use Rattle.senders.specs.Results.{HadStream, acquisition}

-- ---- entries

-- what is recorded of more transactions begins with what is recorded of the first ones
pub entries_append : (setting : Setting) (tables : Tables) (number : ℕ) (transactions more : List Transaction)
    → entries_from setting tables number (transactions ++ more)
    ≡ entries_from setting tables number transactions
    ++ entries_from setting (fold (left_by setting) tables transactions) (number + length transactions) more
entries_append setting tables number [] more =
    let same : number ≡ number + 0 = omega arith in ap (λ n. entries_from setting tables n more) same
entries_append setting tables number (transaction ∷ transactions) more =
    let later : number + 1 + length transactions ≡ number + suc (length transactions) = omega arith in
    ap (λ others. commit_of number transaction.time (record_of setting tables transaction.commands) ∷ others)
    (entries_append setting (left_by setting tables transaction) (number + 1) transactions more
    ∙ ap (λ n. entries_from setting (left_by setting tables transaction) (number + 1) transactions
    ++ entries_from setting (fold (left_by setting) (left_by setting tables transaction) transactions) n more) later)

-- the entries of a log go on those of its beginning
pub record GoesOn (checked : CheckedOf) (log seen : List ReceiptOf) : Type 0 where
  pub others : List CommitOf
  pub is : log_seen checked log ≡ log_seen checked seen ++ others

pub log_goes_on : (checked : CheckedOf) (log seen : List ReceiptOf) → StartsWith log seen → GoesOn checked log seen
log_goes_on checked log seen (rest, is) = record {
  others = entries_from (setting_in checked) (fold (left_by (setting_in checked)) no_rows (transactions_of seen))
      (1 + length (transactions_of seen)) (transactions_of rest);
  is = ap (λ (list : List Transaction). entries_from (setting_in checked) no_rows 1 list)
      (ap transactions_of is ∙ transactions_append seen rest)
      ∙ entries_append (setting_in checked) no_rows 1 (transactions_of seen) (transactions_of rest);
}

-- ---- commits at their places

pub get_longer : {X : Type 0} (xs more : List X) (place : ℕ) (x : X) → slice_get xs place ≡ Some x
    → slice_get (xs ++ more) place ≡ Some x
get_longer [] more place x at = absurd cc
get_longer (y ∷ ys) more zero x at = at
get_longer (y ∷ ys) more (suc place) x at = get_longer ys more place x at

pub at_longer : (log more : List CommitOf) (place : ℕ) (commits : List CommitOf) → AreAt log place commits
    → AreAt (log ++ more) place commits
at_longer log more place [] at = tt
at_longer log more place (commit ∷ commits) at =
    (get_longer log more place commit at.0, at_longer log more (suc place) commits at.1)

-- they are in each log that begins so
pub at_in_log : (checked : CheckedOf) (log seen : List ReceiptOf) (place : ℕ) (commits : List CommitOf)
    → StartsWith log seen → AreAt (log_seen checked seen) place commits → AreAt (log_seen checked log) place commits
at_in_log checked log seen place commits starts at =
    let on : GoesOn checked log seen = log_goes_on checked log seen starts in
    subst (λ (entries : List CommitOf). AreAt entries place commits) (sym on.is)
    (at_longer (log_seen checked seen) on.others place commits at)

pub length_seen : (log seen : List ReceiptOf) → StartsWith log seen → length seen ≤ length log
length_seen log seen (rest, is) = omega (arith, ap length is, length-append seen rest)

-- ---- events

two_within : (before between after rest : List SlotEvent) (first second : SlotEvent)
    → (before ++ first ∷ between ++ second ∷ after) ++ rest ≡ before ++ first ∷ between ++ second ∷ (after ++ rest)
two_within before between after rest first second = simp append_assoc

pub had_longer : (all events : List SlotEvent) (held : Hold) (sent commits : ℕ) → BeginsWith all events
    → HadSlot events held sent commits → HadSlot all held sent commits
had_longer all events held sent commits (rest, is) had = record {
  before = had.before;
  between = had.between;
  after = had.after ++ rest;
  events_are = is ∙ ap (λ (list : List SlotEvent). list ++ rest) had.events_are
      ∙ two_within had.before had.between had.after rest (Acquired held.acquisition)
      (Released (release held.acquisition.slot commits));
  number_is = had.number_is;
  was_free = had.was_free;
  keep = had.keep;
  found_is = had.found_is;
  confirmed_is = had.confirmed_is;
  sent_is = had.sent_is;
}

pub stream_longer : (slot start : Option ℕ) (is_requested : Bool) (number confirmed sent commits : ℕ)
    (all events : List SlotEvent) → BeginsWith all events
    → HadStream slot start is_requested number confirmed sent commits events
    → HadStream slot start is_requested number confirmed sent commits all
stream_longer (Some slot) (Some start) is_requested number confirmed sent commits all events begins had = record {
  found = had.found;
  had = had_longer all events (hold (acquisition slot start is_requested) number had.found (max had.found confirmed))
      sent commits begins had.had;
  from = had.from;
}
stream_longer None None is_requested number confirmed sent commits all events begins had = had
stream_longer (Some slot) None is_requested number confirmed sent commits all events begins had = absurd had
stream_longer None (Some start) is_requested number confirmed sent commits all events begins had = absurd had
