-- That no stream starts before a position that an earlier one of its slot reports as confirmed, and that no slot is
-- confirmed before such a position in the end: by the order of events.
use Rattle.std.proofs.Common.{◌≡◌, ℕ, ◌+◌, ◌<◌, ◌≤◌, max, List, [], ◌∷◌, length, get_or, Bool, true, false, refl, sym, ap, subst, ◌∙◌, arith, leb, ltb, length-append}
use Rattle.std.proofs.lemmas.Bool.{leb-true, leb-false, ltb-true, ltb-false}
use Rattle.std.proofs.lemmas.List.{get_or-map, get_or_append_left}
use Rattle.std.proofs.lemmas.List.Elements.{All-cons, All-head, All-nil, All-tail}
use Rattle.std.proofs.lemmas.List.FromFn.{get_or-range_with_len}
use Rattle.std.proofs.lemmas.List.Sorted.{All-permutation}
use Rattle.std.proofs.Math.Seq.{get_or-append_seam}
use Rattle.std.specs.Prelude.{All, IfNone, MatchBool, None, OnSome, Option, Some, is_some, unwrap_or}
use Rattle.filter_tree.proofs.Tests.{by_test}
use Rattle.tables_log.specs.Lsn.{commits_before}
use Rattle.tables_log.specs.Slots.{confirmed_at}
use Rattle.tables_log.specs.declared.slots.Slot.{Slot}
use Rattle.publisher_desk.specs.SlotEvents.{AreConfirmed, AreInTurn, confirmed_after, no_position, no_use}
use Rattle.publisher_desk.specs.SlotSights.{hold}
use Rattle.publisher_desk.specs.Viewers.{HadSlot}
use Rattle.publisher_desk.specs.declared.slot_event.SlotEvent.{SlotEvent}
use Rattle.publisher_desk.specs.declared.slot_sight.Hold.{Hold}
use Rattle.senders.specs.Closing.{HadStreamIn}
use Rattle.senders.specs.Reached.{AllEndAsConfirmed, AllEndReached, AreResumed, EndsReached, IsOrder, IsResumed, if_started, started_in}
use Rattle.senders.specs.Results.{HadStream, ServedOf, StartsFrom, acquisition}
use Rattle.senders.specs.Starts.{IsReach}
use Rattle.senders.proofs.OrderLemmas.{finds, stays_confirmed}
use Rattle.senders.proofs.ReachLemmas.{long_count}

-- ---- the stream of a connection

-- A stream of this slot, of this number, had the slot in these events. It found it confirmed up to its start at most,
-- and left it confirmed up to what it reports at least.
record HadSlotFrom (events : List SlotEvent) (slot number confirmed start : ℕ) : Type 0 where
  held : Hold
  sent : ℕ
  commits : ℕ
  had : HadSlot events held sent commits
  slot_is : held.acquisition.slot ≡ slot
  number_is : held.number ≡ number
  left : confirmed ≤ held.confirmed
  found : held.found ≤ start

starts_low : (found start : ℕ) (is_requested : Bool) → StartsFrom found start is_requested → found ≤ start
starts_low found start true from = omega (arith, from)
starts_low found start false from = omega (arith, from)

had_from : (events : List SlotEvent) (its start : Option ℕ) (is_requested : Bool)
    (number confirmed sent commits slot : ℕ) → HadStream its start is_requested number confirmed sent commits events
    → its ≡ Some slot
    → HadSlotFrom events slot number confirmed (unwrap_or start 0)
had_from events (Some its) (Some start) is_requested number confirmed sent commits slot had same = record {
  held = hold (acquisition its start is_requested) number had.found (max had.found confirmed);
  sent = sent;
  commits = commits;
  had = had.had;
  slot_is = cc;
  number_is = refl;
  left = omega arith;
  found = starts_low had.found start is_requested had.from;
}
had_from events (Some its) None is_requested number confirmed sent commits slot had same = absurd had
had_from events None (Some start) is_requested number confirmed sent commits slot had same = absurd had
had_from events None None is_requested number confirmed sent commits slot had same = absurd cc

-- ---- the connections that started a stream

if_all : (P : ServedOf → Type 0) (start : Option ℕ) (one : ServedOf) (others : List ServedOf) → P one → All P others
    → All P (if_started start one others)
if_all P None one others first rest = rest
if_all P (Some start) one others first rest = All-cons P one others first rest

started_all : (P : ServedOf → Type 0) (all : List ServedOf) → All P all → All P (started_in all)
started_all P [] each = All-nil P
started_all P (one ∷ all) each =
    if_all P one.start one (started_in all) (All-head P one all each) (started_all P all (All-tail P one all each))

module _ (events : List SlotEvent) (turns : AreInTurn no_use no_position events) (served order : List ServedOf)
    (count slots : ℕ) (ordered : IsOrder count served order) (had : All (HadStreamIn events) served) where
  each : All (HadStreamIn events) order
  each = All-permutation (HadStreamIn events) (started_in served) order ordered.same
      (started_all (HadStreamIn events) served had)

  number_at : (place : ℕ) (other : ServedOf) → place < length order → (get_or order place other).number ≡ place + 1
  number_at place other below =
      let long = long_count order count ordered.numbered in
      let shown = get_or-map (λ (one : ServedOf). one.number) order place other 0 below in
      let same = ap (λ (list : List ℕ). get_or list place 0) ordered.numbered in
      let number = get_or-range_with_len 1 count place 0 (omega (arith, long, below)) in
      omega (arith, shown, same, number)

  had_at : (place : ℕ) (other : ServedOf) (slot : ℕ) → place < length order → (get_or order place other).slot ≡ Some slot
      → HadSlotFrom events slot (place + 1) (get_or order place other).confirmed
      (unwrap_or (get_or order place other).start 0)
  unfolding each number_at
  had_at place other slot below same =
      let one : ServedOf = get_or order place other in
      subst (λ (n : ℕ). HadSlotFrom events slot n one.confirmed (unwrap_or one.start 0)) (number_at place other below)
      (had_from events one.slot one.start one.is_requested one.number one.confirmed one.sent (length one.viewer.seen) slot
      (each place other below) same)

  -- an earlier stream of the slot, and a later one
  earlier_first : (slot place later confirmed start low high : ℕ) → place < later
      → HadSlotFrom events slot (place + 1) confirmed low → HadSlotFrom events slot (later + 1) high start
      → confirmed ≤ start
  earlier_first slot place later confirmed start low high order one other =
      let first = one.number_is in let second = other.number_is in
      let up = finds events one.held other.held one.sent other.sent one.commits other.commits one.had other.had
      (one.slot_is ∙ sym other.slot_is) (omega (arith, first, second, order)) turns in
      let left = one.left in let found = other.found in omega (arith, up, left, found)

  resumed : (slot : ℕ) → IsResumed order slot
  unfolding had_at earlier_first
  resumed slot earlier one later same of place other below its =
      let all = ap length same in let long = length-append earlier (one ∷ later) in
      let before : get_or order place other ≡ get_or earlier place other =
      ap (λ (list : List ServedOf). get_or list place other) same
      ∙ get_or_append_left earlier (one ∷ later) other place below in
      let here : get_or order (length earlier) other ≡ one =
      ap (λ (list : List ServedOf). get_or list (length earlier) other) same
      ∙ get_or-append_seam earlier one later other in
      let first : HadSlotFrom events slot (place + 1) (get_or earlier place other).confirmed
      (unwrap_or (get_or earlier place other).start 0) =
      subst (λ (it : ServedOf). HadSlotFrom events slot (place + 1) it.confirmed (unwrap_or it.start 0)) before
      (had_at place other slot (omega (arith, all, long, below))
      (ap (λ (it : ServedOf). it.slot) before ∙ its)) in
      let second : HadSlotFrom events slot (length earlier + 1) one.confirmed (unwrap_or one.start 0) =
      subst (λ (it : ServedOf). HadSlotFrom events slot (length earlier + 1) it.confirmed (unwrap_or it.start 0)) here
      (had_at (length earlier) other slot (omega (arith, all, long))
      (ap (λ (it : ServedOf). it.slot) here ∙ of)) in
      earlier_first slot place (length earlier) (get_or earlier place other).confirmed (unwrap_or one.start 0)
      (unwrap_or (get_or earlier place other).start 0) one.confirmed below first second

  -- No start is before what an earlier connection of its slot reports as confirmed.
  pub all_resumed : AreResumed slots order
  unfolding resumed
  all_resumed slot below = resumed slot

  -- No slot is confirmed before that in the end.
  pub all_kept : (last : List Slot) → AreConfirmed (confirmed_after events) last → AllEndReached slots last order
      → AllEndAsConfirmed slots last order
  unfolding had_at
  all_kept last known reached slot below = record {
    reached = reached slot below;
    resumed = λ place other within its.
        let one = had_at place other slot within its in
        let left = one.left in let up = stays_confirmed events one.held one.sent one.commits one.had turns in
        let here = ap (confirmed_after events) one.slot_is in let at = known slot in
        omega (arith, left, up, here, at);
  }

-- ---- the position up to which the slot is confirmed in the end

module _ (order : List ServedOf) (slots : List Slot) (slot reach position : ℕ) (reach_is : IsReach order slot reach)
    (is : position ≡ confirmed_at slots slot) where
  kept : commits_before position ≤ reach → EndsReached order slots slot
  kept far count below =
      let same = ap commits_before is in reach_is.all count (omega (arith, below, far, same))

  -- it is after a commit that is not accounted for
  not_kept : reach < commits_before position → ¬ EndsReached order slots slot
  not_kept late so = let same = ap commits_before is in reach_is.next (so reach (omega (arith, late, same)))

  pub kept_so : MatchBool (leb (commits_before position) reach) (EndsReached order slots slot)
      (¬ EndsReached order slots slot)
  unfolding kept not_kept
  kept_so = by_test (leb (commits_before position) reach)
      (λ near. subst (λ (b : Bool). MatchBool b (EndsReached order slots slot) (¬ EndsReached order slots slot)) (sym near)
      (kept (leb-true (commits_before position) reach near)))
      (λ late. subst (λ (b : Bool). MatchBool b (EndsReached order slots slot) (¬ EndsReached order slots slot)) (sym late)
      (not_kept (leb-false (commits_before position) reach late)))

pub one_kept_more : (slots : List Slot) (count : ℕ) (order : List ServedOf) → AllEndReached count slots order
    → EndsReached order slots count → AllEndReached (count + 1) slots order
one_kept_more slots count order before last slot below = by_test (ltb slot count)
    (λ less. before slot (ltb-true slot count less))
    (λ more. let least = ltb-false slot count more in
    let is : count ≡ slot = omega (arith, least, below) in subst (EndsReached order slots) is last)

-- ---- answers

-- what is found is so, and it is not so where nothing is found
pub found_so : {A : Type 0} (P : Type 0) (found : Option A) (so : Bool) → so ≡ is_some found → OnSome found P
    → IfNone found (¬ P) → MatchBool so P (¬ P)
found_so P None so is holds fails = subst (λ (b : Bool). MatchBool b P (¬ P)) (sym is) fails
found_so P (Some x) so is holds fails = subst (λ (b : Bool). MatchBool b P (¬ P)) (sym is) holds
