-- Each step keeps what tokens know of the slots.
use Rattle.std.proofs.Common.{◌≡◌, ◌≢◌, ℕ, zero, suc, ◌+◌, ◌≤◌, List, [], ◌∷◌, ◌++◌, set, Bool, true, false, true≢false, refl, sym, ap, ◌∙◌, subst, ⊎_elim, arith, cond, eq-eqb, ne_eqb}
use Rattle.std.specs.Prelude.{Option, Some, None}
use mathlib.Core.Option.{some, some-injective, some-ne-none}
use mathlib.Core.Logic.{dite}
use native.Mathlib.Decide.{ℕ_discrete}
use lib.ListN.{get_elem?}
use Rattle.atomic_table.specs.Table.{State, Me, Allows, Splits, Joins}
use Rattle.atomic_table.specs.Table as table
use Rattle.atomic_table.proofs.Lists.{at_set, at_snoc, set_else}
use Rattle.publisher_desk.specs.SlotEvents.{acquisitions, confirmed_after, use_after, use_by}
use Rattle.publisher_desk.specs.SlotSights.{slot_view, hold, MayHaveSlot, AreKnown, has_slot, held_in, held_by, hold_with, owned_by, owned_in, FitsEvents, AreSlotsKept, HasIt, begun, shown, held_after, added_in, added, MayHappen, first_in, rest_in, left, given, joined, nobody}
use Rattle.publisher_desk.specs.declared.slot_event.Acquisition.{Acquisition}
use Rattle.publisher_desk.specs.declared.slot_event.Confirmation.{Confirmation}
use Rattle.publisher_desk.specs.declared.slot_event.SlotEvent.{SlotEvent}
use Rattle.publisher_desk.specs.declared.slot_event.SlotEvent.TheVariants.{Acquired, Advanced, Confirmed, Released}
use Rattle.publisher_desk.specs.declared.slot_sight.Hold.{Hold}
use Rattle.publisher_desk.specs.declared.slot_sight.SlotSight.{SlotSight}
use Rattle.publisher_desk.specs.declared.slot_sight.SlotView.{SlotView}
use Rattle.publisher_desk.proofs.EventLemmas.{acquired_has, confirmed_has, use_more}
use Rattle.publisher_desk.proofs.OwnLemmas.{added_owned, cuts_owned, joins_owned, newly, newly_low, newly_single, owned_one, owned_set, shown_owned}
use Rattle.publisher_desk.proofs.SlotsHeld.{Spares, advanced_stay, begins_whole, cut_held, has_else, has_here, held_append, held_in_append, held_one, held_set, held_two, known_append, known_longer, only_known, rest_known, shown_held, shown_known}

-- ---- an event

-- the rest of the sights that hold the slot of the event of the first one
abbrev others : ℕ → List SlotSight → ℕ
others slot sights = held_in slot (rest_in sights)

split_first : (slot : ℕ) (sights : List SlotSight)
    → held_in slot sights ≡ has_slot slot (first_in sights).held + others slot sights
split_first slot [] = refl
split_first slot (one ∷ sights) = refl

first_known : (all : List SlotEvent) (sights : List SlotSight) → AreKnown all sights
    → MayHaveSlot all (first_in sights).held
first_known all [] known = tt
first_known all (one ∷ sights) known = known.1

pub held_confirmed : (all : List SlotEvent) (one : Confirmation) (held : Option Hold) → MayHaveSlot all held
    → HasIt held one.slot → MayHaveSlot (all ++ Confirmed one ∷ []) (hold_with one.position held)
held_confirmed all one None has its = tt
held_confirmed all one (Some mine) has (it, same, slot) =
    let alike : mine ≡ it = cc in
    confirmed_has all one mine has (ap (λ (h : Hold). h.acquisition.slot) alike ∙ slot)

after_event : (all : List SlotEvent) (event : SlotEvent) (held : Option Hold) → MayHaveSlot all held
    → MayHappen event all held → MayHaveSlot (all ++ event ∷ []) (held_after event all held)
after_event all (Acquired one) held has may = acquired_has all one may
after_event all (Advanced one) held has may = advanced_stay all one held has
after_event all (Confirmed one) held has may = held_confirmed all one held has may
after_event all (Released one) held has may = tt

-- what is confirmed changes not who has a slot
confirmed_slot : (slot position : ℕ) (held : Option Hold) → has_slot slot (hold_with position held) ≡ has_slot slot held
confirmed_slot slot position None = refl
confirmed_slot slot position (Some mine) = refl

added_known : (log all : List SlotEvent) (event : SlotEvent) (sights : List SlotSight) → all ≡ log
    → MayHaveSlot (log ++ event ∷ []) (held_after event all (first_in sights).held)
    → Spares event (λ slot. others slot sights)
    → AreKnown log sights → AreKnown (log ++ event ∷ []) (added_in all event sights)
added_known log all event [] same has none known = tt
added_known log all event (one ∷ sights) same has none known = (
  begins_whole (log ++ event ∷ []) (all ++ event ∷ []) (ap (λ (list : List SlotEvent). list ++ event ∷ []) same),
  has,
  known_longer log event sights none known.2,
)

-- ---- views

off : false ≡ true → ⊥
off same = true≢false (sym same)

fits_set : (keeper : ℕ) (log : List SlotEvent) (views : List SlotView) (by : ℕ) (w : SlotView)
    → ((j : ℕ) (u : SlotView) → j ≢ by → get_elem? views j ≡ some u → FitsEvents keeper log j u)
    → FitsEvents keeper log by w
    → (j : ℕ) (u : SlotView) → get_elem? (set views by w) j ≡ some u → FitsEvents keeper log j u
fits_set keeper log views by w others mine j u at = ⊎_elim
    (λ (here : (j ≡ by) × (w ≡ u)). subst (λ (one : ℕ × SlotView). FitsEvents keeper log one.0 one.1)
    (λ i. (sym here.0 i, here.1 i)) mine)
    (λ (there : (j ≢ by) × (get_elem? views j ≡ some u)). others j u there.0 there.1)
    (at_set views by j w u at)

module _ (views : List SlotView) (kept : AreSlotsKept views) (by : ℕ) (v : SlotView)
    (at : get_elem? views by ≡ some v) where
  tells : v.keeps ≡ true → AreKnown v.all v.sights
  tells keeps =
      let mine = kept.each by v at in
      subst (λ (list : List SlotEvent). AreKnown list v.sights) (sym (mine.0 keeps).1) mine.1

  tells_single : (n : ℕ) → owned_in n v.sights ≤ 1
  tells_single n = let one = owned_one n views by v at in let all = kept.single n in omega (arith, one, all)

  stays : (w : SlotView) → w.keeps ≡ v.keeps → w.all ≡ v.all → AreKnown kept.all w.sights
      → ((slot : ℕ) → held_in slot w.sights ≡ held_in slot v.sights)
      → ((n : ℕ) → owned_in n w.sights ≡ owned_in n v.sights) → AreSlotsKept (set views by w)
  stays w keeps all known same owned =
      let mine = kept.each by v at in
      record {
        keeper = kept.keeper;
        all = kept.all;
        each = fits_set kept.keeper kept.all views by w (λ j u apart there. kept.each j u there)
            ((λ k. let fits = mine.0 (sym keeps ∙ k) in (fits.0, all ∙ fits.1)), known);
        once = λ slot. let change = held_set slot views by v w at in let alike = same slot in
            let before = kept.once slot in omega (arith, change, alike, before);
        free = λ slot unused. let change = held_set slot views by v w at in let alike = same slot in
            let before = kept.free slot unused in omega (arith, change, alike, before);
        single = λ n. let change = owned_set n views by v w at in let alike = owned n in
            let before = kept.single n in omega (arith, change, alike, before);
        low = λ n above. let change = owned_set n views by v w at in let alike = owned n in
            let before = kept.low n above in omega (arith, change, alike, before);
      }

  begins_kept : AreSlotsKept (set views by (begun v))
  begins_kept = stays (begun v) refl refl ((kept.all, refl), tt, (kept.each by v at).1) (λ slot. omega arith)
      (λ n. omega arith)

  shows_kept : v.keeps ≡ true → AreSlotsKept (set views by (shown v))
  shows_kept keeps =
      let mine = kept.each by v at in
      stays (shown v) refl refl (shown_known kept.all v.all v.sights (mine.0 keeps).1 mine.1)
      (λ slot. shown_held slot v.all v.sights) (λ n. shown_owned n v.all v.sights)

  checks_kept : AreSlotsKept (set views by v)
  checks_kept = stays v refl refl (kept.each by v at).1 (λ slot. omega arith) (λ n. omega arith)

  -- before the event no view but the first sight has its slot
  module _ (event : SlotEvent) (keeps : v.keeps ≡ true) (may : MayHappen event v.all (first_in v.sights).held) where
    fits : (by ≡ kept.keeper) × (v.all ≡ kept.all)
    fits = (kept.each by v at).0 keeps

    unused : (one : Acquisition) → use_after v.all one.slot ≡ false → held_by one.slot views ≡ 0
    unused one none = kept.free one.slot
        (subst (λ (list : List SlotEvent). use_after list one.slot ≡ false) fits.1 none)

    mine_has : (slot : ℕ) → (mine : Hold) × ((first_in v.sights).held ≡ Some mine) × (mine.acquisition.slot ≡ slot)
        → has_slot slot (first_in v.sights).held ≡ 1
    mine_has slot (mine, held, same) = ap (has_slot slot) held ∙ has_here slot mine same

    -- of the slot that the first sight of this view has, its other sights, and the other views
    rest_of : (slot : ℕ) → HasIt (first_in v.sights).held slot → others slot v.sights ≡ 0
    rest_of slot has =
        let mine = mine_has slot has in let once = kept.once slot in
        let some = held_one slot views by v at in let split = split_first slot v.sights in
        omega (arith, mine, once, some, split)

    other_of : (slot : ℕ) → HasIt (first_in v.sights).held slot → (j : ℕ) (u : SlotView) → j ≢ by
        → get_elem? views j ≡ some u → held_in slot u.sights ≡ 0
    other_of slot has j u apart there =
        let mine = mine_has slot has in let once = kept.once slot in
        let both = held_two slot views j by u v apart there at in
        let split = split_first slot v.sights in omega (arith, mine, once, both, split)

    -- so it is of the slot of the event
    no_rest : (e : SlotEvent) → MayHappen e v.all (first_in v.sights).held → Spares e (λ slot. others slot v.sights)
    no_rest (Acquired one) free =
        let all = unused one free in let some = held_one one.slot views by v at in
        let split = split_first one.slot v.sights in omega (arith, all, some, split)
    no_rest (Advanced one) may' = tt
    no_rest (Confirmed one) has = rest_of one.slot has
    no_rest (Released one) has = rest_of one.slot has

    no_other : (e : SlotEvent) → MayHappen e v.all (first_in v.sights).held → (j : ℕ) (u : SlotView) → j ≢ by
        → get_elem? views j ≡ some u → Spares e (λ slot. held_in slot u.sights)
    no_other (Acquired one) free j u apart there =
        let all = unused one free in let some = held_one one.slot views j u there in omega (arith, all, some)
    no_other (Advanced one) may' j u apart there = tt
    no_other (Confirmed one) has j u apart there = other_of one.slot has j u apart there
    no_other (Released one) has j u apart there = other_of one.slot has j u apart there

    abbrev longer : List SlotEvent
    longer = kept.all ++ event ∷ []

    whole : v.all ++ event ∷ [] ≡ longer
    whole = ap (λ (list : List SlotEvent). list ++ event ∷ []) fits.1

    abbrev held : Option Hold
    held = held_after event v.all (first_in v.sights).held

    has_held : MayHaveSlot longer held
    has_held = subst (λ (list : List SlotEvent). MayHaveSlot list held) whole
        (after_event v.all event (first_in v.sights).held (first_known v.all v.sights (tells keeps)) may)

    -- the numbers of the acquisitions that views have then
    adds_owned : (n : ℕ) → owned_by n (set views by (added event v))
        ≤ owned_by n views + newly n event (acquisitions kept.all)
    adds_owned n =
        let change = owned_set n views by v (added event v) at in
        let more = added_owned n v.all event v.sights in
        let same = ap (λ (list : List SlotEvent). newly n event (acquisitions list)) fits.1 in
        omega (arith, change, more, same)

    adds_each : (j : ℕ) (u : SlotView) → get_elem? (set views by (added event v)) j ≡ some u
        → FitsEvents kept.keeper longer j u
    adds_each = fits_set kept.keeper longer views by (added event v)
        (λ j u apart there. let other = kept.each j u there in (
          (λ k. absurd (apart ((other.0 k).0 ∙ sym fits.0))),
          known_longer kept.all event u.sights (no_other event may j u apart there) other.1,
        )) (
          (λ _. (fits.0, whole)),
          added_known kept.all v.all event v.sights fits.1 has_held (no_rest event may) (kept.each by v at).1,
        )

    -- what the view then holds of a slot
    added_held : (slot : ℕ) (all : List SlotEvent) (sights : List SlotSight) → held_in slot (added_in all event sights)
        ≤ has_slot slot (held_after event all (first_in sights).held) + others slot sights
    added_held slot all [] = omega arith
    added_held slot all (one ∷ sights) = omega arith

    abbrev newly_held : Acquisition → Hold
    newly_held one =
        hold one (acquisitions v.all + 1) (confirmed_after v.all one.slot) (confirmed_after v.all one.slot)

    -- whatever the event, of its own slot and of each other
    once_by : (e : SlotEvent) → MayHappen e v.all (first_in v.sights).held → (slot : ℕ) (count : ℕ)
        → count + held_in slot v.sights
        ≤ held_by slot views + has_slot slot (held_after e v.all (first_in v.sights).held) + others slot v.sights
        → count ≤ 1
    once_by (Acquired one) free slot count change =
        let before = kept.once slot in let split = split_first slot v.sights in
        dite (ℕ_discrete one.slot slot)
        (λ here. let mine = has_here slot (newly_held one) here in
        let none : held_by slot views ≡ 0 = subst (λ (n : ℕ). held_by n views ≡ 0) here (unused one free) in
        omega (arith, change, mine, none, split))
        (λ apart. let mine = has_else slot (newly_held one) apart in
        omega (arith, change, mine, before, split))
    once_by (Advanced other) may' slot count change =
        let before = kept.once slot in let split = split_first slot v.sights in omega (arith, change, before, split)
    once_by (Confirmed other) has slot count change =
        let before = kept.once slot in let split = split_first slot v.sights in
        let same = confirmed_slot slot other.position (first_in v.sights).held in
        omega (arith, change, before, split, same)
    once_by (Released other) has slot count change =
        let before = kept.once slot in let split = split_first slot v.sights in omega (arith, change, before, split)

    free_by : (e : SlotEvent) → MayHappen e v.all (first_in v.sights).held → (slot : ℕ) (count : ℕ)
        → use_by e (use_after kept.all) slot ≡ false
        → count + held_in slot v.sights
        ≤ held_by slot views + has_slot slot (held_after e v.all (first_in v.sights).held) + others slot v.sights
        → count ≡ 0
    free_by (Acquired one) free slot count unused_then change =
        let split = split_first slot v.sights in
        dite (ℕ_discrete one.slot slot)
        (λ here. absurd (true≢false (sym (ap (λ b. cond b true (use_after kept.all slot)) (eq-eqb slot one.slot (sym here)))
        ∙ unused_then)))
        (λ apart. let mine = has_else slot (newly_held one) apart in
        let still = sym (ap (λ b. cond b true (use_after kept.all slot)) (ne_eqb slot one.slot (λ same. apart (sym same))))
        ∙ unused_then in
        let none = kept.free slot still in omega (arith, change, mine, none, split))
    free_by (Advanced other) may' slot count unused_then change =
        let none = kept.free slot unused_then in let split = split_first slot v.sights in
        omega (arith, change, none, split)
    free_by (Confirmed other) has slot count unused_then change =
        let none = kept.free slot unused_then in let split = split_first slot v.sights in
        let same = confirmed_slot slot other.position (first_in v.sights).held in
        omega (arith, change, none, split, same)
    free_by (Released other) has slot count unused_then change =
        let split = split_first slot v.sights in
        dite (ℕ_discrete other.slot slot)
        (λ here. let mine = mine_has slot (subst (HasIt (first_in v.sights).held) here has) in
        let before = kept.once slot in omega (arith, change, mine, before, split))
        (λ apart. let still = sym (ap (λ b. cond b false (use_after kept.all slot))
        (ne_eqb slot other.slot (λ same. apart (sym same)))) ∙ unused_then in
        let none = kept.free slot still in omega (arith, change, none, split))

    change_of : (slot : ℕ) → held_by slot (set views by (added event v)) + held_in slot v.sights
        ≤ held_by slot views + has_slot slot held + others slot v.sights
    change_of slot =
        let change = held_set slot views by v (added event v) at in
        let more = added_held slot v.all v.sights in omega (arith, change, more)

    adds_kept : AreSlotsKept (set views by (added event v))
    adds_kept = record {
      keeper = kept.keeper;
      all = longer;
      each = adds_each;
      once = λ slot. once_by event may slot (held_by slot (set views by (added event v))) (change_of slot);
      free = λ slot unused_then. free_by event may slot (held_by slot (set views by (added event v)))
          (sym (ap (λ (used : ℕ → Bool). used slot) (use_more kept.all event)) ∙ unused_then) (change_of slot);
      single = λ n. let new = newly_single n event (acquisitions kept.all) (owned_by n views) (kept.low n)
          (kept.single n) in let all = adds_owned n in omega (arith, new, all);
      low = λ n above. let new = newly_low n event kept.all (owned_by n views) (kept.low n) above in
          let all = adds_owned n in omega (arith, new, all);
    }

  cuts_kept : AreSlotsKept (set views by (left v) ++ given v ∷ [])
  cuts_kept =
      let mine = kept.each by v at in
      let rest : FitsEvents kept.keeper kept.all by (left v) = (mine.0, rest_known kept.all v.sights mine.1) in
      let other : (j : ℕ) → FitsEvents kept.keeper kept.all j (given v) =
      λ j. ((λ k. absurd (off k)), only_known kept.all v.sights mine.1) in
      let count : (slot : ℕ) → held_by slot (set views by (left v) ++ given v ∷ []) ≡ held_by slot views =
      λ slot. let change = held_set slot views by v (left v) at in
      let more = held_append slot (set views by (left v)) (given v ∷ []) in
      let cut = cut_held slot v.sights in omega (arith, change, more, cut) in
      record {
        keeper = kept.keeper;
        all = kept.all;
        each = λ j u there. ⊎_elim
            (λ was. fits_set kept.keeper kept.all views by (left v) (λ i x apart at'. kept.each i x at') rest j u was)
            (λ (same : given v ≡ u). subst (FitsEvents kept.keeper kept.all j) same (other j))
            (at_snoc (set views by (left v)) (given v) u j there);
        once = λ slot. let same = count slot in let before = kept.once slot in omega (arith, same, before);
        free = λ slot unused. let same = count slot in let before = kept.free slot unused in omega (arith, same, before);
        single = λ n. let same = cuts_owned n views by v at in let before = kept.single n in
            omega (arith, same, before);
        low = λ n above. let same = cuts_owned n views by v at in let before = kept.low n above in
            omega (arith, same, before);
      }

  joins_kept : (other : ℕ) (w : SlotView) → other ≢ by → get_elem? (set views by (joined v w)) other ≡ some w
      → AreSlotsKept (set (set views by (joined v w)) other nobody)
  joins_kept other w apart there =
      let mine = kept.each by v at in
      let before : get_elem? views other ≡ some w = sym (set_else views by other (joined v w) apart) ∙ there in
      let theirs = kept.each other w before in
      let both : FitsEvents kept.keeper kept.all by (joined v w) =
      (mine.0, known_append kept.all w.sights v.sights theirs.1 mine.1) in
      let count : (slot : ℕ) → held_by slot (set (set views by (joined v w)) other nobody) ≡ held_by slot views =
      λ slot. let change = held_set slot views by v (joined v w) at in
      let spent = held_set slot (set views by (joined v w)) other w nobody there in
      let sum = held_in_append slot w.sights v.sights in omega (arith, change, spent, sum) in
      record {
        keeper = kept.keeper;
        all = kept.all;
        each = fits_set kept.keeper kept.all (set views by (joined v w)) other nobody
            (λ j u _ at'. fits_set kept.keeper kept.all views by (joined v w) (λ i x _ at''. kept.each i x at'') both
            j u at')
            ((λ k. absurd (off k)), tt);
        once = λ slot. let same = count slot in let old = kept.once slot in omega (arith, same, old);
        free = λ slot unused. let same = count slot in let old = kept.free slot unused in omega (arith, same, old);
        single = λ n. let same = joins_owned n views by other v w at there in let old = kept.single n in
            omega (arith, same, old);
        low = λ n above. let same = joins_owned n views by other v w at there in let old = kept.low n above in
            omega (arith, same, old);
      }

-- ---- what the table asks

abbrev holds : State SlotEvent SlotView → Type 0
holds state = AreSlotsKept state.views

pub opens : (words : List ℕ) → AreSlotsKept (slot_view true [] [] ∷ [])
opens words = record {
  keeper = 0;
  all = [];
  each = one;
  once = λ slot. omega arith;
  free = λ slot unused. refl;
  single = λ n. omega arith;
  low = λ n above. refl;
}
  where
    one : (by : ℕ) (v : SlotView) → get_elem? (slot_view true [] [] ∷ []) by ≡ some v → FitsEvents 0 [] by v
    one zero v at = subst (FitsEvents 0 [] 0) (some-injective _ _ at) ((λ _. (refl, refl)), tt)
    one (suc by) v at = absurd (some-ne-none v (sym at))

pub begins : (slots id : ℕ) (me : Me SlotEvent SlotView)
    → Allows holds slots id me 0 (λ n. n) (λ n after. after ≡ (begun me.0, me.1))
begins slots id me state kept homes at bound =
    (begun me.0, table.keeps, tt, begins_kept state.views kept id me.0 at, refl)

pub shows : (slots id : ℕ) (me : Me SlotEvent SlotView) → me.0.keeps ≡ true
    → Allows holds slots id me 0 (λ n. n) (λ n after. (after ≡ (shown me.0, me.1)) × AreKnown me.0.all me.0.sights)
shows slots id me keeps state kept homes at bound = (
  shown me.0,
  table.keeps,
  tt,
  shows_kept state.views kept id me.0 at keeps,
  (refl, tells state.views kept id me.0 at keeps),
)

pub checks : (slots id : ℕ) (me : Me SlotEvent SlotView) → me.0.keeps ≡ true
    → Allows holds slots id me 0 (λ n. n) (λ n after. (after ≡ me) × AreKnown me.0.all me.0.sights
    × ((number : ℕ) → owned_in number me.0.sights ≤ 1))
checks slots id me keeps state kept homes at bound = (
  me.0,
  table.keeps,
  tt,
  checks_kept state.views kept id me.0 at,
  (refl, tells state.views kept id me.0 at keeps, tells_single state.views kept id me.0 at),
)

pub adds : (slots id : ℕ) (me : Me SlotEvent SlotView) (f : ℕ → ℕ) (event : SlotEvent) → me.0.keeps ≡ true
    → MayHappen event me.0.all (first_in me.0.sights).held
    → Allows holds slots id me 0 f (λ n after. (one : SlotEvent) × (some event ≡ some one)
    × (after ≡ (added one me.0, me.1)) × AreKnown me.0.all me.0.sights)
adds slots id me f event keeps may state kept homes at bound = (
  added event me.0,
  table.keeps,
  tt,
  adds_kept state.views kept id me.0 at event keeps may,
  (event, refl, refl, tells state.views kept id me.0 at keeps),
)

pub cuts : (id : ℕ) (v : SlotView) → Splits holds id v (left v) (given v)
cuts id v state kept at = cuts_kept state.views kept id v at

pub joins : (id : ℕ) (v : SlotView) (other : ℕ) (w : SlotView) → Joins holds id v other w (joined v w) nobody
joins id v other w state kept at apart there = joins_kept state.views kept id v at other w apart there
