-- Streams that have a slot one after another, by the order of events: what one left confirmed the next one finds.
use Rattle.std.proofs.Common.{◌≡◌, ℕ, ◌<◌, ◌≤◌, List, [], ◌∷◌, ◌++◌, Bool, true, false, refl, sym, ap, subst, ◌∙◌, arith, cond, eq-eqb, ne_eqb, append_assoc}
use mathlib.Core.Logic.{dite}
use native.Mathlib.Decide.{ℕ_discrete}
use Rattle.publisher_desk.specs.SlotEvents.{AreInTurn, IsInTurn, KeepSlot, acquisitions, confirmed_after, no_position, no_use, position_by, positions_from, use_after, use_by, use_from}
use Rattle.publisher_desk.specs.SlotSights.{hold}
use Rattle.publisher_desk.specs.Viewers.{HadSlot, release}
use Rattle.publisher_desk.specs.declared.slot_event.Acquisition.{Acquisition}
use Rattle.publisher_desk.specs.declared.slot_event.SlotEvent.{SlotEvent}
use Rattle.publisher_desk.specs.declared.slot_event.SlotEvent.TheVariants.{Acquired, Advanced, Confirmed, Released}
use Rattle.publisher_desk.specs.declared.slot_sight.Hold.{Hold}
use Rattle.publisher_desk.proofs.EventLemmas.{in_use}

-- ---- two beginnings of a list

-- One is the beginning of the other.
data Overlaps (xs ys us vs : List SlotEvent) : Type 0 where
  IsLonger : (rest : List SlotEvent) → us ≡ xs ++ rest → ys ≡ rest ++ vs → Overlaps xs ys us vs
  IsShorter : (x : SlotEvent) (rest : List SlotEvent) → xs ≡ us ++ x ∷ rest → vs ≡ x ∷ rest ++ ys
      → Overlaps xs ys us vs

onto : (x : SlotEvent) (xs ys us vs : List SlotEvent) → Overlaps xs ys us vs → Overlaps (x ∷ xs) ys (x ∷ us) vs
onto x xs ys us vs (IsLonger rest same more) = IsLonger rest (ap (λ (list : List SlotEvent). x ∷ list) same) more
onto x xs ys us vs (IsShorter y rest same more) =
    IsShorter y rest (ap (λ (list : List SlotEvent). x ∷ list) same) more

overlaps : (xs ys us vs : List SlotEvent) → xs ++ ys ≡ us ++ vs → Overlaps xs ys us vs
overlaps [] ys us vs same = IsLonger us refl same
overlaps (x ∷ xs) ys [] vs same = IsShorter x xs refl (sym same)
overlaps (x ∷ xs) ys (u ∷ us) vs same =
    let is : x ≡ u = cc in
    let rest : xs ++ ys ≡ us ++ vs = cc in
    subst (λ (it : SlotEvent). Overlaps (x ∷ xs) ys (it ∷ us) vs) is (onto x xs ys us vs (overlaps xs ys us vs rest))

-- ---- confirmed positions never go back

rises_by : (used : ℕ → Bool) (known : ℕ → ℕ) (event : SlotEvent) (slot : ℕ) → IsInTurn used known event
    → known slot ≤ position_by event known slot
rises_by used known (Acquired one) slot turn = omega arith
rises_by used known (Advanced one) slot turn = omega arith
rises_by used known (Confirmed one) slot turn =
    dite (ℕ_discrete slot one.slot)
    (λ here.
    let at : position_by (Confirmed one) known slot ≡ one.position =
    ap (λ b. cond b one.position (known slot)) (eq-eqb slot one.slot here) in
    let low = turn.1 in let same = ap known here in omega (arith, at, low, same))
    (λ apart.
    let at : position_by (Confirmed one) known slot ≡ known slot =
    ap (λ b. cond b one.position (known slot)) (ne_eqb slot one.slot apart) in omega (arith, at))
rises_by used known (Released one) slot turn = omega arith

rises : (used : ℕ → Bool) (known : ℕ → ℕ) (events : List SlotEvent) (slot : ℕ) → AreInTurn used known events
    → known slot ≤ positions_from known events slot
rises used known [] slot turns = omega arith
rises used known (event ∷ events) slot turns =
    let first = rises_by used known event slot turns.0 in
    let rest = rises (use_by event used) (position_by event known) events slot turns.1 in omega (arith, first, rest)

turns_then : (used : ℕ → Bool) (known : ℕ → ℕ) (events more : List SlotEvent)
    → AreInTurn used known (events ++ more) → AreInTurn (use_from used events) (positions_from known events) more
turns_then used known [] more turns = turns
turns_then used known (event ∷ events) more turns =
    turns_then (use_by event used) (position_by event known) events more turns.1

turns_first : (used : ℕ → Bool) (known : ℕ → ℕ) (events more : List SlotEvent)
    → AreInTurn used known (events ++ more) → AreInTurn used known events
turns_first used known [] more turns = tt
turns_first used known (event ∷ events) more turns =
    (turns.0, turns_first (use_by event used) (position_by event known) events more turns.1)

positions_append : (known : ℕ → ℕ) (events more : List SlotEvent)
    → positions_from known (events ++ more) ≡ positions_from (positions_from known events) more
positions_append known [] more = refl
positions_append known (event ∷ events) more = positions_append (position_by event known) events more

confirmed_rises : (events more : List SlotEvent) (slot : ℕ) → AreInTurn no_use no_position (events ++ more)
    → confirmed_after events slot ≤ confirmed_after (events ++ more) slot
confirmed_rises events more slot turns =
    let later = rises (use_after events) (confirmed_after events) more slot
    (turns_then no_use no_position events more turns) in
    let same = ap (λ (known : ℕ → ℕ). known slot) (positions_append no_position events more) in
    omega (arith, later, same)

-- ---- acquisitions

no_fewer : (events more : List SlotEvent) → acquisitions events ≤ acquisitions (events ++ more)
no_fewer [] more = omega arith
no_fewer (Acquired one ∷ events) more = let rest = no_fewer events more in omega (arith, rest)
no_fewer (Advanced one ∷ events) more = no_fewer events more
no_fewer (Confirmed one ∷ events) more = no_fewer events more
no_fewer (Released one ∷ events) more = no_fewer events more

keep_first : (slot : ℕ) (events more : List SlotEvent) → KeepSlot slot (events ++ more) → KeepSlot slot events
keep_first slot [] more keep = tt
keep_first slot (event ∷ events) more keep = (keep.0, keep_first slot events more keep.1)

-- ---- two streams of a slot

-- the events up to the release of its slot
abbrev up_to : List SlotEvent → Acquisition → List SlotEvent → List SlotEvent
up_to before one between = before ++ Acquired one ∷ between

module _ (all : List SlotEvent) (one other : Hold) (sent given commits later : ℕ) (had : HadSlot all one sent commits)
    (next : HadSlot all other given later) (same : one.acquisition.slot ≡ other.acquisition.slot)
    (order : one.number < other.number) where
  -- while one has the slot, the other does not acquire it
  not_while : (between rest : List SlotEvent) → had.between ≡ between ++ rest
      → next.before ≡ up_to had.before one.acquisition between → ⊥
  not_while between rest within is =
      let used : use_after (up_to had.before one.acquisition between) one.acquisition.slot ≡ true =
      in_use (up_to had.before one.acquisition between)
      (hold one.acquisition one.number one.found
      (confirmed_after (up_to had.before one.acquisition between) one.acquisition.slot))
      (record {
        before = had.before;
        after = between;
        events_are = refl;
        number_is = had.number_is;
        was_free = had.was_free;
        keep = keep_first one.acquisition.slot between rest
            (subst (KeepSlot one.acquisition.slot) within had.keep);
        found_is = had.found_is;
        confirmed_is = refl;
      }) in
      let free : use_after (up_to had.before one.acquisition between) one.acquisition.slot ≡ false =
      ap (λ (events : List SlotEvent). use_after events one.acquisition.slot) (sym is)
      ∙ ap (use_after next.before) same ∙ next.was_free in
      absurd cc

  not_inside : (x : SlotEvent) (rest : List SlotEvent)
      → Overlaps had.before (Acquired one.acquisition ∷ had.between) next.before (x ∷ rest) → ⊥
  unfolding not_while
  not_inside x rest (IsLonger [] is more) =
      let fewer = no_fewer next.before [] in let first = had.number_is in let second = next.number_is in
      let long = ap acquisitions is in let none = no_more had.before in
      absurd (omega (arith, order, first, second, long, none))
    where
      no_more : (events : List SlotEvent) → acquisitions (events ++ []) ≤ acquisitions events
      no_more [] = omega arith
      no_more (Acquired it ∷ events) = let rest = no_more events in omega (arith, rest)
      no_more (Advanced it ∷ events) = no_more events
      no_more (Confirmed it ∷ events) = no_more events
      no_more (Released it ∷ events) = no_more events
  not_inside x rest (IsLonger (event ∷ between) is more) =
      let its : Acquired one.acquisition ≡ event = cc in
      let within : had.between ≡ between ++ x ∷ rest = cc in
      not_while between (x ∷ rest) within
      (is ∙ ap (λ (it : SlotEvent). had.before ++ it ∷ between) (sym its))
  not_inside x rest (IsShorter y more is then) =
      let fewer = no_fewer next.before (y ∷ more) in let first = had.number_is in let second = next.number_is in
      let long = ap acquisitions is in absurd (omega (arith, order, first, second, long, fewer))

  not_before : (x : SlotEvent) (rest : List SlotEvent)
      → up_to had.before one.acquisition had.between ≡ next.before ++ x ∷ rest → ⊥
  unfolding not_inside
  not_before x rest is = not_inside x rest
      (overlaps had.before (Acquired one.acquisition ∷ had.between) next.before (x ∷ rest) is)

  -- the events before the other's acquisition, and those from it on
  its : all ≡ next.before
      ++ (Acquired other.acquisition ∷ next.between ++ Released (release other.acquisition.slot later) ∷ next.after)
  its = next.events_are ∙ append_assoc next.before (Acquired other.acquisition ∷ next.between)
      (Released (release other.acquisition.slot later) ∷ next.after)

  found_by : Overlaps (up_to had.before one.acquisition had.between)
      (Released (release one.acquisition.slot commits) ∷ had.after) next.before
      (Acquired other.acquisition ∷ next.between ++ Released (release other.acquisition.slot later) ∷ next.after)
      → AreInTurn no_use no_position all → one.confirmed ≤ other.found
  unfolding not_before its
  found_by (IsLonger rest is more) turns =
      let until : AreInTurn no_use no_position (up_to had.before one.acquisition had.between ++ rest) =
      subst (AreInTurn no_use no_position) is
      (turns_first no_use no_position next.before
      (Acquired other.acquisition ∷ next.between ++ Released (release other.acquisition.slot later) ∷ next.after)
      (subst (AreInTurn no_use no_position) its turns)) in
      let up = confirmed_rises (up_to had.before one.acquisition had.between) rest one.acquisition.slot until in
      let left = had.confirmed_is in
      let found : other.found ≡ confirmed_after (up_to had.before one.acquisition had.between ++ rest)
      one.acquisition.slot =
      next.found_is ∙ ap (confirmed_after next.before) (sym same)
      ∙ ap (λ (events : List SlotEvent). confirmed_after events one.acquisition.slot) is in
      omega (arith, up, left, found)
  found_by (IsShorter x rest is more) turns = absurd (not_before x rest is)

  -- What one left confirmed, the other finds.
  pub finds : AreInTurn no_use no_position all → one.confirmed ≤ other.found
  unfolding found_by its
  finds = found_by (overlaps (up_to had.before one.acquisition had.between)
      (Released (release one.acquisition.slot commits) ∷ had.after) next.before
      (Acquired other.acquisition ∷ next.between ++ Released (release other.acquisition.slot later) ∷ next.after)
      (sym had.events_are ∙ its))

-- What a stream left confirmed is confirmed in the end.
pub stays_confirmed : (all : List SlotEvent) (one : Hold) (sent commits : ℕ) → HadSlot all one sent commits
    → AreInTurn no_use no_position all → one.confirmed ≤ confirmed_after all one.acquisition.slot
stays_confirmed all one sent commits had turns =
    let events : List SlotEvent = up_to had.before one.acquisition had.between in
    let rest : List SlotEvent = Released (release one.acquisition.slot commits) ∷ had.after in
    let is : all ≡ events ++ rest = had.events_are in
    let up = confirmed_rises events rest one.acquisition.slot (subst (AreInTurn no_use no_position) is turns) in
    let left = had.confirmed_is in
    let same = ap (λ (list : List SlotEvent). confirmed_after list one.acquisition.slot) is in
    omega (arith, up, left, same)
