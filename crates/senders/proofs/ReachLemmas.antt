-- How far the commits of a slot are accounted for, connection by connection in the order of their numbers.
use Rattle.std.proofs.Common.{◌≡◌, ◌≢◌, Bor, ℕ, ◌+◌, ◌<◌, ◌≤◌, max, true, false, List, [], ◌∷◌, ◌++◌, inl, inr, length, map, get_or, take, drop, refl, sym, ap, subst, ◌∙◌, arith, ltb, length-append, append_assoc}
use Rattle.std.proofs.lemmas.Bool.{ltb-true, ltb-false}
use Rattle.std.proofs.lemmas.List.{get_or-map, length-map, take-append-drop}
use Rattle.std.proofs.lemmas.List.Elements.{All-contains, All-nil, All-push, All-weaker, Contains-append_left, Contains-push, Contains-push_cases}
use Rattle.std.proofs.lemmas.List.FromFn.{length-range_with_len}
use Rattle.std.specs.List.{range_with_len}
use Rattle.std.specs.List.Sorted.{IsPermutation}
use Rattle.std.specs.Prelude.{All, Contains, Some, slice_get}
use Rattle.filter_tree.proofs.Tests.{by_test}
use Rattle.senders.specs.Reached.{Accounts, Confirms, Requests, IsAccounted, IsOrder, IsReached, numbers_in, started_in}
use Rattle.senders.specs.Results.{ServedOf, taken_from}
use Rattle.senders.specs.Starts.{IsReach}
use Rattle.senders.specs.TakenCommits.{confirmed_to}
use Rattle.senders.proofs.ReplayLemmas.{get_here, take_one_more}

-- ---- numbers

-- What is to be shown holds just where the numbers that are left count up from this one.
pub record CountsUp (whole : Type 0) (next : ℕ) (numbers : List ℕ) : Type 0 where
  pub from : numbers ≡ range_with_len next (length numbers) → whole
  pub to : whole → numbers ≡ range_with_len next (length numbers)

pub long_count : (all : List ServedOf) (count : ℕ) → numbers_in all ≡ range_with_len 1 count → length all ≡ count
long_count all count same =
    sym (length-map all (λ (one : ServedOf). one.number)) ∙ ap length same ∙ length-range_with_len 1 count

-- ---- the connections that started a stream, where lists are seen as slices

pub in_order : (count : ℕ) (served : List ServedOf) (found sorted seen : List (Bor ServedOf))
    → map (λ (one : Bor ServedOf). one.now) found ≡ started_in served
    → IsPermutation (map (λ (one : Bor ServedOf). one.now) found) (map (λ (one : Bor ServedOf). one.now) sorted)
    → seen ≡ sorted → numbers_in (map (λ (one : Bor ServedOf). one.now) seen) ≡ range_with_len 1 count
    → IsOrder count served (map (λ (one : Bor ServedOf). one.now) sorted)
in_order count served found sorted seen are moved same numbered = record {
  same = subst (λ (list : List ServedOf). IsPermutation list (map (λ (one : Bor ServedOf). one.now) sorted)) are moved;
  numbered = subst (λ (list : List (Bor ServedOf)). numbers_in (map (λ (one : Bor ServedOf). one.now) list)
      ≡ range_with_len 1 count) same numbered;
}

-- ---- the connections, as they are shown

module _ {R : Type 0} (show : R → ServedOf) (rows : List R) (place : ℕ) (row : R) (inside : place < length rows)
    (is : row ≡ get_or rows place row) where
  there : slice_get (map show rows) place ≡ Some (show row)
  there = get_here (map show rows) place (show row) (omega (arith, inside, length-map rows show))
      (sym (get_or-map show rows place row (show row) inside ∙ ap show (sym is)))

  -- those before it, and it
  pub one_more : take (place + 1) (map show rows) ≡ take place (map show rows) ++ show row ∷ []
  unfolding there
  one_more = take_one_more (map show rows) place (show row) there

  -- and those after it
  pub around : map show rows ≡ take place (map show rows) ++ show row ∷ drop (place + 1) (map show rows)
  unfolding one_more
  around = sym (take-append-drop (place + 1) (map show rows))
      ∙ ap (λ (list : List ServedOf). list ++ drop (place + 1) (map show rows)) one_more
      ∙ append_assoc (take place (map show rows)) (show row ∷ []) (drop (place + 1) (map show rows))

-- ---- a connection after others

-- a place in a list is its last one, or is before that
pub data IsPlaced (order earlier : List ServedOf) (last one : ServedOf) : Type 0 where
  IsLast : earlier ≡ order → one ≡ last → IsPlaced order earlier last one
  IsWithin : (rest : List ServedOf) → order ≡ earlier ++ one ∷ rest → IsPlaced order earlier last one

placed_after : (first : ServedOf) (order earlier : List ServedOf) (last one : ServedOf)
    → IsPlaced order earlier last one → IsPlaced (first ∷ order) (first ∷ earlier) last one
placed_after first order earlier last one (IsLast same is) = IsLast (ap (λ list. first ∷ list) same) is
placed_after first order earlier last one (IsWithin rest same) = IsWithin rest (ap (λ list. first ∷ list) same)

pub placed : (order earlier later : List ServedOf) (last one : ServedOf) → order ++ last ∷ [] ≡ earlier ++ one ∷ later
    → IsPlaced order earlier last one
placed [] [] later last one same = IsLast refl cc
placed [] (other ∷ earlier) later last one same =
    absurd (omega (arith, ap length same, length-append earlier (one ∷ later)))
placed (first ∷ order) [] later last one same = IsWithin order cc
placed (first ∷ order) (other ∷ earlier) later last one same =
    let is : first ≡ other = cc in
    let rest : order ++ last ∷ [] ≡ earlier ++ one ∷ later = cc in
    subst (λ (it : ServedOf). IsPlaced (first ∷ order) (it ∷ earlier) last one) is
    (placed_after first order earlier last one (placed order earlier later last one rest))

-- if it is of the slot, it accounts for no commit after these
abbrev pub ReachesTo : ℕ → ℕ → ServedOf → Type 0
ReachesTo slot reach one = one.slot ≡ Some slot → max (taken_from one) (confirmed_to one) ≤ reach

-- Of these connections, in their order: the first commits, this number of them, are accounted for, and no later one is;
-- and the starts are reached.
pub record AreReachedTo (slot reach : ℕ) (order : List ServedOf) : Type 0 where
  pub accounted : (count : ℕ) → count < reach → IsAccounted order slot count
  pub passed : All (ReachesTo slot reach) order
  pub so_far : IsReached order slot

pub none_reached : (slot : ℕ) → AreReachedTo slot 0 []
none_reached slot = record {
  accounted = λ count below. absurd (omega (arith, below));
  passed = All-nil (ReachesTo slot 0);
  so_far = λ earlier one later same of count below.
      absurd (omega (arith, ap length same, length-append earlier (one ∷ later)));
}

module _ (slot reach : ℕ) (order : List ServedOf) (before : AreReachedTo slot reach order) where
  not_before : (other : ServedOf) → Contains order other → Accounts slot reach other → ⊥
  not_before other among (Confirms its low high) =
      let upto = All-contains (ReachesTo slot reach) order other before.passed among its in omega (arith, upto, high)
  not_before other among (Requests its requested below) =
      let upto = All-contains (ReachesTo slot reach) order other before.passed among its in omega (arith, upto, below)

  pub reach_is : IsReach order slot reach
  unfolding not_before
  reach_is = record { all = before.accounted; next = λ so. not_before so.one so.among so.by }

module _ (slot reach : ℕ) (order : List ServedOf) (one : ServedOf) (before : AreReachedTo slot reach order) where
  -- what was accounted for still is
  still : (count : ℕ) → IsAccounted order slot count → IsAccounted (order ++ one ∷ []) slot count
  still count by = record
      { one = by.one; among = Contains-append_left order (one ∷ []) by.one by.among; by = by.by }

  of_it : (count : ℕ) → Accounts slot count one → IsAccounted (order ++ one ∷ []) slot count
  of_it count accounts = record { one = one; among = Contains-push order one; by = accounts }

  -- so are the starts, if its own is
  starts_more : (one.slot ≡ Some slot → (count : ℕ) → count < taken_from one
      → IsAccounted (order ++ one ∷ []) slot count) → IsReached (order ++ one ∷ []) slot
  starts_more own earlier other later same = at (placed order earlier later one other same)
    where
      at : IsPlaced order earlier one other → other.slot ≡ Some slot → (count : ℕ) → count < taken_from other
          → IsAccounted (earlier ++ other ∷ []) slot count
      at (IsLast first is) of count below =
          subst (λ (list : List ServedOf). IsAccounted list slot count)
          (λ i. sym first i ++ sym is i ∷ [])
          (own (ap (λ (it : ServedOf). it.slot) (sym is) ∙ of) count
          (subst (λ (it : ServedOf). count < taken_from it) is below))
      at (IsWithin rest first) of count below = before.so_far earlier other rest first of count below

  pub of_another : one.slot ≢ Some slot → AreReachedTo slot reach (order ++ one ∷ [])
  unfolding still starts_more
  of_another other = record {
    accounted = λ count below. still count (before.accounted count below);
    passed = All-push (ReachesTo slot reach) order one before.passed (λ its. absurd (other its));
    so_far = starts_more (λ its. absurd (other its));
  }

  module _ (of : one.slot ≡ Some slot) where
    module _ (in_time : reach < taken_from one → one.is_requested ≡ true) where
      before_start : (count : ℕ) → count < taken_from one → IsAccounted (order ++ one ∷ []) slot count
      unfolding still of_it
      before_start count below = by_test (ltb count reach)
          (λ less. still count (before.accounted count (ltb-true count reach less)))
          (λ more. let least = ltb-false count reach more in
          of_it count (Requests of (in_time (omega (arith, least, below))) below))

      pub of_this : AreReachedTo slot (max (max reach (taken_from one)) (confirmed_to one)) (order ++ one ∷ [])
      unfolding still of_it starts_more before_start
      of_this =
          let next : ℕ = max (max reach (taken_from one)) (confirmed_to one) in
          record {
            accounted = λ count below. by_test (ltb count (taken_from one))
                (λ less. before_start count (ltb-true count (taken_from one) less))
                (λ more. let least = ltb-false count (taken_from one) more in
                by_test (ltb count reach)
                (λ less. still count (before.accounted count (ltb-true count reach less)))
                (λ late. let most = ltb-false count reach late in
                of_it count (Confirms of least (omega (arith, most, least, below)))));
            passed = All-push (ReachesTo slot next) order one
                (All-weaker (ReachesTo slot reach) (ReachesTo slot next)
                (λ other low its. let upto = low its in omega (arith, upto)) order before.passed)
                (λ its. omega arith);
            so_far = starts_more (λ its. before_start);
          }

    -- it starts after the reach, so that the next commit is not accounted for
    module _ (late : reach < taken_from one) (not_requested : one.is_requested ≡ false) where
      not_by_it : Accounts slot reach one → ⊥
      not_by_it (Confirms its low high) = absurd (omega (arith, low, late))
      not_by_it (Requests its requested below) = absurd cc

      pub not_reached : (all later : List ServedOf) → all ≡ order ++ one ∷ later → ¬ IsReached all slot
      unfolding not_by_it not_before
      not_reached all later same reached =
          let by : IsAccounted (order ++ one ∷ []) slot reach = reached order one later same of reach late in
          elim (Contains-push_cases order one by.one by.among) [
            | inl among ↦ not_before slot reach order before by.one among by.by
            | inr is ↦ not_by_it (subst (Accounts slot reach) (sym is) by.by)
          ]
