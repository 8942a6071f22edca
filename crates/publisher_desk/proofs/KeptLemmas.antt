-- Each step keeps what tokens know of the log.
use Rattle.std.proofs.Common.{◌≡◌, ◌≢◌, ℕ, zero, suc, ◌+◌, ◌≤◌, List, [], ◌∷◌, ◌++◌, length, set, true, false, true≢false, refl, sym, ap, ◌∙◌, subst, ⊎_elim, arith, length-append, append_assoc, append-nil, cond, eqb, eq-eqb, ne_eqb}
use mathlib.Core.Option.{some, some-injective, some-ne-none}
use mathlib.Core.Logic.{dite}
use native.Mathlib.Decide.{ℕ_discrete}
use lib.ListN.{get_elem?}
use Rattle.atomic_table.specs.Table.{State, Me, Allows, Splits, Joins}
use Rattle.atomic_table.specs.Table as table
use Rattle.atomic_table.proofs.Lists.{at_set, at_snoc, set_else}
use Rattle.publisher_desk.specs.Receipts.{ReceiptOf}
use Rattle.publisher_desk.specs.Sights.{view_of, StartsWith, AreSeen, times, drawn_in, drawn, Fits, IsKept, HasWholeLog, begun, shown_in, shown, added_in, added, rest_in, only_in, left, given, joined, nobody}
use Rattle.publisher_desk.specs.declared.sight.Sight.{Sight}
use Rattle.publisher_desk.specs.declared.sight.HistoryView.{HistoryView}

-- ---- numbers

abbrev pub only : ℕ → ℕ → ℕ
only number n = cond (eqb number n) 1 0

pub only_here : (number n : ℕ) → number ≡ n → only number n ≡ 1
only_here number n same = ap (λ b. cond b 1 0) (eq-eqb number n same)

pub only_else : (number n : ℕ) → number ≢ n → only number n ≡ 0
only_else number n apart = ap (λ b. cond b 1 0) (ne_eqb number n apart)

pub times_append : (n : ℕ) (numbers more : List ℕ) → times n (numbers ++ more) ≡ times n numbers + times n more
times_append n [] more = omega arith
times_append n (number ∷ numbers) more = let rest = times_append n numbers more in omega (arith, rest)

pub times_last : (number : ℕ) (numbers : List ℕ) → 1 ≤ times number (numbers ++ number ∷ [])
times_last number numbers =
    let all = times_append number numbers (number ∷ []) in let last = only_here number number refl in
    omega (arith, all, last)

drawn_in_append : (n : ℕ) (sights more : List Sight) → drawn_in n (sights ++ more) ≡ drawn_in n sights + drawn_in n more
drawn_in_append n [] more = omega arith
drawn_in_append n (one ∷ sights) more = let rest = drawn_in_append n sights more in omega (arith, rest)

drawn_append : (n : ℕ) (views more : List HistoryView) → drawn n (views ++ more) ≡ drawn n views + drawn n more
drawn_append n [] more = omega arith
drawn_append n (view ∷ views) more = let rest = drawn_append n views more in omega (arith, rest)

drawn_set : (n : ℕ) (views : List HistoryView) (by : ℕ) (v w : HistoryView) → get_elem? views by ≡ some v
    → drawn n (set views by w) + drawn_in n v.sights ≡ drawn n views + drawn_in n w.sights
drawn_set n [] by v w at = absurd (some-ne-none v (sym at))
drawn_set n (view ∷ views) zero v w at =
    let same = ap (λ (u : HistoryView). drawn_in n u.sights) (some-injective view v at) in omega (arith, same)
drawn_set n (view ∷ views) (suc by) v w at = let rest = drawn_set n views by v w at in omega (arith, rest)

drawn_one : (n : ℕ) (views : List HistoryView) (by : ℕ) (v : HistoryView) → get_elem? views by ≡ some v
    → drawn_in n v.sights ≤ drawn n views
drawn_one n [] by v at = absurd (some-ne-none v (sym at))
drawn_one n (view ∷ views) zero v at =
    let same = ap (λ (u : HistoryView). drawn_in n u.sights) (some-injective view v at) in omega (arith, same)
drawn_one n (view ∷ views) (suc by) v at = let rest = drawn_one n views by v at in omega (arith, rest)

-- ---- beginnings

starts_longer : (log more seen : List ReceiptOf) → StartsWith log seen → StartsWith (log ++ more) seen
starts_longer log more seen starts =
    (starts.0 ++ more, ap (λ (list : List ReceiptOf). list ++ more) starts.1 ∙ append_assoc seen starts.0 more)

seen_longer : (log more : List ReceiptOf) (sights : List Sight) → AreSeen log sights → AreSeen (log ++ more) sights
seen_longer log more [] seen = tt
seen_longer log more (one ∷ sights) seen =
    (starts_longer log more one.seen seen.0, seen_longer log more sights seen.1)

seen_append : (log : List ReceiptOf) (sights more : List Sight) → AreSeen log sights → AreSeen log more
    → AreSeen log (sights ++ more)
seen_append log [] more seen other = other
seen_append log (one ∷ sights) more seen other = (seen.0, seen_append log sights more seen.1 other)

starts_whole : (log all : List ReceiptOf) → all ≡ log → StartsWith log all
starts_whole log all same = ([], sym same ∙ sym (append-nil all))

shown_seen : (log all : List ReceiptOf) (sights : List Sight) → all ≡ log → AreSeen log sights
    → AreSeen log (shown_in all sights)
shown_seen log all [] same seen = tt
shown_seen log all (one ∷ sights) same seen = (starts_whole log all same, seen.1)

shown_drawn : (n : ℕ) (all : List ReceiptOf) (sights : List Sight)
    → drawn_in n (shown_in all sights) ≡ drawn_in n sights
shown_drawn n all [] = refl
shown_drawn n all (one ∷ sights) = refl

added_seen : (log all : List ReceiptOf) (number : ℕ) (sights : List Sight) → all ≡ log → AreSeen log sights
    → AreSeen log (added_in all number sights)
added_seen log all number [] same seen = tt
added_seen log all number (one ∷ sights) same seen = (starts_whole log all same, seen.1)

added_drawn : (n : ℕ) (all : List ReceiptOf) (number : ℕ) (sights : List Sight)
    → drawn_in n (added_in all number sights) ≤ drawn_in n sights + only number n
added_drawn n all number [] = omega arith
added_drawn n all number (one ∷ sights) = let one_more = times_append n one.own (number ∷ []) in omega (arith, one_more)

rest_seen : (log : List ReceiptOf) (sights : List Sight) → AreSeen log sights → AreSeen log (rest_in sights)
rest_seen log [] seen = tt
rest_seen log (one ∷ sights) seen = seen.1

only_seen : (log : List ReceiptOf) (sights : List Sight) → AreSeen log sights → AreSeen log (only_in sights)
only_seen log [] seen = tt
only_seen log (one ∷ sights) seen = (seen.0, tt)

cut_drawn : (n : ℕ) (sights : List Sight)
    → drawn_in n sights ≡ drawn_in n (only_in sights) + drawn_in n (rest_in sights)
cut_drawn n [] = refl
cut_drawn n (one ∷ sights) = omega arith

-- ---- views

off : false ≡ true → ⊥
off same = true≢false (sym same)

fits_set : (keeper : ℕ) (log : List ReceiptOf) (views : List HistoryView) (by : ℕ) (w : HistoryView)
    → ((j : ℕ) (u : HistoryView) → j ≢ by → get_elem? views j ≡ some u → Fits keeper log j u) → Fits keeper log by w
    → (j : ℕ) (u : HistoryView) → get_elem? (set views by w) j ≡ some u → Fits keeper log j u
fits_set keeper log views by w others mine j u at = ⊎_elim
    (λ (here : (j ≡ by) × (w ≡ u)). subst (λ (one : ℕ × HistoryView). Fits keeper log one.0 one.1)
    (λ i. (sym here.0 i, here.1 i)) mine)
    (λ (there : (j ≢ by) × (get_elem? views j ≡ some u)). others j u there.0 there.1)
    (at_set views by j w u at)

module _ (views : List HistoryView) (kept : IsKept views) (by : ℕ) (v : HistoryView) (at : get_elem? views by ≡ some v) where
  tells : v.keeps ≡ true → HasWholeLog v
  tells keeps =
      let mine = kept.each by v at in
      let whole = (mine.0 keeps).1 in
      let long : length v.all ≡ length kept.log = ap length whole in
      record {
        seen = subst (λ (list : List ReceiptOf). AreSeen list v.sights) (sym whole) mine.1;
        once = λ n. let one = drawn_one n views by v at in let all = kept.once n in omega (arith, one, all);
        low = λ n above. let one = drawn_one n views by v at in
            let all = kept.low n (omega (arith, long, above)) in omega (arith, one, all);
      }

  stays : (w : HistoryView) → w.keeps ≡ v.keeps → w.all ≡ v.all → AreSeen kept.log w.sights
      → ((n : ℕ) → drawn_in n w.sights ≡ drawn_in n v.sights) → IsKept (set views by w)
  stays w keeps all seen same =
      let mine = kept.each by v at in
      record {
        keeper = kept.keeper;
        log = kept.log;
        each = fits_set kept.keeper kept.log views by w (λ j u apart there. kept.each j u there)
            ((λ k. let known = mine.0 (sym keeps ∙ k) in (known.0, all ∙ known.1)), seen);
        once = λ n. let change = drawn_set n views by v w at in let alike = same n in let before = kept.once n in
            omega (arith, change, alike, before);
        low = λ n above. let change = drawn_set n views by v w at in let alike = same n in
            let before = kept.low n above in omega (arith, change, alike, before);
      }

  begins_kept : IsKept (set views by (begun v))
  begins_kept = stays (begun v) refl refl ((kept.log, refl), (kept.each by v at).1) (λ n. omega arith)

  shows_kept : v.keeps ≡ true → IsKept (set views by (shown v))
  shows_kept keeps =
      let mine = kept.each by v at in
      stays (shown v) refl refl (shown_seen kept.log v.all v.sights (mine.0 keeps).1 mine.1)
      (λ n. shown_drawn n v.all v.sights)

  checks_kept : IsKept (set views by v)
  checks_kept = stays v refl refl (kept.each by v at).1 (λ n. omega arith)

  adds_kept : (receipt : ReceiptOf) → v.keeps ≡ true → receipt.number ≡ length v.all + 1
      → IsKept (set views by (added receipt v))
  adds_kept receipt keeps number =
      let mine = kept.each by v at in
      let known = mine.0 keeps in
      let whole : v.all ++ receipt ∷ [] ≡ kept.log ++ receipt ∷ [] =
      ap (λ (list : List ReceiptOf). list ++ receipt ∷ []) known.1 in
      let long : length v.all ≡ length kept.log = ap length known.1 in
      let longer : length (kept.log ++ receipt ∷ []) ≡ length kept.log + 1 = length-append kept.log (receipt ∷ []) in
      record {
        keeper = kept.keeper;
        log = kept.log ++ receipt ∷ [];
        each = fits_set kept.keeper (kept.log ++ receipt ∷ []) views by (added receipt v)
            (λ j u apart there. let other = kept.each j u there in (
              (λ k. absurd (apart ((other.0 k).0 ∙ sym known.0))),
              seen_longer kept.log (receipt ∷ []) u.sights other.1,
            )) (
              (λ _. (known.0, whole)),
              added_seen (kept.log ++ receipt ∷ []) (v.all ++ receipt ∷ []) receipt.number v.sights whole
                  (seen_longer kept.log (receipt ∷ []) v.sights mine.1),
            );
        once = λ n.
            let change = drawn_set n views by v (added receipt v) at in
            let more = added_drawn n (v.all ++ receipt ∷ []) receipt.number v.sights in
            dite (ℕ_discrete receipt.number n)
            (λ here. let one = only_here receipt.number n here in
            let none = kept.low n (omega (arith, here, number, long)) in omega (arith, change, more, one, none))
            (λ apart. let none = only_else receipt.number n apart in let before = kept.once n in
            omega (arith, change, more, none, before));
        low = λ n above.
            let change = drawn_set n views by v (added receipt v) at in
            let more = added_drawn n (v.all ++ receipt ∷ []) receipt.number v.sights in
            let none = only_else receipt.number n (λ here. omega (arith, here, above, longer, long, number)) in
            let before = kept.low n (omega (arith, above, longer)) in omega (arith, change, more, none, before);
      }

  cuts_kept : IsKept (set views by (left v) ++ given v ∷ [])
  cuts_kept =
      let mine = kept.each by v at in
      let rest : Fits kept.keeper kept.log by (left v) = (mine.0, rest_seen kept.log v.sights mine.1) in
      let other : (j : ℕ) → Fits kept.keeper kept.log j (given v) =
      λ j. ((λ k. absurd (off k)), only_seen kept.log v.sights mine.1) in
      let count : (n : ℕ) → drawn n (set views by (left v) ++ given v ∷ []) ≡ drawn n views =
      λ n. let change = drawn_set n views by v (left v) at in
      let more = drawn_append n (set views by (left v)) (given v ∷ []) in
      let cut = cut_drawn n v.sights in omega (arith, change, more, cut) in
      record {
        keeper = kept.keeper;
        log = kept.log;
        each = λ j u there. ⊎_elim
            (λ was. fits_set kept.keeper kept.log views by (left v) (λ i x apart at'. kept.each i x at') rest j u was)
            (λ (same : given v ≡ u). subst (Fits kept.keeper kept.log j) same (other j))
            (at_snoc (set views by (left v)) (given v) u j there);
        once = λ n. let same = count n in let before = kept.once n in omega (arith, same, before);
        low = λ n above. let same = count n in let before = kept.low n above in omega (arith, same, before);
      }

  joins_kept : (other : ℕ) (w : HistoryView) → other ≢ by → get_elem? (set views by (joined v w)) other ≡ some w
      → IsKept (set (set views by (joined v w)) other nobody)
  joins_kept other w apart there =
      let mine = kept.each by v at in
      let before : get_elem? views other ≡ some w = sym (set_else views by other (joined v w) apart) ∙ there in
      let theirs = kept.each other w before in
      let both : Fits kept.keeper kept.log by (joined v w) =
      (mine.0, seen_append kept.log w.sights v.sights theirs.1 mine.1) in
      let count : (n : ℕ) → drawn n (set (set views by (joined v w)) other nobody) ≡ drawn n views =
      λ n. let change = drawn_set n views by v (joined v w) at in
      let spent = drawn_set n (set views by (joined v w)) other w nobody there in
      let sum = drawn_in_append n w.sights v.sights in omega (arith, change, spent, sum) in
      record {
        keeper = kept.keeper;
        log = kept.log;
        each = fits_set kept.keeper kept.log (set views by (joined v w)) other nobody
            (λ j u _ at'. fits_set kept.keeper kept.log views by (joined v w) (λ i x _ at''. kept.each i x at'') both
            j u at')
            ((λ k. absurd (off k)), tt);
        once = λ n. let same = count n in let old = kept.once n in omega (arith, same, old);
        low = λ n above. let same = count n in let old = kept.low n above in omega (arith, same, old);
      }

-- ---- what the table asks

abbrev holds : State ReceiptOf HistoryView → Type 0
holds state = IsKept state.views

pub opens : (words : List ℕ) → IsKept (view_of true [] [] ∷ [])
opens words = record {
  keeper = 0;
  log = [];
  each = one;
  once = λ n. omega arith;
  low = λ n above. refl;
}
  where
    one : (by : ℕ) (v : HistoryView) → get_elem? (view_of true [] [] ∷ []) by ≡ some v → Fits 0 [] by v
    one zero v at = subst (Fits 0 [] 0) (some-injective _ _ at) ((λ _. (refl, refl)), tt)
    one (suc by) v at = absurd (some-ne-none v (sym at))

pub begins : (slots id : ℕ) (me : Me ReceiptOf HistoryView)
    → Allows holds slots id me 0 (λ n. n) (λ n after. after ≡ (begun me.0, me.1))
begins slots id me state kept homes at bound =
    (begun me.0, table.keeps, tt, begins_kept state.views kept id me.0 at, refl)

pub shows : (slots id : ℕ) (me : Me ReceiptOf HistoryView) → me.0.keeps ≡ true
    → Allows holds slots id me 0 (λ n. n) (λ n after. (after ≡ (shown me.0, me.1)) × HasWholeLog me.0)
shows slots id me keeps state kept homes at bound = (
  shown me.0,
  table.keeps,
  tt,
  shows_kept state.views kept id me.0 at keeps,
  (refl, tells state.views kept id me.0 at keeps),
)

pub checks : (slots id : ℕ) (me : Me ReceiptOf HistoryView) → me.0.keeps ≡ true
    → Allows holds slots id me 0 (λ n. n) (λ n after. (after ≡ me) × HasWholeLog me.0)
checks slots id me keeps state kept homes at bound = (
  me.0,
  table.keeps,
  tt,
  checks_kept state.views kept id me.0 at,
  (refl, tells state.views kept id me.0 at keeps),
)

pub adds : (slots id : ℕ) (me : Me ReceiptOf HistoryView) (f : ℕ → ℕ) (receipt : ReceiptOf) → me.0.keeps ≡ true
    → receipt.number ≡ length me.0.all + 1
    → Allows holds slots id me 0 f (λ n after. (told : ReceiptOf) × (some receipt ≡ some told)
    × (after ≡ (added told me.0, me.1)) × HasWholeLog me.0)
adds slots id me f receipt keeps number state kept homes at bound = (
  added receipt me.0,
  table.keeps,
  tt,
  adds_kept state.views kept id me.0 at receipt keeps number,
  (receipt, refl, refl, tells state.views kept id me.0 at keeps),
)

pub cuts : (id : ℕ) (v : HistoryView) → Splits holds id v (left v) (given v)
cuts id v state kept at = cuts_kept state.views kept id v at

pub joins : (id : ℕ) (v : HistoryView) (other : ℕ) (w : HistoryView) → Joins holds id v other w (joined v w) nobody
joins id v other w state kept at apart there = joins_kept state.views kept id v at other w apart there
