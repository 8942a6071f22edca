-- The splits that are open, as they are in an array: the last one comes last.
use Rattle.std.proofs.Common.{◌≡◌, ◌≢◌, ℕ, zero, suc, ◌-◌, ◌<◌, ◌≤◌, List, [], ◌∷◌, length, true, get_or, take, drop, reverse, refl, sym, ap, ◌∙◌, arith}
use Rattle.std.proofs.Math.Seq.{take-suc}
use Rattle.std.proofs.lemmas.List.{reverse-append}
use Rattle.std.specs.Prelude.{Some, None, slice_get}
use Rattle.split_cert.specs.Nodes.{without_done, is_due, with_begun}

last_first : (xs : List ℕ) (d : ℕ) → d < length xs → reverse (take (suc d) xs) ≡ get_or xs d 0 ∷ reverse (take d xs)
last_first xs d within = ap reverse (take-suc xs d 0 within) ∙ reverse-append (take d xs) (get_or xs d 0 ∷ [])

pub last_goes : (xs : List ℕ) (d : ℕ) → 0 < d → d ≤ length xs → reverse (take (d - 1) xs) ≡ drop 1 (reverse (take d xs))
last_goes xs zero some within = absurd (omega (arith, some))
last_goes xs (suc d) some within =
    let k : suc d - 1 ≡ d = omega arith in rw k (sym (ap (drop 1) (last_first xs d (omega (arith, within)))))

-- the last split loses the branch that begins
pub one_begins : (levels : List ℕ) (left less : ℕ) → slice_get levels 0 ≡ Some left → less ≡ left - 1
    → with_begun levels ≡ less ∷ drop 1 levels
one_begins [] left less e is = absurd cc
one_begins (zero ∷ levels) left less e is = let none : left ≡ 0 = cc in let same : less ≡ 0 =
    omega (arith, none, is) in rw same refl
one_begins (suc more ∷ levels) left less e is = let some : left ≡ suc more = cc in let same : less ≡ more =
    omega (arith, some, is) in rw same refl

pub none_begins : (levels : List ℕ) → slice_get levels 0 ≡ None → with_begun levels ≡ levels
none_begins [] e = refl
none_begins (left ∷ levels) e = absurd cc

pub few_more : (levels : List ℕ) → length levels < 64 → length (with_begun levels) < 64
few_more [] h = h
few_more (zero ∷ levels) h = h
few_more (suc left ∷ levels) h = h

-- ---- splits of which no branch follows

pub done_goes : (levels : List ℕ) → slice_get levels 0 ≡ Some 0 → without_done (drop 1 levels) ≡ without_done levels
done_goes [] e = absurd cc
done_goes (zero ∷ levels) e = refl
done_goes (suc left ∷ levels) e = absurd cc

pub shorter : (levels : List ℕ) (left : ℕ) → slice_get levels 0 ≡ Some left → length (drop 1 levels) < length levels
shorter [] left e = absurd cc
shorter (first ∷ levels) left e = omega arith

pub none_done : (levels : List ℕ) → slice_get levels 0 ≢ Some 0 → (without_done levels ≡ levels)
    × (is_due levels ≡ true)
none_done [] h = (refl, refl)
none_done (zero ∷ levels) h = absurd (h refl)
none_done (suc left ∷ levels) h = (refl, refl)

pub ruleset level_steps = (done_goes, shorter, none_done)
