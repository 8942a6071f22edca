use Rattle.std.proofs.Common.{◌≡◌, ℕ, ◌/◌, ◌+◌, ◌<◌, ◌≤◌, ◌^◌, length, get_or, inl, inr, ap, sym, ◌∙◌, arith, rules}
use Rattle.std.specs.Prelude.{bit_and}
use Rattle.std.proofs.lemmas.Bool.{cases_eq}
use Rattle.std.proofs.lemmas.Grind.{get_or_default_zero}
use Rattle.std.proofs.lemmas.Nat.{and_le_l}
use Rattle.shard_checker.proofs.BitSetLemmas.{words_meet, words_apart}
use Rattle.shard_checker.proofs.bit_sets.BitSet.meets.Goals as goal

pub returns-then-index-ne0 : goal.returns-then-index-ne0
returns-then-index-ne0 c =
    let one = c.args.self.now.words.items in
    let other = c.args.other.now.words.items in
    let index = c.loop-index.index in
    let low : index < length one = omega (arith, c.len.ensures, c.len-2.ensures) in
    let far : index < length other = omega (arith, c.len.ensures, c.len-2.ensures) in
    let first : c.index.result.now ≡ get_or one index 0 =
    c.index.ensures ∙ get_or_default_zero one index c.index.result.now low in
    let second : c.index-in-loop-index.result.now ≡ get_or other index 0 =
    c.index-in-loop-index.ensures ∙ get_or_default_zero other index c.index-in-loop-index.result.now far in
    let small : get_or one index 0 < 2 ^ 64 = search rules in
    let same : bit_and c.index.result.now c.index-in-loop-index.result.now
    ≡ bit_and (get_or one index 0) (get_or other index 0) =
    ap (λ (w : ℕ). bit_and w c.index-in-loop-index.result.now) first ∙ ap (bit_and (get_or one index 0)) second in
    let some : 0 < bit_and (get_or one index 0) (get_or other index 0) = omega (arith, same) in
    let below : bit_and (get_or one index 0) (get_or other index 0) ≤ get_or one index 0 =
    and_le_l (get_or one index 0) (get_or other index 0) in
    let found = words_meet one other index some (omega (arith, below, small)) in
    record { number = found.0; first = found.1.0; second = found.1.1 }

below : (one other : ℕ) → one < other + 1 → (one ≡ other → ⊥) → one < other
below one other low apart = omega arith

pub loop-index-preserved : goal.loop-index-preserved
loop-index-preserved c = λ number before.
    let one = c.args.self.now.words.items in
    let other = c.args.other.now.words.items in
    let index = c.loop-index.index in
    let low : index < length one = omega (arith, c.len.ensures, c.len-2.ensures) in
    let far : index < length other = omega (arith, c.len.ensures, c.len-2.ensures) in
    let first : c.index.result.now ≡ get_or one index 0 =
    c.index.ensures ∙ get_or_default_zero one index c.index.result.now low in
    let second : c.index-in-loop-index.result.now ≡ get_or other index 0 =
    c.index-in-loop-index.ensures ∙ get_or_default_zero other index c.index-in-loop-index.result.now far in
    let none : bit_and (get_or one index 0) (get_or other index 0) ≡ 0 =
    sym (ap (λ (w : ℕ). bit_and w c.index-in-loop-index.result.now) first
    ∙ ap (bit_and (get_or one index 0)) second) ∙ c.if-index-ne0.false in
    elim (cases_eq (number / 64) index) [
      | inl at ↦ words_apart one other index number none at
      | inr apart ↦ c.loop-index.invariant number (below (number / 64) index before apart)
    ]
