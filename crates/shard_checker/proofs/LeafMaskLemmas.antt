-- Connectives on words are connectives on the sets at each leaf.
use Rattle.std.proofs.Common.{◌≡◌, ℕ, zero, suc, ◌-◌, ◌*◌, ◌%◌, ◌^◌, ◌<◌, ◌≤◌, min, max, Bool, true, false, not, ◌&&◌, ◌||◌, refl, sym, ap, subst, ◌∙◌, arith, w64}
use Rattle.std.specs.Prelude.{◌==◌, bit_and, bit_or}
use Rattle.std.specs.Int.{bit_at, bit_not}
use Rattle.std.proofs.lemmas.Nat.Bits.{bit_at_and, bit_at_or, bit_at_not, bit_at-zero, bit_at-lt, bit_at_mask_inside, bit_at_mask_below, ones_shl}
use Rattle.std.proofs.lemmas.Nat.{pow_pos}
use Rattle.filter_tree.specs.Logic.{and_of, or_of, not_of, is_of}
use Rattle.filter_tree.specs.Mask.{lift_one, lift_two}
use Rattle.filter_tree.specs.declared.filter.Test.TheVariants as t
use Rattle.filter_tree.specs.declared.mask.Mask.{Mask}
use Rattle.filter_tree.proofs.Tests.{both_true}
use Rattle.shard_checker.specs.LeafMasks.{has_leaf, at_leaf, SetsFrom}
use Rattle.shard_checker.specs.declared.leaf_masks.LeafMasks.{LeafMasks}

-- ---- bits

bits_of_both : (a b : ℕ) → a < 2 → b < 2 → (min a b == 1) ≡ ((a == 1) && (b == 1))
bits_of_both zero zero h k = refl
bits_of_both zero (suc zero) h k = refl
bits_of_both zero (suc (suc b)) h k = absurd (omega arith)
bits_of_both (suc zero) zero h k = refl
bits_of_both (suc zero) (suc zero) h k = refl
bits_of_both (suc zero) (suc (suc b)) h k = absurd (omega arith)
bits_of_both (suc (suc a)) b h k = absurd (omega arith)

bits_of_either : (a b : ℕ) → a < 2 → b < 2 → (max a b == 1) ≡ ((a == 1) || (b == 1))
bits_of_either zero zero h k = refl
bits_of_either zero (suc zero) h k = refl
bits_of_either zero (suc (suc b)) h k = absurd (omega arith)
bits_of_either (suc zero) zero h k = refl
bits_of_either (suc zero) (suc zero) h k = refl
bits_of_either (suc zero) (suc (suc b)) h k = absurd (omega arith)
bits_of_either (suc (suc a)) b h k = absurd (omega arith)

bits_of_not : (a : ℕ) → a < 2 → (1 - a == 1) ≡ not (a == 1)
bits_of_not zero h = refl
bits_of_not (suc zero) h = refl
bits_of_not (suc (suc a)) h = absurd (omega arith)

has_and : (a b leaf : ℕ) → has_leaf (bit_and a b) leaf ≡ (has_leaf a leaf && has_leaf b leaf)
has_and a b leaf = ap (λ (n : ℕ). n == 1) (bit_at_and a b leaf)
    ∙ bits_of_both (bit_at a leaf) (bit_at b leaf) (bit_at-lt a leaf) (bit_at-lt b leaf)

has_or : (a b leaf : ℕ) → has_leaf (bit_or a b) leaf ≡ (has_leaf a leaf || has_leaf b leaf)
has_or a b leaf = ap (λ (n : ℕ). n == 1) (bit_at_or a b leaf)
    ∙ bits_of_either (bit_at a leaf) (bit_at b leaf) (bit_at-lt a leaf) (bit_at-lt b leaf)

has_not : (word leaf : ℕ) → word < 2 ^ 64 → leaf < 64 → has_leaf (bit_not w64 word) leaf ≡ not (has_leaf word leaf)
has_not word leaf small within = ap (λ (n : ℕ). n == 1) (bit_at_not w64 word leaf small within)
    ∙ bits_of_not (bit_at word leaf) (bit_at-lt word leaf)

pub has_none : (leaf : ℕ) → has_leaf 0 leaf ≡ false
has_none leaf = ap (λ (n : ℕ). n == 1) (bit_at-zero leaf)

-- ---- each bit from a leaf on

abbrev from_bit : ℕ → ℕ
from_bit leaf = 2 ^ 64 - 2 ^ leaf

has_from : (leaf other : ℕ) → leaf ≤ other → other < 64 → has_leaf (from_bit leaf) other ≡ true
has_from leaf other after within = ap (λ (n : ℕ). n == 1) (bit_at_mask_inside leaf 64 other after within)

has_not_from : (leaf other : ℕ) → other < leaf → has_leaf (from_bit leaf) other ≡ false
has_not_from leaf other before = ap (λ (n : ℕ). n == 1) (bit_at_mask_below leaf 64 other before)

or_false : (b : Bool) → (b || false) ≡ b
or_false true = refl
or_false false = refl

or_true : (b : Bool) → (b || true) ≡ true
or_true true = refl
or_true false = refl

and_true : (b : Bool) → (b && true) ≡ b
and_true true = refl
and_true false = refl

and_false : (b : Bool) → (b && false) ≡ false
and_false true = refl
and_false false = refl

pub all_set : (word leaf : ℕ) → SetsFrom leaf true word (bit_or word (from_bit leaf))
all_set word leaf = record {
  before = λ other before. has_or word (from_bit leaf) other
      ∙ ap (λ (b : Bool). has_leaf word other || b) (has_not_from leaf other before) ∙ or_false (has_leaf word other);
  later = λ other after within. has_or word (from_bit leaf) other
      ∙ ap (λ (b : Bool). has_leaf word other || b) (has_from leaf other after within) ∙ or_true (has_leaf word other);
}

from_small : (leaf : ℕ) → from_bit leaf < 2 ^ 64
from_small leaf = omega (arith, pow_pos leaf)

pub all_cleared : (word leaf : ℕ) → leaf < 64 → SetsFrom leaf false word (bit_and word (bit_not w64 (from_bit leaf)))
all_cleared word leaf room = record {
  before = λ other before. has_and word (bit_not w64 (from_bit leaf)) other
      ∙ ap (λ (b : Bool). has_leaf word other && b)
      (has_not (from_bit leaf) other (from_small leaf) (omega (arith, before, room))
      ∙ ap not (has_not_from leaf other before)) ∙ and_true (has_leaf word other);
  later = λ other after within. has_and word (bit_not w64 (from_bit leaf)) other
      ∙ ap (λ (b : Bool). has_leaf word other && b)
      (has_not (from_bit leaf) other (from_small leaf) within ∙ ap not (has_from leaf other after within))
      ∙ and_false (has_leaf word other);
}

-- `MAX << leaf`
abbrev shifted : ℕ → ℕ
shifted leaf = (2 ^ 64 - 1) * 2 ^ leaf % 2 ^ 64

pub shifted_set : (word leaf : ℕ) (is_set : Bool) → leaf < 64 → is_set ≡ true
    → SetsFrom leaf is_set word (bit_or word (shifted leaf))
shifted_set word leaf is_set room is =
    subst (λ (b : Bool). SetsFrom leaf b word (bit_or word (shifted leaf))) (sym is)
    (subst (λ (later : ℕ). SetsFrom leaf true word (bit_or word later))
    (sym (ones_shl 64 leaf (omega (arith, room)))) (all_set word leaf))

pub shifted_cleared : (word leaf : ℕ) (is_set : Bool) → leaf < 64 → is_set ≡ false
    → SetsFrom leaf is_set word (bit_and word (bit_not w64 (shifted leaf)))
shifted_cleared word leaf is_set room is =
    subst (λ (b : Bool). SetsFrom leaf b word (bit_and word (bit_not w64 (shifted leaf)))) (sym is)
    (subst (λ (later : ℕ). SetsFrom leaf false word (bit_and word (bit_not w64 later)))
    (sym (ones_shl 64 leaf (omega (arith, room)))) (all_cleared word leaf room))

-- ---- sets

abbrev set_of : Bool → Bool → Bool → Mask
set_of truth falsity null = record { truth = truth; falsity = falsity; null = null }

pub same_parts : (m n : Mask) → m.truth ≡ n.truth → m.falsity ≡ n.falsity → m.null ≡ n.null → m ≡ n
same_parts m n truth falsity null =
    ap (λ b. set_of b m.falsity m.null) truth ∙ ap (λ b. set_of n.truth b m.null) falsity
    ∙ ap (set_of n.truth n.falsity) null

abbrev same : Bool → Bool → Bool
same true b = b
same false b = not b

same_is : (a b : Bool) → same a b ≡ true → a ≡ b
same_is true true h = refl
same_is true false h = absurd cc
same_is false true h = absurd cc
same_is false false h = refl

abbrev same_set : Mask → Mask → Bool
same_set m n = same m.truth n.truth && (same m.falsity n.falsity && same m.null n.null)

same_set_is : (m n : Mask) → same_set m n ≡ true → m ≡ n
same_set_is m n h =
    let one = both_true (same m.truth n.truth) (same m.falsity n.falsity && same m.null n.null) h in
    let two = both_true (same m.falsity n.falsity) (same m.null n.null) one.1 in
    same_parts m n (same_is m.truth n.truth one.0) (same_is m.falsity n.falsity two.0) (same_is m.null n.null two.1)

-- whether a test passes for both truth values, and so for each; for all sets, and so for each
abbrev both_pass : (Bool → Bool) → Bool
both_pass test = test true && test false

each_passes : (test : Bool → Bool) → both_pass test ≡ true → (b : Bool) → test b ≡ true
each_passes test h true = (both_true (test true) (test false) h).0
each_passes test h false = (both_true (test true) (test false) h).1

abbrev all_pass : (Mask → Bool) → Bool
all_pass test = both_pass (λ truth. both_pass (λ falsity. both_pass (λ null. test (set_of truth falsity null))))

each_set_passes : (test : Mask → Bool) → all_pass test ≡ true → (m : Mask) → test m ≡ true
each_set_passes test h m =
    each_passes (λ null. test (set_of m.truth m.falsity null))
    (each_passes (λ falsity. both_pass (λ null. test (set_of m.truth falsity null)))
    (each_passes (λ truth. both_pass (λ falsity. both_pass (λ null. test (set_of truth falsity null)))) h m.truth)
    m.falsity) m.null

-- two functions of sets that are the same for all sets
same_everywhere : (f g : Mask → Mask) → all_pass (λ m. same_set (f m) (g m)) ≡ true → (m : Mask) → f m ≡ g m
same_everywhere f g h m = same_set_is (f m) (g m) (each_set_passes (λ m. same_set (f m) (g m)) h m)

same_for_two : (f g : Mask → Mask → Mask) → all_pass (λ m. all_pass (λ n. same_set (f m n) (g m n))) ≡ true
    → (m n : Mask) → f m n ≡ g m n
same_for_two f g h m =
    same_everywhere (f m) (g m) (each_set_passes (λ m. all_pass (λ n. same_set (f m n) (g m n))) h m)

-- ---- connectives

abbrev has_any : Mask → Bool
has_any m = (m.truth || m.falsity) || m.null

abbrev both_sets : Mask → Mask → Mask
both_sets m n = set_of (m.truth && n.truth) ((m.falsity && has_any n) || (has_any m && n.falsity))
    ((m.null && (n.truth || n.null)) || (m.truth && n.null))

abbrev either_set : Mask → Mask → Mask
either_set m n = set_of ((m.truth && has_any n) || (has_any m && n.truth)) (m.falsity && n.falsity)
    ((m.null && (n.falsity || n.null)) || (m.falsity && n.null))

both_sets_are : (m n : Mask) → both_sets m n ≡ lift_two and_of m n
both_sets_are m n = same_for_two both_sets (lift_two and_of) refl m n

either_set_is : (m n : Mask) → either_set m n ≡ lift_two or_of m n
either_set_is m n = same_for_two either_set (lift_two or_of) refl m n

or2 : {a b c d : Bool} → a ≡ c → b ≡ d → (a || b) ≡ (c || d)
or2 {a} {b} {c} {d} h k = ap (λ x. x || b) h ∙ ap (λ x. c || x) k

and2 : {a b c d : Bool} → a ≡ c → b ≡ d → (a && b) ≡ (c && d)
and2 {a} {b} {c} {d} h k = ap (λ x. x && b) h ∙ ap (λ x. c && x) k

abbrev any_word : LeafMasks → ℕ
any_word masks = bit_or (bit_or masks.truth masks.falsity) masks.null

any_at : (masks : LeafMasks) (leaf : ℕ) → has_leaf (any_word masks) leaf ≡ has_any (at_leaf leaf masks)
any_at masks leaf = has_or (bit_or masks.truth masks.falsity) masks.null leaf
    ∙ or2 (has_or masks.truth masks.falsity leaf) refl

-- `a & b`, or `c & d`
crossed : (a b c d leaf : ℕ) → has_leaf (bit_or (bit_and a b) (bit_and c d)) leaf
    ≡ ((has_leaf a leaf && has_leaf b leaf) || (has_leaf c leaf && has_leaf d leaf))
crossed a b c d leaf = has_or (bit_and a b) (bit_and c d) leaf ∙ or2 (has_and a b leaf) (has_and c d leaf)

abbrev pub and_words : LeafMasks → LeafMasks → LeafMasks
and_words left right =
    record {
      truth = bit_and left.truth right.truth;
      falsity = bit_or (bit_and left.falsity (any_word right)) (bit_and (any_word left) right.falsity);
      null = bit_or (bit_and left.null (bit_or right.truth right.null)) (bit_and left.truth right.null);
    }

abbrev pub or_words : LeafMasks → LeafMasks → LeafMasks
or_words left right =
    record {
      truth = bit_or (bit_and left.truth (any_word right)) (bit_and (any_word left) right.truth);
      falsity = bit_and left.falsity right.falsity;
      null = bit_or (bit_and left.null (bit_or right.falsity right.null)) (bit_and left.falsity right.null);
    }

pub and_at : (leaf : ℕ) (left right : LeafMasks)
    → at_leaf leaf (and_words left right) ≡ lift_two and_of (at_leaf leaf left) (at_leaf leaf right)
and_at leaf left right =
    same_parts (at_leaf leaf (and_words left right)) (both_sets (at_leaf leaf left) (at_leaf leaf right))
    (has_and left.truth right.truth leaf)
    (crossed left.falsity (any_word right) (any_word left) right.falsity leaf
    ∙ or2 (and2 refl (any_at right leaf)) (and2 (any_at left leaf) refl))
    (crossed left.null (bit_or right.truth right.null) left.truth right.null leaf
    ∙ ap (λ (b : Bool). (has_leaf left.null leaf && b) || (has_leaf left.truth leaf && has_leaf right.null leaf))
    (has_or right.truth right.null leaf))
    ∙ both_sets_are (at_leaf leaf left) (at_leaf leaf right)

pub or_at : (leaf : ℕ) (left right : LeafMasks)
    → at_leaf leaf (or_words left right) ≡ lift_two or_of (at_leaf leaf left) (at_leaf leaf right)
or_at leaf left right =
    same_parts (at_leaf leaf (or_words left right)) (either_set (at_leaf leaf left) (at_leaf leaf right))
    (crossed left.truth (any_word right) (any_word left) right.truth leaf
    ∙ or2 (and2 refl (any_at right leaf)) (and2 (any_at left leaf) refl))
    (has_and left.falsity right.falsity leaf)
    (crossed left.null (bit_or right.falsity right.null) left.falsity right.null leaf
    ∙ ap (λ (b : Bool). (has_leaf left.null leaf && b) || (has_leaf left.falsity leaf && has_leaf right.null leaf))
    (has_or right.falsity right.null leaf))
    ∙ either_set_is (at_leaf leaf left) (at_leaf leaf right)

pub not_at : (m : Mask) → set_of m.falsity m.truth m.null ≡ lift_one not_of m
not_at m = same_everywhere (λ m. set_of m.falsity m.truth m.null) (lift_one not_of) refl m

true_asked : (m : Mask) → set_of m.truth (m.falsity || m.null) false ≡ lift_one (is_of t.True) m
true_asked m = same_everywhere (λ m. set_of m.truth (m.falsity || m.null) false) (lift_one (is_of t.True)) refl m

false_asked : (m : Mask) → set_of m.falsity (m.truth || m.null) false ≡ lift_one (is_of t.False) m
false_asked m = same_everywhere (λ m. set_of m.falsity (m.truth || m.null) false) (lift_one (is_of t.False)) refl m

null_asked : (m : Mask) → set_of m.null (m.truth || m.falsity) false ≡ lift_one (is_of t.Unknown) m
null_asked m = same_everywhere (λ m. set_of m.null (m.truth || m.falsity) false) (lift_one (is_of t.Unknown)) refl m

abbrev asked_words : ℕ → ℕ → LeafMasks
asked_words asked others = record { truth = asked; falsity = others; null = 0 }

asked_at : (leaf asked one other : ℕ)
    → at_leaf leaf (asked_words asked (bit_or one other))
    ≡ set_of (has_leaf asked leaf) (has_leaf one leaf || has_leaf other leaf) false
asked_at leaf asked one other =
    same_parts (at_leaf leaf (asked_words asked (bit_or one other)))
    (set_of (has_leaf asked leaf) (has_leaf one leaf || has_leaf other leaf) false) refl (has_or one other leaf)
    (has_none leaf)

pub is_true_at : (leaf : ℕ) (masks : LeafMasks)
    → at_leaf leaf (asked_words masks.truth (bit_or masks.falsity masks.null))
    ≡ lift_one (is_of t.True) (at_leaf leaf masks)
is_true_at leaf masks = asked_at leaf masks.truth masks.falsity masks.null ∙ true_asked (at_leaf leaf masks)

pub is_false_at : (leaf : ℕ) (masks : LeafMasks)
    → at_leaf leaf (asked_words masks.falsity (bit_or masks.truth masks.null))
    ≡ lift_one (is_of t.False) (at_leaf leaf masks)
is_false_at leaf masks = asked_at leaf masks.falsity masks.truth masks.null ∙ false_asked (at_leaf leaf masks)

pub is_null_at : (leaf : ℕ) (masks : LeafMasks)
    → at_leaf leaf (asked_words masks.null (bit_or masks.truth masks.falsity))
    ≡ lift_one (is_of t.Unknown) (at_leaf leaf masks)
is_null_at leaf masks = asked_at leaf masks.null masks.truth masks.falsity ∙ null_asked (at_leaf leaf masks)
