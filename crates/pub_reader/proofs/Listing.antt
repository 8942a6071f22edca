-- Texts cut at commas.
use Rattle.std.proofs.Common.{◌≡◌, ℕ, suc, ◌+◌, ◌-◌, ◌<◌, ◌≤◌, Bool, true, false, List, [], ◌∷◌, length, take, drop, refl, ap, sym, ◌∙◌, arith}
use Rattle.std.proofs.lemmas.List.{length-drop, drop-drop, take_all}
use Rattle.std.specs.Prelude.{◌==◌}
use Rattle.std.specs.List.{prefix_len}
use Rattle.pub_reader.specs.Operations.{before_first, is_part_byte, parts}
use Rattle.filter_tree.proofs.Tests.{by_test}

-- a text with a comma
cut : (text : List ℕ) → prefix_len is_part_byte text < length text →
    parts text ≡ take (prefix_len is_part_byte text) text ∷ parts (drop (suc (prefix_len is_part_byte text)) text)
cut [] h = absurd (omega arith)
cut (byte ∷ text) h =
    by_test (byte == 44)
    (λ e. rw e refl)
    (λ e.
    let more : prefix_len is_part_byte (byte ∷ text) ≡ 1 + prefix_len is_part_byte text = rw e refl in
    let one_more : prefix_len is_part_byte (byte ∷ text) ≡ suc (prefix_len is_part_byte text) = omega arith in
    let longer : parts (byte ∷ text) ≡ before_first byte (parts text) = rw e refl in
    longer ∙ ap (before_first byte) (cut text (omega arith)) ∙ rw one_more refl)

-- a text without a comma
whole : (text : List ℕ) → length text ≤ prefix_len is_part_byte text → parts text ≡ text ∷ []
whole [] h = refl
whole (byte ∷ text) h =
    by_test (byte == 44)
    (λ e. let none : prefix_len is_part_byte (byte ∷ text) ≡ 0 = rw e refl in absurd (omega arith))
    (λ e.
    let more : prefix_len is_part_byte (byte ∷ text) ≡ 1 + prefix_len is_part_byte text = rw e refl in
    let one_more : prefix_len is_part_byte (byte ∷ text) ≡ suc (prefix_len is_part_byte text) = omega arith in
    let longer : parts (byte ∷ text) ≡ before_first byte (parts text) = rw e refl in
    longer ∙ ap (before_first byte) (whole text (omega arith)))

pub parts-cut : (text front back : List ℕ) (n : ℕ) → n ≡ prefix_len is_part_byte text → front ≡ take n text
    → back ≡ drop n text → 0 < length back →
    parts text ≡ front ∷ parts (take (length back - 1) (drop 1 back))
parts-cut text front back n is first second some =
    let inside : prefix_len is_part_byte text < length text = omega (arith, length-drop n text, ap length second) in
    let one_more : n + 1 ≡ suc (prefix_len is_part_byte text) = omega arith in
    let all : take (length back - 1) (drop 1 back) ≡ drop 1 back =
    take_all (length back - 1) (drop 1 back) (omega (arith, length-drop 1 back)) in
    let following : drop 1 back ≡ drop (suc (prefix_len is_part_byte text)) text = ap (drop 1) second
    ∙ drop-drop 1 n text ∙ ap (λ k. drop k text) one_more in
    let same_front : front ≡ take (prefix_len is_part_byte text) text = first ∙ ap (λ k. take k text) is in
    cut text inside ∙ rw (all, following, same_front) refl

pub parts-whole : (text front back : List ℕ) (n : ℕ) → n ≡ prefix_len is_part_byte text → front ≡ take n text
    → back ≡ drop n text → length back < 1 → parts text ≡ front ∷ []
parts-whole text front back n is first second none =
    let past : length text ≤ prefix_len is_part_byte text = omega (arith, length-drop n text, ap length second) in
    let all : take n text ≡ text = take_all n text (omega arith) in
    whole text past ∙ ap (λ t. t ∷ []) (sym (first ∙ all))
