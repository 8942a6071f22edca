-- A list that adds each item unless it already has it has each item once, in the order of first appearance.
use Rattle.std.proofs.Common.{◌≡◌, ◌+◌, ◌<◌, Bool, true, false, List, [], ◌∷◌, ◌++◌, length, refl, sym, ap, ◌∙◌, subst, append_assoc, append-nil, arith}
use Rattle.std.specs.Prelude.{nat_eq, fold, ◌||◌}
use Rattle.std.specs.Cmp.{IsEquivalence, nat_eq_equiv}
use Rattle.std.specs.List.{IsDistinct, list_any, position_or_len}
use Rattle.std.proofs.lemmas.Map.Keys.{IsDistinct-push}
use Rattle.std.proofs.lemmas.List.Folds.{list_any-append}
use Rattle.filter_tree.specs.Lists.{with_item, distinct}
use Rattle.filter_tree.specs.Once.{HasEachOnce, DistinctIsOnce}
use Rattle.filter_tree.specs.Same.{same_atom, same_term}
use Rattle.filter_tree.proofs.SameLemmas.{same_atom_is, same_atom_of_equal, same_term_is, same_term_of_equal}
use Rattle.filter_tree.proofs.Tests.{by_test}

-- ---- tests that hold for equal items and for no others

module _ {X : Type 0} (same : X → X → Bool) (is : (x y : X) → same x y ≡ true → x ≡ y)
    (self : (x y : X) → x ≡ y → same x y ≡ true) where
  same_by : (x y : X) → same x y ≡ same y x
  same_by x y = by_test (same x y)
      (λ h. h ∙ sym (self y x (sym (is x y h))))
      (λ h. by_test (same y x) (λ k. self x y (sym (is y x k)) ∙ sym k) (λ k. h ∙ sym k))

  pub equivalence : IsEquivalence same
  equivalence = record {
    refl = λ x. self x x refl;
    symm = same_by;
    congr = λ x y z h. ap (λ w. same w z) (is x y h);
  }

or_false : (b : Bool) → (b || (false || false)) ≡ b
or_false true = refl
or_false false = refl

-- ---- where an item first stands

position-found : {X : Type 0} (p : X → Bool) (xs ys : List X) → list_any p xs ≡ true
    → position_or_len p (xs ++ ys) ≡ position_or_len p xs
position-found p [] ys h = absurd cc
position-found p (x ∷ xs) ys h = by_test (p x)
    (λ here. rw here refl)
    (λ later. let rest : list_any p xs ≡ true = rw later at h in
    rw later (ap (λ n. 1 + n) (position-found p xs ys rest)))

position-after : {X : Type 0} (p : X → Bool) (xs ys : List X) → list_any p xs ≡ false
    → position_or_len p (xs ++ ys) ≡ length xs + position_or_len p ys
position-after p [] ys h = omega arith
position-after p (x ∷ xs) ys h = by_test (p x)
    (λ here. absurd (let found : true ≡ false = rw here at h in cc))
    (λ later. let rest : list_any p xs ≡ false = rw later at h in let past = position-after p xs ys rest in
    rw later (omega (arith, past)))

position-within : {X : Type 0} (p : X → Bool) (xs : List X) → list_any p xs ≡ true → position_or_len p xs < length xs
position-within p [] h = absurd cc
position-within p (x ∷ xs) h = by_test (p x)
    (λ here. rw here (omega arith))
    (λ later. let rest : list_any p xs ≡ true = rw later at h in let within = position-within p xs rest in
    rw later (omega arith))

position-last : {X : Type 0} (p : X → Bool) (x : X) → p x ≡ true → position_or_len p (x ∷ []) ≡ 0
position-last p x h = rw h refl

position-past : {X : Type 0} (p : X → Bool) (x : X) → p x ≡ false → position_or_len p (x ∷ []) ≡ 1
position-past p x h = rw h refl

position-missing : {X : Type 0} (p : X → Bool) (xs : List X) → list_any p xs ≡ false → position_or_len p xs ≡ length xs
position-missing p [] h = refl
position-missing p (x ∷ xs) h = by_test (p x)
    (λ here. absurd (let found : true ≡ false = rw here at h in cc))
    (λ later. let rest : list_any p xs ≡ false = rw later at h in let past = position-missing p xs rest in
    rw later (omega (arith, past)))

-- ---- one more item

module _ {X : Type 0} (same : X → X → Bool) (laws : IsEquivalence same) where
  -- if an item is the same as another, a list has both or neither
  any_alike : (x y : X) (xs : List X) → same x y ≡ true → list_any (same x) xs ≡ list_any (same y) xs
  any_alike x y [] h = refl
  any_alike x y (z ∷ xs) h = let one = laws.congr x y z h in let others = any_alike x y xs h in rw (one, others) refl

  apart_with : (once : List X) (x : X) → IsDistinct same once → IsDistinct same (with_item same once x)
  apart_with once x apart = by_test (list_any (same x) once)
      (λ found. rw found apart)
      (λ new. rw new (IsDistinct-push laws once x apart new))

  held_with : (once items : List X) (z x : X) → ((y : X) → list_any (same y) once ≡ list_any (same y) items)
      → list_any (same x) (with_item same once z) ≡ list_any (same x) (items ++ z ∷ [])
  held_with once items z x held = by_test (list_any (same z) once)
      (λ found. rw found (held x ∙ by_test (same x z)
      (λ alike.
      let there : list_any (same x) items ≡ true = sym (held x) ∙ any_alike x z once alike ∙ found in
      there ∙ sym (list_any-append (same x) items (z ∷ []) ∙ rw there refl))
      (λ other. sym (list_any-append (same x) items (z ∷ []) ∙ rw other (or_false (list_any (same x) items))))))
      (λ new. rw new (list_any-append (same x) once (z ∷ []) ∙ ap (λ b. b || list_any (same x) (z ∷ [])) (held x)
      ∙ sym (list_any-append (same x) items (z ∷ []))))

  -- an item that the list lacks comes before no other item except where it is added
  ordered_at_new : (once items : List X) (z x y : X) → ((w : X) → list_any (same w) once ≡ list_any (same w) items)
      → list_any (same x) items ≡ false
      → position_or_len (same x) (items ++ z ∷ []) < position_or_len (same y) (items ++ z ∷ [])
      → position_or_len (same x) (with_item same once z) < position_or_len (same y) (with_item same once z)
  ordered_at_new once items z x y held lacks before =
      let at_x = position-after (same x) items (z ∷ []) lacks in
      by_test (list_any (same y) items)
      (λ found.
      let at_y = position-found (same y) items (z ∷ []) found in
      let within = position-within (same y) items found in
      let none : ⊥ = omega (arith, at_x, at_y, within, before) in absurd none)
      (λ missing.
      let at_y = position-after (same y) items (z ∷ []) missing in
      by_test (same x z)
      (λ alike. by_test (same y z)
      (λ also.
      let first = position-last (same x) z alike in
      let other = position-last (same y) z also in
      let none : ⊥ = omega (arith, at_x, at_y, first, other, before) in absurd none)
      (λ different.
      let z_new : list_any (same z) once ≡ false = held z ∙ sym (any_alike x z items alike) ∙ lacks in
      let one = position-after (same x) once (z ∷ []) (held x ∙ lacks) in
      let other = position-after (same y) once (z ∷ []) (held y ∙ missing) in
      let first = position-last (same x) z alike in
      let second = position-past (same y) z different in
      rw z_new (omega (arith, one, other, first, second))))
      (λ different.
      let first = position-past (same x) z different in
      by_test (same y z)
      (λ also. let other = position-last (same y) z also in let none : ⊥ =
      omega (arith, at_x, at_y, first, other, before) in absurd none)
      (λ also. let other = position-past (same y) z also in let none : ⊥ =
      omega (arith, at_x, at_y, first, other, before) in absurd none)))

  -- an item that the list has stays before what comes later
  ordered_at_old : (once items : List X) (z x y : X) → HasEachOnce same once items → list_any (same x) items ≡ true
      → position_or_len (same x) (items ++ z ∷ []) < position_or_len (same y) (items ++ z ∷ [])
      → position_or_len (same x) (with_item same once z) < position_or_len (same y) (with_item same once z)
  ordered_at_old once items z x y has found before = by_test (list_any (same z) once)
      (λ old. by_test (list_any (same y) items)
      (λ also.
      let at_x = position-found (same x) items (z ∷ []) found in
      let at_y = position-found (same y) items (z ∷ []) also in
      let earlier : position_or_len (same x) items < position_or_len (same y) items =
      omega (arith, at_x, at_y, before) in
      rw old (has.ordered x y earlier))
      (λ missing.
      let within = position-within (same x) once (has.held x ∙ found) in
      let past = position-missing (same y) once (has.held y ∙ missing) in
      rw old (omega (arith, within, past))))
      (λ new.
      let one = position-found (same x) once (z ∷ []) (has.held x ∙ found) in
      let within = position-within (same x) once (has.held x ∙ found) in
      by_test (list_any (same y) items)
      (λ also.
      let at_x = position-found (same x) items (z ∷ []) found in
      let at_y = position-found (same y) items (z ∷ []) also in
      let other = position-found (same y) once (z ∷ []) (has.held y ∙ also) in
      let earlier = has.ordered x y (omega (arith, at_x, at_y, before)) in
      rw new (omega (arith, one, other, earlier)))
      (λ missing.
      let other = position-after (same y) once (z ∷ []) (has.held y ∙ missing) in
      rw new (omega (arith, one, within, other))))

  once_with : (once items : List X) (z : X) → HasEachOnce same once items
      → HasEachOnce same (with_item same once z) (items ++ z ∷ [])
  once_with once items z has = record {
    apart = apart_with once z has.apart;
    held = λ x. held_with once items z x has.held;
    ordered = λ x y before. by_test (list_any (same x) items)
        (λ found. ordered_at_old once items z x y has found before)
        (λ lacks. ordered_at_new once items z x y has.held lacks before);
  }

  once_fold : (once items more : List X) → HasEachOnce same once items
      → HasEachOnce same (fold (with_item same) once more) (items ++ more)
  once_fold once items [] has = subst (HasEachOnce same once) (sym (append-nil items)) has
  once_fold once items (z ∷ more) has =
      subst (HasEachOnce same (fold (with_item same) (with_item same once z) more)) (append_assoc items (z ∷ []) more)
      (once_fold (with_item same once z) (items ++ z ∷ []) more (once_with once items z has))

  nothing_once : HasEachOnce same [] []
  unfolding IsDistinct
  nothing_once = record { apart = tt; held = λ x. refl; ordered = λ x y before. before }

  pub has_each_once : (items : List X) → HasEachOnce same (distinct same items) items
  has_each_once items = once_fold [] [] items nothing_once

-- ---- the parts of filters

pub distinct_once : DistinctIsOnce
distinct_once = record {
  atoms = has_each_once same_atom (equivalence same_atom same_atom_is same_atom_of_equal);
  terms = has_each_once same_term (equivalence same_term same_term_is same_term_of_equal);
  columns = has_each_once nat_eq nat_eq_equiv;
}
