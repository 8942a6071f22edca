-- The first frames of a stream, and how many bytes they are.
use Rattle.std.proofs.Common.{◌≡◌, ℕ, ◌+◌, ◌-◌, ◌<◌, ◌≤◌, Bool, true, false, List, [], ◌∷◌, ◌++◌, drop, length, take, refl, sym, ap, subst, ◌∙◌, arith, append_assoc, append-nil, length-append, add-zero}
use Rattle.std.specs.Prelude.{nat_le}
use Rattle.std.specs.Int.{to_be_bytes, w32}
use Rattle.std.specs.List.{flat_map}
use Rattle.std.proofs.lemmas.Bool.{leb-true, leb-false, le-leb}
use Rattle.std.proofs.lemmas.Grind.{flat_map-append}
use Rattle.std.proofs.lemmas.List.{drop_at, take-append-drop}
use Rattle.copy_frames.specs.Frames.{framed}
use Rattle.copy_frames.specs.declared.frame.Frame.{Frame}
use Rattle.stream_laws.specs.Cutting.{if_whole, whole_by}
use Rattle.stream_laws.proofs.CuttingLemmas.{whole_more_by}
use Rattle.filter_tree.proofs.Tests.{by_test}

abbrev pub bytes_by : {X : Type 0} → (X → Frame) → List X → List ℕ
bytes_by frame all = flat_map (λ x. framed (frame x)) all

module _ {X : Type 0} (frame : X → Frame) where
  some_bytes : (x : X) → 5 ≤ length (framed (frame x))
  some_bytes x = omega (arith, length-append (to_be_bytes w32 (length (frame x).body + 4)) (frame x).body)

  none_whole : (all : List X) → whole_by frame 0 all ≡ []
  none_whole [] = refl
  none_whole (x ∷ xs) = by_test (nat_le (length (framed (frame x))) 0)
      (λ whole. absurd (omega (arith, some_bytes x, leb-true (length (framed (frame x))) 0 whole)))
      (λ part. ap (λ b. if_whole b x (whole_by frame (0 - length (framed (frame x))) xs)) part)

  -- exactly the first ones are whole in as many bytes as they have
  pub firsts_are_whole : (first others : List X)
      → whole_by frame (length (bytes_by frame first)) (first ++ others) ≡ first
  firsts_are_whole [] others = none_whole others
  firsts_are_whole (x ∷ first) others =
      let long : length (bytes_by frame (x ∷ first)) ≡ length (framed (frame x)) + length (bytes_by frame first) =
      length-append (framed (frame x)) (bytes_by frame first) in
      let rest : length (bytes_by frame (x ∷ first)) - length (framed (frame x)) ≡ length (bytes_by frame first) =
      omega (arith, long) in
      ap (λ b. if_whole b x
      (whole_by frame (length (bytes_by frame (x ∷ first)) - length (framed (frame x))) (first ++ others)))
      (le-leb (length (framed (frame x))) (length (bytes_by frame (x ∷ first))) (omega (arith, long)))
      ∙ ap (λ n. x ∷ whole_by frame n (first ++ others)) rest ∙ ap (λ xs. x ∷ xs) (firsts_are_whole first others)

  -- what is whole in some bytes has no more than these
  pub whole_fits : (count : ℕ) (all : List X) → length (bytes_by frame (whole_by frame count all)) ≤ count
  whole_fits count [] = omega arith
  whole_fits count (x ∷ xs) = by_test (nat_le (length (framed (frame x))) count)
      (λ whole.
      let fits : length (framed (frame x)) ≤ count = leb-true (length (framed (frame x))) count whole in
      let later = whole_fits (count - length (framed (frame x))) xs in
      subst (λ b. length (bytes_by frame (if_whole b x (whole_by frame (count - length (framed (frame x))) xs))) ≤
      count) (sym whole)
      (omega (
        arith,
        fits,
        later,
        length-append (framed (frame x)) (bytes_by frame (whole_by frame (count - length (framed (frame x))) xs)),
      )))
      (λ part. subst (λ b. length
      (bytes_by frame (if_whole b x (whole_by frame (count - length (framed (frame x))) xs))) ≤ count) (sym part)
      (omega arith))

  first_is : (x y : X) (xs ys : List X) → x ∷ xs ≡ y ∷ ys → x ≡ y
  first_is x y xs ys e = cc

  -- and with the next one more than these
  pub next_is_more : (count : ℕ) (x : X) (all others : List X) → whole_by frame count all ++ x ∷ others ≡ all
      → count < length (bytes_by frame (whole_by frame count all)) + length (framed (frame x))
  next_is_more count x [] others same = absurd (nothing (whole_by frame count []) same)
    where
      nothing : (xs : List X) → xs ++ x ∷ others ≡ [] → ⊥
      nothing [] e = cc
      nothing (y ∷ ys) e = cc
  next_is_more count x (y ∷ ys) others same = by_test (nat_le (length (framed (frame y))) count)
      (λ whole.
      let fits : length (framed (frame y)) ≤ count = leb-true (length (framed (frame y))) count whole in
      let here : whole_by frame count (y ∷ ys) ≡ y ∷ whole_by frame (count - length (framed (frame y))) ys =
      ap (λ b. if_whole b y (whole_by frame (count - length (framed (frame y))) ys)) whole in
      let later = next_is_more (count - length (framed (frame y))) x ys others
      (ap (drop 1) (sym (ap (λ xs. xs ++ x ∷ others) here) ∙ same)) in
      subst (λ xs. count < length (bytes_by frame xs) + length (framed (frame x))) (sym here)
      (omega (
        arith,
        fits,
        later,
        length-append (framed (frame y)) (bytes_by frame (whole_by frame (count - length (framed (frame y))) ys)),
      )))
      (λ part.
      let none : whole_by frame count (y ∷ ys) ≡ [] =
      ap (λ b. if_whole b y (whole_by frame (count - length (framed (frame y))) ys)) part in
      let is_y : x ≡ y = first_is x y others ys (sym (ap (λ xs. xs ++ x ∷ others) none) ∙ same) in
      subst (λ xs. count < length (bytes_by frame xs) + length (framed (frame x))) (sym none)
      (let less : count < length (framed (frame x)) =
      subst (λ z. count < length (framed (frame z))) (sym is_y) (leb-false (length (framed (frame y))) count part)
      in omega (arith, less)))

  -- ---- the first frames of a piece

  -- these are the first ones
  record Begins (first all : List X) : Type 0 where
    others : List X
    is : first ++ others ≡ all

  begin_with : (whole : Bool) (x : X) (first xs : List X) → Begins first xs → Begins (if_whole whole x first) (x ∷ xs)
  begin_with true x first xs later = record { others = later.others; is = ap (λ rest. x ∷ rest) later.is }
  begin_with false x first xs later = record { others = x ∷ xs; is = refl }

  whole_begin : (count : ℕ) (all : List X) → Begins (whole_by frame count all) all
  whole_begin count [] = record { others = []; is = refl }
  whole_begin count (x ∷ xs) =
      begin_with (nat_le (length (framed (frame x))) count) x (whole_by frame (count - length (framed (frame x))) xs)
      xs (whole_begin (count - length (framed (frame x))) xs)

  -- what is whole in this number of bytes and more, and was not before
  abbrev pub new_in : List X → ℕ → ℕ → List X
  new_in all done more = drop (length (whole_by frame done all)) (whole_by frame (done + more) all)

  -- this number of the first frames of a piece are those of a smaller piece
  pub record IsPart (all : List X) (done more count : ℕ) : Type 0 where
    pub some : ℕ
    pub within : some ≤ more
    pub new_is : new_in all done some ≡ take count (new_in all done more)

  module _ (all : List X) (done more count : ℕ) where
    abbrev few : List X
    few = whole_by frame done all

    abbrev new : List X
    new = drop (length (whole_by frame done all)) (whole_by frame (done + more) all)

    -- all are the first ones, these and others
    split : (part : List X) → take count new ≡ part
        → (few ++ part) ++ (drop count new ++ (whole_begin (done + more) all).others) ≡ all
    split part e =
        let others = (whole_begin (done + more) all).others in
        append_assoc few part (drop count new ++ others)
        ∙ ap (λ xs. few ++ xs)
        (sym (append_assoc part (drop count new) others) ∙ ap (λ xs. (xs ++ drop count new) ++ others) (sym e)
        ∙ ap (λ xs. xs ++ others) (take-append-drop count new))
        ∙ sym (append_assoc few new others) ∙ ap (λ xs. xs ++ others) (whole_more_by frame done more all)
        ∙ (whole_begin (done + more) all).is

    bytes_more : (xs ys : List X)
        → length (bytes_by frame (xs ++ ys)) ≡ length (bytes_by frame xs) + length (bytes_by frame ys)
    bytes_more xs ys = ap length (flat_map-append (λ x. framed (frame x)) xs ys)
        ∙ length-append (bytes_by frame xs) (bytes_by frame ys)

    part_fits : (part : List X) → take count new ≡ part → length (bytes_by frame (few ++ part)) ≤ done + more
    part_fits part e =
        let many : (few ++ part) ++ drop count new ≡ whole_by frame (done + more) all =
        append_assoc few part (drop count new) ∙ ap (λ xs. few ++ (xs ++ drop count new)) (sym e)
        ∙ ap (λ xs. few ++ xs) (take-append-drop count new) ∙ whole_more_by frame done more all in
        omega (
          arith,
          whole_fits (done + more) all,
          ap (λ xs. length (bytes_by frame xs)) many,
          bytes_more (few ++ part) (drop count new),
        )

    part_by : (part : List X) → take count new ≡ part → IsPart all done more count
    part_by [] e = record {
      some = 0;
      within = omega arith;
      new_is = ap (λ n. drop (length few) (whole_by frame n all)) (add-zero done) ∙ none_left few ∙ sym e;
    }
      where
        none_left : (xs : List X) → drop (length xs) xs ≡ []
        none_left xs = ap (drop (length xs)) (sym (append-nil xs)) ∙ drop_at xs [] (length xs) refl
    part_by (x ∷ xs) e =
        let end : ℕ = length (bytes_by frame (few ++ x ∷ xs)) in
        let fits : end ≤ done + more = part_fits (x ∷ xs) e in
        let passes : done < length (bytes_by frame few) + length (framed (frame x)) =
        next_is_more done x all (xs ++ (drop count new ++ (whole_begin (done + more) all).others))
        (sym (append_assoc few (x ∷ xs) (drop count new ++ (whole_begin (done + more) all).others))
        ∙ split (x ∷ xs) e) in
        let long : done < end =
        omega (arith, passes, bytes_more few (x ∷ xs), length-append (framed (frame x)) (bytes_by frame xs)) in
        let at_end : done + (end - done) ≡ end = omega (arith, long) in
        let whole : whole_by frame end all ≡ few ++ x ∷ xs =
        ap (whole_by frame end) (sym (split (x ∷ xs) e))
        ∙ firsts_are_whole (few ++ x ∷ xs) (drop count new ++ (whole_begin (done + more) all).others) in
        record {
          some = end - done;
          within = omega (arith, fits);
          new_is = ap (λ n. drop (length few) (whole_by frame n all)) at_end ∙ ap (drop (length few)) whole
              ∙ drop_at few (x ∷ xs) (length few) refl ∙ sym e;
        }

    pub first_part : IsPart all done more count
    first_part = part_by (take count new) refl
