-- A first part of a stream's bytes is cut into the frames that are whole in it.
use Rattle.std.proofs.Common.{◌≡◌, ℕ, ◌+◌, ◌-◌, ◌<◌, ◌≤◌, ◌^◌, Bool, true, false, List, [], ◌∷◌, ◌++◌, map, length, take, drop, refl, sym, ap, subst, ◌∙◌, arith, length-append, length-drop, zero-add}
use Rattle.std.specs.Prelude.{None, nat_le, nat_lt}
use Rattle.std.specs.Int.{from_be_bytes, to_be_bytes, w32}
use Rattle.std.specs.List.{flat_map}
use Rattle.std.proofs.lemmas.Bool.{ltb-true, ltb-false, lt-ltb, leb-true, leb-false, le-leb, le-ltb}
use Rattle.std.proofs.lemmas.List.{append-nil, take-append-drop, take-append-le, drop-append-le, length-take-le, take_at, drop_at, nil_from_length}
use Rattle.std.proofs.Math.Seq.{take-add}
use mathlib.Core.List.{map-append}
use Rattle.std.proofs.lemmas.Nat.{from_be_bytes-to_be_bytes_4}
use Rattle.copy_frames.specs.Frames.{framed, IsFrame, front, Rest, Then, cut_after, cut, cut_fault, frames_of, rest_of, after_frames}
use Rattle.copy_frames.specs.FrameLaws.{AreFrames}
use Rattle.copy_frames.specs.declared.frame.Frame.{Frame}
use Rattle.copy_frames.specs.declared.front.Front.TheVariants.{Part}
use Rattle.copy_frames.proofs.CutLemmas.{cut_by_front, spelled_are_cut}
use Rattle.copy_frames.proofs.PieceLemmas.{with_more, cut_more, more_after, after_append, frames_before, rest_after, no_fault_after, same_after}
use Rattle.stream_laws.specs.Cutting.{if_whole, whole_by, IsCutBy, FirstPartsAreCut}
use Rattle.copy_both.specs.Streams.{frame_in}
use Rattle.filter_tree.proofs.Tests.{by_test}

length_framed : (frame : Frame) → length (framed frame) ≡ length frame.body + 5
length_framed frame = omega (arith, length-append (to_be_bytes w32 (length frame.body + 4)) frame.body)

-- what is shorter than a frame, and begins as it does, is not a whole frame
is_part : (limit : ℕ) (frame : Frame) (bytes others more : List ℕ) → IsFrame limit frame
    → bytes ++ others ≡ framed frame ++ more
    → length bytes < length (framed frame) → front limit bytes ≡ Part
unfolding front
is_part limit frame bytes others more allowed same short = by_test (nat_lt (length bytes) 5)
    (λ few. rw few refl)
    (λ enough.
    let five : 5 ≤ length bytes = ltb-false (length bytes) 5 enough in
    let size : ℕ = length frame.body + 4 in
    let digits : take 4 (drop 1 bytes) ≡ to_be_bytes w32 size =
    sym (ap (take 4) (drop-append-le 1 bytes others (omega arith))
    ∙ take-append-le 4 (drop 1 bytes) others (omega (arith, length-drop 1 bytes)))
    ∙ ap (λ all. take 4 (drop 1 all)) same in
    let number : from_be_bytes w32 (take 4 (drop 1 bytes)) ≡ size =
    ap (from_be_bytes w32) digits ∙ from_be_bytes-to_be_bytes_4 size (omega (arith, allowed.signed)) in
    rw (
      enough,
      number,
      le-ltb size 4 (omega arith),
      lt-ltb size (2 ^ 31) allowed.signed,
      le-ltb limit size allowed.within,
      lt-ltb (length bytes) (size + 1) (omega (arith, length_framed frame)),
    ) refl)

-- the first frame is whole, and this comes after it
record Begins (bytes : List ℕ) (frame : Frame) (others more : List ℕ) : Type 0 where
  after : List ℕ
  is : bytes ≡ framed frame ++ after
  goes_on : after ++ others ≡ more
  count : length after ≡ length bytes - length (framed frame)

begins : (bytes : List ℕ) (frame : Frame) (others more : List ℕ) → bytes ++ others ≡ framed frame ++ more
    → length (framed frame) ≤ length bytes → Begins bytes frame others more
begins bytes frame others more same long =
    let size : ℕ = length (framed frame) in
    let front_is : take size bytes ≡ framed frame =
    sym (take-append-le size bytes others long) ∙ ap (take size) same ∙ take_at (framed frame) more size refl in
    record {
      after = drop size bytes;
      is = sym (take-append-drop size bytes) ∙ ap (λ front. front ++ drop size bytes) front_is;
      goes_on = sym (drop-append-le size bytes others long) ∙ ap (drop size) same
          ∙ drop_at (framed frame) more size refl;
      count = length-drop size bytes;
    }

cut_first : (limit : ℕ) (frame : Frame) (bytes : List ℕ) → IsFrame limit frame
    → cut limit (framed frame ++ bytes) ≡ Then frame (cut limit bytes)
cut_first limit frame bytes allowed =
    ap (λ first. cut limit (first ++ bytes)) (sym (append-nil (framed frame)))
    ∙ spelled_are_cut limit (frame ∷ []) bytes (allowed, tt)

pub cut_nothing : (limit : ℕ) → cut limit [] ≡ Rest []
unfolding cut
cut_nothing limit = refl

pub parts_are_cut : {X : Type 0} (frame : X → Frame) (limit : ℕ) (all : List X) (bytes others : List ℕ)
    → AreFrames limit (map frame all)
    → bytes ++ others ≡ flat_map (λ x. framed (frame x)) all → IsCutBy frame limit all bytes
parts_are_cut frame limit [] bytes others allowed same =
    record {
      rest = [];
      cuts =
          ap (cut limit) (nil_from_length bytes (omega (arith, ap length same, length-append bytes others)))
          ∙ cut_nothing limit;
    }
parts_are_cut frame limit (x ∷ xs) bytes others allowed same =
    by_test (nat_le (length (framed (frame x))) (length bytes))
    (λ long.
    let first = begins bytes (frame x) others (flat_map (λ y. framed (frame y)) xs) same (ltb-true _ _ long) in
    let later : IsCutBy frame limit xs first.after =
    parts_are_cut frame limit xs first.after others allowed.1 first.goes_on in
    record {
      rest = later.rest;
      cuts = ap (cut limit) first.is ∙ cut_first limit (frame x) first.after allowed.0 ∙ ap (Then (frame x)) later.cuts
          ∙ ap (λ count. Then (frame x) (after_frames (map frame (whole_by frame count xs)) (Rest later.rest)))
          first.count
          ∙ ap (λ b. after_frames
          (map frame (if_whole b x (whole_by frame (length bytes - length (framed (frame x))) xs)))
          (Rest later.rest)) (sym long);
    })
    (λ short.
    let less : length bytes < length (framed (frame x)) = omega (arith, ltb-false _ _ short) in
    record {
      rest = bytes;
      cuts = cut_by_front limit bytes
          ∙ ap (λ found. cut_after found bytes (cut limit))
          (is_part limit (frame x) bytes others (flat_map (λ y. framed (frame y)) xs) allowed.0 same less)
          ∙ ap (λ b. after_frames
          (map frame (if_whole b x (whole_by frame (length bytes - length (framed (frame x))) xs))) (Rest bytes))
          (sym short);
    })

pub first_parts_are_cut : FirstPartsAreCut
first_parts_are_cut limit items bytes others allowed same = parts_are_cut frame_in limit items bytes others allowed same

-- ---- one more piece

module _ {X : Type 0} (frame : X → Frame) where
  -- what is whole in more bytes begins with what is whole in fewer ones
  if_more : (one other : Bool) (x : X) (few many : List X) → (one ≡ true → other ≡ true)
      → few ++ drop (length few) many ≡ many
      → if_whole one x few ++ drop (length (if_whole one x few)) (if_whole other x many) ≡ if_whole other x many
  if_more true true x few many both h = ap (λ rest. x ∷ rest) h
  if_more true false x few many both h = absurd (let wrong : false ≡ true = both refl in cc)
  if_more false other x few many both h = refl

  pub whole_more_by : (count more : ℕ) (all : List X)
      → whole_by frame count all ++ drop (length (whole_by frame count all)) (whole_by frame (count + more) all)
      ≡ whole_by frame (count + more) all
  whole_more_by count more [] = refl
  whole_more_by count more (x ∷ xs) =
      if_more (nat_le (length (framed (frame x))) count) (nat_le (length (framed (frame x))) (count + more)) x
      (whole_by frame (count - length (framed (frame x))) xs)
      (whole_by frame (count + more - length (framed (frame x))) xs)
      (λ whole. le-leb (length (framed (frame x))) (count + more)
      (omega (arith, leb-true (length (framed (frame x))) count whole)))
      (by_test (nat_le (length (framed (frame x))) count)
      (λ whole.
      let fits : length (framed (frame x)) ≤ count = leb-true (length (framed (frame x))) count whole in
      let count_is : count - length (framed (frame x)) + more ≡ count + more - length (framed (frame x)) =
      omega (arith, fits) in
      subst (λ n. whole_by frame (count - length (framed (frame x))) xs
      ++ drop (length (whole_by frame (count - length (framed (frame x))) xs)) (whole_by frame n xs)
      ≡ whole_by frame n xs)
      count_is (whole_more_by (count - length (framed (frame x))) more xs))
      (λ part.
      let less : count < length (framed (frame x)) = leb-false (length (framed (frame x))) count part in
      let none : count - length (framed (frame x)) ≡ 0 = omega (arith, less) in
      subst (λ n. whole_by frame n xs
      ++ drop (length (whole_by frame n xs)) (whole_by frame (count + more - length (framed (frame x))) xs)
      ≡ whole_by frame (count + more - length (framed (frame x))) xs)
      (sym none)
      (subst (λ m. whole_by frame 0 xs ++ drop (length (whole_by frame 0 xs)) (whole_by frame m xs)
      ≡ whole_by frame m xs) (zero-add (count + more - length (framed (frame x))))
      (whole_more_by 0 (count + more - length (framed (frame x))) xs))))

-- the whole frames of a piece that comes after others, and what is held then
pub record IsPiece {X : Type 0} (frame : X → Frame) (limit : ℕ) (all : List X) (bytes : List ℕ) (done more : ℕ) : Type
    0 where
  pub rest : List ℕ
  pub cuts : cut limit (rest_of (cut limit (take done bytes)) ++ take more (drop done bytes))
      ≡ after_frames (map frame (drop (length (whole_by frame done all)) (whole_by frame (done + more) all)))
      (Rest rest)
  pub held : rest_of (cut limit (take (done + more) bytes)) ≡ rest
  -- and so is all that came
  pub before : IsCutBy frame limit all (take done bytes)
  pub before_long : length (take done bytes) ≡ done
  pub all_cut : cut limit (take (done + more) bytes)
      ≡ with_more limit (take more (drop done bytes)) (cut limit (take done bytes))

pub pieces_are_cut : {X : Type 0} (frame : X → Frame) (limit : ℕ) (all : List X) (bytes : List ℕ) (done more : ℕ)
    → AreFrames limit (map frame all)
    → bytes ≡ flat_map (λ x. framed (frame x)) all → done + more ≤ length bytes
    → IsPiece frame limit all bytes done more
pieces_are_cut frame limit all bytes done more allowed same within =
    let first = parts_are_cut frame limit all (take done bytes) (drop done bytes) allowed
    (take-append-drop done bytes ∙ same) in
    let both = parts_are_cut frame limit all (take (done + more) bytes) (drop (done + more) bytes) allowed
    (take-append-drop (done + more) bytes ∙ same) in
    let first_long : length (take done bytes) ≡ done = length-take-le done bytes (omega (arith, within)) in
    let both_long : length (take (done + more) bytes) ≡ done + more = length-take-le (done + more) bytes within in
    let few = whole_by frame done all in
    let piece = take more (drop done bytes) in
    let first_cuts : cut limit (take done bytes) ≡ after_frames (map frame few) (Rest first.rest) =
    first.cuts ∙ ap (λ n. after_frames (map frame (whole_by frame n all)) (Rest first.rest)) first_long in
    let both_cuts : cut limit (take (done + more) bytes)
    ≡ after_frames (map frame (whole_by frame (done + more) all)) (Rest both.rest) =
    both.cuts ∙ ap (λ n. after_frames (map frame (whole_by frame n all)) (Rest both.rest)) both_long in
    let good : cut_fault (cut limit (take done bytes)) ≡ None = ap cut_fault first_cuts
    ∙ no_fault_after (map frame few) first.rest in
    let joined : take (done + more) bytes ≡ take done bytes ++ piece = take-add done more bytes in
    let all_is : cut limit (take (done + more) bytes) ≡ with_more limit piece (cut limit (take done bytes)) =
    ap (cut limit) joined ∙ cut_more limit (take done bytes) piece good in
    let later : after_frames (map frame few) (cut limit (rest_of (cut limit (take done bytes)) ++ piece))
    ≡ after_frames (map frame few)
    (after_frames (map frame (drop (length few) (whole_by frame (done + more) all))) (Rest both.rest)) =
    ap (λ frames. after_frames frames (cut limit (rest_of (cut limit (take done bytes)) ++ piece)))
    (sym (ap frames_of first_cuts ∙ frames_before (map frame few) first.rest))
    ∙ sym (more_after limit piece (cut limit (take done bytes)) good) ∙ sym all_is ∙ both_cuts
    ∙ ap (λ xs. after_frames (map frame xs) (Rest both.rest)) (sym (whole_more_by frame done more all))
    ∙ ap (λ frames. after_frames frames (Rest both.rest))
    (map-append frame few (drop (length few) (whole_by frame (done + more) all)))
    ∙ after_append (map frame few) (map frame (drop (length few) (whole_by frame (done + more) all))) (Rest both.rest)
    in
    record {
      rest = both.rest;
      cuts = same_after (map frame few) _ _ later;
      held = ap rest_of both_cuts ∙ rest_after (map frame (whole_by frame (done + more) all)) (Rest both.rest);
      before = first;
      before_long = first_long;
      all_cut = all_is;
    }
