-- That bytes are made of the frames that are cut from them, and of no others.
use Rattle.std.proofs.Common.{◌≡◌, ℕ, ◌+◌, ◌≤◌, ◌^◌, Bool, true, false, List, [], ◌∷◌, ◌++◌, length, refl, sym, ap, subst, ◌∙◌, inl, inr, append_assoc, arith}
use Rattle.std.specs.Prelude.{Option, Some, None, nat_lt, if◌then◌else◌}
use Rattle.std.specs.List.{flat_map, AllByRecursion}
use Rattle.std.proofs.lemmas.Bool.{ltb-true, ltb-false, lt-ltb, le-ltb, cases_lt}
use Rattle.std.proofs.lemmas.List.Concat.{flat_map-cons}
use Rattle.std.proofs.lemmas.List.Elements.{All-from_recursion, recursion_from_All}
use Rattle.copy_frames.specs.declared.fault.FrameFault.{FrameFault}
use Rattle.copy_frames.specs.declared.fault.FrameFault.TheVariants.{BadLength, FrameTooLong, OutOfMemory}
use Rattle.copy_frames.specs.declared.frame.Frame.{Frame}
use Rattle.copy_frames.specs.declared.front.Front.{Front}
use Rattle.copy_frames.specs.declared.front.Front.TheVariants.{Part, Faulty, Whole}
use Rattle.copy_frames.specs.Frames.{framed, IsFrame, sized, front, FrameCut, Rest, Bad, Then, cut_after, cut, bytes_of, frames_of, rest_of, cut_fault, after_frames}
use Rattle.copy_frames.specs.FrameLaws.{AreFrames, IsCut}
use Rattle.copy_frames.specs.WholeFrames.{length_at, IsRest, BytesAreFrames, OnlyOfThese}
use Rattle.copy_frames.proofs.CutLemmas.{cut_by_front, cuts_are_spelled, spelled_are_cut, cuts_are_whole}
use Rattle.copy_frames.proofs.PieceLemmas.{rest_after}

-- ---- what is at the front of a rest

by_test : (P : Front → Type 0) (test : Bool) (one other : Front) → (test ≡ true → P one) → (test ≡ false → P other)
    → P (if test then one else other)
by_test P true one other p q = p refl
by_test P false one other p q = q refl

abbrev Says : ℕ → List ℕ → Front → Type 0
Says limit bytes Part = IsRest limit bytes None
Says limit bytes (Faulty fault) = IsRest limit bytes (Some fault)
Says limit bytes (Whole size) = Unit {0}

sized_says : (limit : ℕ) (bytes : List ℕ) → 5 ≤ length bytes
    → Says limit bytes (sized limit (length_at bytes) (length bytes))
sized_says limit bytes five =
    let P : Front → Type 0 = Says limit bytes in
    let size : ℕ = length_at bytes in
    by_test P (nat_lt size 4) (Faulty BadLength) _ (λ small. (five, inl (ltb-true _ _ small)))
    (λ least. by_test P (nat_lt size (2 ^ 31)) _ (Faulty BadLength)
    (λ signed. by_test P (nat_lt limit size) (Faulty FrameTooLong) _
    (λ over. (five, ((ltb-false _ _ least, ltb-true _ _ signed), ltb-true _ _ over)))
    (λ within. by_test P (nat_lt (length bytes) (size + 1)) Part (Whole (size + 1))
    (λ part. let few = ltb-true (length bytes) (size + 1) part in
    inr ((ltb-false _ _ least, ltb-true _ _ signed), (ltb-false _ _ within, omega (arith, few))))
    (λ _. tt)))
    (λ large. (five, inr (ltb-false _ _ large))))

front_says : (limit : ℕ) (bytes : List ℕ) → Says limit bytes (front limit bytes)
unfolding front
front_says limit bytes =
    by_test (Says limit bytes) (nat_lt (length bytes) 5) Part (sized limit (length_at bytes) (length bytes))
    (λ few. inl (ltb-true _ _ few)) (λ five. sized_says limit bytes (ltb-false _ _ five))

-- ---- the frames that are cut

ends : (limit : ℕ) (whole : FrameCut) → IsCut limit whole → IsRest limit (rest_of whole) (cut_fault whole)
ends limit (Rest bytes) is = subst (Says limit bytes) is (front_says limit bytes)
ends limit (Bad fault bytes) is = subst (Says limit bytes) is (front_says limit bytes)
ends limit (Then frame more) is = ends limit more is.1

are_whole : (limit : ℕ) (whole : FrameCut) → IsCut limit whole → AllByRecursion (IsFrame limit) (frames_of whole)
are_whole limit (Rest bytes) is = tt
are_whole limit (Bad fault bytes) is = tt
are_whole limit (Then frame more) is = (is.0, are_whole limit more is.1)

spelled_in_turn : (whole : FrameCut) → bytes_of whole ≡ flat_map framed (frames_of whole) ++ rest_of whole
spelled_in_turn (Rest bytes) = refl
spelled_in_turn (Bad fault bytes) = refl
spelled_in_turn (Then frame more) =
    ap (λ (x : List ℕ). framed frame ++ x) (spelled_in_turn more)
    ∙ sym (append_assoc (framed frame) (flat_map framed (frames_of more)) (rest_of more))
    ∙ ap (λ (x : List ℕ). x ++ rest_of more) (sym (flat_map-cons framed frame (frames_of more)))

pub bytes_are_frames : BytesAreFrames
bytes_are_frames limit bytes small = record {
  spelled = sym (cuts_are_spelled limit bytes small) ∙ spelled_in_turn (cut limit bytes);
  whole = All-from_recursion (IsFrame limit) (frames_of (cut limit bytes))
      (are_whole limit (cut limit bytes) (cuts_are_whole limit bytes));
  rest_is = ends limit (cut limit bytes) (cuts_are_whole limit bytes);
}

-- ---- no other frames

abbrev front_for : Option FrameFault → Front
front_for None = Part
front_for (Some fault) = Faulty fault

rest_front : (limit : ℕ) (bytes : List ℕ) (fault : Option FrameFault) → IsRest limit bytes fault
    → front limit bytes ≡ front_for fault
unfolding front
rest_front limit bytes None (inl few) = rw (lt-ltb _ _ few) refl
rest_front limit bytes None (inr (size, limits)) =
    elim (cases_lt (length bytes) 5) [
      | inl few ↦ rw (lt-ltb (length bytes) 5 few) refl
      | inr five ↦ rw (
        le-ltb (length bytes) 5 five,
        le-ltb (length_at bytes) 4 size.0,
        lt-ltb (length_at bytes) (2 ^ 31) size.1,
        le-ltb limit (length_at bytes) limits.0,
        lt-ltb (length bytes) (length_at bytes + 1) (omega (arith, limits.1)),
      ) refl
    ]
rest_front limit bytes (Some BadLength) (five, inl small) =
    rw (le-ltb (length bytes) 5 five, lt-ltb (length_at bytes) 4 small) refl
rest_front limit bytes (Some BadLength) (five, inr large) =
    rw (
      le-ltb (length bytes) 5 five,
      le-ltb (length_at bytes) 4 (omega (arith, large)),
      le-ltb (length_at bytes) (2 ^ 31) large,
    ) refl
rest_front limit bytes (Some FrameTooLong) (five, (size, over)) =
    rw (
      le-ltb (length bytes) 5 five,
      le-ltb (length_at bytes) 4 size.0,
      lt-ltb (length_at bytes) (2 ^ 31) size.1,
      lt-ltb limit (length_at bytes) over,
    ) refl
rest_front limit bytes (Some OutOfMemory) is = absurd is

are_frames : (limit : ℕ) (frames : List Frame) → AllByRecursion (IsFrame limit) frames → AreFrames limit frames
are_frames limit [] all = tt
are_frames limit (frame ∷ frames) all = (all.0, are_frames limit frames all.1)

-- the end of a cut
abbrev end : Option FrameFault → List ℕ → FrameCut
end None rest = Rest rest
end (Some fault) rest = Bad fault rest

frames_of-end : (frames : List Frame) (fault : Option FrameFault) (rest : List ℕ)
    → frames_of (after_frames frames (end fault rest)) ≡ frames
frames_of-end [] None rest = refl
frames_of-end [] (Some fault) rest = refl
frames_of-end (frame ∷ frames) fault rest = ap (λ (x : List Frame). frame ∷ x) (frames_of-end frames fault rest)

rest_of-end : (fault : Option FrameFault) (rest : List ℕ) → rest_of (end fault rest) ≡ rest
rest_of-end None rest = refl
rest_of-end (Some fault) rest = refl

cut_fault-end : (frames : List Frame) (fault : Option FrameFault) (rest : List ℕ)
    → cut_fault (after_frames frames (end fault rest)) ≡ fault
cut_fault-end [] None rest = refl
cut_fault-end [] (Some fault) rest = refl
cut_fault-end (frame ∷ frames) fault rest = cut_fault-end frames fault rest

cut_after-end : (limit : ℕ) (fault : Option FrameFault) (rest : List ℕ)
    → cut_after (front_for fault) rest (cut limit) ≡ end fault rest
cut_after-end limit None rest = refl
cut_after-end limit (Some fault) rest = refl

pub only_of_these : OnlyOfThese
only_of_these limit bytes frames rest fault made =
    let all : cut limit bytes ≡ after_frames frames (end fault rest) =
    ap (cut limit) made.spelled
    ∙ spelled_are_cut limit frames rest
    (are_frames limit frames (recursion_from_All (IsFrame limit) frames made.whole))
    ∙ ap (after_frames frames)
    (cut_by_front limit rest
    ∙ ap (λ (f : Front). cut_after f rest (cut limit)) (rest_front limit rest fault made.rest_is)
    ∙ cut_after-end limit fault rest) in (
      ap frames_of all ∙ frames_of-end frames fault rest,
      (
        ap rest_of all ∙ rest_after frames (end fault rest) ∙ rest_of-end fault rest,
        ap cut_fault all ∙ cut_fault-end frames fault rest,
      ),
    )
