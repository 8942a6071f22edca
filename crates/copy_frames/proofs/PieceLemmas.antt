-- Bytes that come after others are cut into the frames of those, and then into what is made of the rest and them.
use Rattle.std.proofs.Common.{◌≡◌, ℕ, zero, suc, ◌≤◌, List, [], ◌∷◌, ◌++◌, length, drop, refl, sym, ap, ◌∙◌, arith, length-drop}
use Rattle.std.specs.Prelude.{Some, None}
use Rattle.copy_frames.specs.declared.frame.Frame.{Frame}
use Rattle.copy_frames.specs.declared.front.Front.{Front}
use Rattle.copy_frames.specs.declared.front.Front.TheVariants.{Part, Faulty, Whole}
use Rattle.copy_frames.specs.Frames.{front, frame_of, FrameCut, Rest, Bad, Then, cut_after, cut, cut_fault, frames_of, rest_of, after_frames}
use Rattle.copy_frames.proofs.FrontLemmas.{IsWhole, whole_front}
use Rattle.copy_frames.proofs.CutLemmas.{cut_by_front, cut_whole_more}

-- ---- more bytes after those that were cut

-- the frames that were cut, and then the cut of the rest and what comes after it
abbrev pub with_more : ℕ → List ℕ → FrameCut → FrameCut
with_more limit more (Rest bytes) = cut limit (bytes ++ more)
with_more limit more (Bad fault bytes) = Bad fault bytes
with_more limit more (Then frame others) = Then frame (with_more limit more others)

module _ (limit : ℕ) where
  abbrev pub CutsMore : List ℕ → List ℕ → Type 0
  CutsMore more bytes = cut_fault (cut limit bytes) ≡ None
      → cut limit (bytes ++ more) ≡ with_more limit more (cut limit bytes)

  cut_with : (bytes : List ℕ) (found : Front) → front limit bytes ≡ found
      → cut limit bytes ≡ cut_after found bytes (cut limit)
  cut_with bytes found is = cut_by_front limit bytes ∙ ap (λ f. cut_after f bytes (cut limit)) is

  front_more : (bytes more : List ℕ) (found : Front) → front limit bytes ≡ found
      → ((size : ℕ) → IsWhole limit bytes size → CutsMore more (drop size bytes)) → CutsMore more bytes
  front_more bytes more Part is later good = sym (ap (with_more limit more) (cut_with bytes Part is))
  front_more bytes more (Faulty fault) is later good =
      let wrong : cut_fault (cut limit bytes) ≡ Some fault =
      ap cut_fault (cut_with bytes (Faulty fault) is) in absurd cc
  front_more bytes more (Whole size) is later good =
      let whole : IsWhole limit bytes size = whole_front limit bytes size is in
      let all : cut limit bytes ≡ Then (frame_of size bytes) (cut limit (drop size bytes)) =
      cut_with bytes (Whole size) is in
      cut_whole_more limit bytes size whole more
      ∙ ap (Then (frame_of size bytes)) (later size whole (sym (ap cut_fault all) ∙ good))
      ∙ sym (ap (with_more limit more) all)

  cut_some_more : (n : ℕ) (bytes more : List ℕ) → length bytes ≤ n → CutsMore more bytes
  cut_some_more zero bytes more few =
      front_more bytes more (front limit bytes) refl
      (λ size whole. absurd (omega (arith, few, whole.least, whole.within)))
  cut_some_more (suc n) bytes more few =
      front_more bytes more (front limit bytes) refl
      (λ size whole. cut_some_more n (drop size bytes) more (omega (arith, few, length-drop size bytes, whole.least)))

  pub cut_more : (bytes more : List ℕ) → CutsMore more bytes
  cut_more bytes more = cut_some_more (length bytes) bytes more (omega arith)

  pub rest_with_more : (more : List ℕ) (whole : FrameCut) → cut_fault whole ≡ None
      → rest_of (with_more limit more whole) ≡ rest_of (cut limit (rest_of whole ++ more))
  rest_with_more more (Rest bytes) good = refl
  rest_with_more more (Bad fault bytes) good = absurd cc
  rest_with_more more (Then frame others) good = rest_with_more more others good

  pub more_after : (more : List ℕ) (whole : FrameCut) → cut_fault whole ≡ None
      → with_more limit more whole ≡ after_frames (frames_of whole) (cut limit (rest_of whole ++ more))
  more_after more (Rest bytes) good = refl
  more_after more (Bad fault bytes) good = absurd cc
  more_after more (Then frame others) good = ap (Then frame) (more_after more others good)

-- ---- frames before a cut

pub after_append : (first second : List Frame) (rest : FrameCut)
    → after_frames (first ++ second) rest ≡ after_frames first (after_frames second rest)
after_append [] second rest = refl
after_append (frame ∷ first) second rest = ap (Then frame) (after_append first second rest)

pub frames_before : (frames : List Frame) (rest : List ℕ) → frames_of (after_frames frames (Rest rest)) ≡ frames
frames_before [] rest = refl
frames_before (frame ∷ frames) rest = ap (λ others. frame ∷ others) (frames_before frames rest)

pub rest_after : (frames : List Frame) (last : FrameCut) → rest_of (after_frames frames last) ≡ rest_of last
rest_after [] last = refl
rest_after (frame ∷ frames) last = rest_after frames last

pub no_fault_after : (frames : List Frame) (rest : List ℕ) → cut_fault (after_frames frames (Rest rest)) ≡ None
no_fault_after [] rest = refl
no_fault_after (frame ∷ frames) rest = no_fault_after frames rest

abbrev after_both : FrameCut → FrameCut
after_both (Rest bytes) = Rest bytes
after_both (Bad fault bytes) = Bad fault bytes
after_both (Then frame more) = more

pub same_after : (frames : List Frame) (one other : FrameCut) → after_frames frames one ≡ after_frames frames other
    → one ≡ other
same_after [] one other same = same
same_after (frame ∷ frames) one other same = same_after frames one other (ap after_both same)
