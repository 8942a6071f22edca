-- How bytes are cut, by what is at their front, and what is left after whole frames.
use Rattle.std.proofs.Common.{◌≡◌, ℕ, zero, suc, ◌+◌, ◌-◌, ◌≤◌, ◌^◌, Bool, true, false, cond, List, [], ◌∷◌, ◌++◌, length, take, drop, refl, sym, ap, ◌∙◌, inl, inr, append_assoc, arith, length-append, length-drop}
use Rattle.std.specs.Prelude.{Option, Some, None, slice_index, nat_lt}
use Rattle.std.specs.Int.{from_be_bytes, w32}
use Rattle.std.specs.List.{flat_map}
use Rattle.std.proofs.lemmas.Bool.{cases_lt}
use Rattle.std.proofs.lemmas.List.{append-nil, drop-append-le, drop-drop, take-append-le, get_or_append_left, get_or-drop}
use Rattle.copy_frames.specs.declared.fault.FrameFault.{FrameFault}
use Rattle.copy_frames.specs.declared.fault.FrameFault.TheVariants.{BadLength, FrameTooLong, OutOfMemory}
use Rattle.copy_frames.specs.declared.frame.Frame.{Frame}
use Rattle.copy_frames.specs.declared.front.Front.{Front}
use Rattle.copy_frames.specs.declared.front.Front.TheVariants.{Part, Faulty, Whole}
use Rattle.copy_frames.specs.Frames.{framed, sized, front, frame_of, Rest, Bad, Then, cut_after, cut_some, cut, bytes_of, cut_fault, fault_in}
use Rattle.copy_frames.specs.FrameLaws.{AreBytes, IsCut, CutsAreSpelled, SpelledAreCut, CutsAreWhole}
use Rattle.copy_frames.specs.Inboxes.{Inbox, TakesPiece}
use Rattle.copy_frames.specs.Scans.{SpellsFrame, Tells, Reaches, Scans}
use Rattle.copy_frames.proofs.FrontLemmas.{IsWhole, whole_front, front_whole, whole_more, spelled_whole, allowed_whole, framed_whole, frame_of-framed, drop-framed}

nothing_is_part : (limit : ℕ) → front limit [] ≡ Part
unfolding front
nothing_is_part limit = refl

-- how many frames are allowed does not matter, if there are as many as bytes
enough : (limit a b : ℕ) (bytes : List ℕ) → length bytes ≤ a → length bytes ≤ b
    → cut_some limit a bytes ≡ cut_some limit b bytes
enough limit zero zero bytes below above = refl
enough limit zero (suc b) [] below above = rw (nothing_is_part limit) refl
enough limit zero (suc b) (byte ∷ bytes) below above = absurd (omega arith)
enough limit (suc a) zero [] below above = rw (nothing_is_part limit) refl
enough limit (suc a) zero (byte ∷ bytes) below above = absurd (omega arith)
enough limit (suc a) (suc b) bytes below above =
    elim (front limit bytes) as
    (λ f. front limit bytes ≡ f → cut_after f bytes (cut_some limit a) ≡ cut_after f bytes (cut_some limit b)) [
      | Part ↦ (λ e. refl)
      | Faulty fault ↦ (λ e. refl)
      | Whole size ↦ (λ e.
          let w : IsWhole limit bytes size = whole_front limit bytes size e in
          ap (Then (frame_of size bytes))
          (enough limit a b (drop size bytes) (omega (arith, length-drop size bytes, w.least))
          (omega (arith, length-drop size bytes, w.least))))
    ] refl

pub cut_by_front : (limit : ℕ) (bytes : List ℕ) → cut limit bytes ≡ cut_after (front limit bytes) bytes (cut limit)
unfolding cut
cut_by_front limit [] = rw (nothing_is_part limit) refl
cut_by_front limit (byte ∷ bytes) =
    let all : List ℕ = byte ∷ bytes in
    elim (front limit (byte ∷ bytes)) as
    (λ f. front limit (byte ∷ bytes) ≡ f
    → cut_after f (byte ∷ bytes) (cut_some limit (length bytes)) ≡ cut_after f (byte ∷ bytes) (cut limit)) [
      | Part ↦ (λ e. refl)
      | Faulty fault ↦ (λ e. refl)
      | Whole size ↦ (λ e.
          let w : IsWhole limit (byte ∷ bytes) size = whole_front limit (byte ∷ bytes) size e in
          ap (Then (frame_of size (byte ∷ bytes)))
          (enough limit (length bytes) (length (drop size (byte ∷ bytes))) (drop size (byte ∷ bytes))
          (omega (arith, length-drop size (byte ∷ bytes), w.least)) (omega arith)))
    ] refl

pub cut_whole : (limit : ℕ) (bytes : List ℕ) (size : ℕ) → IsWhole limit bytes size
    → cut limit bytes ≡ Then (frame_of size bytes) (cut limit (drop size bytes))
cut_whole limit bytes size w = cut_by_front limit bytes
    ∙ ap (λ f. cut_after f bytes (cut limit)) (front_whole limit bytes size w)

frame : ℕ → List ℕ → Frame
frame kind body = record { kind = kind; body = body }

frame_of-more : (limit : ℕ) (bytes : List ℕ) (size : ℕ) (more : List ℕ) → IsWhole limit bytes size
    → frame_of size (bytes ++ more) ≡ frame_of size bytes
unfolding frame
frame_of-more limit bytes size more w =
    ap (λ kind. frame kind (drop 5 (take size (bytes ++ more))))
    (get_or_append_left bytes more 0 0 (omega (arith, w.least, w.within)))
    ∙ ap (λ front. frame (slice_index bytes 0) (drop 5 front)) (take-append-le size bytes more w.within)

pub cut_whole_more : (limit : ℕ) (bytes : List ℕ) (size : ℕ) → IsWhole limit bytes size → (more : List ℕ)
    → cut limit (bytes ++ more) ≡ Then (frame_of size bytes) (cut limit (drop size bytes ++ more))
cut_whole_more limit bytes size w more =
    cut_whole limit (bytes ++ more) size (whole_more limit bytes size more w)
    ∙ ap (λ frame. Then frame (cut limit (drop size (bytes ++ more)))) (frame_of-more limit bytes size more w)
    ∙ ap (λ rest. Then (frame_of size bytes) (cut limit rest)) (drop-append-le size bytes more w.within)

-- what the front says of all the bytes
pub front_tells : (limit : ℕ) (bytes : List ℕ) (found : Front) → AreBytes bytes → found ≡ front limit bytes
    → Tells limit bytes found
front_tells limit bytes Part small e = cut_by_front limit bytes ∙ ap (λ f. cut_after f bytes (cut limit)) (sym e)
front_tells limit bytes (Faulty fault) small e = cut_by_front limit bytes
    ∙ ap (λ f. cut_after f bytes (cut limit)) (sym e)
front_tells limit bytes (Whole size) small e =
    let w : IsWhole limit bytes size = whole_front limit bytes size (sym e) in
    record {
      least = w.least;
      within = w.within;
      allowed = allowed_whole limit bytes size w;
      spelled = spelled_whole limit bytes size small w;
      cuts = cut_whole_more limit bytes size w;
    }

-- ---- a look through the bytes

pub reaches_start : (limit : ℕ) (bytes : List ℕ) → Reaches limit bytes 0
reaches_start limit bytes = record { within = omega arith; same = λ more. refl }

pub reaches_on : (limit : ℕ) (bytes : List ℕ) (at size : ℕ) → Reaches limit bytes at
    → SpellsFrame limit (drop at bytes) size → Reaches limit bytes (at + size)
reaches_on limit bytes at size reached here = record {
  within = omega (arith, here.within, reached.within, length-drop at bytes);
  same = λ more. reached.same more ∙ ap cut_fault (here.cuts more)
      ∙ ap (λ rest. fault_in limit (rest ++ more)) (drop-drop size at bytes);
}

scan_ends : (limit : ℕ) (bytes : List ℕ) (at : ℕ) (fault : Option FrameFault) → Reaches limit bytes at
    → fault ≡ fault_in limit (drop at bytes) → Scans limit bytes (at, fault)
scan_ends limit bytes at fault reached e = record {
  reaches = reached;
  fault = e ∙ sym (ap (fault_in limit) (sym (append-nil bytes)) ∙ reached.same []
      ∙ ap (fault_in limit) (append-nil (drop at bytes)));
}

pub scan_ends_part : (limit : ℕ) (bytes : List ℕ) (at : ℕ) (rest : List ℕ) → Reaches limit bytes at
    → rest ≡ drop at bytes
    → cut limit rest ≡ Rest rest → Scans limit bytes (at, None)
scan_ends_part limit bytes at rest reached is e =
    scan_ends limit bytes at None reached (sym (ap cut_fault e) ∙ ap (fault_in limit) is)

pub scan_ends_fault : (limit : ℕ) (bytes : List ℕ) (at : ℕ) (rest : List ℕ) (fault : FrameFault)
    → Reaches limit bytes at → rest ≡ drop at bytes
    → cut limit rest ≡ Bad fault rest → Scans limit bytes (at, Some fault)
scan_ends_fault limit bytes at rest fault reached is e =
    scan_ends limit bytes at (Some fault) reached (sym (ap cut_fault e) ∙ ap (fault_in limit) is)

pub reaches_more : (limit : ℕ) (bytes piece : List ℕ) (at : ℕ) → Reaches limit bytes at
    → Reaches limit (bytes ++ piece) at
reaches_more limit bytes piece at reached = record {
  within = omega (arith, reached.within, length-append bytes piece);
  same = λ more. ap (fault_in limit) (append_assoc bytes piece more) ∙ reached.same (piece ++ more)
      ∙ ap (fault_in limit) (sym (append_assoc (drop at bytes) piece more))
      ∙ ap (λ xs. fault_in limit (xs ++ more)) (sym (drop-append-le at bytes piece reached.within));
}

-- after the first frame was returned
pub reaches_rest : (limit : ℕ) (bytes : List ℕ) (size whole : ℕ) → SpellsFrame limit bytes size
    → Reaches limit bytes whole → Reaches limit (drop size bytes) (whole - size)
reaches_rest limit bytes size whole here reached = elim (cases_lt whole size) [
  | inl less ↦ (let none : whole - size ≡ 0 = omega arith in rw none (reaches_start limit (drop size bytes)))
  | inr more ↦ record {
    within = omega (arith, reached.within, length-drop size bytes);
    same = λ later.
        let place : size + (whole - size) ≡ whole = omega arith in
        sym (ap cut_fault (here.cuts later)) ∙ reached.same later
        ∙ ap (λ rest. fault_in limit (rest ++ later))
        (ap (λ n. drop n bytes) (sym place) ∙ sym (drop-drop (whole - size) size bytes));
  }
]

-- ---- the cut of all the bytes

spelled_some : (limit n : ℕ) (bytes : List ℕ) → AreBytes bytes → bytes_of (cut_some limit n bytes) ≡ bytes
spelled_some limit zero bytes small = refl
spelled_some limit (suc n) bytes small =
    elim (front limit bytes) as (λ f. front limit bytes ≡ f → bytes_of (cut_after f bytes (cut_some limit n)) ≡ bytes) [
      | Part ↦ (λ e. refl)
      | Faulty fault ↦ (λ e. refl)
      | Whole size ↦ (λ e.
          let w : IsWhole limit bytes size = whole_front limit bytes size e in
          ap (λ rest. framed (frame_of size bytes) ++ rest)
          (spelled_some limit n (drop size bytes) (λ i. rw (get_or-drop size bytes i 0) (small (size + i))))
          ∙ sym (spelled_whole limit bytes size small w))
    ] refl

pub cuts_are_spelled : CutsAreSpelled
unfolding cut
cuts_are_spelled limit bytes small = spelled_some limit (length bytes) bytes small

pub spelled_are_cut : SpelledAreCut
spelled_are_cut limit [] rest allowed = refl
spelled_are_cut limit (frame ∷ frames) rest allowed =
    let later : List ℕ = flat_map framed frames ++ rest in
    ap (cut limit) (append_assoc (framed frame) (flat_map framed frames) rest)
    ∙ cut_whole limit (framed frame ++ later) (length frame.body + 5) (framed_whole limit frame later allowed.0)
    ∙ ap (λ first. Then first (cut limit (drop (length frame.body + 5) (framed frame ++ later))))
    (frame_of-framed frame later)
    ∙ ap (λ bytes. Then frame (cut limit bytes)) (drop-framed frame later)
    ∙ ap (Then frame) (spelled_are_cut limit frames rest allowed.1)

whole_some : (limit n : ℕ) (bytes : List ℕ) → length bytes ≤ n → IsCut limit (cut_some limit n bytes)
whole_some limit zero [] few = nothing_is_part limit
whole_some limit zero (byte ∷ bytes) few = absurd (omega arith)
whole_some limit (suc n) bytes few =
    elim (front limit bytes) as (λ f. front limit bytes ≡ f → IsCut limit (cut_after f bytes (cut_some limit n))) [
      | Part ↦ (λ e. e)
      | Faulty fault ↦ (λ e. e)
      | Whole size ↦ (λ e.
          let w : IsWhole limit bytes size = whole_front limit bytes size e in (
            allowed_whole limit bytes size w,
            whole_some limit n (drop size bytes) (omega (arith, length-drop size bytes, w.least)),
          ))
    ] refl

pub cuts_are_whole : CutsAreWhole
unfolding cut
cuts_are_whole limit bytes = whole_some limit (length bytes) bytes (omega arith)

-- ---- a length is never reported as out of memory

length_faults : (small signed long part : Bool) (size : ℕ)
    → cond small (Faulty BadLength)
    (cond signed (cond long (Faulty FrameTooLong) (cond part Part (Whole size))) (Faulty BadLength))
    ≡ Faulty OutOfMemory → ⊥
length_faults true signed long part size h = cc
length_faults false false long part size h = cc
length_faults false true true part size h = cc
length_faults false true false true size h = cc
length_faults false true false false size h = cc

number_faults : (limit size there : ℕ) → sized limit size there ≡ Faulty OutOfMemory → ⊥
number_faults limit size there h =
    length_faults (nat_lt size 4) (nat_lt size (2 ^ 31)) (nat_lt limit size) (nat_lt there (size + 1)) (size + 1) h

front_faults : (limit : ℕ) (bytes : List ℕ) → front limit bytes ≡ Faulty OutOfMemory → ⊥
unfolding front
front_faults limit bytes h =
    elim (nat_lt (length bytes) 5) as
    (λ b. cond b Part (sized limit (from_be_bytes w32 (take 4 (drop 1 bytes))) (length bytes))
    ≡ Faulty OutOfMemory → ⊥) [
      | true ↦ (λ h. cc)
      | false ↦ (λ h. number_faults limit (from_be_bytes w32 (take 4 (drop 1 bytes))) (length bytes) h)
    ] h

some_faults : (limit n : ℕ) (bytes : List ℕ) → cut_fault (cut_some limit n bytes) ≡ Some OutOfMemory → ⊥
some_faults limit zero bytes h = cc
some_faults limit (suc n) bytes h =
    elim (front limit bytes) as
    (λ f. front limit bytes ≡ f → cut_fault (cut_after f bytes (cut_some limit n)) ≡ Some OutOfMemory → ⊥) [
      | Part ↦ (λ e h. cc)
      | Faulty fault ↦ (λ e h. let same : fault ≡ OutOfMemory = cc in front_faults limit bytes (e ∙ ap Faulty same))
      | Whole size ↦ (λ e h. some_faults limit n (drop size bytes) h)
    ] refl h

faults : (limit : ℕ) (bytes : List ℕ) → fault_in limit bytes ≡ Some OutOfMemory → ⊥
unfolding cut
faults limit bytes h = some_faults limit (length bytes) bytes h

inbox : Inbox → List ℕ → Option FrameFault → Inbox
inbox old piece fault = record { limit = old.limit; bytes = old.bytes ++ piece; fault = fault }

pub piece_is_kept : (old : Inbox) (piece : List ℕ) (fault : Option FrameFault)
    → fault ≡ fault_in old.limit (old.bytes ++ piece)
    → TakesPiece None fault old piece (record { limit = old.limit; bytes = old.bytes ++ piece; fault = fault })
unfolding inbox
piece_is_kept old piece None e = ap (inbox old piece) e
piece_is_kept old piece (Some BadLength) e = ap (inbox old piece) e
piece_is_kept old piece (Some FrameTooLong) e = ap (inbox old piece) e
piece_is_kept old piece (Some OutOfMemory) e = absurd (faults old.limit (old.bytes ++ piece) (sym e))

pub ruleset scan_turns = (scan_ends_part, scan_ends_fault, reaches_on)

pub ruleset cut_laws = (cuts_are_spelled, spelled_are_cut, cuts_are_whole)
