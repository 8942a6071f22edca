-- What a whole frame at the front says about the bytes.
use Rattle.std.proofs.Common.{◌≡◌, ℕ, ◌+◌, ◌<◌, ◌≤◌, ◌^◌, Bool, true, false, cond, List, [], ◌∷◌, ◌++◌, length, take, drop, get_or, refl, sym, ap, ◌∙◌, inl, inr, arith, length-append, length-drop}
use Rattle.std.specs.Prelude.{nat_lt, slice_index}
use Rattle.std.specs.Int.{from_be_bytes, to_be_bytes, w32}
use Rattle.std.proofs.lemmas.Bool.{ltb-true, ltb-false, lt-ltb, cases_lt}
use Rattle.std.proofs.lemmas.List.{take-append-drop, take-append-le, drop-append-le, take-take, take_at, drop_at, length-take, length-take-le, get_or-take, get_or-drop, get_or_past}
use Rattle.std.proofs.lemmas.Nat.{be_bytes_4, from_be_bytes-to_be_bytes_4}
use Rattle.copy_frames.specs.declared.fault.FrameFault.TheVariants.{BadLength, FrameTooLong}
use Rattle.copy_frames.specs.declared.frame.Frame.{Frame}
use Rattle.copy_frames.specs.declared.front.Front.TheVariants.{Part, Faulty, Whole}
use Rattle.copy_frames.specs.Frames.{framed, IsFrame, sized, front, frame_of}

-- the first frame is whole, and of this many bytes
pub record IsWhole (limit : ℕ) (bytes : List ℕ) (size : ℕ) : Type 0 where
  pub least : 5 ≤ size
  pub within : size ≤ length bytes
  pub number : from_be_bytes w32 (take 4 (drop 1 bytes)) + 1 ≡ size
  pub allowed : size ≤ limit + 1
  pub signed : size ≤ 2 ^ 31

-- a length that makes a whole frame passes each test
pub record Passes (small signed long part : Bool) (size n : ℕ) : Type 0 where
  pub not_small : small ≡ false
  pub is_signed : signed ≡ true
  pub not_long : long ≡ false
  pub not_part : part ≡ false
  pub is : size ≡ n

passes : (small signed long part : Bool) (size n : ℕ)
    → cond small (Faulty BadLength)
    (cond signed (cond long (Faulty FrameTooLong) (cond part Part (Whole size))) (Faulty BadLength)) ≡ Whole n
    → Passes small signed long part size n
passes true signed long part size n h = absurd cc
passes false false long part size n h = absurd cc
passes false true true part size n h = absurd cc
passes false true false true size n h = absurd cc
passes false true false false size n h =
    record { not_small = refl; is_signed = refl; not_long = refl; not_part = refl; is = cc }

pub whole_front : (limit : ℕ) (bytes : List ℕ) (size : ℕ) → front limit bytes ≡ Whole size → IsWhole limit bytes size
unfolding front
whole_front limit bytes size h =
    let number : ℕ = from_be_bytes w32 (take 4 (drop 1 bytes)) in
    elim (nat_lt (length bytes) 5) as
    (λ b. cond b Part (sized limit (from_be_bytes w32 (take 4 (drop 1 bytes))) (length bytes)) ≡ Whole size
    → IsWhole limit bytes size) [
      | true ↦ (λ h. absurd cc)
      | false ↦ (λ h.
          let p : Passes (nat_lt number 4) (nat_lt number (2 ^ 31)) (nat_lt limit number)
          (nat_lt (length bytes) (number + 1)) (number + 1) size = passes _ _ _ _ _ _ h in
          let a : 4 ≤ number = ltb-false _ _ p.not_small in
          let b : number < 2 ^ 31 = ltb-true _ _ p.is_signed in
          let c : number ≤ limit = ltb-false _ _ p.not_long in
          let d : number + 1 ≤ length bytes = ltb-false _ _ p.not_part in
          let e : number + 1 ≡ size = p.is in
          record { least = omega arith; within = omega arith; number = e; allowed = omega arith; signed = omega arith })
    ] h

false_lt : (a b : ℕ) → b ≤ a → nat_lt a b ≡ false
false_lt a b h = elim (nat_lt a b) as (λ v. nat_lt a b ≡ v → v ≡ false)
    [ true ↦ (λ e. absurd (omega (arith, ltb-true a b e))) | false ↦ (λ e. refl) ] refl

pub front_whole : (limit : ℕ) (bytes : List ℕ) (size : ℕ) → IsWhole limit bytes size → front limit bytes ≡ Whole size
unfolding front
front_whole limit bytes size w =
    let number : ℕ = from_be_bytes w32 (take 4 (drop 1 bytes)) in
    let e : number + 1 ≡ size = w.number in
    rw (
      false_lt (length bytes) 5 (omega arith),
      false_lt number 4 (omega arith),
      lt-ltb number (2 ^ 31) (omega arith),
      false_lt limit number (omega arith),
      false_lt (length bytes) (number + 1) (omega arith),
      e,
    ) refl

pub whole_more : (limit : ℕ) (bytes : List ℕ) (size : ℕ) (more : List ℕ) → IsWhole limit bytes size
    → IsWhole limit (bytes ++ more) size
whole_more limit bytes size more w =
    let five : 5 ≤ length bytes = omega arith in
    let same : take 4 (drop 1 (bytes ++ more)) ≡ take 4 (drop 1 bytes) =
    ap (take 4) (drop-append-le 1 bytes more (omega arith))
    ∙ take-append-le 4 (drop 1 bytes) more (omega (arith, length-drop 1 bytes)) in
    record {
      least = w.least;
      within = omega (arith, length-append bytes more);
      number = rw same w.number;
      allowed = w.allowed;
      signed = w.signed;
    }

pub length_body : (limit : ℕ) (bytes : List ℕ) (size : ℕ) → IsWhole limit bytes size
    → length (drop 5 (take size bytes)) + 5 ≡ size
length_body limit bytes size w = omega (arith, length-drop 5 (take size bytes), length-take-le size bytes w.within)

-- the length of the frame is the number in its head
number_is : (limit : ℕ) (bytes : List ℕ) (size : ℕ) → IsWhole limit bytes size
    → length (drop 5 (take size bytes)) + 4 ≡ from_be_bytes w32 (take 4 (drop 1 bytes))
number_is limit bytes size w = omega (arith, length_body limit bytes size w, w.number)

head_is : (bytes : List ℕ) → 5 ≤ length bytes → slice_index bytes 0 ∷ take 4 (drop 1 bytes) ≡ take 5 bytes
head_is [] h = absurd (omega arith)
head_is (byte ∷ bytes) h = refl

byte_within : (bytes : List ℕ) → ((i : ℕ) → slice_index bytes i < 256) → (i : ℕ)
    → get_or (take 4 (drop 1 bytes)) i 0 < 256
byte_within bytes small i = elim (cases_lt i 4) [
  | inl below ↦ rw (get_or-take 4 (drop 1 bytes) i 0 below, get_or-drop 1 bytes i 0) (small (1 + i))
  | inr above ↦ rw (get_or_past (take 4 (drop 1 bytes)) i 0 (omega (arith, length-take 4 (drop 1 bytes)))) (omega arith)
]

pub spelled_whole : (limit : ℕ) (bytes : List ℕ) (size : ℕ) → ((i : ℕ) → slice_index bytes i < 256)
    → IsWhole limit bytes size
    → bytes ≡ framed (frame_of size bytes) ++ drop size bytes
spelled_whole limit bytes size small w =
    let digits : to_be_bytes w32 (length (drop 5 (take size bytes)) + 4) ≡ take 4 (drop 1 bytes) =
    be_bytes_4 (take 4 (drop 1 bytes)) _
    (omega (arith, length-take-le 4 (drop 1 bytes) (omega (arith, length-drop 1 bytes, w.least, w.within))))
    (byte_within bytes small) (number_is limit bytes size w) in
    let front : framed (frame_of size bytes) ≡ take size bytes =
    ap (λ number. slice_index bytes 0 ∷ (number ++ drop 5 (take size bytes))) digits
    ∙ ap (λ head. head ++ drop 5 (take size bytes))
    (head_is bytes (omega (arith, w.least, w.within)) ∙ sym (take-take 5 size bytes w.least))
    ∙ take-append-drop 5 (take size bytes) in
    sym (take-append-drop size bytes) ∙ ap (λ xs. xs ++ drop size bytes) (sym front)

pub allowed_whole : (limit : ℕ) (bytes : List ℕ) (size : ℕ) → IsWhole limit bytes size
    → IsFrame limit (frame_of size bytes)
allowed_whole limit bytes size w =
    let body : length (drop 5 (take size bytes)) + 5 ≡ size = length_body limit bytes size w in
    record { within = omega arith; signed = omega arith }

-- a frame that is spelled is whole, whatever comes after it
pub framed_whole : (limit : ℕ) (frame : Frame) (rest : List ℕ) → IsFrame limit frame
    → IsWhole limit (framed frame ++ rest) (length frame.body + 5)
framed_whole limit frame rest allowed =
    let size : ℕ = length frame.body + 4 in
    let four : length (to_be_bytes w32 size) ≡ 4 = refl in
    let digits : take 4 (drop 1 (framed frame ++ rest)) ≡ to_be_bytes w32 size = refl in
    let read : from_be_bytes w32 (take 4 (drop 1 (framed frame ++ rest))) ≡ size =
    ap (from_be_bytes w32) digits ∙ from_be_bytes-to_be_bytes_4 size (omega (arith, allowed.signed)) in
    record {
      least = omega arith;
      within = omega (arith, length-append (framed frame) rest, length-append (to_be_bytes w32 size) frame.body);
      number = omega (arith, read);
      allowed = omega (arith, allowed.within);
      signed = omega (arith, allowed.signed);
    }

pub frame_of-framed : (frame : Frame) (rest : List ℕ) → frame_of (length frame.body + 5) (framed frame ++ rest) ≡ frame
frame_of-framed frame rest =
    let five : length (framed frame) ≡ length frame.body + 5 =
    omega (arith, length-append (to_be_bytes w32 (length frame.body + 4)) frame.body) in
    let front : take (length frame.body + 5) (framed frame ++ rest) ≡ framed frame =
    take_at (framed frame) rest _ five in
    ap (λ bytes. record { kind = frame.kind; body = drop 5 bytes }) front

pub drop-framed : (frame : Frame) (rest : List ℕ) → drop (length frame.body + 5) (framed frame ++ rest) ≡ rest
drop-framed frame rest =
    drop_at (framed frame) rest _ (omega (arith, length-append (to_be_bytes w32 (length frame.body + 4)) frame.body))
