-- Where the fields of a message are not read.
use Rattle.std.proofs.Common.{◌≡◌, ℕ, ◌+◌, ◌^◌, ◌<◌, ◌≤◌, Bool, true, false, cond, List, [], ◌∷◌, ◌++◌, length, get_or, take, drop, Option, Some, None, Ok, Err, refl, sym, ap, subst, ◌∙◌, append_assoc, append-nil, arith, inl, inr}
use Rattle.std.specs.Prelude.{nat_lt, if◌then◌else◌, replicate, slice_index}
use Rattle.std.specs.Int.{Width, w16, w32, byte_len, from_be_bytes, to_be_bytes}
use Rattle.std.specs.List.{position, position_or_len}
use Rattle.std.specs.Str.{IsUtf8, is_utf8}
use Rattle.std.proofs.lemmas.Bool.{cases_lt, ltb-true, ltb-false, lt-ltb, eqb-false}
use Rattle.std.proofs.lemmas.List.{nil_from_length, take_at, length-replicate, get_or-replicate, get_or_past}
use Rattle.std.proofs.lemmas.List.Sums.{fails_before_first}
use Rattle.std.proofs.lemmas.Str.{is_utf8-from_IsUtf8, IsUtf8-from_ascii, IsUtf8-take, IsCharBoundary-at_seam, IsUtf8-nil}
use Rattle.pgoutput_msgs.specs.declared.error.MsgError.{MsgError}
use Rattle.pgoutput_msgs.specs.declared.error.MsgError.TheVariants.{Short, BadCount, BadText}
use Rattle.pgoutput_msgs.specs.Faults.{IsNegative}
use Rattle.pgoutput_msgs.specs.Ranges.{IsName}
use Rattle.pgoutput_msgs.specs.Reading.{Outcome, Rule, pure, ◌>>=◌, and_then, if_passed, byte, some, big_endian, count16, count32, cut_at, up_to_zero, utf8_text, string_at, text_at}
use Rattle.pgoutput_msgs.specs.Spelling.{int8, int16, int32, string}
use Rattle.pgoutput_msgs.proofs.Exact.{Exact, exact_then}
use Rattle.pgoutput_msgs.proofs.Fields.{NoZero, is_zero, exact_int16, exact_int32, exact_count32, exact_some, exact_up_to_zero, sized}
use Rattle.pgoutput_msgs.proofs.Stopping.{Stops, Halts, no_fault, one_failed, mapped_failed, halts_then, stops_whole}

-- ---- a byte

pub halts_byte : (Fits : ℕ → Type 0) → Fits 0 → Halts byte int8 Fits
unfolding byte
halts_byte Fits fits = record {
  value = 0;
  fits = fits;
  stops = λ bytes fault _ e.
      elim bytes as (λ x. byte x ≡ Err fault → Stops byte int8 Fits x fault) [
        | [] ↦ λ failure. inr (record {
          before = [];
          part = [];
          bytes_are = refl;
          begun = record { value = 0; rest = int8 0; fits = fits; spelled = refl };
          fault_is = cc;
          lacks = inl (λ x small. ap byte (nil_from_length x (omega (arith, small))));
        })
        | (first ∷ rest) ↦ λ failure. absurd (no_fault first rest fault failure)
      ] e;
}

-- ---- a number of bytes

chosen : {A : Type 0} (test : Bool) (a : A) (rest : List ℕ) (fault : MsgError)
    → (let outcome : Outcome A = if test then Err Short else Ok (a, rest) in outcome ≡ Err fault)
    → (test ≡ true) × (fault ≡ Short)
chosen true a rest fault e = (refl, cc)
chosen false a rest fault e = absurd (no_fault a rest fault e)

some_failed : (n : ℕ) (bytes : List ℕ) (fault : MsgError) → some n bytes ≡ Err fault
    → (length bytes < n) × (fault ≡ Short)
unfolding some
some_failed n bytes fault e =
    let found = chosen (nat_lt (length bytes) n) (take n bytes) (drop n bytes) fault e in
    (ltb-true _ _ found.0, found.1)

some_short : (n : ℕ) (bytes : List ℕ) → length bytes < n → some n bytes ≡ Err Short
unfolding some
some_short n bytes few = rw (lt-ltb _ _ few) refl

-- a rule that reads this number of bytes
pub halts_short : {A : Type 0} (rule : Rule A) (n : ℕ) (spell : A → List ℕ) (Fits : A → Type 0) (a : A) → Fits a
    → ((bytes : List ℕ) → length bytes < n → rule bytes ≡ Err Short)
    → ((bytes : List ℕ) (fault : MsgError) → rule bytes ≡ Err fault → (length bytes < n) × (fault ≡ Short))
    → Halts rule spell Fits
halts_short rule n spell Fits a fits short fails = record {
  value = a;
  fits = fits;
  stops = λ bytes fault _ e.
      let found = fails bytes fault e in
      inr (record {
        before = [];
        part = bytes;
        bytes_are = refl;
        begun = record { value = a; rest = spell a; fits = fits; spelled = refl };
        fault_is = found.1;
        lacks = inl (λ x small. short x (omega (arith, small, found.0)));
      });
}

zeros_below : (n i : ℕ) → slice_index (replicate n 0) i < 128
zeros_below n i =
    elim (cases_lt i n) [
      | inl lt ↦ rw (get_or-replicate {A = ℕ} n i 0 0 lt) (omega arith)
      | inr le ↦
          rw (get_or_past {X = ℕ} (replicate n 0) i 0 (omega (arith, length-replicate {A = ℕ} n 0, le))) (omega arith)
    ]

zeros_are_text : (n : ℕ) → IsUtf8 (replicate n 0)
zeros_are_text n = IsUtf8-from_ascii (replicate n 0) (zeros_below n)

pub halts_some : (n : ℕ) → Halts (some n) (λ x. x) (λ text. (length text ≡ n) × IsUtf8 text)
halts_some n = halts_short (some n) n (λ x. x) (λ text. (length text ≡ n) × IsUtf8 text) (replicate n 0)
    (length-replicate n 0, zeros_are_text n) (some_short n) (some_failed n)

-- ---- numbers

pub halts_number : (w : Width) (Fits : ℕ → Type 0) → Fits 0 → Halts (big_endian w) (to_be_bytes w) Fits
unfolding big_endian
halts_number w Fits fits = halts_short (big_endian w) (byte_len w) (to_be_bytes w) Fits 0 fits
    (λ bytes few. ap (λ (outcome : Outcome (List ℕ)). and_then outcome (λ x. pure (from_be_bytes w x)))
    (some_short (byte_len w) bytes few))
    (λ bytes fault e. some_failed (byte_len w) bytes fault
    (mapped_failed (from_be_bytes w) (some (byte_len w) bytes) fault e))

untested : {A : Type 0} (test : Bool) (fault other : MsgError) (a : A) (bytes : List ℕ)
    → if_passed test fault a bytes ≡ Err other → (test ≡ false) × (fault ≡ other)
untested true fault other a bytes e = absurd (no_fault a bytes other e)
untested false fault other a bytes e = (refl, cc)

-- a count that is negative
count_halts : (w : Width) (limit most : ℕ)
    → Exact (big_endian w) (to_be_bytes w) (λ n. n < most)
    → ((n : ℕ) → limit ≤ n → n < most → IsNegative (to_be_bytes w n)) → 0 < limit
    → Halts (big_endian w >>= (λ n. if_passed (nat_lt n limit) BadCount n)) (to_be_bytes w) (λ n. n < limit)
count_halts w limit most exact negative positive =
    let rule : Rule ℕ = big_endian w >>= (λ n. if_passed (nat_lt n limit) BadCount n) in
    let number = halts_number w (λ n. n < limit) positive in
    record {
      value = 0;
      fits = positive;
      stops = λ bytes fault is_bytes e.
          elim (one_failed (big_endian w bytes) (λ n. if_passed (nat_lt n limit) BadCount n) fault e) [
            | inl first ↦ stops_whole (big_endian w) (to_be_bytes w) (λ n. n < limit) rule (to_be_bytes w)
                (λ n. n < limit) []
                (λ n fits. record {
                  value = n;
                  tail = [];
                  fits = fits;
                  spelled = sym (append-nil (to_be_bytes w n));
                })
                (λ x f g. ap (λ (outcome : Outcome ℕ).
                and_then outcome (λ n. if_passed (nat_lt n limit) BadCount n)) g)
                bytes fault (number.stops bytes fault is_bytes first)
            | inr s ↦
                let t = exact.takes bytes s.value s.middle is_bytes s.first in
                let u = untested (nat_lt s.value limit) BadCount fault s.value s.middle s.second in
                subst (λ (f : MsgError). Stops rule (to_be_bytes w) (λ n. n < limit) bytes f) u.1
                (inl (record {
                  before = [];
                  field = to_be_bytes w s.value;
                  after = s.middle;
                  bytes_are = t.spelled;
                  begun = record { value = 0; rest = to_be_bytes w 0; fits = positive; spelled = refl };
                  is_bad = negative s.value (ltb-false _ _ u.0) t.fits;
                  stays = λ more.
                      ap (λ (outcome : Outcome ℕ). and_then outcome (λ n. if_passed (nat_lt n limit) BadCount n))
                      (exact.again s.value more t.fits)
                      ∙ ap (λ (test : Bool). if_passed test BadCount s.value more) u.0;
                }))
          ];
    }

pub halts_count16 : Halts count16 int16 (λ n. n < 2 ^ 15)
unfolding count16
halts_count16 = count_halts w16 (2 ^ 15) (2 ^ 16) exact_int16
    (λ n large small. record { sign = omega (arith, large, small); width = inl refl }) (omega arith)

pub halts_count32 : Halts count32 int32 (λ n. n < 2 ^ 31)
unfolding count32
halts_count32 = count_halts w32 (2 ^ 31) (2 ^ 32) exact_int32
    (λ n large small. record { sign = omega (arith, large, small); width = inr refl }) (omega arith)

-- ---- texts

text_failed : (text rest : List ℕ) (fault : MsgError) → utf8_text text rest ≡ Err fault
    → (is_utf8 text ≡ false) × (BadText ≡ fault)
unfolding utf8_text
text_failed text rest fault e = untested (is_utf8 text) BadText fault text rest e

text_fails : (text rest : List ℕ) → is_utf8 text ≡ false → utf8_text text rest ≡ Err BadText
unfolding utf8_text
text_fails text rest e = ap (λ (test : Bool). if_passed test BadText text rest) e

not_true : (b : Bool) → b ≡ false → b ≡ true → ⊥
not_true b e f = absurd cc

not_text : (text : List ℕ) → is_utf8 text ≡ false → ¬ IsUtf8 text
not_text text e is = not_true (is_utf8 text) e (is_utf8-from_IsUtf8 text is)

-- a zero byte ends a character
not_string : (text : List ℕ) → is_utf8 text ≡ false → ¬ IsUtf8 (string text)
not_string text e is =
    not_text text e (subst IsUtf8 (take_at text (0 ∷ []) (length text) refl)
    (IsUtf8-take (string text) (length text) is
    (IsCharBoundary-at_seam (string text) text (0 ∷ []) refl (IsUtf8-from_ascii (0 ∷ []) (zeros_below 1)))))

no_place : (test : Bool) (n : ℕ) → (let found : Option ℕ = cond test (Some n) None in found ≡ None) → test ≡ false
no_place true n e = absurd cc
no_place false n e = refl

no_zero : (bytes : List ℕ) → position is_zero bytes ≡ None → NoZero bytes
no_zero bytes e contains =
    let all : length bytes ≤ position_or_len is_zero bytes =
    ltb-false _ _ (no_place (nat_lt (position_or_len is_zero bytes) (length bytes)) _ e) in
    eqb-false (get_or bytes contains.0 0) 0
    (fails_before_first is_zero bytes contains.0 0 (omega (arith, contains.1, all))) contains.2

not_cut : (found : Option ℕ) (bytes : List ℕ) (fault : MsgError) → cut_at found bytes ≡ Err fault
    → (found ≡ None) × (fault ≡ Short)
not_cut None bytes fault e = (refl, cc)
not_cut (Some place) bytes fault e = absurd (no_fault (take place bytes) (drop (place + 1) bytes) fault e)

not_ended : (bytes : List ℕ) (fault : MsgError) → up_to_zero bytes ≡ Err fault → NoZero bytes × (fault ≡ Short)
unfolding up_to_zero
not_ended bytes fault e =
    let found = not_cut (position is_zero bytes) bytes fault e in
    (no_zero bytes found.0, found.1)

no_name : IsName []
no_name = record { is_text = IsUtf8-nil; no_zero = λ contains. omega (arith, contains.1) }

pub halts_string : Halts string_at string IsName
unfolding string_at
halts_string = record {
  value = [];
  fits = no_name;
  stops = λ bytes fault is_bytes e.
      elim (one_failed (up_to_zero bytes) utf8_text fault e) [
        | inl first ↦
            let found = not_ended bytes fault first in
            inr (record {
              before = [];
              part = bytes;
              bytes_are = refl;
              begun = record { value = []; rest = string []; fits = no_name; spelled = refl };
              fault_is = found.1;
              lacks = inr (record {
                is_name = λ name is. record {
                  value = name;
                  rest = [];
                  fits = is;
                  spelled = sym (append-nil (string name));
                };
                no_end = found.0;
              });
            })
        | inr s ↦
            let t = exact_up_to_zero.takes bytes s.value s.middle is_bytes s.first in
            let u = text_failed s.value s.middle fault s.second in
            subst (λ (f : MsgError). Stops string_at string IsName bytes f) u.1
            (inl (record {
              before = [];
              field = string s.value;
              after = s.middle;
              bytes_are = t.spelled;
              begun = record { value = []; rest = string []; fits = no_name; spelled = refl };
              is_bad = not_string s.value u.0;
              stays = λ more.
                  ap (λ (outcome : Outcome (List ℕ)). and_then outcome utf8_text)
                  (exact_up_to_zero.again s.value more t.fits) ∙ text_fails s.value more u.0;
            }))
      ];
}

abbrev IsSizedText : List ℕ → Type 0
IsSizedText text = (length text < 2 ^ 31) × IsUtf8 text

exact_sized : Exact (count32 >>= some) sized (λ text. (length text < 2 ^ 31) × Unit {0})
exact_sized = exact_then count32 some int32 (λ text. text) (λ n. n < 2 ^ 31) (λ text. Unit {0}) length exact_count32
    (λ n _. exact_some n)

halts_sized : Halts (count32 >>= some) sized IsSizedText
halts_sized = halts_then count32 some int32 (λ text. text) (λ n. n < 2 ^ 31) IsUtf8 length exact_count32 halts_count32
    (λ n _. halts_some n)

pub halts_text : Halts text_at sized (λ text. IsUtf8 text × (length text < 2 ^ 31))
unfolding text_at
halts_text =
    let Fits : List ℕ → Type 0 = λ text. IsUtf8 text × (length text < 2 ^ 31) in
    let rule : Rule (List ℕ) = count32 >>= some in
    record {
      value = [];
      fits = (IsUtf8-nil, omega arith);
      stops = λ bytes fault is_bytes e.
          elim (one_failed (rule bytes) utf8_text fault e) [
            | inl first ↦ stops_whole rule sized IsSizedText text_at sized Fits []
                (λ text fits. record {
                  value = text;
                  tail = [];
                  fits = (fits.1, fits.0);
                  spelled = sym (append-nil (sized text));
                })
                (λ x f g. ap (λ (outcome : Outcome (List ℕ)). and_then outcome utf8_text) g)
                bytes fault (halts_sized.stops bytes fault is_bytes first)
            | inr s ↦
                let t = exact_sized.takes bytes s.value s.middle is_bytes s.first in
                let u = text_failed s.value s.middle fault s.second in
                let zeros = replicate (length s.value) 0 in
                let long : length zeros ≡ length s.value = length-replicate (length s.value) 0 in
                subst (λ (f : MsgError). Stops text_at sized Fits bytes f) u.1
                (inl (record {
                  before = int32 (length s.value);
                  field = s.value;
                  after = s.middle;
                  bytes_are = t.spelled ∙ append_assoc (int32 (length s.value)) s.value s.middle;
                  begun = record {
                    value = zeros;
                    rest = zeros;
                    fits = (zeros_are_text (length s.value), subst (λ (n : ℕ). n < 2 ^ 31) (sym long) t.fits.0);
                    spelled = ap (λ (n : ℕ). int32 n ++ zeros) long;
                  };
                  is_bad = not_text s.value u.0;
                  stays = λ more.
                      ap text_at (sym (append_assoc (int32 (length s.value)) s.value more))
                      ∙ ap (λ (outcome : Outcome (List ℕ)). and_then outcome utf8_text)
                      (exact_sized.again s.value more t.fits) ∙ text_fails s.value more u.0;
                }))
          ];
    }
