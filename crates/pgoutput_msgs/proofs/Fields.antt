-- The fields of a message are read as they are spelled.
use Rattle.std.proofs.Common.{◌≡◌, ℕ, suc, ◌+◌, ◌^◌, ◌<◌, ◌≤◌, Bool, true, false, cond, ltb, List, [], ◌∷◌, ◌++◌, length, get_or, take, drop, Option, Some, None, Ok, Err, refl, sym, ap, subst, ◌∙◌, append_assoc, arith, inl, inr}
use Rattle.std.specs.Prelude.{◌==◌, nat_lt, if◌then◌else◌, Contains}
use Rattle.std.specs.Int.{Width, w16, w32, w64, byte_len, from_be_bytes, to_be_bytes}
use Rattle.std.specs.List.{position, position_or_len}
use Rattle.std.specs.Str.{IsUtf8, is_utf8}
use Rattle.std.proofs.lemmas.Bool.{cases_lt, ltb-true, ltb-false, lt-ltb, le-ltb, eqb-true, eqb-false}
use Rattle.std.proofs.lemmas.List.{take_at, drop_at, take-append-drop, length-append, length-take, get_or-drop, get_or-take, get_or_past, at_drop_more}
use Rattle.std.proofs.lemmas.List.Quantifiers.{position-Some}
use Rattle.std.proofs.lemmas.List.Recursion.{is_position_or_len}
use Rattle.std.proofs.lemmas.Nat.{be_bytes_2, be_bytes_4, be_bytes_8, from_be_bytes-to_be_bytes_2, from_be_bytes-to_be_bytes_4, from_be_bytes-to_be_bytes_8}
use Rattle.std.proofs.lemmas.Str.{IsUtf8-from_is_utf8, is_utf8-from_IsUtf8}
use Rattle.pgoutput_msgs.specs.declared.error.MsgError.{MsgError}
use Rattle.pgoutput_msgs.specs.declared.error.MsgError.TheVariants.{Short, BadCount, BadText}
use Rattle.pgoutput_msgs.specs.Laws.{IsBytes}
use Rattle.pgoutput_msgs.specs.Ranges.{IsName}
use Rattle.pgoutput_msgs.specs.Reading.{pure, ◌>>=◌, if_passed, byte, some, big_endian, count16, count32, cut_at, up_to_zero, utf8_text, string_at, text_at}
use Rattle.pgoutput_msgs.specs.Spelling.{int8, int16, int32, int64, string}
use Rattle.pgoutput_msgs.proofs.Exact.{Exact, TakesSpelling, done, same_read, never, bound, exact_then, exact_passed}

IsBytes-drop : (n : ℕ) (bytes : List ℕ) → IsBytes bytes → IsBytes (drop n bytes)
IsBytes-drop n bytes h i = rw get_or-drop (h (n + i))

IsBytes-take : (n : ℕ) (bytes : List ℕ) → IsBytes bytes → IsBytes (take n bytes)
IsBytes-take n bytes h i =
    elim (cases_lt i n) [
      | inl lt ↦ rw (get_or-take n bytes i 0 lt) (h i)
      | inr le ↦ rw (get_or_past (take n bytes) i 0 (omega (arith, length-take n bytes))) (omega arith)
    ]

-- ---- a byte

byte_takes : (bytes : List ℕ) (b : ℕ) (rest : List ℕ) → IsBytes bytes → byte bytes ≡ Ok (b, rest)
    → TakesSpelling int8 (λ n. n < 256) bytes b rest
unfolding byte
byte_takes [] b rest is_bytes e = absurd (never Short b rest e)
byte_takes (first ∷ later) b rest is_bytes e =
    let same = same_read first b later rest e in
    record {
      spelled = ap (λ (n : ℕ). n ∷ later) same.0 ∙ ap (λ (x : List ℕ). b ∷ x) same.1;
      fits = subst (λ (n : ℕ). n < 256) same.0 (is_bytes 0);
      left = subst IsBytes same.1 (λ i. is_bytes (suc i));
    }

pub exact_byte : Exact byte int8 (λ n. n < 256)
unfolding byte
exact_byte = record { takes = byte_takes; again = λ b rest fits. refl }

-- ---- a number of bytes

chosen : {A : Type 0} (test : Bool) (fault : MsgError) (a b : A) (x rest : List ℕ)
    → (if test then Err fault else done a x) ≡ done b rest → (test ≡ false) × ((a ≡ b) × (x ≡ rest))
chosen true fault a b x rest e = absurd (never fault b rest e)
chosen false fault a b x rest e = (refl, same_read a b x rest e)

pub some_takes : (n : ℕ) (bytes x rest : List ℕ) → some n bytes ≡ Ok (x, rest) → (n ≤ length bytes)
    × ((take n bytes ≡ x) × (drop n bytes ≡ rest))
unfolding some
some_takes n bytes x rest e =
    let found = chosen (nat_lt (length bytes) n) Short (take n bytes) x (drop n bytes) rest e in
    (ltb-false _ _ found.0, found.1)

pub some_again : (n : ℕ) (x rest : List ℕ) → length x ≡ n → some n (x ++ rest) ≡ Ok (x, rest)
unfolding some
some_again n x rest is =
    let long : ltb (length (x ++ rest)) n ≡ false = le-ltb _ _ (omega (arith, length-append x rest)) in
    rw (long, take_at x rest n is, drop_at x rest n is) refl

pub exact_some : (n : ℕ) → Exact (some n) (λ x. x) (λ x. (length x ≡ n) × Unit {0})
exact_some n = record {
  takes = λ bytes x rest is_bytes e.
      let found = some_takes n bytes x rest e in
      record {
        spelled = sym (take-append-drop n bytes) ∙ ap (λ (y : List ℕ). y ++ drop n bytes) found.1.0
            ∙ ap (λ (y : List ℕ). x ++ y) found.1.1;
        fits = (sym (ap length found.1.0) ∙ omega (arith, length-take n bytes, found.0), tt);
        left = subst IsBytes found.1.1 (IsBytes-drop n bytes is_bytes);
      };
  again = λ x rest fits. some_again n x rest fits.0;
}

-- ---- numbers

pub record IsWide (w : Width) (limit : ℕ) : Type 0 where
  pub long : (n : ℕ) → length (to_be_bytes w n) ≡ byte_len w
  pub back : (bytes : List ℕ) → length bytes ≡ byte_len w → IsBytes bytes
      → to_be_bytes w (from_be_bytes w bytes) ≡ bytes
  pub again : (n : ℕ) → n < limit → from_be_bytes w (to_be_bytes w n) ≡ n
  pub below : (bytes : List ℕ) → IsBytes bytes → from_be_bytes w bytes < limit

pub wide16 : IsWide w16 (2 ^ 16)
wide16 = record {
  long = λ n. refl;
  back = λ bytes len fits. be_bytes_2 bytes _ len fits refl;
  again = λ n lt. from_be_bytes-to_be_bytes_2 n lt;
  below = λ bytes fits. omega (arith, fits 0, fits 1);
}

pub wide32 : IsWide w32 (2 ^ 32)
wide32 = record {
  long = λ n. refl;
  back = λ bytes len fits. be_bytes_4 bytes _ len fits refl;
  again = λ n lt. from_be_bytes-to_be_bytes_4 n lt;
  below = λ bytes fits. omega (arith, fits 0, fits 1, fits 2, fits 3);
}

pub wide64 : IsWide w64 (2 ^ 64)
wide64 = record {
  long = λ n. refl;
  back = λ bytes len fits. be_bytes_8 bytes _ len fits refl;
  again = λ n lt. from_be_bytes-to_be_bytes_8 n lt;
  below = λ bytes fits. omega (arith, fits 0, fits 1, fits 2, fits 3, fits 4, fits 5, fits 6, fits 7);
}

number_takes : (w : Width) (limit : ℕ) (wide : IsWide w limit) (bytes : List ℕ) (n : ℕ) (rest : List ℕ)
    → IsBytes bytes → big_endian w bytes ≡ Ok (n, rest)
    → TakesSpelling (to_be_bytes w) (λ m. m < limit) bytes n rest
unfolding big_endian
number_takes w limit wide bytes n rest is_bytes e =
    let parts = bound (some (byte_len w) bytes) (λ x. pure (from_be_bytes w x)) n rest e in
    let found = some_takes (byte_len w) bytes parts.value parts.middle parts.first in
    let same = same_read (from_be_bytes w parts.value) n parts.middle rest parts.second in
    let is : take (byte_len w) bytes ≡ parts.value = found.1.0 in
    let value_bytes : IsBytes parts.value = subst IsBytes is (IsBytes-take (byte_len w) bytes is_bytes) in
    let long : length parts.value ≡ byte_len w = sym (ap length is)
    ∙ omega (arith, length-take (byte_len w) bytes, found.0) in
    let front : parts.value ≡ to_be_bytes w n = sym (wide.back parts.value long value_bytes)
    ∙ ap (to_be_bytes w) same.0 in
    record {
      spelled = sym (take-append-drop (byte_len w) bytes)
          ∙ ap (λ (x : List ℕ). x ++ drop (byte_len w) bytes) (is ∙ front)
          ∙ ap (λ (x : List ℕ). to_be_bytes w n ++ x) (found.1.1 ∙ same.1);
      fits = subst (λ (m : ℕ). m < limit) same.0 (wide.below parts.value value_bytes);
      left = subst IsBytes (found.1.1 ∙ same.1) (IsBytes-drop (byte_len w) bytes is_bytes);
    }

number_again : (w : Width) (limit : ℕ) (wide : IsWide w limit) (n : ℕ) (rest : List ℕ) → n < limit
    → big_endian w (to_be_bytes w n ++ rest) ≡ Ok (n, rest)
unfolding big_endian
number_again w limit wide n rest fits =
    rw (some_again (byte_len w) (to_be_bytes w n) rest (wide.long n), wide.again n fits) refl

exact_wide : (w : Width) (limit : ℕ) → IsWide w limit → Exact (big_endian w) (to_be_bytes w) (λ n. n < limit)
exact_wide w limit wide = record { takes = number_takes w limit wide; again = number_again w limit wide }

pub exact_int16 : Exact (big_endian w16) int16 (λ n. n < 2 ^ 16)
exact_int16 = exact_wide w16 (2 ^ 16) wide16

pub exact_int32 : Exact (big_endian w32) int32 (λ n. n < 2 ^ 32)
exact_int32 = exact_wide w32 (2 ^ 32) wide32

pub exact_int64 : Exact (big_endian w64) int64 (λ n. n < 2 ^ 64)
exact_int64 = exact_wide w64 (2 ^ 64) wide64

pub exact_count16 : Exact count16 int16 (λ n. n < 2 ^ 15)
unfolding count16
exact_count16 =
    exact_passed (λ n. nat_lt n (2 ^ 15)) BadCount (big_endian w16) int16 (λ n. n < 2 ^ 16) (λ n. n < 2 ^ 15)
    exact_int16
    (λ n fits e. ltb-true _ _ e) (λ n fits. (lt-ltb _ _ fits, omega (arith, fits)))

pub exact_count32 : Exact count32 int32 (λ n. n < 2 ^ 31)
unfolding count32
exact_count32 =
    exact_passed (λ n. nat_lt n (2 ^ 31)) BadCount (big_endian w32) int32 (λ n. n < 2 ^ 32) (λ n. n < 2 ^ 31)
    exact_int32
    (λ n fits e. ltb-true _ _ e) (λ n fits. (lt-ltb _ _ fits, omega (arith, fits)))

-- ---- texts

abbrev pub is_zero : ℕ → Bool
is_zero n = n == 0

abbrev pub NoZero : List ℕ → Type 0
NoZero text = ¬ Contains text 0

-- how many bytes come before the first zero byte
abbrev before_zero : List ℕ → ℕ
before_zero [] = 0
before_zero (n ∷ bytes) = cond (is_zero n) 0 (1 + before_zero bytes)

no_zero : (n : ℕ) → n ≡ 0 → is_zero n ≡ false → ⊥
no_zero n e h = eqb-false n 0 h e

cut_takes : (found : Option ℕ) (bytes x rest : List ℕ) → IsBytes bytes → position is_zero bytes ≡ found
    → cut_at found bytes ≡ Ok (x, rest) → TakesSpelling string NoZero bytes x rest
cut_takes None bytes x rest is_bytes at e = absurd (never Short x rest e)
cut_takes (Some i) bytes x rest is_bytes at e =
    let same = same_read (take i bytes) x (drop (i + 1) bytes) rest e in
    let there = position-Some is_zero bytes i 0 at in
    let zero_there : get_or bytes i 0 ≡ 0 = eqb-true _ _ there.1 in
    let after : drop i bytes ≡ 0 ∷ drop (i + 1) bytes =
    at_drop_more (λ (y : List ℕ). y) bytes i 0 there.0 ∙ ap (λ (n : ℕ). n ∷ drop (i + 1) bytes) zero_there in
    record {
      spelled = sym (take-append-drop i bytes) ∙ ap (λ (y : List ℕ). take i bytes ++ y) after
          ∙ ap (λ (y : List ℕ). y ++ (0 ∷ drop (i + 1) bytes)) same.0
          ∙ ap (λ (y : List ℕ). x ++ (0 ∷ y)) same.1 ∙ sym (append_assoc x (0 ∷ []) rest);
      fits = λ contains.
          let k = contains.0 in
          let within : k < i = omega (arith, contains.1, ap length same.0, length-take i bytes) in
          let is : get_or bytes k 0 ≡ 0 = sym (get_or-take i bytes k 0 within)
          ∙ ap (λ (y : List ℕ). get_or y k 0) same.0 ∙ contains.2 in
          no_zero (get_or bytes k 0) is (there.2 k within);
      left = subst IsBytes same.1 (IsBytes-drop (i + 1) bytes is_bytes);
    }

pub not_true : (b : Bool) → (b ≡ true → ⊥) → b ≡ false
not_true true apart = absurd (apart refl)
not_true false apart = refl

pub is_not_zero : (n : ℕ) → (n ≡ 0 → ⊥) → is_zero n ≡ false
is_not_zero n apart = not_true (is_zero n) (λ e. apart (eqb-true n 0 e))

before_zero_is : (x rest : List ℕ) → NoZero x → before_zero (x ++ (0 ∷ rest)) ≡ length x
before_zero_is [] rest none = refl
before_zero_is (n ∷ x) rest none =
    let later = before_zero_is x rest (λ contains. none (suc contains.0, omega (arith, contains.1), contains.2)) in
    rw (is_not_zero n (λ e. none (0, omega arith, e)), later) (omega arith)

position_is : (x rest : List ℕ) → NoZero x → position is_zero (x ++ (0 ∷ rest)) ≡ Some (length x)
position_is x rest none =
    let place : position_or_len is_zero (x ++ (0 ∷ rest)) ≡ length x =
    sym (is_position_or_len before_zero is_zero refl (λ n bytes. refl) (x ++ (0 ∷ rest)))
    ∙ before_zero_is x rest none in
    let within : length x < length (x ++ (0 ∷ rest)) = omega (arith, length-append x (0 ∷ rest)) in
    rw (place, lt-ltb _ _ within) refl

zero_again : (x rest : List ℕ) → NoZero x → up_to_zero (string x ++ rest) ≡ Ok (x, rest)
unfolding up_to_zero
zero_again x rest none =
    let grouped : string x ++ rest ≡ x ++ (0 ∷ rest) = append_assoc x (0 ∷ []) rest in
    let front : take (length x) (x ++ (0 ∷ rest)) ≡ x = take_at x (0 ∷ rest) (length x) refl in
    let behind : drop (length x + 1) (x ++ (0 ∷ rest)) ≡ rest =
    ap (λ (y : List ℕ). drop (length x + 1) y) (sym grouped)
    ∙ drop_at (string x) rest (length x + 1) (length-append x (0 ∷ [])) in
    ap (λ (y : List ℕ). cut_at (position is_zero y) y) grouped
    ∙ ap (λ (found : Option ℕ). cut_at found (x ++ (0 ∷ rest))) (position_is x rest none)
    ∙ ap (λ (y : List ℕ). done y (drop (length x + 1) (x ++ (0 ∷ rest)))) front ∙ ap (λ (y : List ℕ). done x y) behind

pub exact_up_to_zero : Exact up_to_zero string NoZero
unfolding up_to_zero
exact_up_to_zero = record {
  takes = λ bytes x rest is_bytes e. cut_takes (position is_zero bytes) bytes x rest is_bytes refl e;
  again = zero_again;
}

pub exact_string : Exact string_at string IsName
unfolding string_at utf8_text
exact_string = exact_passed is_utf8 BadText up_to_zero string NoZero IsName exact_up_to_zero
    (λ x none e. record { is_text = IsUtf8-from_is_utf8 x e; no_zero = none })
    (λ x name. (is_utf8-from_IsUtf8 x name.is_text, name.no_zero))

-- a text after its length
abbrev pub sized : List ℕ → List ℕ
sized text = int32 (length text) ++ text

pub exact_text : Exact text_at sized (λ text. IsUtf8 text × (length text < 2 ^ 31))
unfolding text_at utf8_text
exact_text = exact_passed is_utf8 BadText (count32 >>= some) sized (λ text. (length text < 2 ^ 31) × Unit {0})
    (λ text. IsUtf8 text × (length text < 2 ^ 31))
    (exact_then count32 some int32 (λ text. text) (λ n. n < 2 ^ 31) (λ text. Unit {0}) length exact_count32
    (λ n _. exact_some n))
    (λ x fits e. (IsUtf8-from_is_utf8 x e, fits.0))
    (λ x fits. (is_utf8-from_IsUtf8 x fits.0, (fits.1, tt)))

-- ---- a text of bytes

pub utf8_read : (bytes rest : List ℕ) → IsUtf8 bytes → utf8_text bytes rest ≡ Ok (bytes, rest)
unfolding utf8_text
utf8_read bytes rest is = rw (is_utf8-from_IsUtf8 bytes is) refl

not_utf8 : (test : Bool) (bytes rest : List ℕ) → (test ≡ true → ⊥) → if_passed test BadText bytes rest ≡ Err BadText
not_utf8 true bytes rest none = absurd (none refl)
not_utf8 false bytes rest none = refl

pub utf8_refused : (bytes rest : List ℕ) → (IsUtf8 bytes → ⊥) → utf8_text bytes rest ≡ Err BadText
unfolding utf8_text
utf8_refused bytes rest none = not_utf8 (is_utf8 bytes) bytes rest (λ e. none (IsUtf8-from_is_utf8 bytes e))
