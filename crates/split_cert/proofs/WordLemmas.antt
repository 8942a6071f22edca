-- Words: what is read is in the text, and a word that is in a text is read.
use Rattle.std.proofs.Common.{◌≡◌, ◌≢◌, ℕ, suc, ◌+◌, ◌^◌, ◌<◌, Bool, true, false, ◌&&◌, ◌==◌, List, [], ◌∷◌, ◌++◌, length, take, Option, Some, None, Result, Ok, Err, refl, sym, ap, subst, ◌∙◌, arith}
use Rattle.std.specs.Prelude.{if◌then◌else◌, nat_lt}
use Rattle.std.specs.Char.{is_ascii_digit}
use Rattle.std.specs.Fmt.{decimal}
use Rattle.std.specs.Str.{all_ascii_digits, bytes_eq}
use Rattle.std.proofs.lemmas.Bool.{and_parts, lt-ltb, ltb-true, eqb-true}
use Rattle.std.proofs.lemmas.Bool.Decides.{nat_tests}
use Rattle.std.proofs.lemmas.Fmt.{digits_decimal, digits_value-decimal, decimal_nonempty}
use Rattle.std.proofs.lemmas.List.{take-append-drop, take_at, drop_at}
use Rattle.std.proofs.lemmas.Slice.Eq.{bytes_eq-Decides}
use Rattle.split_cert.specs.declared.error.CertError.{CertError}
use Rattle.split_cert.specs.declared.error.CertError.TheVariants.{Ended, BadToken}
use Rattle.split_cert.specs.declared.head.Kind.{Kind}
use Rattle.split_cert.specs.declared.head.Kind.TheVariants.{Split, Owner, Empty, NeverNull}
use Rattle.split_cert.specs.Numbers.{number_from, word_number}
use Rattle.split_cert.specs.Reading.{Here, Outcome, Rule, and_then, is_of_word, word_len, past, word, space_first, space, meant, letter_of, kind_of_letter, kind_of, letter, numeral}
use Rattle.split_cert.proofs.NumberLemmas.{own}
use Rattle.filter_tree.proofs.Tests.{by_test}

abbrev pub at : ℕ → ℕ → List ℕ → Here
at place nodes rest = record { place = place; nodes = nodes; rest = rest }

-- the value of a rule that did not fail
pub bind_ok : {A B : Type 0} (outcome : Outcome A) (more : A → Rule B) (y : B × Here) → and_then outcome more ≡ Ok y
    → (x : A × Here) × (outcome ≡ Ok x) × (more x.0 x.1 ≡ Ok y)
bind_ok (Ok x) more y e = (x, refl, e)
bind_ok (Err fault) more y e = absurd cc

abbrev done : {A : Type 0} → A → Result A CertError
done x = Ok x

pub ok_is : {A : Type 0} (x y : A) → done x ≡ done y → x ≡ y
ok_is x y e = cc

some_is : {A : Type 0} (x y : A) → Some x ≡ Some y → x ≡ y
some_is x y e = cc

-- what a rule consumed from the front, if no node was counted
pub record TakesText (here : Here) (text : List ℕ) (after : Here) : Type 0 where
  pub parts : here.rest ≡ text ++ after.rest
  pub nodes : after.nodes ≡ here.nodes

TakesText-are : (here mid after : Here) (text other : List ℕ) → text ≡ other → mid ≡ after → TakesText here text mid
    → TakesText here other after
TakesText-are here mid after text other p q takes =
    subst (λ t. TakesText here t after) p (subst (λ m. TakesText here text m) q takes)

-- ---- a word

unless_ended : {A : Type 0} (b : Bool) (fault : CertError) (x y : A) → (if b then Err fault else done x) ≡ Ok y → x ≡ y
unless_ended true fault x y e = absurd cc
unless_ended false fault x y e = cc

word_takes : (here : Here) (y : List ℕ × Here) → word here ≡ Ok y → TakesText here y.0 y.1
unfolding word
word_takes here y e =
    let n = word_len here.rest in
    let same = unless_ended (length here.rest == 0) Ended (take n here.rest, past n here) y e in
    subst (λ (y : List ℕ × Here). TakesText here y.0 y.1) same
    (record { parts = sym (take-append-drop n here.rest); nodes = refl })

-- the bytes have no space, and after a word comes nothing or a space
abbrev pub IsWord : List ℕ → Type 0
IsWord [] = Unit {0}
IsWord (byte ∷ bytes) = (byte ≢ 32) × IsWord bytes

abbrev pub EndsWord : List ℕ → Type 0
EndsWord [] = Unit {0}
EndsWord (byte ∷ bytes) = byte ≡ 32

word_len-whole : (bytes rest : List ℕ) → IsWord bytes → EndsWord rest → word_len (bytes ++ rest) ≡ length bytes
word_len-whole [] [] is ends = refl
word_len-whole [] (byte ∷ rest) is ends = rw ends refl
word_len-whole (byte ∷ bytes) rest is ends =
    let other : is_of_word byte ≡ true = grind (arith, nat_tests, is.0) in
    let more = word_len-whole bytes rest is.1 ends in
    rw other (omega (arith, more))

pub not_zero : (n : ℕ) → suc n == 0 ≡ false
not_zero n = grind (arith, nat_tests)

word_again : (place nodes : ℕ) (bytes rest : List ℕ) → 0 < length bytes → IsWord bytes → EndsWord rest
    → word (at place nodes (bytes ++ rest)) ≡ Ok (bytes, at (place + length bytes) nodes rest)
unfolding word
word_again place nodes [] rest some is ends = absurd (omega arith)
word_again place nodes (byte ∷ bytes) rest some is ends =
    rw (
      not_zero (length (bytes ++ rest)),
      word_len-whole (byte ∷ bytes) rest is ends,
      take_at (byte ∷ bytes) rest (length (byte ∷ bytes)) refl,
      drop_at (byte ∷ bytes) rest (length (byte ∷ bytes)) refl,
    ) refl

-- ---- what a word means

meant_is : {A : Type 0} (place : ℕ) (found : Option A) (here : Here) (y : A × Here) → meant place found here ≡ Ok y
    → (found ≡ Some y.0) × (here ≡ y.1)
meant_is {A = A} place None here y e = absurd cc
meant_is {A = A} place (Some a) here y e = let same = ok_is (a, here) y e in
    (ap (λ (y : A × Here). Some y.0) same, ap (λ (y : A × Here). y.1) same)

letter_is : (byte : ℕ) (kind : Kind) → kind_of_letter byte ≡ Some kind → byte ≡ letter_of kind
letter_is byte kind e =
    by_test (byte == 115)
    (λ t. let k : Split ≡ kind = some_is _ _ (rw t at e) in eqb-true byte 115 t ∙ ap letter_of k)
    (λ f. let e = rw f at e in
    by_test (byte == 111)
    (λ t. let k : Owner ≡ kind = some_is _ _ (rw t at e) in eqb-true byte 111 t ∙ ap letter_of k)
    (λ f. let e = rw f at e in
    by_test (byte == 101)
    (λ t. let k : Empty ≡ kind = some_is _ _ (rw t at e) in eqb-true byte 101 t ∙ ap letter_of k)
    (λ f. let e = rw f at e in
    by_test (byte == 110)
    (λ t. let k : NeverNull ≡ kind = some_is _ _ (rw t at e) in eqb-true byte 110 t ∙ ap letter_of k)
    (λ f. let e = rw f at e in
    absurd cc))))

kind_is : (bytes : List ℕ) (kind : Kind) → kind_of bytes ≡ Some kind → bytes ≡ letter_of kind ∷ []
kind_is [] kind e = absurd cc
kind_is (byte ∷ []) kind e = rw (letter_is byte kind e) refl
kind_is (byte ∷ other ∷ bytes) kind e = absurd cc

if_some : (b : Bool) (n m : ℕ) → (if b then Some n else None) ≡ Some m → (b ≡ true) × (n ≡ m)
if_some true n m e = (refl, some_is n m e)
if_some false n m e = absurd cc

number_is : (bytes : List ℕ) (n : ℕ) → word_number bytes ≡ Some n → (bytes ≡ decimal n) × (n < 2 ^ 32)
unfolding word_number
number_is bytes n e =
    let m = number_from 0 bytes in
    let found = if_some (bytes_eq bytes (decimal m) && nat_lt m (2 ^ 32)) m n e in
    let both = and_parts (bytes_eq bytes (decimal m)) (nat_lt m (2 ^ 32)) found.0 in
    subst (λ n. (bytes ≡ decimal n) × (n < 2 ^ 32)) found.1
    ((bytes_eq-Decides bytes (decimal m)).0 both.0, ltb-true _ _ both.1)

number_text : (n : ℕ) → n < 2 ^ 32 → word_number (decimal n) ≡ Some n
unfolding word_number
number_text n few =
    let same : number_from 0 (decimal n) ≡ n = digits_value-decimal own n (omega arith) in
    rw (same, (bytes_eq-Decides (decimal n) (decimal n)).1 refl, lt-ltb n (2 ^ 32) few) refl

space_is_no_digit : (byte : ℕ) → is_ascii_digit byte ≡ true → byte ≡ 32 → ⊥
space_is_no_digit byte e same = let f = rw same at e in absurd cc

digits_are_word : (bytes : List ℕ) → all_ascii_digits bytes ≡ true → IsWord bytes
digits_are_word [] e = tt
digits_are_word (byte ∷ bytes) e =
    let both = and_parts _ _ e in
    (λ same. absurd (space_is_no_digit byte both.0 same), digits_are_word bytes both.1)

-- ---- the words of a node

pub letter_takes : (here : Here) (y : Kind × Here) → letter here ≡ Ok y → TakesText here (letter_of y.0 ∷ []) y.1
unfolding letter
letter_takes here y e =
    let a = bind_ok (word here) (λ bytes. meant here.place (kind_of bytes)) y e in
    let takes = word_takes here a.0 a.1 in
    let means = meant_is here.place (kind_of a.0.0) a.0.1 y a.2 in
    let bytes = kind_is a.0.0 y.0 means.0 in
    TakesText-are here a.0.1 y.1 a.0.0 (letter_of y.0 ∷ []) bytes means.1 takes

letter_is_no_space : (kind : Kind) → letter_of kind ≢ 32
letter_is_no_space Split e = omega arith
letter_is_no_space Owner e = omega arith
letter_is_no_space Empty e = omega arith
letter_is_no_space NeverNull e = omega arith

letter_means : (kind : Kind) → kind_of (letter_of kind ∷ []) ≡ Some kind
letter_means Split = refl
letter_means Owner = refl
letter_means Empty = refl
letter_means NeverNull = refl

pub letter_again : (place nodes : ℕ) (kind : Kind) (rest : List ℕ) → EndsWord rest
    → letter (at place nodes (letter_of kind ∷ rest)) ≡ Ok (kind, at (place + 1) nodes rest)
unfolding letter
letter_again place nodes kind rest ends =
    rw (
      word_again place nodes (letter_of kind ∷ []) rest (omega arith) (letter_is_no_space kind, tt) ends,
      letter_means kind,
    ) refl

pub number_takes : (here : Here) (y : ℕ × Here) → numeral here ≡ Ok y → TakesText here (decimal y.0) y.1 × (y.0 < 2 ^ 32)
unfolding numeral
number_takes here y e =
    let a = bind_ok (word here) (λ bytes. meant here.place (word_number bytes)) y e in
    let takes = word_takes here a.0 a.1 in
    let means = meant_is here.place (word_number a.0.0) a.0.1 y a.2 in
    let is = number_is a.0.0 y.0 means.0 in
    (TakesText-are here a.0.1 y.1 a.0.0 (decimal y.0) is.0 means.1 takes, is.1)

pub number_again : (place nodes n : ℕ) (rest : List ℕ) → n < 2 ^ 32 → EndsWord rest
    → numeral (at place nodes (decimal n ++ rest)) ≡ Ok (n, at (place + length (decimal n)) nodes rest)
unfolding numeral
number_again place nodes n rest few ends =
    rw (
      word_again place nodes (decimal n) rest (decimal_nonempty n (omega arith))
          (digits_are_word (decimal n) (digits_decimal own n (omega arith))) ends,
      number_text n few,
    ) refl

-- ---- a space

if_space : (b : Bool) (place : ℕ) (x y : Unit {0} × Here) → (if b then done x else Err (BadToken place)) ≡ Ok y
    → (b ≡ true) × (x ≡ y)
if_space true place x y e = (refl, ok_is x y e)
if_space false place x y e = absurd cc

space_first_takes : (here : Here) (bytes : List ℕ) (y : Unit {0} × Here) → space_first here bytes ≡ Ok y
    → (bytes ≡ 32 ∷ y.1.rest) × (y.1.nodes ≡ here.nodes)
space_first_takes here [] y e = absurd cc
space_first_takes here (byte ∷ bytes) y e =
    let found = if_space (byte == 32) here.place (tt, at (here.place + 1) here.nodes bytes) y e in
    let is = eqb-true byte 32 found.0 in
    (rw is (ap (λ (y : Unit {0} × Here). 32 ∷ y.1.rest) found.1), ap (λ (y : Unit {0} × Here). y.1.nodes) (sym found.1))

pub space_takes : (here : Here) (y : Unit {0} × Here) → space here ≡ Ok y → TakesText here (32 ∷ []) y.1
unfolding space
space_takes here y e = let takes = space_first_takes here here.rest y e in record { parts = takes.0; nodes = takes.1 }
