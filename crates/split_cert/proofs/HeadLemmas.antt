-- The two words of a node: what is read is in the text, and what is in a text is read.
use Rattle.std.proofs.Common.{◌≡◌, ℕ, zero, suc, ◌+◌, ◌^◌, ◌<◌, ◌≤◌, Bool, true, false, ◌&&◌, ◌==◌, List, ◌∷◌, ◌++◌, length, Ok, Err, refl, ap, subst, ◌∙◌, arith}
use Rattle.std.specs.Prelude.{if◌then◌else◌, nat_le}
use Rattle.std.specs.Fmt.{decimal}
use Rattle.std.proofs.lemmas.Bool.Decides.{nat_tests}
use Rattle.split_cert.specs.declared.error.CertError.TheVariants.{TooLarge, TooDeep}
use Rattle.split_cert.specs.declared.head.Head.{Head}
use Rattle.split_cert.specs.declared.head.Kind.{Kind}
use Rattle.split_cert.specs.declared.head.Kind.TheVariants.{Split, Owner, Empty, NeverNull}
use Rattle.split_cert.specs.Reading.{Here, ◌>>=◌, ◌>>◌, pure, space, letter_of, letter, numeral, is_split, count, head}
use Rattle.split_cert.specs.Text.{words_of}
use Rattle.split_cert.specs.Tree.{max_nodes}
use Rattle.split_cert.proofs.WordLemmas.{at, bind_ok, ok_is, EndsWord, not_zero, letter_takes, letter_again, number_takes, number_again, space_takes}

-- ---- counting

-- a node was counted
pub record Counts (may_open : ℕ) (kind : Kind) (here after : Here) : Type 0 where
  pub rest : here.rest ≡ after.rest
  pub nodes : after.nodes ≡ here.nodes + 1
  pub few : after.nodes ≤ max_nodes
  pub opens : kind ≡ Split → 0 < may_open

count_is : (t u : Bool) (may_open : ℕ) (kind : Kind) (here : Here) (y : Unit {0} × Here)
    → (t ≡ false → here.nodes < max_nodes) → (u ≡ false → kind ≡ Split → 0 < may_open)
    → (if t then Err TooLarge else (if u then Err TooDeep else Ok (tt, at here.place (here.nodes + 1) here.rest)))
    ≡ Ok y → Counts may_open kind here y.1
count_is true u may_open kind here y few opens e = absurd cc
count_is false true may_open kind here y few opens e = absurd cc
count_is false false may_open kind here y few opens e =
    subst (λ (y : Unit {0} × Here). Counts may_open kind here y.1)
    (ok_is (tt, at here.place (here.nodes + 1) here.rest) y e)
    (record { rest = refl; nodes = refl; few = let h = few refl in omega arith; opens = opens refl })

deep_is : (may_open : ℕ) (kind : Kind) → is_split kind && may_open == 0 ≡ false → kind ≡ Split → 0 < may_open
deep_is may_open Split f e = grind (arith, nat_tests, f)
deep_is may_open Owner f e = absurd cc
deep_is may_open Empty f e = absurd cc
deep_is may_open NeverNull f e = absurd cc

count_takes : (may_open : ℕ) (kind : Kind) (here : Here) (y : Unit {0} × Here) → count may_open kind here ≡ Ok y
    → Counts may_open kind here y.1
unfolding count
count_takes may_open kind here y e =
    count_is (nat_le max_nodes here.nodes) (is_split kind && may_open == 0) may_open kind here y
    (λ f. grind (arith, nat_tests, f)) (deep_is may_open kind) e

not_deep : (may_open : ℕ) (kind : Kind) → (kind ≡ Split → 0 < may_open) → is_split kind && may_open == 0 ≡ false
not_deep zero Split opens = absurd (let h = opens refl in omega arith)
not_deep (suc n) Split opens = not_zero n
not_deep may_open Owner opens = refl
not_deep may_open Empty opens = refl
not_deep may_open NeverNull opens = refl

count_again : (may_open : ℕ) (kind : Kind) (place nodes : ℕ) (rest : List ℕ) → nodes < max_nodes
    → (kind ≡ Split → 0 < may_open)
    → count may_open kind (at place nodes rest) ≡ Ok (tt, at place (nodes + 1) rest)
unfolding count
count_again may_open kind place nodes rest few opens =
    let t : nat_le max_nodes nodes ≡ false = grind (arith, nat_tests) in
    rw (t, not_deep may_open kind opens) refl

-- ---- both words

pub record TakesHead (may_open : ℕ) (here : Here) (h : Head) (after : Here) : Type 0 where
  pub parts : here.rest ≡ words_of h.kind h.number ++ after.rest
  pub nodes : after.nodes ≡ here.nodes + 1
  pub few : after.nodes ≤ max_nodes
  pub opens : h.kind ≡ Split → 0 < may_open
  pub number : h.number < 2 ^ 32

pub head_takes : (may_open : ℕ) (here : Here) (y : Head × Here) → head may_open here ≡ Ok y
    → TakesHead may_open here y.0 y.1
unfolding head
head_takes may_open here y e =
    let a = bind_ok (letter here)
    (λ kind. count may_open kind >> space >> numeral >>= (λ n. pure (record { kind = kind; number = n }))) y e in
    let kind = a.0.0 in
    let d = bind_ok ((count may_open kind >> space >> numeral) a.0.1) (λ n. pure (record { kind = kind; number = n }))
    y a.2 in
    let c = bind_ok ((count may_open kind >> space) a.0.1) (λ _. numeral) d.0 d.1 in
    let b = bind_ok (count may_open kind a.0.1) (λ _. space) c.0 c.1 in
    let letters = letter_takes here a.0 a.1 in
    let counts = count_takes may_open kind a.0.1 b.0 b.1 in
    let spaces = space_takes b.0.1 c.0 b.2 in
    let numbers = number_takes c.0.1 d.0 c.2 in
    let text : here.rest ≡ words_of kind d.0.0 ++ d.0.1.rest =
    letters.parts ∙ ap (λ r. letter_of kind ∷ r) (counts.rest ∙ spaces.parts ∙ ap (λ r. 32 ∷ r) numbers.0.parts) in
    subst (λ (y : Head × Here). TakesHead may_open here y.0 y.1)
    (ok_is (record { kind = kind; number = d.0.0 }, d.0.1) y d.2) (record {
      parts = text;
      nodes = omega (arith, letters.nodes, counts.nodes, spaces.nodes, numbers.0.nodes);
      few = omega (arith, counts.few, spaces.nodes, numbers.0.nodes);
      opens = counts.opens;
      number = numbers.1;
    })

pub space_again : (place nodes : ℕ) (rest : List ℕ)
    → space (at place nodes (32 ∷ rest)) ≡ Ok (tt, at (place + 1) nodes rest)
unfolding space
space_again place nodes rest = refl

pub head_again : (may_open : ℕ) (kind : Kind) (n place nodes : ℕ) (rest : List ℕ) → nodes < max_nodes
    → (kind ≡ Split → 0 < may_open) → n < 2 ^ 32 → EndsWord rest
    → head may_open (at place nodes (words_of kind n ++ rest))
    ≡ Ok (record { kind = kind; number = n }, at (place + length (words_of kind n)) (nodes + 1) rest)
unfolding head
head_again may_open kind n place nodes rest few opens numbers ends =
    let end : place + 1 + 1 + length (decimal n) ≡ place + length (words_of kind n) = omega arith in
    rw (
      letter_again place nodes kind (32 ∷ decimal n ++ rest) refl,
      count_again may_open kind (place + 1) nodes (32 ∷ decimal n ++ rest) few opens,
      space_again (place + 1) (nodes + 1) (decimal n ++ rest),
      number_again (place + 1 + 1) (nodes + 1) n rest numbers ends,
      end,
    ) refl
