-- Writing values one after the other, as a loop does, and how many bytes they take.
use Rattle.std.proofs.Common.{◌≡◌, ℕ, ◌+◌, ◌-◌, ◌*◌, ◌^◌, ◌≤◌, ◌<◌, List, [], ◌∷◌, ◌++◌, length, length-append, get_or, drop, refl, sym, ap, ◌∙◌, append_assoc, append-nil, arith}
use Rattle.std.specs.Prelude.{min}
use Rattle.std.specs.Global.{Vec}
use Rattle.std.specs.List.{flat_map}
use Rattle.std.specs.Vec.{vec_len, vec_capacity}
use Rattle.std.proofs.lemmas.List.{at_drop_more, at_drop_all}
use Rattle.std.proofs.lemmas.List.Concat.{flat_map-cons}
use Rattle.pgoutput_msgs.specs.Room.{HasRoom, Puts}
use Rattle.pgoutput_msgs.specs.Spelling.{int32}

-- what was written and what is left spell the whole, and there is as much room as before
pub record Writes {A : Type 0} (spell : A → List ℕ) (old now : Vec ℕ) (all left : List A) : Type 0 where
  pub text : now.items ++ flat_map spell left ≡ old.items ++ flat_map spell all
  pub long : vec_len now + length (flat_map spell left) ≡ vec_len old + length (flat_map spell all)
  pub kept : vec_capacity old ≤ vec_capacity now

pub puts_both : (old between later : Vec ℕ) (first second : List ℕ) → Puts old between first
    → Puts between later second → Puts old later (first ++ second)
puts_both old between later first second one other = record {
  appended = other.appended ∙ ap (λ (bytes : List ℕ). bytes ++ second) one.appended
      ∙ append_assoc old.items first second;
  longer = omega (arith, length-append first second, one.longer, other.longer);
  kept = omega (arith, one.kept, other.kept);
}

first_left : {A : Type 0} (spell : A → List ℕ) (all : List A) (i : ℕ) (a : A) → a ≡ get_or all i a → i < length all
    → flat_map spell (drop i all) ≡ spell a ++ flat_map spell (drop (i + 1) all)
first_left {A = A} spell all i a is within =
    at_drop_more (flat_map spell) all i a within ∙ ap (λ (x : A). flat_map spell (x ∷ drop (i + 1) all)) (sym is)
    ∙ flat_map-cons spell a (drop (i + 1) all)

pub room_left : {A : Type 0} (spell : A → List ℕ) (old now : Vec ℕ) (all : List A) (i : ℕ) (a : A)
    → a ≡ get_or all i a → i < length all → Writes spell old now all (drop i all)
    → HasRoom old (flat_map spell all) → HasRoom now (spell a)
room_left spell old now all i a is within so_far room =
    let split = ap length (first_left spell all i a is within)
    ∙ length-append (spell a) (flat_map spell (drop (i + 1) all)) in
    omega (arith, split, so_far.long, so_far.kept)

pub writes_on : {A : Type 0} (spell : A → List ℕ) (old now later : Vec ℕ) (all : List A) (i : ℕ) (a : A)
    → a ≡ get_or all i a → i < length all → Writes spell old now all (drop i all)
    → Puts now later (spell a) → Writes spell old later all (drop (i + 1) all)
writes_on spell old now later all i a is within so_far put =
    let first = first_left spell all i a is within in
    let split = ap length first ∙ length-append (spell a) (flat_map spell (drop (i + 1) all)) in
    record {
      text = ap (λ (bytes : List ℕ). bytes ++ flat_map spell (drop (i + 1) all)) put.appended
          ∙ append_assoc now.items (spell a) (flat_map spell (drop (i + 1) all))
          ∙ ap (λ (bytes : List ℕ). now.items ++ bytes) (sym first) ∙ so_far.text;
      long = omega (arith, split, so_far.long, put.longer);
      kept = omega (arith, so_far.kept, put.kept);
    }

pub all_written : {A : Type 0} (spell : A → List ℕ) (old now : Vec ℕ) (all : List A) (i : ℕ) → length all ≤ i
    → Writes spell old now all (drop i all) → Puts old now (flat_map spell all)
all_written spell old now all i over so_far =
    let none : flat_map spell (drop i all) ≡ [] = at_drop_all (flat_map spell) all i over in
    record {
      appended = sym (append-nil now.items) ∙ ap (λ (bytes : List ℕ). now.items ++ bytes) (sym none) ∙ so_far.text;
      longer = omega (arith, so_far.long, ap length none);
      kept = so_far.kept;
    }

-- ---- lengths, up to the greatest number

abbrev pub capped : ℕ → ℕ
capped n = min n (2 ^ 64 - 1)

-- what was counted and what is left are the whole
pub record Measures {A : Type 0} (spell : A → List ℕ) (all left : List A) (total : ℕ) : Type 0 where
  pub sum : capped (total + length (flat_map spell left)) ≡ capped (length (flat_map spell all))
  pub few : total < 2 ^ 64

pub measures_on : {A : Type 0} (spell : A → List ℕ) (all : List A) (i : ℕ) (a : A) (total size later : ℕ)
    → a ≡ get_or all i a → i < length all
    → size ≡ capped (length (spell a)) → later ≡ capped (total + size) → Measures spell all (drop i all) total
    → Measures spell all (drop (i + 1) all) later
measures_on spell all i a total size later is within one sum so_far =
    let split = ap length (first_left spell all i a is within)
    ∙ length-append (spell a) (flat_map spell (drop (i + 1) all)) in
    record { sum = omega (arith, split, one, sum, so_far.sum); few = omega (arith, sum) }

pub all_measured : {A : Type 0} (spell : A → List ℕ) (all : List A) (i : ℕ) (total : ℕ) → length all ≤ i
    → Measures spell all (drop i all) total → total ≡ capped (length (flat_map spell all))
all_measured spell all i total over so_far =
    let none = ap length (at_drop_all (flat_map spell) all i over) in
    omega (arith, none, so_far.few, so_far.sum)

-- ---- room for values, up to the greatest number

-- the room that was counted and the room for the rest are enough for this many bytes and all values
pub record Covers {A : Type 0} (spell : A → List ℕ) (before : ℕ) (all left : List A) (total : ℕ) : Type 0 where
  pub sum : capped (before + length (flat_map spell all)) ≤ capped (total + length (flat_map spell left))

pub covers_on : {A : Type 0} (spell : A → List ℕ) (before : ℕ) (all : List A) (i : ℕ) (a : A) (total size later : ℕ)
    → a ≡ get_or all i a → i < length all
    → capped (length (spell a)) ≤ size → later ≡ capped (total + size) → Covers spell before all (drop i all) total
    → Covers spell before all (drop (i + 1) all) later
covers_on spell before all i a total size later is within one sum so_far =
    let split = ap length (first_left spell all i a is within)
    ∙ length-append (spell a) (flat_map spell (drop (i + 1) all)) in
    record { sum = omega (arith, split, one, sum, so_far.sum) }

pub all_covered : {A : Type 0} (spell : A → List ℕ) (before : ℕ) (all : List A) (i : ℕ) (total : ℕ) → length all ≤ i
    → Covers spell before all (drop i all) total
    → capped (before + length (flat_map spell all)) ≤ total
all_covered spell before all i total over so_far =
    let none = ap length (at_drop_all (flat_map spell) all i over) in
    omega (arith, none, so_far.sum)

pub length_fours : (numbers : List ℕ) → length (flat_map int32 numbers) ≡ 4 * length numbers
length_fours [] = refl
length_fours (n ∷ numbers) =
    let split = ap length (flat_map-cons int32 n numbers) ∙ length-append (int32 n) (flat_map int32 numbers) in
    omega (arith, split, length_fours numbers)

pub ruleset writing_turns = (room_left, writes_on, all_written)
