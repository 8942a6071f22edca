-- Rules that are exact: what is read was spelled this way, and what is spelled is read, whatever follows it. How the
-- exactness of a rule follows from that of its parts.
use Rattle.std.proofs.Common.{◌≡◌, ℕ, zero, suc, Bool, true, false, List, [], ◌∷◌, ◌++◌, length, Result, Ok, Err, refl, sym, ap, subst, ◌∙◌, append_assoc, arith}
use Rattle.std.specs.Prelude.{◌==◌, if◌then◌else◌}
use Rattle.std.specs.List.{flat_map, AllByRecursion}
use Rattle.std.proofs.lemmas.Bool.{eqb-true, eqb-false}
use Rattle.std.proofs.lemmas.List.Concat.{flat_map-cons}
use Rattle.pgoutput_msgs.specs.declared.error.MsgError.{MsgError}
use Rattle.pgoutput_msgs.specs.Laws.{IsBytes}
use Rattle.pgoutput_msgs.specs.Reading.{Outcome, Rule, pure, fail, and_then, ◌>>=◌, mapped, ◌&◌, if_passed, passed, many}

-- what was taken from the front of some bytes
pub record TakesSpelling {A : Type 0} (spell : A → List ℕ) (Fits : A → Type 0) (bytes : List ℕ) (a : A) (rest : List ℕ) : Type
    0 where
  pub spelled : bytes ≡ spell a ++ rest
  pub fits : Fits a
  pub left : IsBytes rest

pub record Exact {A : Type 0} (rule : Rule A) (spell : A → List ℕ) (Fits : A → Type 0) : Type 0 where
  pub takes : (bytes : List ℕ) (a : A) (rest : List ℕ) → IsBytes bytes → rule bytes ≡ Ok (a, rest)
      → TakesSpelling spell Fits bytes a rest
  pub again : (a : A) (rest : List ℕ) → Fits a → rule (spell a ++ rest) ≡ Ok (a, rest)

-- ---- outcomes

abbrev pub done : {A : Type 0} → A → List ℕ → Outcome A
done a rest = Ok (a, rest)

abbrev good : {A : Type 0} → A → Result A MsgError
good a = Ok a

same_good : {A : Type 0} (a b : A) → good a ≡ good b → a ≡ b
same_good a b e = cc

pub same_read : {A : Type 0} (a b : A) (x y : List ℕ) → done a x ≡ done b y → (a ≡ b) × (x ≡ y)
same_read {A = A} a b x y e =
    let pairs = same_good (a, x) (b, y) e in
    (ap (λ (p : A × List ℕ). p.0) pairs, ap (λ (p : A × List ℕ). p.1) pairs)

pub never : {A : Type 0} (fault : MsgError) (a : A) (rest : List ℕ) → let failed : Outcome A = Err fault in
    failed ≡ done a rest → ⊥
never fault a rest e = absurd cc

pub record Bound {A B : Type 0} (outcome : Outcome A) (more : A → Rule B) (b : B) (rest : List ℕ) : Type 0 where
  pub value : A
  pub middle : List ℕ
  pub first : outcome ≡ Ok (value, middle)
  pub second : more value middle ≡ Ok (b, rest)

pub bound : {A B : Type 0} (outcome : Outcome A) (more : A → Rule B) (b : B) (rest : List ℕ)
    → and_then outcome more ≡ Ok (b, rest) → Bound outcome more b rest
bound (Ok read) more b rest e = record { value = read.0; middle = read.1; first = refl; second = e }
bound (Err fault) more b rest e = absurd cc

-- ---- rules from rules

-- what is read first is determined by the whole: its key
pub exact_then : {A B : Type 0} (head : Rule A) (more : A → Rule B) (spell : A → List ℕ) (spell_more : B → List ℕ)
    (Fits : A → Type 0) (FitsMore : B → Type 0) (key : B → A)
    → Exact head spell Fits → ((a : A) → Fits a → Exact (more a) spell_more (λ b. (key b ≡ a) × FitsMore b))
    → Exact (head >>= more) (λ b. spell (key b) ++ spell_more b) (λ b. Fits (key b) × FitsMore b)
exact_then {A = A} {B = B} head more spell spell_more Fits FitsMore key one other = record {
  takes = λ bytes b rest is_bytes e.
      let parts = bound (head bytes) more b rest e in
      let t = one.takes bytes parts.value parts.middle is_bytes parts.first in
      let u = (other parts.value t.fits).takes parts.middle b rest t.left parts.second in
      record {
        spelled = t.spelled ∙ ap (λ (x : List ℕ). spell parts.value ++ x) u.spelled
            ∙ sym (append_assoc (spell parts.value) (spell_more b) rest)
            ∙ ap (λ (a : A). (spell a ++ spell_more b) ++ rest) (sym u.fits.0);
        fits = (subst Fits (sym u.fits.0) t.fits, u.fits.1);
        left = u.left;
      };
  again = λ b rest fits.
      ap (head >>= more) (append_assoc (spell (key b)) (spell_more b) rest)
      ∙ ap (λ (outcome : Outcome A). and_then outcome more) (one.again (key b) (spell_more b ++ rest) fits.0)
      ∙ (other (key b) fits.0).again b rest (refl, fits.1);
}

pub exact_pure : {A : Type 0} (a : A) → Exact (pure a) (λ _. []) (λ x. (x ≡ a) × Unit {0})
exact_pure a = record {
  takes = λ bytes x rest is_bytes e.
      let same = same_read a x bytes rest e in
      record { spelled = same.1; fits = (sym same.0, tt); left = subst IsBytes same.1 is_bytes };
  again = λ x rest fits. ap (λ y. done y rest) (sym fits.0);
}

-- the same rule, with its spelling and its values stated in another way
pub exact_as : {A : Type 0} (rule : Rule A) (spell : A → List ℕ) (Fits : A → Type 0) (spell_as : A → List ℕ)
    (FitsAs : A → Type 0)
    → Exact rule spell Fits → ((a : A) → Fits a → (spell a ≡ spell_as a) × FitsAs a) → ((a : A) → FitsAs a → Fits a)
    → Exact rule spell_as FitsAs
exact_as rule spell Fits spell_as FitsAs one there back = record {
  takes = λ bytes a rest is_bytes e.
      let t = one.takes bytes a rest is_bytes e in
      let same = there a t.fits in
      record { spelled = t.spelled ∙ ap (λ (x : List ℕ). x ++ rest) same.0; fits = same.1; left = t.left };
  again = λ a rest fits.
      ap (λ (x : List ℕ). rule (x ++ rest)) (sym (there a (back a fits)).0) ∙ one.again a rest (back a fits);
}

-- a rule that reads nothing
pub exact_fail : {A : Type 0} (fault : MsgError) (spell : A → List ℕ) (Fits : A → Type 0) → ((a : A) → Fits a → ⊥)
    → Exact (fail fault) spell Fits
exact_fail fault spell Fits none = record {
  takes = λ bytes a rest is_bytes e. absurd (never fault a rest e);
  again = λ a rest fits. absurd (none a fits);
}

-- one of two rules, by a test
exact_cond : {A : Type 0} (test : Bool) (rule other : Rule A) (spell : A → List ℕ) (Fits : A → Type 0)
    → (test ≡ true → Exact rule spell Fits) → (test ≡ false → Exact other spell Fits)
    → Exact (if test then rule else other) spell Fits
exact_cond true rule other spell Fits p q = p refl
exact_cond false rule other spell Fits p q = q refl

-- one of two rules, by a number that was read before, which is the key of what is read
pub exact_if : {A : Type 0} (kind one : ℕ) (rule other : Rule A) (spell : A → List ℕ) (Fits : A → Type 0) (key : A → ℕ)
    → Exact rule spell (λ a. (key a ≡ one) × Fits a)
    → ((kind ≡ one → ⊥) → Exact other spell (λ a. (key a ≡ kind) × Fits a))
    → Exact (if kind == one then rule else other) spell (λ a. (key a ≡ kind) × Fits a)
exact_if {A = A} kind one rule other spell Fits key it later =
    exact_cond (kind == one) rule other spell (λ a. (key a ≡ kind) × Fits a)
    (λ e. subst (λ (n : ℕ). Exact rule spell (λ a. (key a ≡ n) × Fits a)) (sym (eqb-true kind one e)) it)
    (λ e. later (eqb-false kind one e))

-- a value that is determined by its key alone
pub exact_value : {A : Type 0} (a : A) (spell : A → List ℕ) (Fits : A → Type 0) (key : A → ℕ) (one : ℕ)
    → spell a ≡ [] → key a ≡ one → Fits a → ((x : A) → key x ≡ one → x ≡ a)
    → Exact (pure a) spell (λ x. (key x ≡ one) × Fits x)
exact_value {A = A} a spell Fits key one none is fits alone =
    exact_as (pure a) (λ _. []) (λ x. (x ≡ a) × Unit {0}) spell (λ x. (key x ≡ one) × Fits x) (exact_pure a)
    (λ x same. subst (λ (y : A). ([] ≡ spell y) × ((key y ≡ one) × Fits y)) (sym same.0) (sym none, (is, fits)))
    (λ x keyed. (alone x keyed.0, tt))

-- values of one kind are made of those of another, by a function whose values are distinguished by `back`
pub exact_mapped : {A B : Type 0} (rule : Rule A) (spell : A → List ℕ) (Fits : A → Type 0) (f : A → B)
    (spell_made : B → List ℕ) (FitsMade : B → Type 0)
    → Exact rule spell Fits
    → ((a : A) → Fits a → (spell a ≡ spell_made (f a)) × FitsMade (f a))
    → ((b : B) → FitsMade b → (a : A) × ((f a ≡ b) × Fits a))
    → Exact (mapped f rule) spell_made FitsMade
exact_mapped {A = A} {B = B} rule spell Fits f spell_made FitsMade one made back = record {
  takes = λ bytes b rest is_bytes e.
      let parts = bound (rule bytes) (λ a. pure (f a)) b rest e in
      let t = one.takes bytes parts.value parts.middle is_bytes parts.first in
      let same = same_read (f parts.value) b parts.middle rest parts.second in
      let m = made parts.value t.fits in
      record {
        spelled = t.spelled ∙ ap (λ (x : List ℕ). spell parts.value ++ x) same.1
            ∙ ap (λ (x : List ℕ). x ++ rest) (m.0 ∙ ap spell_made same.0);
        fits = subst FitsMade same.0 m.1;
        left = subst IsBytes same.1 t.left;
      };
  again = λ b rest fits.
      let a = back b fits in
      let spelling : spell_made b ≡ spell a.0 = sym (ap spell_made a.1.0) ∙ sym (made a.0 a.1.1).0 in
      ap (λ (x : List ℕ). mapped f rule (x ++ rest)) spelling
      ∙ ap (λ (outcome : Outcome A). and_then outcome (λ a. pure (f a))) (one.again a.0 rest a.1.1)
      ∙ ap (λ (x : B). done x rest) a.1.0;
}

-- one after the other
pub exact_both : {A B : Type 0} (rule : Rule A) (spell : A → List ℕ) (Fits : A → Type 0) (other : Rule B)
    (spell_other : B → List ℕ) (FitsOther : B → Type 0)
    → Exact rule spell Fits → Exact other spell_other FitsOther
    → Exact (rule & other) (λ p. spell p.0 ++ spell_other p.1) (λ p. Fits p.0 × FitsOther p.1)
exact_both {A = A} {B = B} rule spell Fits other spell_other FitsOther one two =
    exact_then rule (λ a. mapped (λ b. (a, b)) other) spell (λ p. spell_other p.1) Fits (λ p. FitsOther p.1)
    (λ p. p.0) one
    (λ a _. exact_mapped other spell_other FitsOther (λ b. (a, b)) (λ p. spell_other p.1)
    (λ p. (p.0 ≡ a) × FitsOther p.1) two
    (λ b fits. (refl, (refl, fits)))
    (λ p fits. (p.1, (ap (λ (x : A). let pair : A × B = (x, p.1) in pair) (sym fits.0), fits.1))))

-- a test that is passed
tested_ok : {A : Type 0} (test : Bool) (fault : MsgError) (a b : A) (bytes rest : List ℕ)
    → if_passed test fault a bytes ≡ Ok (b, rest) → (test ≡ true) × ((a ≡ b) × (bytes ≡ rest))
tested_ok true fault a b bytes rest e = (refl, same_read a b bytes rest e)
tested_ok false fault a b bytes rest e = absurd (never fault b rest e)

pub exact_passed : {A : Type 0} (test : A → Bool) (fault : MsgError) (rule : Rule A) (spell : A → List ℕ)
    (Fits FitsTest : A → Type 0)
    → Exact rule spell Fits
    → ((a : A) → Fits a → test a ≡ true → FitsTest a)
    → ((a : A) → FitsTest a → (test a ≡ true) × Fits a)
    → Exact (passed test fault rule) spell FitsTest
exact_passed {A = A} test fault rule spell Fits FitsTest one holds told = record {
  takes = λ bytes b rest is_bytes e.
      let parts = bound (rule bytes) (λ a. if_passed (test a) fault a) b rest e in
      let t = one.takes bytes parts.value parts.middle is_bytes parts.first in
      let ok = tested_ok (test parts.value) fault parts.value b parts.middle rest parts.second in
      record {
        spelled = t.spelled ∙ ap (λ (x : List ℕ). spell parts.value ++ x) ok.1.1
            ∙ ap (λ (x : A). spell x ++ rest) ok.1.0;
        fits = subst FitsTest ok.1.0 (holds parts.value t.fits ok.0);
        left = subst IsBytes ok.1.1 t.left;
      };
  again = λ b rest fits.
      ap (λ (outcome : Outcome A). and_then outcome (λ a. if_passed (test a) fault a))
      (one.again b rest (told b fits).1)
      ∙ ap (λ (passes : Bool). if_passed passes fault b rest) (told b fits).0;
}

-- a number of values, one after the other
pub exact_many : {A : Type 0} (rule : Rule A) (spell : A → List ℕ) (Fits : A → Type 0) → Exact rule spell Fits → (n : ℕ)
    → Exact (many rule n) (flat_map spell) (λ all. (length all ≡ n) × AllByRecursion Fits all)
unfolding many
exact_many {A = A} rule spell Fits one zero = record {
  takes = λ bytes x rest is_bytes e.
      let same = same_read [] x bytes rest e in
      subst (λ (y : List A). TakesSpelling (flat_map spell) (λ all. (length all ≡ 0) × AllByRecursion Fits all) bytes y rest)
      same.0
      (record { spelled = same.1; fits = (refl, tt); left = subst IsBytes same.1 is_bytes });
  again = λ x rest fits. elim x as (λ y. length y ≡ 0 → many rule 0 (flat_map spell y ++ rest) ≡ Ok (y, rest))
      [ [] ↦ λ _. refl | (a ∷ others) ↦ λ long. absurd (omega (arith, long)) ] fits.0;
}
exact_many {A = A} rule spell Fits one (suc n) =
    let others = exact_many rule spell Fits one n in
    record {
      takes = λ bytes x rest is_bytes e.
          let parts = bound (rule bytes) (λ a. mapped (λ all. a ∷ all) (many rule n)) x rest e in
          let t = one.takes bytes parts.value parts.middle is_bytes parts.first in
          let later = bound (many rule n parts.middle) (λ all. pure (parts.value ∷ all)) x rest parts.second in
          let u = others.takes parts.middle later.value later.middle t.left later.first in
          let same = same_read (parts.value ∷ later.value) x later.middle rest later.second in
          subst (λ (y : List A). TakesSpelling (flat_map spell) (λ all. (length all ≡ suc n) × AllByRecursion Fits all) bytes
          y rest) same.0 (record {
            spelled = t.spelled ∙ ap (λ (y : List ℕ). spell parts.value ++ y)
                (u.spelled ∙ ap (λ (y : List ℕ). flat_map spell later.value ++ y) same.1)
                ∙ sym (append_assoc (spell parts.value) (flat_map spell later.value) rest)
                ∙ ap (λ (y : List ℕ). y ++ rest) (sym (flat_map-cons spell parts.value later.value));
            fits = (ap suc u.fits.0, (t.fits, u.fits.1));
            left = subst IsBytes same.1 u.left;
          });
      again = λ x rest fits.
          elim x as (λ y. length y ≡ suc n → AllByRecursion Fits y
          → many rule (suc n) (flat_map spell y ++ rest) ≡ Ok (y, rest)) [
            | [] ↦ λ long _. absurd (omega (arith, long))
            | (a ∷ all) ↦ λ long each.
                ap (λ (y : List ℕ). many rule (suc n) (y ++ rest)) (flat_map-cons spell a all)
                ∙ ap (many rule (suc n)) (append_assoc (spell a) (flat_map spell all) rest)
                ∙ ap (λ (outcome : Outcome A). and_then outcome (λ b. mapped (λ others. b ∷ others) (many rule n)))
                (one.again a (flat_map spell all ++ rest) each.0)
                ∙ ap (λ (outcome : Outcome (List A)). and_then outcome (λ others. pure (a ∷ others)))
                (others.again all rest (omega (arith, long), each.1))
          ] fits.0 fits.1;
    }
