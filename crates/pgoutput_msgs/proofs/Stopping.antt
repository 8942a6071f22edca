-- Where a rule stops that reads no value: at the first field that has a fault, or in a field that the bytes end within.
-- How this follows for a rule from its parts.
use Rattle.std.proofs.Common.{◌≡◌, ℕ, zero, suc, ◌≤◌, Bool, true, false, List, [], ◌∷◌, ◌++◌, length, Ok, Err, refl, sym, ap, subst, ◌∙◌, append_assoc, append-nil, arith, inl, inr}
use Rattle.std.specs.Prelude.{◌==◌, ◌⊎◌, if◌then◌else◌, Contains}
use Rattle.std.specs.List.{flat_map, AllByRecursion}
use Rattle.std.specs.Str.{IsUtf8}
use Rattle.std.proofs.lemmas.Bool.{eqb-true}
use Rattle.std.proofs.lemmas.List.{nil_from_length}
use Rattle.std.proofs.lemmas.List.Concat.{flat_map-cons}
use Rattle.pgoutput_msgs.specs.declared.error.MsgError.{MsgError}
use Rattle.pgoutput_msgs.specs.declared.error.MsgError.TheVariants.{Unknown, Toast, BadCount, Short, BadText, Trailing, OutOfMemory}
use Rattle.pgoutput_msgs.specs.Faults.{IsNegative}
use Rattle.pgoutput_msgs.specs.Laws.{IsBytes}
use Rattle.pgoutput_msgs.specs.Ranges.{IsName}
use Rattle.pgoutput_msgs.specs.Reading.{Outcome, Rule, pure, fail, and_then, ◌>>=◌, mapped, ◌&◌, many, byte}
use Rattle.pgoutput_msgs.specs.Spelling.{string}
use Rattle.pgoutput_msgs.proofs.Exact.{Exact}

-- what a fault says about the field that has it
abbrev pub IsBad : MsgError → List ℕ → Type 0
IsBad (Unknown found) field = field ≡ found ∷ []
IsBad Toast field = field ≡ 117 ∷ []
IsBad BadCount field = IsNegative field
IsBad BadText field = ¬ IsUtf8 field
IsBad Short field = ⊥
IsBad Trailing field = ⊥
IsBad OutOfMemory field = ⊥

-- some value is spelled by these bytes and others after them
pub record Begun {A : Type 0} (spell : A → List ℕ) (Fits : A → Type 0) (bytes : List ℕ) : Type 0 where
  pub value : A
  pub rest : List ℕ
  pub fits : Fits value
  pub spelled : spell value ≡ bytes ++ rest

-- at a field, whatever follows it
pub record AtField {A : Type 0} (rule : Rule A) (spell : A → List ℕ) (Fits : A → Type 0) (bytes : List ℕ)
    (fault : MsgError) : Type 0 where
  pub before : List ℕ
  pub field : List ℕ
  pub after : List ℕ
  pub bytes_are : bytes ≡ before ++ (field ++ after)
  pub begun : Begun spell Fits before
  pub is_bad : IsBad fault field
  pub stays : (more : List ℕ) → rule (before ++ (field ++ more)) ≡ Err fault

abbrev pub TooFew : {A : Type 0} → Rule A → List ℕ → List ℕ → Type 0
TooFew rule before part = (x : List ℕ) → length x ≤ length part → rule (before ++ x) ≡ Err Short

pub record Unended {A : Type 0} (spell : A → List ℕ) (Fits : A → Type 0) (before part : List ℕ) : Type 0 where
  pub is_name : (name : List ℕ) → IsName name → Begun spell Fits (before ++ string name)
  pub no_end : ¬ Contains part 0

-- in a field of which there is only a part
pub record AtEnd {A : Type 0} (rule : Rule A) (spell : A → List ℕ) (Fits : A → Type 0) (bytes : List ℕ)
    (fault : MsgError) : Type 0 where
  pub before : List ℕ
  pub part : List ℕ
  pub bytes_are : bytes ≡ before ++ part
  pub begun : Begun spell Fits before
  pub fault_is : fault ≡ Short
  pub lacks : TooFew rule before part ⊎ Unended spell Fits before part

abbrev pub Stops : {A : Type 0} → Rule A → (A → List ℕ) → (A → Type 0) → List ℕ → MsgError → Type 0
Stops rule spell Fits bytes fault = AtField rule spell Fits bytes fault ⊎ AtEnd rule spell Fits bytes fault

-- there is a value, and whatever is not read has such a place
pub record Halts {A : Type 0} (rule : Rule A) (spell : A → List ℕ) (Fits : A → Type 0) : Type 0 where
  pub value : A
  pub fits : Fits value
  pub stops : (bytes : List ℕ) (fault : MsgError) → IsBytes bytes → rule bytes ≡ Err fault
      → Stops rule spell Fits bytes fault

-- ---- outcomes

abbrev pub failed : {A : Type 0} → MsgError → Outcome A
failed fault = Err fault

same_fault : {A : Type 0} (fault other : MsgError) → (let one : Outcome A = Err fault in one ≡ Err other)
    → fault ≡ other
same_fault fault other e = cc

pub no_fault : {A : Type 0} (a : A) (rest : List ℕ) (fault : MsgError)
    → (let done : Outcome A = Ok (a, rest) in done ≡ Err fault) → ⊥
no_fault a rest fault e = absurd cc

-- the first part was read, and the second was not
pub record Second {A B : Type 0} (outcome : Outcome A) (more : A → Rule B) (fault : MsgError) : Type 0 where
  pub value : A
  pub middle : List ℕ
  pub first : outcome ≡ Ok (value, middle)
  pub second : more value middle ≡ Err fault

pub one_failed : {A B : Type 0} (outcome : Outcome A) (more : A → Rule B) (fault : MsgError)
    → and_then outcome more ≡ Err fault → (outcome ≡ Err fault) ⊎ Second outcome more fault
one_failed (Ok read) more fault e =
    inr (record { value = read.0; middle = read.1; first = refl; second = e })
one_failed {A = A} {B = B} (Err other) more fault e =
    inl (ap (λ (f : MsgError). failed {A = A} f) (same_fault {A = B} other fault e))

pub mapped_failed : {A B : Type 0} (f : A → B) (outcome : Outcome A) (fault : MsgError)
    → and_then outcome (λ a. pure (f a)) ≡ Err fault → outcome ≡ Err fault
mapped_failed f outcome fault e =
    elim (one_failed outcome (λ a. pure (f a)) fault e) [
      | inl first ↦ first
      | inr s ↦ absurd (no_fault (f s.value) s.middle fault s.second)
    ]

-- ---- a part of what a rule reads

-- a value that is spelled like this one after some bytes, and then goes on
pub record Made {A B : Type 0} (spell : A → List ℕ) (spell_whole : B → List ℕ) (FitsWhole : B → Type 0)
    (front : List ℕ) (a : A) : Type 0 where
  pub value : B
  pub tail : List ℕ
  pub fits : FitsWhole value
  pub spelled : spell_whole value ≡ front ++ (spell a ++ tail)

begun_whole : {A B : Type 0} (spell : A → List ℕ) (Fits : A → Type 0) (spell_whole : B → List ℕ)
    (FitsWhole : B → Type 0) (front : List ℕ)
    → ((a : A) → Fits a → Made spell spell_whole FitsWhole front a)
    → (bytes : List ℕ) → Begun spell Fits bytes → Begun spell_whole FitsWhole (front ++ bytes)
begun_whole spell Fits spell_whole FitsWhole front made bytes begun =
    let m = made begun.value begun.fits in
    record {
      value = m.value;
      rest = begun.rest ++ m.tail;
      fits = m.fits;
      spelled = m.spelled ∙ ap (λ (x : List ℕ). front ++ (x ++ m.tail)) begun.spelled
          ∙ ap (λ (x : List ℕ). front ++ x) (append_assoc bytes begun.rest m.tail)
          ∙ sym (append_assoc front bytes (begun.rest ++ m.tail));
    }

lacks_whole : {A B : Type 0} (rule : Rule A) (spell : A → List ℕ) (Fits : A → Type 0) (whole : Rule B)
    (spell_whole : B → List ℕ) (FitsWhole : B → Type 0) (front : List ℕ)
    → ((a : A) → Fits a → Made spell spell_whole FitsWhole front a)
    → ((x : List ℕ) (fault : MsgError) → rule x ≡ Err fault → whole (front ++ x) ≡ Err fault)
    → (before part : List ℕ) → TooFew rule before part ⊎ Unended spell Fits before part
    → TooFew whole (front ++ before) part ⊎ Unended spell_whole FitsWhole (front ++ before) part
lacks_whole rule spell Fits whole spell_whole FitsWhole front made fails before part (inl few) =
    inl (λ x small. ap whole (append_assoc front before x) ∙ fails (before ++ x) Short (few x small))
lacks_whole rule spell Fits whole spell_whole FitsWhole front made fails before part (inr unended) =
    inr (record {
      is_name = λ name is.
          subst (Begun spell_whole FitsWhole) (sym (append_assoc front before (string name)))
          (begun_whole spell Fits spell_whole FitsWhole front made (before ++ string name) (unended.is_name name is));
      no_end = unended.no_end;
    })

-- a rule that stops where a part of it does
pub stops_whole : {A B : Type 0} (rule : Rule A) (spell : A → List ℕ) (Fits : A → Type 0) (whole : Rule B)
    (spell_whole : B → List ℕ) (FitsWhole : B → Type 0) (front : List ℕ)
    → ((a : A) → Fits a → Made spell spell_whole FitsWhole front a)
    → ((x : List ℕ) (fault : MsgError) → rule x ≡ Err fault → whole (front ++ x) ≡ Err fault)
    → (bytes : List ℕ) (fault : MsgError) → Stops rule spell Fits bytes fault
    → Stops whole spell_whole FitsWhole (front ++ bytes) fault
stops_whole rule spell Fits whole spell_whole FitsWhole front made fails bytes fault (inl at) =
    inl (record {
      before = front ++ at.before;
      field = at.field;
      after = at.after;
      bytes_are = ap (λ (x : List ℕ). front ++ x) at.bytes_are
          ∙ sym (append_assoc front at.before (at.field ++ at.after));
      begun = begun_whole spell Fits spell_whole FitsWhole front made at.before at.begun;
      is_bad = at.is_bad;
      stays = λ more. ap whole (append_assoc front at.before (at.field ++ more))
          ∙ fails (at.before ++ (at.field ++ more)) fault (at.stays more);
    })
stops_whole rule spell Fits whole spell_whole FitsWhole front made fails bytes fault (inr at) =
    inr (record {
      before = front ++ at.before;
      part = at.part;
      bytes_are = ap (λ (x : List ℕ). front ++ x) at.bytes_are ∙ sym (append_assoc front at.before at.part);
      begun = begun_whole spell Fits spell_whole FitsWhole front made at.before at.begun;
      fault_is = at.fault_is;
      lacks = lacks_whole rule spell Fits whole spell_whole FitsWhole front made fails at.before at.part at.lacks;
    })

-- ---- rules from rules

pub halts_pure : {A : Type 0} (a : A) (spell : A → List ℕ) (Fits : A → Type 0) → Fits a → Halts (pure a) spell Fits
halts_pure a spell Fits fits = record {
  value = a;
  fits = fits;
  stops = λ bytes fault is_bytes e. absurd (no_fault a bytes fault e);
}

-- what is read first is determined by the whole: its key
pub halts_then : {A B : Type 0} (head : Rule A) (more : A → Rule B) (spell : A → List ℕ) (spell_more : B → List ℕ)
    (Fits : A → Type 0) (FitsMore : B → Type 0) (key : B → A)
    → Exact head spell Fits → Halts head spell Fits
    → ((a : A) → Fits a → Halts (more a) spell_more (λ b. (key b ≡ a) × FitsMore b))
    → Halts (head >>= more) (λ b. spell (key b) ++ spell_more b) (λ b. Fits (key b) × FitsMore b)
halts_then {A = A} {B = B} head more spell spell_more Fits FitsMore key exact one other =
    let SpellBoth : B → List ℕ = λ b. spell (key b) ++ spell_more b in
    let FitsBoth : B → Type 0 = λ b. Fits (key b) × FitsMore b in
    let value : (a : A) → Fits a → Made spell SpellBoth FitsBoth [] a = λ a fits.
    let o = other a fits in
    record {
      value = o.value;
      tail = spell_more o.value;
      fits = (subst Fits (sym o.fits.0) fits, o.fits.1);
      spelled = ap (λ (x : A). spell x ++ spell_more o.value) o.fits.0;
    } in
    let first = value one.value one.fits in
    record {
      value = first.value;
      fits = first.fits;
      stops = λ bytes fault is_bytes e.
          elim (one_failed (head bytes) more fault e) [
            | inl first ↦ stops_whole head spell Fits (head >>= more) SpellBoth FitsBoth [] value
                (λ x f g. ap (λ (outcome : Outcome A). and_then outcome more) g) bytes fault
                (one.stops bytes fault is_bytes first)
            | inr s ↦
                let t = exact.takes bytes s.value s.middle is_bytes s.first in
                let o = other s.value t.fits in
                subst (λ (x : List ℕ). Stops (head >>= more) SpellBoth FitsBoth x fault) (sym t.spelled)
                (stops_whole (more s.value) spell_more (λ b. (key b ≡ s.value) × FitsMore b) (head >>= more) SpellBoth
                FitsBoth (spell s.value)
                (λ b fits. record {
                  value = b;
                  tail = [];
                  fits = (subst Fits (sym fits.0) t.fits, fits.1);
                  spelled = ap (λ (x : A). spell x ++ spell_more b) fits.0
                      ∙ ap (λ (x : List ℕ). spell s.value ++ x) (sym (append-nil (spell_more b)));
                })
                (λ x f g. ap (λ (outcome : Outcome A). and_then outcome more) (exact.again s.value x t.fits) ∙ g)
                s.middle fault (o.stops s.middle fault t.left s.second))
          ];
    }

-- values of one kind are made of those of another
pub halts_mapped : {A B : Type 0} (rule : Rule A) (spell : A → List ℕ) (Fits : A → Type 0) (f : A → B)
    (spell_made : B → List ℕ) (FitsMade : B → Type 0)
    → Halts rule spell Fits → ((a : A) → Fits a → (spell a ≡ spell_made (f a)) × FitsMade (f a))
    → Halts (mapped f rule) spell_made FitsMade
halts_mapped {A = A} rule spell Fits f spell_made FitsMade one made = record {
  value = f one.value;
  fits = (made one.value one.fits).1;
  stops = λ bytes fault is_bytes e.
      stops_whole rule spell Fits (mapped f rule) spell_made FitsMade []
      (λ a fits. record {
        value = f a;
        tail = [];
        fits = (made a fits).1;
        spelled = sym (made a fits).0 ∙ sym (append-nil (spell a));
      })
      (λ x g h. ap (λ (outcome : Outcome A). and_then outcome (λ a. pure (f a))) h) bytes fault
      (one.stops bytes fault is_bytes (mapped_failed f (rule bytes) fault e));
}

-- the same rule, with its spelling and its values stated in another way
pub halts_as : {A : Type 0} (rule : Rule A) (spell : A → List ℕ) (Fits : A → Type 0) (spell_as : A → List ℕ)
    (FitsAs : A → Type 0)
    → Halts rule spell Fits → ((a : A) → Fits a → (spell a ≡ spell_as a) × FitsAs a) → Halts rule spell_as FitsAs
halts_as rule spell Fits spell_as FitsAs one made = record {
  value = one.value;
  fits = (made one.value one.fits).1;
  stops = λ bytes fault is_bytes e.
      stops_whole rule spell Fits rule spell_as FitsAs []
      (λ a fits. record {
        value = a;
        tail = [];
        fits = (made a fits).1;
        spelled = sym (made a fits).0 ∙ sym (append-nil (spell a));
      })
      (λ x g h. h) bytes fault (one.stops bytes fault is_bytes e);
}

-- one after the other
pub halts_both : {A B : Type 0} (rule : Rule A) (spell : A → List ℕ) (Fits : A → Type 0) (other : Rule B)
    (spell_other : B → List ℕ) (FitsOther : B → Type 0)
    → Exact rule spell Fits → Halts rule spell Fits → Halts other spell_other FitsOther
    → Halts (rule & other) (λ p. spell p.0 ++ spell_other p.1) (λ p. Fits p.0 × FitsOther p.1)
halts_both {A = A} {B = B} rule spell Fits other spell_other FitsOther exact one two =
    halts_then rule (λ a. mapped (λ b. (a, b)) other) spell (λ p. spell_other p.1) Fits (λ p. FitsOther p.1)
    (λ p. p.0) exact one
    (λ a _. halts_mapped other spell_other FitsOther (λ b. (a, b)) (λ p. spell_other p.1)
    (λ p. (p.0 ≡ a) × FitsOther p.1) two (λ b fits. (refl, (refl, fits))))

-- a number of values, one after the other
pub halts_many : {A : Type 0} (rule : Rule A) (spell : A → List ℕ) (Fits : A → Type 0) → Exact rule spell Fits
    → Halts rule spell Fits → (n : ℕ)
    → Halts (many rule n) (flat_map spell) (λ all. (length all ≡ n) × AllByRecursion Fits all)
unfolding many
halts_many {A = A} rule spell Fits exact one zero =
    halts_pure [] (flat_map spell) (λ all. (length all ≡ 0) × AllByRecursion Fits all) (refl, tt)
halts_many {A = A} rule spell Fits exact one (suc n) =
    let others = halts_many rule spell Fits exact one n in
    let FitsAll : List A → Type 0 = λ all. (length all ≡ suc n) × AllByRecursion Fits all in
    let more : A → Rule (List A) = λ a. mapped (λ all. a ∷ all) (many rule n) in
    let value : (a : A) → Fits a → Made spell (flat_map spell) FitsAll [] a = λ a fits. record {
      value = a ∷ others.value;
      tail = flat_map spell others.value;
      fits = (ap suc others.fits.0, (fits, others.fits.1));
      spelled = flat_map-cons spell a others.value;
    } in
    let first = value one.value one.fits in
    record {
      value = first.value;
      fits = first.fits;
      stops = λ bytes fault is_bytes e.
          elim (one_failed (rule bytes) more fault e) [
            | inl first ↦ stops_whole rule spell Fits (many rule (suc n)) (flat_map spell) FitsAll [] value
                (λ x f g. ap (λ (outcome : Outcome A). and_then outcome more) g) bytes fault
                (one.stops bytes fault is_bytes first)
            | inr s ↦
                let t = exact.takes bytes s.value s.middle is_bytes s.first in
                subst (λ (x : List ℕ). Stops (many rule (suc n)) (flat_map spell) FitsAll x fault) (sym t.spelled)
                (stops_whole (many rule n) (flat_map spell) (λ all. (length all ≡ n) × AllByRecursion Fits all)
                (many rule (suc n)) (flat_map spell) FitsAll (spell s.value)
                (λ all fits. record {
                  value = s.value ∷ all;
                  tail = [];
                  fits = (ap suc fits.0, (t.fits, fits.1));
                  spelled = flat_map-cons spell s.value all
                      ∙ ap (λ (x : List ℕ). spell s.value ++ x) (sym (append-nil (flat_map spell all)));
                })
                (λ x f g. ap (λ (outcome : Outcome A). and_then outcome more) (exact.again s.value x t.fits)
                ∙ ap (λ (outcome : Outcome (List A)). and_then outcome (λ all. pure (s.value ∷ all))) g)
                s.middle fault
                (others.stops s.middle fault t.left
                (mapped_failed (λ all. s.value ∷ all) (many rule n s.middle) fault s.second)))
          ];
    }

-- ---- rules by a letter

-- a letter that may not be there
pub record Refuses {A : Type 0} (rule : Rule A) (kind : ℕ) : Type 0 where
  pub fault : MsgError
  pub is_bad : IsBad fault (kind ∷ [])
  pub always : (bytes : List ℕ) → rule bytes ≡ Err fault

-- what follows a letter: the values that begin with it, or nothing
abbrev pub Branch : {A : Type 0} → Rule A → ℕ → (A → List ℕ) → (A → Type 0) → (A → ℕ) → Type 0
Branch rule kind spell Fits key = Halts rule spell (λ a. (key a ≡ kind) × Fits a) ⊎ Refuses rule kind

pub unknown : {A : Type 0} (kind : ℕ) (spell : A → List ℕ) (Fits : A → Type 0) (key : A → ℕ)
    → Branch (fail (Unknown kind)) kind spell Fits key
unknown kind spell Fits key = inr (record { fault = Unknown kind; is_bad = refl; always = λ bytes. refl })

chosen : {A : Type 0} (test : Bool) (kind : ℕ) (rule other : Rule A) (spell : A → List ℕ) (Fits : A → Type 0)
    (key : A → ℕ)
    → (test ≡ true → Branch rule kind spell Fits key) → Branch other kind spell Fits key
    → Branch (if test then rule else other) kind spell Fits key
chosen true kind rule other spell Fits key p q = p refl
chosen false kind rule other spell Fits key p q = q

pub branch_if : {A : Type 0} (kind one : ℕ) (rule other : Rule A) (spell : A → List ℕ) (Fits : A → Type 0)
    (key : A → ℕ)
    → Branch rule one spell Fits key → Branch other kind spell Fits key
    → Branch (if kind == one then rule else other) kind spell Fits key
branch_if kind one rule other spell Fits key it later =
    chosen (kind == one) kind rule other spell Fits key
    (λ e. subst (λ (n : ℕ). Branch rule n spell Fits key) (sym (eqb-true kind one e)) it) later

pub halts_letter : {A : Type 0} (by : ℕ → Rule A) (spell : A → List ℕ) (Fits : A → Type 0) (key : A → ℕ) (a : A)
    → Fits a → ((kind : ℕ) → Branch (by kind) kind spell Fits key)
    → Halts (byte >>= by) (λ x. key x ∷ spell x) Fits
unfolding byte
halts_letter {A = A} by spell Fits key a fits branches =
    let Spelled : A → List ℕ = λ x. key x ∷ spell x in
    let begun : Begun Spelled Fits [] = record { value = a; rest = Spelled a; fits = fits; spelled = refl } in
    let stops_by : (kind : ℕ) (rest : List ℕ) (fault : MsgError) → IsBytes rest → by kind rest ≡ Err fault
    → Stops (byte >>= by) Spelled Fits (kind ∷ rest) fault = λ kind rest fault is_bytes e.
    elim (branches kind) [
      | inl halts ↦ stops_whole (by kind) spell (λ x. (key x ≡ kind) × Fits x) (byte >>= by) Spelled Fits
          (kind ∷ [])
          (λ x is. record {
            value = x;
            tail = [];
            fits = is.1;
            spelled = ap (λ (n : ℕ). n ∷ spell x) is.0
                ∙ ap (λ (y : List ℕ). kind ∷ y) (sym (append-nil (spell x)));
          })
          (λ x f g. g) rest fault (halts.stops rest fault is_bytes e)
      | inr refuses ↦
          let is : refuses.fault ≡ fault = same_fault {A = A} refuses.fault fault
          (sym (refuses.always rest) ∙ e) in
          inl (record {
            before = [];
            field = kind ∷ [];
            after = rest;
            bytes_are = refl;
            begun = begun;
            is_bad = subst (λ (f : MsgError). IsBad f (kind ∷ [])) is refuses.is_bad;
            stays = λ more. refuses.always more ∙ ap (λ (f : MsgError). failed {A = A} f) is;
          })
    ] in
    record {
      value = a;
      fits = fits;
      stops = λ bytes fault is_bytes.
          elim bytes as (λ x. IsBytes x → (byte >>= by) x ≡ Err fault → Stops (byte >>= by) Spelled Fits x fault) [
            | [] ↦ λ _ e. inr (record {
              before = [];
              part = [];
              bytes_are = refl;
              begun = begun;
              fault_is = sym (same_fault {A = A} Short fault e);
              lacks = inl (λ x small. ap (byte >>= by) (nil_from_length x (omega (arith, small))));
            })
            | (kind ∷ rest) ↦ λ are e. stops_by kind rest fault (λ i. are (suc i)) e
          ] is_bytes;
    }
