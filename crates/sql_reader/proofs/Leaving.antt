-- What each step of a rule preserves of what was read and of the tokens left, a list or a chain of steps preserves.
use Rattle.std.proofs.Common.{ℕ, zero, suc, Bool, true, false}
use Rattle.std.specs.Prelude.{nat_lt, if◌then◌else◌, Option, Some, None, Result, Ok, Err}
use Rattle.sql_reader.specs.declared.item.Item.{Item}
use Rattle.sql_reader.specs.Items.{Items, size}
use Rattle.sql_reader.specs.Reading.{Fault, Outcome, Rule, and_then, next_is, rest_of}
use Rattle.sql_reader.specs.Repetitions.{RepeatStep, after_step, goes, at_most, repeat, link, linked, one_more, each, guarded}

-- P holds for what was read and for the tokens left, if nothing is wrong
abbrev pub Leaves : {A : Type 0} → (A → Items → Type 0) → Outcome A → Type 0
Leaves P (Ok read) = P read.0 read.1
Leaves P (Err fault) = Unit {0}

abbrev LeavesMore : {S : Type 0} → (S → Items → Type 0) → Result (Option (S × Items)) Fault → Type 0
LeavesMore P (Ok (Some read)) = P read.0 read.1
LeavesMore P (Ok None) = Unit {0}
LeavesMore P (Err fault) = Unit {0}

-- rules in sequence
pub then-leaves : {A B : Type 0} (Q : A → Items → Type 0) (P : B → Items → Type 0) (read : Outcome A)
    (more : A → Rule B) → Leaves Q read →
    ((a : A) (ts : Items) → Q a ts → Leaves P (more a ts)) → Leaves P (and_then read more)
then-leaves Q P (Ok read) more q h = h read.0 read.1 q
then-leaves Q P (Err fault) more q h = tt

pub chosen-leaves : {A : Type 0} (P : A → Items → Type 0) (b : Bool) (one other : Outcome A) → Leaves P one
    → Leaves P other → Leaves P (if b then one else other)
chosen-leaves P true one other h k = h
chosen-leaves P false one other h k = k

-- ---- turns

abbrev Keeps : {S : Type 0} → (S → Items → Type 0) → (S → Rule S) → Type 0
Keeps P read = (s : _) (ts : Items) → P s ts → Leaves P (read s ts)

abbrev StepKeeps : {S : Type 0} → (S → Items → Type 0) → RepeatStep S → Type 0
StepKeeps P step = (s : _) (ts : Items) → P s ts → LeavesMore P (step s ts)

after-leaves : {S : Type 0} (P : S → Items → Type 0) (n : ℕ) (step : RepeatStep S) (s : S) (ts : Items) → P s ts →
    ((s2 : S) (ts2 : Items) → P s2 ts2 → Leaves P (at_most n step s2 ts2)) →
    (read : Result (Option (S × Items)) Fault) → LeavesMore P read
    → Leaves P (after_step read (goes (at_most n step) s ts))
after-leaves P n step s ts p again (Err fault) h = tt
after-leaves P n step s ts p again (Ok None) h = p
after-leaves P n step s ts p again (Ok (Some x)) h =
    chosen-leaves P (nat_lt (size x.1) (size ts)) (at_most n step x.0 x.1) (Ok x) (again x.0 x.1 h) h

at_most-leaves : {S : Type 0} (P : S → Items → Type 0) (n : ℕ) (step : RepeatStep S) → StepKeeps P step
    → (s : S) (ts : Items) → P s ts → Leaves P (at_most n step s ts)
unfolding at_most
at_most-leaves P zero step e s ts p = p
at_most-leaves P (suc n) step e s ts p =
    after-leaves P n step s ts p (λ s2 ts2 p2. at_most-leaves P n step e s2 ts2 p2) (step s ts) (e s ts p)

repeat-leaves : {S : Type 0} (P : S → Items → Type 0) (step : RepeatStep S) → StepKeeps P step → (s : S) (ts : Items)
    → P s ts → Leaves P (repeat step s ts)
unfolding repeat
repeat-leaves P step e s ts p = at_most-leaves P (suc (size ts)) step e s ts p

one_more-leaves : {S : Type 0} (P : S → Items → Type 0) (read : Outcome S) → Leaves P read
    → LeavesMore P (one_more read)
one_more-leaves P (Ok read) h = h
one_more-leaves P (Err fault) h = tt

-- a list; the token of each separator is consumed, and what is looked at stays
module _ {S : Type 0} (P : S → Items → Type 0) (read : S → Rule S) (keeps : Keeps P read) where
  linked-leaves : (s : S) (is : Outcome Bool) → Leaves (λ more ts. P s (rest_of ts)) is
      → LeavesMore P (linked read s is)
  linked-leaves s (Err fault) h = tt
  linked-leaves s (Ok (true, ts)) h = one_more-leaves P (read s (rest_of ts)) (keeps s (rest_of ts) h)
  linked-leaves s (Ok (false, ts)) h = tt

  pub links-leave : (separator : Item)
      → ((s : S) (ts : Items) → P s ts → Leaves (λ more ts2. P s (rest_of ts2)) (next_is separator ts))
      → (s : S) (ts : Items) → P s ts → Leaves P (repeat (link separator read) s ts)
  unfolding link
  links-leave separator looks s ts p =
      repeat-leaves P (link separator read) (λ s2 ts2 p2. linked-leaves s2 (next_is separator ts2) (looks s2 ts2 p2))
      s ts p

  guarded-leaves : (s : S) (ts : Items) → P s ts → (more : Result Bool Fault) → LeavesMore P (guarded read s ts more)
  guarded-leaves s ts p (Err fault) = tt
  guarded-leaves s ts p (Ok true) = one_more-leaves P (read s ts) (keeps s ts p)
  guarded-leaves s ts p (Ok false) = tt

  pub each-leave : (more : Items → Result Bool Fault) → (s : S) (ts : Items) → P s ts
      → Leaves P (repeat (each more read) s ts)
  unfolding each
  each-leave more s ts p = repeat-leaves P (each more read) (λ s2 ts2 p2. guarded-leaves s2 ts2 p2 (more ts2)) s ts p
