-- What each step of a rule preserves, a list or a chain of steps preserves.
use Rattle.std.proofs.Common.{ℕ, zero, suc, Bool, true, false}
use Rattle.std.specs.Prelude.{nat_lt, if◌then◌else◌, Option, Some, None, Result, Ok, Err}
use Rattle.sql_reader.specs.declared.item.Item.{Item}
use Rattle.sql_reader.specs.Items.{Items, size}
use Rattle.sql_reader.specs.Reading.{Fault, Outcome, Rule, and_then, next_is, rest_of}
use Rattle.sql_reader.specs.Repetitions.{RepeatStep, after_step, goes, at_most, repeat, link, linked, one_more, each, guarded}

-- P holds for what was read, if nothing is wrong
abbrev pub Gives : {A : Type 0} → (A → Type 0) → Outcome A → Type 0
Gives P (Ok read) = P read.0
Gives P (Err fault) = Unit {0}

abbrev pub GivesMore : {S : Type 0} → (S → Type 0) → Result (Option (S × Items)) Fault → Type 0
GivesMore P (Ok (Some read)) = P read.0
GivesMore P (Ok None) = Unit {0}
GivesMore P (Err fault) = Unit {0}

-- rules in sequence: the second gives P of what the first gives, or of whatever it gives
pub then-gives : {A B : Type 0} (Q : A → Type 0) (P : B → Type 0) (read : Outcome A) (more : A → Rule B)
    → Gives Q read →
    ((a : A) (ts : Items) → Q a → Gives P (more a ts)) → Gives P (and_then read more)
then-gives Q P (Ok read) more q h = h read.0 read.1 q
then-gives Q P (Err fault) more q h = tt

pub any-gives : {A B : Type 0} (P : B → Type 0) (read : Outcome A) (more : A → Rule B)
    → ((a : A) (ts : Items) → Gives P (more a ts)) → Gives P (and_then read more)
any-gives P (Ok read) more h = h read.0 read.1
any-gives P (Err fault) more h = tt

pub chosen-gives : {A : Type 0} (P : A → Type 0) (b : Bool) (one other : Outcome A) → Gives P one → Gives P other
    → Gives P (if b then one else other)
chosen-gives P true one other h k = h
chosen-gives P false one other h k = k

pub chosen_rule-gives : {A : Type 0} (P : A → Type 0) (b : Bool) (one other : Rule A) (ts : Items) → Gives P (one ts)
    → Gives P (other ts) → Gives P ((if b then one else other) ts)
chosen_rule-gives P true one other ts h k = h
chosen_rule-gives P false one other ts h k = k

-- ---- turns

after-gives : {S : Type 0} (P : S → Type 0) (n : ℕ) (step : RepeatStep S) (s : S) (ts : Items) → P s →
    ((s2 : S) (ts2 : Items) → P s2 → Gives P (at_most n step s2 ts2)) →
    (read : Result (Option (S × Items)) Fault) → GivesMore P read
    → Gives P (after_step read (goes (at_most n step) s ts))
after-gives P n step s ts p again (Err fault) h = tt
after-gives P n step s ts p again (Ok None) h = p
after-gives P n step s ts p again (Ok (Some x)) h =
    chosen-gives P (nat_lt (size x.1) (size ts)) (at_most n step x.0 x.1) (Ok x) (again x.0 x.1 h) h

at_most-gives : {S : Type 0} (P : S → Type 0) (n : ℕ) (step : RepeatStep S)
    → ((s : S) (ts : Items) → P s → GivesMore P (step s ts)) →
    (s : S) (ts : Items) → P s → Gives P (at_most n step s ts)
unfolding at_most
at_most-gives P zero step e s ts p = p
at_most-gives P (suc n) step e s ts p =
    after-gives P n step s ts p (λ s2 ts2 p2. at_most-gives P n step e s2 ts2 p2) (step s ts) (e s ts p)

pub repeat-gives : {S : Type 0} (P : S → Type 0) (step : RepeatStep S)
    → ((s : S) (ts : Items) → P s → GivesMore P (step s ts)) →
    (s : S) (ts : Items) → P s → Gives P (repeat step s ts)
unfolding repeat
repeat-gives P step e s ts p = at_most-gives P (suc (size ts)) step e s ts p

one_more-gives : {S : Type 0} (P : S → Type 0) (read : Outcome S) → Gives P read → GivesMore P (one_more read)
one_more-gives P (Ok read) h = h
one_more-gives P (Err fault) h = tt

linked-gives : {S : Type 0} (P : S → Type 0) (read : S → Rule S) → ((s : S) (ts : Items) → P s → Gives P (read s ts)) →
    (s : S) → P s → (is : Outcome Bool) → GivesMore P (linked read s is)
linked-gives P read e s p (Err fault) = tt
linked-gives P read e s p (Ok (true, ts)) = one_more-gives P (read s (rest_of ts)) (e s (rest_of ts) p)
linked-gives P read e s p (Ok (false, ts)) = tt

pub link-gives : {S : Type 0} (P : S → Type 0) (separator : Item) (read : S → Rule S)
    → ((s : S) (ts : Items) → P s → Gives P (read s ts)) →
    (s : S) (ts : Items) → P s → GivesMore P (link separator read s ts)
unfolding link
link-gives P separator read e s ts p = linked-gives P read e s p (next_is separator ts)

guarded-gives : {S : Type 0} (P : S → Type 0) (read : S → Rule S) → ((s : S) (ts : Items) → P s → Gives P (read s ts)) →
    (s : S) (ts : Items) → P s → (more : Result Bool Fault) → GivesMore P (guarded read s ts more)
guarded-gives P read e s ts p (Err fault) = tt
guarded-gives P read e s ts p (Ok true) = one_more-gives P (read s ts) (e s ts p)
guarded-gives P read e s ts p (Ok false) = tt

pub each-gives : {S : Type 0} (P : S → Type 0) (more : Items → Result Bool Fault) (read : S → Rule S)
    → ((s : S) (ts : Items) → P s → Gives P (read s ts)) →
    (s : S) (ts : Items) → P s → GivesMore P (each more read s ts)
unfolding each
each-gives P more read e s ts p = guarded-gives P read e s ts p (more ts)
