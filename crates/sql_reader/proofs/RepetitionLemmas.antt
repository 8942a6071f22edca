-- How a loop goes through the steps of a list: each round takes the first step of what is left.
use Rattle.std.proofs.Common.{◌≡◌, ℕ, zero, suc, ◌<◌, Bool, true, false, refl, ap, ◌∙◌, arith}
use Rattle.std.specs.Prelude.{nat_lt, Option, Some, None, Result, Ok, Err}
use Rattle.std.proofs.lemmas.Bool.Decides.{nat_tests}
use Rattle.filter_tree.specs.Memory.{TellsFault}
use Rattle.sql_reader.specs.declared.item.Item.{Item}
use Rattle.sql_reader.specs.declared.error.ReadError.{ReadError}
use Rattle.sql_reader.specs.Items.{Items, size}
use Rattle.sql_reader.specs.Reading.{Fault, Outcome, Rule, next_is, rest_of, Tells, read_fault}
use Rattle.sql_reader.specs.Repetitions.{RepeatStep, after_step, goes, at_most, repeat, link, linked, one_more, each, guarded}
use Rattle.filter_tree.proofs.Tests.{by_test}

is_less : (m n : ℕ) → nat_lt m n ≡ true → m < n
is_less m n e = grind (arith, nat_tests)

tests_less : (m n : ℕ) → m < n → nat_lt m n ≡ true
tests_less m n h = grind (arith, nat_tests)

turned : {S : Type 0} (n m : ℕ) (step : RepeatStep S) (s : S) (ts : Items)
    → ((x : S × Items) → size x.1 < size ts → at_most n step x.0 x.1 ≡ at_most m step x.0 x.1) →
    (read : Result (Option (S × Items)) Fault)
    → after_step read (goes (at_most n step) s ts) ≡ after_step read (goes (at_most m step) s ts)
turned n m step s ts again (Err f) = refl
turned n m step s ts again (Ok None) = refl
turned n m step s ts again (Ok (Some x)) =
    by_test (nat_lt (size x.1) (size ts)) (λ e. rw e (again x (is_less (size x.1) (size ts) e))) (λ e. rw e refl)

enough_turn : {S : Type 0} (step : RepeatStep S) (n m : ℕ) (s : S) (ts : Items) → size ts < m →
    ((k : ℕ) (x : S × Items) → size x.1 < n → size x.1 < k → at_most n step x.0 x.1 ≡ at_most k step x.0 x.1) →
    size ts < suc n → at_most (suc n) step s ts ≡ at_most m step s ts
unfolding at_most
enough_turn step n zero s ts k again h = absurd (omega arith)
enough_turn step n (suc m) s ts k again h =
    turned n m step s ts (λ x fewer. again m x (omega arith) (omega arith)) (step s ts)

-- more turns than tokens change nothing
enough : {S : Type 0} (step : RepeatStep S) (n m : ℕ) (s : S) (ts : Items) → size ts < n → size ts < m
    → at_most n step s ts ≡ at_most m step s ts
enough step zero m s ts h k = absurd (omega arith)
enough step (suc n) m s ts h k = enough_turn step n m s ts k (λ j x h2 k2. enough step n j x.0 x.1 h2 k2) h

one_turn : {S : Type 0} (step : RepeatStep S) (s : S) (ts : Items)
    → repeat step s ts ≡ after_step (step s ts) (goes (at_most (size ts) step) s ts)
unfolding repeat at_most
one_turn step s ts = refl

-- one more step
pub goes_on : {S : Type 0} (step : RepeatStep S) (s : S) (ts : Items) (s2 : S) (ts2 : Items)
    → step s ts ≡ Ok (Some (s2, ts2)) → size ts2 < size ts → repeat step s ts ≡ repeat step s2 ts2
unfolding repeat
goes_on {S} step s ts s2 ts2 e fewer =
    let more : Result (Option (S × Items)) Fault → Outcome S =
    λ read. after_step read (goes (at_most (size ts) step) s ts) in
    let less : nat_lt (size ts2) (size ts) ≡ true = tests_less (size ts2) (size ts) fewer in
    let taken : goes (at_most (size ts) step) s ts (Some (s2, ts2)) ≡ at_most (size ts) step s2 ts2 = rw less refl in
    one_turn step s ts ∙ ap more e ∙ taken ∙ enough step (size ts) (suc (size ts2)) s2 ts2 fewer (omega arith)

-- no more steps
pub ends : {S : Type 0} (step : RepeatStep S) (s : S) (ts : Items) → step s ts ≡ Ok None → repeat step s ts ≡ Ok (s, ts)
ends {S} step s ts e =
    let more : Result (Option (S × Items)) Fault → Outcome S =
    λ read. after_step read (goes (at_most (size ts) step) s ts) in
    one_turn step s ts ∙ ap more e

-- a step that fails
pub fails : {S : Type 0} (step : RepeatStep S) (s : S) (ts : Items) (f : Fault) → step s ts ≡ Err f
    → repeat step s ts ≡ Err f
fails {S} step s ts f e =
    let more : Result (Option (S × Items)) Fault → Outcome S =
    λ read. after_step read (goes (at_most (size ts) step) s ts) in
    one_turn step s ts ∙ ap more e

-- ---- the same for a loop whose step is a separator and one more

pub link-goes_on : {S : Type 0} (separator : Item) (read : S → Rule S) (s : S) (ts : Items) (s2 : S) (ts2 : Items) →
    next_is separator ts ≡ Ok (true, ts) → read s (rest_of ts) ≡ Ok (s2, ts2) → size ts2 < size ts →
    repeat (link separator read) s ts ≡ repeat (link separator read) s2 ts2
unfolding link
link-goes_on {S} separator read s ts s2 ts2 is taken fewer =
    let step : link separator read s ts ≡ Ok (Some (s2, ts2)) = ap (linked read s) is ∙ ap one_more taken in
    goes_on (link separator read) s ts s2 ts2 step fewer

pub link-ends : {S : Type 0} (separator : Item) (read : S → Rule S) (s : S) (ts : Items) →
    next_is separator ts ≡ Ok (false, ts) → repeat (link separator read) s ts ≡ Ok (s, ts)
unfolding link
link-ends separator read s ts is = ends (link separator read) s ts (ap (linked read s) is)

pub link-look_fails : {S : Type 0} (separator : Item) (read : S → Rule S) (s : S) (ts : Items) (e : ReadError) →
    Tells e (next_is separator ts) → Tells e (repeat (link separator read) s ts)
unfolding link
link-look_fails {S} separator read s ts e tells = by_fault (read_fault e) tells
  where
    by_fault : (found : Option Fault) → TellsFault found (next_is separator ts)
        → TellsFault found (repeat (link separator read) s ts)
    by_fault None h = tt
    by_fault (Some found) h = fails (link separator read) s ts found (ap (linked read s) h)

pub link-part_fails : {S : Type 0} (separator : Item) (read : S → Rule S) (s : S) (ts : Items) (e : ReadError) →
    next_is separator ts ≡ Ok (true, ts) → Tells e (read s (rest_of ts)) → Tells e (repeat (link separator read) s ts)
unfolding link
link-part_fails {S} separator read s ts e is tells = by_fault (read_fault e) tells
  where
    by_fault : (found : Option Fault) → TellsFault found (read s (rest_of ts))
        → TellsFault found (repeat (link separator read) s ts)
    by_fault None h = tt
    by_fault (Some found) h = fails (link separator read) s ts found (ap (linked read s) is ∙ ap one_more h)

-- ---- the same for a loop whose parts themselves show whether there is one more

pub each-goes_on : {S : Type 0} (more : Items → Result Bool Fault) (read : S → Rule S) (s : S) (ts : Items) (s2 : S)
    (ts2 : Items) →
    more ts ≡ Ok true → read s ts ≡ Ok (s2, ts2) → size ts2 < size ts →
    repeat (each more read) s ts ≡ repeat (each more read) s2 ts2
unfolding each
each-goes_on {S} more read s ts s2 ts2 is taken fewer =
    let step : each more read s ts ≡ Ok (Some (s2, ts2)) = ap (guarded read s ts) is ∙ ap one_more taken in
    goes_on (each more read) s ts s2 ts2 step fewer

pub each-ends : {S : Type 0} (more : Items → Result Bool Fault) (read : S → Rule S) (s : S) (ts : Items) →
    more ts ≡ Ok false → repeat (each more read) s ts ≡ Ok (s, ts)
unfolding each
each-ends more read s ts is = ends (each more read) s ts (ap (guarded read s ts) is)

pub each-look_fails : {S : Type 0} (more : Items → Result Bool Fault) (read : S → Rule S) (s : S) (ts : Items)
    (e : ReadError) →
    Tells e (more ts) → Tells e (repeat (each more read) s ts)
unfolding each
each-look_fails {S} more read s ts e tells = by_fault (read_fault e) tells
  where
    by_fault : (found : Option Fault) → TellsFault found (more ts) → TellsFault found (repeat (each more read) s ts)
    by_fault None h = tt
    by_fault (Some found) h = fails (each more read) s ts found (ap (guarded read s ts) h)

pub each-part_fails : {S : Type 0} (more : Items → Result Bool Fault) (read : S → Rule S) (s : S) (ts : Items)
    (e : ReadError) →
    more ts ≡ Ok true → Tells e (read s ts) → Tells e (repeat (each more read) s ts)
unfolding each
each-part_fails {S} more read s ts e is tells = by_fault (read_fault e) tells
  where
    by_fault : (found : Option Fault) → TellsFault found (read s ts) → TellsFault found (repeat (each more read) s ts)
    by_fault None h = tt
    by_fault (Some found) h = fails (each more read) s ts found (ap (guarded read s ts) is ∙ ap one_more h)

pub ruleset chains = (link-goes_on, link-ends, link-look_fails, link-part_fails)

pub ruleset turns = (each-goes_on, each-ends, each-look_fails, each-part_fails)
