-- The grammar reads the same, whatever its forms make: what one kind of forms makes of a text is carried over to what
-- another kind makes.
use Rattle.std.proofs.Common.{◌≡◌, ℕ, zero, suc, ℤ, Bool, true, false, List, refl, ap, ◌∙◌}
use Rattle.std.specs.Prelude.{Option, Some, None, Result, Ok, Err, nat_lt}
use Rattle.filter_tree.specs.declared.filter.Op.{Op}
use Rattle.filter_tree.specs.declared.filter.Term.{Term}
use Rattle.filter_tree.specs.declared.filter.Test.{Test}
use Rattle.filter_tree.specs.Datum.{Constant}
use Rattle.sql_reader.specs.declared.item.Item.{Item}
use Rattle.sql_reader.specs.Items.{Items, size}
use Rattle.sql_reader.specs.Operands.{Forms}
use Rattle.sql_reader.specs.Reading.{Fault, Outcome, Rule, and_then, next_is, rest_of}
use Rattle.sql_reader.specs.Repetitions.{RepeatStep, after_step, goes, at_most, repeat, link, linked, one_more, each, guarded}
use Rattle.filter_tree.proofs.Tests.{by_test}

-- an outcome with its value carried over
abbrev pub mapped : {S T : Type 0} → (S → T) → Outcome S → Outcome T
mapped h (Ok read) = Ok (h read.0, read.1)
mapped h (Err fault) = Err fault

-- what one kind of forms makes is carried over to what the other makes
pub record Carries {S T : Type 0} (from : Forms S) (to : Forms T) (h : S → T) : Type 0 where
  pub known : (truth : Bool) → to.known truth ≡ h (from.known truth)
  pub held : (column : ℕ) → to.held column ≡ h (from.held column)
  pub compared : (term : Term) (op : Op) (constant : Constant)
      → to.compared term op constant ≡ h (from.compared term op constant)
  pub compared_from : (constant : Constant) (op : Op) (term : Term)
      → to.compared_from constant op term ≡ h (from.compared_from constant op term)
  pub among : (term : Term) (first : Constant) (others : List Constant)
      → to.among term first others ≡ h (from.among term first others)
  pub between : (term : Term) (low high : ℤ) → to.between term low high ≡ h (from.between term low high)
  pub distinct : (term : Term) (constant : Constant) → to.distinct term constant ≡ h (from.distinct term constant)
  pub lacking : (term : Term) → to.lacking term ≡ h (from.lacking term)
  pub asked : (test : Test) (s : S) → to.asked test (h s) ≡ h (from.asked test s)
  pub negated : (s : S) → to.negated (h s) ≡ h (from.negated s)
  pub both : (left right : S) → to.both (h left) (h right) ≡ h (from.both left right)
  pub either : (left right : S) → to.either (h left) (h right) ≡ h (from.either left right)
  pub tree : (s : S) → to.tree (h s) ≡ from.tree s

-- rules in sequence: the first reads the same, or is carried over
pub then-same : {A C D : Type 0} (k : C → D) (read : Outcome A) (more : A → Rule C) (other : A → Rule D) →
    ((a : A) (ts : Items) → other a ts ≡ mapped k (more a ts)) → and_then read other ≡ mapped k (and_then read more)
then-same k (Ok read) more other e = e read.0 read.1
then-same k (Err fault) more other e = refl

pub then-carried : {A B C D : Type 0} (h : A → B) (k : C → D) (read : Outcome A) (found : Outcome B)
    (more : A → Rule C) (other : B → Rule D) →
    found ≡ mapped h read → ((a : A) (ts : Items) → other (h a) ts ≡ mapped k (more a ts))
    → and_then found other ≡ mapped k (and_then read more)
then-carried h k (Ok read) found more other is e = ap (λ o. and_then o other) is ∙ e read.0 read.1
then-carried h k (Err fault) found more other is e = ap (λ o. and_then o other) is

-- ---- steps

abbrev pub step_mapped : {S T : Type 0} → (S → T) → Result (Option (S × Items)) Fault
    → Result (Option (T × Items)) Fault
step_mapped h (Ok (Some read)) = Ok (Some (h read.0, read.1))
step_mapped h (Ok None) = Ok None
step_mapped h (Err fault) = Err fault

after-carried : {S T : Type 0} (h : S → T) (n : ℕ) (step : RepeatStep S) (other : RepeatStep T) (s : S) (ts : Items) →
    ((x : S × Items) → at_most n other (h x.0) x.1 ≡ mapped h (at_most n step x.0 x.1)) →
    (read : Result (Option (S × Items)) Fault)
    → after_step (step_mapped h read) (goes (at_most n other) (h s) ts)
    ≡ mapped h (after_step read (goes (at_most n step) s ts))
after-carried h n step other s ts again (Err fault) = refl
after-carried h n step other s ts again (Ok None) = refl
after-carried h n step other s ts again (Ok (Some x)) =
    by_test (nat_lt (size x.1) (size ts)) (λ e. rw e (again x)) (λ e. rw e refl)

at_most-carried : {S T : Type 0} (h : S → T) (n : ℕ) (step : RepeatStep S) (other : RepeatStep T) →
    ((s : S) (ts : Items) → other (h s) ts ≡ step_mapped h (step s ts)) →
    (s : S) (ts : Items) → at_most n other (h s) ts ≡ mapped h (at_most n step s ts)
unfolding at_most
at_most-carried h zero step other e s ts = refl
at_most-carried h (suc n) step other e s ts =
    ap (λ read. after_step read (goes (at_most n other) (h s) ts)) (e s ts)
    ∙ after-carried h n step other s ts (λ x. at_most-carried h n step other e x.0 x.1) (step s ts)

pub repeat-carried : {S T : Type 0} (h : S → T) (step : RepeatStep S) (other : RepeatStep T) →
    ((s : S) (ts : Items) → other (h s) ts ≡ step_mapped h (step s ts)) →
    (s : S) (ts : Items) → repeat other (h s) ts ≡ mapped h (repeat step s ts)
unfolding repeat
repeat-carried h step other e s ts = at_most-carried h (suc (size ts)) step other e s ts

one_more-carried : {S T : Type 0} (h : S → T) (read : Outcome S) (found : Outcome T) → found ≡ mapped h read
    → one_more found ≡ step_mapped h (one_more read)
one_more-carried h (Ok read) found e = ap one_more e
one_more-carried h (Err fault) found e = ap one_more e

linked-carried : {S T : Type 0} (h : S → T) (read : S → Rule S) (other : T → Rule T)
    → ((s : S) (ts : Items) → other (h s) ts ≡ mapped h (read s ts)) →
    (s : S) (is : Outcome Bool) → linked other (h s) is ≡ step_mapped h (linked read s is)
linked-carried h read other e s (Err fault) = refl
linked-carried h read other e s (Ok (true, ts)) =
    one_more-carried h (read s (rest_of ts)) (other (h s) (rest_of ts)) (e s (rest_of ts))
linked-carried h read other e s (Ok (false, ts)) = refl

pub link-carried : {S T : Type 0} (h : S → T) (separator : Item) (read : S → Rule S) (other : T → Rule T) →
    ((s : S) (ts : Items) → other (h s) ts ≡ mapped h (read s ts)) → (s : S) (ts : Items)
    → link separator other (h s) ts ≡ step_mapped h (link separator read s ts)
unfolding link
link-carried h separator read other e s ts = linked-carried h read other e s (next_is separator ts)

guarded-carried : {S T : Type 0} (h : S → T) (read : S → Rule S) (other : T → Rule T)
    → ((s : S) (ts : Items) → other (h s) ts ≡ mapped h (read s ts)) →
    (s : S) (ts : Items) (more : Result Bool Fault)
    → guarded other (h s) ts more ≡ step_mapped h (guarded read s ts more)
guarded-carried h read other e s ts (Err fault) = refl
guarded-carried h read other e s ts (Ok true) = one_more-carried h (read s ts) (other (h s) ts) (e s ts)
guarded-carried h read other e s ts (Ok false) = refl

pub each-carried : {S T : Type 0} (h : S → T) (more : Items → Result Bool Fault) (read : S → Rule S)
    (other : T → Rule T) →
    ((s : S) (ts : Items) → other (h s) ts ≡ mapped h (read s ts)) → (s : S) (ts : Items)
    → each more other (h s) ts ≡ step_mapped h (each more read s ts)
unfolding each
each-carried h more read other e s ts = guarded-carried h read other e s ts (more ts)
