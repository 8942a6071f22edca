-- Where the copy of a table is in a list of copies, and what happens to it when the list changes.
use Rattle.std.proofs.Common.{◌≡◌, ◌≢◌, ℕ, zero, suc, ◌+◌, ◌<◌, ◌≤◌, true, false, cond, List, [], ◌∷◌, ◌++◌, length, refl, sym, ◌∙◌, ap, subst, arith, get_or}
use Rattle.std.specs.Prelude.{Option, Some, None, ◌==◌, nat_lt, slice_get, slice_set, if◌then◌else◌}
use Rattle.std.specs.Option.{option_or}
use Rattle.std.specs.List.{position_or_len}
use Rattle.std.specs.Cmp.{unsigned_Decides}
use Rattle.std.proofs.lemmas.Bool.{ltb-true, ltb-false}
use Rattle.std.proofs.lemmas.List.Folds.{find_at, find-set, find_past, find-append}
use Rattle.std.proofs.lemmas.Option.{slice_get_past}
use Rattle.std.proofs.lemmas.List.{length-set}
use Rattle.test_subscriber.specs.Copies.{OfEach}
use Rattle.test_subscriber.specs.Views.{has_oid, copy_of, place_of, known_in, IsKnownAt}
use Rattle.test_subscriber.specs.declared.table_copy.TableCopy.{TableCopy}
use Rattle.tables_log.proofs.PlaceLemmas.{number_is, number_itself}
use Rattle.filter_tree.proofs.Tests.{by_test}

or_none : {X : Type 0} (found : Option X) → option_or found None ≡ found
or_none None = refl
or_none (Some x) = refl

-- ---- where it is

at_place : (first count place : ℕ) → cond (nat_lt first count) (Some first) None ≡ Some place → first ≡ place
at_place first count place h = by_test (nat_lt first count)
    (λ low. let here : Some first ≡ Some place = sym (rw low refl) ∙ h in cc)
    (λ high. let none : None ≡ Some place = sym (rw high refl) ∙ h in absurd cc)

past_end : (first count : ℕ) → cond (nat_lt first count) (Some first) None ≡ None → count ≤ first
past_end first count h = by_test (nat_lt first count)
    (λ low. let here : Some first ≡ None = sym (rw low refl) ∙ h in absurd cc)
    (λ high. ltb-false first count high)

pub found_at : (copies : List TableCopy) (oid place : ℕ) → place_of copies oid ≡ Some place
    → copy_of copies oid ≡ slice_get copies place
found_at copies oid place h =
    find_at (has_oid oid) copies
    ∙ ap (slice_get copies) (at_place (position_or_len (has_oid oid) copies) (length copies) place h)

pub found_nowhere : (copies : List TableCopy) (oid : ℕ) → place_of copies oid ≡ None → copy_of copies oid ≡ None
found_nowhere copies oid h =
    find_at (has_oid oid) copies
    ∙ slice_get_past copies (position_or_len (has_oid oid) copies)
    (past_end (position_or_len (has_oid oid) copies) (length copies) h)

-- ---- one copy changes

-- what is found has the OID
pub found_oid : (copies : List TableCopy) (oid : ℕ) (copy : TableCopy) → copy_of copies oid ≡ Some copy
    → copy.shape.relation.oid ≡ oid
found_oid [] oid copy h = absurd cc
found_oid (first ∷ rest) oid copy h = by_test (first.shape.relation.oid == oid)
    (λ here. let same : Some first ≡ Some copy = sym (rw here refl) ∙ h in
    let equal : first ≡ copy = cc in
    ap (λ (c : TableCopy). c.shape.relation.oid) (sym equal) ∙ number_is first.shape.relation.oid oid here)
    (λ later. found_oid rest oid copy (sym (rw later refl) ∙ h))

-- the copy at the place where an OID is first
pub record IsFirst (copies : List TableCopy) (oid place : ℕ) (copy : TableCopy) : Type 0 where
  pub there : place_of copies oid ≡ Some place
  pub at : slice_get copies place ≡ Some copy

pub first_has : (copies : List TableCopy) (oid place : ℕ) (copy : TableCopy) → IsFirst copies oid place copy
    → copy.shape.relation.oid ≡ oid
first_has copies oid place copy first = found_oid copies oid copy (found_at copies oid place first.there ∙ first.at)

inside : {X : Type 0} (xs : List X) (i : ℕ) (x : X) → slice_get xs i ≡ Some x → i < length xs
inside [] i x h = absurd cc
inside (y ∷ ys) zero x h = omega arith
inside (y ∷ ys) (suc i) x h = let rest : i < length ys = inside ys i x h in omega arith

read_at : {X : Type 0} (xs : List X) (i : ℕ) (x d : X) → slice_get xs i ≡ Some x → get_or xs i d ≡ x
read_at [] i x d h = absurd cc
read_at (y ∷ ys) zero x d h = cc
read_at (y ∷ ys) (suc i) x d h = read_at ys i x d h

apart : (one two other : ℕ) → one ≡ two → (other == two) ≡ false → (one == other) ≡ false
apart one two other same h = by_test (one == other)
    (λ equal. let met : one ≡ other = number_is one other equal in
    let itself : (two == two) ≡ true = number_itself two in
    let back : (other == two) ≡ true = subst (λ n. (n == two) ≡ true) (sym same ∙ met) itself in absurd cc)
    (λ differs. differs)

-- another copy is written over it, with the same OID
pub written : (copies : List TableCopy) (oid place : ℕ) (old new : TableCopy) (other : ℕ) → IsFirst copies oid place old
    → new.shape.relation.oid ≡ oid
    → copy_of (slice_set copies place new) other ≡ (if other == oid then Some new else copy_of copies other)
written copies oid place old new other first same = by_test (other == oid)
    (λ here. let equal : other ≡ oid = number_is other oid here in
    let test : has_oid oid new ≡ true = subst (λ n. (n == oid) ≡ true) (sym same) (number_itself oid) in
    let found : copy_of (slice_set copies place new) oid ≡ Some new =
    find-set (has_oid oid) copies place new
    (sym (at_place (position_or_len (has_oid oid) copies) (length copies) place first.there))
    (inside copies place old first.at) test in
    rw here (subst (λ n. copy_of (slice_set copies place new) n ≡ Some new) (sym equal) found))
    (λ differs.
    let has : old.shape.relation.oid ≡ oid = first_has copies oid place old first in
    let old_differs : has_oid other (get_or copies place old) ≡ false =
    subst (λ (c : TableCopy). (c.shape.relation.oid == other) ≡ false) (sym (read_at copies place old old first.at))
    (apart old.shape.relation.oid oid other has differs) in
    let new_differs : has_oid other new ≡ false = apart new.shape.relation.oid oid other same differs in
    rw differs (find_past (has_oid other) copies place new old old_differs new_differs))

-- ---- a new copy

pub added : (copies : List TableCopy) (oid : ℕ) (new : TableCopy) (other : ℕ) → place_of copies oid ≡ None
    → new.shape.relation.oid ≡ oid
    → copy_of (copies ++ new ∷ []) other ≡ (if other == oid then Some new else copy_of copies other)
added copies oid new other none same = by_test (other == oid)
    (λ here. let equal : other ≡ oid = number_is other oid here in
    let test : has_oid other new ≡ true =
    subst (λ n. (new.shape.relation.oid == n) ≡ true) (same ∙ sym equal) (number_itself new.shape.relation.oid) in
    let absent : copy_of copies other ≡ None =
    subst (λ n. copy_of copies n ≡ None) (sym equal) (found_nowhere copies oid none) in
    rw here (find-append (has_oid other) copies (new ∷ []) ∙ rw (absent, test) refl))
    (λ differs.
    let test : has_oid other new ≡ false = apart new.shape.relation.oid oid other same differs in
    rw differs (find-append (has_oid other) copies (new ∷ []) ∙ rw test (or_none (copy_of copies other))))

-- ---- each copy changes

pub each : (Does : TableCopy → TableCopy → Type 0)
    → ((old new : TableCopy) → Does old new → new.shape.relation.oid ≡ old.shape.relation.oid)
    → (olds news : List TableCopy) → ((place : ℕ) → OfEach Does (slice_get olds place) (slice_get news place))
    → (oid : ℕ) → OfEach Does (copy_of olds oid) (copy_of news oid)
each Does keeps [] [] does oid = tt
each Does keeps [] (new ∷ news) does oid = absurd (does 0)
each Does keeps (old ∷ olds) [] does oid = absurd (does 0)
each Does keeps (old ∷ olds) (new ∷ news) does oid = by_test (old.shape.relation.oid == oid)
    (λ here. let also : (new.shape.relation.oid == oid) ≡ true =
    subst (λ n. (n == oid) ≡ true) (sym (keeps old new (does 0))) here in
    rw (here, also) (does 0))
    (λ later. let also : (new.shape.relation.oid == oid) ≡ false =
    subst (λ n. (n == oid) ≡ false) (sym (keeps old new (does 0))) later in
    rw (later, also) (each Does keeps olds news (λ place. does (suc place)) oid))

-- the copies before this one were changed, and the others are as they were
pub record Going (Does : TableCopy → TableCopy → Type 0) (olds news : List TableCopy) (index : ℕ) : Type 0 where
  pub done : (place : ℕ) → place < index → OfEach Does (slice_get olds place) (slice_get news place)
  pub rest : (place : ℕ) → index ≤ place → slice_get news place ≡ slice_get olds place
  pub width : length news ≡ length olds

pub begins : (Does : TableCopy → TableCopy → Type 0) (olds : List TableCopy) → Going Does olds olds 0
begins Does olds = record {
  done = λ place low. absurd (omega arith);
  rest = λ place high. refl;
  width = refl;
}

set_here : {X : Type 0} (xs : List X) (i : ℕ) (x : X) → i < length xs → slice_get (slice_set xs i x) i ≡ Some x
set_here [] i x h = absurd (omega arith)
set_here (y ∷ ys) zero x h = refl
set_here (y ∷ ys) (suc i) x h = set_here ys i x (omega arith)

set_beside : {X : Type 0} (xs : List X) (i n : ℕ) (x : X) → n ≢ i → slice_get (slice_set xs i x) n ≡ slice_get xs n
set_beside [] i n x apart = refl
set_beside (y ∷ ys) zero zero x apart = absurd (apart refl)
set_beside (y ∷ ys) zero (suc n) x apart = refl
set_beside (y ∷ ys) (suc i) zero x apart = refl
set_beside (y ∷ ys) (suc i) (suc n) x apart = set_beside ys i n x (λ same. apart (ap suc same))

get_there : {X : Type 0} (xs : List X) (i : ℕ) (d : X) → i < length xs → slice_get xs i ≡ Some (get_or xs i d)
get_there [] i d h = absurd (omega arith)
get_there (y ∷ ys) zero d h = refl
get_there (y ∷ ys) (suc i) d h = get_there ys i d (omega arith)

pub goes_on : (Does : TableCopy → TableCopy → Type 0) (olds news : List TableCopy) (index : ℕ) (d new : TableCopy)
    → index < length news
    → Does (get_or news index d) new → Going Does olds news index
    → Going Does olds (slice_set news index new) (index + 1)
goes_on Does olds news index d new low does going = record {
  done = λ place below. by_test (place == index)
      (λ here. let same : place ≡ index = number_is place index here in
      let old : slice_get olds index ≡ Some (get_or news index d) = sym (going.rest index (omega arith))
      ∙ get_there news index d low in
      subst (λ p. OfEach Does (slice_get olds p) (slice_get (slice_set news index new) p)) (sym same)
      (rw (old, set_here news index new low) does))
      (λ differs. let apart : place ≢ index =
      (λ same. let equal : (place == index) ≡ true = (unsigned_Decides place index).1 same in absurd cc) in
      subst (λ found. OfEach Does (slice_get olds place) found) (sym (set_beside news index place new apart))
      (going.done place (omega arith)));
  rest = λ place high. let apart : place ≢ index = omega arith in set_beside news index place new apart
      ∙ going.rest place (omega arith);
  width = length-set news index new ∙ going.width;
}

pub all_done : (Does : TableCopy → TableCopy → Type 0)
    → ((old new : TableCopy) → Does old new → new.shape.relation.oid ≡ old.shape.relation.oid)
    → (olds news : List TableCopy) (index : ℕ) → length news ≤ index → Going Does olds news index → (oid : ℕ)
    → OfEach Does (copy_of olds oid) (copy_of news oid)
all_done Does keeps olds news index past going oid = each Does keeps olds news
    (λ place. by_test (nat_lt place index)
    (λ low. going.done place (ltb-true place index low))
    (λ high. let above : index ≤ place = ltb-false place index high in
    let no_new : slice_get news place ≡ None = slice_get_past news place (omega arith) in
    let no_old : slice_get olds place ≡ None = slice_get_past olds place (omega (arith, going.width)) in
    rw (no_old, no_new) tt))
    oid

-- ---- whether its Relation came

there : (copies : List TableCopy) (oid place : ℕ) (d : TableCopy) → place_of copies oid ≡ Some place
    → place < length copies
    → copy_of copies oid ≡ Some (get_or copies place d)
there copies oid place d at low = found_at copies oid place at ∙ get_there copies place d low

pub known_here : (copies : List TableCopy) (oid place : ℕ) (copy : TableCopy) → place_of copies oid ≡ Some place
    → place < length copies
    → copy ≡ get_or copies place copy → copy.is_known ≡ true → IsKnownAt copies oid place
known_here copies oid place copy at low is known = record {
  there = at;
  within = low;
  known = ap known_in (there copies oid place copy at low) ∙ ap (λ (c : TableCopy). c.is_known) (sym is) ∙ known;
}

pub unknown_here : (copies : List TableCopy) (oid place : ℕ) (copy : TableCopy) → place_of copies oid ≡ Some place
    → place < length copies
    → copy ≡ get_or copies place copy → copy.is_known ≡ false → known_in (copy_of copies oid) ≡ false
unknown_here copies oid place copy at low is unknown =
    ap known_in (there copies oid place copy at low) ∙ ap (λ (c : TableCopy). c.is_known) (sym is) ∙ unknown

pub unknown_nowhere : (copies : List TableCopy) (oid : ℕ) → place_of copies oid ≡ None
    → known_in (copy_of copies oid) ≡ false
unknown_nowhere copies oid nowhere = ap known_in (found_nowhere copies oid nowhere)

pub first_there : (copies : List TableCopy) (oid place : ℕ) (d : TableCopy) → place_of copies oid ≡ Some place
    → place < length copies
    → IsFirst copies oid place (get_or copies place d)
first_there copies oid place d at low = record { there = at; at = get_there copies place d low }

pub place_within : (copies : List TableCopy) (oid place : ℕ) → place_of copies oid ≡ Some place → place < length copies
place_within copies oid place h = by_test (nat_lt (position_or_len (has_oid oid) copies) (length copies))
    (λ low. let at : position_or_len (has_oid oid) copies ≡ place =
    at_place (position_or_len (has_oid oid) copies) (length copies) place h in
    let below : position_or_len (has_oid oid) copies < length copies =
    ltb-true (position_or_len (has_oid oid) copies) (length copies) low in omega arith)
    (λ high. let none : None ≡ Some place = sym (rw high refl) ∙ h in absurd cc)

-- what is read at one place
pub read_same : {X : Type 0} (xs : List X) (i : ℕ) (one other : X) → i < length xs → one ≡ get_or xs i one
    → other ≡ get_or xs i other → one ≡ other
read_same xs i one other low is also =
    let met : Some (get_or xs i one) ≡ Some (get_or xs i other) = sym (get_there xs i one low)
    ∙ get_there xs i other low in
    let same : get_or xs i one ≡ get_or xs i other = cc in is ∙ same ∙ sym also

pub ruleset known_relations = (known_here, unknown_here, unknown_nowhere)
