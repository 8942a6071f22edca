-- Members of a list, one constant after another.
use Rattle.std.proofs.Common.{◌≡◌, ℕ, ℤ, Bool, true, false, not, ◌||◌, ◌+◌, ◌<◌, List, ◌∷◌, length, get_or, take, refl, sym, ap, ◌∙◌, arith}
use Rattle.std.specs.Prelude.{Option, Some, None, map}
use Rattle.std.specs.Bool.{MatchBool}
use Rattle.std.specs.Borrow.{Bor}
use Rattle.std.specs.Cmp.{signed_Decides}
use Rattle.std.specs.HashSet.{HashSet, contains}
use Rattle.std.specs.List.{list_any}
use Rattle.std.specs.List.Sorted.{IsPermutation}
use Rattle.std.specs.Ordering.{int_eq}
use Rattle.std.specs.Str.{bytes_eq}
use Rattle.std.proofs.lemmas.List.Folds.{list_any_more}
use Rattle.std.proofs.lemmas.List.Sorted.{list_any-IsPermutation}
use Rattle.std.proofs.lemmas.Slice.Eq.{bytes_eq-Decides}
use Rattle.std.proofs.lemmas.List.{get_or-map, length-map}
use Rattle.filter_tree.specs.Datum.{Constant, Number, Truth, Bytes}
use Rattle.filter_tree.specs.Values.{constant_view}
use Rattle.filter_tree.specs.declared.value.Literal.{Literal}
use Rattle.filter_tree.specs.declared.filter.Op.TheVariants.{Eq}
use Rattle.filter_tree.proofs.Tests.{by_test, or_false}
use Rattle.shard_checker.specs.Facts.{compares}
use Rattle.shard_checker.specs.Members.{has, Adds}
use Rattle.shard_checker.specs.declared.members.Members.{Members}

-- ---- one more key

turned : (p q : Bool) → (p || q) ≡ (q || p)
turned true true = refl
turned true false = refl
turned false true = refl
turned false false = refl

-- what a test of the keys says after one more key was added
key_added : {K : Type 0} (test : K → Bool) (old new : List K) (key : K) (added : Bool)
    → MatchBool added (IsPermutation (key ∷ old) new) (new ≡ old)
    → (added ≡ false → test key ≡ true → list_any test old ≡ true)
    → list_any test new ≡ (list_any test old || test key)
key_added test old new key true moved there =
    sym (list_any-IsPermutation test (key ∷ old) new moved) ∙ turned (test key) (list_any test old)
key_added test old new key false same there =
    ap (list_any test) same ∙ by_test (test key)
    (λ passes. there refl passes ∙ sym (ap (λ (b : Bool). b || test key) (there refl passes)))
    (λ fails. sym (ap (λ (b : Bool). list_any test old || b) fails ∙ or_false (list_any test old)))

not_added : (added found : Bool) → added ≡ not found → added ≡ false → found ≡ true
not_added added true h k = refl
not_added added false h k = absurd cc

pub number_added : (old new : List ℤ) (number : ℤ) (added : Bool)
    → MatchBool added (IsPermutation (number ∷ old) new) (new ≡ old)
    → added ≡ not (list_any (int_eq number) old) → (value : ℤ)
    → list_any (int_eq value) new ≡ (list_any (int_eq value) old || int_eq value number)
number_added old new number added puts is value =
    key_added (int_eq value) old new number added puts
    (λ gone same. let equal : value ≡ number = (signed_Decides value number).0 same in
    ap (λ (found : ℤ). list_any (int_eq found) old) equal ∙ not_added added (list_any (int_eq number) old) is gone)

pub text_added : (old new : List (Bor (List ℕ))) (text : Bor (List ℕ)) (added : Bool)
    → MatchBool added (IsPermutation (text ∷ old) new) (new ≡ old)
    → added ≡ not (list_any (λ member. bytes_eq text.now member.now) old) → (value : List ℕ)
    → list_any (λ member. bytes_eq value member.now) new
    ≡ (list_any (λ member. bytes_eq value member.now) old || bytes_eq value text.now)
text_added old new text added puts is value =
    key_added (λ (member : Bor (List ℕ)). bytes_eq value member.now) old new text added puts
    (λ gone same. let equal : value ≡ text.now = (bytes_eq-Decides value text.now).0 same in
    ap (λ (found : List ℕ). list_any (λ (member : Bor (List ℕ)). bytes_eq found member.now) old) equal
    ∙ not_added added (list_any (λ (member : Bor (List ℕ)). bytes_eq text.now member.now) old) is gone)

pub adds_text : (old new : Members) (text : List ℕ) → new.numbers ≡ old.numbers → new.has_true ≡ old.has_true
    → new.has_false ≡ old.has_false
    → ((value : List ℕ) → list_any (λ member. bytes_eq value member.now) new.texts.keys
    ≡ (list_any (λ member. bytes_eq value member.now) old.texts.keys || bytes_eq value text))
    → Adds old new (Bytes text)
adds_text old new text same_numbers same_true same_false texts = record { each = each }
  where
    each : (value : Option Constant) → has new value ≡ (has old value || compares Eq value (Bytes text))
    each None = refl
    each (Some (Number number)) =
        ap (λ (found : HashSet ℤ _). contains int_eq found number) same_numbers
        ∙ sym (or_false (contains int_eq old.numbers number))
    each (Some (Truth true)) = same_true ∙ sym (or_false old.has_true)
    each (Some (Truth false)) = same_false ∙ sym (or_false old.has_false)
    each (Some (Bytes value)) = texts value

-- ---- one more constant

pub member_more : {A : _} (constants : List (Literal A)) (index : ℕ) (literal : Literal A) → index < length constants
    → literal ≡ get_or constants index literal → (old new : Members)
    → ((value : Option Constant)
    → has old value ≡ list_any (compares Eq value) (take index (map constant_view constants)))
    → Adds old new (constant_view literal) → (value : Option Constant)
    → has new value ≡ list_any (compares Eq value) (take (index + 1) (map constant_view constants))
member_more constants index literal low is old new so_far adds value =
    let within : index < length (map constant_view constants) =
    omega (arith, low, length-map constants constant_view) in
    adds.each value
    ∙ ap (λ (b : Bool). b || compares Eq value (constant_view literal)) (so_far value)
    ∙ ap (λ (constant : Constant). list_any (compares Eq value) (take index (map constant_view constants))
    || compares Eq value constant)
    (ap constant_view is ∙ sym (get_or-map constant_view constants index literal (constant_view literal) low))
    ∙ sym (list_any_more (compares Eq value) (map constant_view constants) index (constant_view literal) within)
