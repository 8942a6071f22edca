-- Values of one kind that have the same order to a constant compare with it alike.
use Rattle.std.proofs.Common.{◌≡◌, ℕ, ◌<◌, ◌≤◌, ℤ, pos, negsuc, Bool, true, false, not, List, [], ◌∷◌, refl, sym, ap, ◌∙◌, arith}
use Rattle.std.specs.Prelude.{int_lt, int_le, nat_lt, nat_le}
use Rattle.std.specs.Cmp.{both_ways}
use Rattle.std.specs.Cmp.Lexicographic.{slice_cmp}
use Rattle.std.specs.List.{list_any, list_all}
use Rattle.std.specs.Ordering.{nat_cmp, int_cmp, bool_cmp, is_eq, is_lt, is_gt}
use Rattle.std.specs.Str.{bytes_eq}
use Rattle.std.proofs.lemmas.Bool.{ltb-true, lt-ltb, le-ltb, leb-true, leb-false}
use Rattle.std.proofs.lemmas.Map.Text.{is_eq-slice_cmp}
use Rattle.std.proofs.lemmas.Slice.Eq.{bytes_eq-Decides}
use Rattle.std.specs.declared.cmp.Ordering.{Ordering}
use Rattle.filter_tree.specs.Compare.{compare_numbers_of, compare_truths_of, compare_texts_of, compare_known, compare_of, equals, among_of, distinct_of}
use Rattle.filter_tree.specs.Datum.{Constant, Number, Truth, Bytes, Datum, Missing, Known}
use Rattle.filter_tree.specs.Expr.{AtomOf, Cmp, IsNull, In, Between, Distinct, is_missing, said_of}
use Rattle.filter_tree.specs.Logic.{tri_of}
use Rattle.filter_tree.specs.Order.{datum_cmp}
use Rattle.filter_tree.specs.declared.filter.Op.{Op}
use Rattle.filter_tree.specs.declared.filter.Op.TheVariants.{Eq, Ne, Lt, Le, Gt, Ge}
use Rattle.filter_tree.specs.declared.value.Value.{Value}
use Rattle.filter_tree.proofs.OrderLemmas.{orders_values}
use Rattle.filter_tree.proofs.Tests.{by_test, both_true}
use Rattle.filter_memo.specs.Covering.{has, has_constants}
use Rattle.filter_memo.specs.Buckets.{kind_of}

-- ---- numbers

below_not : (a b : ℕ) → nat_lt a b ≡ true → nat_lt b a ≡ false
below_not a b h = let below : a < b = ltb-true a b h in le-ltb b a (omega arith)

lt_not : (j m : ℤ) → int_lt j m ≡ true → int_lt m j ≡ false
lt_not (pos a) (pos b) h = below_not a b h
lt_not (pos a) (negsuc b) h = absurd cc
lt_not (negsuc a) (pos b) h = refl
lt_not (negsuc a) (negsuc b) h = below_not b a h

-- a comparison with a constant by its order to the value
abbrev by_order : Op → Ordering → Bool
by_order Eq order = is_eq order
by_order Ne order = not (is_eq order)
by_order Lt order = is_gt order
by_order Le order = not (is_lt order)
by_order Gt order = is_lt order
by_order Ge order = not (is_gt order)

le_test : (a b : ℕ) → nat_le a b ≡ not (nat_lt b a)
le_test a b = by_test (nat_le a b)
    (λ yes. let from : a ≤ b = leb-true a b yes in let no : nat_lt b a ≡ false = le-ltb b a from in rw (yes, no) refl)
    (λ no. let below : b < a = leb-false a b no in let yes : nat_lt b a ≡ true = lt-ltb b a below in rw (no, yes) refl)

le_not_lt : (m j : ℤ) → int_le m j ≡ not (int_lt j m)
le_not_lt (pos a) (pos b) = le_test a b
le_not_lt (pos a) (negsuc b) = refl
le_not_lt (negsuc a) (pos b) = refl
le_not_lt (negsuc a) (negsuc b) = le_test b a

-- `a`: the constant is below the value; `b`: the value is below the constant
by_tests : (op : Op) (m j : ℤ) (a b : Bool) → int_lt j m ≡ a → int_lt m j ≡ b → (a ≡ true → b ≡ false)
    → compare_numbers_of op m j ≡ by_order op (int_cmp j m)
by_tests op m j true true p q apart = let no : true ≡ false = apart refl in absurd cc
by_tests Eq m j true false p q apart = rw (p, q) refl
by_tests Eq m j false true p q apart = rw (p, q) refl
by_tests Eq m j false false p q apart = rw (p, q) refl
by_tests Ne m j true false p q apart = rw (p, q) refl
by_tests Ne m j false true p q apart = rw (p, q) refl
by_tests Ne m j false false p q apart = rw (p, q) refl
by_tests Lt m j true false p q apart = rw (p, q) refl
by_tests Lt m j false true p q apart = rw (p, q) refl
by_tests Lt m j false false p q apart = rw (p, q) refl
by_tests Le m j true false p q apart = le_not_lt m j ∙ rw p refl
by_tests Le m j false true p q apart = le_not_lt m j ∙ rw (p, q) refl
by_tests Le m j false false p q apart = le_not_lt m j ∙ rw (p, q) refl
by_tests Gt m j true false p q apart = rw p refl
by_tests Gt m j false true p q apart = rw (p, q) refl
by_tests Gt m j false false p q apart = rw (p, q) refl
by_tests Ge m j true false p q apart = le_not_lt j m ∙ rw (p, q) refl
by_tests Ge m j false true p q apart = le_not_lt j m ∙ rw (p, q) refl
by_tests Ge m j false false p q apart = le_not_lt j m ∙ rw (p, q) refl

numbers_alike : (op : Op) (m n j : ℤ) → int_cmp j m ≡ int_cmp j n
    → compare_numbers_of op m j ≡ compare_numbers_of op n j
numbers_alike op m n j h =
    by_tests op m j (int_lt j m) (int_lt m j) refl refl (lt_not j m)
    ∙ (ap (by_order op) h ∙ sym (by_tests op n j (int_lt j n) (int_lt n j) refl refl (lt_not j n)))

-- ---- truth values and texts

truths_alike : (op : Op) (p q t : Bool) → bool_cmp t p ≡ bool_cmp t q
    → compare_truths_of op p t ≡ compare_truths_of op q t
truths_alike op true true t h = refl
truths_alike op false false t h = refl
truths_alike op true false true h = absurd cc
truths_alike op true false false h = absurd cc
truths_alike op false true true h = absurd cc
truths_alike op false true false h = absurd cc

equal_texts : (s u : List ℕ) → bytes_eq s u ≡ is_eq (slice_cmp nat_cmp u s)
equal_texts s u =
    both_ways (bytes_eq s u) (bytes_eq u s) (λ h. (bytes_eq-Decides u s).1 (sym ((bytes_eq-Decides s u).0 h)))
    (λ h. (bytes_eq-Decides s u).1 (sym ((bytes_eq-Decides u s).0 h)))
    ∙ sym (is_eq-slice_cmp u s)

texts_by : (op : Op) (s t u : List ℕ) → bytes_eq s u ≡ bytes_eq t u → compare_texts_of op s u ≡ compare_texts_of op t u
texts_by Eq s t u h = h
texts_by Ne s t u h = ap not h
texts_by Lt s t u h = refl
texts_by Le s t u h = refl
texts_by Gt s t u h = refl
texts_by Ge s t u h = refl

texts_alike : (op : Op) (s t u : List ℕ) → slice_cmp nat_cmp u s ≡ slice_cmp nat_cmp u t
    → compare_texts_of op s u ≡ compare_texts_of op t u
texts_alike op s t u h = texts_by op s t u (equal_texts s u ∙ (ap is_eq h ∙ sym (equal_texts t u)))

-- ---- values

known_alike : (op : Op) (v w k : Constant) → kind_of (Known v) ≡ kind_of (Known w)
    → datum_cmp (Known k) (Known v) ≡ datum_cmp (Known k) (Known w) → compare_known op v k ≡ compare_known op w k
known_alike op (Number m) (Number n) (Number j) r h =
    numbers_alike op m n j (sym (orders_values.numbers j m) ∙ (h ∙ orders_values.numbers j n))
known_alike op (Number m) (Number n) (Truth t) r h = refl
known_alike op (Number m) (Number n) (Bytes u) r h = refl
known_alike op (Truth p) (Truth q) (Number j) r h = refl
known_alike op (Truth p) (Truth q) (Truth t) r h =
    truths_alike op p q t (sym (orders_values.truths t p) ∙ (h ∙ orders_values.truths t q))
known_alike op (Truth p) (Truth q) (Bytes u) r h = refl
known_alike op (Bytes s) (Bytes t) (Number j) r h = refl
known_alike op (Bytes s) (Bytes t) (Truth q) r h = refl
known_alike op (Bytes s) (Bytes t) (Bytes u) r h =
    texts_alike op s t u (sym (orders_values.texts u s) ∙ (h ∙ orders_values.texts u t))
known_alike op (Number m) (Truth q) k r h = absurd cc
known_alike op (Number m) (Bytes t) k r h = absurd cc
known_alike op (Truth p) (Number n) k r h = absurd cc
known_alike op (Truth p) (Bytes t) k r h = absurd cc
known_alike op (Bytes s) (Number n) k r h = absurd cc
known_alike op (Bytes s) (Truth q) k r h = absurd cc

not_null : (k : Constant) → kind_of (Known k) ≡ kind_of Missing → ⊥
not_null (Number n) r = absurd cc
not_null (Truth t) r = absurd cc
not_null (Bytes s) r = absurd cc

module _ {A : _} (bounds : List (Value A)) (v w : Datum) (kind : kind_of v ≡ kind_of w)
    (side : (k : Constant) → has bounds k ≡ true → datum_cmp (Known k) v ≡ datum_cmp (Known k) w) where
  -- values of one kind are both null, or neither is
  by_kind : {X : Type 0} (f : Datum → X) → ((a b : Constant) → v ≡ Known a → w ≡ Known b → f (Known a) ≡ f (Known b))
      → f v ≡ f w
  by_kind f known = by_cases v w refl refl where
    by_cases : (x y : Datum) → v ≡ x → w ≡ y → f v ≡ f w
    by_cases Missing Missing p q = ap f (p ∙ sym q)
    by_cases Missing (Known b) p q = absurd (not_null b (sym (ap kind_of q) ∙ (sym kind ∙ ap kind_of p)))
    by_cases (Known a) Missing p q = absurd (not_null a (sym (ap kind_of p) ∙ (kind ∙ ap kind_of q)))
    by_cases (Known a) (Known b) p q = ap f p ∙ (known a b p q ∙ sym (ap f q))

  known_side : (op : Op) (k : Constant) → has bounds k ≡ true → (a b : Constant) → v ≡ Known a → w ≡ Known b
      → compare_known op a k ≡ compare_known op b k
  known_side op k h a b p q = known_alike op a b k (sym (ap kind_of p) ∙ (kind ∙ ap kind_of q))
      (sym (ap (datum_cmp (Known k)) p) ∙ (side k h ∙ ap (datum_cmp (Known k)) q))

  compare_alike : (op : Op) (k : Constant) → has bounds k ≡ true → compare_of op v k ≡ compare_of op w k
  compare_alike op k h =
      by_kind (λ datum. compare_of op datum k) (λ a b p q. ap tri_of (known_side op k h a b p q))

  any_alike : (ks : List Constant) → list_all (has bounds) ks ≡ true → (a b : Constant) → v ≡ Known a → w ≡ Known b
      → list_any (equals (Known a)) ks ≡ list_any (equals (Known b)) ks
  any_alike [] h a b p q = refl
  any_alike (k ∷ ks) h a b p q =
      let both = both_true (has bounds k) (list_all (has bounds) ks) h in
      let first = known_side Eq k both.0 a b p q in
      let later = any_alike ks both.1 a b p q in
      rw (first, later) refl

  -- the value of an atom whose constants are bounds
  pub atom_alike : (atom : AtomOf) → has_constants bounds atom ≡ true → said_of atom v ≡ said_of atom w
  atom_alike (Cmp term op k) h = compare_alike op k h
  atom_alike (IsNull column) h = by_kind is_missing (λ a b p q. refl)
  atom_alike (In term ks) h =
      by_kind (λ datum. among_of datum ks) (λ a b p q. ap tri_of (any_alike ks h a b p q))
  atom_alike (Between term low high) h =
      let both = both_true (has bounds (Number low)) (has bounds (Number high)) h in
      let from = compare_alike Ge (Number low) both.0 in
      let upto = compare_alike Le (Number high) both.1 in
      rw (from, upto) refl
  atom_alike (Distinct term k) h =
      by_kind (λ datum. distinct_of datum k) (λ a b p q. ap tri_of (known_side Ne k h a b p q))
