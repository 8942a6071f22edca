-- What an atom says about its term is determined by the text after the term.
use Rattle.std.proofs.Common.{◌≡◌, ℕ, Bool, true, false, ◌==◌, if◌then◌else◌, ℤ, List, ◌∷◌, ◌++◌, get_or, refl, sym, ap, ◌∙◌, append_assoc, arith}
use Rattle.std.specs.Prelude.{codes, nat_lt}
use Rattle.std.specs.List.{join_by}
use Rattle.std.proofs.lemmas.List.{append_cancel_left}
use Rattle.filter_tree.specs.Datum.{Constant, Truth}
use Rattle.filter_tree.specs.declared.filter.Op.{Op}
use Rattle.filter_tree.specs.declared.filter.Op.TheVariants.{Eq, Ne, Lt, Le, Gt, Ge}
use Rattle.catalog_text.specs.FilterText.{number_text, constant_text, op_text, not_text}
use Rattle.catalog_laws.proofs.ConstantTexts.{constants_apart, lists_apart}
use Rattle.catalog_laws.proofs.Followers.{IsEnded, FollowsTerm}
use Rattle.catalog_laws.proofs.NumberTexts.{numbers_apart}
use Rattle.catalog_laws.proofs.QuotedTexts.{Same}

-- what an atom says, or what NOT of it says: the truth value is whether NOT is among the words
pub data Claim : Type 0 where
  Compared : Op → Constant → Claim
  Missing : Bool → Claim
  Among : Bool → List Constant → Claim
  Within : Bool → ℤ → ℤ → Claim
  Differs : Bool → Constant → Claim

abbrev pub claim_text : Claim → List ℕ
claim_text (Compared op constant) = op_text op ++ constant_text constant
claim_text (Missing negated) = codes " IS" ++ (not_text negated ++ codes " NULL")
claim_text (Among negated constants) =
    not_text negated ++ (codes " IN (" ++ (join_by constant_text (codes ", ") constants ++ codes ")"))
claim_text (Within negated low high) =
    not_text negated ++ (codes " BETWEEN " ++ (number_text low ++ (codes " AND " ++ number_text high)))
claim_text (Differs negated constant) =
    codes " IS" ++ (not_text negated ++ (codes " DISTINCT FROM " ++ constant_text constant))

-- ---- the words of a claim: each operator, and each other form with and without NOT, has its key

abbrev key_of : Claim → ℕ
key_of (Compared Eq constant) = 0
key_of (Compared Ne constant) = 1
key_of (Compared Lt constant) = 2
key_of (Compared Le constant) = 3
key_of (Compared Gt constant) = 4
key_of (Compared Ge constant) = 5
key_of (Missing false) = 6
key_of (Missing true) = 7
key_of (Among false constants) = 8
key_of (Among true constants) = 9
key_of (Within false low high) = 10
key_of (Within true low high) = 11
key_of (Differs false constant) = 12
key_of (Differs true constant) = 13

-- the forms alone
abbrev kind_of : Claim → ℕ
kind_of (Compared op constant) = 0
kind_of (Missing negated) = 1
kind_of (Among negated constants) = 2
kind_of (Within negated low high) = 3
kind_of (Differs negated constant) = 4

abbrev kind_by : ℕ → ℕ
kind_by key =
    if nat_lt key 6 then 0 else (if nat_lt key 8 then 1
    else (if nat_lt key 10 then 2 else (if nat_lt key 12 then 3 else 4)))

-- The key of a claim, from its text: the byte after the space tells the operator's sign or the first word, and later
-- bytes tell the rest.

abbrev after_less : ℕ → ℕ
after_less byte = if byte == 62 then 1 else (if byte == 61 then 3 else 2)

abbrev after_greater : ℕ → ℕ
after_greater byte = if byte == 61 then 5 else 4

-- after IS: DISTINCT, NULL, NOT NULL or NOT DISTINCT
abbrev after_is : ℕ → ℕ → ℕ → ℕ
after_is fourth fifth eighth =
    if fourth == 68 then 12 else (if fifth == 85 then 6 else (if eighth == 78 then 7 else 13))

-- IN or IS
abbrev after_i : ℕ → List ℕ → ℕ
after_i second text = if second == 78 then 8 else after_is (get_or text 4 0) (get_or text 5 0) (get_or text 8 0)

-- a sign, IN or IS, BETWEEN, or NOT
abbrev key_by : ℕ → List ℕ → ℕ
key_by first text =
    if first == 61 then 0 else (if first == 60 then after_less (get_or text 2 0)
    else (if first == 62 then after_greater (get_or text 2 0)
    else (if first == 73 then after_i (get_or text 2 0) text
    else (if first == 66 then 10 else (if get_or text 5 0 == 73 then 9 else 11)))))

abbrev key_in : List ℕ → ℕ
key_in text = key_by (get_or text 1 0) text

claim_key : (claim : Claim) (x : List ℕ) → key_in (claim_text claim ++ x) ≡ key_of claim
claim_key (Compared Eq constant) x = refl
claim_key (Compared Ne constant) x = refl
claim_key (Compared Lt constant) x = refl
claim_key (Compared Le constant) x = refl
claim_key (Compared Gt constant) x = refl
claim_key (Compared Ge constant) x = refl
claim_key (Missing false) x = refl
claim_key (Missing true) x = refl
claim_key (Among false constants) x = refl
claim_key (Among true constants) x = refl
claim_key (Within false low high) x = refl
claim_key (Within true low high) x = refl
claim_key (Differs false constant) x = refl
claim_key (Differs true constant) x = refl

key_kind : (claim : Claim) → kind_by (key_of claim) ≡ kind_of claim
key_kind (Compared Eq constant) = refl
key_kind (Compared Ne constant) = refl
key_kind (Compared Lt constant) = refl
key_kind (Compared Le constant) = refl
key_kind (Compared Gt constant) = refl
key_kind (Compared Ge constant) = refl
key_kind (Missing false) = refl
key_kind (Missing true) = refl
key_kind (Among false constants) = refl
key_kind (Among true constants) = refl
key_kind (Within false low high) = refl
key_kind (Within true low high) = refl
key_kind (Differs false constant) = refl
key_kind (Differs true constant) = refl

-- a space, and then no percent sign
spaced : (byte : ℕ) (x : List ℕ) → byte == 37 ≡ false → FollowsTerm (32 ∷ byte ∷ x)
spaced byte x test = record { ended = record { digit = refl; single = refl; double = refl }; percent = test }

pub claim_follows : (claim : Claim) (x : List ℕ) → FollowsTerm (claim_text claim ++ x)
claim_follows (Compared Eq constant) x = spaced 61 _ refl
claim_follows (Compared Ne constant) x = spaced 60 _ refl
claim_follows (Compared Lt constant) x = spaced 60 _ refl
claim_follows (Compared Le constant) x = spaced 60 _ refl
claim_follows (Compared Gt constant) x = spaced 62 _ refl
claim_follows (Compared Ge constant) x = spaced 62 _ refl
claim_follows (Missing false) x = spaced 73 _ refl
claim_follows (Missing true) x = spaced 73 _ refl
claim_follows (Among false constants) x = spaced 73 _ refl
claim_follows (Among true constants) x = spaced 78 _ refl
claim_follows (Within false low high) x = spaced 66 _ refl
claim_follows (Within true low high) x = spaced 78 _ refl
claim_follows (Differs false constant) x = spaced 73 _ refl
claim_follows (Differs true constant) x = spaced 73 _ refl

-- ---- claims of the same first words

abbrev op_key : Op → ℕ
op_key op = key_of (Compared op (Truth true))

ops_same : (one other : Op) → op_key one ≡ op_key other → one ≡ other
ops_same Eq Eq same = refl
ops_same Ne Ne same = refl
ops_same Lt Lt same = refl
ops_same Le Le same = refl
ops_same Gt Gt same = refl
ops_same Ge Ge same = refl
ops_same one other same = absurd (omega (arith, same))

compared_key : (op : Op) (constant : Constant) → key_of (Compared op constant) ≡ op_key op
compared_key Eq constant = refl
compared_key Ne constant = refl
compared_key Lt constant = refl
compared_key Le constant = refl
compared_key Gt constant = refl
compared_key Ge constant = refl

comparisons_apart : (op op_too : Op) (one other : Constant) (x y : List ℕ) → op ≡ op_too → IsEnded x → IsEnded y
    → (op_text op ++ constant_text one) ++ x ≡ (op_text op_too ++ constant_text other) ++ y
    → Same (Compared op one) (Compared op_too other) x y
comparisons_apart op op_too one other x y same f g e =
    let same_ops = ap (λ (o : Op). op_text o ++ (constant_text other ++ y)) (sym same) in
    let found = constants_apart one other x y f g
    (append_cancel_left (op_text op) (constant_text one ++ x) (constant_text other ++ y)
    (sym (append_assoc (op_text op) (constant_text one) x) ∙ e
    ∙ append_assoc (op_text op_too) (constant_text other) y ∙ same_ops)) in
    (ap (λ (o : Op). Compared o one) same ∙ ap (λ (constant : Constant). Compared op_too constant) found.0, found.1)

-- the words before a list of constants, before bounds and before a constant
among_apart : (negated : Bool) (one other : List Constant) (x y : List ℕ)
    → (join_by constant_text (codes ", ") one ++ codes ")") ++ x
    ≡ (join_by constant_text (codes ", ") other ++ codes ")") ++ y
    → Same (Among negated one) (Among negated other) x y
among_apart negated one other x y e =
    let found = lists_apart one other x y
    (sym (append_assoc (join_by constant_text (codes ", ") one) (codes ")") x) ∙ e
    ∙ append_assoc (join_by constant_text (codes ", ") other) (codes ")") y) in
    (ap (λ (constants : List Constant). Among negated constants) found.0, found.1)

bounds_text : (low high : ℤ) (x : List ℕ)
    → (number_text low ++ (codes " AND " ++ number_text high)) ++ x
    ≡ number_text low ++ (codes " AND " ++ (number_text high ++ x))
bounds_text low high x = append_assoc (number_text low) (codes " AND " ++ number_text high) x

within_apart : (negated : Bool) (low high low_too high_too : ℤ) (x y : List ℕ) → IsEnded x → IsEnded y
    → (number_text low ++ (codes " AND " ++ number_text high)) ++ x
    ≡ (number_text low_too ++ (codes " AND " ++ number_text high_too)) ++ y
    → Same (Within negated low high) (Within negated low_too high_too) x y
within_apart negated low high low_too high_too x y f g e =
    let lows = numbers_apart low low_too (codes " AND " ++ (number_text high ++ x))
    (codes " AND " ++ (number_text high_too ++ y)) refl refl
    (sym (bounds_text low high x) ∙ e ∙ bounds_text low_too high_too y) in
    let highs = numbers_apart high high_too x y f.digit g.digit
    (append_cancel_left (codes " AND ") (number_text high ++ x) (number_text high_too ++ y) lows.1) in (
      ap (λ (number : ℤ). Within negated number high) lows.0
          ∙ ap (λ (number : ℤ). Within negated low_too number) highs.0,
      highs.1,
    )

differs_apart : (negated : Bool) (one other : Constant) (x y : List ℕ) → IsEnded x → IsEnded y
    → constant_text one ++ x ≡ constant_text other ++ y → Same (Differs negated one) (Differs negated other) x y
differs_apart negated one other x y f g e =
    let found = constants_apart one other x y f g e in
    (ap (λ (constant : Constant). Differs negated constant) found.0, found.1)

by_key : (one other : Claim) (x y : List ℕ) → kind_of one ≡ kind_of other → key_of one ≡ key_of other
    → IsEnded x → IsEnded y → claim_text one ++ x ≡ claim_text other ++ y → Same one other x y
by_key (Compared op one) (Compared op_too other) x y kind same f g e =
    comparisons_apart op op_too one other x y
    (ops_same op op_too (sym (compared_key op one) ∙ same ∙ compared_key op_too other)) f g e
by_key (Missing false) (Missing false) x y kind same f g e = (refl, append_cancel_left (codes " IS NULL") x y e)
by_key (Missing true) (Missing true) x y kind same f g e = (refl, append_cancel_left (codes " IS NOT NULL") x y e)
by_key (Among false one) (Among false other) x y kind same f g e =
    among_apart false one other x y (append_cancel_left (codes " IN (") _ _ e)
by_key (Among true one) (Among true other) x y kind same f g e =
    among_apart true one other x y (append_cancel_left (codes " NOT IN (") _ _ e)
by_key (Within false low high) (Within false low_too high_too) x y kind same f g e =
    within_apart false low high low_too high_too x y f g (append_cancel_left (codes " BETWEEN ") _ _ e)
by_key (Within true low high) (Within true low_too high_too) x y kind same f g e =
    within_apart true low high low_too high_too x y f g (append_cancel_left (codes " NOT BETWEEN ") _ _ e)
by_key (Differs false one) (Differs false other) x y kind same f g e =
    differs_apart false one other x y f g (append_cancel_left (codes " IS DISTINCT FROM ") _ _ e)
by_key (Differs true one) (Differs true other) x y kind same f g e =
    differs_apart true one other x y f g (append_cancel_left (codes " IS NOT DISTINCT FROM ") _ _ e)
by_key one other x y kind same f g e = absurd (omega (arith, kind, same))

pub claims_apart : (one other : Claim) (x y : List ℕ) → IsEnded x → IsEnded y
    → claim_text one ++ x ≡ claim_text other ++ y → Same one other x y
claims_apart one other x y f g e =
    let same : key_of one ≡ key_of other = sym (claim_key one x) ∙ ap key_in e ∙ claim_key other y in
    by_key one other x y (sym (key_kind one) ∙ ap kind_by same ∙ key_kind other) same f g e
