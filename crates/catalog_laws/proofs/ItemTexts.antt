-- The parts of a filter between AND and OR are determined by their texts, if the parts within them are.
use Rattle.std.proofs.Common.{◌≡◌, ℕ, Bool, true, false, ◌==◌, if◌then◌else◌, List, [], ◌∷◌, ◌++◌, get_or, refl, sym, ap, ◌∙◌, append_assoc, arith}
use Rattle.std.specs.Prelude.{codes}
use Rattle.std.specs.List.{IsDistinct}
use Rattle.std.specs.Str.{bytes_eq}
use Rattle.std.proofs.lemmas.List.{append_cancel_left}
use Rattle.filter_tree.specs.Expr.{term_of, Expr, Const, Atom, Not, And, Or, Is}
use Rattle.filter_tree.specs.declared.filter.Term.{Term}
use Rattle.filter_tree.specs.declared.filter.Test.{Test}
use Rattle.filter_tree.specs.declared.filter.Test.TheVariants.{True, False, Unknown}
use Rattle.filter_tree.specs.declared.table.Column.{Column}
use Rattle.catalog_text.specs.FilterText.{truth_text, term_text, not_text, test_text, expr_text}
use Rattle.catalog_text.specs.declared.level.Level.TheVariants as level
use Rattle.catalog_laws.proofs.ClaimTexts.{Claim, claim_text, claim_follows, claims_apart}
use Rattle.catalog_laws.proofs.ColumnTexts.{names_of}
use Rattle.catalog_laws.proofs.ConstantTexts.{truths_apart}
use Rattle.catalog_laws.proofs.Followers.{first_byte, begins_not, IsEnded, FollowsItem, FollowsAnd, FollowsOr}
use Rattle.catalog_laws.proofs.QuotedTexts.{Same, tail_is}
use Rattle.catalog_laws.proofs.TermTexts.{IsTerm, terms_apart, term_first}

-- ---- the parts

-- what an IS test may test: TRUE or FALSE, an atom or NOT of it, or a filter in parentheses
pub data Primary : Type 0 where
  Fixed : Bool → Primary
  Claimed : Term → Claim → Primary
  Grouped : Expr → Primary

-- an IS test after it, if there is one: the truth value is whether NOT is among the words
pub data Suffix : Type 0 where
  Untested : Suffix
  Judged : Bool → Test → Suffix

pub data Item : Type 0 where
  Denied : Expr → Item
  Held : Primary → Suffix → Item

abbrev pub suffix_text : Suffix → List ℕ
suffix_text Untested = []
suffix_text (Judged negated test) = codes " IS" ++ (not_text negated ++ test_text test)

module _ (columns : List Column) where
  abbrev pub primary_text : Primary → List ℕ
  primary_text (Fixed truth) = truth_text truth
  primary_text (Claimed term claim) = term_text columns term ++ claim_text claim
  primary_text (Grouped filter) = codes "(" ++ (expr_text columns level.Or false filter ++ codes ")")

  abbrev pub item_text : Item → List ℕ
  item_text (Denied filter) = codes "NOT " ++ expr_text columns level.Not false filter
  item_text (Held primary suffix) = primary_text primary ++ suffix_text suffix

  -- each term is of one of these columns
  abbrev pub IsFit : Expr → Type 0
  IsFit (Const truth) = Unit {0}
  IsFit (Atom atom) = IsTerm columns (term_of atom)
  IsFit (Not part) = IsFit part
  IsFit (And left right) = IsFit left × IsFit right
  IsFit (Or left right) = IsFit left × IsFit right
  IsFit (Is test part) = IsFit part

  abbrev pub IsFitPrimary : Primary → Type 0
  IsFitPrimary (Fixed truth) = Unit {0}
  IsFitPrimary (Claimed term claim) = IsTerm columns term
  IsFitPrimary (Grouped filter) = IsFit filter

  abbrev pub IsFitItem : Item → Type 0
  IsFitItem (Denied filter) = IsFit filter
  IsFitItem (Held primary suffix) = IsFitPrimary primary

  -- ---- filters that their texts tell from other filters, at three levels

  abbrev pub ApartAsItem : Expr → Type 0
  ApartAsItem one = (other : Expr) (x y : List ℕ) → IsFit other → FollowsItem x → FollowsItem y
      → expr_text columns level.Not false one ++ x ≡ expr_text columns level.Not false other ++ y → Same one other x y

  abbrev pub ApartAsAnd : Expr → Type 0
  ApartAsAnd one = (other : Expr) (x y : List ℕ) → IsFit other → FollowsAnd x → FollowsAnd y
      → expr_text columns level.And false one ++ x ≡ expr_text columns level.And false other ++ y → Same one other x y

  abbrev pub ApartAsOr : Expr → Type 0
  ApartAsOr one = (other : Expr) (x y : List ℕ) → IsFit other → FollowsOr x → FollowsOr y
      → expr_text columns level.Or false one ++ x ≡ expr_text columns level.Or false other ++ y → Same one other x y

  -- what is known of the filters within a part
  abbrev pub IsApartPrimary : Primary → Type 0
  IsApartPrimary (Fixed truth) = Unit {0}
  IsApartPrimary (Claimed term claim) = Unit {0}
  IsApartPrimary (Grouped filter) = ApartAsOr filter

  abbrev pub IsApartItem : Item → Type 0
  IsApartItem (Denied filter) = ApartAsItem filter
  IsApartItem (Held primary suffix) = IsApartPrimary primary

-- ---- IS tests

suffix_ended : (suffix : Suffix) (x : List ℕ) → IsEnded x → IsEnded (suffix_text suffix ++ x)
suffix_ended Untested x ended = ended
suffix_ended (Judged negated test) x ended = record { digit = refl; single = refl; double = refl }

-- which test it is, from the first byte of its word
abbrev test_at : ℕ → ℕ
test_at byte = if byte == 84 then 0 else (if byte == 70 then 1 else 2)

abbrev test_key : Test → ℕ
test_key True = 0
test_key False = 1
test_key Unknown = 2

abbrev flag_key : Bool → ℕ
flag_key negated = if negated then 1 else 0

-- whether NOT is among the words, and which test it is, from the text
abbrev flag_in : List ℕ → ℕ
flag_in text = if get_or text 4 0 == 78 then 1 else 0

abbrev test_in : List ℕ → ℕ
test_in text = test_at (if get_or text 4 0 == 78 then get_or text 8 0 else get_or text 4 0)

flag_is : (negated : Bool) (test : Test) (x : List ℕ)
    → flag_in (suffix_text (Judged negated test) ++ x) ≡ flag_key negated
flag_is false True x = refl
flag_is false False x = refl
flag_is false Unknown x = refl
flag_is true test x = refl

test_is : (negated : Bool) (test : Test) (x : List ℕ)
    → test_in (suffix_text (Judged negated test) ++ x) ≡ test_key test
test_is false True x = refl
test_is false False x = refl
test_is false Unknown x = refl
test_is true True x = refl
test_is true False x = refl
test_is true Unknown x = refl

judgements_apart : (negated negated_too : Bool) (one other : Test) (x y : List ℕ)
    → flag_key negated ≡ flag_key negated_too → test_key one ≡ test_key other
    → suffix_text (Judged negated one) ++ x ≡ suffix_text (Judged negated_too other) ++ y
    → Same (Judged negated one) (Judged negated_too other) x y
judgements_apart false false True True x y flags tests e = (refl, append_cancel_left (codes " IS TRUE") x y e)
judgements_apart false false False False x y flags tests e = (refl, append_cancel_left (codes " IS FALSE") x y e)
judgements_apart false false Unknown Unknown x y flags tests e = (refl, append_cancel_left (codes " IS UNKNOWN") x y e)
judgements_apart true true True True x y flags tests e = (refl, append_cancel_left (codes " IS NOT TRUE") x y e)
judgements_apart true true False False x y flags tests e = (refl, append_cancel_left (codes " IS NOT FALSE") x y e)
judgements_apart true true Unknown Unknown x y flags tests e =
    (refl, append_cancel_left (codes " IS NOT UNKNOWN") x y e)
judgements_apart negated negated_too one other x y flags tests e = absurd (omega (arith, flags, tests))

suffixes_apart : (one other : Suffix) (x y : List ℕ) → FollowsItem x → FollowsItem y
    → suffix_text one ++ x ≡ suffix_text other ++ y → Same one other x y
suffixes_apart Untested Untested x y f g e = (refl, e)
suffixes_apart Untested (Judged negated test) x y f g e =
    absurd (begins_not 73 x (suffix_text (Judged negated test) ++ y) f.is refl e)
suffixes_apart (Judged negated test) Untested x y f g e =
    absurd (begins_not 73 y (suffix_text (Judged negated test) ++ x) g.is refl (sym e))
suffixes_apart (Judged negated one) (Judged negated_too other) x y f g e =
    judgements_apart negated negated_too one other x y
    (sym (flag_is negated one x) ∙ ap flag_in e ∙ flag_is negated_too other y)
    (sym (test_is negated one x) ∙ ap test_in e ∙ test_is negated_too other y) e

-- ---- what is tested

pub closed_follows : (x : List ℕ) → FollowsOr (41 ∷ x)
closed_follows x = record {
  conjunction = record {
    item = record { ended = record { digit = refl; single = refl; double = refl }; is = refl };
    and = refl;
  };
  or = refl;
}

abbrev kind_of : Primary → ℕ
kind_of (Fixed truth) = 0
kind_of (Claimed term claim) = 1
kind_of (Grouped filter) = 2

-- what it is, from the first byte of its text; 3 for NOT
abbrev kind_at : ℕ → ℕ
kind_at byte = if byte == 34 then 1 else (if byte == 40 then 2 else (if byte == 78 then 3 else 0))

module _ (columns : List Column) where
  primary_kind : (primary : Primary) (x : List ℕ) → IsFitPrimary columns primary
      → kind_at (first_byte (primary_text columns primary ++ x)) ≡ kind_of primary
  primary_kind (Fixed true) x fit = refl
  primary_kind (Fixed false) x fit = refl
  primary_kind (Claimed term claim) x fit =
      ap (λ (text : List ℕ). kind_at (first_byte text)) (append_assoc (term_text columns term) (claim_text claim) x)
      ∙ ap kind_at (term_first columns term (claim_text claim ++ x) fit)
  primary_kind (Grouped filter) x fit = refl

  grouped_text : (filter : Expr) (x : List ℕ) → primary_text columns (Grouped filter) ++ x
      ≡ 40 ∷ (expr_text columns level.Or false filter ++ (41 ∷ x))
  grouped_text filter x =
      ap (λ (text : List ℕ). 40 ∷ text) (append_assoc (expr_text columns level.Or false filter) (codes ")") x)

  module _ (named : IsDistinct bytes_eq (names_of columns)) where
    by_kind : (one other : Primary) (x y : List ℕ) → kind_of one ≡ kind_of other → IsFitPrimary columns one
        → IsFitPrimary columns other → IsApartPrimary columns one → IsEnded x → IsEnded y
        → primary_text columns one ++ x ≡ primary_text columns other ++ y → Same one other x y
    by_kind (Fixed truth) (Fixed other) x y same p q apart f g e =
        let found = truths_apart truth other x y e in (ap Fixed found.0, found.1)
    by_kind (Claimed term one) (Claimed term_too other) x y same p q apart f g e =
        let terms = terms_apart columns named term term_too (claim_text one ++ x) (claim_text other ++ y) p q
        (claim_follows one x) (claim_follows other y)
        (sym (append_assoc (term_text columns term) (claim_text one) x) ∙ e
        ∙ append_assoc (term_text columns term_too) (claim_text other) y) in
        let claims = claims_apart one other x y f g terms.1 in
        (ap (λ (t : Term). Claimed t one) terms.0 ∙ ap (λ (c : Claim). Claimed term_too c) claims.0, claims.1)
    by_kind (Grouped one) (Grouped other) x y same p q apart f g e =
        let found = apart other (41 ∷ x) (41 ∷ y) q (closed_follows x) (closed_follows y)
        (tail_is 40 40 (expr_text columns level.Or false one ++ (41 ∷ x))
        (expr_text columns level.Or false other ++ (41 ∷ y))
        (sym (grouped_text one x) ∙ e ∙ grouped_text other y)) in
        (ap Grouped found.0, tail_is 41 41 x y found.1)
    by_kind one other x y same p q apart f g e = absurd (omega (arith, same))

    primaries_apart : (one other : Primary) (x y : List ℕ) → IsFitPrimary columns one → IsFitPrimary columns other
        → IsApartPrimary columns one → IsEnded x → IsEnded y
        → primary_text columns one ++ x ≡ primary_text columns other ++ y → Same one other x y
    primaries_apart one other x y p q apart f g e =
        by_kind one other x y
        (sym (primary_kind one x p) ∙ ap (λ (text : List ℕ). kind_at (first_byte text)) e ∙ primary_kind other y q)
        p q apart f g e

    -- ---- items

    held_text : (primary : Primary) (suffix : Suffix) (x : List ℕ) → item_text columns (Held primary suffix) ++ x
        ≡ primary_text columns primary ++ (suffix_text suffix ++ x)
    held_text primary suffix x = append_assoc (primary_text columns primary) (suffix_text suffix) x

    held_differs : (primary : Primary) (suffix : Suffix) (filter : Expr) (x y : List ℕ) → IsFitPrimary columns primary
        → item_text columns (Held primary suffix) ++ x ≡ item_text columns (Denied filter) ++ y → ⊥
    held_differs primary suffix filter x y fit e =
        no_kind primary (sym (primary_kind primary (suffix_text suffix ++ x) fit)
        ∙ ap (λ (text : List ℕ). kind_at (first_byte text)) (sym (held_text primary suffix x) ∙ e))
      where
        no_kind : (primary : Primary) → kind_of primary ≡ 3 → ⊥
        no_kind (Fixed truth) is = omega (arith, is)
        no_kind (Claimed term claim) is = omega (arith, is)
        no_kind (Grouped inner) is = omega (arith, is)

    pub items_apart : (one other : Item) (x y : List ℕ) → IsFitItem columns one → IsFitItem columns other
        → IsApartItem columns one → FollowsItem x → FollowsItem y
        → item_text columns one ++ x ≡ item_text columns other ++ y → Same one other x y
    items_apart (Denied one) (Denied other) x y p q apart f g e =
        let found = apart other x y q f g (append_cancel_left (codes "NOT ") _ _ e) in (ap Denied found.0, found.1)
    items_apart (Denied one) (Held other suffix) x y p q apart f g e =
        absurd (held_differs other suffix one y x q (sym e))
    items_apart (Held one suffix) (Denied other) x y p q apart f g e = absurd (held_differs one suffix other x y p e)
    items_apart (Held one suffix) (Held other suffix_too) x y p q apart f g e =
        let first = primaries_apart one other (suffix_text suffix ++ x) (suffix_text suffix_too ++ y) p q apart
        (suffix_ended suffix x f.ended) (suffix_ended suffix_too y g.ended)
        (sym (held_text one suffix x) ∙ e ∙ held_text other suffix_too y) in
        let rest = suffixes_apart suffix suffix_too x y f g first.1 in
        (ap (λ (p : Primary). Held p suffix) first.0 ∙ ap (λ (s : Suffix). Held other s) rest.0, rest.1)
