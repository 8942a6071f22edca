-- A filter as a part between AND and OR.
use Rattle.std.proofs.Common.{◌≡◌, ℕ, Bool, true, false, List, [], ◌++◌, refl, sym, ap, ◌∙◌, append-nil}
use Rattle.std.specs.Prelude.{codes}
use Rattle.filter_tree.specs.Expr.{AtomOf, Cmp, IsNull, In, Between, Distinct, Expr, Const, Atom, Not, And, Or, Is}
use Rattle.filter_tree.specs.Lists.{column_of}
use Rattle.filter_tree.specs.declared.filter.Term.{Term}
use Rattle.filter_tree.specs.declared.filter.Term.TheVariants.{Col}
use Rattle.filter_tree.specs.declared.filter.Test.{Test}
use Rattle.filter_tree.specs.declared.table.Column.{Column}
use Rattle.catalog_text.specs.FilterText.{expr_text}
use Rattle.catalog_text.specs.declared.level.Level.{Level}
use Rattle.catalog_text.specs.declared.level.Level.TheVariants as level
use Rattle.catalog_laws.proofs.ClaimTexts.{Claim, Compared, Missing, Among, Within, Differs}
use Rattle.catalog_laws.proofs.ItemTexts.{Primary, Fixed, Claimed, Grouped, Untested, Judged, suffix_text, Item, Denied, Held, primary_text, item_text, IsFit, IsFitPrimary, IsFitItem}

-- an atom, or NOT of it
abbrev pub claim_of : Bool → AtomOf → Primary
claim_of negated (Cmp term op constant) = Claimed term (Compared op constant)
claim_of negated (IsNull column) = Claimed (Col column) (Missing negated)
claim_of negated (In term constants) = Claimed term (Among negated constants)
claim_of negated (Between term low high) = Claimed term (Within negated low high)
claim_of negated (Distinct term constant) = Claimed term (Differs negated constant)

-- a filter before an IS test
abbrev pub primary_of : Expr → Primary
primary_of (Const truth) = Fixed truth
primary_of (Atom (IsNull column)) = Grouped (Atom (IsNull column))
primary_of (Atom (Distinct term constant)) = Grouped (Atom (Distinct term constant))
primary_of (Atom atom) = claim_of false atom
primary_of (Not (Atom (In term constants))) = claim_of true (In term constants)
primary_of (Not (Atom (Between term low high))) = claim_of true (Between term low high)
primary_of filter = Grouped filter

-- NOT of a filter
abbrev pub negation_of : Expr → Item
negation_of (Atom (Cmp term op constant)) = Denied (Atom (Cmp term op constant))
negation_of (Atom atom) = Held (claim_of true atom) Untested
negation_of (Is test part) = Held (primary_of part) (Judged true test)
negation_of filter = Denied filter

abbrev pub item_of : Expr → Item
item_of (Const truth) = Held (Fixed truth) Untested
item_of (Atom atom) = Held (claim_of false atom) Untested
item_of (Not part) = negation_of part
item_of (And left right) = Held (Grouped (And left right)) Untested
item_of (Or left right) = Held (Grouped (Or left right)) Untested
item_of (Is test part) = Held (primary_of part) (Judged false test)

-- ---- back to filters

abbrev signed_filter : Bool → Expr → Expr
signed_filter true filter = Not filter
signed_filter false filter = filter

abbrev claimed_filter : Term → Claim → Expr
claimed_filter term (Compared op constant) = Atom (Cmp term op constant)
claimed_filter term (Missing negated) = signed_filter negated (Atom (IsNull (column_of term)))
claimed_filter term (Among negated constants) = signed_filter negated (Atom (In term constants))
claimed_filter term (Within negated low high) = signed_filter negated (Atom (Between term low high))
claimed_filter term (Differs negated constant) = signed_filter negated (Atom (Distinct term constant))

abbrev primary_filter : Primary → Expr
primary_filter (Fixed truth) = Const truth
primary_filter (Claimed term claim) = claimed_filter term claim
primary_filter (Grouped filter) = filter

abbrev pub item_filter : Item → Expr
item_filter (Denied filter) = Not filter
item_filter (Held primary Untested) = primary_filter primary
item_filter (Held primary (Judged negated test)) = signed_filter negated (Is test (primary_filter primary))

atom_back : (atom : AtomOf) → primary_filter (claim_of false atom) ≡ Atom atom
atom_back (Cmp term op constant) = refl
atom_back (IsNull column) = refl
atom_back (In term constants) = refl
atom_back (Between term low high) = refl
atom_back (Distinct term constant) = refl

primary_back : (filter : Expr) → primary_filter (primary_of filter) ≡ filter
primary_back (Const truth) = refl
primary_back (Atom (Cmp term op constant)) = refl
primary_back (Atom (IsNull column)) = refl
primary_back (Atom (In term constants)) = refl
primary_back (Atom (Between term low high)) = refl
primary_back (Atom (Distinct term constant)) = refl
primary_back (Not (Atom (Cmp term op constant))) = refl
primary_back (Not (Atom (IsNull column))) = refl
primary_back (Not (Atom (In term constants))) = refl
primary_back (Not (Atom (Between term low high))) = refl
primary_back (Not (Atom (Distinct term constant))) = refl
primary_back (Not (Const truth)) = refl
primary_back (Not (Not part)) = refl
primary_back (Not (And left right)) = refl
primary_back (Not (Or left right)) = refl
primary_back (Not (Is test part)) = refl
primary_back (And left right) = refl
primary_back (Or left right) = refl
primary_back (Is test part) = refl

negation_back : (filter : Expr) → item_filter (negation_of filter) ≡ Not filter
negation_back (Const truth) = refl
negation_back (Atom (Cmp term op constant)) = refl
negation_back (Atom (IsNull column)) = refl
negation_back (Atom (In term constants)) = refl
negation_back (Atom (Between term low high)) = refl
negation_back (Atom (Distinct term constant)) = refl
negation_back (Not part) = refl
negation_back (And left right) = refl
negation_back (Or left right) = refl
negation_back (Is test part) = ap (λ (p : Expr). Not (Is test p)) (primary_back part)

pub item_back : (filter : Expr) → item_filter (item_of filter) ≡ filter
item_back (Const truth) = refl
item_back (Atom atom) = atom_back atom
item_back (Not part) = negation_back part
item_back (And left right) = refl
item_back (Or left right) = refl
item_back (Is test part) = ap (Is test) (primary_back part)

-- ---- fitting parts

module _ (columns : List Column) where
  atom_fits : (negated : Bool) (atom : AtomOf) → IsFit columns (Atom atom)
      → IsFitPrimary columns (claim_of negated atom)
  atom_fits negated (Cmp term op constant) fit = fit
  atom_fits negated (IsNull column) fit = fit
  atom_fits negated (In term constants) fit = fit
  atom_fits negated (Between term low high) fit = fit
  atom_fits negated (Distinct term constant) fit = fit

  primary_fits : (filter : Expr) → IsFit columns filter → IsFitPrimary columns (primary_of filter)
  primary_fits (Const truth) fit = fit
  primary_fits (Atom (Cmp term op constant)) fit = fit
  primary_fits (Atom (IsNull column)) fit = fit
  primary_fits (Atom (In term constants)) fit = fit
  primary_fits (Atom (Between term low high)) fit = fit
  primary_fits (Atom (Distinct term constant)) fit = fit
  primary_fits (Not (Atom (Cmp term op constant))) fit = fit
  primary_fits (Not (Atom (IsNull column))) fit = fit
  primary_fits (Not (Atom (In term constants))) fit = fit
  primary_fits (Not (Atom (Between term low high))) fit = fit
  primary_fits (Not (Atom (Distinct term constant))) fit = fit
  primary_fits (Not (Const truth)) fit = fit
  primary_fits (Not (Not part)) fit = fit
  primary_fits (Not (And left right)) fit = fit
  primary_fits (Not (Or left right)) fit = fit
  primary_fits (Not (Is test part)) fit = fit
  primary_fits (And left right) fit = fit
  primary_fits (Or left right) fit = fit
  primary_fits (Is test part) fit = fit

  negation_fits : (filter : Expr) → IsFit columns filter → IsFitItem columns (negation_of filter)
  negation_fits (Const truth) fit = fit
  negation_fits (Atom (Cmp term op constant)) fit = fit
  negation_fits (Atom (IsNull column)) fit = atom_fits true (IsNull column) fit
  negation_fits (Atom (In term constants)) fit = fit
  negation_fits (Atom (Between term low high)) fit = fit
  negation_fits (Atom (Distinct term constant)) fit = fit
  negation_fits (Not part) fit = fit
  negation_fits (And left right) fit = fit
  negation_fits (Or left right) fit = fit
  negation_fits (Is test part) fit = primary_fits part fit

  pub item_fits : (filter : Expr) → IsFit columns filter → IsFitItem columns (item_of filter)
  item_fits (Const truth) fit = fit
  item_fits (Atom atom) fit = atom_fits false atom fit
  item_fits (Not part) fit = negation_fits part fit
  item_fits (And left right) fit = fit
  item_fits (Or left right) fit = fit
  item_fits (Is test part) fit = primary_fits part fit

-- ---- texts

grouped : (text : List ℕ)
    → codes "(" ++ (text ++ codes ")") ≡ codes "(" ++ ((text ++ []) ++ codes ")")
grouped text = ap (λ (bytes : List ℕ). codes "(" ++ (bytes ++ codes ")")) (sym (append-nil text))

module _ (columns : List Column) where
  abbrev text_at : Level → Bool → Expr → List ℕ
  text_at wanted negated filter = expr_text columns wanted negated filter

  -- the texts of parts, with no parentheses around them
  abbrev atom_body : Bool → AtomOf → List ℕ
  atom_body negated atom = primary_text columns (claim_of negated atom)

  abbrev denied_body : Expr → List ℕ
  denied_body part = item_text columns (Denied part)

  abbrev pair_body : Level → Expr → List ℕ → Level → Expr → List ℕ
  pair_body one left word other right = text_at one false left ++ (word ++ text_at other false right)

  abbrev and_body : Expr → Expr → List ℕ
  and_body left right = pair_body level.And left (codes " AND ") level.Not right

  abbrev or_body : Expr → Expr → List ℕ
  or_body left right = pair_body level.Or left (codes " OR ") level.And right

  abbrev is_body : Bool → Test → Expr → List ℕ
  is_body negated test part = text_at level.Operand false part ++ suffix_text (Judged negated test)

  operand_text : (filter : Expr) → text_at level.Operand false filter ≡ primary_text columns (primary_of filter)
  operand_text (Const truth) = append-nil (primary_text columns (Fixed truth))
  operand_text (Atom (Cmp term op constant)) = append-nil (atom_body false (Cmp term op constant))
  operand_text (Atom (IsNull column)) = grouped (atom_body false (IsNull column))
  operand_text (Atom (In term constants)) = refl
  operand_text (Atom (Between term low high)) = refl
  operand_text (Atom (Distinct term constant)) = grouped (atom_body false (Distinct term constant))
  operand_text (Not (Atom (Cmp term op constant))) = grouped (denied_body (Atom (Cmp term op constant)))
  operand_text (Not (Atom (IsNull column))) = grouped (atom_body true (IsNull column))
  operand_text (Not (Atom (In term constants))) = refl
  operand_text (Not (Atom (Between term low high))) = refl
  operand_text (Not (Atom (Distinct term constant))) = grouped (atom_body true (Distinct term constant))
  operand_text (Not (Const truth)) = grouped (denied_body (Const truth))
  operand_text (Not (Not part)) = grouped (denied_body (Not part))
  operand_text (Not (And left right)) = grouped (denied_body (And left right))
  operand_text (Not (Or left right)) = grouped (denied_body (Or left right))
  operand_text (Not (Is test part)) = grouped (is_body true test part)
  operand_text (And left right) = grouped (and_body left right)
  operand_text (Or left right) = grouped (or_body left right)
  operand_text (Is test part) = grouped (is_body false test part)

  judged_text : (negated : Bool) (test : Test) (part : Expr)
      → is_body negated test part ++ [] ≡ item_text columns (Held (primary_of part) (Judged negated test))
  judged_text negated test part =
      append-nil (is_body negated test part)
      ∙ ap (λ (text : List ℕ). text ++ suffix_text (Judged negated test)) (operand_text part)

  negation_text : (filter : Expr) → text_at level.Not true filter ≡ item_text columns (negation_of filter)
  negation_text (Const truth) = append-nil (denied_body (Const truth))
  negation_text (Atom (Cmp term op constant)) = append-nil (denied_body (Atom (Cmp term op constant)))
  negation_text (Atom (IsNull column)) = refl
  negation_text (Atom (In term constants)) = sym (append-nil (atom_body true (In term constants)))
  negation_text (Atom (Between term low high)) = sym (append-nil (atom_body true (Between term low high)))
  negation_text (Atom (Distinct term constant)) = refl
  negation_text (Not part) = append-nil (denied_body (Not part))
  negation_text (And left right) = append-nil (denied_body (And left right))
  negation_text (Or left right) = append-nil (denied_body (Or left right))
  negation_text (Is test part) = judged_text true test part

  group_text : (filter : Expr) (body : List ℕ) → text_at level.Or false filter ≡ body ++ []
      → codes "(" ++ (body ++ codes ")") ≡ item_text columns (Held (Grouped filter) Untested)
  group_text filter body is =
      grouped body ∙ ap (λ (text : List ℕ). codes "(" ++ (text ++ codes ")")) (sym is)
      ∙ sym (append-nil (primary_text columns (Grouped filter)))

  pub text_of_item : (filter : Expr) → text_at level.Not false filter ≡ item_text columns (item_of filter)
  text_of_item (Const truth) = refl
  text_of_item (Atom (Cmp term op constant)) = refl
  text_of_item (Atom (IsNull column)) = refl
  text_of_item (Atom (In term constants)) = sym (append-nil (atom_body false (In term constants)))
  text_of_item (Atom (Between term low high)) = sym (append-nil (atom_body false (Between term low high)))
  text_of_item (Atom (Distinct term constant)) = refl
  text_of_item (Not part) = negation_text part
  text_of_item (And left right) = group_text (And left right) (and_body left right) refl
  text_of_item (Or left right) = group_text (Or left right) (or_body left right) refl
  text_of_item (Is test part) = judged_text false test part
