-- A filter as parts with AND between them, and as parts with OR between them.
use Rattle.std.proofs.Common.{◌≡◌, ℕ, true, false, List, [], ◌∷◌, ◌++◌, refl, sym, ap, ◌∙◌, append-nil, append_assoc}
use Rattle.std.specs.Prelude.{codes, fold}
use Rattle.std.specs.List.{flat_map, join_by, AllByRecursion}
use Rattle.std.proofs.lemmas.Grind.{flat_map-append}
use Rattle.std.proofs.lemmas.List.Sums.{fold-append}
use Rattle.filter_tree.specs.Expr.{AtomOf, Cmp, IsNull, In, Between, Distinct, Expr, Const, Atom, Not, And, Or, Is}
use Rattle.filter_tree.specs.declared.table.Column.{Column}
use Rattle.catalog_text.specs.FilterText.{expr_text}
use Rattle.catalog_text.specs.declared.level.Level.TheVariants as level
use Rattle.catalog_laws.proofs.ItemTexts.{IsFit}

-- the first part, and the later ones
abbrev pub first_and : Expr → Expr
first_and (And left right) = first_and left
first_and filter = filter

abbrev pub more_ands : Expr → List Expr
more_ands (And left right) = more_ands left ++ right ∷ []
more_ands filter = []

abbrev pub first_or : Expr → Expr
first_or (Or left right) = first_or left
first_or filter = filter

abbrev pub more_ors : Expr → List Expr
more_ors (Or left right) = more_ors left ++ right ∷ []
more_ors filter = []

-- ---- back to filters

abbrev pub ands_filter : List Expr → Expr
ands_filter [] = Const true
ands_filter (first ∷ more) = fold And first more

abbrev pub ors_filter : List Expr → Expr
ors_filter [] = Const true
ors_filter (first ∷ more) = fold Or first more

pub ands_back : (filter : Expr) → ands_filter (first_and filter ∷ more_ands filter) ≡ filter
ands_back (And left right) =
    fold-append And (first_and left) (more_ands left) (right ∷ []) ∙ ap (λ (one : Expr). And one right) (ands_back left)
ands_back (Const truth) = refl
ands_back (Atom atom) = refl
ands_back (Not part) = refl
ands_back (Or left right) = refl
ands_back (Is test part) = refl

pub ors_back : (filter : Expr) → ors_filter (first_or filter ∷ more_ors filter) ≡ filter
ors_back (Or left right) =
    fold-append Or (first_or left) (more_ors left) (right ∷ []) ∙ ap (λ (one : Expr). Or one right) (ors_back left)
ors_back (Const truth) = refl
ors_back (Atom atom) = refl
ors_back (Not part) = refl
ors_back (And left right) = refl
ors_back (Is test part) = refl

-- ---- fitting parts

pub all_more : {A : Type 0} (P : A → Type 0) (items : List A) (item : A) → AllByRecursion P items → P item
    → AllByRecursion P (items ++ item ∷ [])
all_more P [] item all one = (one, tt)
all_more P (first ∷ items) item all one = (all.0, all_more P items item all.1 one)

module _ (columns : List Column) where
  pub first_and_fits : (filter : Expr) → IsFit columns filter → IsFit columns (first_and filter)
  first_and_fits (And left right) fit = first_and_fits left fit.0
  first_and_fits (Const truth) fit = fit
  first_and_fits (Atom atom) fit = fit
  first_and_fits (Not part) fit = fit
  first_and_fits (Or left right) fit = fit
  first_and_fits (Is test part) fit = fit

  pub more_ands_fit : (filter : Expr) → IsFit columns filter → AllByRecursion (IsFit columns) (more_ands filter)
  more_ands_fit (And left right) fit =
      all_more (IsFit columns) (more_ands left) right (more_ands_fit left fit.0) fit.1
  more_ands_fit (Const truth) fit = tt
  more_ands_fit (Atom atom) fit = tt
  more_ands_fit (Not part) fit = tt
  more_ands_fit (Or left right) fit = tt
  more_ands_fit (Is test part) fit = tt

  pub first_or_fits : (filter : Expr) → IsFit columns filter → IsFit columns (first_or filter)
  first_or_fits (Or left right) fit = first_or_fits left fit.0
  first_or_fits (Const truth) fit = fit
  first_or_fits (Atom atom) fit = fit
  first_or_fits (Not part) fit = fit
  first_or_fits (And left right) fit = fit
  first_or_fits (Is test part) fit = fit

  pub more_ors_fit : (filter : Expr) → IsFit columns filter → AllByRecursion (IsFit columns) (more_ors filter)
  more_ors_fit (Or left right) fit = all_more (IsFit columns) (more_ors left) right (more_ors_fit left fit.0) fit.1
  more_ors_fit (Const truth) fit = tt
  more_ors_fit (Atom atom) fit = tt
  more_ors_fit (Not part) fit = tt
  more_ors_fit (And left right) fit = tt
  more_ors_fit (Is test part) fit = tt

-- ---- texts

-- a list with one more item
joined_more : {A : Type 0} (text : A → List ℕ) (separator : List ℕ) (first : A) (more : List A) (item : A)
    (whole : List ℕ) → whole ≡ join_by text separator (first ∷ more)
    → (whole ++ (separator ++ text item)) ++ [] ≡ join_by text separator (first ∷ (more ++ item ∷ []))
joined_more {A = A} text separator first more item whole is =
    let one = λ (a : A). separator ++ text a in
    append-nil (whole ++ one item) ∙ ap (λ (bytes : List ℕ). bytes ++ one item) is
    ∙ append_assoc (text first) (flat_map one more) (one item)
    ∙ ap (λ (bytes : List ℕ). text first ++ (flat_map one more ++ bytes)) (sym (append-nil (one item)))
    ∙ ap (λ (bytes : List ℕ). text first ++ bytes) (sym (flat_map-append one more (item ∷ [])))

module _ (columns : List Column) where
  abbrev pub item_level : Expr → List ℕ
  item_level filter = expr_text columns level.Not false filter

  abbrev pub and_level : Expr → List ℕ
  and_level filter = expr_text columns level.And false filter

  abbrev pub or_level : Expr → List ℕ
  or_level filter = expr_text columns level.Or false filter

  -- NOT of a part is written alike at the three levels
  negation_in_and : (part : Expr) → expr_text columns level.And true part ≡ expr_text columns level.Not true part
  negation_in_and (Const truth) = refl
  negation_in_and (Atom (Cmp term op constant)) = refl
  negation_in_and (Atom (IsNull column)) = refl
  negation_in_and (Atom (In term constants)) = refl
  negation_in_and (Atom (Between term low high)) = refl
  negation_in_and (Atom (Distinct term constant)) = refl
  negation_in_and (Not part) = refl
  negation_in_and (And left right) = refl
  negation_in_and (Or left right) = refl
  negation_in_and (Is test part) = refl

  negation_in_or : (part : Expr) → expr_text columns level.Or true part ≡ expr_text columns level.And true part
  negation_in_or (Const truth) = refl
  negation_in_or (Atom (Cmp term op constant)) = refl
  negation_in_or (Atom (IsNull column)) = refl
  negation_in_or (Atom (In term constants)) = refl
  negation_in_or (Atom (Between term low high)) = refl
  negation_in_or (Atom (Distinct term constant)) = refl
  negation_in_or (Not part) = refl
  negation_in_or (And left right) = refl
  negation_in_or (Or left right) = refl
  negation_in_or (Is test part) = refl

  atom_in_and : (atom : AtomOf) → and_level (Atom atom) ≡ item_level (Atom atom)
  atom_in_and (Cmp term op constant) = refl
  atom_in_and (IsNull column) = refl
  atom_in_and (In term constants) = refl
  atom_in_and (Between term low high) = refl
  atom_in_and (Distinct term constant) = refl

  atom_in_or : (atom : AtomOf) → or_level (Atom atom) ≡ and_level (Atom atom)
  atom_in_or (Cmp term op constant) = refl
  atom_in_or (IsNull column) = refl
  atom_in_or (In term constants) = refl
  atom_in_or (Between term low high) = refl
  atom_in_or (Distinct term constant) = refl

  pub text_of_ands : (filter : Expr)
      → and_level filter ≡ join_by item_level (codes " AND ") (first_and filter ∷ more_ands filter)
  text_of_ands (And left right) =
      joined_more item_level (codes " AND ") (first_and left) (more_ands left) right (and_level left)
      (text_of_ands left)
  text_of_ands (Const truth) = sym (append-nil (item_level (Const truth)))
  text_of_ands (Atom atom) = atom_in_and atom ∙ sym (append-nil (item_level (Atom atom)))
  text_of_ands (Not part) = negation_in_and part ∙ sym (append-nil (item_level (Not part)))
  text_of_ands (Or left right) = sym (append-nil (item_level (Or left right)))
  text_of_ands (Is test part) = sym (append-nil (item_level (Is test part)))

  pub text_of_ors : (filter : Expr)
      → or_level filter ≡ join_by and_level (codes " OR ") (first_or filter ∷ more_ors filter)
  text_of_ors (Or left right) =
      joined_more and_level (codes " OR ") (first_or left) (more_ors left) right (or_level left) (text_of_ors left)
  text_of_ors (Const truth) = sym (append-nil (and_level (Const truth)))
  text_of_ors (Atom atom) = atom_in_or atom ∙ sym (append-nil (and_level (Atom atom)))
  text_of_ors (Not part) = negation_in_or part ∙ sym (append-nil (and_level (Not part)))
  text_of_ors (And left right) = sym (append-nil (and_level (And left right)))
  text_of_ors (Is test part) = sym (append-nil (and_level (Is test part)))
