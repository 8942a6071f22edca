-- A term is determined by its text.
use Rattle.std.proofs.Common.{◌≡◌, ℕ, ◌<◌, ℤ, List, ◌++◌, length, refl, sym, ap, ◌∙◌, append_assoc}
use Rattle.std.specs.Prelude.{codes}
use Rattle.std.specs.List.{IsDistinct}
use Rattle.std.specs.Str.{bytes_eq}
use Rattle.std.proofs.lemmas.List.{append_cancel_left}
use Rattle.filter_tree.specs.Lists.{column_of}
use Rattle.filter_tree.specs.declared.filter.Term.{Term}
use Rattle.filter_tree.specs.declared.filter.Term.TheVariants.{Col, Mod}
use Rattle.filter_tree.specs.declared.table.Column.{Column}
use Rattle.catalog_text.specs.FilterText.{column_sql, number_text, term_text}
use Rattle.catalog_laws.proofs.ColumnTexts.{names_of, column_at, column_text_is, columns_apart}
use Rattle.catalog_laws.proofs.Followers.{FollowsTerm, first_byte, begins_not}
use Rattle.catalog_laws.proofs.NumberTexts.{numbers_apart}
use Rattle.catalog_laws.proofs.QuotedTexts.{Same}

-- a term of one of these columns
abbrev pub IsTerm : List Column → Term → Type 0
IsTerm columns term = column_of term < length columns

mod_text : (columns : List Column) (column : ℕ) (divisor : ℤ) (x : List ℕ)
    → term_text columns (Mod column divisor) ++ x
    ≡ column_sql columns column ++ (codes " % " ++ (number_text divisor ++ x))
mod_text columns column divisor x =
    append_assoc (column_sql columns column) (codes " % " ++ number_text divisor) x

module _ (columns : List Column) (named : IsDistinct bytes_eq (names_of columns)) where
  pub terms_apart : (one other : Term) (x y : List ℕ) → IsTerm columns one → IsTerm columns other → FollowsTerm x
      → FollowsTerm y → term_text columns one ++ x ≡ term_text columns other ++ y → Same one other x y
  terms_apart (Col n) (Col m) x y p q f g e =
      let found = columns_apart columns named n m x y p q f.ended.double g.ended.double e in
      (ap Col found.0, found.1)
  terms_apart (Col n) (Mod m divisor) x y p q f g e =
      let after = codes " % " ++ (number_text divisor ++ y) in
      let found = columns_apart columns named n m x after p q f.ended.double refl
      (e ∙ mod_text columns m divisor y) in
      absurd (begins_not 37 x after f.percent refl found.1)
  terms_apart (Mod n divisor) (Col m) x y p q f g e =
      let after = codes " % " ++ (number_text divisor ++ x) in
      let found = columns_apart columns named n m after y p q refl g.ended.double
      (sym (mod_text columns n divisor x) ∙ e) in
      absurd (begins_not 37 y after g.percent refl (sym found.1))
  terms_apart (Mod n one) (Mod m other) x y p q f g e =
      let found = columns_apart columns named n m (codes " % " ++ (number_text one ++ x))
      (codes " % " ++ (number_text other ++ y)) p q refl refl
      (sym (mod_text columns n one x) ∙ e ∙ mod_text columns m other y) in
      let divisors = numbers_apart one other x y f.ended.digit g.ended.digit
      (append_cancel_left (codes " % ") (number_text one ++ x) (number_text other ++ y) found.1) in
      (ap (λ (number : ℕ). Mod number one) found.0 ∙ ap (λ (divisor : ℤ). Mod m divisor) divisors.0, divisors.1)

-- a term begins with a quote
pub term_first : (columns : List Column) (term : Term) (x : List ℕ) → column_of term < length columns
    → first_byte (term_text columns term ++ x) ≡ 34
term_first columns (Col n) x known =
    let column = column_at columns n known in
    ap (λ (text : List ℕ). first_byte (text ++ x)) (column_text_is columns n column.0 column.1)
term_first columns (Mod n divisor) x known =
    let column = column_at columns n known in
    ap (λ (text : List ℕ). first_byte ((text ++ (codes " % " ++ number_text divisor)) ++ x))
    (column_text_is columns n column.0 column.1)
