-- The words of statements that create tables tell what they are of.
use Rattle.std.proofs.Common.{◌≡◌, ℕ, ◌<◌, Bool, true, false, cond, List, ◌++◌, All, length, map, refl, sym, ap, subst}
use Rattle.std.specs.Prelude.{codes}
use Rattle.std.specs.List.{IsDistinct, join_by}
use Rattle.std.specs.Str.{bytes_eq}
use Rattle.std.proofs.lemmas.List.{append_cancel_left}
use Rattle.filter_tree.specs.declared.table.ColType.{ColType}
use Rattle.filter_tree.specs.declared.table.ColType.TheVariants.{SmallInt, Integer, BigInt, Boolean, Text}
use Rattle.filter_tree.specs.declared.table.Column.{Column}
use Rattle.filter_tree.specs.declared.table.Identity.{Identity}
use Rattle.filter_tree.specs.declared.table.Identity.TheVariants.{Default, Index, Full, Nothing}
use Rattle.filter_tree.specs.declared.table.UniqueIndex.{UniqueIndex}
use Rattle.catalog_text.specs.FilterText.{text_if, name_text, column_sql}
use Rattle.catalog_text.specs.CatalogText.{type_text, column_text, columns_text, index_name, identity_text}
use Rattle.catalog_laws.proofs.QuotedTexts.{Ends}
use Rattle.catalog_laws.proofs.UniqueTexts.{Tells, Any, Starts, has_byte, differ, by_reading, grouped, word_off}
use Rattle.catalog_laws.proofs.NamedPlaces.{name_tells, name_at_tells, names_tell}

-- ---- columns

kind_in : List ℕ → ColType
kind_in text =
    cond (has_byte 1 115 text) SmallInt (cond (has_byte 1 116 text) Text (cond (has_byte 2 110 text) Integer
    (cond (has_byte 2 105 text) BigInt Boolean)))

kind_tells : Tells Any type_text Any
unfolding kind_in
kind_tells = by_reading Any type_text Any kind_in reads
  where
    reads : (kind : ColType) (x : List ℕ) → Any kind → Any x → kind_in (type_text kind ++ x) ≡ kind
    reads SmallInt x p f = refl
    reads Integer x p f = refl
    reads BigInt x p f = refl
    reads Boolean x p f = refl
    reads Text x p f = refl

abbrev null_text : Bool → List ℕ
null_text not_null = text_if not_null (codes " NOT NULL") ++ codes ", "

null_tells : Tells Any null_text Any
null_tells = by_reading Any null_text Any (has_byte 0 32) reads
  where
    reads : (not_null : Bool) (x : List ℕ) → Any not_null → Any x → has_byte 0 32 (null_text not_null ++ x) ≡ not_null
    reads true x p f = refl
    reads false x p f = refl

same_column : (one other : Column) → one.name ≡ other.name → one.kind ≡ other.kind → one.not_null ≡ other.not_null
    → one ≡ other
same_column one other e f g = λ i. record { name = e i; kind = f i; not_null = g i }

kind_begins : (kind : ColType) (x y : List ℕ) → Ends 34 ((type_text kind ++ x) ++ y)
kind_begins SmallInt x y = refl
kind_begins Integer x y = refl
kind_begins BigInt x y = refl
kind_begins Boolean x y = refl
kind_begins Text x y = refl

pub column_tells : Tells Any column_text Any
unfolding column_text
column_tells one other x y p q f g e =
    let name = name_tells one.name other.name ((type_text one.kind ++ null_text one.not_null) ++ x)
    ((type_text other.kind ++ null_text other.not_null) ++ y) tt tt (kind_begins one.kind (null_text one.not_null) x)
    (kind_begins other.kind (null_text other.not_null) y)
    (grouped (name_text one.name) (type_text one.kind ++ null_text one.not_null) x (name_text other.name)
    (type_text other.kind ++ null_text other.not_null) y e) in
    let kind = kind_tells one.kind other.kind (null_text one.not_null ++ x) (null_text other.not_null ++ y) tt tt tt tt
    (grouped (type_text one.kind) (null_text one.not_null) x (type_text other.kind) (null_text other.not_null) y
    name.1) in
    let null = null_tells one.not_null other.not_null x y tt tt tt tt kind.1 in
    (same_column one other name.0 kind.0 null.0, null.1)

-- a list of columns, by their numbers
pub columns_tell : (columns : List Column) → IsDistinct bytes_eq (map (λ column. column.name) columns)
    → Tells (All (λ number. number < length columns)) (columns_text columns) Any
unfolding columns_text
columns_tell columns own one other x y p q f g e =
    let list = names_tell (λ (column : Column). column.name) columns own 41 refl refl one other (codes ")" ++ x)
    (codes ")" ++ y) p q (x, refl) (y, refl)
    (grouped (join_by (column_sql columns) (codes ", ") one) (codes ")") x
    (join_by (column_sql columns) (codes ", ") other) (codes ")") y
    (word_off (codes " (") (join_by (column_sql columns) (codes ", ") one ++ codes ")") x
    (join_by (column_sql columns) (codes ", ") other ++ codes ")") y e)) in
    (list.0, append_cancel_left (codes ")") x y list.1)

-- ---- identities

abbrev pub IsOneOf : List UniqueIndex → Identity → Type 0
IsOneOf indexes (Index number) = number < length indexes
IsOneOf indexes _ = Unit {0}

pub identity_tells : (indexes : List UniqueIndex) → IsDistinct bytes_eq (map (λ index. index.name) indexes)
    → Tells (IsOneOf indexes) (identity_text indexes) (Starts (codes ";"))
identity_tells indexes own Default Default x y p q f g e = (refl, append_cancel_left (codes "DEFAULT") x y e)
identity_tells indexes own Full Full x y p q f g e = (refl, append_cancel_left (codes "FULL") x y e)
identity_tells indexes own Nothing Nothing x y p q f g e = (refl, append_cancel_left (codes "NOTHING") x y e)
identity_tells indexes own (Index one) (Index other) x y p q f g e =
    let name = name_at_tells (λ (index : UniqueIndex). index.name) indexes own one other x y p q
    (subst (Ends 34) (sym f.1) refl) (subst (Ends 34) (sym g.1) refl)
    (word_off (codes "USING INDEX ") (index_name indexes one) x (index_name indexes other) y e) in
    (ap Index name.0, name.1)
identity_tells indexes own Default other x y p q f g e = absurd (differ 0 68 _ _ refl refl e)
identity_tells indexes own Full other x y p q f g e = absurd (differ 0 70 _ _ refl refl e)
identity_tells indexes own Nothing other x y p q f g e = absurd (differ 0 78 _ _ refl refl e)
identity_tells indexes own (Index one) other x y p q f g e = absurd (differ 0 85 _ _ refl refl e)
