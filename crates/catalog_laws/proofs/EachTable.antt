-- The statements of all tables tell the tables: each also depends on the tables before it, which are the same.
use Rattle.std.proofs.Common.{◌≡◌, ℕ, ◌+◌, Bool, true, false, List, [], ◌∷◌, ◌++◌, All, length, refl, sym, ap, subst, ◌∙◌, append_assoc}
use Rattle.std.specs.Prelude.{codes, not}
use Rattle.std.proofs.lemmas.Bool.{true≢false}
use Rattle.std.proofs.lemmas.List.{append_cancel_left, length_push, take_at}
use Rattle.std.proofs.lemmas.List.Elements.{All-head, All-tail}
use Rattle.filter_tree.specs.declared.table.Table.{Table}
use Rattle.catalog_text.specs.FilterText.{text_if, name_text}
use Rattle.catalog_text.specs.CatalogText.{table_text, create_text, is_made, made_text, tables_from}
use Rattle.catalog_laws.proofs.UniqueTexts.{has_byte, differ, grouped, word_off, same_cons}
use Rattle.catalog_laws.proofs.NamedPlaces.{name_tells}
use Rattle.catalog_laws.proofs.TableTexts.{IsClear, table_tells}

-- ---- the tables after some others

texts_after : List Table → List Table → List ℕ
texts_after before [] = []
texts_after before (table ∷ tables) =
    made_text before table.schema ++ (table_text table ++ texts_after (before ++ table ∷ []) tables)

texts_from : (before tables : List Table)
    → tables_from (before ++ tables) (length before) tables ≡ texts_after before tables
unfolding texts_after
texts_from before [] = refl
texts_from before (table ∷ tables) =
    ap (λ (earlier : List Table). made_text earlier table.schema
    ++ (table_text table ++ tables_from (before ++ table ∷ tables) (length before + 1) tables))
    (take_at before (table ∷ tables) (length before) refl)
    ∙ ap (λ (later : List ℕ). made_text before table.schema ++ (table_text table ++ later))
    (sym (ap (λ (all : List Table). tables_from all (length before + 1) tables)
    (append_assoc before (table ∷ []) tables))
    ∙ ap (λ (n : ℕ). tables_from ((before ++ table ∷ []) ++ tables) n tables) (sym (length_push before table))
    ∙ texts_from (before ++ table ∷ []) tables)

-- ---- CREATE SCHEMA

-- a statement that creates another thing than a schema, or the end of the text
abbrev pub IsOther : List ℕ → Type 0
IsOther text = has_byte 8 67 text ≡ false

abbrev schema_line : List ℕ → List ℕ
schema_line schema = codes "CREATE SCHEMA " ++ (name_text schema ++ codes ";\n")

off_schema : (one other : Bool) (schema other_schema x y : List ℕ) → IsOther x → IsOther y
    → text_if one (schema_line schema) ++ x ≡ text_if other (schema_line other_schema) ++ y → x ≡ y
off_schema false false schema other_schema x y f g e = e
off_schema false true schema other_schema x y f g e = absurd (differ 8 67 _ x refl f (sym e))
off_schema true false schema other_schema x y f g e = absurd (differ 8 67 _ y refl g e)
off_schema true true schema other_schema x y f g e =
    let name = name_tells schema other_schema (codes ";\n" ++ x) (codes ";\n" ++ y) tt tt refl refl
    (grouped (name_text schema) (codes ";\n") x (name_text other_schema) (codes ";\n") y
    (word_off (codes "CREATE SCHEMA ") (name_text schema ++ codes ";\n") x (name_text other_schema ++ codes ";\n") y e))
    in append_cancel_left (codes ";\n") x y name.1

starts_other : (table : Table) (x y : List ℕ) → IsOther ((table_text table ++ x) ++ y)
unfolding table_text create_text
starts_other table x y = refl

-- ---- all tables

-- what follows the tables creates neither a table nor a schema
pub record IsAfterTables (text : List ℕ) : Type 0 where
  pub no_schema : has_byte 8 67 text ≡ false
  pub no_table : has_byte 7 84 text ≡ false

begins_table : (b : Bool) (schema : List ℕ) (table : Table) (x y : List ℕ)
    → IsAfterTables ((text_if b (schema_line schema) ++ (table_text table ++ x)) ++ y) → ⊥
unfolding table_text create_text
begins_table true schema table x y h = true≢false h.no_schema
begins_table false schema table x y h = true≢false h.no_table

later_tell : (before one other : List Table) (x y : List ℕ) → All IsClear one → All IsClear other → IsAfterTables x
    → IsAfterTables y → texts_after before one ++ x ≡ texts_after before other ++ y → (one ≡ other) × (x ≡ y)
unfolding texts_after
later_tell before [] [] x y p q f g e = (refl, e)
later_tell before [] (other ∷ others) x y p q f g e =
    absurd (begins_table (not (is_made before other.schema)) other.schema other
    (texts_after (before ++ other ∷ []) others) y (subst IsAfterTables e f))
later_tell before (one ∷ ones) [] x y p q f g e =
    absurd (begins_table (not (is_made before one.schema)) one.schema one
    (texts_after (before ++ one ∷ []) ones) x (subst IsAfterTables (sym e) g))
later_tell before (one ∷ ones) (other ∷ others) x y p q f g e =
    let after_one = texts_after (before ++ one ∷ []) ones in
    let after_other = texts_after (before ++ other ∷ []) others in
    let made : Table → List ℕ = λ table. made_text before table.schema in
    let table = table_tells one other (after_one ++ x) (after_other ++ y) (All-head IsClear one ones p)
    (All-head IsClear other others q) tt tt
    (grouped (table_text one) after_one x (table_text other) after_other y
    (off_schema (not (is_made before one.schema)) (not (is_made before other.schema)) one.schema other.schema
    ((table_text one ++ after_one) ++ x) ((table_text other ++ after_other) ++ y) (starts_other one after_one x)
    (starts_other other after_other y)
    (grouped (made one) (table_text one ++ after_one) x (made other) (table_text other ++ after_other) y e))) in
    let rest = later_tell (before ++ one ∷ []) ones others x y (All-tail IsClear one ones p)
    (All-tail IsClear other others q) f g
    (subst (λ (t : Table). after_one ++ x ≡ texts_after (before ++ t ∷ []) others ++ y) (sym table.0) table.1) in
    (same_cons one other ones others table.0 rest.0, rest.1)

pub tables_tell : (one other : List Table) (x y : List ℕ) → All IsClear one → All IsClear other → IsAfterTables x
    → IsAfterTables y → tables_from one 0 one ++ x ≡ tables_from other 0 other ++ y → (one ≡ other) × (x ≡ y)
tables_tell one other x y p q f g e =
    later_tell [] one other x y p q f g
    (ap (λ (t : List ℕ). t ++ x) (sym (texts_from [] one)) ∙ e ∙ ap (λ (t : List ℕ). t ++ y) (texts_from [] other))
