-- The text of a publication's entries tells the entries.
use Rattle.std.proofs.Common.{◌≡◌, ℕ, zero, suc, ◌+◌, ◌<◌, Bool, true, false, List, [], ◌∷◌, ◌++◌, All, length, get_or, take, drop, map, refl, sym, ap, subst, ◌∙◌, ◌⊎◌, inl, inr, arith}
use Rattle.std.specs.Prelude.{codes, if◌then◌else◌, Option, Some, None}
use Rattle.std.specs.List.{IsDistinct, flat_map, join_by}
use Rattle.std.specs.Str.{bytes_eq}
use Rattle.std.proofs.lemmas.Bool.{and_from}
use Rattle.std.proofs.lemmas.List.{take-append-drop, drop_all, length-map, get_or-map}
use Rattle.std.proofs.lemmas.List.Elements.{All-head, All-take, All-drop}
use Rattle.std.proofs.lemmas.Option.{slice_get-get_or}
use Rattle.filter_tree.specs.Expr.{Expr}
use Rattle.filter_tree.specs.declared.table.Column.{Column}
use Rattle.filter_tree.specs.declared.table.Table.{Table}
use Rattle.pub_catalog.specs.CatalogEntries.{FilterNamesWithin, IsKnownEntry}
use Rattle.pub_catalog.specs.Catalogs.{EntryOf, columns_at}
use Rattle.pub_reader.specs.WellFormed.{same_name}
use Rattle.catalog_text.specs.FilterText.{text_by, name_text, expr_text}
use Rattle.catalog_text.specs.CatalogText.{table_sql, where_text, named_text, object_text, comes_twice, have_entries, are_schemas, named_before, named_count, schemas_from, objects_by, for_text}
use Rattle.catalog_text.specs.declared.level.Level.TheVariants as level
use Rattle.catalog_laws.proofs.FitFilters.{filters_apart}
use Rattle.catalog_laws.proofs.QuotedTexts.{Ends}
use Rattle.catalog_laws.proofs.UniqueTexts.{Tells, Starts, has_byte, differ, grouped, word_off, joined_tells}
use Rattle.catalog_laws.proofs.NamedPlaces.{same_text, same_place, relation_text, relation_tells}
use Rattle.catalog_laws.proofs.TableTexts.{Relation, relation}
use Rattle.catalog_laws.proofs.WholeSchemas.{Entries, schema_words, new_schemas, schemas_after, same_entry, whole_tell}

-- ---- what follows an entry

-- a comma, or the parameters of the publication
abbrev pub GoesOn : List ℕ → Type 0
GoesOn text = Starts (codes ",") text ⊎ Starts (codes " WI") text

-- a schema, or the parameters of the publication
abbrev pub IsNamedAll : List ℕ → Type 0
IsNamedAll text = Starts (codes ", TABLES") text ⊎ Starts (codes " WI") text

no_quote : (text : List ℕ) → GoesOn text → Ends 34 text
no_quote text (inl starts) = subst (Ends 34) (sym starts.1) refl
no_quote text (inr starts) = subst (Ends 34) (sym starts.1) refl

goes_on : (text : List ℕ) → IsNamedAll text → GoesOn text
goes_on text (inl starts) = inl (codes " TABLES" ++ starts.0, starts.1)
goes_on text (inr starts) = inr starts

where_ends : (columns : List Column) (filter : Option Expr) (x : List ℕ) → GoesOn x
    → Ends 34 (where_text columns filter ++ x)
where_ends columns None x goes = no_quote x goes
where_ends columns (Some filter) x goes = refl

no_where : (text rest : List ℕ) → GoesOn text → text ≡ codes " WHERE (" ++ rest → ⊥
no_where text rest (inl starts) e = differ 0 44 text (codes " WHERE (" ++ rest) (ap (has_byte 0 44) starts.1) refl e
no_where text rest (inr starts) e = differ 2 73 text (codes " WHERE (" ++ rest) (ap (has_byte 2 73) starts.1) refl e

-- ---- the table of an entry

columns_are : (tables : List Table) (n : ℕ) (d : Table) → n < length tables
    → (get_or tables n d).columns ≡ columns_at tables n
columns_are [] n d low = absurd (omega (arith, low))
columns_are (table ∷ tables) zero d low = refl
columns_are (table ∷ tables) (suc n) d low = columns_are tables n d (omega (arith, low))

abbrev pub HasOwnColumns : Table → Type 0
HasOwnColumns table = IsDistinct bytes_eq (map (λ column. column.name) table.columns)

-- ---- WHERE

where_tells : (columns : List Column) → IsDistinct bytes_eq (map (λ column. column.name) columns)
    → Tells (FilterNamesWithin (length columns)) (where_text columns) GoesOn
where_tells columns own None None x y p q f g e = (refl, e)
where_tells columns own None (Some other) x y p q f g e = absurd (no_where x _ f e)
where_tells columns own (Some one) None x y p q f g e = absurd (no_where y _ g (sym e))
where_tells columns own (Some one) (Some other) x y p q f g e =
    let found = filters_apart columns own one other p q x y
    (grouped (expr_text columns level.Or false one) (codes ")") x (expr_text columns level.Or false other) (codes ")") y
    (word_off (codes " WHERE (") (expr_text columns level.Or false one ++ codes ")") x
    (expr_text columns level.Or false other ++ codes ")") y e)) in
    (ap Some found.0, found.1)

-- ---- named tables

itself : (r : Relation) → same_name r r ≡ true
itself r = and_from (bytes_eq r.0 r.0) (bytes_eq r.1 r.1) (same_text r.0) (same_text r.1)

module _ (tables : List Table) (first : Table) (named : IsDistinct same_name (map relation tables))
    (own : All HasOwnColumns tables) where
  abbrev table_of : EntryOf Expr → Table
  table_of entry = get_or tables entry.table first

  -- what is written of an entry
  abbrev entry_words : EntryOf Expr → List ℕ
  entry_words entry =
      codes "TABLE " ++ (relation_text (relation (table_of entry)) ++ where_text (table_of entry).columns entry.filter)

  object_is : (entry : EntryOf Expr) → entry.table < length tables → object_text tables entry ≡ entry_words entry
  unfolding object_text table_sql
  object_is entry low = ap (text_by (named_text entry.filter)) (slice_get-get_or tables entry.table first low)

  object_begins : (entry : EntryOf Expr) (x : List ℕ) → entry.table < length tables → (place byte : ℕ)
      → has_byte place byte (entry_words entry ++ x) ≡ true → has_byte place byte (object_text tables entry ++ x) ≡ true
  object_begins entry x low place byte h =
      ap (λ (t : List ℕ). has_byte place byte (t ++ x)) (object_is entry low) ∙ h

  object_tells : Tells (IsKnownEntry tables) (object_text tables) GoesOn
  object_tells one other x y p q f g e =
      let wheres : EntryOf Expr → List ℕ = λ entry. where_text (table_of entry).columns entry.filter in
      let relations : EntryOf Expr → List ℕ = λ entry. relation_text (relation (table_of entry)) in
      let table = relation_tells (relation (table_of one)) (relation (table_of other)) (wheres one ++ x)
      (wheres other ++ y) tt tt (where_ends (table_of one).columns one.filter x f)
      (where_ends (table_of other).columns other.filter y g)
      (grouped (relations one) (wheres one) x (relations other) (wheres other) y
      (word_off (codes "TABLE ") (relations one ++ wheres one) x (relations other ++ wheres other) y
      (ap (λ (t : List ℕ). t ++ x) (sym (object_is one p.table)) ∙ e
      ∙ ap (λ (t : List ℕ). t ++ y) (object_is other q.table)))) in
      let count = sym (length-map tables relation) in
      let number = same_place same_name itself (map relation tables) (relation first) one.table other.table named
      (subst (λ n. one.table < n) count p.table) (subst (λ n. other.table < n) count q.table)
      (get_or-map relation tables one.table first (relation first) p.table ∙ table.0
      ∙ sym (get_or-map relation tables other.table first (relation first) q.table)) in
      let columns = (table_of one).columns in
      let back = sym (columns_are tables one.table first p.table) in
      let filter = where_tells columns (own one.table first p.table) one.filter other.filter x y
      (subst (λ list. FilterNamesWithin (length list) one.filter) back p.columns)
      (subst (λ list. FilterNamesWithin (length list) other.filter) back
      (subst (λ n. FilterNamesWithin (length (columns_at tables n)) other.filter) (sym number) q.columns)) f g
      (subst (λ n. wheres one ++ x ≡ where_text (get_or tables n first).columns other.filter ++ y) (sym number) table.1)
      in
      (same_entry one other number filter.0, filter.1)

  named_tell : Tells (All (IsKnownEntry tables)) (join_by (object_text tables) (codes ", ")) IsNamedAll
  named_tell =
      joined_tells (IsKnownEntry tables) (object_text tables) GoesOn IsNamedAll object_tells
      (λ x. inl (codes " " ++ x, refl)) goes_on none ends
    where
      none : (entry : EntryOf Expr) (x y : List ℕ) → IsKnownEntry tables entry → IsNamedAll y
          → object_text tables entry ++ x ≡ y → ⊥
      none entry x y p (inl starts) e =
          differ 0 84 (object_text tables entry ++ x) y (object_begins entry x p.table 0 84 refl)
          (ap (has_byte 0 84) starts.1) e
      none entry x y p (inr starts) e =
          differ 0 84 (object_text tables entry ++ x) y (object_begins entry x p.table 0 84 refl)
          (ap (has_byte 0 84) starts.1) e

      ends : (entry : EntryOf Expr) (x y : List ℕ) → IsKnownEntry tables entry → IsNamedAll y
          → codes ", " ++ (object_text tables entry ++ x) ≡ y → ⊥
      ends entry x y p (inl starts) e =
          differ 7 32 (codes ", " ++ (object_text tables entry ++ x)) y
          (object_begins entry x p.table 5 32 refl) (ap (has_byte 7 32) starts.1) e
      ends entry x y p (inr starts) e =
          differ 0 44 (codes ", " ++ (object_text tables entry ++ x)) y refl (ap (has_byte 0 44) starts.1) e

  -- ---- all entries

  named_all : (schemas : List (List ℕ)) (x : List ℕ) → Starts (codes " WI") x
      → IsNamedAll (flat_map schema_words schemas ++ x)
  named_all [] x starts = inr starts
  named_all (schema ∷ schemas) x starts =
      inl (((codes " IN SCHEMA " ++ name_text schema) ++ flat_map schema_words schemas) ++ x, refl)

  whole_begins : (entries : Entries) (x : List ℕ) → Starts (codes " WI") x
      → IsNamedAll (schemas_from tables entries 0 entries ++ x)
  whole_begins entries x starts =
      subst (λ t. IsNamedAll (t ++ x)) (sym (schemas_after tables [] entries))
      (named_all (new_schemas tables [] entries) x starts)

  objects_tell : (one other : Entries) (n m : ℕ) (x y : List ℕ) → All (IsKnownEntry tables) one
      → All (IsKnownEntry tables) other → are_schemas tables (drop n one) ≡ true
      → are_schemas tables (drop m other) ≡ true → Starts (codes " WI") x → Starts (codes " WI") y
      → objects_by tables one n ++ x ≡ objects_by tables other m ++ y → (one ≡ other) × (x ≡ y)
  objects_tell one other n m x y p q a b f g e =
      let names : Entries → List ℕ = λ entries. join_by (object_text tables) (codes ", ") entries in
      let rest : Entries → List ℕ = λ entries. schemas_from tables entries 0 entries in
      let within : (entries : Entries) → All (IsKnownEntry tables) entries
      → All (λ entry. entry.table < length tables) entries = λ entries all k d low. (all k d low).table in
      let named = named_tell (take n one) (take m other) (rest (drop n one) ++ x) (rest (drop m other) ++ y)
      (All-take (IsKnownEntry tables) n one p) (All-take (IsKnownEntry tables) m other q)
      (whole_begins (drop n one) x f) (whole_begins (drop m other) y g)
      (grouped (names (take n one)) (rest (drop n one)) x (names (take m other)) (rest (drop m other)) y e) in
      let whole = whole_tell tables (drop n one) (drop m other) x y
      (within (drop n one) (All-drop (IsKnownEntry tables) n one p))
      (within (drop m other) (All-drop (IsKnownEntry tables) m other q)) a b f g named.1 in (
        sym (take-append-drop n one) ∙ ap (λ (list : Entries). list ++ drop n one) named.0
            ∙ ap (λ (list : Entries). take m other ++ list) whole.0 ∙ take-append-drop m other,
        whole.1,
      )

  none_listed : (all : List Table) (number : ℕ) (rest : List Table) → have_entries all [] number rest ≡ true
  none_listed all number [] = refl
  none_listed all number (table ∷ rest) = none_listed all (number + 1) rest

  abbrev dropped : Entries → ℕ → Type 0
  dropped entries count = are_schemas tables (drop count entries) ≡ true

  whole_by : (entry : EntryOf Expr) (entries : Entries) (is : Bool) → are_schemas tables (entry ∷ entries) ≡ is
      → dropped entries (named_before tables entries)
      → dropped (entry ∷ entries) (if is then 0 else suc (named_before tables entries))
  whole_by entry entries true h later = h
  whole_by entry entries false h later = later

  rest_whole : (entries : Entries) → dropped entries (named_before tables entries)
  rest_whole [] = none_listed tables 0 tables
  rest_whole (entry ∷ entries) =
      whole_by entry entries (are_schemas tables (entry ∷ entries)) refl (rest_whole entries)

  rest_schemas : (entries : Entries) → dropped entries (named_count tables entries)
  rest_schemas entries = by_test (comes_twice entries)
    where
      by_test : (is : Bool) → dropped entries (if is then named_before tables entries else length entries)
      by_test true = rest_whole entries
      by_test false = subst (λ list. are_schemas tables list ≡ true)
          (sym (drop_all (length entries) entries (omega arith))) (none_listed tables 0 tables)

  for_tells : Tells (All (IsKnownEntry tables)) (for_text tables) (Starts (codes " WI"))
  for_tells [] [] x y p q f g e = (refl, e)
  for_tells [] (other ∷ others) x y p q f g e = absurd (differ 1 87 x _ (ap (has_byte 1 87) f.1) refl e)
  for_tells (one ∷ ones) [] x y p q f g e = absurd (differ 1 87 y _ (ap (has_byte 1 87) g.1) refl (sym e))
  for_tells (one ∷ ones) (other ∷ others) x y p q f g e =
      let n = named_count tables (one ∷ ones) in
      let m = named_count tables (other ∷ others) in
      objects_tell (one ∷ ones) (other ∷ others) n m x y p q (rest_schemas (one ∷ ones))
      (rest_schemas (other ∷ others)) f g
      (word_off (codes " FOR ") (objects_by tables (one ∷ ones) n) x (objects_by tables (other ∷ others) m) y e)

no_entries : (entries : Entries) → All (IsKnownEntry []) entries → entries ≡ []
no_entries [] all = refl
no_entries (entry ∷ entries) all = absurd (omega (arith, (All-head (IsKnownEntry []) entry entries all).table))

pub entries_tell : (tables : List Table) → IsDistinct same_name (map relation tables) → All HasOwnColumns tables
    → Tells (All (IsKnownEntry tables)) (for_text tables) (Starts (codes " WI"))
entries_tell (first ∷ rest) named own one other x y p q f g e =
    for_tells (first ∷ rest) first named own one other x y p q f g e
entries_tell [] named own one other x y p q f g e = (
  no_entries one p ∙ sym (no_entries other q),
  ap (λ (list : Entries). for_text [] list ++ x) (sym (no_entries one p)) ∙ e
      ∙ ap (λ (list : Entries). for_text [] list ++ y) (no_entries other q),
)
