-- No table and no index has the name of another one of its schema: what each statement that changes tables preserves.
use Rattle.std.proofs.Common.{◌≡◌, ℕ, zero, suc, ◌<◌, Bool, true, false, ◌&&◌, ◌||◌, List, [], ◌∷◌, ◌++◌, length, map, refl, sym, ap, subst, ◌∙◌, arith}
use Rattle.std.specs.Prelude.{Option, Some, None}
use Rattle.std.specs.Cmp.{IsEquivalence}
use Rattle.std.specs.List.{IsDistinct, list_any}
use Rattle.std.specs.List.Sorted.{IsPermutation}
use Rattle.std.specs.Option.{is_some}
use Rattle.std.specs.Str.{bytes_eq}
use Rattle.std.proofs.lemmas.Cmp.{and_equiv, on_equiv}
use Rattle.std.proofs.lemmas.List.{append_assoc, map-append}
use Rattle.std.proofs.lemmas.List.Folds.{list_any-append}
use Rattle.std.proofs.lemmas.List.Sorted.{IsPermutation-append_right, IsPermutation-middle, IsPermutation-sym, IsPermutation-to_front, IsPermutation-trans}
use Rattle.std.proofs.lemmas.Map.Keys.{IsDistinct-push, IsDistinct-IsPermutation}
use Rattle.filter_tree.specs.declared.table.Identity.{Identity}
use Rattle.filter_tree.specs.declared.table.Table.{Table}
use Rattle.filter_tree.specs.declared.table.UniqueIndex.{UniqueIndex}
use Rattle.pub_catalog.specs.Catalogs.{schema_at, identified, indexed}
use Rattle.pub_reader.specs.Drafts.{find_index, has_name, find_relation}
use Rattle.pub_reader.specs.WellFormed.{names_of_table, names_of_tables, same_name}
use Rattle.pub_reader.proofs.OwnNames.{same_bytes}
use Rattle.pub_reader.proofs.Positions.{position-none, list_any-map}

abbrev Relation : Type 0
Relation = List ℕ × List ℕ

same_names : IsEquivalence same_name
same_names =
    and_equiv (on_equiv (λ (relation : Relation). relation.0) same_bytes)
    (on_equiv (λ (relation : Relation). relation.1) same_bytes)

abbrev pub AreOwnRelations : List Table → Type 0
AreOwnRelations tables = IsDistinct same_name (names_of_tables tables)

-- ---- a name that is free

is_free_by : (is_here named found : Bool) → (is_here && (named || found)) ≡ false
    → ((is_here && named) ≡ false) × (is_here ≡ true → found ≡ false)
is_free_by true true found h = absurd cc
is_free_by true false found h = (refl, λ e. h)
is_free_by false named found h = (refl, λ e. absurd cc)

none_named : (is_here : Bool) (text : List ℕ) (indexes : List UniqueIndex)
    → (is_here ≡ true → list_any (λ index. bytes_eq text index.name) indexes ≡ false)
    → list_any (λ index. is_here && bytes_eq text index.name) indexes ≡ false
none_named true text indexes h = h refl
none_named false text [] h = refl
none_named false text (index ∷ indexes) h = none_named false text indexes (λ e. absurd cc)

not_there : (found : Option ℕ) → is_some found ≡ false → found ≡ None
not_there None h = refl
not_there (Some number) h = absurd cc

free_of : (schema text : List ℕ) (table : Table) → has_name schema text table ≡ false
    → list_any (same_name (schema, text)) (names_of_table table) ≡ false
free_of schema text table h =
    let free = is_free_by (bytes_eq schema table.schema) (bytes_eq text table.name)
    (is_some (find_index text table.indexes)) h in
    let indexes : list_any (same_name (schema, text))
    (map (λ (index : UniqueIndex). (table.schema, index.name)) table.indexes) ≡ false =
    list_any-map (same_name (schema, text)) (λ (index : UniqueIndex). (table.schema, index.name)) table.indexes
    ∙ none_named (bytes_eq schema table.schema) text table.indexes
    (λ e. position-none (λ (index : UniqueIndex). bytes_eq text index.name) table.indexes
    (not_there (find_index text table.indexes) (free.1 e))) in
    rw (free.0, indexes) refl

neither : (p q : Bool) → (p || q) ≡ false → (p ≡ false) × (q ≡ false)
neither true q h = absurd cc
neither false q h = (refl, h)

free_in : (schema text : List ℕ) (tables : List Table) → list_any (has_name schema text) tables ≡ false
    → list_any (same_name (schema, text)) (names_of_tables tables) ≡ false
free_in schema text [] h = refl
free_in schema text (table ∷ tables) h =
    let free = neither (has_name schema text table) (list_any (has_name schema text) tables) h in
    list_any-append (same_name (schema, text)) (names_of_table table) (names_of_tables tables)
    ∙ ap (λ b. b || list_any (same_name (schema, text)) (names_of_tables tables)) (free_of schema text table free.0)
    ∙ free_in schema text tables free.1

-- a name that is not found is that of no table and no index of the schema
is_free : (schema text : List ℕ) (tables : List Table) → find_relation schema text tables ≡ None
    → list_any (same_name (schema, text)) (names_of_tables tables) ≡ false
is_free schema text tables h = free_in schema text tables (position-none (has_name schema text) tables h)

-- ---- one more table

names_of_tables-append : (tables : List Table) (table : Table)
    → names_of_tables (tables ++ table ∷ []) ≡ names_of_tables tables ++ names_of_tables (table ∷ [])
names_of_tables-append [] table = refl
names_of_tables-append (first ∷ tables) table =
    ap (λ rest. names_of_table first ++ rest) (names_of_tables-append tables table)
    ∙ sym (append_assoc (names_of_table first) (names_of_tables tables) (names_of_tables (table ∷ [])))

-- a new table, which has no index
pub table-own : (tables : List Table) (table : Table) → table.indexes ≡ []
    → find_relation table.schema table.name tables ≡ None → AreOwnRelations tables
    → AreOwnRelations (tables ++ table ∷ [])
table-own tables table none free own =
    let one : Relation = (table.schema, table.name) in
    let alone : names_of_tables (table ∷ []) ≡ one ∷ [] =
    ap (λ indexes. (one ∷ map (λ (index : UniqueIndex). (table.schema, index.name)) indexes) ++ []) none in
    let all : names_of_tables tables ++ one ∷ [] ≡ names_of_tables (tables ++ table ∷ []) =
    ap (λ rest. names_of_tables tables ++ rest) (sym alone) ∙ sym (names_of_tables-append tables table) in
    subst (IsDistinct same_name) all
    (IsDistinct-push same_names (names_of_tables tables) one own (is_free table.schema table.name tables free))

-- ---- one more index

-- the names are those before, with one more
one_more : (tables : List Table) (number : ℕ) (index : UniqueIndex) → number < length tables
    → IsPermutation ((schema_at tables number, index.name) ∷ names_of_tables tables)
    (names_of_tables (indexed tables number index))
one_more [] number index within = absurd (omega arith)
one_more (table ∷ tables) zero index within =
    let one : Relation = (table.schema, index.name) in
    let of : UniqueIndex → Relation = λ other. (table.schema, other.name) in
    let first : Relation = (table.schema, table.name) in
    let all : names_of_table table ++ (one ∷ names_of_tables tables)
    ≡ names_of_tables (indexed (table ∷ tables) zero index) =
    sym (append_assoc (names_of_table table) (one ∷ []) (names_of_tables tables))
    ∙ ap (λ names. (first ∷ names) ++ names_of_tables tables) (sym (map-append of table.indexes (index ∷ []))) in
    subst (IsPermutation (one ∷ (names_of_table table ++ names_of_tables tables))) all
    (IsPermutation-sym (names_of_table table ++ (one ∷ names_of_tables tables))
    (one ∷ (names_of_table table ++ names_of_tables tables))
    (IsPermutation-middle (names_of_table table) one (names_of_tables tables)))
one_more (table ∷ tables) (suc number) index within =
    let one : Relation = (schema_at tables number, index.name) in
    let later = names_of_tables (indexed tables number index) in
    IsPermutation-trans (one ∷ (names_of_table table ++ names_of_tables tables))
    (names_of_table table ++ (one ∷ names_of_tables tables)) (names_of_table table ++ later)
    (IsPermutation-sym (names_of_table table ++ (one ∷ names_of_tables tables))
    (one ∷ (names_of_table table ++ names_of_tables tables))
    (IsPermutation-middle (names_of_table table) one (names_of_tables tables)))
    (IsPermutation-append_right (names_of_table table) (one ∷ names_of_tables tables) later
    (one_more tables number index (omega arith)))

pub index-own : (tables : List Table) (number : ℕ) (index : UniqueIndex) → number < length tables
    → find_relation (schema_at tables number) index.name tables ≡ None → AreOwnRelations tables
    → AreOwnRelations (indexed tables number index)
index-own tables number index within free own =
    let one : Relation = (schema_at tables number, index.name) in
    let pushed : IsDistinct same_name (names_of_tables tables ++ one ∷ []) =
    IsDistinct-push same_names (names_of_tables tables) one own
    (is_free (schema_at tables number) index.name tables free) in
    let moved : IsPermutation (names_of_tables tables ++ one ∷ []) (names_of_tables (indexed tables number index)) =
    IsPermutation-trans (names_of_tables tables ++ one ∷ []) (one ∷ names_of_tables tables)
    (names_of_tables (indexed tables number index)) (IsPermutation-to_front (names_of_tables tables) one)
    (one_more tables number index within) in
    IsDistinct-IsPermutation same_name same_names.symm (names_of_tables tables ++ one ∷ [])
    (names_of_tables (indexed tables number index)) moved pushed

-- ---- an identity

names_of_tables-identified : (tables : List Table) (number : ℕ) (identity : Identity)
    → names_of_tables (identified tables number identity) ≡ names_of_tables tables
names_of_tables-identified [] number identity = refl
names_of_tables-identified (table ∷ tables) zero identity = refl
names_of_tables-identified (table ∷ tables) (suc number) identity =
    ap (λ rest. names_of_table table ++ rest) (names_of_tables-identified tables number identity)

pub identity-own : (tables : List Table) (number : ℕ) (identity : Identity) → AreOwnRelations tables
    → AreOwnRelations (identified tables number identity)
identity-own tables number identity own =
    subst (IsDistinct same_name) (sym (names_of_tables-identified tables number identity)) own
