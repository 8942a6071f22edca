-- Entries that are exactly the tables of some schemas, whole and in ascending order, are determined by the schemas.
use Rattle.std.proofs.Common.{◌≡◌, ℕ, zero, suc, ◌+◌, ◌<◌, ◌==◌, Bool, true, false, ◌||◌, ◌&&◌, List, [], ◌∷◌, ◌++◌, All, length, refl, sym, ap, subst, ◌∙◌, inl, inr, arith, append_assoc, append-nil}
use Rattle.std.specs.Prelude.{codes, not, nat_lt, Option, Some, None}
use Rattle.std.specs.List.{flat_map, list_any}
use Rattle.std.specs.Option.{is_some}
use Rattle.std.specs.Str.{bytes_eq}
use Rattle.std.proofs.lemmas.Bool.{false≢true, and_parts, or_cases, or_left, or_right, ltb-true, eqb-true, eq-eqb, not-true, both_ways}
use Rattle.std.proofs.lemmas.List.{length_push, take_at}
use Rattle.std.proofs.lemmas.List.Elements.{All-head, All-tail}
use Rattle.std.proofs.lemmas.Slice.Eq.{bytes_eq-Decides}
use Rattle.filter_tree.specs.Expr.{Expr}
use Rattle.filter_tree.specs.declared.table.Table.{Table}
use Rattle.pub_catalog.specs.Catalogs.{EntryOf}
use Rattle.catalog_text.specs.FilterText.{text_if, name_text}
use Rattle.catalog_text.specs.CatalogText.{has_entry, has_schema, schema_of, is_before, are_ascending, are_whole, is_listed_whole, have_entries, are_schemas, whole_text, schemas_from}
use Rattle.catalog_laws.proofs.QuotedTexts.{Ends}
use Rattle.catalog_laws.proofs.UniqueTexts.{Tells, Any, Starts, has_byte, differ, after_word, list_tells, same_cons}
use Rattle.catalog_laws.proofs.NamedPlaces.{name_tells, same_text}

abbrev pub Entries : Type 0
Entries = List (EntryOf Expr)

-- ---- the schemas that are written

abbrev pub schema_words : List ℕ → List ℕ
schema_words schema = codes ", TABLES IN SCHEMA " ++ name_text schema

listed : Bool → List ℕ → List (List ℕ) → List (List ℕ)
listed true schema schemas = schemas
listed false schema schemas = schema ∷ schemas

-- each schema of some entries that none of the entries before has
pub new_schemas : List Table → Entries → Entries → List (List ℕ)
new_schemas tables before [] = []
new_schemas tables before (entry ∷ entries) =
    listed (has_schema tables before (schema_of tables entry.table)) (schema_of tables entry.table)
    (new_schemas tables (before ++ entry ∷ []) entries)

listed_text : (is : Bool) (schema : List ℕ) (schemas : List (List ℕ))
    → text_if (not is) (schema_words schema) ++ flat_map schema_words schemas
    ≡ flat_map schema_words (listed is schema schemas)
unfolding listed
listed_text true schema schemas = refl
listed_text false schema schemas = refl

pub schemas_after : (tables : List Table) (before entries : Entries)
    → schemas_from tables (before ++ entries) (length before) entries
    ≡ flat_map schema_words (new_schemas tables before entries)
unfolding new_schemas
schemas_after tables before [] = refl
schemas_after tables before (entry ∷ entries) =
    let schema = schema_of tables entry.table in
    ap (λ (earlier : Entries). whole_text tables earlier schema
    ++ schemas_from tables (before ++ entry ∷ entries) (length before + 1) entries)
    (take_at before (entry ∷ entries) (length before) refl)
    ∙ ap (λ (later : List ℕ). whole_text tables before schema ++ later)
    (sym (ap (λ (all : Entries). schemas_from tables all (length before + 1) entries)
    (append_assoc before (entry ∷ []) entries))
    ∙ ap (λ (n : ℕ). schemas_from tables ((before ++ entry ∷ []) ++ entries) n entries) (sym (length_push before entry))
    ∙ schemas_after tables (before ++ entry ∷ []) entries)
    ∙ listed_text (has_schema tables before schema) schema (new_schemas tables (before ++ entry ∷ []) entries)

or_none : (b : Bool) → (b || false) ≡ b
or_none true = refl
or_none false = refl

or_grouped : (a b c : Bool) → (a || (b || c)) ≡ ((a || b) || c)
or_grouped true b c = refl
or_grouped false b c = refl

or_known : (a b c : Bool) → (b ≡ true → a ≡ true) → (a || c) ≡ ((a || b) || c)
or_known true b c h = refl
or_known false true c h = absurd (false≢true (h refl))
or_known false false c h = refl

has_schema-push : (tables : List Table) (before : Entries) (entry : EntryOf Expr) (schema : List ℕ)
    → has_schema tables (before ++ entry ∷ []) schema
    ≡ (has_schema tables before schema || bytes_eq schema (schema_of tables entry.table))
has_schema-push tables [] entry schema = or_none (bytes_eq schema (schema_of tables entry.table))
has_schema-push tables (first ∷ before) entry schema =
    let is = bytes_eq schema (schema_of tables first.table) in
    ap (λ (b : Bool). is || b) (has_schema-push tables before entry schema)
    ∙ or_grouped is (has_schema tables before schema) (bytes_eq schema (schema_of tables entry.table))

listed_any : (is has : Bool) (schema next : List ℕ) (schemas : List (List ℕ))
    → (is ≡ true → bytes_eq schema next ≡ true → has ≡ true)
    → (has || list_any (bytes_eq schema) (listed is next schemas))
    ≡ ((has || bytes_eq schema next) || list_any (bytes_eq schema) schemas)
unfolding listed
listed_any true has schema next schemas known =
    or_known has (bytes_eq schema next) (list_any (bytes_eq schema) schemas) (known refl)
listed_any false has schema next schemas known =
    or_grouped has (bytes_eq schema next) (list_any (bytes_eq schema) schemas)

has_listed : (tables : List Table) (before entries : Entries) (schema : List ℕ)
    → (has_schema tables before schema || list_any (bytes_eq schema) (new_schemas tables before entries))
    ≡ has_schema tables (before ++ entries) schema
unfolding new_schemas
has_listed tables before [] schema =
    or_none (has_schema tables before schema)
    ∙ ap (λ (all : Entries). has_schema tables all schema) (sym (append-nil before))
has_listed tables before (entry ∷ entries) schema =
    let next = schema_of tables entry.table in
    let later = new_schemas tables (before ++ entry ∷ []) entries in
    listed_any (has_schema tables before next) (has_schema tables before schema) schema next later
    (λ has same. subst (λ s. has_schema tables before s ≡ true) (sym ((bytes_eq-Decides schema next).0 same)) has)
    ∙ ap (λ (b : Bool). b || list_any (bytes_eq schema) later) (sym (has_schema-push tables before entry schema))
    ∙ has_listed tables (before ++ entry ∷ []) entries schema
    ∙ ap (λ (all : Entries). has_schema tables all schema) (append_assoc before (entry ∷ []) entries)

-- the schemas of the entries, by those that are written
has_written : (tables : List Table) (entries : Entries) (schema : List ℕ)
    → list_any (bytes_eq schema) (new_schemas tables [] entries) ≡ has_schema tables entries schema
has_written tables entries schema = has_listed tables [] entries schema

-- ---- entries in ascending order

after_first : (number other : ℕ) (entries : Entries) → is_before number entries ≡ true → has_entry other entries ≡ true
    → number < other
after_first number other [] before has = absurd (false≢true has)
after_first number other (entry ∷ entries) before has =
    let parts = and_parts (nat_lt number entry.table) (is_before number entries) before in
    elim (or_cases (entry.table == other) (has_entry other entries) has) [
      | inl first ↦ omega (arith, ltb-true number entry.table parts.0, eqb-true entry.table other first)
      | inr later ↦ after_first number other entries parts.1 later
    ]

abbrev HasAllOf : Entries → Entries → Type 0
HasAllOf one other = (number : ℕ) → has_entry number one ≡ true → has_entry number other ≡ true

has_first : (entry : EntryOf Expr) (entries : Entries) → has_entry entry.table (entry ∷ entries) ≡ true
has_first entry entries = or_left (entry.table == entry.table) (has_entry entry.table entries) (eq-eqb _ _ refl)

-- the first entry is not above that of the other list
not_above : (a b : EntryOf Expr) (as' bs : Entries) → is_before a.table as' ≡ true
    → HasAllOf (b ∷ bs) (a ∷ as') → a.table < b.table + 1
not_above a b as' bs before all =
    elim (or_cases (a.table == b.table) (has_entry b.table as') (all b.table (has_first b bs))) [
      | inl first ↦ omega (arith, eqb-true a.table b.table first)
      | inr later ↦ omega (arith, after_first a.table b.table as' before later)
    ]

later_have : (a b : EntryOf Expr) (as' bs : Entries) → a.table ≡ b.table → is_before a.table as' ≡ true
    → HasAllOf (a ∷ as') (b ∷ bs) → HasAllOf as' bs
later_have a b as' bs same before all number has =
    elim (or_cases (b.table == number) (has_entry number bs)
    (all number (or_right (a.table == number) (has_entry number as') has))) [
      | inl first ↦
          absurd (omega (arith, after_first a.table number as' before has, eqb-true b.table number first, same))
      | inr later ↦ later
    ]

none_of : (filter : Option Expr) → not (is_some filter) ≡ true → filter ≡ None
none_of None h = refl
none_of (Some filter) h = absurd (false≢true h)

pub same_entry : (a b : EntryOf Expr) → a.table ≡ b.table → a.filter ≡ b.filter → a ≡ b
same_entry a b e f = λ i. record { table = e i; filter = f i }

ascending_tell : (one other : Entries) → are_whole one ≡ true → are_whole other ≡ true → are_ascending one ≡ true
    → are_ascending other ≡ true → HasAllOf one other → HasAllOf other one → one ≡ other
ascending_tell [] [] p q f g to from = refl
ascending_tell [] (b ∷ bs) p q f g to from = absurd (false≢true (from b.table (has_first b bs)))
ascending_tell (a ∷ as') [] p q f g to from = absurd (false≢true (to a.table (has_first a as')))
ascending_tell (a ∷ as') (b ∷ bs) p q f g to from =
    let whole_a = and_parts (not (is_some a.filter)) (are_whole as') p in
    let whole_b = and_parts (not (is_some b.filter)) (are_whole bs) q in
    let rise_a = and_parts (is_before a.table as') (are_ascending as') f in
    let rise_b = and_parts (is_before b.table bs) (are_ascending bs) g in
    let table : a.table ≡ b.table =
    omega (arith, not_above a b as' bs rise_a.0 from, not_above b a bs as' rise_b.0 to) in
    let filter = none_of a.filter whole_a.0 ∙ sym (none_of b.filter whole_b.0) in
    same_cons a b as' bs (same_entry a b table filter)
    (ascending_tell as' bs whole_a.1 whole_b.1 rise_a.1 rise_b.1 (later_have a b as' bs table rise_a.0 to)
    (later_have b a bs as' (sym table) rise_b.0 from))

-- ---- the tables of the schemas

schema_from_entry : (tables : List Table) (entries : Entries) (number : ℕ) → has_entry number entries ≡ true
    → has_schema tables entries (schema_of tables number) ≡ true
schema_from_entry tables [] number has = absurd (false≢true has)
schema_from_entry tables (entry ∷ entries) number has =
    elim (or_cases (entry.table == number) (has_entry number entries) has) [
      | inl first ↦
          or_left (bytes_eq (schema_of tables number) (schema_of tables entry.table)) _
          (subst (λ n. bytes_eq (schema_of tables n) (schema_of tables entry.table) ≡ true)
          (eqb-true entry.table number first) (same_text (schema_of tables entry.table)))
      | inr later ↦
          or_right (bytes_eq (schema_of tables number) (schema_of tables entry.table)) _
          (schema_from_entry tables entries number later)
    ]

-- one of the entries is in range
entry_within : (count : ℕ) (entries : Entries) (number : ℕ) → All (λ entry. entry.table < count) entries
    → has_entry number entries ≡ true → number < count
entry_within count [] number all has = absurd (false≢true has)
entry_within count (entry ∷ entries) number all has =
    elim (or_cases (entry.table == number) (has_entry number entries) has) [
      | inl first ↦ omega (arith, All-head (λ e. e.table < count) entry entries all, eqb-true entry.table number first)
      | inr later ↦ entry_within count entries number (All-tail (λ e. e.table < count) entry entries all) later
    ]

listed_at : (all : List Table) (entries : Entries) (first : ℕ) (tables : List Table) (n : ℕ) → n < length tables
    → have_entries all entries first tables ≡ true
    → is_listed_whole all entries (first + n) (schema_of tables n) ≡ true
listed_at all entries first [] n low h = absurd (omega (arith, low))
listed_at all entries first (table ∷ tables) zero low h =
    subst (λ k. is_listed_whole all entries k table.schema ≡ true) (omega arith)
    (and_parts (is_listed_whole all entries first table.schema) (have_entries all entries (first + 1) tables) h).0
listed_at all entries first (table ∷ tables) (suc n) low h =
    subst (λ k. is_listed_whole all entries k (schema_of tables n) ≡ true) (omega arith)
    (listed_at all entries (first + 1) tables n (omega (arith, low))
    (and_parts (is_listed_whole all entries first table.schema) (have_entries all entries (first + 1) tables) h).1)

listed_entry : (tables : List Table) (entries : Entries) (number : ℕ) → number < length tables
    → have_entries tables entries 0 tables ≡ true → has_schema tables entries (schema_of tables number) ≡ true
    → has_entry number entries ≡ true
listed_entry tables entries number low h has =
    let schema = schema_of tables number in
    let whole = subst (λ k. is_listed_whole tables entries k schema ≡ true) (omega arith)
    (listed_at tables entries 0 tables number low h) in
    elim (or_cases (not (has_schema tables entries schema)) (has_entry number entries) whole) [
      | inl none ↦
          let lacks = not-true (has_schema tables entries schema) none in
          absurd (both_ways (has_schema tables entries schema) lacks has)
      | inr found ↦ found
    ]

have_all : (tables : List Table) (one other : Entries) → All (λ entry. entry.table < length tables) one
    → have_entries tables other 0 tables ≡ true
    → ((schema : List ℕ) → has_schema tables one schema ≡ has_schema tables other schema) → HasAllOf one other
have_all tables one other within listed same number has =
    listed_entry tables other number (entry_within (length tables) one number within has) listed
    (sym (same (schema_of tables number)) ∙ schema_from_entry tables one number has)

pub same_schemas : (tables : List Table) (one other : Entries) → All (λ entry. entry.table < length tables) one
    → All (λ entry. entry.table < length tables) other → are_schemas tables one ≡ true → are_schemas tables other ≡ true
    → ((schema : List ℕ) → has_schema tables one schema ≡ has_schema tables other schema) → one ≡ other
same_schemas tables one other p q f g same =
    let parts = λ (entries : Entries) (h : are_schemas tables entries ≡ true).
    and_parts (are_whole entries) (are_ascending entries && have_entries tables entries 0 tables) h in
    let order = λ (entries : Entries) (h : are_schemas tables entries ≡ true).
    and_parts (are_ascending entries) (have_entries tables entries 0 tables) (parts entries h).1 in
    ascending_tell one other (parts one f).0 (parts other g).0 (order one f).0 (order other g).0
    (have_all tables one other p (order other g).1 same)
    (have_all tables other one q (order one f).1 (λ schema. sym (same schema)))

-- ---- their text

schemas_tell : Tells (All Any) (flat_map schema_words) (Starts (codes " WI"))
schemas_tell =
    list_tells Any schema_words (Ends 34) (Starts (codes " WI"))
    (after_word Any name_text (Ends 34) (codes ", TABLES IN SCHEMA ") name_tells) (λ a x. refl)
    (λ x f. subst (Ends 34) (sym f.1) refl)
    (λ a x y p f e. differ 0 44 (schema_words a ++ x) y refl (ap (has_byte 0 44) f.1) e)

pub whole_tell : (tables : List Table) (one other : Entries) (x y : List ℕ)
    → All (λ entry. entry.table < length tables) one → All (λ entry. entry.table < length tables) other
    → are_schemas tables one ≡ true → are_schemas tables other ≡ true → Starts (codes " WI") x → Starts (codes " WI") y
    → schemas_from tables one 0 one ++ x ≡ schemas_from tables other 0 other ++ y → (one ≡ other) × (x ≡ y)
whole_tell tables one other x y p q a b f g e =
    let found = schemas_tell (new_schemas tables [] one) (new_schemas tables [] other) x y (λ n d low. tt)
    (λ n d low. tt) f g (ap (λ (t : List ℕ). t ++ x) (sym (schemas_after tables [] one)) ∙ e
    ∙ ap (λ (t : List ℕ). t ++ y) (schemas_after tables [] other)) in (
      same_schemas tables one other p q a b (λ schema. sym (has_written tables one schema)
          ∙ ap (list_any (bytes_eq schema)) found.0 ∙ has_written tables other schema),
      found.1,
    )
