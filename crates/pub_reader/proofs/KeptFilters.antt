-- Each statement preserves that entries of publications are for tables that exist, and that their filters have a
-- property that each filter has that is read over the columns of its table.
use Rattle.std.proofs.Common.{◌≡◌, ℕ, zero, suc, ◌+◌, ◌<◌, ◌≤◌, Bool, true, false, not, cond, ◌||◌, List, [], ◌∷◌, ◌++◌, All, length, get_or, refl, sym, subst, arith}
use Rattle.std.specs.Prelude.{Option, Some, None, Ok, Err, IfSome, if◌then◌else◌, nat_lt, position}
use Rattle.std.specs.List.{list_any, position_or_len}
use Rattle.std.specs.Option.{is_some}
use Rattle.std.proofs.lemmas.Bool.Decides.{nat_tests}
use Rattle.std.proofs.lemmas.List.{length_push}
use Rattle.std.proofs.lemmas.List.Elements.{All-nil, All-cons, All-append, All-push, All-map}
use Rattle.sql_tokens.specs.declared.kinds.Operator.TheVariants.{Star}
use Rattle.filter_tree.specs.declared.table.Column.{Column}
use Rattle.filter_tree.specs.declared.table.Identity.{Identity}
use Rattle.filter_tree.specs.declared.table.Table.{Table}
use Rattle.filter_tree.specs.declared.table.UniqueIndex.{UniqueIndex}
use Rattle.filter_tree.specs.Expr.{Expr}
use Rattle.sql_reader.specs.declared.word.Keyword.TheVariants as k
use Rattle.sql_reader.specs.declared.item.Item.{Item}
use Rattle.sql_reader.specs.declared.item.Item.TheVariants as i
use Rattle.sql_reader.specs.declared.name.PlacedName.{PlacedName}
use Rattle.sql_reader.specs.Expressions.{expression}
use Rattle.sql_reader.specs.Items.{Items}
use Rattle.sql_reader.specs.Names.{name}
use Rattle.sql_reader.specs.Reading.{Fault, with_rest, eat, expect, is_ahead, item_ahead, look, more_ahead, rest_of}
use Rattle.sql_reader.specs.Repetitions.{each, link}
use Rattle.sql_reader.specs.Written.{as_filter}
use Rattle.sql_reader.proofs.Keeping.{Gives, then-gives, any-gives, chosen-gives, repeat-gives, link-gives, each-gives}
use Rattle.pub_catalog.specs.Catalogs.{EntryOf, CatalogOf, columns_at, indexes_at, identified, indexed}
use Rattle.pub_reader.specs.declared.coverage.ObjectKind.{ObjectKind}
use Rattle.pub_reader.specs.declared.coverage.ObjectKind.TheVariants as o
use Rattle.pub_reader.specs.Drafts.{CoverageOf, DraftPublicationOf, DraftOf, no_draft, nothing_covered, find_schema, filters_in, filters_on, takes_table, whole_from, resolved, resolved_publication}
use Rattle.pub_reader.specs.Identities.{replica_identity, alter_table}
use Rattle.pub_reader.specs.Indexes.{index_body, indexed_table, create_index}
use Rattle.pub_reader.specs.Objects.{ObjectsOf, schema_by, schema_mentioned, is_entry_of, is_filtered, table_mentioned, limited, named_schema, current_schema, schema_object_by, schema_object, in_schema, taken_schema, filter_end, where_clause, filter_by, filter_clause, taken_table, table_object, taken_by, tables_by, after_tables, tables_object, object_of, object_by, object, first_by, first_object, objects}
use Rattle.pub_reader.specs.Publications.{new_publication_name, all_tables, listed_objects, scope_by, scope, for_by, for_clause, create_publication}
use Rattle.pub_reader.specs.Publishing.{parameters_clause}
use Rattle.pub_reader.specs.Schemas.{known_position, create_schema, check_new_schema}
use Rattle.pub_reader.specs.Statements.{created_by, created, create, statement_by, statement, ended_statement, statements}
use Rattle.pub_reader.specs.Subscriptions.{new_subscription_name, subscription_body, create_subscription}
use Rattle.pub_reader.specs.TableNames.{known_table, name_in_schema, table_in_schema, table_named, table_number, new_name}
use Rattle.pub_reader.specs.Tables.{new_table, table_body, create_table}
use Rattle.pub_reader.proofs.KeptIndexes.{length-identified, length-indexed}

-- ---- tables that are found

cond_within : (n m : ℕ) (called : PlacedName) (is : Bool) (ts : Items) → nat_lt n m ≡ is
    → Gives (λ (found : ℕ). found < m) (with_rest (known_position called (cond is (Some n) None)) ts)
cond_within n m called true ts e = grind (arith, nat_tests)
cond_within n m called false ts e = tt

module _ (tables : List Table) where
  abbrev pub IsThere : ℕ → Type 0
  IsThere number = number < length tables

  position-there : (p : Table → Bool) (called : PlacedName) (ts : Items)
      → Gives IsThere (with_rest (known_position called (position p tables)) ts)
  position-there p called ts =
      cond_within (position_or_len p tables) (length tables) called
      (nat_lt (position_or_len p tables) (length tables)) ts refl

  known_table-there : (schema : List ℕ) (called : PlacedName) (ts : Items)
      → Gives IsThere (with_rest (known_table tables schema called) ts)
  unfolding known_table
  known_table-there schema called ts = position-there _ called ts

table_named-there : {S : Type 0} (draft : DraftOf S) (called : PlacedName) (ts : Items)
    → Gives (IsThere draft.tables) (table_named draft called ts)
unfolding table_named table_in_schema
table_named-there draft called ts =
    any-gives (IsThere draft.tables) (look ts) _ (λ u ts2.
    chosen-gives (IsThere draft.tables) (is_ahead i.Dot ts2) (table_in_schema draft called ts2) _
    (any-gives (IsThere draft.tables) (name_in_schema draft.schemas called ts2) _
    (λ inner ts3. known_table-there draft.tables called.text inner ts3))
    (known_table-there draft.tables _ called ts2))

pub table_number-there : {S : Type 0} (draft : DraftOf S) (ts : Items)
    → Gives (IsThere draft.tables) (table_number draft ts)
unfolding table_number
table_number-there draft ts = any-gives (IsThere draft.tables) (name ts) _ (table_named-there draft)

module _ (P : List Column → Expr → Type 0)
    (reads : (columns : List Column) (ts : Items) → Gives (P columns) (expression as_filter columns ts)) where
  -- ---- what publications cover

  -- an entry for one of these tables, whose filter has the property
  abbrev IsEntry : List Table → EntryOf Expr → Type 0
  IsEntry tables entry = (entry.table < length tables) × IfSome entry.filter (P (columns_at tables entry.table))

  abbrev pub AllHave : CatalogOf Expr → Type 0
  AllHave catalog = All (λ publication. All (IsEntry catalog.tables) publication.entries) catalog.publications

  abbrev Covers : List Table → CoverageOf Expr → Type 0
  Covers tables coverage = All (IsEntry tables) coverage.entries

  abbrev ListsKnown : List Table → ObjectsOf Expr → Type 0
  ListsKnown tables objects = Covers tables objects.coverage

  module _ (draft : DraftOf Expr) where
    abbrev Kept : CoverageOf Expr → Type 0
    Kept coverage = Covers draft.tables coverage

    abbrev Listed : ObjectsOf Expr → Type 0
    Listed objects = ListsKnown draft.tables objects

    schema_by-kept : (coverage : CoverageOf Expr) (called : PlacedName) (found : Option ℕ) (ts : Items) → Kept coverage
        → Gives Kept (with_rest (schema_by coverage called found) ts)
    schema_by-kept coverage called None ts h = tt
    schema_by-kept coverage called (Some number) ts h = h

    schema-kept : (coverage : CoverageOf Expr) (called : PlacedName) (ts : Items) → Kept coverage
        → Gives Kept (with_rest (schema_mentioned draft coverage called) ts)
    unfolding schema_mentioned
    schema-kept coverage called ts h = schema_by-kept coverage called (find_schema called.text draft.schemas) ts h

    mentioned_by : (is_new is_twice : Bool) (coverage : CoverageOf Expr) (entry : EntryOf Expr) (fault : Fault)
        (ts : Items) → Kept coverage → IsEntry draft.tables entry
        → Gives Kept (with_rest
        (if is_new then Ok (record coverage { entries = coverage.entries ++ entry ∷ [] })
        else (if is_twice then Err fault else Ok coverage)) ts)
    mentioned_by true is_twice coverage entry fault ts h known =
        All-push (IsEntry draft.tables) coverage.entries entry h known
    mentioned_by false true coverage entry fault ts h known = tt
    mentioned_by false false coverage entry fault ts h known = h

    table-kept : (coverage : CoverageOf Expr) (place : ℕ) (entry : EntryOf Expr) (ts : Items) → Kept coverage
        → IsEntry draft.tables entry
        → Gives Kept (with_rest (table_mentioned coverage place entry) ts)
    unfolding table_mentioned
    table-kept coverage place entry ts h known =
        mentioned_by (not (list_any (is_entry_of entry.table) coverage.entries))
        (is_some entry.filter || list_any (is_filtered entry.table) coverage.entries) coverage entry _ ts h known

    -- ---- filters

    module _ (number : ℕ) where
      abbrev FilterHas : Option Expr → Type 0
      FilterHas filter = IfSome filter (P (columns_at draft.tables number))

      where-named : (coverage : CoverageOf Expr) (ts : Items)
          → Gives FilterHas (where_clause as_filter draft coverage number ts)
      unfolding where_clause filter_end
      where-named coverage ts =
          any-gives FilterHas (expect (i.Keyword k.Where) ts) _ (λ place ts2.
          any-gives FilterHas (expect i.Open ts2) _ (λ a ts3.
          then-gives (P (columns_at draft.tables number)) FilterHas
          (expression as_filter (columns_at draft.tables number) ts3) _
          (reads (columns_at draft.tables number) ts3) (λ filter ts4 named.
          any-gives FilterHas (expect i.Close ts4) _ (λ b ts5.
          any-gives FilterHas
          (with_rest (limited place
          ((filters_on as_filter.tree number draft.publications
          ++ filters_in as_filter.tree number coverage.entries) ++ filter ∷ [])) ts5) _ (λ u ts6. named)))))

      filter_by-named : (item : Option Item) (coverage : CoverageOf Expr) (ts : Items)
          → Gives FilterHas (filter_by as_filter item draft coverage number ts)
      filter_by-named (Some (i.Keyword k.Where)) coverage ts = where-named coverage ts
      filter_by-named (Some i.Open) coverage ts = tt
      filter_by-named _ coverage ts = tt

      filter-named : (coverage : CoverageOf Expr) (ts : Items)
          → Gives FilterHas (filter_clause as_filter draft coverage number ts)
      unfolding filter_clause
      filter-named coverage ts =
          any-gives FilterHas (look ts) _ (λ u ts2. filter_by-named (item_ahead ts2) coverage ts2)

    -- ---- objects

    named_schema-listed : (coverage : CoverageOf Expr) (ts : Items) → Kept coverage
        → Gives Listed (named_schema draft coverage ts)
    unfolding named_schema
    named_schema-listed coverage ts h =
        any-gives Listed (name ts) _ (λ called ts2.
        then-gives Kept Listed (with_rest (schema_mentioned draft coverage called) ts2) _
        (schema-kept coverage called ts2 h) (λ covered ts3 c. c))

    schema_object_by-listed : (item : Option Item) (coverage : CoverageOf Expr) (ts : Items) → Kept coverage
        → Gives Listed (schema_object_by item draft coverage ts)
    unfolding current_schema
    schema_object_by-listed (Some (i.Keyword k.CurrentSchema)) coverage ts h =
        any-gives Listed (expect (i.Keyword k.CurrentSchema) ts) _ (λ a ts2. h)
    schema_object_by-listed _ coverage ts h = named_schema-listed coverage ts h

    schema_object-listed : (coverage : CoverageOf Expr) (ts : Items) → Kept coverage
        → Gives Listed (schema_object draft coverage ts)
    unfolding schema_object
    schema_object-listed coverage ts h = schema_object_by-listed (item_ahead ts) coverage ts h

    in_schema-listed : (coverage : CoverageOf Expr) (ts : Items) → Kept coverage
        → Gives Listed (in_schema draft coverage ts)
    unfolding in_schema
    in_schema-listed coverage ts h =
        any-gives Listed (expect (i.Keyword k.In) ts) _ (λ a ts2.
        any-gives Listed (expect (i.Keyword k.Schema) ts2) _ (λ b ts3. schema_object-listed coverage ts3 h))

    taken_schema-listed : (coverage : CoverageOf Expr) (called : PlacedName) (ts : Items) → Kept coverage
        → Gives Listed (taken_schema draft coverage called ts)
    unfolding taken_schema
    taken_schema-listed coverage called ts h =
        then-gives Kept Listed (with_rest (schema_mentioned draft coverage called) ts) _
        (schema-kept coverage called ts h) (λ covered ts2 c. c)

    taken_table-listed : (coverage : CoverageOf Expr) (called : PlacedName) (ts : Items) → Kept coverage
        → Gives Listed (taken_table as_filter draft coverage called ts)
    unfolding taken_table
    taken_table-listed coverage called ts h =
        then-gives (IsThere draft.tables) Listed (table_named draft called ts) _ (table_named-there draft called ts)
        (λ number ts2 there.
        any-gives Listed (eat (i.Operator Star) ts2) _ (λ a ts3.
        then-gives (FilterHas number) Listed (filter_clause as_filter draft coverage number ts3) _
        (filter-named number coverage ts3) (λ filter ts4 named.
        then-gives Kept Listed
        (with_rest (table_mentioned coverage called.place (record { table = number; filter = filter })) ts4) _
        (table-kept coverage called.place (record { table = number; filter = filter }) ts4 h
        (there, named)) (λ covered ts5 c. c))))

    table_object-listed : (coverage : CoverageOf Expr) (ts : Items) → Kept coverage
        → Gives Listed (table_object as_filter draft coverage ts)
    unfolding table_object
    table_object-listed coverage ts h =
        any-gives Listed (eat (i.Keyword k.Only) ts) _ (λ a ts2.
        any-gives Listed (name ts2) _ (λ called ts3. taken_table-listed coverage called ts3 h))

    taken_by-listed : (kind : ObjectKind) (coverage : CoverageOf Expr) (called : PlacedName) (ts : Items)
        → Kept coverage → Gives Listed (taken_by as_filter kind draft coverage called ts)
    taken_by-listed o.Table coverage called ts h = taken_table-listed coverage called ts h
    taken_by-listed o.Schema coverage called ts h = taken_schema-listed coverage called ts h

    tables_by-listed : (item : Option Item) (kind : ObjectKind) (coverage : CoverageOf Expr) (called : PlacedName)
        (ts : Items) → Kept coverage
        → Gives Listed (tables_by as_filter item kind draft coverage called ts)
    tables_by-listed (Some (i.Keyword k.In)) kind coverage called ts h = in_schema-listed coverage ts h
    tables_by-listed _ kind coverage called ts h = taken_by-listed kind coverage called ts h

    tables_object-listed : (objects : ObjectsOf Expr) (ts : Items) → Listed objects
        → Gives Listed (tables_object as_filter draft objects ts)
    unfolding tables_object after_tables
    tables_object-listed objects ts h =
        any-gives Listed (name ts) _ (λ called ts2.
        any-gives Listed (look ts2) _
        (λ u ts3. tables_by-listed (item_ahead ts3) objects.kind objects.coverage called ts3 h))

    object_of-listed : (kind : ObjectKind) (coverage : CoverageOf Expr) (ts : Items) → Kept coverage
        → Gives Listed (object_of as_filter kind draft coverage ts)
    object_of-listed o.Table coverage ts h = table_object-listed coverage ts h
    object_of-listed o.Schema coverage ts h = schema_object-listed coverage ts h

    object_by-listed : (item : Option Item) (kind : ObjectKind) (objects : ObjectsOf Expr) (ts : Items) → Listed objects
        → Gives Listed (object_by as_filter item kind draft objects ts)
    object_by-listed (Some (i.Keyword k.Table)) kind objects ts h = table_object-listed objects.coverage (rest_of ts) h
    object_by-listed (Some (i.Keyword k.Tables)) kind objects ts h = tables_object-listed objects ts h
    object_by-listed _ kind objects ts h = object_of-listed kind objects.coverage ts h

    object-listed : (objects : ObjectsOf Expr) (ts : Items) → Listed objects
        → Gives Listed (object as_filter draft objects ts)
    unfolding object
    object-listed objects ts h = object_by-listed (item_ahead ts) objects.kind objects ts h

    first_by-listed : (item : Option Item) (coverage : CoverageOf Expr) (ts : Items) → Kept coverage
        → Gives Listed (first_by as_filter item draft coverage ts)
    first_by-listed (Some (i.Keyword k.Table)) coverage ts h = table_object-listed coverage (rest_of ts) h
    first_by-listed (Some (i.Keyword k.Tables)) coverage ts h = in_schema-listed coverage (rest_of ts) h
    first_by-listed _ coverage ts h = tt

    objects-listed : (ts : Items) → Gives Listed (objects as_filter draft ts)
    unfolding objects first_object
    objects-listed ts =
        then-gives Listed Listed (first_object as_filter draft nothing_covered ts) _
        (first_by-listed (item_ahead ts) nothing_covered ts (All-nil (IsEntry draft.tables)))
        (repeat-gives Listed (link i.Comma (object as_filter draft))
        (link-gives Listed i.Comma (object as_filter draft) object-listed))

    scope_by-kept : (item : Option Item) (ts : Items) → Gives Kept (scope_by as_filter item draft ts)
    unfolding all_tables listed_objects
    scope_by-kept (Some (i.Keyword k.All)) ts =
        any-gives Kept (expect (i.Keyword k.All) ts) _ (λ a ts2.
        any-gives Kept (expect (i.Keyword k.Tables) ts2) _ (λ b ts3. All-nil (IsEntry draft.tables)))
    scope_by-kept _ ts = then-gives Listed Kept (objects as_filter draft ts) _ (objects-listed ts) (λ read ts2 h. h)

    for_by-kept : (item : Option Item) (ts : Items) → Gives Kept (for_by as_filter item draft ts)
    unfolding scope
    for_by-kept (Some (i.Keyword k.For)) ts = scope_by-kept (item_ahead (rest_of ts)) (rest_of ts)
    for_by-kept _ ts = All-nil (IsEntry draft.tables)

    for_clause-kept : (ts : Items) → Gives Kept (for_clause as_filter draft ts)
    unfolding for_clause
    for_clause-kept ts = for_by-kept (item_ahead ts) ts

  -- ---- tables that change

  columns_at-before : (tables more : List Table) (number : ℕ) → number < length tables
      → columns_at (tables ++ more) number ≡ columns_at tables number
  columns_at-before [] more number within = absurd (omega arith)
  columns_at-before (table ∷ tables) more zero within = refl
  columns_at-before (table ∷ tables) more (suc number) within = columns_at-before tables more number (omega arith)

  columns_at-identified : (tables : List Table) (changed number : ℕ) (identity : Identity)
      → columns_at (identified tables changed identity) number ≡ columns_at tables number
  columns_at-identified [] changed number identity = refl
  columns_at-identified (table ∷ tables) zero zero identity = refl
  columns_at-identified (table ∷ tables) zero (suc number) identity = refl
  columns_at-identified (table ∷ tables) (suc changed) zero identity = refl
  columns_at-identified (table ∷ tables) (suc changed) (suc number) identity =
      columns_at-identified tables changed number identity

  columns_at-indexed : (tables : List Table) (changed number : ℕ) (index : UniqueIndex)
      → columns_at (indexed tables changed index) number ≡ columns_at tables number
  columns_at-indexed [] changed number index = refl
  columns_at-indexed (table ∷ tables) zero zero index = refl
  columns_at-indexed (table ∷ tables) zero (suc number) index = refl
  columns_at-indexed (table ∷ tables) (suc changed) zero index = refl
  columns_at-indexed (table ∷ tables) (suc changed) (suc number) index = columns_at-indexed tables changed number index

  -- an entry stays known if there are no fewer tables, each with its columns
  module _ (tables others : List Table) (grows : length tables ≤ length others)
      (same : (number : ℕ) → number < length tables → columns_at others number ≡ columns_at tables number) where
    entry-later : (entry : EntryOf Expr) → IsEntry tables entry → IsEntry others entry
    entry-later entry known = (
      let within = known.0 in omega arith,
      subst (λ columns. IfSome entry.filter (P columns)) (sym (same entry.table known.0)) known.1,
    )

    publications-later : (publications : List (DraftPublicationOf Expr))
        → All (λ p. Covers tables p.coverage) publications → All (λ p. Covers others p.coverage) publications
    publications-later publications known n d low m e inside = entry-later _ (known n d low m e inside)

  -- ---- statements

  abbrev pub Carry : DraftOf Expr → Type 0
  Carry draft = All (λ p. Covers draft.tables p.coverage) draft.publications

  added-carry : (draft : DraftOf Expr) (table : Table) → Carry draft
      → Carry (record draft { tables = draft.tables ++ table ∷ [] })
  added-carry draft table h =
      publications-later draft.tables (draft.tables ++ table ∷ []) (omega (arith, length_push draft.tables table))
      (columns_at-before draft.tables (table ∷ [])) draft.publications h

  indexed-carry : (draft : DraftOf Expr) (number : ℕ) (index : UniqueIndex) → Carry draft
      → Carry (record draft { tables = indexed draft.tables number index })
  indexed-carry draft number index h =
      publications-later draft.tables (indexed draft.tables number index)
      (omega (arith, length-indexed draft.tables number index))
      (λ other within. columns_at-indexed draft.tables number other index) draft.publications h

  create_table-carry : (draft : DraftOf Expr) (ts : Items) → Carry draft → Gives Carry (create_table draft ts)
  unfolding create_table
  create_table-carry draft ts h =
      any-gives Carry (new_name draft ts) _ (λ called ts2.
      any-gives Carry (table_body called.name ts2) _ (λ parts ts3.
      added-carry draft (new_table called parts) h))

  alter_table-carry : (draft : DraftOf Expr) (ts : Items) → Carry draft → Gives Carry (alter_table draft ts)
  unfolding alter_table
  alter_table-carry draft ts h =
      any-gives Carry (expect (i.Keyword k.Alter) ts) _ (λ a ts2.
      any-gives Carry (expect (i.Keyword k.Table) ts2) _ (λ b ts3.
      any-gives Carry (eat (i.Keyword k.Only) ts3) _ (λ c ts4.
      any-gives Carry (table_number draft ts4) _ (λ number ts5.
      any-gives Carry (replica_identity (columns_at draft.tables number) (indexes_at draft.tables number) ts5) _
      (λ recorded ts6.
      publications-later draft.tables (identified draft.tables number recorded)
      (omega (arith, length-identified draft.tables number recorded))
      (λ other within. columns_at-identified draft.tables number other recorded) draft.publications h)))))

  create_index-carry : (draft : DraftOf Expr) (ts : Items) → Carry draft → Gives Carry (create_index draft ts)
  unfolding create_index
  create_index-carry draft ts h =
      any-gives Carry (expect (i.Keyword k.Index) ts) _ (λ a ts2.
      any-gives Carry (name ts2) _ (λ called ts3.
      any-gives Carry (indexed_table draft called ts3) _ (λ number ts4.
      any-gives Carry (index_body (columns_at draft.tables number) ts4) _ (λ numbers ts5.
      indexed-carry draft number (record { name = called.text; columns = numbers }) h))))

  create_schema-carry : (draft : DraftOf Expr) (ts : Items) → Carry draft → Gives Carry (create_schema draft ts)
  unfolding create_schema
  create_schema-carry draft ts h =
      any-gives Carry (name ts) _
      (λ called ts2. any-gives Carry (with_rest (check_new_schema draft.schemas called) ts2) _ (λ n ts3. h))

  create_publication-carry : (draft : DraftOf Expr) (ts : Items) → Carry draft
      → Gives Carry (create_publication as_filter draft ts)
  unfolding create_publication
  create_publication-carry draft ts h =
      any-gives Carry (new_publication_name draft ts) _ (λ called ts2.
      then-gives (Covers draft.tables) Carry (for_clause as_filter draft ts2) _ (for_clause-kept draft ts2)
      (λ coverage ts3 covers.
      any-gives Carry (parameters_clause ts3) _ (λ given ts4.
      All-push (λ (p : DraftPublicationOf Expr). Covers draft.tables p.coverage) draft.publications _ h covers)))

  create_subscription-carry : (draft : DraftOf Expr) (ts : Items) → Carry draft
      → Gives Carry (create_subscription draft ts)
  unfolding create_subscription
  create_subscription-carry draft ts h =
      any-gives Carry (new_subscription_name draft ts) _
      (λ called ts2. any-gives Carry (subscription_body draft ts2) _ (λ numbers ts3. h))

  created_by-carry : (item : Option Item) (draft : DraftOf Expr) (ts : Items) → Carry draft
      → Gives Carry (created_by as_filter item draft ts)
  created_by-carry (Some (i.Keyword k.Table)) draft ts h = create_table-carry draft (rest_of ts) h
  created_by-carry (Some (i.Keyword k.Publication)) draft ts h = create_publication-carry draft (rest_of ts) h
  created_by-carry (Some (i.Keyword k.Schema)) draft ts h = create_schema-carry draft (rest_of ts) h
  created_by-carry (Some (i.Keyword k.Subscription)) draft ts h = create_subscription-carry draft (rest_of ts) h
  created_by-carry (Some (i.Keyword k.Unique)) draft ts h = create_index-carry draft (rest_of ts) h
  created_by-carry _ draft ts h = tt

  create-carry : (draft : DraftOf Expr) (ts : Items) → Carry draft → Gives Carry (create as_filter draft ts)
  unfolding create created
  create-carry draft ts h =
      any-gives Carry (expect (i.Keyword k.Create) ts) _ (λ a ts2. created_by-carry (item_ahead ts2) draft ts2 h)

  statement_by-carry : (item : Option Item) (draft : DraftOf Expr) (ts : Items) → Carry draft
      → Gives Carry (statement_by as_filter item draft ts)
  statement_by-carry (Some (i.Keyword k.Create)) draft ts h = create-carry draft ts h
  statement_by-carry (Some (i.Keyword k.Alter)) draft ts h = alter_table-carry draft ts h
  statement_by-carry (Some i.Semicolon) draft ts h = h
  statement_by-carry _ draft ts h = tt

  ended_statement-carry : (draft : DraftOf Expr) (ts : Items) → Carry draft
      → Gives Carry (ended_statement as_filter draft ts)
  unfolding ended_statement statement
  ended_statement-carry draft ts h =
      then-gives Carry Carry (statement as_filter draft ts) _ (statement_by-carry (item_ahead ts) draft ts h)
      (λ made ts2 l.
      any-gives Carry (expect i.Semicolon ts2) _ (λ a ts3. l))

  statements-carry : (ts : Items) → Gives Carry (statements as_filter no_draft ts)
  unfolding statements
  statements-carry ts =
      repeat-gives Carry (each more_ahead (ended_statement as_filter))
      (each-gives Carry more_ahead (ended_statement as_filter) ended_statement-carry) no_draft ts
      (All-nil (λ (p : DraftPublicationOf Expr). Covers [] p.coverage))

  -- ---- the end of the catalog

  whole_by : (tables : List Table) (is : Bool) (number : ℕ) (rest : List (EntryOf Expr)) → number < length tables
      → All (IsEntry tables) rest
      → All (IsEntry tables) (if is then record { table = number; filter = None } ∷ rest else rest)
  whole_by tables true number rest within h =
      All-cons (IsEntry tables) (record { table = number; filter = None }) rest
      (within, tt) h
  whole_by tables false number rest within h = h

  whole-known : (tables : List Table) (covers : Table → Bool) (number : ℕ) (rest : List Table)
      → number + length rest ≤ length tables → All (IsEntry tables) (whole_from covers number rest)
  whole-known tables covers number [] room = All-nil (IsEntry tables)
  whole-known tables covers number (table ∷ rest) room =
      whole_by tables (covers table) number (whole_from covers (suc number) rest) (omega arith)
      (whole-known tables covers (suc number) rest (omega arith))

  resolved-known : (draft : DraftOf Expr) → Carry draft → AllHave (resolved draft)
  resolved-known draft h =
      All-map (λ publication. All (IsEntry draft.tables) publication.entries) (resolved_publication draft.tables)
      draft.publications (λ n d low.
      let publication : DraftPublicationOf Expr = get_or draft.publications n d in
      let whole = whole_from (takes_table publication.coverage.everything publication.coverage.schemas) 0 draft.tables in
      All-append (IsEntry draft.tables) publication.coverage.entries whole (h n d low)
      (whole-known draft.tables (takes_table publication.coverage.everything publication.coverage.schemas) 0 draft.tables
      (omega arith)))

  -- what is made of the statements of a text
  pub resolved_entries_have : (ts : Items) (draft : DraftOf Expr) (rest : Items)
      → statements as_filter no_draft ts ≡ Ok (draft, rest) → AllHave (resolved draft)
  resolved_entries_have ts draft rest e = resolved-known draft (subst (Gives Carry) e (statements-carry ts))
