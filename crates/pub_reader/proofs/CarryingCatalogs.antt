-- Catalogs are read the same, whatever the forms of their filters make.
use Rattle.std.proofs.Common.{◌≡◌, ℕ, suc, Bool, true, false, List, [], ◌∷◌, ◌++◌, map, refl, ap, sym, ◌∙◌}
use Rattle.std.proofs.lemmas.List.{map-append}
use Rattle.std.specs.Prelude.{Option, Some, None, Result, Ok, Err, IfOk}
use Rattle.std.specs.Option.{option_map}
use Rattle.filter_tree.specs.declared.table.Table.{Table}
use Rattle.filter_tree.specs.Expr.{Expr, meaning}
use Rattle.sql_reader.specs.declared.word.Keyword.TheVariants as k
use Rattle.sql_reader.specs.declared.item.Item.{Item}
use Rattle.sql_reader.specs.declared.item.Item.TheVariants as i
use Rattle.sql_reader.specs.Expressions.{Forms}
use Rattle.sql_reader.specs.Items.{Items, items_of}
use Rattle.sql_reader.specs.declared.error.ReadError.{ReadError}
use Rattle.sql_reader.specs.Reading.{Answers, Outcome, Verdict, expect, item_ahead, more_ahead, rest_of}
use Rattle.sql_reader.specs.Repetitions.{each, repeat}
use Rattle.sql_reader.specs.Written.{Written, as_written, as_filter, filter_of, written_meaning}
use Rattle.sql_reader.proofs.Carrying.{mapped, Carries, then-same, then-carried, repeat-carried, each-carried}
use Rattle.sql_reader.proofs.Meanings.{filters_carry, meaning-filter_of}
use Rattle.pub_reader.specs.CatalogMeaning.{MeansAsWritten}
use Rattle.pub_catalog.specs.declared.catalog.Catalog.{Catalog}
use Rattle.pub_catalog.specs.CatalogView.{catalog_view}
use Rattle.pub_catalog.specs.Catalogs.{EntryOf, PublicationOf, CatalogOf, entry_map, publication_map, catalog_map}
use Rattle.pub_reader.specs.Drafts.{CoverageOf, DraftPublicationOf, DraftOf, no_draft, takes_table, whole_from, resolved_entries, resolved_publication, resolved, coverage_map, draft_publication_map, draft_map}
use Rattle.pub_reader.specs.Statements.{created_by, created, create, statement_by, statement, ended_statement, statements, finished, catalog_by}
use Rattle.pub_reader.proofs.CarryingDrafts.{verdict_map, create_schema-carried, create_table-carried, alter_table-carried, create_index-carried, create_subscription-carried}
use Rattle.pub_reader.proofs.CarryingObjects.{create_publication-carried}
use Rattle.filter_tree.proofs.Tests.{by_test}

-- ---- the end of the catalog

whole_from-carried : {S T : Type 0} (h : S → T) (covers : Table → Bool) (number : ℕ) (tables : List Table)
    → map (entry_map h) (whole_from {S = S} covers number tables) ≡ whole_from {S = T} covers number tables
whole_from-carried h covers number [] = refl
whole_from-carried {S} {T} h covers number (table ∷ tables) =
    let whole : EntryOf T = record { table = number; filter = None } in
    by_test (covers table)
    (λ e. rw e (ap (λ entries. whole ∷ entries) (whole_from-carried h covers (suc number) tables)))
    (λ e. rw e (whole_from-carried h covers (suc number) tables))

resolved_entries-carried : {S T : Type 0} (h : S → T) (tables : List Table) (coverage : CoverageOf S)
    → map (entry_map h) (resolved_entries tables coverage) ≡ resolved_entries tables (coverage_map h coverage)
resolved_entries-carried {S} h tables coverage =
    let covers : Table → Bool = takes_table coverage.everything coverage.schemas in
    map-append (entry_map h) coverage.entries (whole_from {S = S} covers 0 tables)
    ∙ ap (λ entries. map (entry_map h) coverage.entries ++ entries) (whole_from-carried h covers 0 tables)

resolved_publications-carried : {S T : Type 0} (h : S → T) (tables : List Table) (ps : List (DraftPublicationOf S)) →
    map (publication_map h) (map (resolved_publication tables) ps)
    ≡ map (resolved_publication tables) (map (draft_publication_map h) ps)
resolved_publications-carried h tables [] = refl
resolved_publications-carried {S} {T} h tables (p ∷ ps) =
    let made : List (EntryOf T) → List (PublicationOf T) → List (PublicationOf T) =
    λ entries rest. record { name = p.name; publishes = p.publishes; entries = entries } ∷ rest in
    ap (λ entries. made entries (map (publication_map h) (map (resolved_publication tables) ps)))
    (resolved_entries-carried h tables p.coverage)
    ∙ ap (made (resolved_entries tables (coverage_map h p.coverage))) (resolved_publications-carried h tables ps)

resolved-carried : {S T : Type 0} (h : S → T) (draft : DraftOf S)
    → resolved (draft_map h draft) ≡ catalog_map h (resolved draft)
resolved-carried {S} {T} h draft =
    let made : List (PublicationOf T) → CatalogOf T =
    λ ps. record { tables = draft.tables; publications = ps; subscriptions = draft.subscriptions } in
    ap made (sym (resolved_publications-carried h draft.tables draft.publications))

finished-mapped : {S T : Type 0} (h : S → T) (read : Outcome (DraftOf S))
    → finished (mapped (draft_map h) read) ≡ verdict_map (catalog_map h) (finished read)
finished-mapped h (Ok read) = ap Ok (resolved-carried h read.0)
finished-mapped h (Err fault) = refl

-- ---- statements

module _ {S T : Type 0} (from : Forms S) (to : Forms T) (h : S → T) (carries : Carries from to h) where
  created_by-carried : (item : Option Item) (draft : DraftOf S) (ts : Items)
      → created_by to item (draft_map h draft) ts ≡ mapped (draft_map h) (created_by from item draft ts)
  created_by-carried (Some (i.Keyword k.Table)) draft ts = create_table-carried h draft (rest_of ts)
  created_by-carried (Some (i.Keyword k.Publication)) draft ts =
      create_publication-carried from to h carries draft (rest_of ts)
  created_by-carried (Some (i.Keyword k.Schema)) draft ts = create_schema-carried h draft (rest_of ts)
  created_by-carried (Some (i.Keyword k.Subscription)) draft ts = create_subscription-carried h draft (rest_of ts)
  created_by-carried (Some (i.Keyword k.Unique)) draft ts = create_index-carried h draft (rest_of ts)
  created_by-carried _ draft ts = refl

  create-carried : (draft : DraftOf S) (ts : Items)
      → create to (draft_map h draft) ts ≡ mapped (draft_map h) (create from draft ts)
  unfolding create created
  create-carried draft ts =
      then-same (draft_map h) (expect (i.Keyword k.Create) ts) _ _
      (λ a ts2. created_by-carried (item_ahead ts2) draft ts2)

  statement_by-carried : (item : Option Item) (draft : DraftOf S) (ts : Items)
      → statement_by to item (draft_map h draft) ts ≡ mapped (draft_map h) (statement_by from item draft ts)
  statement_by-carried (Some (i.Keyword k.Create)) draft ts = create-carried draft ts
  statement_by-carried (Some (i.Keyword k.Alter)) draft ts = alter_table-carried h draft ts
  statement_by-carried (Some i.Semicolon) draft ts = refl
  statement_by-carried _ draft ts = refl

  ended_statement-carried : (draft : DraftOf S) (ts : Items)
      → ended_statement to (draft_map h draft) ts ≡ mapped (draft_map h) (ended_statement from draft ts)
  unfolding ended_statement statement
  ended_statement-carried draft ts =
      then-carried (draft_map h) (draft_map h) (statement from draft ts) (statement to (draft_map h draft) ts) _ _
      (statement_by-carried (item_ahead ts) draft ts)
      (λ made ts2. then-same (draft_map h) (expect i.Semicolon ts2) _ _ (λ a ts3. refl))

  -- the catalog of a text with one kind of filters is the catalog with the other kind, carried over
  pub catalog_by-carried : (text : List ℕ) → catalog_by to text ≡ verdict_map (catalog_map h) (catalog_by from text)
  unfolding catalog_by statements
  catalog_by-carried text =
      ap finished (repeat-carried (draft_map h) (each more_ahead (ended_statement from))
      (each more_ahead (ended_statement to))
      (each-carried (draft_map h) more_ahead (ended_statement from) (ended_statement to) ended_statement-carried)
      no_draft (items_of text))
      ∙ finished-mapped h (repeat (each more_ahead (ended_statement from)) no_draft (items_of text))

-- ---- a catalog whose filters are carried over twice

filters_twice : {S T U : Type 0} (f : S → T) (g : T → U) (k : S → U) → ((s : S) → g (f s) ≡ k s) → (filter : Option S)
    → option_map g (option_map f filter) ≡ option_map k filter
filters_twice f g k e None = refl
filters_twice f g k e (Some s) = ap Some (e s)

entries_twice : {S T U : Type 0} (f : S → T) (g : T → U) (k : S → U) → ((s : S) → g (f s) ≡ k s)
    → (entries : List (EntryOf S)) → map (entry_map g) (map (entry_map f) entries) ≡ map (entry_map k) entries
entries_twice f g k e [] = refl
entries_twice {S} {T} {U} f g k e (entry ∷ entries) =
    let made : Option U → List (EntryOf U) → List (EntryOf U) =
    λ filter rest. record { table = entry.table; filter = filter } ∷ rest in
    ap (λ filter. made filter (map (entry_map g) (map (entry_map f) entries))) (filters_twice f g k e entry.filter)
    ∙ ap (made (option_map k entry.filter)) (entries_twice f g k e entries)

publications_twice : {S T U : Type 0} (f : S → T) (g : T → U) (k : S → U) → ((s : S) → g (f s) ≡ k s)
    → (ps : List (PublicationOf S))
    → map (publication_map g) (map (publication_map f) ps) ≡ map (publication_map k) ps
publications_twice f g k e [] = refl
publications_twice {S} {T} {U} f g k e (p ∷ ps) =
    let made : List (EntryOf U) → List (PublicationOf U) → List (PublicationOf U) =
    λ entries rest. record { name = p.name; publishes = p.publishes; entries = entries } ∷ rest in
    ap (λ entries. made entries (map (publication_map g) (map (publication_map f) ps)))
    (entries_twice f g k e p.entries)
    ∙ ap (made (map (entry_map k) p.entries)) (publications_twice f g k e ps)

catalog_twice : {S T U : Type 0} (f : S → T) (g : T → U) (k : S → U) → ((s : S) → g (f s) ≡ k s)
    → (catalog : CatalogOf S) → catalog_map g (catalog_map f catalog) ≡ catalog_map k catalog
catalog_twice {S} {T} {U} f g k e catalog =
    let made : List (PublicationOf U) → CatalogOf U =
    λ ps. record { tables = catalog.tables; publications = ps; subscriptions = catalog.subscriptions } in
    ap made (publications_twice f g k e catalog.publications)

-- ---- the law

means_by : (read : Verdict (CatalogOf Written)) (catalog : CatalogOf Expr)
    → verdict_map (catalog_map filter_of) read ≡ Ok catalog → MeansAsWritten read catalog
means_by (Err fault) catalog e = cc
means_by (Ok written) catalog e =
    let trees : catalog ≡ catalog_map filter_of written = cc in
    record {
      written = written;
      is_read = refl;
      trees = trees;
      meanings = λ row. ap (catalog_map (λ filter. meaning filter row)) trees
          ∙ catalog_twice filter_of (λ filter. meaning filter row) (λ expression. written_meaning expression row)
          (λ expression. meaning-filter_of expression row) written;
    }

-- the filters of a catalog that was read mean what its expressions mean as they are written
pub means_as_written : (text : List ℕ) (catalog : CatalogOf Expr) → catalog_by as_filter text ≡ Ok catalog
    → MeansAsWritten (catalog_by as_written text) catalog
means_as_written text catalog e =
    means_by (catalog_by as_written text) catalog
    (sym (catalog_by-carried as_written as_filter filter_of filters_carry text) ∙ e)

pub read_as_written : (text : List ℕ) (result : Result Catalog ReadError)
    → Answers catalog_view (catalog_by as_filter text) result
    → IfOk result (λ catalog. MeansAsWritten (catalog_by as_written text) (catalog_view catalog))
read_as_written text (Ok catalog) h = means_as_written text (catalog_view catalog) h
read_as_written text (Err error) h = tt
