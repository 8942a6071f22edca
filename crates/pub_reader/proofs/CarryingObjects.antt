-- Publications are read the same, whatever the forms of their filters make.
use Rattle.std.proofs.Common.{◌≡◌, ℕ, List, [], ◌∷◌, ◌++◌, refl, ap, sym, ◌∙◌}
use Rattle.std.proofs.lemmas.List.{map-append}
use Rattle.std.specs.Prelude.{Option, Some, Ok}
use Rattle.std.specs.Option.{option_map}
use Rattle.sql_tokens.specs.declared.kinds.Operator.TheVariants.{Star}
use Rattle.sql_reader.specs.declared.word.Keyword.TheVariants as k
use Rattle.sql_reader.specs.declared.item.Item.{Item}
use Rattle.sql_reader.specs.declared.item.Item.TheVariants as i
use Rattle.sql_reader.specs.declared.name.PlacedName.{PlacedName}
use Rattle.sql_reader.specs.Expressions.{Forms, expression}
use Rattle.sql_reader.specs.Items.{Items}
use Rattle.sql_reader.specs.Names.{name}
use Rattle.sql_reader.specs.Reading.{with_rest, look, eat, expect, item_ahead, rest_of}
use Rattle.sql_reader.specs.Repetitions.{link}
use Rattle.sql_reader.proofs.Carrying.{mapped, Carries, then-same, then-carried, repeat-carried, link-carried}
use Rattle.sql_reader.proofs.CarryingExpressions.{expression-carried}
use Rattle.pub_reader.specs.declared.coverage.ObjectKind.{ObjectKind}
use Rattle.pub_reader.specs.declared.coverage.ObjectKind.TheVariants as o
use Rattle.pub_catalog.specs.Catalogs.{columns_at}
use Rattle.pub_reader.specs.Drafts.{CoverageOf, DraftPublicationOf, DraftOf, nothing_covered, filters_in, filters_on, coverage_map, draft_publication_map, draft_map}
use Rattle.pub_reader.specs.Objects.{ObjectsOf, limited, table_mentioned, filter_end, where_clause, filter_by, filter_clause, taken_table, table_object, taken_by, tables_by, after_tables, tables_object, object_of, object_by, object, first_by, first_object, objects}
use Rattle.pub_reader.specs.Publications.{new_publication_name, all_tables, published, scope_by, scope, for_by, for_clause, listed_objects, create_publication}
use Rattle.pub_reader.specs.Publishing.{parameters_clause}
use Rattle.pub_reader.specs.TableNames.{table_named}
use Rattle.pub_reader.proofs.CarryingDrafts.{publication_name-same, table_named-same, filters_in-carried, filters_on-carried, checked-mapped, table_mentioned-carried, objects_map, taken_schema-carried, schema_object-carried, in_schema-carried}

module _ {S T : Type 0} (from : Forms S) (to : Forms T) (h : S → T) (carries : Carries from to h) where
  -- ---- a filter

  ended-carried : (draft : DraftOf S) (coverage : CoverageOf S) (number place : ℕ) (s : S) (ts : Items)
      → filter_end to (draft_map h draft) (coverage_map h coverage) number place (h s) ts
      ≡ mapped (option_map h) (filter_end from draft coverage number place s ts)
  unfolding filter_end
  ended-carried draft coverage number place s ts =
      then-same (option_map h) (expect i.Close ts) _ _ (λ close ts2.
      rw (
        filters_on-carried from.tree to.tree h carries.tree number draft.publications,
        filters_in-carried from.tree to.tree h carries.tree number coverage.entries,
        carries.tree s,
      )
      (then-same (option_map h)
      (with_rest (limited place
      ((filters_on from.tree number draft.publications ++ filters_in from.tree number coverage.entries)
      ++ from.tree s ∷ [])) ts2) _ _ (λ n ts3. refl)))

  where_clause-carried : (draft : DraftOf S) (coverage : CoverageOf S) (number : ℕ) (ts : Items)
      → where_clause to (draft_map h draft) (coverage_map h coverage) number ts
      ≡ mapped (option_map h) (where_clause from draft coverage number ts)
  unfolding where_clause
  where_clause-carried draft coverage number ts =
      then-same (option_map h) (expect (i.Keyword k.Where) ts) _ _ (λ place ts2.
      then-same (option_map h) (expect i.Open ts2) _ _ (λ open_place ts3.
      then-carried h (option_map h) (expression from (columns_at draft.tables number) ts3)
      (expression to (columns_at draft.tables number) ts3) _ _
      (expression-carried from to h carries (columns_at draft.tables number) ts3)
      (λ s ts4. ended-carried draft coverage number place s ts4)))

  filter_by-carried : (item : Option Item) (draft : DraftOf S) (coverage : CoverageOf S) (number : ℕ) (ts : Items)
      → filter_by to item (draft_map h draft) (coverage_map h coverage) number ts
      ≡ mapped (option_map h) (filter_by from item draft coverage number ts)
  filter_by-carried (Some (i.Keyword k.Where)) draft coverage number ts = where_clause-carried draft coverage number ts
  filter_by-carried (Some i.Open) draft coverage number ts = refl
  filter_by-carried _ draft coverage number ts = refl

  filter_clause-carried : (draft : DraftOf S) (coverage : CoverageOf S) (number : ℕ) (ts : Items)
      → filter_clause to (draft_map h draft) (coverage_map h coverage) number ts
      ≡ mapped (option_map h) (filter_clause from draft coverage number ts)
  unfolding filter_clause
  filter_clause-carried draft coverage number ts =
      then-same (option_map h) (look ts) _ _ (λ u ts2. filter_by-carried (item_ahead ts2) draft coverage number ts2)

  -- ---- a table

  mentioned-carried : (coverage : CoverageOf S) (place number : ℕ) (filter : Option S) (ts : Items) →
      with_rest (table_mentioned (coverage_map h coverage) place
      (record { table = number; filter = option_map h filter })) ts
      ≡ mapped (coverage_map h)
      (with_rest (table_mentioned coverage place (record { table = number; filter = filter })) ts)
  mentioned-carried coverage place number filter ts =
      ap (λ v. with_rest v ts) (table_mentioned-carried h coverage place (record { table = number; filter = filter }))
      ∙ checked-mapped (coverage_map h) (table_mentioned coverage place (record { table = number; filter = filter })) ts

  taken_table-carried : (draft : DraftOf S) (coverage : CoverageOf S) (called : PlacedName) (ts : Items)
      → taken_table to (draft_map h draft) (coverage_map h coverage) called ts
      ≡ mapped (objects_map h) (taken_table from draft coverage called ts)
  unfolding taken_table
  taken_table-carried draft coverage called ts =
      rw (table_named-same h draft called ts)
      (then-same (objects_map h) (table_named draft called ts) _ _ (λ number ts2.
      then-same (objects_map h) (eat (i.Operator Star) ts2) _ _ (λ star ts3.
      then-carried (option_map h) (objects_map h) (filter_clause from draft coverage number ts3)
      (filter_clause to (draft_map h draft) (coverage_map h coverage) number ts3) _ _
      (filter_clause-carried draft coverage number ts3) (λ filter ts4.
      then-carried (coverage_map h) (objects_map h)
      (with_rest (table_mentioned coverage called.place (record { table = number; filter = filter })) ts4)
      (with_rest (table_mentioned (coverage_map h coverage) called.place
      (record { table = number; filter = option_map h filter })) ts4) _ _
      (mentioned-carried coverage called.place number filter ts4) (λ covered ts5. refl)))))

  table_object-carried : (draft : DraftOf S) (coverage : CoverageOf S) (ts : Items)
      → table_object to (draft_map h draft) (coverage_map h coverage) ts
      ≡ mapped (objects_map h) (table_object from draft coverage ts)
  unfolding table_object
  table_object-carried draft coverage ts =
      then-same (objects_map h) (eat (i.Keyword k.Only) ts) _ _
      (λ n ts2. then-same (objects_map h) (name ts2) _ _
      (λ called ts3. taken_table-carried draft coverage called ts3))

  -- ---- objects

  taken_by-carried : (kind : ObjectKind) (draft : DraftOf S) (coverage : CoverageOf S) (called : PlacedName)
      (ts : Items) →
      taken_by to kind (draft_map h draft) (coverage_map h coverage) called ts
      ≡ mapped (objects_map h) (taken_by from kind draft coverage called ts)
  taken_by-carried o.Table draft coverage called ts = taken_table-carried draft coverage called ts
  taken_by-carried o.Schema draft coverage called ts = taken_schema-carried h draft coverage called ts

  tables_by-carried : (item : Option Item) (kind : ObjectKind) (draft : DraftOf S) (coverage : CoverageOf S)
      (called : PlacedName) (ts : Items) →
      tables_by to item kind (draft_map h draft) (coverage_map h coverage) called ts
      ≡ mapped (objects_map h) (tables_by from item kind draft coverage called ts)
  tables_by-carried (Some (i.Keyword k.In)) kind draft coverage called ts = in_schema-carried h draft coverage ts
  tables_by-carried _ kind draft coverage called ts = taken_by-carried kind draft coverage called ts

  tables_object-carried : (draft : DraftOf S) (read : ObjectsOf S) (ts : Items)
      → tables_object to (draft_map h draft) (objects_map h read) ts
      ≡ mapped (objects_map h) (tables_object from draft read ts)
  unfolding tables_object after_tables
  tables_object-carried draft read ts =
      then-same (objects_map h) (name ts) _ _
      (λ called ts2. then-same (objects_map h) (look ts2) _ _
      (λ u ts3. tables_by-carried (item_ahead ts3) read.kind draft read.coverage called ts3))

  object_of-carried : (kind : ObjectKind) (draft : DraftOf S) (coverage : CoverageOf S) (ts : Items) →
      object_of to kind (draft_map h draft) (coverage_map h coverage) ts
      ≡ mapped (objects_map h) (object_of from kind draft coverage ts)
  object_of-carried o.Table draft coverage ts = table_object-carried draft coverage ts
  object_of-carried o.Schema draft coverage ts = schema_object-carried h draft coverage ts

  object_by-carried : (item : Option Item) (kind : ObjectKind) (draft : DraftOf S) (read : ObjectsOf S) (ts : Items) →
      object_by to item kind (draft_map h draft) (objects_map h read) ts
      ≡ mapped (objects_map h) (object_by from item kind draft read ts)
  object_by-carried (Some (i.Keyword k.Table)) kind draft read ts =
      table_object-carried draft read.coverage (rest_of ts)
  object_by-carried (Some (i.Keyword k.Tables)) kind draft read ts = tables_object-carried draft read ts
  object_by-carried _ kind draft read ts = object_of-carried kind draft read.coverage ts

  object-carried : (draft : DraftOf S) (read : ObjectsOf S) (ts : Items)
      → object to (draft_map h draft) (objects_map h read) ts ≡ mapped (objects_map h) (object from draft read ts)
  unfolding object
  object-carried draft read ts = object_by-carried (item_ahead ts) read.kind draft read ts

  first_by-carried : (item : Option Item) (draft : DraftOf S) (coverage : CoverageOf S) (ts : Items)
      → first_by to item (draft_map h draft) (coverage_map h coverage) ts
      ≡ mapped (objects_map h) (first_by from item draft coverage ts)
  first_by-carried (Some (i.Keyword k.Table)) draft coverage ts = table_object-carried draft coverage (rest_of ts)
  first_by-carried (Some (i.Keyword k.Tables)) draft coverage ts = in_schema-carried h draft coverage (rest_of ts)
  first_by-carried _ draft coverage ts = refl

  first_object-carried : (draft : DraftOf S) (coverage : CoverageOf S) (ts : Items)
      → first_object to (draft_map h draft) (coverage_map h coverage) ts
      ≡ mapped (objects_map h) (first_object from draft coverage ts)
  unfolding first_object
  first_object-carried draft coverage ts = first_by-carried (item_ahead ts) draft coverage ts

  objects-carried : (draft : DraftOf S) (ts : Items)
      → objects to (draft_map h draft) ts ≡ mapped (objects_map h) (objects from draft ts)
  unfolding objects
  objects-carried draft ts =
      then-carried (objects_map h) (objects_map h) (first_object from draft nothing_covered ts)
      (first_object to (draft_map h draft) nothing_covered ts) _ _ (first_object-carried draft nothing_covered ts)
      (repeat-carried (objects_map h) (link i.Comma (object from draft)) (link i.Comma (object to (draft_map h draft)))
      (link-carried (objects_map h) i.Comma (object from draft) (object to (draft_map h draft)) (object-carried draft)))

  -- ---- the statement

  listed_objects-carried : (draft : DraftOf S) (ts : Items)
      → listed_objects to (draft_map h draft) ts ≡ mapped (coverage_map h) (listed_objects from draft ts)
  unfolding listed_objects
  listed_objects-carried draft ts =
      then-carried (objects_map h) (coverage_map h) (objects from draft ts) (objects to (draft_map h draft) ts) _ _
      (objects-carried draft ts) (λ read ts2. refl)

  all_tables-carried : (ts : Items) → all_tables {S = T} ts ≡ mapped (coverage_map h) (all_tables {S = S} ts)
  unfolding all_tables
  all_tables-carried ts =
      then-same (coverage_map h) (expect (i.Keyword k.All) ts) _ _
      (λ a ts2. then-same (coverage_map h) (expect (i.Keyword k.Tables) ts2) _ _ (λ b ts3. refl))

  scope_by-carried : (item : Option Item) (draft : DraftOf S) (ts : Items)
      → scope_by to item (draft_map h draft) ts ≡ mapped (coverage_map h) (scope_by from item draft ts)
  scope_by-carried (Some (i.Keyword k.All)) draft ts = all_tables-carried ts
  scope_by-carried _ draft ts = listed_objects-carried draft ts

  for_by-carried : (item : Option Item) (draft : DraftOf S) (ts : Items)
      → for_by to item (draft_map h draft) ts ≡ mapped (coverage_map h) (for_by from item draft ts)
  unfolding scope
  for_by-carried (Some (i.Keyword k.For)) draft ts = scope_by-carried (item_ahead (rest_of ts)) draft (rest_of ts)
  for_by-carried _ draft ts = refl

  for_clause-carried : (draft : DraftOf S) (ts : Items)
      → for_clause to (draft_map h draft) ts ≡ mapped (coverage_map h) (for_clause from draft ts)
  unfolding for_clause
  for_clause-carried draft ts = for_by-carried (item_ahead ts) draft ts

  pub create_publication-carried : (draft : DraftOf S) (ts : Items)
      → create_publication to (draft_map h draft) ts ≡ mapped (draft_map h) (create_publication from draft ts)
  unfolding create_publication
  create_publication-carried draft ts =
      let made : List (DraftPublicationOf T) → DraftOf T =
      λ ps. record {
        schemas = draft.schemas;
        tables = draft.tables;
        publications = ps;
        subscriptions =
            draft.subscriptions;
      } in
      then-carried (λ called. called) (draft_map h) (new_publication_name draft ts)
      (new_publication_name (draft_map h draft) ts) _ _ (publication_name-same h draft ts) (λ called ts2.
      then-carried (coverage_map h) (draft_map h) (for_clause from draft ts2) (for_clause to (draft_map h draft) ts2)
      _ _ (for_clause-carried draft ts2) (λ coverage ts3.
      then-same (draft_map h) (parameters_clause ts3) _ _ (λ given ts4.
      ap (λ ps. Ok (made ps, ts4))
      (sym (map-append (draft_publication_map h) draft.publications
      (record { name = called.text; publishes = published given.publishes; coverage = coverage } ∷ []))))))
