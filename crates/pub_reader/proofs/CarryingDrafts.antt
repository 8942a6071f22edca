-- What a catalog has while it is being read is the same, whatever the forms of its filters make.
use Rattle.std.proofs.Common.{◌≡◌, ℕ, Bool, true, false, ◌||◌, List, [], ◌∷◌, ◌++◌, map, refl, ap, sym, ◌∙◌}
use Rattle.std.proofs.lemmas.List.{length-map, map-append}
use Rattle.std.specs.Prelude.{Option, Some, None, Ok, Err, if◌then◌else◌, ◌==◌}
use Rattle.std.specs.List.{list_any}
use Rattle.std.specs.Option.{is_some, option_map, option_to_list}
use Rattle.std.specs.Str.{bytes_eq}
use Rattle.filter_tree.specs.Expr.{Expr}
use Rattle.sql_reader.specs.declared.word.Keyword.TheVariants as k
use Rattle.sql_reader.specs.declared.item.Item.{Item}
use Rattle.sql_reader.specs.declared.item.Item.TheVariants as i
use Rattle.sql_reader.specs.declared.name.PlacedName.{PlacedName}
use Rattle.sql_reader.specs.Items.{Items}
use Rattle.sql_reader.specs.Names.{name}
use Rattle.sql_reader.specs.Reading.{Verdict, with_rest, eat, expect, item_ahead}
use Rattle.sql_reader.specs.Repetitions.{link}
use Rattle.sql_reader.proofs.Carrying.{mapped, then-same, then-carried, repeat-carried, link-carried}
use Rattle.pub_catalog.specs.Catalogs.{EntryOf, columns_at, indexes_at, entry_map}
use Rattle.pub_reader.specs.Drafts.{CoverageOf, DraftPublicationOf, DraftOf, find_schema, find_publication, filter_on, filters_in, filters_on, coverage_map, draft_publication_map, draft_map}
use Rattle.pub_reader.specs.Identities.{replica_identity, alter_table}
use Rattle.pub_reader.specs.Indexes.{check_new_index, index_body, indexed_table, create_index}
use Rattle.pub_reader.specs.Objects.{ObjectsOf, is_entry_of, is_filtered, schema_by, schema_mentioned, table_mentioned, named_schema, current_schema, schema_object_by, schema_object, in_schema, taken_schema}
use Rattle.pub_reader.specs.Publications.{check_new_publication, new_publication_name}
use Rattle.pub_reader.specs.Schemas.{create_schema, check_new_schema}
use Rattle.pub_reader.specs.Subscriptions.{check_new_subscription, new_subscription_name, once, subscribed, one_publication, publication_list, subscription_body, subscription_tail, create_subscription}
use Rattle.pub_reader.specs.TableNames.{table_in_schema, table_named, table_number, new_name}
use Rattle.pub_reader.specs.Tables.{table_body, create_table}
use Rattle.pub_catalog.proofs.Positions.{position-map}
use Rattle.filter_tree.proofs.Tests.{by_test}

-- an outcome whose value is the same
abbrev same : {A : Type 0} → A → A
same a = a

-- ---- names

find_publication-same : {S T : Type 0} (h : S → T) (text : List ℕ) (ps : List (DraftPublicationOf S))
    → find_publication text (map (draft_publication_map h) ps) ≡ find_publication text ps
find_publication-same {S} {T} h text ps =
    position-map (λ (p : DraftPublicationOf T). bytes_eq text p.name) (draft_publication_map h) ps

check_new_publication-same : {S T : Type 0} (h : S → T) (draft : DraftOf S) (called : PlacedName)
    → check_new_publication (draft_map h draft) called ≡ check_new_publication draft called
unfolding check_new_publication
check_new_publication-same h draft called =
    rw (
      find_publication-same h called.text draft.publications,
      length-map draft.publications (draft_publication_map h),
    ) refl

pub publication_name-same : {S T : Type 0} (h : S → T) (draft : DraftOf S) (ts : Items)
    → new_publication_name (draft_map h draft) ts ≡ mapped same (new_publication_name draft ts)
unfolding new_publication_name
publication_name-same h draft ts =
    then-same same (name ts) _ _ (λ called ts2. rw (check_new_publication-same h draft called)
    (then-same same (with_rest (check_new_publication draft called) ts2) _ _ (λ n ts3. refl)))

pub table_named-same : {S T : Type 0} (h : S → T) (draft : DraftOf S) (called : PlacedName) (ts : Items)
    → table_named (draft_map h draft) called ts ≡ table_named draft called ts
unfolding table_named table_in_schema
table_named-same h draft called ts = refl

-- ---- statements without filters

pub create_schema-carried : {S T : Type 0} (h : S → T) (draft : DraftOf S) (ts : Items)
    → create_schema (draft_map h draft) ts ≡ mapped (draft_map h) (create_schema draft ts)
unfolding create_schema
create_schema-carried h draft ts =
    then-same (draft_map h) (name ts) _ _
    (λ called ts2. then-same (draft_map h) (with_rest (check_new_schema draft.schemas called) ts2) _ _
    (λ n ts3. refl))

pub create_table-carried : {S T : Type 0} (h : S → T) (draft : DraftOf S) (ts : Items)
    → create_table (draft_map h draft) ts ≡ mapped (draft_map h) (create_table draft ts)
unfolding create_table new_name
create_table-carried h draft ts =
    then-same (draft_map h) (new_name draft ts) _ _
    (λ called ts2. then-same (draft_map h) (table_body called.name ts2) _ _ (λ parts ts3. refl))

pub alter_table-carried : {S T : Type 0} (h : S → T) (draft : DraftOf S) (ts : Items)
    → alter_table (draft_map h draft) ts ≡ mapped (draft_map h) (alter_table draft ts)
unfolding alter_table table_number table_named table_in_schema
alter_table-carried h draft ts =
    then-same (draft_map h) (expect (i.Keyword k.Alter) ts) _ _ (λ a ts2.
    then-same (draft_map h) (expect (i.Keyword k.Table) ts2) _ _ (λ b ts3.
    then-same (draft_map h) (eat (i.Keyword k.Only) ts3) _ _ (λ c ts4.
    then-same (draft_map h) (table_number draft ts4) _ _ (λ number ts5.
    then-same (draft_map h) (replica_identity (columns_at draft.tables number) (indexes_at draft.tables number) ts5) _
    _ (λ recorded ts6. refl)))))

indexed_table-same : {S T : Type 0} (h : S → T) (draft : DraftOf S) (called : PlacedName) (ts : Items)
    → indexed_table (draft_map h draft) called ts ≡ mapped same (indexed_table draft called ts)
unfolding indexed_table table_number table_named table_in_schema
indexed_table-same h draft called ts =
    then-same same (expect (i.Keyword k.On) ts) _ _ (λ a ts2.
    then-same same (eat (i.Keyword k.Only) ts2) _ _ (λ b ts3.
    then-same same (table_number draft ts3) _ _ (λ number ts4.
    then-same same (with_rest (check_new_index draft.tables number called) ts4) _ _ (λ n ts5. refl))))

pub create_index-carried : {S T : Type 0} (h : S → T) (draft : DraftOf S) (ts : Items)
    → create_index (draft_map h draft) ts ≡ mapped (draft_map h) (create_index draft ts)
unfolding create_index
create_index-carried h draft ts =
    then-same (draft_map h) (expect (i.Keyword k.Index) ts) _ _ (λ a ts2.
    then-same (draft_map h) (name ts2) _ _ (λ called ts3.
    then-carried same (draft_map h) (indexed_table draft called ts3) (indexed_table (draft_map h draft) called ts3) _
    _ (indexed_table-same h draft called ts3) (λ number ts4.
    then-same (draft_map h) (index_body (columns_at draft.tables number) ts4) _ _ (λ columns ts5. refl))))

-- ---- subscriptions

subscribed-same : {S T : Type 0} (h : S → T) (draft : DraftOf S) (numbers : List ℕ) (called : PlacedName)
    → subscribed (draft_map h draft) numbers called ≡ subscribed draft numbers called
unfolding subscribed
subscribed-same h draft numbers called =
    ap (once numbers called) (find_publication-same h called.text draft.publications)

one_publication-same : {S T : Type 0} (h : S → T) (draft : DraftOf S) (numbers : List ℕ) (ts : Items)
    → one_publication (draft_map h draft) numbers ts ≡ mapped same (one_publication draft numbers ts)
unfolding one_publication
one_publication-same h draft numbers ts =
    then-same same (name ts) _ _ (λ called ts2. rw (subscribed-same h draft numbers called)
    (then-same same (with_rest (subscribed draft numbers called) ts2) _ _ (λ n ts3. refl)))

publication_list-same : {S T : Type 0} (h : S → T) (draft : DraftOf S) (ts : Items)
    → publication_list (draft_map h draft) ts ≡ mapped same (publication_list draft ts)
unfolding publication_list
publication_list-same h draft ts =
    then-carried same same (one_publication draft [] ts) (one_publication (draft_map h draft) [] ts) _ _
    (one_publication-same h draft [] ts)
    (repeat-carried same (link i.Comma (one_publication draft)) (link i.Comma (one_publication (draft_map h draft)))
    (link-carried same i.Comma (one_publication draft) (one_publication (draft_map h draft))
    (one_publication-same h draft)))

subscription_body-same : {S T : Type 0} (h : S → T) (draft : DraftOf S) (ts : Items)
    → subscription_body (draft_map h draft) ts ≡ mapped same (subscription_body draft ts)
unfolding subscription_body
subscription_body-same h draft ts =
    then-same same (expect (i.Keyword k.Connection) ts) _ _ (λ a ts2.
    then-same same (expect i.Text ts2) _ _ (λ b ts3.
    then-same same (expect (i.Keyword k.Publication) ts3) _ _ (λ c ts4.
    then-carried same same (publication_list draft ts4) (publication_list (draft_map h draft) ts4) _ _
    (publication_list-same h draft ts4) (λ numbers ts5.
    then-same same (subscription_tail ts5) _ _ (λ d ts6. refl)))))

subscription_name-same : {S T : Type 0} (h : S → T) (draft : DraftOf S) (ts : Items)
    → new_subscription_name (draft_map h draft) ts ≡ mapped same (new_subscription_name draft ts)
unfolding new_subscription_name check_new_subscription
subscription_name-same h draft ts =
    then-same same (name ts) _ _
    (λ called ts2. then-same same (with_rest (check_new_subscription draft called) ts2) _ _ (λ n ts3. refl))

pub create_subscription-carried : {S T : Type 0} (h : S → T) (draft : DraftOf S) (ts : Items)
    → create_subscription (draft_map h draft) ts ≡ mapped (draft_map h) (create_subscription draft ts)
unfolding create_subscription
create_subscription-carried h draft ts =
    then-carried same (draft_map h) (new_subscription_name draft ts) (new_subscription_name (draft_map h draft) ts) _ _
    (subscription_name-same h draft ts) (λ called ts2.
    then-carried same (draft_map h) (subscription_body draft ts2) (subscription_body (draft_map h draft) ts2) _ _
    (subscription_body-same h draft ts2) (λ numbers ts3. refl))

-- ---- filters

filter_on-carried : {S T : Type 0} (from : S → Expr) (to : T → Expr) (h : S → T) → ((s : S) → to (h s) ≡ from s)
    → (number : ℕ) (entry : EntryOf S) → filter_on to number (entry_map h entry) ≡ filter_on from number entry
filter_on-carried from to h alike number entry =
    ap (λ fs. if entry.table == number then fs else []) (trees entry.filter)
  where
    trees : (filter : Option _)
        → option_to_list (option_map to (option_map h filter)) ≡ option_to_list (option_map from filter)
    trees None = refl
    trees (Some s) = ap (λ f. f ∷ []) (alike s)

pub filters_in-carried : {S T : Type 0} (from : S → Expr) (to : T → Expr) (h : S → T) → ((s : S) → to (h s) ≡ from s)
    → (number : ℕ) (entries : List (EntryOf S))
    → filters_in to number (map (entry_map h) entries) ≡ filters_in from number entries
filters_in-carried from to h alike number [] = refl
filters_in-carried from to h alike number (entry ∷ entries) =
    ap (λ fs. fs ++ filters_in to number (map (entry_map h) entries)) (filter_on-carried from to h alike number entry)
    ∙ ap (λ fs. filter_on from number entry ++ fs) (filters_in-carried from to h alike number entries)

pub filters_on-carried : {S T : Type 0} (from : S → Expr) (to : T → Expr) (h : S → T) → ((s : S) → to (h s) ≡ from s)
    → (number : ℕ) (ps : List (DraftPublicationOf S))
    → filters_on to number (map (draft_publication_map h) ps) ≡ filters_on from number ps
filters_on-carried from to h alike number [] = refl
filters_on-carried from to h alike number (p ∷ ps) =
    ap (λ fs. fs ++ filters_on to number (map (draft_publication_map h) ps))
    (filters_in-carried from to h alike number p.coverage.entries)
    ∙ ap (λ fs. filters_in from number p.coverage.entries ++ fs) (filters_on-carried from to h alike number ps)

-- ---- what one more object adds

abbrev pub verdict_map : {S T : Type 0} → (S → T) → Verdict S → Verdict T
verdict_map h (Ok s) = Ok (h s)
verdict_map h (Err fault) = Err fault

pub checked-mapped : {S T : Type 0} (h : S → T) (verdict : Verdict S) (ts : Items)
    → with_rest (verdict_map h verdict) ts ≡ mapped h (with_rest verdict ts)
checked-mapped h (Ok s) ts = refl
checked-mapped h (Err fault) ts = refl

is_some-same : {S T : Type 0} (h : S → T) (filter : Option S) → is_some (option_map h filter) ≡ is_some filter
is_some-same h None = refl
is_some-same h (Some s) = refl

is_filtered-same : {S T : Type 0} (h : S → T) (number : ℕ) (entries : List (EntryOf S))
    → list_any (is_filtered number) (map (entry_map h) entries) ≡ list_any (is_filtered number) entries
is_filtered-same h number [] = refl
is_filtered-same h number (entry ∷ entries) = rw (is_some-same h entry.filter, is_filtered-same h number entries) refl

is_of-same : {S T : Type 0} (h : S → T) (number : ℕ) (entries : List (EntryOf S))
    → list_any (is_entry_of number) (map (entry_map h) entries) ≡ list_any (is_entry_of number) entries
is_of-same h number [] = refl
is_of-same h number (entry ∷ entries) = rw (is_of-same h number entries) refl

pub table_mentioned-carried : {S T : Type 0} (h : S → T) (coverage : CoverageOf S) (place : ℕ) (entry : EntryOf S) →
    table_mentioned (coverage_map h coverage) place (entry_map h entry)
    ≡ verdict_map (coverage_map h) (table_mentioned coverage place entry)
unfolding table_mentioned
table_mentioned-carried {S} {T} h coverage place entry =
    let made : List (EntryOf T) → Verdict (CoverageOf T) =
    λ entries. Ok (record { entries = entries; schemas = coverage.schemas; everything = coverage.everything }) in
    rw (
      is_of-same h entry.table coverage.entries,
      is_filtered-same h entry.table coverage.entries,
      is_some-same h entry.filter,
    )
    (by_test (list_any (is_entry_of entry.table) coverage.entries)
    (λ e. rw e (by_test (is_some entry.filter || list_any (is_filtered entry.table) coverage.entries) (λ f. rw f refl)
    (λ f. rw f refl)))
    (λ e. rw e (ap made (sym (map-append (entry_map h) coverage.entries (entry ∷ []))))))

schema_by-carried : {S T : Type 0} (h : S → T) (coverage : CoverageOf S) (called : PlacedName) (found : Option ℕ)
    → schema_by (coverage_map h coverage) called found
    ≡ verdict_map (coverage_map h) (schema_by coverage called found)
schema_by-carried h coverage called None = refl
schema_by-carried h coverage called (Some number) = refl

schema_mentioned-carried : {S T : Type 0} (h : S → T) (draft : DraftOf S) (coverage : CoverageOf S)
    (called : PlacedName) →
    schema_mentioned (draft_map h draft) (coverage_map h coverage) called
    ≡ verdict_map (coverage_map h) (schema_mentioned draft coverage called)
unfolding schema_mentioned
schema_mentioned-carried h draft coverage called =
    schema_by-carried h coverage called (find_schema called.text draft.schemas)

-- ---- schemas of a publication

abbrev pub objects_map : {S T : Type 0} → (S → T) → ObjectsOf S → ObjectsOf T
objects_map h objects = record { kind = objects.kind; coverage = coverage_map h objects.coverage }

pub taken_schema-carried : {S T : Type 0} (h : S → T) (draft : DraftOf S) (coverage : CoverageOf S)
    (called : PlacedName) (ts : Items) →
    taken_schema (draft_map h draft) (coverage_map h coverage) called ts
    ≡ mapped (objects_map h) (taken_schema draft coverage called ts)
unfolding taken_schema
taken_schema-carried h draft coverage called ts =
    then-carried (coverage_map h) (objects_map h) (with_rest (schema_mentioned draft coverage called) ts)
    (with_rest (schema_mentioned (draft_map h draft) (coverage_map h coverage) called) ts) _ _
    (ap (λ v. with_rest v ts) (schema_mentioned-carried h draft coverage called)
    ∙ checked-mapped (coverage_map h) (schema_mentioned draft coverage called) ts) (λ covered ts2. refl)

named_schema-carried : {S T : Type 0} (h : S → T) (draft : DraftOf S) (coverage : CoverageOf S) (ts : Items) →
    named_schema (draft_map h draft) (coverage_map h coverage) ts
    ≡ mapped (objects_map h) (named_schema draft coverage ts)
unfolding named_schema taken_schema
named_schema-carried h draft coverage ts =
    then-same (objects_map h) (name ts) _ _ (λ called ts2. taken_schema-carried h draft coverage called ts2)

current_schema-carried : {S T : Type 0} (h : S → T) (coverage : CoverageOf S) (ts : Items)
    → current_schema (coverage_map h coverage) ts ≡ mapped (objects_map h) (current_schema coverage ts)
unfolding current_schema
current_schema-carried h coverage ts =
    then-same (objects_map h) (expect (i.Keyword k.CurrentSchema) ts) _ _ (λ a ts2. refl)

schema_object_by-carried : {S T : Type 0} (h : S → T) (item : Option Item) (draft : DraftOf S)
    (coverage : CoverageOf S) (ts : Items) →
    schema_object_by item (draft_map h draft) (coverage_map h coverage) ts
    ≡ mapped (objects_map h) (schema_object_by item draft coverage ts)
schema_object_by-carried h (Some (i.Keyword k.CurrentSchema)) draft coverage ts = current_schema-carried h coverage ts
schema_object_by-carried h _ draft coverage ts = named_schema-carried h draft coverage ts

pub schema_object-carried : {S T : Type 0} (h : S → T) (draft : DraftOf S) (coverage : CoverageOf S) (ts : Items) →
    schema_object (draft_map h draft) (coverage_map h coverage) ts
    ≡ mapped (objects_map h) (schema_object draft coverage ts)
unfolding schema_object
schema_object-carried h draft coverage ts = schema_object_by-carried h (item_ahead ts) draft coverage ts

pub in_schema-carried : {S T : Type 0} (h : S → T) (draft : DraftOf S) (coverage : CoverageOf S) (ts : Items) →
    in_schema (draft_map h draft) (coverage_map h coverage) ts ≡ mapped (objects_map h) (in_schema draft coverage ts)
unfolding in_schema
in_schema-carried h draft coverage ts =
    then-same (objects_map h) (expect (i.Keyword k.In) ts) _ _
    (λ a ts2. then-same (objects_map h) (expect (i.Keyword k.Schema) ts2) _ _
    (λ b ts3. schema_object-carried h draft coverage ts3))
