-- While a catalog is read, an identity by an index names an index of the table, publications have different names, and
-- a subscription names publications that exist.
use Rattle.std.proofs.Common.{◌≡◌, ℕ, zero, suc, ◌<◌, ◌≤◌, Bool, true, false, ◌==◌, List, [], ◌∷◌, ◌++◌, All, length, map, refl, sym, subst, ◌∙◌, arith}
use Rattle.std.specs.Prelude.{if◌then◌else◌, Option, Some, None, Ok, Err, slice_get}
use Rattle.std.specs.List.{IsDistinct, list_any}
use Rattle.std.specs.Str.{bytes_eq}
use Rattle.std.proofs.lemmas.List.{length_push, map-append}
use Rattle.std.proofs.lemmas.List.Elements.{All-nil, All-cons, All-head, All-tail, All-push}
use Rattle.std.proofs.lemmas.List.Quantifiers.{position-Some}
use Rattle.std.proofs.lemmas.Map.Keys.{IsDistinct-push}
use Rattle.filter_tree.specs.declared.table.Column.{Column}
use Rattle.filter_tree.specs.declared.table.Identity.{Identity}
use Rattle.filter_tree.specs.declared.table.Identity.TheVariants.{Default, Index, Full, Nothing}
use Rattle.filter_tree.specs.declared.table.Table.{Table}
use Rattle.filter_tree.specs.declared.table.UniqueIndex.{UniqueIndex}
use Rattle.sql_reader.specs.declared.error.Limit.{Limit}
use Rattle.sql_reader.specs.declared.item.Item.{Item}
use Rattle.sql_reader.specs.declared.item.Item.TheVariants as i
use Rattle.sql_reader.specs.declared.name.PlacedName.{PlacedName}
use Rattle.sql_reader.specs.declared.word.Keyword.TheVariants as k
use Rattle.sql_reader.specs.Expressions.{Forms}
use Rattle.sql_reader.specs.Names.{name}
use Rattle.sql_reader.specs.Reading.{Fault, check, advance, eat, expect, more_ahead}
use Rattle.pub_catalog.specs.CatalogLimits.{IsIdentity}
use Rattle.pub_catalog.specs.Catalogs.{columns_at, indexes_at, identified, indexed}
use Rattle.pub_catalog.specs.IndexIdentities.{identifies}
use Rattle.pub_catalog.specs.declared.catalog.Subscription.{Subscription}
use Rattle.pub_reader.specs.Drafts.{DraftPublicationOf, DraftOf, no_draft, with_name, find_publication}
use Rattle.pub_reader.specs.Identities.{alter_table}
use Rattle.pub_reader.specs.Indexes.{index_body, indexed_table, create_index}
use Rattle.pub_reader.specs.Publications.{check_new_publication, new_publication_name, for_clause, published, with_publication, create_publication}
use Rattle.pub_reader.specs.Publishing.{parameters_clause}
use Rattle.pub_reader.specs.Schemas.{fresh, check_new_schema, create_schema}
use Rattle.pub_reader.specs.Statements.{created_by, created, create, statement_by, statement, ended_statement, statements}
use Rattle.pub_reader.specs.Subscriptions.{new_subscription_name, once, subscribed, one_publication, publication_list, subscription_tail, subscription_body, create_subscription}
use Rattle.pub_reader.specs.TableNames.{table_number, new_name}
use Rattle.pub_reader.specs.Tables.{new_table, table_body, create_table}
use Rattle.pub_reader.proofs.KeptIndexes.{replica_identity-gives}
use Rattle.pub_reader.proofs.OwnNames.{same_bytes}
use Rattle.pub_reader.proofs.Positions.{position-none, list_any-map}
use Rattle.catalog_laws.proofs.PublicationTexts.{TakesFirst}
use Rattle.catalog_laws.proofs.Making.{Makes, Says, then-makes, any-makes, pure-makes, check-makes, refuse-makes, by_item-makes, list-makes, each-makes}

abbrev HasIdentity : Table → Type 0
HasIdentity table = IsIdentity table.columns table.indexes table.identity

pub record Kept {S : Type 0} (draft : DraftOf S) : Type 0 where
  pub identities : All HasIdentity draft.tables
  pub named : IsDistinct bytes_eq (map (λ p. p.name) draft.publications)
  pub taken : All (TakesFirst (length draft.publications)) draft.subscriptions

-- ---- identities

identified-kept : (tables : List Table) (number : ℕ) (identity : Identity) → All HasIdentity tables
    → IsIdentity (columns_at tables number) (indexes_at tables number) identity
    → All HasIdentity (identified tables number identity)
identified-kept [] number identity h is = h
identified-kept (table ∷ tables) zero identity h is =
    All-cons HasIdentity (record table { identity = identity }) tables is (All-tail HasIdentity table tables h)
identified-kept (table ∷ tables) (suc number) identity h is =
    All-cons HasIdentity table (identified tables number identity) (All-head HasIdentity table tables h)
    (identified-kept tables number identity (All-tail HasIdentity table tables h) is)

-- one more index changes none of those before it
still_identifies : (columns : List Column) (indexes : List UniqueIndex) (index : UniqueIndex) (number : ℕ)
    → identifies columns (slice_get indexes number) ≡ true
    → identifies columns (slice_get (indexes ++ index ∷ []) number) ≡ true
still_identifies columns [] index number is = absurd cc
still_identifies columns (first ∷ indexes) index zero is = is
still_identifies columns (first ∷ indexes) index (suc number) is = still_identifies columns indexes index number is

still_identity : (columns : List Column) (indexes : List UniqueIndex) (index : UniqueIndex) (identity : Identity)
    → IsIdentity columns indexes identity → IsIdentity columns (indexes ++ index ∷ []) identity
still_identity columns indexes index (Index number) is = still_identifies columns indexes index number is
still_identity columns indexes index Default is = tt
still_identity columns indexes index Full is = tt
still_identity columns indexes index Nothing is = tt

indexed-kept : (tables : List Table) (number : ℕ) (index : UniqueIndex) → All HasIdentity tables
    → All HasIdentity (indexed tables number index)
indexed-kept [] number index h = h
indexed-kept (table ∷ tables) zero index h =
    All-cons HasIdentity (record table { indexes = table.indexes ++ index ∷ [] }) tables
    (still_identity table.columns table.indexes index table.identity (All-head HasIdentity table tables h))
    (All-tail HasIdentity table tables h)
indexed-kept (table ∷ tables) (suc number) index h =
    All-cons HasIdentity table (indexed tables number index) (All-head HasIdentity table tables h)
    (indexed-kept tables number index (All-tail HasIdentity table tables h))

-- ---- publications and subscriptions

fresh-says : (called : PlacedName) (found : Option ℕ) (is_full : Bool) (limit : Limit)
    → Says (λ (u : Unit {0}). found ≡ None) (fresh called found is_full limit)
fresh-says called None true limit = tt
fresh-says called None false limit = refl
fresh-says called (Some number) is_full limit = tt

once-says : (count : ℕ) (numbers : List ℕ) (called : PlacedName) (found : Option ℕ)
    → ((number : ℕ) → found ≡ Some number → number < count)
    → Says (λ number. number < count) (once numbers called found)
once-says count numbers called None within = tt
once-says count numbers called (Some number) within =
    by_test _ (list_any (λ n. n == number) numbers) (within number refl)
  where
    by_test : (fault : Fault) (is : Bool) → number < count
        → Says (λ n. n < count) (if is then Err fault else Ok number)
    by_test fault true low = tt
    by_test fault false low = low

module _ {S : Type 0} where
  abbrev HaveOwn : List (DraftPublicationOf S) → Type 0
  HaveOwn publications = IsDistinct bytes_eq (map (λ (p : DraftPublicationOf S). p.name) publications)

  abbrev AreFirst : DraftOf S → List ℕ → Type 0
  AreFirst draft numbers = All (λ number. number < length draft.publications) numbers

  abbrev IsNew : DraftOf S → PlacedName → Type 0
  IsNew draft called = find_publication called.text draft.publications ≡ None

  new_publication_name-makes : (draft : DraftOf S) → Makes (IsNew draft) (new_publication_name draft)
  unfolding new_publication_name check_new_publication
  new_publication_name-makes draft =
      any-makes name (λ called.
      then-makes (check-makes (check_new_publication draft called) (fresh-says called _ _ _))
      (λ u free. pure-makes called free))

  subscribed-says : (draft : DraftOf S) (numbers : List ℕ) (called : PlacedName)
      → Says (λ number. number < length draft.publications) (subscribed draft numbers called)
  unfolding subscribed
  subscribed-says draft numbers called =
      once-says (length draft.publications) numbers called (find_publication called.text draft.publications)
      (λ number found. below draft.publications number found)
    where
      below : (publications : List (DraftPublicationOf S)) (number : ℕ)
          → find_publication called.text publications ≡ Some number → number < length publications
      below [] number found = absurd cc
      below (publication ∷ publications) number found =
          (position-Some (λ p. bytes_eq called.text p.name) (publication ∷ publications) number publication found).0

  one_publication-makes : (draft : DraftOf S) (numbers : List ℕ) → AreFirst draft numbers
      → Makes (AreFirst draft) (one_publication draft numbers)
  unfolding one_publication
  one_publication-makes draft numbers h =
      any-makes name (λ called.
      then-makes (check-makes (subscribed draft numbers called) (subscribed-says draft numbers called))
      (λ number low.
      pure-makes (numbers ++ number ∷ []) (All-push (λ n. n < length draft.publications) numbers number h low)))

  subscription_body-makes : (draft : DraftOf S) → Makes (AreFirst draft) (subscription_body draft)
  unfolding subscription_body publication_list
  subscription_body-makes draft =
      any-makes (expect (i.Keyword k.Connection)) (λ a.
      any-makes (expect i.Text) (λ b.
      any-makes (expect (i.Keyword k.Publication)) (λ c.
      then-makes (then-makes (one_publication-makes draft [] (All-nil (λ n. n < length draft.publications)))
      (list-makes i.Comma (one_publication draft) (one_publication-makes draft)))
      (λ numbers first. any-makes subscription_tail (λ d. pure-makes numbers first)))))

  -- ---- statements

  create_schema-makes : (draft : DraftOf S) → Kept draft → Makes Kept (create_schema draft)
  unfolding create_schema
  create_schema-makes draft h =
      any-makes name (λ called.
      any-makes (check (check_new_schema draft.schemas called)) (λ n.
      pure-makes (record draft { schemas = with_name draft.schemas called.text })
      (record { identities = h.identities; named = h.named; taken = h.taken })))

  create_table-makes : (draft : DraftOf S) → Kept draft → Makes Kept (create_table draft)
  unfolding create_table
  create_table-makes draft h =
      any-makes (new_name draft) (λ called.
      any-makes (table_body called.name) (λ parts.
      pure-makes (record draft { tables = draft.tables ++ new_table called parts ∷ [] }) (record {
        identities = All-push HasIdentity draft.tables (new_table called parts) h.identities tt;
        named = h.named;
        taken = h.taken;
      })))

  create_index-makes : (draft : DraftOf S) → Kept draft → Makes Kept (create_index draft)
  unfolding create_index
  create_index-makes draft h =
      any-makes (expect (i.Keyword k.Index)) (λ a.
      any-makes name (λ called.
      any-makes (indexed_table draft called) (λ number.
      any-makes (index_body (columns_at draft.tables number)) (λ columns.
      let index : UniqueIndex = record { name = called.text; columns = columns } in
      pure-makes (record draft { tables = indexed draft.tables number index }) (record {
        identities = indexed-kept draft.tables number index h.identities;
        named = h.named;
        taken = h.taken;
      })))))

  alter_table-makes : (draft : DraftOf S) → Kept draft → Makes Kept (alter_table draft)
  unfolding alter_table
  alter_table-makes draft h =
      any-makes (expect (i.Keyword k.Alter)) (λ a.
      any-makes (expect (i.Keyword k.Table)) (λ b.
      any-makes (eat (i.Keyword k.Only)) (λ c.
      any-makes (table_number draft) (λ number.
      then-makes {Q = IsIdentity (columns_at draft.tables number) (indexes_at draft.tables number)}
      (record { gives = replica_identity-gives (columns_at draft.tables number) (indexes_at draft.tables number) })
      (λ recorded is.
      pure-makes (record draft { tables = identified draft.tables number recorded }) (record {
        identities = identified-kept draft.tables number recorded h.identities is;
        named = h.named;
        taken = h.taken;
      }))))))

  create_publication-makes : (forms : Forms S) (draft : DraftOf S) → Kept draft
      → Makes Kept (create_publication forms draft)
  unfolding create_publication
  create_publication-makes forms draft h =
      then-makes (new_publication_name-makes draft) (λ called free.
      any-makes (for_clause forms draft) (λ coverage.
      any-makes parameters_clause (λ given.
      let one : DraftPublicationOf S =
      record { name = called.text; publishes = published given.publishes; coverage = coverage } in
      pure-makes (with_publication draft called coverage given) (record {
        identities = h.identities;
        named = more_named draft.publications one h.named free;
        taken = more_taken draft.subscriptions (length draft.publications) (length (draft.publications ++ one ∷ []))
            (omega (arith, length_push draft.publications one)) h.taken;
      }))))
    where
      more_named : (publications : List (DraftPublicationOf S)) (one : DraftPublicationOf S) → HaveOwn publications
          → find_publication one.name publications ≡ None → HaveOwn (publications ++ one ∷ [])
      more_named publications one own free =
          let name : DraftPublicationOf S → List ℕ = λ p. p.name in
          let none : list_any (bytes_eq one.name) (map name publications) ≡ false =
          list_any-map (bytes_eq one.name) name publications
          ∙ position-none (λ p. bytes_eq one.name p.name) publications free in
          subst (IsDistinct bytes_eq) (sym (map-append name publications (one ∷ [])))
          (IsDistinct-push same_bytes (map name publications) one.name own none)

      more_taken : (subscriptions : List Subscription) (count more : ℕ) → count ≤ more
          → All (TakesFirst count) subscriptions → All (TakesFirst more) subscriptions
      more_taken subscriptions count more le all = λ n d low m e below. omega (arith, all n d low m e below, le)

  create_subscription-makes : (draft : DraftOf S) → Kept draft → Makes Kept (create_subscription draft)
  unfolding create_subscription
  create_subscription-makes draft h =
      any-makes (new_subscription_name draft) (λ called.
      then-makes (subscription_body-makes draft) (λ numbers first.
      let one : Subscription = record { name = called.text; publications = numbers } in
      pure-makes (record draft { subscriptions = draft.subscriptions ++ one ∷ [] }) (record {
        identities = h.identities;
        named = h.named;
        taken = All-push (TakesFirst (length draft.publications)) draft.subscriptions one h.taken first;
      })))

  none_kept : Kept {S = S} no_draft
  unfolding IsDistinct
  none_kept = record { identities = All-nil HasIdentity; named = tt; taken = All-nil (TakesFirst 0) }

  module _ (forms : Forms S) where
    created-makes : (draft : DraftOf S) → Kept draft → Makes Kept (created forms draft)
    unfolding created
    created-makes draft h = by_item-makes {rule = λ item. created_by forms item draft} by_item
      where
        by_item : (item : Option Item) → Makes Kept (created_by forms item draft)
        by_item (Some (i.Keyword k.Table)) = any-makes advance (λ u. create_table-makes draft h)
        by_item (Some (i.Keyword k.Publication)) = any-makes advance (λ u. create_publication-makes forms draft h)
        by_item (Some (i.Keyword k.Schema)) = any-makes advance (λ u. create_schema-makes draft h)
        by_item (Some (i.Keyword k.Subscription)) = any-makes advance (λ u. create_subscription-makes draft h)
        by_item (Some (i.Keyword k.Unique)) = any-makes advance (λ u. create_index-makes draft h)
        by_item _ = refuse-makes

    create-makes : (draft : DraftOf S) → Kept draft → Makes Kept (create forms draft)
    unfolding create
    create-makes draft h = any-makes (expect (i.Keyword k.Create)) (λ a. created-makes draft h)

    statement-makes : (draft : DraftOf S) → Kept draft → Makes Kept (statement forms draft)
    unfolding statement
    statement-makes draft h = by_item-makes {rule = λ item. statement_by forms item draft} by_item
      where
        by_item : (item : Option Item) → Makes Kept (statement_by forms item draft)
        by_item (Some (i.Keyword k.Create)) = create-makes draft h
        by_item (Some (i.Keyword k.Alter)) = alter_table-makes draft h
        by_item (Some i.Semicolon) = pure-makes draft h
        by_item _ = refuse-makes

    ended_statement-makes : (draft : DraftOf S) → Kept draft → Makes Kept (ended_statement forms draft)
    unfolding ended_statement
    ended_statement-makes draft h =
        then-makes (statement-makes draft h) (λ made m. any-makes (expect i.Semicolon) (λ a. pure-makes made m))

    pub statements-make : Makes Kept (statements forms no_draft)
    unfolding statements
    statements-make = each-makes more_ahead (ended_statement forms) ended_statement-makes no_draft none_kept
