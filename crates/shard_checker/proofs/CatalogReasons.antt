-- What a refusal of a catalog says is true: an operation that is not published, a row that is not distinguished from
-- others, or a column that is not covered.
use Rattle.std.proofs.Common.{◌≡◌, ℕ, zero, suc, ◌+◌, ◌<◌, Bool, true, false, List, [], ◌∷◌, All, length, refl, sym, ◌∙◌, ap, subst, inl, inr, arith}
use Rattle.std.specs.Prelude.{Option, Some, None, if◌then◌else◌, ◌⊎◌, Contains, slice_get}
use Rattle.std.proofs.lemmas.List.Elements.{All-head, All-tail}
use Rattle.filter_tree.specs.Expr.{Expr}
use Rattle.filter_tree.specs.Lists.{distinct_columns, NamesWithin}
use Rattle.filter_tree.proofs.DistinctLemmas.{distinct_within}
use Rattle.filter_tree.specs.declared.table.Table.{Table}
use Rattle.pub_catalog.specs.CatalogEntries.{FilterNamesWithin, IsKnownEntry, CarriesKnown}
use Rattle.pub_catalog.specs.Catalogs.{PublicationOf, EntryOf, columns_at}
use Rattle.pub_catalog.specs.declared.catalog.Operations.{Operations}
use Rattle.pub_catalog.specs.declared.catalog.Subscription.{Subscription}
use Rattle.replica_identity.specs.Identities.{is_covered, tells_rows_apart}
use Rattle.shard_checker.specs.CatalogRefusal.{missing_operation, missing_by, publication_refusal, publishing_refusal, table_refusal, identity_refusal, column_refusal, carried_refusal, entry_refusal, entries_refusal, taken_refusal, covering_refusal}
use Rattle.shard_checker.specs.CatalogTruth.{has_operation, NamesUncovered}
use Rattle.shard_checker.specs.Refusal.{later, earliest}
use Rattle.shard_checker.specs.Sound.{is_taken}
use Rattle.shard_checker.specs.declared.error.CheckError.{CheckError}
use Rattle.shard_checker.specs.declared.error.CheckError.TheVariants.{PublishMissing, NoIdentity, NotCovered}
use Rattle.shard_checker.specs.declared.error.Operation.{Operation}
use Rattle.shard_checker.specs.declared.error.Operation.TheVariants.{Insert, Update, Delete, Truncate}
use Rattle.shard_checker.proofs.TruthLemmas.{same_some, failed}
use Rattle.table_changes.proofs.TableLemmas.{at_zero, at_next}

-- to what one of two refusals leads
pub by_first : {P : Type 0} (one next : Option CheckError) (error : CheckError) → earliest one next ≡ Some error
    → (one ≡ Some error → P) → (next ≡ Some error → P) → P
by_first None next error h at_one at_next = at_next h
by_first (Some one) next error h at_one at_next = at_one h

-- a refusal that holds under a test
under_test : (b : Bool) (refusal : Option CheckError) (error : CheckError)
    → (if b then refusal else None) ≡ Some error → (b ≡ true) × (refusal ≡ Some error)
under_test true refusal error h = (refl, h)
under_test false refusal error h = absurd cc

contains_first : {X : Type 0} (xs : List X) (x : X) → Contains (x ∷ xs) x
contains_first xs x = (0, omega arith, refl)

contains_later : {X : Type 0} (xs : List X) (first x : X) → Contains xs x → Contains (first ∷ xs) x
contains_later xs first x h = (suc h.0, omega (arith, h.1), h.2)

-- ---- what is published

missing_in : (insert update delete truncate : Bool) (operation : Operation)
    → (if insert then (if update then
    (if delete then (if truncate then None else Some Truncate) else Some Delete) else Some Update)
    else Some Insert) ≡ Some operation
    → ((operation ≡ Insert) × (insert ≡ false)) ⊎
    (((operation ≡ Update) × (update ≡ false)) ⊎
    (((operation ≡ Delete) × (delete ≡ false)) ⊎ ((operation ≡ Truncate) × (truncate ≡ false))))
missing_in true true true true operation h = absurd cc
missing_in true true true false operation h = inr (inr (inr (cc, refl)))
missing_in true true false truncate operation h = inr (inr (inl (cc, refl)))
missing_in true false delete truncate operation h = inr (inl (cc, refl))
missing_in false update delete truncate operation h = inl (cc, refl)

missing_named : (publishes : Operations) (operation : Operation)
    → ((operation ≡ Insert) × (publishes.insert ≡ false)) ⊎ (((operation ≡ Update) × (publishes.update ≡ false))
    ⊎ (((operation ≡ Delete) × (publishes.delete ≡ false)) ⊎ ((operation ≡ Truncate) × (publishes.truncate ≡ false))))
    → has_operation publishes operation ≡ false
missing_named publishes operation (inl h) = ap (has_operation publishes) h.0 ∙ h.1
missing_named publishes operation (inr (inl h)) = ap (has_operation publishes) h.0 ∙ h.1
missing_named publishes operation (inr (inr (inl h))) = ap (has_operation publishes) h.0 ∙ h.1
missing_named publishes operation (inr (inr (inr h))) = ap (has_operation publishes) h.0 ∙ h.1

missing_is : (publishes : Operations) (operation : Operation) → missing_operation publishes ≡ Some operation
    → has_operation publishes operation ≡ false
missing_is publishes operation h =
    missing_named publishes operation
    (missing_in publishes.insert publishes.update publishes.delete publishes.truncate operation h)

-- a publication of a list; the first of the list has this number
pub record IsUnpublished (subscriptions : List Subscription) (number : ℕ) (publications : List (PublicationOf Expr))
    (error : CheckError) : Type 0 where
  pub place : ℕ
  pub operation : Operation
  pub is : error ≡ PublishMissing (number + place) operation
  pub publication : PublicationOf Expr
  pub there : slice_get publications place ≡ Some publication
  pub taken : is_taken subscriptions (number + place) ≡ true
  pub missing : has_operation publication.publishes operation ≡ false

first_unpublished : (subscriptions : List Subscription) (number : ℕ) (publication : PublicationOf Expr)
    (publications : List (PublicationOf Expr)) (error : CheckError) (found : Option Operation)
    → missing_operation publication.publishes ≡ found → is_taken subscriptions number ≡ true
    → missing_by number found ≡ Some error
    → IsUnpublished subscriptions number (publication ∷ publications) error
first_unpublished subscriptions number publication publications error None e taken h = absurd cc
first_unpublished subscriptions number publication publications error (Some operation) e taken h = record {
  place = 0;
  operation = operation;
  is = same_some (PublishMissing number operation) error h
      ∙ ap (λ n. PublishMissing n operation) (sym (at_zero number));
  publication = publication;
  there = refl;
  taken = subst (λ n. is_taken subscriptions n ≡ true) (sym (at_zero number)) taken;
  missing = missing_is publication.publishes operation e;
}

pub unpublished : (subscriptions : List Subscription) (number : ℕ) (publications : List (PublicationOf Expr))
    (error : CheckError) → publishing_refusal subscriptions number publications ≡ Some error
    → IsUnpublished subscriptions number publications error
unpublished subscriptions number [] error h = absurd cc
unpublished subscriptions number (publication ∷ publications) error h =
    by_first (publication_refusal subscriptions number publication.publishes)
    (publishing_refusal subscriptions (number + 1) publications) error h
    (λ here. let both = under_test (is_taken subscriptions number)
    (missing_by number (missing_operation publication.publishes)) error here in
    first_unpublished subscriptions number publication publications error (missing_operation publication.publishes)
    refl both.0 both.1)
    (λ there. let rest = unpublished subscriptions (number + 1) publications error there in record {
      place = suc rest.place;
      operation = rest.operation;
      is = rest.is ∙ ap (λ n. PublishMissing n rest.operation) (sym (at_next number rest.place));
      publication = rest.publication;
      there = rest.there;
      taken = subst (λ n. is_taken subscriptions n ≡ true) (sym (at_next number rest.place)) rest.taken;
      missing = rest.missing;
    })

-- ---- what is recorded of old rows

pub record LacksIdentity (number : ℕ) (tables : List Table) (error : CheckError) : Type 0 where
  pub place : ℕ
  pub is : error ≡ NoIdentity (number + place)
  pub table : Table
  pub there : slice_get tables place ≡ Some table
  pub not_apart : tells_rows_apart table ≡ false

pub first_lacks_identity : (number : ℕ) (tables : List Table) (error : CheckError)
    → identity_refusal number tables ≡ Some error → LacksIdentity number tables error
first_lacks_identity number [] error h = absurd cc
first_lacks_identity number (table ∷ tables) error h =
    by_first (table_refusal number table) (identity_refusal (number + 1) tables) error h
    (λ here. let both = failed (tells_rows_apart table) (NoIdentity number) error here in
    record {
      place = 0;
      is = both.1 ∙ ap NoIdentity (sym (at_zero number));
      table = table;
      there = refl;
      not_apart =
          both.0;
    })
    (λ there. let rest = first_lacks_identity (number + 1) tables error there in
    record {
      place = suc rest.place;
      is = rest.is ∙ ap NoIdentity (sym (at_next number rest.place));
      table =
          rest.table;
      there = rest.there;
      not_apart = rest.not_apart;
    })

-- ---- which tables are carried, and which columns filters name

record IsUncovered (publication number : ℕ) (table : Table) (columns : List ℕ) (error : CheckError) : Type 0 where
  pub column : ℕ
  pub is : error ≡ NotCovered publication number column
  pub names : Contains columns column
  lacks : is_covered table column ≡ false

column_failed : (b : Bool) (rest : Option CheckError) (one error : CheckError)
    → (if b then rest else Some one) ≡ Some error → ((b ≡ false) × (error ≡ one)) ⊎ (rest ≡ Some error)
column_failed true rest one error h = inr h
column_failed false rest one error h = inl (refl, same_some one error h)

uncovered_from : (publication number : ℕ) (table : Table) (column : ℕ) (columns : List ℕ) (error : CheckError)
    → (column_refusal publication number table columns ≡ Some error
    → IsUncovered publication number table columns error)
    → ((is_covered table column ≡ false) × (error ≡ NotCovered publication number column)) ⊎
    (column_refusal publication number table columns ≡ Some error)
    → IsUncovered publication number table (column ∷ columns) error
uncovered_from publication number table column columns error later (inl h) =
    record { column = column; is = h.1; names = contains_first columns column; lacks = h.0 }
uncovered_from publication number table column columns error later (inr h) =
    let rest = later h in
    record {
      column = rest.column;
      is = rest.is;
      names =
          contains_later columns column rest.column rest.names;
      lacks = rest.lacks;
    }

uncovered : (publication number : ℕ) (table : Table) (columns : List ℕ) (error : CheckError)
    → column_refusal publication number table columns ≡ Some error
    → IsUncovered publication number table columns error
uncovered publication number table [] error h = absurd cc
uncovered publication number table (column ∷ columns) error h =
    uncovered_from publication number table column columns error
    (λ rest. uncovered publication number table columns error rest)
    (column_failed (is_covered table column) (column_refusal publication number table columns)
    (NotCovered publication number column) error h)

-- an entry has a filter that names a column that is not covered
pub record EntryIsWrong (tables : List Table) (publication : ℕ) (entry : EntryOf Expr) (error : CheckError) :
    Type 0 where
  pub column : ℕ
  pub is : error ≡ NotCovered publication entry.table column
  pub uncovered_by : NamesUncovered tables entry entry.table column

columns_found : (tables : List Table) (number : ℕ) (table : Table) → slice_get tables number ≡ Some table
    → columns_at tables number ≡ table.columns
columns_found [] number table there = absurd cc
columns_found (first ∷ tables) zero table there = let same : first ≡ table = cc in
    ap (λ (table : Table). table.columns) same
columns_found (first ∷ tables) (suc number) table there = columns_found tables number table there

-- a column that a known entry's filter names is one of its table's columns
named_within : (tables : List Table) (entry : EntryOf Expr) (table : Table) (filter : Expr) (column : ℕ)
    → IsKnownEntry tables entry → slice_get tables entry.table ≡ Some table
    → entry.filter ≡ Some filter → Contains (distinct_columns filter) column → column < length table.columns
named_within tables entry table filter column known there is names =
    let named : NamesWithin (length (columns_at tables entry.table)) filter =
    subst (FilterNamesWithin (length (columns_at tables entry.table))) is known.columns in
    distinct_within (length table.columns) filter column
    (subst (λ columns. NamesWithin (length columns) filter) (columns_found tables entry.table table there) named)
    names

entry_wrong : (tables : List Table) (publication : ℕ) (entry : EntryOf Expr) (error : CheckError)
    (found : Option Table) (filter : Option Expr)
    → IsKnownEntry tables entry → slice_get tables entry.table ≡ found → entry.filter ≡ filter
    → carried_refusal publication entry.table found filter ≡ Some error
    → EntryIsWrong tables publication entry error
entry_wrong tables publication entry error None filter known there e h = absurd cc
entry_wrong tables publication entry error (Some table) None known there e h = absurd cc
entry_wrong tables publication entry error (Some table) (Some filter) known there e h =
    let found = uncovered publication entry.table table (distinct_columns filter) error h in
    record {
      column = found.column;
      is = found.is;
      uncovered_by = record {
        of_table = refl;
        filter = filter;
        filters = e;
        names = found.names;
        table = table;
        there = there;
        lacks = found.lacks;
        within = named_within tables entry table filter found.column known there e found.names;
      };
    }

-- an entry of a list is wrong
pub record HasWrongEntry (tables : List Table) (publication : ℕ) (entries : List (EntryOf Expr)) (error : CheckError) :
    Type 0 where
  pub entry : EntryOf Expr
  pub has_entry : Contains entries entry
  pub wrong : EntryIsWrong tables publication entry error

entries_wrong : (tables : List Table) (publication : ℕ) (entries : List (EntryOf Expr)) (error : CheckError)
    → All (IsKnownEntry tables) entries
    → entries_refusal tables publication entries ≡ Some error → HasWrongEntry tables publication entries error
entries_wrong tables publication [] error known h = absurd cc
entries_wrong tables publication (entry ∷ entries) error known h =
    by_first (entry_refusal tables publication entry) (entries_refusal tables publication entries) error h
    (λ here. record {
      entry = entry;
      has_entry = contains_first entries entry;
      wrong = entry_wrong tables publication entry error (slice_get tables entry.table) entry.filter
          (All-head (IsKnownEntry tables) entry entries known) refl refl here;
    })
    (λ there. let rest = entries_wrong tables publication entries error
    (All-tail (IsKnownEntry tables) entry entries known) there in
    record {
      entry = rest.entry;
      has_entry = contains_later entries entry rest.entry rest.has_entry;
      wrong =
          rest.wrong;
    })

pub record HasWrongPublication (tables : List Table) (subscriptions : List Subscription) (number : ℕ)
    (publications : List (PublicationOf Expr)) (error : CheckError) : Type 0 where
  pub place : ℕ
  pub publication : PublicationOf Expr
  pub there : slice_get publications place ≡ Some publication
  pub taken : is_taken subscriptions (number + place) ≡ true
  pub wrong_entry : HasWrongEntry tables (number + place) publication.entries error

pub publications_wrong : (tables : List Table) (subscriptions : List Subscription) (number : ℕ)
    (publications : List (PublicationOf Expr)) (error : CheckError)
    → All (CarriesKnown tables) publications → covering_refusal tables subscriptions number publications ≡ Some error
    → HasWrongPublication tables subscriptions number publications error
publications_wrong tables subscriptions number [] error known h = absurd cc
publications_wrong tables subscriptions number (publication ∷ publications) error known h =
    by_first (taken_refusal tables subscriptions number publication.entries)
    (covering_refusal tables subscriptions (number + 1) publications) error h
    (λ here. let both = under_test (is_taken subscriptions number) (entries_refusal tables number publication.entries)
    error here in record {
      place = 0;
      publication = publication;
      there = refl;
      taken = subst (λ n. is_taken subscriptions n ≡ true) (sym (at_zero number)) both.0;
      wrong_entry = subst (λ n. HasWrongEntry tables n publication.entries error) (sym (at_zero number))
          (entries_wrong tables number publication.entries error
          (All-head (CarriesKnown tables) publication publications known) both.1);
    })
    (λ there. let rest = publications_wrong tables subscriptions (number + 1) publications error
    (All-tail (CarriesKnown tables) publication publications known) there in record {
      place = suc rest.place;
      publication = rest.publication;
      there = rest.there;
      taken = subst (λ n. is_taken subscriptions n ≡ true) (sym (at_next number rest.place)) rest.taken;
      wrong_entry = subst (λ n. HasWrongEntry tables n rest.publication.entries error)
          (sym (at_next number rest.place)) rest.wrong_entry;
    })
