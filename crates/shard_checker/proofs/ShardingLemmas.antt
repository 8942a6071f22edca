-- A sharding without a refusal is sound.
use Rattle.std.proofs.Common.{◌≡◌, ℕ, zero, suc, ◌+◌, ◌<◌, Bool, true, false, List, [], ◌∷◌, All, length, refl, sym, ◌∙◌, ap, subst, arith}
use Rattle.std.specs.Prelude.{Option, Some, None, IfSome, if◌then◌else◌, ◌==◌, slice_get}
use Rattle.std.specs.List.{list_any, list_all}
use Rattle.std.proofs.lemmas.List.Elements.{All-head, All-tail}
use Rattle.std.proofs.lemmas.Option.{slice_get_within}
use Rattle.filter_tree.specs.Datum.{Datum}
use Rattle.filter_tree.specs.Expr.{Expr}
use Rattle.filter_tree.specs.Lists.{distinct_columns}
use Rattle.filter_tree.specs.declared.table.Table.{Table}
use Rattle.pub_catalog.specs.CatalogEntries.{IsKnownEntry, CarriesKnown, AllCarryKnown}
use Rattle.pub_catalog.specs.Catalogs.{CatalogOf, PublicationOf, EntryOf}
use Rattle.pub_catalog.specs.declared.catalog.Operations.{Operations}
use Rattle.pub_catalog.specs.declared.catalog.Subscription.{Subscription}
use Rattle.replica_identity.specs.Identities.{is_covered, tells_rows_apart}
use Rattle.replica_identity.specs.Passes.{listed_by, carries, passes}
use Rattle.replica_identity.specs.Plans.{PlanOf, TakesWhatPasses, share_at, plan_of}
use Rattle.replica_identity.specs.Shares as s
use Rattle.replica_identity.proofs.PassingLemmas.{takes_what_passes}
use Rattle.split_cert.specs.Tree.{Tree}
use Rattle.shard_checker.specs.CatalogRefusal.{missing_operation, missing_by, publication_refusal, publishing_refusal, table_refusal, identity_refusal, column_refusal, carried_refusal, entry_refusal, entries_refusal, taken_refusal, covering_refusal, table_shares, certificates_refusal, count_refusal, catalog_refusal, sharding_refusal}
use Rattle.shard_checker.specs.Owners.{share_in, HasOneOwner}
use Rattle.shard_checker.specs.Refusal.{earliest, first_refusal}
use Rattle.shard_checker.specs.Rows.{IsTyped}
use Rattle.shard_checker.specs.Sound.{is_taken, RowHasOneOwner, PublishesChanges, is_covered_by, entry_is_covered, IsSound}
use Rattle.shard_checker.specs.Candidates.{is_empty}
use Rattle.shard_checker.specs.declared.error.CheckError.{CheckError}
use Rattle.shard_checker.specs.declared.error.CheckError.TheVariants.{NoIdentity, NotCovered, CertCount}
use Rattle.shard_checker.specs.declared.error.Operation.{Operation}
use Rattle.shard_checker.specs.declared.error.Operation.TheVariants.{Insert, Update, Delete, Truncate}
use Rattle.shard_checker.proofs.SoundLemmas.{certificate_sound}
use Rattle.shard_checker.proofs.Testing.{two_true, same_number}
use Rattle.table_changes.proofs.TableLemmas.{at_zero, zero_more, at_next}

none_first : (one next : Option CheckError) → earliest one next ≡ None → (one ≡ None) × (next ≡ None)
none_first None next h = (refl, h)
none_first (Some error) next h = absurd cc

-- ---- what is published

all_published : (insert update delete truncate : Bool)
    → (if insert then (if update then
    (if delete then (if truncate then None else Some Truncate) else Some Delete) else Some Update)
    else Some Insert) ≡ None
    → (insert ≡ true) × (update ≡ true) × (delete ≡ true) × (truncate ≡ true)
all_published true true true true h = (refl, refl, refl, refl)
all_published true true true false h = absurd cc
all_published true true false truncate h = absurd cc
all_published true false delete truncate h = absurd cc
all_published false update delete truncate h = absurd cc

none_missing : (number : ℕ) (missing : Option Operation) → missing_by number missing ≡ None → missing ≡ None
none_missing number None h = refl
none_missing number (Some operation) h = absurd cc

publishes_changes : (subscriptions : List Subscription) (number : ℕ) (publishes : Operations)
    → publication_refusal subscriptions number publishes ≡ None
    → is_taken subscriptions number ≡ true → PublishesChanges publishes
publishes_changes subscriptions number publishes h taken =
    let missing : missing_by number (missing_operation publishes) ≡ None = rw taken at h in
    let all = all_published publishes.insert publishes.update publishes.delete publishes.truncate
    (none_missing number (missing_operation publishes) missing) in
    record { inserts = all.0; updates = all.1; deletes = all.2; truncates = all.3 }

all_publish : (subscriptions : List Subscription) (number : ℕ) (publications : List (PublicationOf Expr))
    → publishing_refusal subscriptions number publications ≡ None
    → (k : ℕ) → is_taken subscriptions (number + k) ≡ true
    → IfSome (slice_get publications k) (λ publication. PublishesChanges publication.publishes)
all_publish subscriptions number [] h k taken = tt
all_publish subscriptions number (publication ∷ publications) h zero taken =
    let both = none_first (publication_refusal subscriptions number publication.publishes)
    (publishing_refusal subscriptions (number + 1) publications) h in
    publishes_changes subscriptions number publication.publishes both.0
    (subst (λ n. is_taken subscriptions n ≡ true) (at_zero number) taken)
all_publish subscriptions number (publication ∷ publications) h (suc k) taken =
    let both = none_first (publication_refusal subscriptions number publication.publishes)
    (publishing_refusal subscriptions (number + 1) publications) h in
    all_publish subscriptions (number + 1) publications both.1 k
    (subst (λ n. is_taken subscriptions n ≡ true) (at_next number k) taken)

-- ---- what is recorded of old rows

is_true : (b : Bool) (error : CheckError) → (if b then None else Some error) ≡ None → b ≡ true
is_true true error h = refl
is_true false error h = absurd cc

all_identified : (number : ℕ) (tables : List Table) → identity_refusal number tables ≡ None → (k : ℕ)
    → IfSome (slice_get tables k) (λ table. tells_rows_apart table ≡ true)
all_identified number [] h k = tt
all_identified number (table ∷ tables) h zero =
    let both = none_first (table_refusal number table) (identity_refusal (number + 1) tables) h in
    is_true (tells_rows_apart table) (NoIdentity number) both.0
all_identified number (table ∷ tables) h (suc k) =
    let both = none_first (table_refusal number table) (identity_refusal (number + 1) tables) h in
    all_identified (number + 1) tables both.1 k

-- ---- which columns filters name

covered_first : (b : Bool) (later : Option CheckError) (error : CheckError) → (if b then later else Some error) ≡ None
    → (b ≡ true) × (later ≡ None)
covered_first true later error h = (refl, h)
covered_first false later error h = absurd cc

columns_covered : (publication number : ℕ) (table : Table) (columns : List ℕ)
    → column_refusal publication number table columns ≡ None → list_all (is_covered table) columns ≡ true
columns_covered publication number table [] h = refl
columns_covered publication number table (column ∷ columns) h =
    let both = covered_first (is_covered table column) (column_refusal publication number table columns)
    (NotCovered publication number column) h in
    two_true (is_covered table column) (list_all (is_covered table) columns) both.0
    (columns_covered publication number table columns both.1)

not_missing : (tables : List Table) (number : ℕ) → number < length tables → slice_get tables number ≡ None → ⊥
not_missing [] number within h = absurd (omega arith)
not_missing (table ∷ tables) zero within h = absurd cc
not_missing (table ∷ tables) (suc number) within h = not_missing tables number (omega arith) h

carried_covered : (publication number : ℕ) (found : Option Table) (filter : Option Expr) → (found ≡ None → ⊥)
    → carried_refusal publication number found filter ≡ None → is_covered_by found filter ≡ true
carried_covered publication number None filter there h = absurd (there refl)
carried_covered publication number (Some table) None there h = refl
carried_covered publication number (Some table) (Some filter) there h =
    columns_covered publication number table (distinct_columns filter) h

entries_covered : (tables : List Table) (publication : ℕ) (entries : List (EntryOf Expr))
    → All (IsKnownEntry tables) entries → entries_refusal tables publication entries ≡ None
    → list_all (entry_is_covered tables) entries ≡ true
entries_covered tables publication [] known h = refl
entries_covered tables publication (entry ∷ entries) known h =
    let both = none_first (entry_refusal tables publication entry) (entries_refusal tables publication entries) h in
    two_true (entry_is_covered tables entry) (list_all (entry_is_covered tables) entries)
    (carried_covered publication entry.table (slice_get tables entry.table) entry.filter
    (not_missing tables entry.table (All-head (IsKnownEntry tables) entry entries known).table) both.0)
    (entries_covered tables publication entries (All-tail (IsKnownEntry tables) entry entries known) both.1)

taken_covered : (tables : List Table) (subscriptions : List Subscription) (number : ℕ) (entries : List (EntryOf Expr))
    → All (IsKnownEntry tables) entries → taken_refusal tables subscriptions number entries ≡ None
    → is_taken subscriptions number ≡ true → list_all (entry_is_covered tables) entries ≡ true
taken_covered tables subscriptions number entries known h taken =
    let all : entries_refusal tables number entries ≡ None = rw taken at h in
    entries_covered tables number entries known all

all_covered : (tables : List Table) (subscriptions : List Subscription) (number : ℕ)
    (publications : List (PublicationOf Expr)) → All (CarriesKnown tables) publications
    → covering_refusal tables subscriptions number publications ≡ None
    → (k : ℕ) → is_taken subscriptions (number + k) ≡ true
    → IfSome (slice_get publications k) (λ publication. list_all (entry_is_covered tables) publication.entries ≡ true)
all_covered tables subscriptions number [] known h k taken = tt
all_covered tables subscriptions number (publication ∷ publications) known h zero taken =
    let both = none_first (taken_refusal tables subscriptions number publication.entries)
    (covering_refusal tables subscriptions (number + 1) publications) h in
    taken_covered tables subscriptions number publication.entries
    (All-head (CarriesKnown tables) publication publications known) both.0
    (subst (λ n. is_taken subscriptions n ≡ true) (at_zero number) taken)
all_covered tables subscriptions number (publication ∷ publications) known h (suc k) taken =
    let both = none_first (taken_refusal tables subscriptions number publication.entries)
    (covering_refusal tables subscriptions (number + 1) publications) h in
    all_covered tables subscriptions (number + 1) publications
    (All-tail (CarriesKnown tables) publication publications known) both.1 k
    (subst (λ n. is_taken subscriptions n ≡ true) (at_next number k) taken)

-- ---- certificates

-- each row that fits the table with this number has one owner
abbrev HasOwners : (ℕ → List s.ShareOf) → ℕ → Table → Type 0
HasOwners shares number table = (row : List Datum) → IsTyped table.columns row → HasOneOwner (shares number) row

all_owned : (plan : PlanOf) (subscriptions : List Subscription) (number : ℕ) (tables : List Table) (trees : List Tree)
    → length trees ≡ length tables
    → certificates_refusal is_empty plan subscriptions number tables trees ≡ None
    → (k : ℕ) → IfSome (slice_get tables k) (HasOwners (λ n. table_shares plan n 0 subscriptions) (number + k))
all_owned plan subscriptions number [] trees same h k = tt
all_owned plan subscriptions number (table ∷ tables) [] same h k = absurd (omega arith)
all_owned plan subscriptions number (table ∷ tables) (tree ∷ trees) same h zero =
    let both = none_first (first_refusal is_empty number table (table_shares plan number 0 subscriptions) tree)
    (certificates_refusal is_empty plan subscriptions (number + 1) tables trees) h in
    subst (λ n. HasOwners (λ m. table_shares plan m 0 subscriptions) n table) (sym (at_zero number))
    (certificate_sound number table (table_shares plan number 0 subscriptions) tree both.0)
all_owned plan subscriptions number (table ∷ tables) (tree ∷ trees) same h (suc k) =
    let both = none_first (first_refusal is_empty number table (table_shares plan number 0 subscriptions) tree)
    (certificates_refusal is_empty plan subscriptions (number + 1) tables trees) h in
    subst (λ n. IfSome (slice_get tables k) (HasOwners (λ m. table_shares plan m 0 subscriptions) n))
    (sym (at_next number k)) (all_owned plan subscriptions (number + 1) tables trees (omega arith) both.1 k)

-- the share of a subscriber that exists
share_there : (plan : PlanOf) (table number : ℕ) (subscriptions : List Subscription) (k : ℕ)
    (subscription : Subscription) → slice_get subscriptions k ≡ Some subscription
    → share_in (table_shares plan table number subscriptions) k ≡ share_at plan (number + k) table
share_there plan table number [] k subscription h = absurd cc
share_there plan table number (first ∷ subscriptions) zero subscription h =
    ap (λ n. share_at plan n table) (sym (at_zero number))
share_there plan table number (first ∷ subscriptions) (suc k) subscription h =
    share_there plan table (number + 1) subscriptions k subscription h
    ∙ ap (λ n. share_at plan n table) (sym (at_next number k))

no_share : (plan : PlanOf) (table number : ℕ) (subscriptions : List Subscription) (k : ℕ)
    → slice_get subscriptions k ≡ None → share_in (table_shares plan table number subscriptions) k ≡ s.Nothing
no_share plan table number [] k h = refl
no_share plan table number (first ∷ subscriptions) zero h = absurd cc
no_share plan table number (first ∷ subscriptions) (suc k) h = no_share plan table (number + 1) subscriptions k h

-- a subscriber gets what passes to it
takes_by : (catalog : CatalogOf Expr) (plan : PlanOf) → TakesWhatPasses catalog plan → (table : ℕ)
    → table < length catalog.tables → (row : List Datum)
    (subscriber : ℕ) (found : Option Subscription) → slice_get catalog.subscriptions subscriber ≡ found
    → s.takes (share_in (table_shares plan table 0 catalog.subscriptions) subscriber) row
    ≡ passes catalog subscriber table row
takes_by catalog plan same table there row subscriber None e =
    ap (λ share. s.takes share row) (no_share plan table 0 catalog.subscriptions subscriber e)
    ∙ sym (ap (λ found. list_any (carries table row) (listed_by catalog.publications found)) e)
takes_by catalog plan same table there row subscriber (Some subscription) e =
    ap (λ share. s.takes share row)
    (share_there plan table 0 catalog.subscriptions subscriber subscription e
    ∙ ap (λ n. share_at plan n table) (zero_more subscriber))
    ∙ same.same subscriber table there row

one_owner : (catalog : CatalogOf Expr) (plan : PlanOf) → TakesWhatPasses catalog plan → (table : ℕ)
    → table < length catalog.tables → (row : List Datum)
    → HasOneOwner (table_shares plan table 0 catalog.subscriptions) row → RowHasOneOwner catalog table row
one_owner catalog plan same table there row owned = record {
  owner = owned.owner;
  takes_it = sym (takes_by catalog plan same table there row owned.owner (slice_get catalog.subscriptions owned.owner)
      refl) ∙ owned.takes_it;
  no_other = λ other h. owned.no_other other
      (takes_by catalog plan same table there row other (slice_get catalog.subscriptions other) refl ∙ h);
}

table_there : (catalog : CatalogOf Expr) (plan : PlanOf) → TakesWhatPasses catalog plan
    → (number : ℕ) (found : Option Table) → slice_get catalog.tables number ≡ found
    → IfSome found (HasOwners (λ n. table_shares plan n 0 catalog.subscriptions) (0 + number))
    → IfSome found (λ table. (row : List Datum) → IsTyped table.columns row → RowHasOneOwner catalog number row)
table_there catalog plan same number None e owned = tt
table_there catalog plan same number (Some table) e owned = λ row valid.
    one_owner catalog plan same number (slice_get_within catalog.tables number table e) row
    (subst (λ n. HasOneOwner (table_shares plan n 0 catalog.subscriptions) row) (zero_more number) (owned row valid))

counted : (b : Bool) (error : CheckError) → (if b then None else Some error) ≡ None → b ≡ true
counted true error h = refl
counted false error h = absurd cc

pub sharding_sound : (catalog : CatalogOf Expr) (plan : PlanOf) (trees : List Tree) → AllCarryKnown catalog
    → sharding_refusal is_empty catalog plan trees ≡ None → plan ≡ plan_of catalog → IsSound catalog
sharding_sound catalog plan trees known h own =
    let all = none_first (catalog_refusal catalog)
    (earliest (count_refusal (length catalog.tables) (length trees))
    (certificates_refusal is_empty plan catalog.subscriptions 0 catalog.tables trees)) h in
    let certificates = none_first (count_refusal (length catalog.tables) (length trees))
    (certificates_refusal is_empty plan catalog.subscriptions 0 catalog.tables trees) all.1 in
    let publishing = none_first (publishing_refusal catalog.subscriptions 0 catalog.publications)
    (earliest (identity_refusal 0 catalog.tables)
    (covering_refusal catalog.tables catalog.subscriptions 0 catalog.publications)) all.0 in
    let rest = none_first (identity_refusal 0 catalog.tables)
    (covering_refusal catalog.tables catalog.subscriptions 0 catalog.publications) publishing.1 in
    let many : length trees ≡ length catalog.tables =
    same_number (length trees) (length catalog.tables)
    (counted (length trees == length catalog.tables) CertCount certificates.0) in
    record {
      one_owner = λ number. table_there catalog plan (takes_what_passes catalog plan own) number
          (slice_get catalog.tables number) refl
          (all_owned plan catalog.subscriptions 0 catalog.tables trees many certificates.1 number);
      publishes = λ number taken. all_publish catalog.subscriptions 0 catalog.publications publishing.0 number
          (subst (λ n. is_taken catalog.subscriptions n ≡ true) (sym (zero_more number)) taken);
      covered = λ number taken. all_covered catalog.tables catalog.subscriptions 0 catalog.publications known rest.1
          number (subst (λ n. is_taken catalog.subscriptions n ≡ true) (sym (zero_more number)) taken);
      identified = λ number. all_identified 0 catalog.tables rest.0 number;
    }

pub takes_own : (catalog : CatalogOf Expr) (plan : PlanOf) → plan ≡ plan_of catalog → TakesWhatPasses catalog plan
takes_own catalog plan own = takes_what_passes catalog plan own
