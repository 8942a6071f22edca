-- Shares that grow by entries are the shares of all these entries.
use Rattle.std.proofs.Common.{◌≡◌, ℕ, zero, suc, ◌+◌, ◌<◌, Bool, true, false, List, [], ◌∷◌, ◌++◌, map, length, ◌==◌, slice_index_or, slice_set, refl, ap, sym, ◌∙◌, arith}
use Rattle.std.proofs.lemmas.List.{map-append, append_assoc, append-nil}
use Rattle.std.proofs.lemmas.List.Elements.{filter-append, filter_map-append}
use Rattle.std.proofs.lemmas.List.Folds.{list_any-append}
use Rattle.std.proofs.lemmas.List.Sums.{fold-append}
use Rattle.std.specs.Prelude.{Option, Some, None, fold, filter, filter_map, replicate, is_none, if◌then◌else◌}
use Rattle.std.specs.List.{list_any}
use Rattle.std.specs.Cmp.{unsigned_Decides}
use Rattle.filter_tree.specs.Expr.{Expr, Or}
use Rattle.filter_tree.specs.declared.table.Table.{Table}
use Rattle.pub_catalog.specs.Catalogs.{EntryOf}
use Rattle.replica_identity.specs.Joining.{joined, joined_at}
use Rattle.replica_identity.specs.Plans.{filters_for, share_from, shares_from}
use Rattle.replica_identity.specs.Shares.{ShareOf, Nothing, Everything, Where, any_of, share_by}
use Rattle.filter_tree.proofs.Tests.{by_test}

-- ---- one more filter

joined_whole : (share : ShareOf) → joined share None ≡ Everything
joined_whole Nothing = refl
joined_whole Everything = refl
joined_whole (Where filter) = refl

any_of_more : (filters : List Expr) (more : Expr) → any_of (filters ++ more ∷ []) ≡ joined (any_of filters) (Some more)
any_of_more [] more = refl
any_of_more (filter ∷ filters) more = ap Where (fold-append Or filter filters (more ∷ []))

share_by_more : (filters : List (Option Expr)) (more : Option Expr)
    → share_by (filters ++ more ∷ []) ≡ joined (share_by filters) more
share_by_more filters None = by_test (list_any is_none filters)
    (λ e. rw (list_any-append is_none filters (None ∷ []), e) refl)
    (λ e. rw (list_any-append is_none filters (None ∷ []), e)
    (sym (joined_whole (any_of (filter_map (λ f. f) filters)))))
share_by_more filters (Some more) = by_test (list_any is_none filters)
    (λ e. rw (list_any-append is_none filters (Some more ∷ []), e) refl)
    (λ e. rw (list_any-append is_none filters (Some more ∷ []), e)
    (ap any_of (filter_map-append (λ f. f) filters (Some more ∷ [])) ∙ any_of_more (filter_map (λ f. f) filters) more))

-- ---- one more entry

filters_for-append : (table : ℕ) (entries more : List (EntryOf Expr))
    → filters_for table (entries ++ more) ≡ filters_for table entries ++ filters_for table more
filters_for-append table entries more =
    ap (map (λ (entry : EntryOf Expr). entry.filter))
    (filter-append (λ (entry : EntryOf Expr). entry.table == table) entries more)
    ∙ map-append (λ (entry : EntryOf Expr). entry.filter)
    (filter (λ (entry : EntryOf Expr). entry.table == table) entries)
    (filter (λ (entry : EntryOf Expr). entry.table == table) more)

abbrev only_if : Bool → EntryOf Expr → List (Option Expr)
only_if test entry = map (λ (e : EntryOf Expr). e.filter) (if test then entry ∷ [] else [])

share_in_more : (entries : List (EntryOf Expr)) (entry : EntryOf Expr) (table : ℕ) → (entry.table == table) ≡ true
    → share_from (entries ++ entry ∷ []) table ≡ joined (share_from entries table) entry.filter
share_in_more entries entry table e =
    ap share_by (filters_for-append table entries (entry ∷ [])
    ∙ ap (λ b. filters_for table entries ++ only_if b entry) e)
    ∙ share_by_more (filters_for table entries) entry.filter

share_in_same : (entries : List (EntryOf Expr)) (entry : EntryOf Expr) (table : ℕ) → (entry.table == table) ≡ false
    → share_from (entries ++ entry ∷ []) table ≡ share_from entries table
share_in_same entries entry table e =
    ap share_by (filters_for-append table entries (entry ∷ [])
    ∙ ap (λ b. filters_for table entries ++ only_if b entry) e ∙ append-nil (filters_for table entries))

-- ---- in the list of the tables

same_number : (k : ℕ) → ((k + 0) == k) ≡ true
same_number k = (unsigned_Decides (k + 0) k).1 (omega arith)

later_number : (k j : ℕ) → ((k + suc j) == k) ≡ false
later_number k j = by_test ((k + suc j) == k)
    (λ e. let same : k + suc j ≡ k = (unsigned_Decides (k + suc j) k).0 e in absurd (omega arith)) (λ e. e)

next_sum : (k j : ℕ) → k + suc j ≡ (k + 1) + j
next_sum k j = omega arith

earlier_number : (n k : ℕ) → n < k → (n == k) ≡ false
earlier_number n k h =
    by_test (n == k) (λ e. let same : n ≡ k = (unsigned_Decides n k).0 e in absurd (omega arith)) (λ e. e)

-- an entry for an earlier table changes nothing
shares_same : (entries : List (EntryOf Expr)) (entry : EntryOf Expr) (k : ℕ) (tables : List Table) → entry.table < k
    → shares_from (entries ++ entry ∷ []) k tables ≡ shares_from entries k tables
shares_same entries entry k [] h = refl
shares_same entries entry k (table ∷ tables) h =
    ap (λ share. share ∷ shares_from (entries ++ entry ∷ []) (k + 1) tables)
    (share_in_same entries entry k (earlier_number entry.table k h))
    ∙ ap (λ shares. share_from entries k ∷ shares) (shares_same entries entry (k + 1) tables (omega arith))

joined_from : (entries : List (EntryOf Expr)) (entry : EntryOf Expr) (k j : ℕ) (tables : List Table)
    → entry.table ≡ k + j →
    shares_from (entries ++ entry ∷ []) k tables
    ≡ slice_set (shares_from entries k tables) j
    (joined (slice_index_or (shares_from entries k tables) j Nothing) entry.filter)
joined_from entries entry k j [] e = refl
joined_from entries entry k zero (table ∷ tables) e =
    ap (λ share. share ∷ shares_from (entries ++ entry ∷ []) (k + 1) tables)
    (share_in_more entries entry k (ap (λ n. n == k) e ∙ same_number k))
    ∙ ap (λ shares. joined (share_from entries k) entry.filter ∷ shares)
    (shares_same entries entry (k + 1) tables (omega arith))
joined_from entries entry k (suc j) (table ∷ tables) e =
    ap (λ share. share ∷ shares_from (entries ++ entry ∷ []) (k + 1) tables)
    (share_in_same entries entry k (ap (λ n. n == k) e ∙ later_number k j))
    ∙ ap (λ shares. share_from entries k ∷ shares) (joined_from entries entry (k + 1) j tables (e ∙ next_sum k j))

joined_on : (entries more : List (EntryOf Expr)) (tables : List Table)
    → fold joined_at (shares_from entries 0 tables) more ≡ shares_from (entries ++ more) 0 tables
joined_on entries [] tables = ap (λ es. shares_from es 0 tables) (sym (append-nil entries))
joined_on entries (entry ∷ more) tables =
    ap (λ shares. fold joined_at shares more) (sym (joined_from entries entry 0 entry.table tables (omega arith)))
    ∙ joined_on (entries ++ entry ∷ []) more tables
    ∙ ap (λ es. shares_from es 0 tables) (append_assoc entries (entry ∷ []) more)

no_entries : (k : ℕ) (tables : List Table) → replicate (length tables) Nothing ≡ shares_from [] k tables
no_entries k [] = refl
no_entries k (table ∷ tables) = ap (λ shares. Nothing ∷ shares) (no_entries (k + 1) tables)

-- starting from no shares
pub joined_all : (entries : List (EntryOf Expr)) (tables : List Table)
    → fold joined_at (replicate (length tables) Nothing) entries ≡ shares_from entries 0 tables
joined_all entries tables = ap (λ shares. fold joined_at shares entries) (no_entries 0 tables)
    ∙ joined_on [] entries tables
