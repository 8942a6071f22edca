-- Shares by their numbers.
use Rattle.std.proofs.Common.{◌≡◌, ℕ, zero, suc, ◌<◌, ◌≤◌, true, List, [], ◌∷◌, map, length, slice_index_or, slice_set, refl, ap, subst, sym, ◌∙◌, arith}
use Rattle.std.proofs.Common.{Global}
use Rattle.std.specs.Prelude.{Option}
use Rattle.filter_tree.specs.Expr.{Expr}
use Rattle.pub_catalog.specs.Catalogs.{EntryOf}
use Rattle.replica_identity.specs.declared.share.Share.{Share}
use Rattle.replica_identity.specs.Joining.{joined, joined_at}
use Rattle.replica_identity.specs.Shares.{ShareOf, Nothing, Everything, Where, share_view, is_nothing}

pub is_nothing_is : (share : ShareOf) → is_nothing share ≡ true → share ≡ Nothing
is_nothing_is Nothing e = refl
is_nothing_is Everything e = cc
is_nothing_is (Where filter) e = cc

pub ruleset past_the_plan = (is_nothing_is)

set_past : (shares : List ShareOf) (i : ℕ) (made : ShareOf) → length shares ≤ i → slice_set shares i made ≡ shares
set_past [] i made h = refl
set_past (first ∷ shares) zero made h = absurd (omega arith)
set_past (first ∷ shares) (suc i) made h = ap (λ (ss : List ShareOf). first ∷ ss) (set_past shares i made (omega arith))

as_many : (shares : List (Share Global)) → length (map share_view shares) ≡ length shares
as_many [] = refl
as_many (share ∷ shares) = ap suc (as_many shares)

-- an entry for no table
pub joined_past : (shares : List (Share Global)) (entry : EntryOf Expr) → length shares ≤ entry.table
    → map share_view shares ≡ joined_at (map share_view shares) entry
joined_past shares entry h =
    sym (set_past (map share_view shares) entry.table
    (joined (slice_index_or (map share_view shares) entry.table Nothing) entry.filter)
    (subst (λ n. n ≤ entry.table) (sym (as_many shares)) h))

set_joined : (shares : List (Share Global)) (i : ℕ) (share made : Share Global) (more : Option Expr)
    → i < length shares → share ≡ slice_index_or shares i share → share_view made ≡ joined (share_view share) more →
    map share_view (slice_set shares i made)
    ≡ slice_set (map share_view shares) i (joined (slice_index_or (map share_view shares) i Nothing) more)
set_joined [] i share made more h is e = absurd (omega arith)
set_joined (first ∷ shares) zero share made more h is e =
    ap (λ (s : ShareOf). s ∷ map share_view shares) (e ∙ ap (λ (s : Share Global). joined (share_view s) more) is)
set_joined (first ∷ shares) (suc i) share made more h is e =
    ap (λ (ss : List ShareOf). share_view first ∷ ss) (set_joined shares i share made more (omega arith) is e)

pub joined_in : (shares : List (Share Global)) (entry : EntryOf Expr) (share made : Share Global)
    → entry.table < length shares → share ≡ slice_index_or shares entry.table share
    → share_view made ≡ joined (share_view share) entry.filter →
    map share_view (slice_set shares entry.table made) ≡ joined_at (map share_view shares) entry
joined_in shares entry share made h is e = set_joined shares entry.table share made entry.filter h is e

pub ruleset joins = (joined_past, joined_in)
