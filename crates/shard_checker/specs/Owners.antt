-- What it means that a row has one owner among the shares of a table, and what a path says about a share: PostgreSQL
-- 15, "Logical Replication", 31.3 Row Filters.
use Rattle.std.specs.Prelude.{◌≡◌, ℕ, ◌+◌, ◌==◌, Bool, true, false, not, ◌&&◌, if◌then◌else◌, List, [], ◌∷◌, map, Option, Some, None, slice_index_or}
use Rattle.std.specs.Borrow.{Bor}
use Rattle.filter_tree.specs.Datum.{Datum}
use Rattle.filter_tree.specs.Paths.{Path, possible_of}
use Rattle.filter_tree.specs.declared.mask.Mask.{Mask}
use Rattle.replica_identity.specs.Shares.{ShareOf, Nothing, Everything, Where, share_view, takes}
use Rattle.replica_identity.specs.declared.share.Share.{Share}

-- the shares of a list of references
abbrev pub shares_view : {A : _} → List (Bor (Share A)) → List ShareOf
shares_view shares = map (λ share. share_view share.now) shares

-- the share with this number; nothing for others
abbrev pub share_in : List ShareOf → ℕ → ShareOf
share_in shares number = slice_index_or shares number Nothing

-- exactly one share takes the row
pub record HasOneOwner (shares : List ShareOf) (row : List Datum) : Type 0 where
  pub owner : ℕ
  pub takes_it : takes (share_in shares owner) row ≡ true
  pub no_other : (other : ℕ) → takes (share_in shares other) row ≡ true → other ≡ owner

-- the set has true, and nothing else
abbrev pub is_surely_true : Mask → Bool
is_surely_true mask = mask.truth && (not mask.falsity && not mask.null)

-- the share takes every row that agrees with the path
abbrev pub must_take : ShareOf → Path → Bool
must_take Nothing path = false
must_take Everything path = true
must_take (Where filter) path = is_surely_true (possible_of filter path)

-- the path leaves it possible that the share takes a row
abbrev pub may_take : ShareOf → Path → Bool
may_take Nothing path = false
may_take Everything path = true
may_take (Where filter) path = (possible_of filter path).truth

-- the share with this number is not the owner's, and may take a row
abbrev pub is_second : ℕ → ℕ → ShareOf → Path → Bool
is_second owner number share path = not (number == owner) && may_take share path

-- the least number of such a share; the first share has this number
abbrev pub second_owner : ℕ → ℕ → List ShareOf → Path → Option ℕ
second_owner owner number [] path = None
second_owner owner number (share ∷ shares) path =
    if is_second owner number share path then Some number else second_owner owner (number + 1) shares path
