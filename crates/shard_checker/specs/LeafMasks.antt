-- The sets of truth values that something may have at each of 64 leaves of a certificate, as bits of words.
-- Certificates are specific to this project, and no section of PostgreSQL's documentation describes them.
use Rattle.std.specs.Prelude.{◌≡◌, ◌<◌, ◌≤◌, ℕ, ◌==◌, Bool, List, map}
use Rattle.std.specs.Int.{bit_at}
use Rattle.filter_tree.specs.declared.mask.Mask.{Mask}
use Rattle.shard_checker.specs.declared.leaf_masks.LeafMasks.{LeafMasks}

-- the word has the bit of the leaf
abbrev pub has_leaf : ℕ → ℕ → Bool
has_leaf word leaf = bit_at word leaf == 1

-- the set at a leaf
abbrev pub at_leaf : ℕ → LeafMasks → Mask
at_leaf leaf masks =
    record {
      truth = has_leaf masks.truth leaf;
      falsity = has_leaf masks.falsity leaf;
      null = has_leaf masks.null leaf;
    }

abbrev pub all_at : ℕ → List LeafMasks → List Mask
all_at leaf list = map (at_leaf leaf) list

-- each bit from that of the leaf on is set or cleared, and those before it are kept
pub record SetsFrom (leaf : ℕ) (is_set : Bool) (old new : ℕ) : Type 0 where
  pub before : (other : ℕ) → other < leaf → has_leaf new other ≡ has_leaf old other
  pub later : (other : ℕ) → leaf ≤ other → other < 64 → has_leaf new other ≡ is_set
