-- Certificates as trees, wherever they are in memory, and the limits on those that are read. Certificates are specific
-- to this project, and no section of PostgreSQL's documentation describes them.
use Rattle.std.specs.Prelude.{ℕ, ◌+◌, ◌<◌, ◌≤◌, ◌^◌, max}

-- a split by an atom, with the branches where it is true, false and null; a subscriber that owns the rows; a term
-- without a value; an atom that is never null
pub data Tree : Type 0 where
  Split : ℕ → Tree → Tree → Tree → Tree
  Owner : ℕ → Tree
  Empty : ℕ → Tree
  NeverNull : ℕ → Tree

-- how many nodes it has
abbrev pub nodes : Tree → ℕ
nodes (Split atom if_true if_false if_null) = 1 + nodes if_true + nodes if_false + nodes if_null
nodes (Owner subscriber) = 1
nodes (Empty term) = 1
nodes (NeverNull atom) = 1

-- the most splits on a path from the root
abbrev pub splits_deep : Tree → ℕ
splits_deep (Split atom if_true if_false if_null) =
    1 + max (splits_deep if_true) (max (splits_deep if_false) (splits_deep if_null))
splits_deep (Owner subscriber) = 0
splits_deep (Empty term) = 0
splits_deep (NeverNull atom) = 0

-- its numbers are numbers of 32 bits
abbrev pub HasNumbers : Tree → Type 0
HasNumbers (Split atom if_true if_false if_null) = (atom < 2 ^ 32) × HasNumbers if_true × HasNumbers if_false
    × HasNumbers if_null
HasNumbers (Owner subscriber) = subscriber < 2 ^ 32
HasNumbers (Empty term) = term < 2 ^ 32
HasNumbers (NeverNull atom) = atom < 2 ^ 32

-- the limits on what is read
abbrev pub max_nodes : ℕ
max_nodes = 1000000

abbrev pub max_splits : ℕ
max_splits = 64

pub record IsWithinLimits (tree : Tree) : Type 0 where
  pub few : nodes tree ≤ max_nodes
  pub shallow : splits_deep tree ≤ max_splits
  pub numbers : HasNumbers tree
