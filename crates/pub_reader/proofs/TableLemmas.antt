-- Tables by their numbers.
use Rattle.std.proofs.Common.{◌≡◌, ℕ, zero, suc, ◌<◌, List, [], ◌∷◌, ◌++◌, length, slice_index_or, slice_set, ap, arith}
use Rattle.filter_tree.specs.declared.table.Identity.{Identity}
use Rattle.filter_tree.specs.declared.table.Table.{Table}
use Rattle.filter_tree.specs.declared.table.UniqueIndex.{UniqueIndex}
use Rattle.pub_catalog.specs.Catalogs.{schema_at, columns_at, indexes_at, identified, indexed}

pub schema_at-is : (tables : List Table) (number : ℕ) (table : Table) → number < length tables
    → table ≡ slice_index_or tables number table → table.schema ≡ schema_at tables number
schema_at-is [] number table within is = absurd (omega arith)
schema_at-is (first ∷ tables) zero table within is = ap (λ (t : Table). t.schema) is
schema_at-is (first ∷ tables) (suc number) table within is = schema_at-is tables number table (omega arith) is

pub columns_at-is : (tables : List Table) (number : ℕ) (table : Table) → number < length tables
    → table ≡ slice_index_or tables number table → table.columns ≡ columns_at tables number
columns_at-is [] number table within is = absurd (omega arith)
columns_at-is (first ∷ tables) zero table within is = ap (λ (t : Table). t.columns) is
columns_at-is (first ∷ tables) (suc number) table within is = columns_at-is tables number table (omega arith) is

pub indexes_at-is : (tables : List Table) (number : ℕ) (table : Table) → number < length tables
    → table ≡ slice_index_or tables number table → table.indexes ≡ indexes_at tables number
indexes_at-is [] number table within is = absurd (omega arith)
indexes_at-is (first ∷ tables) zero table within is = ap (λ (t : Table). t.indexes) is
indexes_at-is (first ∷ tables) (suc number) table within is = indexes_at-is tables number table (omega arith) is

pub identified-set : (tables : List Table) (number : ℕ) (table : Table) (identity : Identity) → number < length tables
    → table ≡ slice_index_or tables number table →
    slice_set tables number (record table { identity = identity }) ≡ identified tables number identity
identified-set [] number table identity within is = absurd (omega arith)
identified-set (first ∷ tables) zero table identity within is =
    ap (λ (t : Table). record t { identity = identity } ∷ tables) is
identified-set (first ∷ tables) (suc number) table identity within is =
    ap (λ ts. first ∷ ts) (identified-set tables number table identity (omega arith) is)

pub indexed-set : (tables : List Table) (number : ℕ) (table : Table) (index : UniqueIndex) → number < length tables
    → table ≡ slice_index_or tables number table →
    slice_set tables number (record table { indexes = table.indexes ++ index ∷ [] }) ≡ indexed tables number index
indexed-set [] number table index within is = absurd (omega arith)
indexed-set (first ∷ tables) zero table index within is =
    ap (λ (t : Table). record t { indexes = t.indexes ++ index ∷ [] } ∷ tables) is
indexed-set (first ∷ tables) (suc number) table index within is =
    ap (λ ts. first ∷ ts) (indexed-set tables number table index (omega arith) is)

pub ruleset table_numbers = (schema_at-is, columns_at-is, indexes_at-is, identified-set, indexed-set)
