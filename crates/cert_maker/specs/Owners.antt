-- What a result of the maker means for a table's shares: PostgreSQL 15, "Logical Replication", 31.3 Row Filters.
use Rattle.std.specs.Prelude.{◌≡◌, ◌≢◌, ℕ, List, length, None}
use Rattle.filter_tree.specs.Datum.{Datum}
use Rattle.filter_tree.specs.Valid.{IsValid}
use Rattle.filter_tree.specs.declared.table.Table.{Table}
use Rattle.replica_identity.specs.Shares.{ShareOf}
use Rattle.shard_checker.specs.Emptiness.{EmptyTest, IsEmptiness}
use Rattle.shard_checker.specs.Refusal.{first_refusal}
use Rattle.split_cert.specs.Tree.{Tree, IsWithinLimits}
use Rattle.cert_search.specs.Owners.{owners_from}
use Rattle.cert_maker.specs.Answers.{IfCert, IfCounter}
use Rattle.cert_maker.specs.declared.made.Made.{Made}

-- the row fits the table, and has no owner, or several
pub record IsCounterOf (table : Table) (shares : List ShareOf) (row : List Datum) (owners : List ℕ) : Type 0 where
  pub valid : IsValid table.columns row
  pub all : owners ≡ owners_from 0 shares row
  pub not_one : length owners ≢ 1

-- the certificate is within the limits on certificates that are read, and the check accepts it
pub record IsCertOf (table : Table) (shares : List ShareOf) (tree : Tree) : Type 0 where
  pub limits : IsWithinLimits tree
  pub accepted : (test : EmptyTest) → IsEmptiness test → first_refusal test 0 table shares tree ≡ None

-- what the result means for the table with these shares is true
pub record IsRight (table : Table) (shares : List ShareOf) (made : Made) : Type 0 where
  pub cert : IfCert made (IsCertOf table shares)
  pub counter : IfCounter made (IsCounterOf table shares)
