-- What a result of the maker means: for a certificate, that the check of its table accepts it; for a row, that it fits
-- the table and which subscribers get it: none, or several. PostgreSQL 15, "Logical Replication", 31.3 Row Filters.
use Rattle.std.specs.Prelude.{◌≡◌, ◌≢◌, ℕ, ◌+◌, List, [], ◌∷◌, length, filter, Some, None, slice_get}
use Rattle.filter_tree.specs.Datum.{Datum}
use Rattle.filter_tree.specs.Expr.{Expr}
use Rattle.filter_tree.specs.Valid.{IsValid}
use Rattle.filter_tree.specs.declared.table.Table.{Table}
use Rattle.pub_catalog.specs.Catalogs.{CatalogOf}
use Rattle.pub_catalog.specs.declared.catalog.Subscription.{Subscription}
use Rattle.replica_identity.specs.Passes.{passes}
use Rattle.replica_identity.specs.Plans.{PlanOf, plan_of}
use Rattle.shard_checker.specs.CatalogRefusal.{table_shares}
use Rattle.shard_checker.specs.Emptiness.{EmptyTest, IsEmptiness}
use Rattle.shard_checker.specs.Refusal.{first_refusal}
use Rattle.split_cert.specs.Tree.{Tree, IsWithinLimits}
use Rattle.split_cert.specs.Where.{tree_view}
use Rattle.cert_maker.specs.declared.made.Made.{Made}
use Rattle.cert_maker.specs.declared.made.Made.TheVariants.{Cert, Counter, Unknown, TooLarge, OutOfMemory}

-- a fact about the certificate, if the result is one
abbrev pub IfCert : Made → (Tree → Type 0) → Type 0
IfCert (Cert cert) Fact = Fact (tree_view cert)
IfCert (Counter row owners) Fact = Unit {0}
IfCert Unknown Fact = Unit {0}
IfCert TooLarge Fact = Unit {0}
IfCert OutOfMemory Fact = Unit {0}

-- a fact about the row and the owners, if the result is a counterexample
abbrev pub IfCounter : Made → (List Datum → List ℕ → Type 0) → Type 0
IfCounter (Cert cert) Fact = Unit {0}
IfCounter (Counter row owners) Fact = Fact row owners.items
IfCounter Unknown Fact = Unit {0}
IfCounter TooLarge Fact = Unit {0}
IfCounter OutOfMemory Fact = Unit {0}

-- the certificate is within the limits on certificates that are read, and the check accepts it for the table of this
-- number, with the shares that the plan gives to the subscribers, whatever number the check uses for the table in its
-- refusals
pub record IsAcceptedCert (catalog : CatalogOf Expr) (plan : PlanOf) (number : ℕ) (tree : Tree) : Type 0 where
  pub table : Table
  pub there : slice_get catalog.tables number ≡ Some table
  pub limits : IsWithinLimits tree
  pub accepted : (test : EmptyTest) → IsEmptiness test → (any : ℕ)
      → first_refusal test any table (table_shares plan number 0 catalog.subscriptions) tree ≡ None

-- the numbers of subscribers, the first of which has this number
abbrev pub numbers_from : ℕ → List Subscription → List ℕ
numbers_from number [] = []
numbers_from number (subscription ∷ subscriptions) = number ∷ numbers_from (number + 1) subscriptions

-- the subscribers that get the row of the table, in ascending order
abbrev pub owners_of : CatalogOf Expr → ℕ → List Datum → List ℕ
owners_of catalog number row =
    filter (λ subscriber. passes catalog subscriber number row) (numbers_from 0 catalog.subscriptions)

-- the row shows that the table with this number is not sharded correctly: it fits the table, and the number of
-- subscribers that get it is not one
pub record IsCounter (catalog : CatalogOf Expr) (plan : PlanOf) (number : ℕ) (row : List Datum) (owners : List ℕ) :
    Type 0 where
  pub table : Table
  pub there : slice_get catalog.tables number ≡ Some table
  pub valid : IsValid table.columns row
  pub passing : plan ≡ plan_of catalog → owners ≡ owners_of catalog number row
  pub not_one : length owners ≢ 1

-- what the result for the table with this number means is true
pub record IsAnswer (catalog : CatalogOf Expr) (plan : PlanOf) (number : ℕ) (made : Made) : Type 0 where
  pub cert : IfCert made (IsAcceptedCert catalog plan number)
  pub counter : IfCounter made (IsCounter catalog plan number)
