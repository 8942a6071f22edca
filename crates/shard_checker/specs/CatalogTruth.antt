-- What the first refusal of a sharding says about the publication, the table, the column or the certificate that it
-- names: PostgreSQL 15, "Logical Replication", 31.1 Publication.
use Rattle.std.specs.Prelude.{◌≡◌, ◌≢◌, ℕ, ◌<◌, Bool, true, false, List, length, Contains, Some, slice_get}
use Rattle.filter_tree.specs.Expr.{Expr}
use Rattle.filter_tree.specs.Lists.{distinct_columns}
use Rattle.filter_tree.specs.declared.table.Table.{Table}
use Rattle.pub_catalog.specs.Catalogs.{CatalogOf, PublicationOf, EntryOf}
use Rattle.pub_catalog.specs.declared.catalog.Operations.{Operations}
use Rattle.replica_identity.specs.Identities.{is_covered, tells_rows_apart}
use Rattle.replica_identity.specs.Plans.{PlanOf}
use Rattle.split_cert.specs.Tree.{Tree}
use Rattle.shard_checker.specs.CatalogRefusal.{table_shares}
use Rattle.shard_checker.specs.Sound.{is_taken}
use Rattle.shard_checker.specs.Truth.{CertificateIsWrong}
use Rattle.shard_checker.specs.declared.error.CheckError.{CheckError}
use Rattle.shard_checker.specs.declared.error.CheckError.TheVariants.{PublishMissing, NoIdentity, NotCovered, CertCount, BadIndex, NotEmpty, MayBeNull, NotOwner, SecondOwner, OutOfMemory}
use Rattle.shard_checker.specs.declared.error.Operation.{Operation}
use Rattle.shard_checker.specs.declared.error.Operation.TheVariants.{Insert, Update, Delete, Truncate}

abbrev pub has_operation : Operations → Operation → Bool
has_operation publishes Insert = publishes.insert
has_operation publishes Update = publishes.update
has_operation publishes Delete = publishes.delete
has_operation publishes Truncate = publishes.truncate

-- a subscription names the publication with this number, and it does not publish the operation
pub record DoesNotPublish (catalog : CatalogOf Expr) (number : ℕ) (operation : Operation) : Type 0 where
  pub publication : PublicationOf Expr
  pub there : slice_get catalog.publications number ≡ Some publication
  pub taken : is_taken catalog.subscriptions number ≡ true
  pub missing : has_operation publication.publishes operation ≡ false

-- the replica identity of the table with this number does not distinguish its rows
pub record TellsNoRows (catalog : CatalogOf Expr) (number : ℕ) : Type 0 where
  pub table : Table
  pub there : slice_get catalog.tables number ≡ Some table
  pub not_apart : tells_rows_apart table ≡ false

-- the filter of an entry for the table with this number, which exists, names a column of it that the table's replica
-- identity lacks
pub record NamesUncovered (tables : List Table) (entry : EntryOf Expr) (number column : ℕ) : Type 0 where
  pub of_table : entry.table ≡ number
  pub table : Table
  pub there : slice_get tables number ≡ Some table
  pub filter : Expr
  pub filters : entry.filter ≡ Some filter
  pub names : Contains (distinct_columns filter) column
  pub within : column < length table.columns
  pub lacks : is_covered table column ≡ false

-- a subscription names the publication with this number, and it has such an entry
pub record HasUncovered (catalog : CatalogOf Expr) (number table column : ℕ) : Type 0 where
  pub publication : PublicationOf Expr
  pub there : slice_get catalog.publications number ≡ Some publication
  pub taken : is_taken catalog.subscriptions number ≡ true
  pub entry : EntryOf Expr
  pub has_entry : Contains publication.entries entry
  pub uncovered : NamesUncovered catalog.tables entry table column

-- what the error says about the certificate of the table with this number is true
pub record HasWrongCertificate (catalog : CatalogOf Expr) (plan : PlanOf) (trees : List Tree) (number : ℕ)
    (error : CheckError) : Type 0 where
  pub table : Table
  pub there : slice_get catalog.tables number ≡ Some table
  pub tree : Tree
  pub given : slice_get trees number ≡ Some tree
  pub wrong : CertificateIsWrong number table (table_shares plan number 0 catalog.subscriptions) tree error

-- what the error says about what it names is true
abbrev pub ShardingIsWrong : CatalogOf Expr → PlanOf → List Tree → CheckError → Type 0
ShardingIsWrong catalog plan trees (PublishMissing publication operation) = DoesNotPublish catalog publication operation
ShardingIsWrong catalog plan trees (NoIdentity table) = TellsNoRows catalog table
ShardingIsWrong catalog plan trees (NotCovered publication table column) = HasUncovered catalog publication table column
ShardingIsWrong catalog plan trees CertCount = length trees ≢ length catalog.tables
ShardingIsWrong catalog plan trees (BadIndex table node) =
    HasWrongCertificate catalog plan trees table (BadIndex table node)
ShardingIsWrong catalog plan trees (NotEmpty table node) =
    HasWrongCertificate catalog plan trees table (NotEmpty table node)
ShardingIsWrong catalog plan trees (MayBeNull table node) =
    HasWrongCertificate catalog plan trees table (MayBeNull table node)
ShardingIsWrong catalog plan trees (NotOwner table node) =
    HasWrongCertificate catalog plan trees table (NotOwner table node)
ShardingIsWrong catalog plan trees (SecondOwner table node subscriber) =
    HasWrongCertificate catalog plan trees table (SecondOwner table node subscriber)
ShardingIsWrong catalog plan trees OutOfMemory = ⊥
