-- The first reason why a sharding is refused: a subscribed publication that does not publish an operation, a table
-- whose replica identity does not distinguish its rows, a subscribed publication with a filter that names a column
-- outside the replica identity, too few or too many certificates, and then the certificates, table by table. PostgreSQL
-- 15, "Logical Replication", 31.1 Publication.
use Rattle.std.specs.Prelude.{ℕ, ◌+◌, ◌==◌, if◌then◌else◌, List, [], ◌∷◌, length, Option, Some, None, slice_get}
use Rattle.filter_tree.specs.Expr.{Expr}
use Rattle.filter_tree.specs.Lists.{distinct_columns}
use Rattle.filter_tree.specs.declared.table.Table.{Table}
use Rattle.pub_catalog.specs.Catalogs.{CatalogOf, PublicationOf, EntryOf}
use Rattle.pub_catalog.specs.declared.catalog.Operations.{Operations}
use Rattle.pub_catalog.specs.declared.catalog.Subscription.{Subscription}
use Rattle.replica_identity.specs.Identities.{is_covered, tells_rows_apart}
use Rattle.replica_identity.specs.Plans.{PlanOf, share_at}
use Rattle.replica_identity.specs.Shares.{ShareOf}
use Rattle.split_cert.specs.Tree.{Tree}
use Rattle.shard_checker.specs.Emptiness.{EmptyTest}
use Rattle.shard_checker.specs.Refusal.{earliest, first_refusal}
use Rattle.shard_checker.specs.Sound.{is_taken}
use Rattle.shard_checker.specs.declared.error.CheckError.{CheckError}
use Rattle.shard_checker.specs.declared.error.CheckError.TheVariants.{PublishMissing, NoIdentity, NotCovered, CertCount}
use Rattle.shard_checker.specs.declared.error.Operation.{Operation}
use Rattle.shard_checker.specs.declared.error.Operation.TheVariants.{Insert, Update, Delete, Truncate}

-- ---- what is published

-- the first of insert, update, delete and truncate that is not published
abbrev pub missing_operation : Operations → Option Operation
missing_operation publishes =
    if publishes.insert
    then (if publishes.update then
    (if publishes.delete then (if publishes.truncate then None else Some Truncate) else Some Delete)
    else Some Update)
    else Some Insert

abbrev pub missing_by : ℕ → Option Operation → Option CheckError
missing_by number None = None
missing_by number (Some operation) = Some (PublishMissing number operation)

abbrev pub publication_refusal : List Subscription → ℕ → Operations → Option CheckError
publication_refusal subscriptions number publishes = if is_taken subscriptions number then
    missing_by number (missing_operation publishes) else None

-- the refusal of publications, the first of which has this number
abbrev pub publishing_refusal : List Subscription → ℕ → List (PublicationOf Expr) → Option CheckError
publishing_refusal subscriptions number [] = None
publishing_refusal subscriptions number (publication ∷ publications) =
    earliest (publication_refusal subscriptions number publication.publishes)
    (publishing_refusal subscriptions (number + 1) publications)

-- ---- what is recorded of old rows

abbrev pub table_refusal : ℕ → Table → Option CheckError
table_refusal number table = if tells_rows_apart table then None else Some (NoIdentity number)

-- the refusal of tables, the first of which has this number
abbrev pub identity_refusal : ℕ → List Table → Option CheckError
identity_refusal number [] = None
identity_refusal number (table ∷ tables) = earliest (table_refusal number table) (identity_refusal (number + 1) tables)

-- ---- which columns filters name

-- the first of these columns that the replica identity of the table, which has this number, lacks
abbrev pub column_refusal : ℕ → ℕ → Table → List ℕ → Option CheckError
column_refusal publication number table [] = None
column_refusal publication number table (column ∷ columns) =
    if is_covered table column then
    column_refusal publication number table columns else Some (NotCovered publication number column)

abbrev pub filter_refusal : ℕ → ℕ → Table → Option Expr → Option CheckError
filter_refusal publication number table None = None
filter_refusal publication number table (Some filter) =
    column_refusal publication number table (distinct_columns filter)

-- for the table with this number; the entries of a catalog are for tables that exist
abbrev pub carried_refusal : ℕ → ℕ → Option Table → Option Expr → Option CheckError
carried_refusal publication number None filter = None
carried_refusal publication number (Some table) filter = filter_refusal publication number table filter

abbrev pub entry_refusal : List Table → ℕ → EntryOf Expr → Option CheckError
entry_refusal tables publication entry =
    carried_refusal publication entry.table (slice_get tables entry.table) entry.filter

abbrev pub entries_refusal : List Table → ℕ → List (EntryOf Expr) → Option CheckError
entries_refusal tables publication [] = None
entries_refusal tables publication (entry ∷ entries) =
    earliest (entry_refusal tables publication entry) (entries_refusal tables publication entries)

abbrev pub taken_refusal : List Table → List Subscription → ℕ → List (EntryOf Expr) → Option CheckError
taken_refusal tables subscriptions number entries = if is_taken subscriptions number then
    entries_refusal tables number entries else None

-- the refusal of publications, the first of which has this number
abbrev pub covering_refusal : List Table → List Subscription → ℕ → List (PublicationOf Expr) → Option CheckError
covering_refusal tables subscriptions number [] = None
covering_refusal tables subscriptions number (publication ∷ publications) =
    earliest (taken_refusal tables subscriptions number publication.entries)
    (covering_refusal tables subscriptions (number + 1) publications)

-- ---- certificates; a test determines which terms have no value

-- the shares of a table that subscribers get; the first subscriber has this number
abbrev pub table_shares : PlanOf → ℕ → ℕ → List Subscription → List ShareOf
table_shares plan table number [] = []
table_shares plan table number (subscription ∷ subscriptions) =
    share_at plan number table ∷ table_shares plan table (number + 1) subscriptions

-- the refusal of the certificate of the table with this number
abbrev pub certificate_refusal : EmptyTest → PlanOf → List Subscription → ℕ → Table → Tree → Option CheckError
certificate_refusal is_empty plan subscriptions number table tree =
    first_refusal is_empty number table (table_shares plan number 0 subscriptions) tree

-- the refusal of the certificates of tables, the first of which has this number
abbrev pub certificates_refusal : EmptyTest → PlanOf → List Subscription → ℕ → List Table → List Tree
    → Option CheckError
certificates_refusal is_empty plan subscriptions number (table ∷ tables) (tree ∷ trees) =
    earliest (certificate_refusal is_empty plan subscriptions number table tree)
    (certificates_refusal is_empty plan subscriptions (number + 1) tables trees)
certificates_refusal is_empty plan subscriptions number tables trees = None

abbrev pub count_refusal : ℕ → ℕ → Option CheckError
count_refusal tables certificates = if certificates == tables then None else Some CertCount

-- ---- the first reason

-- the reasons that are found without looking at a filter or a certificate
abbrev pub declared_refusal : CatalogOf Expr → Option CheckError
declared_refusal catalog =
    earliest (publishing_refusal catalog.subscriptions 0 catalog.publications) (identity_refusal 0 catalog.tables)

abbrev pub catalog_refusal : CatalogOf Expr → Option CheckError
catalog_refusal catalog =
    earliest (publishing_refusal catalog.subscriptions 0 catalog.publications)
    (earliest (identity_refusal 0 catalog.tables)
    (covering_refusal catalog.tables catalog.subscriptions 0 catalog.publications))

abbrev pub sharding_refusal : EmptyTest → CatalogOf Expr → PlanOf → List Tree → Option CheckError
sharding_refusal is_empty catalog plan trees =
    earliest (catalog_refusal catalog)
    (earliest (count_refusal (length catalog.tables) (length trees))
    (certificates_refusal is_empty plan catalog.subscriptions 0 catalog.tables trees))
