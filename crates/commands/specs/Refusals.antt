-- The line of a refused sharding: `refused`, the refusal's name and its arguments, a space before each. Publications,
-- tables, columns and subscribers have the names of their catalog. The format is this program's own.
use Rattle.std.specs.Prelude.{ℕ, List, [], ◌∷◌, ◌++◌, codes}
use Rattle.std.specs.Fmt.{decimal}
use Rattle.filter_tree.specs.Expr.{Expr}
use Rattle.filter_tree.specs.declared.table.Table.{Table}
use Rattle.pub_catalog.specs.Catalogs.{CatalogOf}
use Rattle.shard_checker.specs.declared.error.CheckError.{CheckError}
use Rattle.shard_checker.specs.declared.error.CheckError.TheVariants as e
use Rattle.shard_checker.specs.declared.error.Operation.{Operation}
use Rattle.shard_checker.specs.declared.error.Operation.TheVariants as o
use Rattle.commands.specs.Names.{plain_column, plain_publication, spaced, subscriber_name, plain_table}

-- ---- words

abbrev pub operation_word : Operation → List ℕ
operation_word o.Insert = codes "insert"
operation_word o.Update = codes "update"
operation_word o.Delete = codes "delete"
operation_word o.Truncate = codes "truncate"

abbrev pub refusal_name : CheckError → List ℕ
refusal_name (e.PublishMissing publication operation) = codes "PublishMissing"
refusal_name (e.NoIdentity table) = codes "NoIdentity"
refusal_name (e.NotCovered publication table column) = codes "NotCovered"
refusal_name e.CertCount = codes "CertCount"
refusal_name (e.BadIndex table node) = codes "BadIndex"
refusal_name (e.NotEmpty table node) = codes "NotEmpty"
refusal_name (e.MayBeNull table node) = codes "MayBeNull"
refusal_name (e.NotOwner table node) = codes "NotOwner"
refusal_name (e.SecondOwner table node subscriber) = codes "SecondOwner"
refusal_name e.OutOfMemory = codes "OutOfMemory"

-- a table, and the number of a node of its certificate
abbrev pub node_words : List Table → ℕ → ℕ → List (List ℕ)
node_words tables table node = plain_table tables table ∷ decimal node ∷ []

-- and a subscriber that it gives rows to
abbrev pub owner_words : CatalogOf Expr → ℕ → ℕ → ℕ → List (List ℕ)
owner_words catalog table node subscriber =
    node_words catalog.tables table node ++ subscriber_name catalog.subscriptions subscriber ∷ []

-- a publication, and a table that it carries
abbrev pub entry_words : CatalogOf Expr → ℕ → ℕ → List (List ℕ)
entry_words catalog publication table =
    plain_publication catalog.publications publication ∷ plain_table catalog.tables table ∷ []

abbrev pub arguments_of : CatalogOf Expr → CheckError → List (List ℕ)
arguments_of catalog (e.PublishMissing publication operation) =
    plain_publication catalog.publications publication ∷ operation_word operation ∷ []
arguments_of catalog (e.NoIdentity table) = plain_table catalog.tables table ∷ []
arguments_of catalog (e.NotCovered publication table column) =
    entry_words catalog publication table ++ plain_column catalog.tables table column ∷ []
arguments_of catalog e.CertCount = []
arguments_of catalog (e.BadIndex table node) = node_words catalog.tables table node
arguments_of catalog (e.NotEmpty table node) = node_words catalog.tables table node
arguments_of catalog (e.MayBeNull table node) = node_words catalog.tables table node
arguments_of catalog (e.NotOwner table node) = node_words catalog.tables table node
arguments_of catalog (e.SecondOwner table node subscriber) = owner_words catalog table node subscriber
arguments_of catalog e.OutOfMemory = []

-- ---- the line

abbrev pub refused_line : CatalogOf Expr → CheckError → List ℕ
refused_line catalog error = codes "refused" ++ spaced (refusal_name error ∷ arguments_of catalog error)
