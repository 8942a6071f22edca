-- The check of a certificate node by node, in the order in which it is written. What still follows is determined by the
-- path: after a leaf, its last entry that is not null has the next of its values. Certificates are specific to this
-- project, and no section of PostgreSQL's documentation describes them.
use Rattle.std.specs.Prelude.{◌≡◌, ◌≢◌, ℕ, ◌+◌, Bool, true, false, List, [], ◌∷◌, ◌++◌, length, Option, Some, None, Result, Ok, Err, slice_get}
use Rattle.std.specs.Option.{option_map}
use Rattle.filter_tree.specs.Expr.{Expr, AtomOf}
use Rattle.filter_tree.specs.Paths.{Path, path_view}
use Rattle.filter_tree.specs.declared.table.Table.{Table}
use Rattle.filter_tree.specs.declared.tri.Tri.{Tri}
use Rattle.filter_tree.specs.declared.tri.Tri.TheVariants.{True, False, Null}
use Rattle.pub_catalog.specs.Catalogs.{CatalogOf}
use Rattle.pub_catalog.specs.declared.catalog.Subscription.{Subscription}
use Rattle.replica_identity.specs.Plans.{PlanOf}
use Rattle.replica_identity.specs.Shares.{ShareOf}
use Rattle.split_cert.specs.declared.node.Node.{Node}
use Rattle.split_cert.specs.declared.node.Node.TheVariants.{Split, Owner, Empty, NeverNull}
use Rattle.shard_checker.specs.CatalogRefusal.{table_shares, catalog_refusal, count_refusal}
use Rattle.shard_checker.specs.Claims.{refusal_due}
use Rattle.shard_checker.specs.Emptiness.{EmptyTest}
use Rattle.shard_checker.specs.Refusal.{Subject, subject_of, later, earliest, owner_refusal, empty_refusal, never_null_refusal, subject_view}
use Rattle.shard_checker.specs.declared.subject.Subject as d
use Rattle.shard_checker.specs.declared.error.CheckError.{CheckError}
use Rattle.shard_checker.specs.declared.error.CheckError.TheVariants.{BadIndex, OutOfMemory}
use Rattle.shard_checker.specs.declared.walk.Walk.{Walk}

-- where the next node comes: at the end of a path, or nowhere, the number that it has, and what is wrong with a node
-- before it
pub record Place : Type 0 where
  pub path : Option Path
  pub node : ℕ
  pub due : Option CheckError

abbrev pub place_at : Option Path → ℕ → Option CheckError → Place
place_at path node due = record { path = path; node = node; due = due }

-- a certificate begins
abbrev pub beginning : Place
beginning = place_at (Some []) 0 None

-- ---- the next branch

-- an entry with the value of the next branch of its split
abbrev pub next_branch : AtomOf → Tri → Option Path
next_branch atom True = Some ((atom, False) ∷ [])
next_branch atom False = Some ((atom, Null) ∷ [])
next_branch atom Null = None

abbrev pub moved : AtomOf × Tri → Option Path → Option Path
moved entry (Some path) = Some (entry ∷ path)
moved entry None = next_branch entry.0 entry.1

-- the path of the node after a leaf
abbrev pub onward : Path → Option Path
onward [] = None
onward (entry ∷ path) = moved entry (onward path)

-- ---- a node

abbrev pub known_atom : Subject → ℕ → Option AtomOf → Option CheckError
known_atom subject node None = Some (BadIndex subject.table node)
known_atom subject node (Some atom) = None

-- what is wrong with a node at the end of a path, without a split's branches
abbrev pub node_refusal : EmptyTest → Subject → Node → Path → ℕ → Option CheckError
node_refusal is_empty subject (Split index) path node = known_atom subject node (slice_get subject.atoms index)
node_refusal is_empty subject (Owner subscriber) path node =
    owner_refusal subject path node subscriber (slice_get subject.shares subscriber)
node_refusal is_empty subject (Empty term) path node =
    empty_refusal is_empty subject path node (slice_get subject.terms term)
node_refusal is_empty subject (NeverNull index) path node =
    never_null_refusal subject path node (slice_get subject.atoms index)

-- the path of the node after this one
abbrev pub path_after : Subject → Node → Path → Option Path
path_after subject (Split index) path = option_map (λ atom. path ++ (atom, True) ∷ []) (slice_get subject.atoms index)
path_after subject (Owner subscriber) path = onward path
path_after subject (Empty term) path = onward path
path_after subject (NeverNull index) path = onward path

-- ---- nodes

-- the first refusal of nodes, as far as they are those of one certificate
abbrev pub walk : EmptyTest → Subject → List Node → Option Path → ℕ → Option CheckError
walk is_empty subject [] path node = None
walk is_empty subject (first ∷ nodes) None node = None
walk is_empty subject (first ∷ nodes) (Some path) node =
    earliest (node_refusal is_empty subject first path node)
    (walk is_empty subject nodes (path_after subject first path) (later node 1))

abbrev pub walk_from : EmptyTest → Subject → List Node → Place → Option CheckError
walk_from is_empty subject nodes place = earliest place.due (walk is_empty subject nodes place.path place.node)

-- the first refusal in the nodes of the certificate of the table with this number
abbrev pub nodes_refusal : EmptyTest → ℕ → Table → List ShareOf → List Node → Option CheckError
nodes_refusal is_empty number table shares nodes =
    walk is_empty (subject_of number table.columns shares) nodes (Some []) 0

-- the first refusal in the nodes of the certificates of tables, the first of which has this number
abbrev pub tables_refusal : EmptyTest → PlanOf → List Subscription → ℕ → List Table → List (List Node)
    → Option CheckError
tables_refusal is_empty plan subscriptions number (table ∷ tables) (nodes ∷ certificates) =
    earliest (nodes_refusal is_empty number table (table_shares plan number 0 subscriptions) nodes)
    (tables_refusal is_empty plan subscriptions (number + 1) tables certificates)
tables_refusal is_empty plan subscriptions number tables certificates = None

-- the first reason to refuse a sharding; the certificates are given by their nodes
abbrev pub refusal_by_nodes : EmptyTest → CatalogOf Expr → PlanOf → List (List Node) → Option CheckError
refusal_by_nodes is_empty catalog plan certificates =
    earliest (catalog_refusal catalog)
    (earliest (count_refusal (length catalog.tables) (length certificates))
    (tables_refusal is_empty plan catalog.subscriptions 0 catalog.tables certificates))

-- ---- the program's walk

abbrev pub path_unless : Bool → Path → Option Path
path_unless true path = None
path_unless false path = Some path

abbrev pub path_of : {A : _} → Walk A → Option Path
path_of walk = path_unless walk.is_over (path_view walk.path.items)

-- what is wrong with an owner's node that is still to be checked
abbrev pub due_of : {A : _} → d.Subject A → Walk A → Option CheckError
due_of subject walk = refusal_due (subject_view subject) subject.formulas.now walk.claims

abbrev pub place_of : {A : _} → d.Subject A → Walk A → Place
place_of subject walk = place_at (path_of walk) walk.node (due_of subject walk)

-- the nodes are refused from one place as the nodes that are left are refused from another, whatever comes after them
pub record Passes (is_empty : EmptyTest) (subject : Subject) (nodes : List Node) (old : Place) (left : List Node)
    (new : Place) : Type 0 where
  pub each : (more : List Node)
      → walk_from is_empty subject (nodes ++ more) old ≡ walk_from is_empty subject (left ++ more) new

-- nodes are refused by this error, whatever comes after them
pub record Stops (is_empty : EmptyTest) (subject : Subject) (nodes : List Node) (old : Place)
    (error : CheckError) : Type 0
  where
    pub each : (more : List Node) → walk_from is_empty subject (nodes ++ more) old ≡ Some error

-- the result of a walk over nodes from one place to another; out of memory may come instead of any other error
abbrev pub Walks : {A : Type 0} → EmptyTest → Subject → List Node → Place → Place → Result A CheckError → Type 0
Walks is_empty subject nodes old new (Ok value) = Passes is_empty subject nodes old [] new
Walks is_empty subject nodes old new (Err error) = error ≢ OutOfMemory → Stops is_empty subject nodes old error
