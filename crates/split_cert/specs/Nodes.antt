-- The nodes of a certificate as its text has them, one after another, and what comes after the last one that is read:
-- the end of the text, or its first fault. Certificates are specific to this project, and no section of PostgreSQL's
-- documentation describes them.
use Rattle.std.specs.Prelude.{◌≡◌, ℕ, zero, suc, ◌-◌, ◌==◌, Bool, true, false, if◌then◌else◌, List, [], ◌∷◌, ◌++◌, length, Option, Some, None, Result, Ok, Err}
use Rattle.split_cert.specs.declared.error.CertError.{CertError}
use Rattle.split_cert.specs.declared.error.CertError.TheVariants.{Trailing, TooDeep}
use Rattle.split_cert.specs.declared.head.Head.{Head}
use Rattle.split_cert.specs.declared.head.Kind.{Kind}
use Rattle.split_cert.specs.declared.head.Kind.TheVariants as k
use Rattle.split_cert.specs.declared.node.Node.{Node}
use Rattle.split_cert.specs.declared.node.Node.TheVariants.{Split, Owner, Empty, NeverNull}
use Rattle.split_cert.specs.Reading.{Here, Outcome, Rule, ◌>>◌, head, space, start}
use Rattle.split_cert.specs.Text.{certificate_of}
use Rattle.split_cert.specs.Tree.{Tree, max_splits}
use Rattle.split_cert.specs.Tree as T

-- nodes, and what comes after them
pub record Stream : Type 0 where
  pub nodes : List Node
  pub end : Result (Unit {0}) CertError

abbrev pub fault : CertError → Stream
fault error = record { nodes = []; end = Err error }

abbrev pub over : Stream
over = record { nodes = []; end = Ok tt }

-- with one more node before them
abbrev pub led : Node → Stream → Stream
led node stream = record { nodes = node ∷ stream.nodes; end = stream.end }

-- what is read at a place
abbrev pub Continues : Type 0
Continues = Here → Stream

abbrev pub node_of : Kind → ℕ → Node
node_of k.Split number = Split number
node_of k.Owner number = Owner number
node_of k.Empty number = Empty number
node_of k.NeverNull number = NeverNull number

-- after a node of this kind follow the branches of a split, or else what comes after the node
abbrev pub after_node : Continues → Continues → Kind → Continues
after_node branches more k.Split = branches
after_node branches more k.Owner = more
after_node branches more k.Empty = more
after_node branches more k.NeverNull = more

abbrev pub from_head : Continues → Continues → Outcome Head → Stream
from_head branches more (Ok read) =
    led (node_of read.0.kind read.0.number) (after_node branches more read.0.kind read.1)
from_head branches more (Err error) = fault error

abbrev pub from_space : Continues → Outcome (Unit {0}) → Stream
from_space more (Ok read) = more read.1
from_space more (Err error) = fault error

-- this number of branches, each after a space, by the rule for one branch, and then more
abbrev pub branches_nodes : (Continues → Continues) → ℕ → Continues → Continues
branches_nodes branch zero more = more
branches_nodes branch (suc count) more = λ here. from_space (branch (branches_nodes branch count more)) (space here)

-- a tree, on whose path this number of splits may still open, and then more
unfoldable pub tree_nodes : ℕ → Continues → Continues
tree_nodes zero more here = from_head (λ here. fault TooDeep) more (head zero here)
tree_nodes (suc n) more here = from_head (branches_nodes (tree_nodes n) 3 more) more (head (suc n) here)

-- nothing comes after a certificate
abbrev pub at_end : Continues
at_end here = if length here.rest == 0 then over else fault (Trailing here.place)

-- what comes after a node; for each open split, the last one first, this number of branches still follow
abbrev pub level_nodes : List ℕ → Continues
level_nodes [] = at_end
level_nodes (left ∷ levels) =
    branches_nodes (tree_nodes (max_splits - length (left ∷ levels))) left (level_nodes levels)

-- the nodes of a text
abbrev pub nodes_in : List ℕ → Stream
nodes_in text = tree_nodes max_splits at_end (start text)

-- ---- reading node by node

-- what a call of `next` returns, and what is left after it; after the end and after a fault it returns the same again
abbrev pub TakesNode : Stream → Result (Option Node) CertError → Stream → Type 0
TakesNode before (Ok (Some node)) after = before ≡ led node after
TakesNode before (Ok None) after = (before ≡ over) × (after ≡ before)
TakesNode before (Err error) after = (before ≡ fault error) × (after ≡ before)

-- ---- the tree of the nodes

-- a tree's nodes, a split before its branches
abbrev pub preorder : Tree → List Node
preorder (T.Split atom if_true if_false if_null) =
    Split atom ∷ preorder if_true ++ preorder if_false ++ preorder if_null
preorder (T.Owner subscriber) = Owner subscriber ∷ []
preorder (T.Empty term) = Empty term ∷ []
preorder (T.NeverNull atom) = NeverNull atom ∷ []

-- the nodes are those of the certificate that is read from a text, or they end with its fault
abbrev pub AreNodesOf : Result Tree CertError → Stream → Type 0
AreNodesOf (Ok tree) stream = (stream.nodes ≡ preorder tree) × (stream.end ≡ Ok tt)
AreNodesOf (Err error) stream = stream.end ≡ Err error

-- the law, for every text
abbrev pub NodesOfTexts : Type 0
NodesOfTexts = (text : List ℕ) → AreNodesOf (certificate_of text) (nodes_in text)

-- ---- splits that are open, the last one first, by how many of their branches still follow

-- without the last splits of which no branch follows
abbrev pub without_done : List ℕ → List ℕ
without_done [] = []
without_done (zero ∷ levels) = without_done levels
without_done (suc left ∷ levels) = suc left ∷ levels

-- a branch of the last split follows
abbrev pub is_due : List ℕ → Bool
is_due [] = true
is_due (zero ∷ levels) = false
is_due (suc left ∷ levels) = true

-- with a branch of the last split begun
abbrev pub with_begun : List ℕ → List ℕ
with_begun [] = []
with_begun (zero ∷ levels) = zero ∷ levels
with_begun (suc left ∷ levels) = left ∷ levels

-- after a node of this kind
abbrev pub entered : Kind → List ℕ → List ℕ
entered k.Split levels = 3 ∷ with_begun levels
entered k.Owner levels = with_begun levels
entered k.Empty levels = with_begun levels
entered k.NeverNull levels = with_begun levels

-- the words of the next node, which follow a space unless it is the first
abbrev pub due : Bool → ℕ → Rule Head
due false may_open = head may_open
due true may_open = space >> head may_open

-- what comes at a place, if a reader has read a node or none, and these splits are open
abbrev pub stream_at : Bool → List ℕ → Continues
stream_at false levels = tree_nodes max_splits at_end
stream_at true levels = level_nodes levels
