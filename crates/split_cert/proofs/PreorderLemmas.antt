-- The nodes of a text are those of the certificate that is read from it, or they end with its fault.
use Rattle.std.proofs.Common.{◌≡◌, ℕ, zero, suc, Bool, true, false, ◌==◌, List, ◌∷◌, ◌++◌, length, Ok, Err, refl, sym, ap, subst, ◌∙◌, append_assoc}
use Rattle.std.specs.Prelude.{if◌then◌else◌}
use Rattle.std.proofs.lemmas.List.{append-nil}
use Rattle.split_cert.specs.declared.error.CertError.TheVariants.{Trailing, TooDeep}
use Rattle.split_cert.specs.declared.head.Head.{Head}
use Rattle.split_cert.specs.declared.head.Kind.{Kind}
use Rattle.split_cert.specs.declared.head.Kind.TheVariants as k
use Rattle.split_cert.specs.declared.node.Node.{Node}
use Rattle.split_cert.specs.declared.node.Node.TheVariants.{Split}
use Rattle.split_cert.specs.Nodes.{Stream, Continues, NodesOfTexts, fault, over, led, node_of, after_node, from_head, from_space, tree_nodes, at_end, nodes_in, preorder, AreNodesOf}
use Rattle.split_cert.specs.Reading.{Here, Outcome, Rule, and_then, ◌>>=◌, ◌>>◌, pure, head, space, start}
use Rattle.split_cert.specs.Text as text
use Rattle.split_cert.specs.Tree.{Tree, max_splits}
use Rattle.split_cert.specs.Tree as T

-- with these nodes before the others
abbrev all_led : List Node → Stream → Stream
all_led nodes stream = record { nodes = nodes ++ stream.nodes; end = stream.end }

-- the stream has the nodes of the tree that was read, and then more, or ends with the fault
abbrev AreRead : Outcome Tree → Continues → Stream → Type 0
AreRead (Ok read) more stream = stream ≡ all_led (preorder read.0) (more read.1)
AreRead (Err error) more stream = stream.end ≡ Err error

-- nodes are read by a rule of their own, as a tree is read by its rule
abbrev Follows : Rule Tree → (Continues → Continues) → Type 0
Follows rule branch = (more : Continues) (here : Here) → AreRead (rule here) more (branch more here)

-- a branch, after a space
abbrev spaced : (Continues → Continues) → Continues → Continues
spaced branch more here = from_space (branch more) (space here)

spaced_by : (rule : Rule Tree) (branch : Continues → Continues) → Follows rule branch
    → (more : Continues) (read : Outcome (Unit {0}))
    → AreRead (and_then read (λ _. rule)) more (from_space (branch more) read)
spaced_by rule branch follows more (Ok read) = follows more read.1
spaced_by rule branch follows more (Err error) = refl

-- ---- a split

regrouped : (t f u rest : List Node) → t ++ (f ++ (u ++ rest)) ≡ (t ++ f ++ u) ++ rest
regrouped t f u rest = simp append_assoc refl

third : (rule : Rule Tree) (branch : Continues → Continues) → Follows rule branch
    → (atom : ℕ) (t f : Tree) (more : Continues) (here : Here) (outcome : Outcome Tree) → rule here ≡ outcome
    → AreRead (and_then outcome (λ u. pure (T.Split atom t f u))) more
    (led (Split atom) (all_led (preorder t) (all_led (preorder f) (branch more here))))
third rule branch follows atom t f more here (Ok read) e =
    let last : branch more here ≡ all_led (preorder read.0) (more read.1) =
    subst (λ (o : Outcome Tree). AreRead o more (branch more here)) e (follows more here) in
    ap (λ stream. led (Split atom) (all_led (preorder t) (all_led (preorder f) stream))) last
    ∙ ap (λ nodes. record { nodes = Split atom ∷ nodes; end = (more read.1).end })
    (regrouped (preorder t) (preorder f) (preorder read.0) (more read.1).nodes)
third rule branch follows atom t f more here (Err error) e =
    subst (λ (o : Outcome Tree). AreRead o more (branch more here)) e (follows more here)

second : (rule : Rule Tree) (branch : Continues → Continues) → Follows rule branch
    → (atom : ℕ) (t : Tree) (more : Continues) (here : Here) (outcome : Outcome Tree) → rule here ≡ outcome
    → AreRead (and_then outcome (λ f. rule >>= (λ u. pure (T.Split atom t f u)))) more
    (led (Split atom) (all_led (preorder t) (branch (branch more) here)))
second rule branch follows atom t more here (Ok read) e =
    let last : branch (branch more) here ≡ all_led (preorder read.0) (branch more read.1) =
    subst (λ (o : Outcome Tree). AreRead o (branch more) (branch (branch more) here)) e
    (follows (branch more) here) in
    subst (AreRead (and_then (rule read.1) (λ u. pure (T.Split atom t read.0 u))) more)
    (ap (λ stream. led (Split atom) (all_led (preorder t) stream)) (sym last))
    (third rule branch follows atom t read.0 more read.1 (rule read.1) refl)
second rule branch follows atom t more here (Err error) e =
    subst (λ (o : Outcome Tree). AreRead o (branch more) (branch (branch more) here)) e (follows (branch more) here)

first : (rule : Rule Tree) (branch : Continues → Continues) → Follows rule branch
    → (atom : ℕ) (more : Continues) (here : Here) (outcome : Outcome Tree) → rule here ≡ outcome
    → AreRead (and_then outcome (λ t. rule >>= (λ f. rule >>= (λ u. pure (T.Split atom t f u))))) more
    (led (Split atom) (branch (branch (branch more)) here))
first rule branch follows atom more here (Ok read) e =
    let last : branch (branch (branch more)) here ≡ all_led (preorder read.0) (branch (branch more) read.1) =
    subst (λ (o : Outcome Tree). AreRead o (branch (branch more)) (branch (branch (branch more)) here)) e
    (follows (branch (branch more)) here) in
    subst (AreRead (and_then (rule read.1) (λ f. rule >>= (λ u. pure (T.Split atom read.0 f u)))) more)
    (ap (led (Split atom)) (sym last))
    (second rule branch follows atom read.0 more read.1 (rule read.1) refl)
first rule branch follows atom more here (Err error) e =
    subst (λ (o : Outcome Tree). AreRead o (branch (branch more)) (branch (branch (branch more)) here)) e
    (follows (branch (branch more)) here)

split_read : (rule : Rule Tree) (branch : Continues → Continues) → Follows rule branch
    → (atom : ℕ) (more : Continues) (here : Here)
    → AreRead (text.branches rule atom here) more (led (Split atom) (branch (branch (branch more)) here))
unfolding text.branches
split_read rule branch follows atom more here = first rule branch follows atom more here (rule here) refl

-- ---- a tree

node_read : (rule : Rule Tree) (branch : Continues → Continues) → Follows rule branch
    → (kind : Kind) (number : ℕ) (more : Continues) (here : Here)
    → AreRead (text.node_of rule kind number here) more
    (led (node_of kind number) (after_node (branch (branch (branch more))) more kind here))
node_read rule branch follows k.Split number more here = split_read rule branch follows number more here
node_read rule branch follows k.Owner number more here = refl
node_read rule branch follows k.Empty number more here = refl
node_read rule branch follows k.NeverNull number more here = refl

flat_read : (kind : Kind) (number : ℕ) (more : Continues) (here : Here)
    → AreRead (text.node_of (λ here. Err TooDeep) kind number here) more
    (led (node_of kind number) (after_node (λ here. fault TooDeep) more kind here))
unfolding text.branches
flat_read k.Split number more here = refl
flat_read k.Owner number more here = refl
flat_read k.Empty number more here = refl
flat_read k.NeverNull number more here = refl

flat_from : (more : Continues) (read : Outcome Head)
    → AreRead (and_then read (text.node (λ here. Err TooDeep))) more (from_head (λ here. fault TooDeep) more read)
flat_from more (Ok read) = flat_read read.0.kind read.0.number more read.1
flat_from more (Err error) = refl

read_from : (rule : Rule Tree) (branch : Continues → Continues) → Follows rule branch
    → (more : Continues) (read : Outcome Head)
    → AreRead (and_then read (text.node rule)) more (from_head (branch (branch (branch more))) more read)
read_from rule branch follows more (Ok read) = node_read rule branch follows read.0.kind read.0.number more read.1
read_from rule branch follows more (Err error) = refl

tree_read : (n : ℕ) → Follows (text.tree n) (tree_nodes n)
unfolding text.tree tree_nodes
tree_read zero more here = flat_from more (head zero here)
tree_read (suc n) more here =
    read_from (space >> text.tree n) (spaced (tree_nodes n))
    (λ more here. spaced_by (text.tree n) (tree_nodes n) (tree_read n) more (space here)) more (head (suc n) here)

-- ---- a text

ended : (b : Bool) (t : Tree) (here : Here)
    → AreNodesOf (if b then Ok t else Err (Trailing here.place))
    (all_led (preorder t) (if b then over else fault (Trailing here.place)))
ended true t here = (append-nil (preorder t), refl)
ended false t here = refl

alone_read : (outcome : Outcome Tree) (stream : Stream) → AreRead outcome at_end stream
    → AreNodesOf (text.alone outcome) stream
alone_read (Ok read) stream h =
    subst (AreNodesOf (text.alone (Ok read))) (sym h) (ended (length read.1.rest == 0) read.0 read.1)
alone_read (Err error) stream h = h

pub nodes_of_texts : NodesOfTexts
unfolding text.certificate_of
nodes_of_texts bytes =
    alone_read (text.tree max_splits (start bytes)) (nodes_in bytes) (tree_read max_splits at_end (start bytes))
