-- The first refusal in a tree's nodes is that of the tree.
use Rattle.std.proofs.Common.{◌≡◌, ℕ, ◌+◌, List, [], ◌∷◌, ◌++◌, length, map, refl, sym, ap, ◌∙◌, append_assoc, arith}
use Rattle.std.specs.Prelude.{Option, Some, None, slice_get}
use Rattle.std.specs.Option.{option_map}
use Rattle.std.proofs.lemmas.List.{append-nil, length-map}
use Rattle.filter_tree.specs.Expr.{Expr, AtomOf}
use Rattle.filter_tree.specs.Paths.{Path}
use Rattle.filter_tree.specs.declared.table.Table.{Table}
use Rattle.filter_tree.specs.declared.tri.Tri.TheVariants.{True, False, Null}
use Rattle.pub_catalog.specs.Catalogs.{CatalogOf}
use Rattle.pub_catalog.specs.declared.catalog.Subscription.{Subscription}
use Rattle.replica_identity.specs.Plans.{PlanOf}
use Rattle.replica_identity.specs.Shares.{ShareOf}
use Rattle.split_cert.specs.declared.cert.Cert.{Cert}
use Rattle.split_cert.specs.declared.node.Node.{Node}
use Rattle.split_cert.specs.Nodes.{preorder}
use Rattle.split_cert.specs.Tree.{Tree, Split, Owner, Empty, NeverNull, nodes}
use Rattle.split_cert.specs.Where.{tree_view}
use Rattle.shard_checker.specs.CatalogRefusal.{table_shares, catalog_refusal, count_refusal, certificate_refusal, certificates_refusal, sharding_refusal}
use Rattle.shard_checker.specs.Emptiness.{EmptyTest}
use Rattle.shard_checker.specs.Refusal.{Subject, subject_of, later, earliest, split_refusal, refusal, first_refusal}
use Rattle.shard_checker.specs.Walking.{onward, known_atom, walk, nodes_refusal, tables_refusal, refusal_by_nodes}
use Rattle.shard_checker.specs.declared.error.CheckError.{CheckError}
use Rattle.shard_checker.proofs.OnwardLemmas.{onward_true, onward_false, onward_null}

three_first : (a b c d : Option CheckError)
    → earliest a (earliest b (earliest c d)) ≡ earliest (earliest a (earliest b c)) d
three_first None None c d = refl
three_first None (Some error) c d = refl
three_first (Some error) b c d = refl

-- the nodes of a tree at the end of a path, and then others
abbrev Walked : EmptyTest → Subject → Tree → Type 0
Walked is_empty subject tree =
    (more : List Node) (path : Path) (node : ℕ) → walk is_empty subject (preorder tree ++ more) (Some path) node
    ≡ earliest (refusal is_empty subject tree path node)
    (walk is_empty subject more (onward path) (later node (nodes tree)))

regrouped : (t f u more : List Node) → (t ++ f ++ u) ++ more ≡ t ++ (f ++ (u ++ more))
regrouped t f u more = simp append_assoc refl

module _ (is_empty : EmptyTest) (subject : Subject) (t f u : Tree) (one : Walked is_empty subject t)
    (two : Walked is_empty subject f) (three : Walked is_empty subject u) (more : List Node) (path : Path) (node : ℕ)
  where
    branches_walked : (atom : AtomOf)
        → walk is_empty subject ((preorder t ++ preorder f ++ preorder u) ++ more) (Some (path ++ (atom, True) ∷ []))
        (later node 1)
        ≡ earliest (split_refusal subject path node (Some atom)
        (λ longer. refusal is_empty subject t longer (later node 1))
        (λ longer. refusal is_empty subject f longer (later (later node 1) (nodes t)))
        (λ longer. refusal is_empty subject u longer (later (later (later node 1) (nodes t)) (nodes f))))
        (walk is_empty subject more (onward path) (later node (1 + nodes t + nodes f + nodes u)))
    branches_walked atom =
        let n1 = later node 1 in
        let n2 = later n1 (nodes t) in
        let n3 = later n2 (nodes f) in
        let p1 = path ++ (atom, True) ∷ [] in
        let p2 = path ++ (atom, False) ∷ [] in
        let p3 = path ++ (atom, Null) ∷ [] in
        let r1 = refusal is_empty subject t p1 n1 in
        let r2 = refusal is_empty subject f p2 n2 in
        let r3 = refusal is_empty subject u p3 n3 in
        let last : later n3 (nodes u) ≡ later node (1 + nodes t + nodes f + nodes u) = omega arith in
        ap (λ ns. walk is_empty subject ns (Some p1) n1) (regrouped (preorder t) (preorder f) (preorder u) more)
        ∙ one (preorder f ++ (preorder u ++ more)) p1 n1
        ∙ ap (λ p. earliest r1 (walk is_empty subject (preorder f ++ (preorder u ++ more)) p n2))
        (onward_true path atom)
        ∙ ap (earliest r1) (two (preorder u ++ more) p2 n2)
        ∙ ap (λ p. earliest r1 (earliest r2 (walk is_empty subject (preorder u ++ more) p n3))) (onward_false path atom)
        ∙ ap (λ x. earliest r1 (earliest r2 x)) (three more p3 n3)
        ∙ ap (λ p. earliest r1 (earliest r2 (earliest r3 (walk is_empty subject more p (later n3 (nodes u))))))
        (onward_null path atom)
        ∙ ap (λ n. earliest r1 (earliest r2 (earliest r3 (walk is_empty subject more (onward path) n)))) last
        ∙ three_first r1 r2 r3 (walk is_empty subject more (onward path) (later node (1 + nodes t + nodes f + nodes u)))

    split_walked : (found : Option AtomOf) → earliest (known_atom subject node found)
        (walk is_empty subject ((preorder t ++ preorder f ++ preorder u) ++ more)
        (option_map (λ atom. path ++ (atom, True) ∷ []) found) (later node 1))
        ≡ earliest (split_refusal subject path node found
        (λ longer. refusal is_empty subject t longer (later node 1))
        (λ longer. refusal is_empty subject f longer (later (later node 1) (nodes t)))
        (λ longer. refusal is_empty subject u longer (later (later (later node 1) (nodes t)) (nodes f))))
        (walk is_empty subject more (onward path) (later node (1 + nodes t + nodes f + nodes u)))
    split_walked None = refl
    split_walked (Some atom) = branches_walked atom

tree_walked : (is_empty : EmptyTest) (subject : Subject) (tree : Tree) → Walked is_empty subject tree
tree_walked is_empty subject (Split index t f u) more path node =
    split_walked is_empty subject t f u (tree_walked is_empty subject t) (tree_walked is_empty subject f)
    (tree_walked is_empty subject u) more path node (slice_get subject.atoms index)
tree_walked is_empty subject (Owner subscriber) more path node = refl
tree_walked is_empty subject (Empty term) more path node = refl
tree_walked is_empty subject (NeverNull index) more path node = refl

-- ---- certificates

with_none : (refusal : Option CheckError) → earliest refusal None ≡ refusal
with_none None = refl
with_none (Some error) = refl

pub tree_by_nodes : (is_empty : EmptyTest) (number : ℕ) (table : Table) (shares : List ShareOf) (tree : Tree)
    → nodes_refusal is_empty number table shares (preorder tree) ≡ first_refusal is_empty number table shares tree
tree_by_nodes is_empty number table shares tree =
    let subject = subject_of number table.columns shares in
    ap (λ ns. walk is_empty subject ns (Some []) 0) (sym (append-nil (preorder tree)))
    ∙ tree_walked is_empty subject tree [] [] 0
    ∙ with_none (refusal is_empty subject tree [] 0)

tables_by_nodes : (is_empty : EmptyTest) (plan : PlanOf) (subscriptions : List Subscription) (number : ℕ)
    (tables : List Table) (trees : List Tree)
    → tables_refusal is_empty plan subscriptions number tables (map preorder trees)
    ≡ certificates_refusal is_empty plan subscriptions number tables trees
tables_by_nodes is_empty plan subscriptions number [] trees = refl
tables_by_nodes is_empty plan subscriptions number (table ∷ tables) [] = refl
tables_by_nodes is_empty plan subscriptions number (table ∷ tables) (tree ∷ trees) =
    ap (λ x. earliest x (tables_refusal is_empty plan subscriptions (number + 1) tables (map preorder trees)))
    (tree_by_nodes is_empty number table (table_shares plan number 0 subscriptions) tree)
    ∙ ap (earliest (certificate_refusal is_empty plan subscriptions number table tree))
    (tables_by_nodes is_empty plan subscriptions (number + 1) tables trees)

pub sharding_by_nodes : (is_empty : EmptyTest) (catalog : CatalogOf Expr) (plan : PlanOf) (trees : List Tree)
    → refusal_by_nodes is_empty catalog plan (map preorder trees) ≡ sharding_refusal is_empty catalog plan trees
sharding_by_nodes is_empty catalog plan trees =
    ap (λ n. earliest (catalog_refusal catalog)
    (earliest (count_refusal (length catalog.tables) n)
    (tables_refusal is_empty plan catalog.subscriptions 0 catalog.tables (map preorder trees))))
    (length-map trees preorder)
    ∙ ap (λ x. earliest (catalog_refusal catalog) (earliest (count_refusal (length catalog.tables) (length trees)) x))
    (tables_by_nodes is_empty plan catalog.subscriptions 0 catalog.tables trees)

each_tree : {A : _} (certs : List (Cert A))
    → map (λ cert. preorder (tree_view cert)) certs ≡ map preorder (map tree_view certs)
each_tree [] = refl
each_tree (cert ∷ certs) = ap (λ lists. preorder (tree_view cert) ∷ lists) (each_tree certs)

-- certificates as trees, given by their nodes
pub certs_by_nodes : {A : _} (is_empty : EmptyTest) (catalog : CatalogOf Expr) (plan : PlanOf) (certs : List (Cert A))
    → refusal_by_nodes is_empty catalog plan (map (λ cert. preorder (tree_view cert)) certs)
    ≡ sharding_refusal is_empty catalog plan (map tree_view certs)
certs_by_nodes is_empty catalog plan certs = ap (refusal_by_nodes is_empty catalog plan) (each_tree certs)
    ∙ sharding_by_nodes is_empty catalog plan (map tree_view certs)
