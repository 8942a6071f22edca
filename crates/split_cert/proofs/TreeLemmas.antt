-- A tree is read as a head and what comes after it.
use Rattle.std.proofs.Common.{◌≡◌, ℕ, zero, suc, ◌-◌, ◌<◌, Ok, Err, refl, arith}
use Rattle.split_cert.specs.declared.error.CertError.TheVariants.{TooDeep}
use Rattle.split_cert.specs.declared.head.Head.{Head}
use Rattle.split_cert.specs.declared.head.Kind.{Kind}
use Rattle.split_cert.specs.declared.head.Kind.TheVariants.{Split, Owner, Empty, NeverNull}
use Rattle.split_cert.specs.Reading.{Here, Rule, head}
use Rattle.split_cert.specs.Text.{tree, node, node_of, branch}
use Rattle.split_cert.specs.Tree.{Tree, nodes}
use Rattle.split_cert.specs.Tree as T

-- after a head that is not a split, no branch is read
same_behind : (one other : Rule Tree) (kind : Kind) (number : ℕ) (here : Here) → (kind ≡ Split → ⊥)
    → node_of one kind number here ≡ node_of other kind number here
same_behind one other Split number here none = absurd (none refl)
same_behind one other Owner number here none = refl
same_behind one other Empty number here none = refl
same_behind one other NeverNull number here none = refl

-- after a head that was read: the branches are those of a split that could open
pub tree_opens : (n : ℕ) (here : Here) (h : Head) (rest : Here) → head n here ≡ Ok (h, rest)
    → (h.kind ≡ Split → 0 < n) → tree n here ≡ node (branch (n - 1)) h rest
unfolding tree branch
tree_opens zero here h rest e opens =
    rw e (same_behind (λ here. Err TooDeep) (branch (0 - 1)) h.kind h.number rest
    (λ split. omega (arith, opens split)))
tree_opens (suc n) here h rest e opens = let k : suc n - 1 ≡ n = omega arith in rw (e, k) refl

pub some_nodes : (tree : Tree) → 0 < nodes tree
some_nodes (T.Split atom if_true if_false if_null) = omega arith
some_nodes (T.Owner subscriber) = omega arith
some_nodes (T.Empty term) = omega arith
some_nodes (T.NeverNull atom) = omega arith
