-- A certificate that is accepted is accepted whatever the number of the table: the number is only in refusals.
use Rattle.std.proofs.Common.{◌≡◌, ℕ, Bool, true, false, List, [], ◌∷◌, ◌++◌, refl}
use Rattle.std.specs.Prelude.{Option, Some, None, if◌then◌else◌, slice_get}
use Rattle.filter_tree.specs.Expr.{AtomOf}
use Rattle.filter_tree.specs.Paths.{Path}
use Rattle.filter_tree.specs.declared.filter.Term.{Term}
use Rattle.filter_tree.specs.declared.table.Table.{Table}
use Rattle.filter_tree.specs.declared.tri.Tri.TheVariants.{True, False, Null}
use Rattle.replica_identity.specs.Shares.{ShareOf}
use Rattle.shard_checker.specs.Emptiness.{EmptyTest}
use Rattle.shard_checker.specs.Facts.{is_never_null}
use Rattle.shard_checker.specs.Numbering.{numbered_atoms, numbered_terms}
use Rattle.shard_checker.specs.Owners.{must_take, second_owner}
use Rattle.shard_checker.specs.Refusal.{Subject, earliest, first_refusal, refusal, second_refusal, others_refusal, owner_refusal, empty_refusal, never_null_refusal, split_refusal, numbered_subject, later}
use Rattle.shard_checker.specs.declared.error.CheckError.{CheckError}
use Rattle.shard_checker.specs.declared.error.CheckError.TheVariants.{NotOwner, NotEmpty, MayBeNull}
use Rattle.split_cert.specs.Tree.{Tree, Split, Owner, Empty, NeverNull, nodes}
use Rattle.shard_checker.proofs.SoundLemmas.{first_none}

if_none : (b : Bool) (x y : Option CheckError) (e f : CheckError) → (x ≡ None → y ≡ None)
    → (if b then x else Some e) ≡ None → (if b then y else Some f) ≡ None
if_none true x y e f step h = step h
if_none false x y e f step h = absurd cc

both_none : (one next : Option CheckError) → one ≡ None → next ≡ None → earliest one next ≡ None
both_none None next e h = h
both_none (Some error) next e h = absurd cc

-- the subject, with another number for its table
abbrev renumbered : ℕ → Subject → Subject
renumbered number subject = numbered_subject number subject.columns subject.shares subject.atoms subject.terms

second_none : (number : ℕ) (subject : Subject) (node : ℕ) (found : Option ℕ)
    → second_refusal subject node found ≡ None → second_refusal (renumbered number subject) node found ≡ None
second_none number subject node None h = refl
second_none number subject node (Some second) h = absurd cc

owner_none : (number : ℕ) (subject : Subject) (path : Path) (node owner : ℕ) (found : Option ShareOf)
    → owner_refusal subject path node owner found ≡ None
    → owner_refusal (renumbered number subject) path node owner found ≡ None
owner_none number subject path node owner None h = absurd cc
owner_none number subject path node owner (Some share) h =
    if_none (must_take share path) (others_refusal subject path node owner)
    (others_refusal (renumbered number subject) path node owner) (NotOwner subject.table node)
    (NotOwner number node)
    (second_none number subject node (second_owner owner 0 subject.shares path)) h

empty_none : (is_empty : EmptyTest) (number : ℕ) (subject : Subject) (path : Path) (node : ℕ) (found : Option Term)
    → empty_refusal is_empty subject path node found ≡ None
    → empty_refusal is_empty (renumbered number subject) path node found ≡ None
empty_none is_empty number subject path node None h = absurd cc
empty_none is_empty number subject path node (Some term) h =
    if_none (is_empty subject.columns term path) None None (NotEmpty subject.table node) (NotEmpty number node)
    (λ e. e) h

never_null_none : (number : ℕ) (subject : Subject) (path : Path) (node : ℕ) (found : Option AtomOf)
    → never_null_refusal subject path node found ≡ None
    → never_null_refusal (renumbered number subject) path node found ≡ None
never_null_none number subject path node None h = absurd cc
never_null_none number subject path node (Some atom) h =
    if_none (is_never_null subject.columns atom path) None None (MayBeNull subject.table node) (MayBeNull number node)
    (λ e. e) h

three_none : (a b c d e f : Option CheckError) → (a ≡ None → d ≡ None) → (b ≡ None → e ≡ None) → (c ≡ None → f ≡ None)
    → earliest a (earliest b c) ≡ None → earliest d (earliest e f) ≡ None
three_none a b c d e f one two three h =
    let outer = first_none a (earliest b c) h in
    let inner = first_none b c outer.1 in
    both_none d (earliest e f) (one outer.0) (both_none e f (two inner.0) (three inner.1))

abbrev Refused : Type 0
Refused = Path → Option CheckError

split_none : (number : ℕ) (subject : Subject) (path : Path) (node : ℕ) (found : Option AtomOf) (a b c d e f : Refused)
    → ((longer : Path) → a longer ≡ None → d longer ≡ None) → ((longer : Path) → b longer ≡ None → e longer ≡ None)
    → ((longer : Path) → c longer ≡ None → f longer ≡ None)
    → split_refusal subject path node found a b c ≡ None
    → split_refusal (renumbered number subject) path node found d e f ≡ None
split_none number subject path node None a b c d e f one two three h = absurd cc
split_none number subject path node (Some atom) a b c d e f one two three h =
    three_none (a (path ++ (atom, True) ∷ [])) (b (path ++ (atom, False) ∷ [])) (c (path ++ (atom, Null) ∷ []))
    (d (path ++ (atom, True) ∷ [])) (e (path ++ (atom, False) ∷ [])) (f (path ++ (atom, Null) ∷ []))
    (one (path ++ (atom, True) ∷ [])) (two (path ++ (atom, False) ∷ [])) (three (path ++ (atom, Null) ∷ [])) h

none_renumbered : (is_empty : EmptyTest) (number : ℕ) (subject : Subject) (tree : Tree) (path : Path) (node : ℕ)
    → refusal is_empty subject tree path node ≡ None
    → refusal is_empty (renumbered number subject) tree path node ≡ None
none_renumbered is_empty number subject (Split index if_true if_false if_null) path node h =
    split_none number subject path node (slice_get subject.atoms index)
    (λ longer. refusal is_empty subject if_true longer (later node 1))
    (λ longer. refusal is_empty subject if_false longer (later (later node 1) (nodes if_true)))
    (λ longer. refusal is_empty subject if_null longer (later (later (later node 1) (nodes if_true)) (nodes if_false)))
    (λ longer. refusal is_empty (renumbered number subject) if_true longer (later node 1))
    (λ longer. refusal is_empty (renumbered number subject) if_false longer (later (later node 1) (nodes if_true)))
    (λ longer. refusal is_empty (renumbered number subject) if_null longer
    (later (later (later node 1) (nodes if_true)) (nodes if_false)))
    (λ longer. none_renumbered is_empty number subject if_true longer (later node 1))
    (λ longer. none_renumbered is_empty number subject if_false longer (later (later node 1) (nodes if_true)))
    (λ longer. none_renumbered is_empty number subject if_null longer
    (later (later (later node 1) (nodes if_true)) (nodes if_false)))
    h
none_renumbered is_empty number subject (Owner subscriber) path node h =
    owner_none number subject path node subscriber (slice_get subject.shares subscriber) h
none_renumbered is_empty number subject (Empty term) path node h =
    empty_none is_empty number subject path node (slice_get subject.terms term) h
none_renumbered is_empty number subject (NeverNull index) path node h =
    never_null_none number subject path node (slice_get subject.atoms index) h

pub accepted_anyhow : (test : EmptyTest) (one other : ℕ) (table : Table) (shares : List ShareOf) (tree : Tree)
    → first_refusal test one table shares tree ≡ None → first_refusal test other table shares tree ≡ None
accepted_anyhow test one other table shares tree h =
    none_renumbered test other
    (numbered_subject one table.columns shares (numbered_atoms shares) (numbered_terms shares)) tree [] 0 h
