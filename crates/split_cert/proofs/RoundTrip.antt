-- What is read is spelled like this, and what is spelled like this is read.
use Rattle.std.proofs.Common.{◌≡◌, ℕ, zero, suc, ◌+◌, ◌-◌, ◌≤◌, Bool, true, false, ◌==◌, List, [], ◌∷◌, ◌++◌, length, Result, Ok, Err, refl, sym, ap, subst, ◌∙◌, append_assoc, arith}
use Rattle.std.specs.Prelude.{if◌then◌else◌, IfOk}
use Rattle.std.proofs.lemmas.Bool.{eqb-true}
use Rattle.std.proofs.lemmas.List.{append-nil, length-append, nil_from_length}
use Rattle.filter_tree.specs.Memory.{Answers}
use Rattle.split_cert.specs.declared.error.CertError.{CertError}
use Rattle.split_cert.specs.declared.error.CertError.TheVariants.{Trailing, TooDeep}
use Rattle.split_cert.specs.declared.head.Kind.{Kind}
use Rattle.split_cert.specs.declared.head.Kind.TheVariants.{Split, Owner, Empty, NeverNull}
use Rattle.split_cert.specs.Reading.{Here, Outcome, Rule, ◌>>=◌, ◌>>◌, pure, start, space, head, cert_fault}
use Rattle.split_cert.specs.Text.{words_of, cert_text, branches, node_of, node, tree, branch, alone, certificate_of, IsCertificateOf}
use Rattle.split_cert.specs.Tree.{Tree, nodes, splits_deep, HasNumbers, max_nodes, max_splits, IsWithinLimits}
use Rattle.split_cert.specs.Tree as T
use Rattle.split_cert.proofs.WordLemmas.{at, bind_ok, ok_is, EndsWord, not_zero, space_takes}
use Rattle.split_cert.proofs.HeadLemmas.{TakesHead, head_takes, head_again, space_again}
use Rattle.split_cert.proofs.TreeLemmas.{tree_opens}

-- ---- what is read is spelled like this

-- a rule read a tree with at most this number of splits on a path
pub record TakesTree (may_open : ℕ) (here : Here) (text : List ℕ) (t : Tree) (after : Here) : Type 0 where
  pub parts : here.rest ≡ text ++ after.rest
  pub nodes : after.nodes ≡ here.nodes + nodes t
  pub few : after.nodes ≤ max_nodes
  pub shallow : splits_deep t ≤ may_open
  pub numbers : HasNumbers t

-- what a rule that reads a branch consumes
abbrev TakesBranch : ℕ → Rule Tree → Type 0
TakesBranch may_open rule = (here : Here) (y : Tree × Here) → rule here ≡ Ok y
    → TakesTree may_open here (32 ∷ cert_text y.0) y.0 y.1

-- the text of three branches, and what comes after it
abbrev branch_texts : List ℕ → List ℕ → List ℕ → List ℕ → List ℕ
branch_texts t f u rest = 32 ∷ (t ++ (32 ∷ (f ++ (32 ∷ (u ++ rest)))))

regrouped : (words t f u rest : List ℕ)
    → words ++ branch_texts t f u rest ≡ (words ++ 32 ∷ t ++ 32 ∷ f ++ 32 ∷ u) ++ rest
regrouped words t f u rest = simp append_assoc refl

split_takes : (may_open : ℕ) (rule : Rule Tree) (atom : ℕ) (here behind : Here) (y : Tree × Here)
    → TakesBranch may_open rule → TakesHead (suc may_open) here (record { kind = Split; number = atom }) behind
    → branches rule atom behind ≡ Ok y → TakesTree (suc may_open) here (cert_text y.0) y.0 y.1
unfolding branches
split_takes may_open rule atom here behind y takes begins e =
    let a = bind_ok (rule behind)
    (λ if_true. rule >>= (λ if_false. rule >>= (λ if_null. pure (T.Split atom if_true if_false if_null)))) y e in
    let b = bind_ok (rule a.0.1) (λ if_false. rule >>= (λ if_null. pure (T.Split atom a.0.0 if_false if_null))) y a.2 in
    let c = bind_ok (rule b.0.1) (λ if_null. pure (T.Split atom a.0.0 b.0.0 if_null)) y b.2 in
    let t = takes behind a.0 a.1 in
    let f = takes a.0.1 b.0 b.1 in
    let u = takes b.0.1 c.0 c.1 in
    let text : behind.rest ≡ branch_texts (cert_text a.0.0) (cert_text b.0.0) (cert_text c.0.0) c.0.1.rest =
    t.parts ∙ ap (λ r. 32 ∷ (cert_text a.0.0 ++ r)) (f.parts ∙ ap (λ r. 32 ∷ (cert_text b.0.0 ++ r)) u.parts) in
    subst (λ (y : Tree × Here). TakesTree (suc may_open) here (cert_text y.0) y.0 y.1)
    (ok_is (T.Split atom a.0.0 b.0.0 c.0.0, c.0.1) y c.2) (record {
      parts = begins.parts ∙ ap (λ r. words_of Split atom ++ r) text
          ∙ regrouped (words_of Split atom) (cert_text a.0.0) (cert_text b.0.0) (cert_text c.0.0) c.0.1.rest;
      nodes = omega (arith, begins.nodes, t.nodes, f.nodes, u.nodes);
      few = u.few;
      shallow = omega (arith, t.shallow, f.shallow, u.shallow);
      numbers = (begins.number, t.numbers, f.numbers, u.numbers);
    })

leaf_takes : (may_open : ℕ) (kind : Kind) (number : ℕ) (here behind : Here) (t : Tree) (y : Tree × Here)
    → TakesHead may_open here (record { kind = kind; number = number }) behind
    → cert_text t ≡ words_of kind number → nodes t ≡ 1 → splits_deep t ≡ 0 → HasNumbers t → pure t behind ≡ Ok y
    → TakesTree may_open here (cert_text y.0) y.0 y.1
leaf_takes may_open kind number here behind t y begins spelled one flat numbers e =
    subst (λ (y : Tree × Here). TakesTree may_open here (cert_text y.0) y.0 y.1) (ok_is (t, behind) y e) (record {
      parts = begins.parts ∙ ap (λ (text : List ℕ). text ++ behind.rest) (sym spelled);
      nodes = omega (arith, begins.nodes, one);
      few = begins.few;
      shallow = omega (arith, flat);
      numbers = numbers;
    })

-- after a head, if a split's branches are read by a rule
node_takes : (may_open : ℕ) (rule : Rule Tree) (kind : Kind) (number : ℕ) (here behind : Here) (y : Tree × Here)
    → TakesBranch may_open rule
    → TakesHead (suc may_open) here (record { kind = kind; number = number }) behind
    → node_of rule kind number behind ≡ Ok y → TakesTree (suc may_open) here (cert_text y.0) y.0 y.1
node_takes may_open rule Split number here behind y takes begins e =
    split_takes may_open rule number here behind y takes begins e
node_takes may_open rule Owner number here behind y takes begins e =
    leaf_takes (suc may_open) Owner number here behind (T.Owner number) y begins refl refl refl begins.number e
node_takes may_open rule Empty number here behind y takes begins e =
    leaf_takes (suc may_open) Empty number here behind (T.Empty number) y begins refl refl refl begins.number e
node_takes may_open rule NeverNull number here behind y takes begins e =
    leaf_takes (suc may_open) NeverNull number here behind (T.NeverNull number) y begins refl refl refl begins.number
    e

-- if no split may open
flat_takes : (rule : Rule Tree) (kind : Kind) (number : ℕ) (here behind : Here) (y : Tree × Here)
    → TakesHead 0 here (record { kind = kind; number = number }) behind → node_of rule kind number behind ≡ Ok y
    → TakesTree 0 here (cert_text y.0) y.0 y.1
flat_takes rule Split number here behind y begins e = absurd (let h = begins.opens refl in omega arith)
flat_takes rule Owner number here behind y begins e =
    leaf_takes 0 Owner number here behind (T.Owner number) y begins refl refl refl begins.number e
flat_takes rule Empty number here behind y begins e =
    leaf_takes 0 Empty number here behind (T.Empty number) y begins refl refl refl begins.number e
flat_takes rule NeverNull number here behind y begins e =
    leaf_takes 0 NeverNull number here behind (T.NeverNull number) y begins refl refl refl begins.number e

branch_takes : (may_open : ℕ) (rule : Rule Tree)
    → ((here : Here) (y : Tree × Here) → rule here ≡ Ok y → TakesTree may_open here (cert_text y.0) y.0 y.1)
    → TakesBranch may_open (space >> rule)
branch_takes may_open rule takes here y e =
    let a = bind_ok (space here) (λ _. rule) y e in
    let spaces = space_takes here a.0 a.1 in
    let t = takes a.0.1 y a.2 in
    record {
      parts = spaces.parts ∙ ap (λ r. 32 ∷ r) t.parts;
      nodes = omega (arith, spaces.nodes, t.nodes);
      few = t.few;
      shallow = t.shallow;
      numbers = t.numbers;
    }

tree_takes : (may_open : ℕ) (here : Here) (y : Tree × Here) → tree may_open here ≡ Ok y
    → TakesTree may_open here (cert_text y.0) y.0 y.1
unfolding tree
tree_takes zero here y e =
    let a = bind_ok (head zero here) (node (λ here. Err TooDeep)) y e in
    flat_takes (λ here. Err TooDeep) a.0.0.kind a.0.0.number here a.0.1 y (head_takes zero here a.0 a.1) a.2
tree_takes (suc n) here y e =
    let a = bind_ok (head (suc n) here) (node (space >> tree n)) y e in
    node_takes n (space >> tree n) a.0.0.kind a.0.0.number here a.0.1 y
    (branch_takes n (tree n) (λ here y e. tree_takes n here y e)) (head_takes (suc n) here a.0 a.1) a.2

if_alone : (b : Bool) (place : ℕ) (x t : Tree) → (if b then Ok x else Err (Trailing place)) ≡ Ok t → (b ≡ true)
    × (x ≡ t)
if_alone true place x t e = (refl, ok_is x t e)
if_alone false place x t e = absurd cc

alone_takes : (outcome : Outcome Tree) (t : Tree) → alone outcome ≡ Ok t → (y : Tree × Here) × (outcome ≡ Ok y)
    × (y.0 ≡ t) × (y.1.rest ≡ [])
alone_takes (Err fault) t e = absurd cc
alone_takes (Ok y) t e = let both = if_alone (length y.1.rest == 0) y.1.place y.0 t e in
    (y, refl, both.1, nil_from_length y.1.rest (eqb-true _ _ both.0))

-- the law: what is read is within the limits, and the text is its spelling
pub read_is_spelled : (text : List ℕ) (t : Tree) → certificate_of text ≡ Ok t → IsWithinLimits t
    × (text ≡ cert_text t)
unfolding certificate_of
read_is_spelled text t e =
    let a = alone_takes (tree max_splits (start text)) t e in
    let takes = tree_takes max_splits (start text) a.0 a.1 in
    let whole : text ≡ cert_text a.0.0 = takes.parts ∙ ap (λ r. cert_text a.0.0 ++ r) a.3
    ∙ append-nil (cert_text a.0.0) in
    subst (λ t. IsWithinLimits t × (text ≡ cert_text t)) a.2 (
      record { few = omega (arith, takes.nodes, takes.few); shallow = takes.shallow; numbers = takes.numbers },
      whole,
    )

-- ---- what is spelled like this is read

branch_again : (n place k : ℕ) (text : List ℕ) (outcome : Outcome Tree) → tree n (at (place + 1) k text) ≡ outcome
    → branch n (at place k (32 ∷ text)) ≡ outcome
unfolding branch
branch_again n place k text outcome e = rw (space_again place k text) e

pub tree_again : (t : Tree) (n place k : ℕ) (rest : List ℕ) → splits_deep t ≤ n → k + nodes t ≤ max_nodes
    → HasNumbers t → EndsWord rest
    → tree n (at place k (cert_text t ++ rest)) ≡ Ok (t, at (place + length (cert_text t)) (k + nodes t) rest)
unfolding branches
tree_again (T.Owner i) n place k rest deep few numbers ends =
    tree_opens n _ (record { kind = Owner; number = i }) _
    (head_again n Owner i place k rest (omega arith) (λ e. absurd cc) numbers ends) (λ e. absurd cc)
tree_again (T.Empty i) n place k rest deep few numbers ends =
    tree_opens n _ (record { kind = Empty; number = i }) _
    (head_again n Empty i place k rest (omega arith) (λ e. absurd cc) numbers ends) (λ e. absurd cc)
tree_again (T.NeverNull i) n place k rest deep few numbers ends =
    tree_opens n _ (record { kind = NeverNull; number = i }) _
    (head_again n NeverNull i place k rest (omega arith) (λ e. absurd cc) numbers ends) (λ e. absurd cc)
tree_again (T.Split atom t f u) n place k rest deep few numbers ends =
    let words = words_of Split atom in
    let third = 32 ∷ (cert_text u ++ rest) in
    let second = 32 ∷ (cert_text f ++ third) in
    let first = 32 ∷ (cert_text t ++ second) in
    let p1 = place + length words in
    let p2 = p1 + 1 + length (cert_text t) in
    let p3 = p2 + 1 + length (cert_text f) in
    let k1 = k + 1 in
    let k2 = k1 + nodes t in
    let k3 = k2 + nodes f in
    let opened = tree_opens n (at place k (words ++ first)) (record { kind = Split; number = atom }) (at p1 k1 first)
    (head_again n Split atom place k first (omega arith) (λ e. omega arith) numbers.0 refl) (λ e. omega arith) in
    let one = branch_again (n - 1) p1 k1 (cert_text t ++ second) (Ok (t, at p2 k2 second))
    (tree_again t (n - 1) (p1 + 1) k1 second (omega arith) (omega arith) numbers.1 refl) in
    let two = branch_again (n - 1) p2 k2 (cert_text f ++ third) (Ok (f, at p3 k3 third))
    (tree_again f (n - 1) (p2 + 1) k2 third (omega arith) (omega arith) numbers.2 refl) in
    let three = branch_again (n - 1) p3 k3 (cert_text u ++ rest)
    (Ok (u, at (p3 + 1 + length (cert_text u)) (k3 + nodes u) rest))
    (tree_again u (n - 1) (p3 + 1) k3 rest (omega arith) (omega arith) numbers.3 ends) in
    let there : p3 + 1 + length (cert_text u) ≡ place + length (cert_text (T.Split atom t f u)) =
    omega (
      arith,
      length-append (words ++ 32 ∷ cert_text t ++ 32 ∷ cert_text f) (32 ∷ cert_text u),
      length-append (words ++ 32 ∷ cert_text t) (32 ∷ cert_text f),
      length-append words (32 ∷ cert_text t),
    ) in
    let many : k3 + nodes u ≡ k + nodes (T.Split atom t f u) = omega arith in
    let read : branches (branch (n - 1)) atom (at p1 k1 first)
    ≡ Ok (T.Split atom t f u, at (p3 + 1 + length (cert_text u)) (k3 + nodes u) rest) =
    rw (one, two, three) refl in
    ap (λ text. tree n (at place k text)) (sym (regrouped words (cert_text t) (cert_text f) (cert_text u) rest))
    ∙ opened ∙ read ∙ ap (λ p. Ok (T.Split atom t f u, at p (k3 + nodes u) rest)) there
    ∙ ap (λ m. Ok (T.Split atom t f u, at (place + length (cert_text (T.Split atom t f u))) m rest)) many

-- the law: the spelling of a tree within the limits is read as that tree
pub spelled_is_read : (t : Tree) → IsWithinLimits t → certificate_of (cert_text t) ≡ Ok t
unfolding certificate_of
spelled_is_read t is =
    let read = tree_again t max_splits 0 0 [] is.shallow (omega (arith, is.few)) is.numbers tt in
    ap (λ text. alone (tree max_splits (start text))) (sym (append-nil (cert_text t))) ∙ rw read refl

-- the law: nothing may come after it
pub more_is_trailing : (t : Tree) (more : List ℕ) → IsWithinLimits t
    → certificate_of (cert_text t ++ 32 ∷ more) ≡ Err (Trailing (length (cert_text t)))
unfolding certificate_of
more_is_trailing t more is =
    let read = tree_again t max_splits 0 0 (32 ∷ more) is.shallow (omega (arith, is.few)) is.numbers refl in
    rw (read, not_zero (length more)) (ap (λ p. Err (Trailing p)) (omega arith))

-- ---- the same for what a function returns

pub is_found : {A : Type 0} (view : A → Tree) (text : List ℕ) (result : Result A CertError)
    → Answers view cert_fault (certificate_of text) result → IfOk result (λ a. IsCertificateOf (view a) text)
is_found view text (Ok a) given = let read = read_is_spelled text (view a) given in
    record { limits = read.0; spelled = read.1 }
is_found view text (Err e) given = tt

pub is_read : {A : Type 0} (view : A → Tree) (text : List ℕ) (result : Result A CertError)
    → Answers view cert_fault (certificate_of text) result
    → (t : Tree) → IsCertificateOf t text → Answers view cert_fault (Ok t) result
is_read view text result given t is =
    subst (λ outcome. Answers view cert_fault outcome result)
    (ap certificate_of is.spelled ∙ spelled_is_read t is.limits)
    given

pub is_trailing : {A : Type 0} (view : A → Tree) (text : List ℕ) (result : Result A CertError)
    → Answers view cert_fault (certificate_of text) result
    → (t : Tree) (more : List ℕ) → IsWithinLimits t → text ≡ cert_text t ++ 32 ∷ more
    → Answers view cert_fault (Err (Trailing (length (cert_text t)))) result
is_trailing view text result given t more is e =
    subst (λ outcome. Answers view cert_fault outcome result) (ap certificate_of e ∙ more_is_trailing t more is) given

pub is_read_again : (text : List ℕ) (t : Tree) → text ≡ cert_text t → HasNumbers t → nodes t ≤ max_nodes
    → splits_deep t ≤ max_splits → certificate_of text ≡ Ok t
is_read_again text t e numbers few shallow = ap certificate_of e
    ∙ spelled_is_read t (record { few = few; shallow = shallow; numbers = numbers })
