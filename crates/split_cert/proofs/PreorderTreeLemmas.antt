-- Trees grow from nodes, and the tree of a text's nodes is the text's certificate.
use Rattle.std.proofs.Common.{◌≡◌, ◌≢◌, ℕ, ◌+◌, ◌≤◌, List, [], ◌∷◌, ◌++◌, length, Result, Ok, Err, refl, sym, ap, subst, ◌∙◌, append_assoc, arith}
use Rattle.std.proofs.lemmas.List.{append-nil, length-append}
use Rattle.filter_tree.specs.Memory.{TellsFault}
use Rattle.split_cert.specs.declared.error.CertError.{CertError}
use Rattle.split_cert.specs.declared.error.CertError.TheVariants.{BadToken, Ended, Trailing, TooLarge, TooDeep, OutOfMemory}
use Rattle.split_cert.specs.declared.node.Node.{Node}
use Rattle.split_cert.specs.declared.node.Node.TheVariants.{Split}
use Rattle.split_cert.specs.PreorderTrees.{all_led, HasNoTree}
use Rattle.split_cert.specs.Nodes.{Stream, fault, over, led, nodes_in, preorder, AreNodesOf}
use Rattle.split_cert.specs.Reading.{cert_fault}
use Rattle.split_cert.specs.Text.{certificate_of}
use Rattle.split_cert.specs.Tree.{Tree}
use Rattle.split_cert.specs.Tree as T
use Rattle.split_cert.proofs.PreorderLemmas.{nodes_of_texts}

-- ---- at most one tree comes first

regrouped : (t f u rest : List Node) → (t ++ f ++ u) ++ rest ≡ t ++ (f ++ (u ++ rest))
regrouped t f u rest = simp append_assoc refl

after_first : (node other : Node) (nodes more : List Node) → node ∷ nodes ≡ other ∷ more → nodes ≡ more
after_first node other nodes more e = cc

same_split : (a b : ℕ) (t f u x y z : Tree) → Split a ≡ Split b → t ≡ x → f ≡ y → u ≡ z
    → T.Split a t f u ≡ T.Split b x y z
same_split a b t f u x y z e p q r = let same : a ≡ b = cc in rw (same, p, q, r) refl

pub same_front : (t u : Tree) (xs ys : List Node) → preorder t ++ xs ≡ preorder u ++ ys → (t ≡ u) × (xs ≡ ys)
same_front (T.Split a t f u) (T.Split b x y z) xs ys e =
    let first : Split a ≡ Split b = cc in
    let rest : preorder t ++ (preorder f ++ (preorder u ++ xs)) ≡ preorder x ++ (preorder y ++ (preorder z ++ ys)) =
    sym (regrouped (preorder t) (preorder f) (preorder u) xs)
    ∙ after_first (Split a) (Split b) ((preorder t ++ preorder f ++ preorder u) ++ xs)
    ((preorder x ++ preorder y ++ preorder z) ++ ys) e
    ∙ regrouped (preorder x) (preorder y) (preorder z) ys in
    let one = same_front t x (preorder f ++ (preorder u ++ xs)) (preorder y ++ (preorder z ++ ys)) rest in
    let two = same_front f y (preorder u ++ xs) (preorder z ++ ys) one.1 in
    let three = same_front u z xs ys two.1 in
    (same_split a b t f u x y z first one.0 two.0 three.0, three.1)
same_front (T.Split a t f u) (T.Owner j) xs ys e = absurd cc
same_front (T.Split a t f u) (T.Empty j) xs ys e = absurd cc
same_front (T.Split a t f u) (T.NeverNull j) xs ys e = absurd cc
same_front (T.Owner i) (T.Split b x y z) xs ys e = absurd cc
same_front (T.Owner i) (T.Owner j) xs ys e = let same : i ≡ j = cc in (ap T.Owner same, cc)
same_front (T.Owner i) (T.Empty j) xs ys e = absurd cc
same_front (T.Owner i) (T.NeverNull j) xs ys e = absurd cc
same_front (T.Empty i) (T.Split b x y z) xs ys e = absurd cc
same_front (T.Empty i) (T.Owner j) xs ys e = absurd cc
same_front (T.Empty i) (T.Empty j) xs ys e = let same : i ≡ j = cc in (ap T.Empty same, cc)
same_front (T.Empty i) (T.NeverNull j) xs ys e = absurd cc
same_front (T.NeverNull i) (T.Split b x y z) xs ys e = absurd cc
same_front (T.NeverNull i) (T.Owner j) xs ys e = absurd cc
same_front (T.NeverNull i) (T.Empty j) xs ys e = absurd cc
same_front (T.NeverNull i) (T.NeverNull j) xs ys e = let same : i ≡ j = cc in (ap T.NeverNull same, cc)

never_none : (tree : Tree) (rest : List Node) → [] ≡ preorder tree ++ rest → ⊥
never_none (T.Split a t f u) rest e = cc
never_none (T.Owner i) rest e = cc
never_none (T.Empty i) rest e = cc
never_none (T.NeverNull i) rest e = cc

-- what comes after the split with which a tree begins are its branches
pub record Branches (nodes rest : List Node) : Type 0 where
  pub if_true : Tree
  pub if_false : Tree
  pub if_null : Tree
  pub parts : nodes ≡ preorder if_true ++ (preorder if_false ++ (preorder if_null ++ rest))

branches_of : (atom : ℕ) (nodes : List Node) (tree : Tree) (rest : List Node)
    → Split atom ∷ nodes ≡ preorder tree ++ rest → Branches nodes rest
branches_of atom nodes (T.Split a t f u) rest e = record {
  if_true = t;
  if_false = f;
  if_null = u;
  parts = after_first (Split atom) (Split a) nodes ((preorder t ++ preorder f ++ preorder u) ++ rest) e
      ∙ regrouped (preorder t) (preorder f) (preorder u) rest;
}
branches_of atom nodes (T.Owner i) rest e = absurd cc
branches_of atom nodes (T.Empty i) rest e = absurd cc
branches_of atom nodes (T.NeverNull i) rest e = absurd cc

-- ---- if no tree comes first

pub none_at_fault : (before : Stream) (error : CertError) → before ≡ fault error → HasNoTree before error
none_at_fault before error e =
    subst (λ stream. HasNoTree stream error) (sym e) (record { none = never_none; is_fault = λ found h. cc })

pub none_at_end : (before : Stream) → before ≡ over → HasNoTree before Ended
none_at_end before e =
    subst (λ stream. HasNoTree stream Ended) (sym e) (record { none = never_none; is_fault = λ found h. absurd cc })

nodes_are : (before after : Stream) (nodes : List Node) → before ≡ all_led nodes after
    → before.nodes ≡ nodes ++ after.nodes
nodes_are before after nodes e = ap (λ (s : Stream). s.nodes) e

end_is : (before after : Stream) (nodes : List Node) → before ≡ all_led nodes after → before.end ≡ after.end
end_is before after nodes e = ap (λ (s : Stream). s.end) e

pub first_lacks : (atom : ℕ) (before : Stream) (error : CertError) → HasNoTree before error
    → HasNoTree (led (Split atom) before) error
first_lacks atom before error lacks = record {
  none = λ tree rest e. let b = branches_of atom before.nodes tree rest e in
      lacks.none b.if_true (preorder b.if_false ++ (preorder b.if_null ++ rest)) b.parts;
  is_fault = lacks.is_fault;
}

pub second_lacks : (atom : ℕ) (t : Tree) (before after : Stream) (error : CertError)
    → before ≡ all_led (preorder t) after → HasNoTree after error
    → HasNoTree (led (Split atom) before) error
second_lacks atom t before after error grown lacks = record {
  none = λ tree rest e.
      let b = branches_of atom before.nodes tree rest e in
      let left = same_front t b.if_true after.nodes (preorder b.if_false ++ (preorder b.if_null ++ rest))
      (sym (nodes_are before after (preorder t) grown) ∙ b.parts) in
      lacks.none b.if_false (preorder b.if_null ++ rest) left.1;
  is_fault = λ found h. lacks.is_fault found (sym (end_is before after (preorder t) grown) ∙ h);
}

pub third_lacks : (atom : ℕ) (t f : Tree) (before middle after : Stream) (error : CertError)
    → before ≡ all_led (preorder t) middle → middle ≡ all_led (preorder f) after → HasNoTree after error
    → HasNoTree (led (Split atom) before) error
third_lacks atom t f before middle after error grown more lacks = record {
  none = λ tree rest e.
      let b = branches_of atom before.nodes tree rest e in
      let left = same_front t b.if_true middle.nodes (preorder b.if_false ++ (preorder b.if_null ++ rest))
      (sym (nodes_are before middle (preorder t) grown) ∙ b.parts) in
      let next = same_front f b.if_false after.nodes (preorder b.if_null ++ rest)
      (sym (nodes_are middle after (preorder f) more) ∙ left.1) in
      lacks.none b.if_null rest next.1;
  is_fault = λ found h. lacks.is_fault found
      (sym (end_is middle after (preorder f) more) ∙ sym (end_is before middle (preorder t) grown) ∙ h);
}

pub split_grows : (atom : ℕ) (t f u : Tree) (before one two after : Stream) → before ≡ all_led (preorder t) one
    → one ≡ all_led (preorder f) two → two ≡ all_led (preorder u) after
    → led (Split atom) before ≡ all_led (preorder (T.Split atom t f u)) after
split_grows atom t f u before one two after p q r =
    ap (led (Split atom)) (p ∙ ap (all_led (preorder t)) (q ∙ ap (all_led (preorder f)) r))
    ∙ ap (λ nodes. record { nodes = Split atom ∷ nodes; end = after.end })
    (sym (regrouped (preorder t) (preorder f) (preorder u) after.nodes))

-- ---- how many nodes are left

pub one_less : (before after : Stream) (node : Node) → before ≡ led node after
    → length before.nodes ≡ 1 + length after.nodes
one_less before after node e = ap (λ (s : Stream). length s.nodes) e ∙ omega arith

pub no_more : (before after : Stream) (nodes : List Node) → before ≡ all_led nodes after
    → length after.nodes ≤ length before.nodes
no_more before after nodes e = let same : length before.nodes ≡ length (nodes ++ after.nodes) =
    ap (λ (s : Stream). length s.nodes) e in omega (arith, same, length-append nodes after.nodes)

pub ruleset grows = (none_at_fault, none_at_end, first_lacks, second_lacks, third_lacks, split_grows, one_less, no_more)

-- ---- the certificate of a text

-- what a tree of the text's nodes is, or why there is no such tree
whole_is : (expected : Result Tree CertError) (stream after : Stream) (t : Tree) → AreNodesOf expected stream
    → stream ≡ all_led (preorder t) after → after.end ≡ Ok tt → expected ≡ Ok t
whole_is (Ok found) stream after t are grown ends =
    let same = same_front t found after.nodes []
    (sym (nodes_are stream after (preorder t) grown) ∙ are.0 ∙ sym (append-nil (preorder found))) in
    ap Ok (sym same.0)
whole_is (Err error) stream after t are grown ends = let never : Err error ≡ Ok tt = sym are
    ∙ end_is stream after (preorder t) grown ∙ ends in absurd cc

rest_is : (expected : Result Tree CertError) (stream after : Stream) (t : Tree) (error : CertError)
    → AreNodesOf expected stream → stream ≡ all_led (preorder t) after → after.end ≡ Err error → expected ≡ Err error
rest_is (Ok found) stream after t error are grown ends = let never : Ok tt ≡ Err error = sym are.1
    ∙ end_is stream after (preorder t) grown ∙ ends in absurd cc
rest_is (Err other) stream after t error are grown ends = let same : Err other ≡ Err error = sym are
    ∙ end_is stream after (preorder t) grown ∙ ends in let is : other ≡ error = cc in ap Err is

lack_is : (expected : Result Tree CertError) (stream : Stream) (error : CertError) → AreNodesOf expected stream
    → HasNoTree stream error → expected ≡ Err error
lack_is (Ok found) stream error are lacks = absurd (lacks.none found [] (are.0 ∙ sym (append-nil (preorder found))))
lack_is (Err other) stream error are lacks = ap Err (lacks.is_fault other are)

-- an error other than out of memory reports itself
tells : (expected : Result Tree CertError) (error : CertError) → (error ≢ OutOfMemory → expected ≡ Err error)
    → TellsFault (cert_fault error) expected
tells expected (BadToken place) h = h (λ e. absurd cc)
tells expected Ended h = h (λ e. absurd cc)
tells expected (Trailing place) h = h (λ e. absurd cc)
tells expected TooLarge h = h (λ e. absurd cc)
tells expected TooDeep h = h (λ e. absurd cc)
tells expected OutOfMemory h = tt

pub text_grows : (text : List ℕ) (after : Stream) (t : Tree) → nodes_in text ≡ all_led (preorder t) after
    → after.end ≡ Ok tt → certificate_of text ≡ Ok t
text_grows text after t grown ends =
    whole_is (certificate_of text) (nodes_in text) after t (nodes_of_texts text) grown ends

pub text_lacks : (text : List ℕ) (error : CertError) → (error ≢ OutOfMemory → HasNoTree (nodes_in text) error)
    → TellsFault (cert_fault error) (certificate_of text)
text_lacks text error lacks =
    tells (certificate_of text) error
    (λ other. lack_is (certificate_of text) (nodes_in text) error (nodes_of_texts text) (lacks other))

pub text_faults : (text : List ℕ) (after : Stream) (t : Tree) (error : CertError)
    → nodes_in text ≡ all_led (preorder t) after → after.end ≡ Err error
    → TellsFault (cert_fault error) (certificate_of text)
text_faults text after t error grown ends =
    tells (certificate_of text) error
    (λ other. rest_is (certificate_of text) (nodes_in text) after t error (nodes_of_texts text) grown ends)
