-- A reader of nodes continues as the nodes of its text do.
use Rattle.std.proofs.Common.{◌≡◌, ℕ, zero, suc, ◌-◌, ◌<◌, Bool, true, false, ◌&&◌, ◌==◌, List, [], ◌∷◌, length, Ok, Err, refl, sym, ap, ◌∙◌, arith, eqb-true}
use Rattle.split_cert.specs.declared.error.CertError.{CertError}
use Rattle.split_cert.specs.declared.error.CertError.TheVariants.{TooDeep}
use Rattle.split_cert.specs.declared.head.Head.{Head}
use Rattle.split_cert.specs.declared.head.Kind.{Kind}
use Rattle.split_cert.specs.declared.head.Kind.TheVariants.{Split, Owner, Empty, NeverNull}
use Rattle.split_cert.specs.Nodes.{Stream, Continues, fault, led, node_of, after_node, branches_nodes, tree_nodes, at_end, level_nodes, without_done, is_due, entered, due, stream_at, from_space}
use Rattle.split_cert.specs.Reading.{Here, Outcome, and_then, head, space}
use Rattle.split_cert.specs.Tree.{max_splits}

same_after : (one other more : Continues) (kind : Kind) (here : Here) → (kind ≡ Split → ⊥)
    → after_node one more kind here ≡ after_node other more kind here
same_after one other more Split here none = absurd (none refl)
same_after one other more Owner here none = refl
same_after one other more Empty here none = refl
same_after one other more NeverNull here none = refl

-- after a head that was read: the branches are those of a split that could open
tree_goes_on : (n : ℕ) (more : Continues) (here : Here) (h : Head) (rest : Here) → head n here ≡ Ok (h, rest)
    → (h.kind ≡ Split → 0 < n)
    → tree_nodes n more here
    ≡ led (node_of h.kind h.number) (after_node (branches_nodes (tree_nodes (n - 1)) 3 more) more h.kind rest)
unfolding tree_nodes
tree_goes_on zero more here h rest e opens =
    rw e (ap (λ stream. led (node_of h.kind h.number) stream)
    (same_after (λ here. fault TooDeep) (branches_nodes (tree_nodes (0 - 1)) 3 more) more h.kind rest
    (λ split. omega (arith, opens split))))
tree_goes_on (suc n) more here h rest e opens = let k : suc n - 1 ≡ n = omega arith in rw (e, k) refl

tree_stops : (n : ℕ) (more : Continues) (here : Here) (error : CertError) → head n here ≡ Err error
    → tree_nodes n more here ≡ fault error
unfolding tree_nodes
tree_stops zero more here error e = rw e refl
tree_stops (suc n) more here error e = rw e refl

-- ---- the first node

enters_first : (kind : Kind) (rest : Here)
    → after_node (branches_nodes (tree_nodes (max_splits - 1)) 3 at_end) at_end kind rest
    ≡ level_nodes (entered kind []) rest
enters_first Split rest = refl
enters_first Owner rest = refl
enters_first Empty rest = refl
enters_first NeverNull rest = refl

-- ---- a branch

enters_branch : (left : ℕ) (levels : List ℕ) (kind : Kind) (rest : Here)
    → after_node (branches_nodes (tree_nodes (max_splits - length (left ∷ levels) - 1)) 3
    (level_nodes (left ∷ levels))) (level_nodes (left ∷ levels)) kind rest
    ≡ level_nodes (entered kind (suc left ∷ levels)) rest
enters_branch left levels Split rest =
    ap (λ k. branches_nodes (tree_nodes k) 3 (level_nodes (left ∷ levels)) rest) (omega arith)
enters_branch left levels Owner rest = refl
enters_branch left levels Empty rest = refl
enters_branch left levels NeverNull rest = refl

branch_goes_on : (n : ℕ) (more : Continues) (spaced : Outcome (Unit {0})) (h : Head) (rest : Here)
    → and_then spaced (λ _. head n) ≡ Ok (h, rest) → (h.kind ≡ Split → 0 < n)
    → from_space (tree_nodes n more) spaced
    ≡ led (node_of h.kind h.number) (after_node (branches_nodes (tree_nodes (n - 1)) 3 more) more h.kind rest)
branch_goes_on n more (Ok read) h rest e opens = tree_goes_on n more read.1 h rest e opens
branch_goes_on n more (Err error) h rest e opens = absurd cc

branch_stops : (n : ℕ) (more : Continues) (spaced : Outcome (Unit {0})) (error : CertError)
    → and_then spaced (λ _. head n) ≡ Err error → from_space (tree_nodes n more) spaced ≡ fault error
branch_stops n more (Ok read) error e = tree_stops n more read.1 error e
branch_stops n more (Err found) error e = let same : found ≡ error = cc in ap fault same

-- ---- a step, after splits of which no branch follows were closed

goes_on : (begun : Bool) (levels : List ℕ) (here : Here) (h : Head) (rest : Here) → (begun ≡ false → levels ≡ [])
    → (begun && (length levels == 0)) ≡ false → is_due levels ≡ true
    → due begun (max_splits - length levels) here ≡ Ok (h, rest) → (h.kind ≡ Split → 0 < max_splits - length levels)
    → stream_at begun levels here ≡ led (node_of h.kind h.number) (level_nodes (entered h.kind levels) rest)
goes_on false [] here h rest none some closed e opens = tree_goes_on max_splits at_end here h rest e opens
    ∙ ap (λ stream. led (node_of h.kind h.number) stream) (enters_first h.kind rest)
goes_on false (left ∷ levels) here h rest none some closed e opens = let never : left ∷ levels ≡ [] = none refl in
    absurd cc
goes_on true [] here h rest none some closed e opens = absurd cc
goes_on true (zero ∷ levels) here h rest none some closed e opens = absurd cc
goes_on true (suc left ∷ levels) here h rest none some closed e opens =
    branch_goes_on (max_splits - length (left ∷ levels)) (level_nodes (left ∷ levels)) (space here) h rest e opens
    ∙ ap (λ stream. led (node_of h.kind h.number) stream) (enters_branch left levels h.kind rest)

stops : (begun : Bool) (levels : List ℕ) (here : Here) (error : CertError) → (begun ≡ false → levels ≡ [])
    → (begun && (length levels == 0)) ≡ false → is_due levels ≡ true
    → due begun (max_splits - length levels) here ≡ Err error → stream_at begun levels here ≡ fault error
stops false [] here error none some closed e = tree_stops max_splits at_end here error e
stops false (left ∷ levels) here error none some closed e = let never : left ∷ levels ≡ [] = none refl in absurd cc
stops true [] here error none some closed e = absurd cc
stops true (zero ∷ levels) here error none some closed e = absurd cc
stops true (suc left ∷ levels) here error none some closed e =
    branch_stops (max_splits - length (left ∷ levels)) (level_nodes (left ∷ levels)) (space here) error e

ends : (begun : Bool) (levels : List ℕ) (here : Here) (stream : Stream) → (begun && (length levels == 0)) ≡ true
    → at_end here ≡ stream → stream_at begun levels here ≡ stream
ends false levels here stream all e = absurd cc
ends true [] here stream all e = e
ends true (left ∷ levels) here stream all e = absurd (omega (arith, eqb-true (length (left ∷ levels)) 0 all))

-- splits of which no branch follows add nothing
closed_alike : (begun : Bool) (levels : List ℕ) (here : Here) → (begun ≡ false → levels ≡ [])
    → stream_at begun levels here ≡ stream_at begun (without_done levels) here
closed_alike false levels here none = refl
closed_alike true [] here none = refl
closed_alike true (zero ∷ levels) here none = closed_alike true levels here (λ e. absurd cc)
closed_alike true (suc left ∷ levels) here none = refl

-- no split is open if no node was read
none_closed : (begun : Bool) (levels : List ℕ) → (begun ≡ false → levels ≡ []) → begun ≡ false
    → without_done levels ≡ []
none_closed begun levels none not_begun = ap without_done (none not_begun)

-- a reader that has read a node or none; these splits are open, and those of which no branch follows are closed
module _ (begun : Bool) (levels closed : List ℕ) (here : Here) (none : begun ≡ false → levels ≡ [])
    (are_closed : closed ≡ without_done levels) where
  pub stays : stream_at begun closed here ≡ stream_at begun levels here
  stays = ap (λ left. stream_at begun left here) are_closed ∙ sym (closed_alike begun levels here none)

  pub none_open : begun ≡ false → closed ≡ []
  none_open not_begun = are_closed ∙ none_closed begun levels none not_begun

  pub over_at : (stream : Stream) → (begun && (length closed == 0)) ≡ true → at_end here ≡ stream
      → stream_at begun levels here ≡ stream
  over_at stream all e = sym stays ∙ ends begun closed here stream all e

  pub stops_at : (error : CertError) → (begun && (length closed == 0)) ≡ false → is_due closed ≡ true
      → due begun (max_splits - length closed) here ≡ Err error → stream_at begun levels here ≡ fault error
  stops_at error some are_due e = sym stays ∙ stops begun closed here error none_open some are_due e

  pub goes_on_at : (h : Head) (rest : Here) → (begun && (length closed == 0)) ≡ false → is_due closed ≡ true
      → due begun (max_splits - length closed) here ≡ Ok (h, rest)
      → (h.kind ≡ Split → 0 < max_splits - length closed)
      → stream_at begun levels here ≡ led (node_of h.kind h.number) (level_nodes (entered h.kind closed) rest)
  goes_on_at h rest some are_due e opens = sym stays ∙ goes_on begun closed here h rest none_open some are_due e opens
