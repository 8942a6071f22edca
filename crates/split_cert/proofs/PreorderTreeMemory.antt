-- Only a tree that begins with a split allocates memory, and no text's nodes end because memory ran out.
use Rattle.std.proofs.Common.{◌≡◌, ◌≢◌, ℕ, zero, suc, Bool, true, false, ◌==◌, List, length, Ok, Err, refl, ap, ◌∙◌}
use Rattle.std.specs.Prelude.{if◌then◌else◌}
use Rattle.split_cert.specs.declared.error.CertError.{CertError}
use Rattle.split_cert.specs.declared.error.CertError.TheVariants.{Trailing, TooDeep, OutOfMemory}
use Rattle.split_cert.specs.declared.head.Head.{Head}
use Rattle.split_cert.specs.declared.head.Kind.{Kind}
use Rattle.split_cert.specs.declared.head.Kind.TheVariants as k
use Rattle.split_cert.specs.declared.node.Node.{Node}
use Rattle.split_cert.specs.declared.node.Node.TheVariants.{Split}
use Rattle.split_cert.specs.PreorderTrees.{BeginsBySplit, all_led}
use Rattle.split_cert.specs.Nodes.{Stream, Continues, fault, over, led, node_of, after_node, from_head, from_space, branches_nodes, tree_nodes, at_end, nodes_in}
use Rattle.split_cert.specs.Reading.{Here, Outcome, head, space, start}
use Rattle.split_cert.specs.Text.{BeginsWithSplit}
use Rattle.split_cert.specs.Tree.{max_splits}
use Rattle.split_cert.proofs.PreorderTreeLemmas.{text_grows, text_lacks, text_faults}
use Rattle.split_cert.proofs.MemoryLemmas.{head_needs_none, space_needs_none, split_begins}

-- what is read at any place does not end because memory ran out
abbrev NeedsNone : Continues → Type 0
NeedsNone more = (here : Here) → (more here).end ≢ Err OutOfMemory

ended : (b : Bool) (place : ℕ) → (if b then over else fault (Trailing place)).end ≢ Err OutOfMemory
ended true place e = cc
ended false place e = cc

end_needs_none : NeedsNone at_end
end_needs_none here = ended (length here.rest == 0) here.place

after_needs_none : (branches more : Continues) → NeedsNone branches → NeedsNone more → (kind : Kind)
    → NeedsNone (after_node branches more kind)
after_needs_none branches more first next k.Split = first
after_needs_none branches more first next k.Owner = next
after_needs_none branches more first next k.Empty = next
after_needs_none branches more first next k.NeverNull = next

from_head_needs_none : (branches more : Continues) → NeedsNone branches → NeedsNone more → (read : Outcome Head)
    → (read ≡ Err OutOfMemory → ⊥) → (from_head branches more read).end ≢ Err OutOfMemory
from_head_needs_none branches more first next (Ok read) none e =
    after_needs_none branches more first next read.0.kind read.1 e
from_head_needs_none branches more first next (Err error) none e = let same : error ≡ OutOfMemory = cc in
    none (ap (λ (e : CertError). Err e) same)

from_space_needs_none : (more : Continues) → NeedsNone more → (read : Outcome (Unit {0}))
    → (read ≡ Err OutOfMemory → ⊥) → (from_space more read).end ≢ Err OutOfMemory
from_space_needs_none more next (Ok read) none e = next read.1 e
from_space_needs_none more next (Err error) none e = let same : error ≡ OutOfMemory = cc in
    none (ap (λ (e : CertError). Err e) same)

branches_need_none : (branch : Continues → Continues)
    → ((more : Continues) → NeedsNone more → NeedsNone (branch more)) → (count : ℕ) (more : Continues)
    → NeedsNone more → NeedsNone (branches_nodes branch count more)
branches_need_none branch keeps zero more next here = next here
branches_need_none branch keeps (suc count) more next here =
    from_space_needs_none (branch (branches_nodes branch count more))
    (keeps (branches_nodes branch count more) (branches_need_none branch keeps count more next)) (space here)
    (space_needs_none here)

tree_needs_none : (n : ℕ) (more : Continues) → NeedsNone more → NeedsNone (tree_nodes n more)
unfolding tree_nodes
tree_needs_none zero more next here =
    from_head_needs_none (λ here. fault TooDeep) more (λ here e. cc) next (head zero here) (head_needs_none zero here)
tree_needs_none (suc n) more next here =
    from_head_needs_none (branches_nodes (tree_nodes n) 3 more) more
    (branches_need_none (tree_nodes n) (tree_needs_none n) 3 more next) next (head (suc n) here)
    (head_needs_none (suc n) here)

text_needs_none : (text : List ℕ) → (nodes_in text).end ≢ Err OutOfMemory
text_needs_none text = tree_needs_none max_splits at_end end_needs_none (start text)

-- ---- the first node

is_split : (kind : Kind) (number atom : ℕ) → node_of kind number ≡ Split atom → kind ≡ k.Split
is_split k.Split number atom e = refl
is_split k.Owner number atom e = absurd cc
is_split k.Empty number atom e = absurd cc
is_split k.NeverNull number atom e = absurd cc

first_is : (branches more : Continues) (here : Here) (n : ℕ) (read : Outcome Head) → head n here ≡ read
    → (atom : ℕ) (after : Stream) → from_head branches more read ≡ led (Split atom) after → BeginsWithSplit here.rest
first_is branches more here n (Ok read) e atom after same =
    let nodes = ap (λ (s : Stream). s.nodes) same in
    let node : node_of read.0.kind read.0.number ≡ Split atom = cc in
    split_begins n here read.0 read.1 e (is_split read.0.kind read.0.number atom node)
first_is branches more here n (Err error) e atom after same = let nodes = ap (λ (s : Stream). s.nodes) same in absurd cc

text_begins : (text : List ℕ) (atom : ℕ) (after : Stream) → nodes_in text ≡ led (Split atom) after
    → BeginsWithSplit text
unfolding tree_nodes
text_begins text atom after e =
    first_is (branches_nodes (tree_nodes 63) 3 at_end) at_end (start text) max_splits (head max_splits (start text))
    refl atom after e

pub text_wants : (text : List ℕ) → BeginsBySplit (nodes_in text) → BeginsWithSplit text
text_wants text begins = let first = begins (text_needs_none text) in text_begins text first.0 first.1 first.2

pub rest_wants : (text : List ℕ) (nodes : List Node) (after : Stream) → nodes_in text ≡ all_led nodes after
    → after.end ≡ Err OutOfMemory → BeginsWithSplit text
rest_wants text nodes after e ends = absurd (text_needs_none text (ap (λ (s : Stream). s.end) e ∙ ends))

-- ---- what allocates memory in a stream

pub wants_at_fault : (before : Stream) (error : CertError) → before ≡ fault error → error ≡ OutOfMemory
    → BeginsBySplit before
wants_at_fault before error e same =
    λ none. absurd (none (ap (λ (s : Stream). s.end) e ∙ ap (λ (e : CertError). Err e) same))

pub wants_at_split : (atom : ℕ) (after : Stream) → BeginsBySplit (led (Split atom) after)
wants_at_split atom after = λ none. (atom, after, refl)

pub ruleset wants = (wants_at_fault, wants_at_split)

pub ruleset texts = (text_grows, text_lacks, text_faults, text_wants, rest_wants)
