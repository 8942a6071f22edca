-- The tree whose nodes a stream has first. Certificates are specific to this project, and no section of PostgreSQL's
-- documentation describes them.
use Rattle.std.specs.Prelude.{◌≡◌, ◌≢◌, ℕ, List, ◌++◌, Result, Ok, Err}
use Rattle.split_cert.specs.declared.error.CertError.{CertError}
use Rattle.split_cert.specs.declared.error.CertError.TheVariants.{OutOfMemory}
use Rattle.split_cert.specs.declared.node.Node.{Node}
use Rattle.split_cert.specs.declared.node.Node.TheVariants.{Split}
use Rattle.split_cert.specs.Nodes.{Stream, led, preorder}
use Rattle.split_cert.specs.Tree.{Tree}

-- with these nodes before the others
abbrev pub all_led : List Node → Stream → Stream
all_led nodes stream = record { nodes = nodes ++ stream.nodes; end = stream.end }

-- the nodes of no tree come first in the stream, and the error is the stream's fault, if it has one
pub record HasNoTree (stream : Stream) (error : CertError) : Type 0 where
  pub none : (tree : Tree) (rest : List Node) → stream.nodes ≡ preorder tree ++ rest → ⊥
  pub is_fault : (fault : CertError) → stream.end ≡ Err fault → fault ≡ error

-- the result is the tree whose nodes come first, and what comes after them is left; `view` gives a value as plain data.
-- Or there is no such tree, or memory ran out
abbrev pub ReadsTree : {A : Type 0} → (A → Tree) → Stream → Stream → Result A CertError → Type 0
ReadsTree view before after (Ok value) = before ≡ all_led (preorder (view value)) after
ReadsTree view before after (Err error) = error ≢ OutOfMemory → HasNoTree before error

-- a split comes first, unless the stream ends because memory ran out
abbrev pub BeginsBySplit : Stream → Type 0
BeginsBySplit stream = (stream.end ≢ Err OutOfMemory) → (atom : ℕ) × (after : Stream)
    × (stream ≡ led (Split atom) after)
