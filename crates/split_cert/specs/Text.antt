-- The text of a certificate, and the certificate of a text or its first fault: nodes in preorder, each a letter and a
-- number. The format is specific to this project.
use Rattle.std.specs.Prelude.{◌≡◌, ℕ, zero, suc, ◌==◌, if◌then◌else◌, List, ◌∷◌, ◌++◌, length, Result, Ok, Err}
use Rattle.std.specs.Fmt.{decimal}
use Rattle.split_cert.specs.declared.error.CertError.{CertError}
use Rattle.split_cert.specs.declared.error.CertError.TheVariants.{Trailing, TooDeep}
use Rattle.split_cert.specs.declared.head.Head.{Head}
use Rattle.split_cert.specs.declared.head.Kind.{Kind}
use Rattle.split_cert.specs.declared.head.Kind.TheVariants.{Split, Owner, Empty, NeverNull}
use Rattle.split_cert.specs.Reading.{Outcome, Rule, ◌>>=◌, ◌>>◌, pure, head, space, letter_of, start}
use Rattle.split_cert.specs.Tree.{Tree, IsWithinLimits, max_splits}
use Rattle.split_cert.specs.Tree as T

-- ---- the text of a tree

-- a node's letter, a space and its number
abbrev pub words_of : Kind → ℕ → List ℕ
words_of kind number = letter_of kind ∷ 32 ∷ decimal number

abbrev pub cert_text : Tree → List ℕ
cert_text (T.Split atom if_true if_false if_null) =
    words_of Split atom ++ 32 ∷ cert_text if_true ++ 32 ∷ cert_text if_false ++ 32 ∷ cert_text if_null
cert_text (T.Owner subscriber) = words_of Owner subscriber
cert_text (T.Empty term) = words_of Empty term
cert_text (T.NeverNull atom) = words_of NeverNull atom

-- the tree is within the limits, and the text is the tree's
pub record IsCertificateOf (tree : Tree) (text : List ℕ) : Type 0 where
  pub limits : IsWithinLimits tree
  pub spelled : text ≡ cert_text tree

-- the text begins with a split: only a split allocates memory
abbrev pub BeginsWithSplit : List ℕ → Type 0
BeginsWithSplit text = (rest : List ℕ) × (text ≡ letter_of Split ∷ 32 ∷ rest)

-- ---- the tree of a text

-- the branches of a split, by the rule that reads one branch
unfoldable pub branches : Rule Tree → ℕ → Rule Tree
branches branch atom =
    branch >>= (λ if_true. branch >>=
    (λ if_false. branch >>= (λ if_null. pure (T.Split atom if_true if_false if_null))))

-- what comes after a node's two words
abbrev pub node_of : Rule Tree → Kind → ℕ → Rule Tree
node_of branch Split number = branches branch number
node_of branch Owner number = pure (T.Owner number)
node_of branch Empty number = pure (T.Empty number)
node_of branch NeverNull number = pure (T.NeverNull number)

abbrev pub node : Rule Tree → Head → Rule Tree
node branch h = node_of branch h.kind h.number

-- a tree; this number of splits may still open on its path
unfoldable pub tree : ℕ → Rule Tree
tree zero = head zero >>= node (λ here. Err TooDeep)
tree (suc n) = head (suc n) >>= node (space >> tree n)

-- a branch; this number of splits may still open below its split
unfoldable pub branch : ℕ → Rule Tree
branch may_open = space >> tree may_open

-- a text has one tree and nothing after it
abbrev pub alone : {A : Type 0} → Outcome A → Result A CertError
alone (Ok read) = if length read.1.rest == 0 then Ok read.0 else Err (Trailing read.1.place)
alone (Err fault) = Err fault

unfoldable pub certificate_of : List ℕ → Result Tree CertError
certificate_of text = alone (tree max_splits (start text))
