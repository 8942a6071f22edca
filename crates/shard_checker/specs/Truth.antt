-- What the first refusal in a certificate says about the node that it names. Certificates are specific to this project,
-- and no section of PostgreSQL's documentation describes them.
use Rattle.std.specs.Prelude.{◌≡◌, ◌≢◌, ℕ, ◌<◌, true, false, ◌⊎◌, List, [], ◌∷◌, ◌++◌, Option, Some, None, slice_get}
use Rattle.filter_tree.specs.Expr.{AtomOf}
use Rattle.filter_tree.specs.Paths.{Path}
use Rattle.filter_tree.specs.declared.filter.Term.{Term}
use Rattle.filter_tree.specs.declared.table.Table.{Table}
use Rattle.filter_tree.specs.declared.tri.Tri.TheVariants.{True, False, Null}
use Rattle.replica_identity.specs.Shares.{ShareOf}
use Rattle.split_cert.specs.Tree.{Tree, Split, Owner, Empty, NeverNull, nodes}
use Rattle.shard_checker.specs.Emptiness.{HasValue}
use Rattle.shard_checker.specs.Facts.{is_never_null}
use Rattle.shard_checker.specs.Owners.{share_in, must_take, may_take}
use Rattle.shard_checker.specs.Refusal.{Subject, subject_of, later}
use Rattle.shard_checker.specs.declared.error.CheckError.{CheckError}
use Rattle.shard_checker.specs.declared.error.CheckError.TheVariants.{BadIndex, NotEmpty, MayBeNull, NotOwner, SecondOwner}

-- the share with this number, which is not the owner's, may take a row, and no such share has a smaller number
pub record IsLeastOther (shares : List ShareOf) (path : Path) (owner second : ℕ) : Type 0 where
  pub other : second ≢ owner
  pub may : may_take (share_in shares second) path ≡ true
  pub least : (number : ℕ) → number < second → may_take (share_in shares number) path ≡ true → number ≡ owner

-- what the error says about a node is true: it names the node, and the atom, the term or the share does not exist, or
-- is not as the node says

abbrev pub EmptyIsWrong : Subject → Path → ℕ → Option Term → CheckError → Type 0
EmptyIsWrong subject path node None error = error ≡ BadIndex subject.table node
EmptyIsWrong subject path node (Some term) error = (error ≡ NotEmpty subject.table node)
    × HasValue subject.columns term path

abbrev pub NeverNullIsWrong : Subject → Path → ℕ → Option AtomOf → CheckError → Type 0
NeverNullIsWrong subject path node None error = error ≡ BadIndex subject.table node
NeverNullIsWrong subject path node (Some atom) error = (error ≡ MayBeNull subject.table node)
    × (is_never_null subject.columns atom path ≡ false)

-- a second owner, by its number
pub record HasSecond (subject : Subject) (path : Path) (node owner : ℕ) (error : CheckError) : Type 0 where
  pub second : ℕ
  pub is : error ≡ SecondOwner subject.table node second
  pub least : IsLeastOther subject.shares path owner second

abbrev pub OwnerIsWrong : Subject → Path → ℕ → ℕ → Option ShareOf → CheckError → Type 0
OwnerIsWrong subject path node owner None error = error ≡ BadIndex subject.table node
OwnerIsWrong subject path node owner (Some share) error =
    ((error ≡ NotOwner subject.table node) × (must_take share path ≡ false)) ⊎ HasSecond subject path node owner error

abbrev pub SplitIsWrong : Subject → Path → ℕ → Option AtomOf → (Path → Type 0) → (Path → Type 0) → (Path → Type 0)
    → CheckError → Type 0
SplitIsWrong subject path node None if_true if_false if_null error = error ≡ BadIndex subject.table node
SplitIsWrong subject path node (Some atom) if_true if_false if_null error =
    if_true (path ++ (atom, True) ∷ []) ⊎ (if_false (path ++ (atom, False) ∷ []) ⊎ if_null (path ++ (atom, Null) ∷ []))

-- what the error says about a node of the tree is true
abbrev pub IsWrong : Subject → Tree → Path → ℕ → CheckError → Type 0
IsWrong subject (Split index if_true if_false if_null) path node error =
    SplitIsWrong subject path node (slice_get subject.atoms index)
    (λ longer. IsWrong subject if_true longer (later node 1) error)
    (λ longer. IsWrong subject if_false longer (later (later node 1) (nodes if_true)) error)
    (λ longer. IsWrong subject if_null longer (later (later (later node 1) (nodes if_true)) (nodes if_false)) error)
    error
IsWrong subject (Owner subscriber) path node error =
    OwnerIsWrong subject path node subscriber (slice_get subject.shares subscriber) error
IsWrong subject (Empty term) path node error = EmptyIsWrong subject path node (slice_get subject.terms term) error
IsWrong subject (NeverNull index) path node error =
    NeverNullIsWrong subject path node (slice_get subject.atoms index) error

-- what the error says about the certificate of the table with this number is true
abbrev pub CertificateIsWrong : ℕ → Table → List ShareOf → Tree → CheckError → Type 0
CertificateIsWrong number table shares tree error = IsWrong (subject_of number table.columns shares) tree [] 0 error
