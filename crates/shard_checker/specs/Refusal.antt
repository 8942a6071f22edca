-- The first node, in the order in which a certificate is written, at which it says something that is not true.
-- Certificates are specific to this project, and no section of PostgreSQL's documentation describes them.
use Rattle.std.specs.Prelude.{ℕ, ◌+◌, ◌-◌, ◌^◌, min, if◌then◌else◌, List, [], ◌∷◌, ◌++◌, Option, Some, None, slice_get}
use Rattle.filter_tree.specs.Datum.{Datum}
use Rattle.filter_tree.specs.Expr.{AtomOf}
use Rattle.filter_tree.specs.Paths.{Path, Agrees}
use Rattle.filter_tree.specs.declared.filter.Term.{Term}
use Rattle.filter_tree.specs.declared.table.Column.{Column}
use Rattle.filter_tree.specs.declared.table.Table.{Table}
use Rattle.filter_tree.specs.declared.tri.Tri.TheVariants.{True, False, Null}
use Rattle.replica_identity.specs.Shares.{ShareOf}
use Rattle.split_cert.specs.Tree.{Tree, Split, Owner, Empty, NeverNull, nodes}
use Rattle.shard_checker.specs.Emptiness.{EmptyTest}
use Rattle.shard_checker.specs.Facts.{is_never_null}
use Rattle.shard_checker.specs.Numbering.{numbered_atoms, numbered_terms}
use Rattle.shard_checker.specs.Owners.{HasOneOwner, must_take, second_owner, shares_view}
use Rattle.shard_checker.specs.Rows.{IsTyped}
use Rattle.shard_checker.specs.declared.error.CheckError.{CheckError}
use Rattle.shard_checker.specs.declared.error.CheckError.TheVariants.{BadIndex, NotEmpty, MayBeNull, NotOwner, SecondOwner}
use Rattle.filter_tree.specs.Shape.{atoms_view}
use Rattle.shard_checker.specs.declared.subject.Subject as d

-- what a certificate is about: a table, by its number, its columns, the share of each subscriber, and the atoms and
-- terms that the certificate names by their numbers
pub record Subject : Type 0 where
  pub table : ℕ
  pub columns : List Column
  pub shares : List ShareOf
  pub atoms : List AtomOf
  pub terms : List Term

abbrev pub numbered_subject : ℕ → List Column → List ShareOf → List AtomOf → List Term → Subject
numbered_subject table columns shares atoms terms =
    record { table = table; columns = columns; shares = shares; atoms = atoms; terms = terms }

abbrev pub subject_of : ℕ → List Column → List ShareOf → Subject
subject_of table columns shares = numbered_subject table columns shares (numbered_atoms shares) (numbered_terms shares)

-- a subject of the program
abbrev pub subject_view : {A : _} → d.Subject A → Subject
subject_view subject =
    record {
      table = subject.table;
      columns = subject.columns.now;
      shares = shares_view subject.shares.now;
      atoms =
          atoms_view subject.atoms.now;
      terms = subject.terms.now;
    }

-- the number of a node that comes `count` nodes later; numbers stop at the greatest number of 64 bits, which all later
-- nodes have
abbrev pub later : ℕ → ℕ → ℕ
later node count = min (node + count) (2 ^ 64 - 1)

-- ---- what a node that is not a split says, at the end of a path

abbrev pub second_refusal : Subject → ℕ → Option ℕ → Option CheckError
second_refusal subject node None = None
second_refusal subject node (Some second) = Some (SecondOwner subject.table node second)

-- no other share than the owner's may take a row
abbrev pub others_refusal : Subject → Path → ℕ → ℕ → Option CheckError
others_refusal subject path node owner = second_refusal subject node (second_owner owner 0 subject.shares path)

-- the share of the owner takes the rows, and no other share may
abbrev pub owner_refusal : Subject → Path → ℕ → ℕ → Option ShareOf → Option CheckError
owner_refusal subject path node owner None = Some (BadIndex subject.table node)
owner_refusal subject path node owner (Some share) =
    if must_take share path then others_refusal subject path node owner else Some (NotOwner subject.table node)

-- no value is left for the term, as a test determines
abbrev pub empty_refusal : EmptyTest → Subject → Path → ℕ → Option Term → Option CheckError
empty_refusal is_empty subject path node None = Some (BadIndex subject.table node)
empty_refusal is_empty subject path node (Some term) = if is_empty subject.columns term path then
    None else Some (NotEmpty subject.table node)

abbrev pub never_null_refusal : Subject → Path → ℕ → Option AtomOf → Option CheckError
never_null_refusal subject path node None = Some (BadIndex subject.table node)
never_null_refusal subject path node (Some atom) = if is_never_null subject.columns atom path then
    None else Some (MayBeNull subject.table node)

-- ---- trees

abbrev pub earliest : Option CheckError → Option CheckError → Option CheckError
earliest None next = next
earliest (Some error) next = Some error

-- the refusal of a split, from those of its branches, each with its path by the value of the atom
abbrev pub split_refusal : Subject → Path → ℕ → Option AtomOf → (Path → Option CheckError)
    → (Path → Option CheckError) → (Path → Option CheckError) → Option CheckError
split_refusal subject path node None if_true if_false if_null = Some (BadIndex subject.table node)
split_refusal subject path node (Some atom) if_true if_false if_null =
    earliest (if_true (path ++ (atom, True) ∷ []))
    (earliest (if_false (path ++ (atom, False) ∷ [])) (if_null (path ++ (atom, Null) ∷ [])))

-- the first refusal in a tree at the end of a path; its first node has this number, and a test determines which terms
-- have no value
abbrev pub refusal : EmptyTest → Subject → Tree → Path → ℕ → Option CheckError
refusal is_empty subject (Split index if_true if_false if_null) path node =
    split_refusal subject path node (slice_get subject.atoms index)
    (λ longer. refusal is_empty subject if_true longer (later node 1))
    (λ longer. refusal is_empty subject if_false longer (later (later node 1) (nodes if_true)))
    (λ longer. refusal is_empty subject if_null longer (later (later (later node 1) (nodes if_true)) (nodes if_false)))
refusal is_empty subject (Owner subscriber) path node =
    owner_refusal subject path node subscriber (slice_get subject.shares subscriber)
refusal is_empty subject (Empty term) path node =
    empty_refusal is_empty subject path node (slice_get subject.terms term)
refusal is_empty subject (NeverNull index) path node =
    never_null_refusal subject path node (slice_get subject.atoms index)

-- the first refusal in the certificate of the table with this number
abbrev pub first_refusal : EmptyTest → ℕ → Table → List ShareOf → Tree → Option CheckError
first_refusal is_empty number table shares tree = refusal is_empty (subject_of number table.columns shares) tree [] 0

-- each row that may be in the columns and agrees with the path has one owner
pub record PathIsSound (columns : List Column) (shares : List ShareOf) (path : Path) : Type 0 where
  pub one_owner : (row : List Datum) → IsTyped columns row → Agrees row path → HasOneOwner shares row
