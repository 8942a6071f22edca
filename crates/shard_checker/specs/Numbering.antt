-- How the certificates of a table number its atoms and terms: from 0, in the order in which they first appear in the
-- filters of the shares. Certificates are specific to this project, and no section of PostgreSQL's documentation
-- describes them.
use Rattle.std.specs.Prelude.{List, [], flat_map}
use Rattle.filter_tree.specs.Expr.{AtomOf}
use Rattle.filter_tree.specs.Lists.{distinct, distinct_atoms, distinct_terms}
use Rattle.filter_tree.specs.Same.{same_term, same_atom}
use Rattle.filter_tree.specs.declared.filter.Term.{Term}
use Rattle.replica_identity.specs.Shares.{ShareOf, Nothing, Everything, Where}

abbrev pub share_atoms : ShareOf → List AtomOf
share_atoms Nothing = []
share_atoms Everything = []
share_atoms (Where filter) = distinct_atoms filter

-- share by share, each atom where it first appears
abbrev pub numbered_atoms : List ShareOf → List AtomOf
numbered_atoms shares = distinct same_atom (flat_map share_atoms shares)

abbrev pub share_terms : ShareOf → List Term
share_terms Nothing = []
share_terms Everything = []
share_terms (Where filter) = distinct_terms filter

-- share by share, each term where it first appears; `IS NULL` of a column counts as an appearance of the column
abbrev pub numbered_terms : List ShareOf → List Term
numbered_terms shares = distinct same_term (flat_map share_terms shares)
