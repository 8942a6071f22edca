-- The program's certificates and cursors as plain data, wherever they are in memory, and what a function that reads at
-- a cursor returns. Certificates are specific to this project, and no section of PostgreSQL's documentation describes
-- them.
use Rattle.std.specs.Prelude.{Some, Result}
use Rattle.filter_tree.specs.Memory.{Answers}
use Rattle.split_cert.specs.declared.cert.Cert.{Cert}
use Rattle.split_cert.specs.declared.cert.Cert.TheVariants.{Split', Owner, Empty, NeverNull}
use Rattle.split_cert.specs.declared.cursor.Cursor.{Cursor}
use Rattle.split_cert.specs.declared.error.CertError.{CertError}
use Rattle.split_cert.specs.Reading.{Here, Rule}
use Rattle.split_cert.specs.Tree.{Tree}
use Rattle.split_cert.specs.Tree as T

-- `p`, `q` and `r` are where the boxes are
abbrev pub tree_view : {A : _} → Cert A → Tree
tree_view (Split' atom p if_true q if_false r if_null) =
    T.Split atom (tree_view if_true) (tree_view if_false) (tree_view if_null)
tree_view (Owner subscriber) = T.Owner subscriber
tree_view (Empty term) = T.Empty term
tree_view (NeverNull atom) = T.NeverNull atom

abbrev pub here_view : Cursor → Here
here_view cursor = record { place = cursor.place; nodes = cursor.nodes; rest = cursor.rest.now }

-- the result is what the rule gives at the first cursor; `view` gives a value as plain data. With a value the second
-- cursor is where the rule ends
abbrev pub Finds : {A B : Type 0} → (A → B) → Rule B → Cursor → Cursor → Result A CertError → Type 0
Finds view rule old new result =
    Answers (λ a. (view a, here_view new)) (λ error. Some error) (rule (here_view old)) result
