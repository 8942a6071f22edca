-- What a subscriber gets of a change by its shares of the tables: PostgreSQL 15, "Logical Replication", 31.3.1 Row
-- Filter Rules and 31.3.3 UPDATE Transformations.
use Rattle.std.specs.Prelude.{ℕ, Bool, not, List, Option}
use Rattle.filter_tree.specs.Datum.{Datum}
use Rattle.replica_identity.specs.Plans.{PlanOf, share_at}
use Rattle.replica_identity.specs.Shares.{takes, is_nothing}
use Rattle.table_changes.specs.Outs.{OutOf, transform_of}
use Rattle.table_changes.specs.Records.{ChangeOf}

-- the subscriber gets the row of the table
abbrev pub takes_row : PlanOf → ℕ → ℕ → List Datum → Bool
takes_row plan subscriber table row = takes (share_at plan subscriber table) row

-- it gets anything from the table
abbrev pub takes_any : PlanOf → ℕ → ℕ → Bool
takes_any plan subscriber table = not (is_nothing (share_at plan subscriber table))

abbrev pub out_for : PlanOf → ℕ → ChangeOf → Option OutOf
out_for plan subscriber change = transform_of (takes_row plan subscriber) (takes_any plan subscriber) change
