-- The entries of the log: each commit's number, counted from 1, its time, and what it recorded: PostgreSQL 15,
-- "Logical Replication", 31.1 Publication, and 55.9. Logical Replication Message Formats (Begin).
use Rattle.std.specs.Prelude.{ℕ, List}
use Rattle.table_changes.specs.Records.{ChangeOf}

pub record CommitOf : Type 0 where
  pub number : ℕ
  -- in microseconds since 2000-01-01
  pub time : ℕ
  pub changes : List ChangeOf

abbrev pub commit_of : ℕ → ℕ → List ChangeOf → CommitOf
commit_of number time changes = record { number = number; time = time; changes = changes }
