-- Which shares of a table take a row: its owners (PostgreSQL 15, "Logical Replication", 31.3 Row Filters).
use Rattle.std.specs.Prelude.{ℕ, ◌+◌, if◌then◌else◌, List, [], ◌∷◌}
use Rattle.filter_tree.specs.Datum.{Datum}
use Rattle.replica_identity.specs.Shares.{ShareOf, takes}

-- the numbers of the shares that take the row; the first share has this number
abbrev pub owners_from : ℕ → List ShareOf → List Datum → List ℕ
owners_from number [] row = []
owners_from number (share ∷ shares) row = if takes share row then
    number ∷ owners_from (number + 1) shares row else owners_from (number + 1) shares row
