-- Positions in the log, in bytes, and transaction numbers ("8.20. pg_lsn Type", "55.9. Logical Replication Message
-- Formats": Begin). How they are assigned to commits is this project's own.
use Rattle.std.specs.Prelude.{ℕ, ◌+◌, ◌-◌, ◌*◌, ◌/◌}

-- where the commit with this number begins, counted from 1
abbrev pub lsn_of : ℕ → ℕ
lsn_of number = 64 * number

-- where it ends, and the next one begins; of 0, where the log begins
abbrev pub end_lsn_of : ℕ → ℕ
end_lsn_of number = 64 * number + 64

-- how many commits begin before a position
abbrev pub commits_before : ℕ → ℕ
commits_before position = (position - 1) / 64

-- the number of the commit's transaction
abbrev pub xid_of : ℕ → ℕ
xid_of number = number + 2
