-- The entries of a log by their numbers, which are counted from 1 (the project's own).
use Rattle.std.specs.Prelude.{◌≡◌, ℕ, ◌+◌, ◌-◌, ◌==◌, List, slice_get, Option, Some, None, if◌then◌else◌}
use Rattle.tables_log.specs.Commits.{CommitOf}

abbrev pub entry_at : List CommitOf → ℕ → Option CommitOf
entry_at log number = if number == 0 then None else slice_get log (number - 1)

-- Each entry has the number of its place.
abbrev pub IsNumbered : List CommitOf → Type 0
IsNumbered log = (place : ℕ) (commit : CommitOf) → slice_get log place ≡ Some commit → commit.number ≡ place + 1
