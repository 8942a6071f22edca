-- The line of the answer to a step of a script, in the program's own format. Positions in the log are written as in
-- PostgreSQL 15, "pg_lsn Type", 8.20.
use Rattle.std.specs.Prelude.{ℕ, ◌/◌, ◌%◌, ◌^◌, true, List, ◌∷◌, ◌++◌, codes}
use Rattle.std.specs.Fmt.{digits}
use Rattle.shard_world.specs.declared.answer.Answer.{Answer}
use Rattle.shard_world.specs.declared.answer.Answer.TheVariants as a
use Rattle.tables_log.specs.declared.error.CommandFault.{CommandFault}
use Rattle.tables_log.specs.declared.error.CommandFault.TheVariants as c
use Rattle.tables_log.specs.declared.error.CommitError.{CommitError}
use Rattle.tables_log.specs.declared.error.CommitError.TheVariants as e
use Rattle.commands.specs.Names.{counted, fault_words}

-- two numbers in hexadecimal digits, in upper case: the high 32 bits and the low ones
abbrev pub position_text : ℕ → List ℕ
position_text position = digits 16 true (position / 2 ^ 32) ++ 47 ∷ digits 16 true (position % 2 ^ 32)

-- why a command is refused
abbrev pub command_fault : CommandFault → List ℕ
command_fault c.NoTable = codes "NoTable"
command_fault (c.Row fault) = codes "Row " ++ fault_words fault
command_fault c.NoSuchRow = codes "NoSuchRow"
command_fault c.DuplicateKey = codes "DuplicateKey"

-- why a list of commands is refused
abbrev pub commit_error : CommitError → List ℕ
commit_error e.EmptyTransaction = codes "EmptyTransaction"
commit_error e.TooManyCommands = codes "TooManyCommands"
commit_error e.LogFull = codes "LogFull"
commit_error (e.At number fault) = counted (codes "At") number ++ 32 ∷ command_fault fault
commit_error e.OutOfMemory = codes "OutOfMemory"

abbrev pub answer_line : Answer → List ℕ
answer_line (a.Committed number) = counted (codes "commit") number
answer_line (a.Refused error) = codes "refused " ++ commit_error error
answer_line a.NoSubscriber = codes "no subscriber"
answer_line a.NotOpen = codes "not open"
answer_line a.AlreadyOpen = codes "already open"
answer_line a.Opened = codes "opened"
answer_line (a.Heard count) = counted (codes "heard") count
answer_line a.NotStarted = codes "not started"
answer_line a.Idle = codes "idle"
answer_line (a.Skipped number) = counted (codes "skipped") number
answer_line (a.Sent number) = counted (codes "sent") number
answer_line a.Kept = codes "kept"
answer_line (a.Delivered count) = counted (codes "delivered") count
answer_line a.Reported = codes "reported"
answer_line a.Lost = codes "lost"
answer_line (a.At position) = codes "at " ++ position_text position
answer_line a.OutOfMemory = codes "out of memory"
