-- That what a subscriber is sent for a commit is what it sees of the commit's commands, with what is recorded of old
-- rows: PostgreSQL 15, "Logical Replication", 31.3.3 UPDATE Transformations, and 55.5.3. Logical Replication Protocol
-- Message Flow.
use Rattle.std.specs.Prelude.{◌≡◌, ℕ, Bool, true, false, List, [], ◌∷◌, length, filter, map, Option, Some, None}
use Rattle.std.specs.List.{flat_map}
use Rattle.shard_checker.specs.CheckedView.{CheckedOf, setting_in}
use Rattle.table_changes.specs.Commands.{Command, first_fault}
use Rattle.table_changes.specs.Records as r
use Rattle.table_changes.specs.Records.{part_of, record_of}
use Rattle.table_changes.specs.Seen as s
use Rattle.table_changes.specs.Seen.{Seen, seen}
use Rattle.table_changes.specs.Setting.{Setting}
use Rattle.table_changes.specs.Standing.{Covered}
use Rattle.table_changes.specs.Tables.{Tables}
use Rattle.tables_log.specs.Commits.{CommitOf}
use Rattle.pgoutput_msgs.specs.Telling.{oid_of, old_of, maybe_old_of, messages_for}
use Rattle.pgoutput_msgs.specs.ValueText.{cells_of}
use Rattle.pgoutput_msgs.specs.declared.message.Msg.{Msg}
use Rattle.pgoutput_msgs.specs.declared.message.Msg.TheVariants as m

-- a message that is a change, not a Begin, Commit or Relation
abbrev pub is_change : Msg → Bool
is_change (m.Begin final_lsn time xid) = false
is_change (m.Commit lsn end_lsn time) = false
is_change (m.Relation relation) = false
is_change (m.Insert relation new) = true
is_change (m.Update relation old new) = true
is_change (m.Delete relation old) = true
is_change (m.Truncate options relations) = true

-- an old row alone is a Delete; nothing if nothing is recorded of it
abbrev pub gone_message : ℕ → Option r.PartOf → List Msg
gone_message table None = []
gone_message table (Some part) = m.Delete (oid_of table) (old_of part) ∷ []

-- The message of what is seen. A new row alone is an Insert, an old one alone a Delete, and both are an Update.
abbrev pub seen_message : Setting → Seen → List Msg
seen_message setting (s.Insert table new) = m.Insert (oid_of table) (cells_of new) ∷ []
seen_message setting (s.Update table old new) =
    m.Update (oid_of table) (maybe_old_of (part_of setting table old (Some new))) (cells_of new) ∷ []
seen_message setting (s.Delete table old) = gone_message table (part_of setting table old None)
seen_message setting (s.Truncate numbers) = m.Truncate 0 (map oid_of numbers) ∷ []

-- messages that report what is seen
pub record TellsWhatIsSeen (setting : Setting) (messages : List Msg) (all : List Seen) : Type 0 where
  -- the changes among them are the messages of what is seen, in its order
  pub changes : filter is_change messages ≡ flat_map (seen_message setting) all
  -- each has one message
  pub one_each : (one : Seen) → length (seen_message setting one) ≡ 1
  -- there is none if, and only if, nothing is seen
  pub none : all ≡ [] → messages ≡ []
  pub only : messages ≡ [] → all ≡ []

-- The messages of a commit whose changes are what its commands record on the tables before it report what is seen of
-- the commands.
abbrev pub MessagesTellWhatIsSeen : Type 0
MessagesTellWhatIsSeen = (checked : CheckedOf) → Covered (setting_in checked)
    → (subscriber : ℕ) (sent : List Bool) (commit : CommitOf)
    → (tables : Tables) (number : ℕ) (commands : List Command)
    → first_fault (setting_in checked) tables number commands ≡ None
    → commit.changes ≡ record_of (setting_in checked) tables commands
    → TellsWhatIsSeen (setting_in checked) (messages_for checked subscriber sent commit)
    (seen (setting_in checked) subscriber tables commands)
