-- That a Relation message announces each table before its first change, and once: PostgreSQL 15, 55.5.3. Logical
-- Replication Protocol Message Flow.
use Rattle.std.specs.Prelude.{◌≡◌, ℕ, ◌<◌, ◌≤◌, Bool, true, false, List, [], ◌∷◌, ◌++◌, fold, length, slice_index_or, All, Contains, None}
use Rattle.filter_tree.specs.declared.table.Table.{Table}
use Rattle.shard_checker.specs.CheckedView.{CheckedOf, setting_in}
use Rattle.table_changes.specs.Commands.{Command, first_fault}
use Rattle.table_changes.specs.Records as r
use Rattle.table_changes.specs.Records.{record_of}
use Rattle.table_changes.specs.Tables.{Tables}
use Rattle.tables_log.specs.BookView.{book_checked, book_log}
use Rattle.tables_log.specs.Commits.{CommitOf}
use Rattle.tables_log.specs.StandsFor.{Transaction, StandsFor}
use Rattle.tables_log.specs.declared.book.Book.{Book}
use Rattle.pgoutput_msgs.specs.Telling.{oid_of, messages_for, relation_sent_after}
use Rattle.pgoutput_msgs.specs.declared.message.Msg.{Msg}
use Rattle.pgoutput_msgs.specs.declared.message.Msg.TheVariants as m

-- ---- messages

-- If these OIDs are known, a change is of tables that are known, and a Relation of one that is not.
abbrev pub IsIntroduced : List ℕ → Msg → Type 0
IsIntroduced known (m.Begin final_lsn time xid) = Unit {0}
IsIntroduced known (m.Commit lsn end_lsn time) = Unit {0}
IsIntroduced known (m.Relation relation) = ¬ Contains known relation.oid
IsIntroduced known (m.Insert relation new) = Contains known relation
IsIntroduced known (m.Update relation old new) = Contains known relation
IsIntroduced known (m.Delete relation old) = Contains known relation
IsIntroduced known (m.Truncate options relations) = All (Contains known) relations

-- the OIDs that are known after a message
abbrev pub known_after : List ℕ → Msg → List ℕ
known_after known (m.Relation relation) = relation.oid ∷ known
known_after known _ = known

-- The same holds for each of these messages, after those before it.
abbrev pub AreIntroduced : List ℕ → List Msg → Type 0
AreIntroduced known [] = Unit {0}
AreIntroduced known (message ∷ messages) = IsIntroduced known message
    × AreIntroduced (known_after known message) messages

-- ---- commits

-- the OIDs that are known are those of the tables that were announced
pub record KnownAreAnnounced (sent : List Bool) (known : List ℕ) : Type 0 where
  pub each : (table : ℕ) → slice_index_or sent table false ≡ true → Contains known (oid_of table)
  pub only : (table : ℕ) → Contains known (oid_of table) → slice_index_or sent table false ≡ true

-- the tables of a change
abbrev pub tables_in : r.ChangeOf → List ℕ
tables_in (r.Insert table new) = table ∷ []
tables_in (r.Update table part new) = table ∷ []
tables_in (r.Delete table part) = table ∷ []
tables_in (r.Truncate numbers) = numbers

-- a change is of these tables, and so is each change of a commit
abbrev pub IsChangeOf : List Table → r.ChangeOf → Type 0
IsChangeOf tables change = All (λ table. table < length tables) (tables_in change)

abbrev pub IsOf : List Table → CommitOf → Type 0
IsOf tables commit = All (IsChangeOf tables) commit.changes

-- the messages of commits, one after the other, and which Relations were sent after them
abbrev pub messages_in_turn : CheckedOf → ℕ → List Bool → List CommitOf → List Msg
messages_in_turn checked subscriber sent [] = []
messages_in_turn checked subscriber sent (commit ∷ commits) =
    messages_for checked subscriber sent commit
    ++ messages_in_turn checked subscriber (relation_sent_after checked subscriber sent commit) commits

abbrev pub relation_sent_in_turn : CheckedOf → ℕ → List Bool → List CommitOf → List Bool
relation_sent_in_turn checked subscriber sent commits = fold (relation_sent_after checked subscriber) sent commits

-- ---- laws

-- What commands without a fault record is of existing tables.
abbrev pub RecordsAreOfTables : Type 0
RecordsAreOfTables = (checked : CheckedOf) (tables : Tables) (number : ℕ) (commands : List Command)
    → first_fault (setting_in checked) tables number commands ≡ None
    → All (IsChangeOf checked.catalog.tables) (record_of (setting_in checked) tables commands)

-- The same holds for the commits of a log.
abbrev pub LogsAreOfTables : Type 0
LogsAreOfTables = (book : Book) (transactions : List Transaction) → StandsFor book transactions
    → All (IsOf (book_checked book).catalog.tables) (book_log book)

-- If the OIDs of the tables that were announced are known, the messages are introduced, and then those of the tables
-- that were announced after them are known.
pub record Introduces (sent after : List Bool) (messages : List Msg) : Type 0 where
  pub introduced : (known : List ℕ) → KnownAreAnnounced sent known → AreIntroduced known messages
  pub known : (known : List ℕ) → KnownAreAnnounced sent known
      → KnownAreAnnounced after (fold known_after known messages)

-- The same holds for the messages of a commit, if there is a flag for each table,
abbrev pub CommitsIntroduce : Type 0
CommitsIntroduce = (checked : CheckedOf) (subscriber : ℕ) (sent : List Bool) (commit : CommitOf)
    → length checked.catalog.tables ≤ length sent → IsOf checked.catalog.tables commit
    → Introduces sent (relation_sent_after checked subscriber sent commit) (messages_for checked subscriber sent commit)

-- and for those of commits, one after the other.
abbrev pub CommitsInTurnIntroduce : Type 0
CommitsInTurnIntroduce = (checked : CheckedOf) (subscriber : ℕ) (sent : List Bool) (commits : List CommitOf)
    → length checked.catalog.tables ≤ length sent → All (IsOf checked.catalog.tables) commits
    → Introduces sent (relation_sent_in_turn checked subscriber sent commits)
    (messages_in_turn checked subscriber sent commits)
