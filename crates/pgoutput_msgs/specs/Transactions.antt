-- What a connection sends a subscriber for transactions, by what the subscriber sees of them alone: Begin, each change
-- directly after the Relations of those of its tables that no change of the connection named before, and Commit:
-- PostgreSQL 15, 55.5.3. Logical Replication Protocol Message Flow.
use Rattle.std.specs.Prelude.{◌≡◌, ℕ, ◌<◌, nat_eq, Bool, false, List, [], ◌∷◌, ◌++◌, length, slice_get, slice_index_or, if◌then◌else◌, None}
use Rattle.std.specs.List.{flat_map, list_any}
use Rattle.filter_tree.specs.declared.table.Table.{Table}
use Rattle.shard_checker.specs.CheckedView.{CheckedOf, setting_in}
use Rattle.table_changes.specs.Commands.{Command, first_fault}
use Rattle.table_changes.specs.Records.{record_of}
use Rattle.table_changes.specs.Seen as s
use Rattle.table_changes.specs.Seen.{Seen, seen}
use Rattle.table_changes.specs.Standing.{Covered}
use Rattle.table_changes.specs.Tables.{Tables}
use Rattle.tables_log.specs.Commits.{CommitOf}
use Rattle.tables_log.specs.Lsn.{lsn_of, end_lsn_of, xid_of}
use Rattle.pgoutput_msgs.specs.SeenMessages.{seen_message}
use Rattle.pgoutput_msgs.specs.Telling.{a_relation, messages_for, relation_sent_after}
use Rattle.pgoutput_msgs.specs.declared.message.Msg.{Msg}
use Rattle.pgoutput_msgs.specs.declared.message.Msg.TheVariants as m

-- ---- Relations

-- the tables that a change names, in its order
abbrev pub tables_of : Seen → List ℕ
tables_of (s.Insert table new) = table ∷ []
tables_of (s.Update table old new) = table ∷ []
tables_of (s.Delete table old) = table ∷ []
tables_of (s.Truncate numbers) = numbers

abbrev pub is_among : ℕ → List ℕ → Bool
is_among number numbers = list_any (nat_eq number) numbers

-- the Relation of the table with this number, if it was not named before
abbrev pub first_relation : List Table → List ℕ → ℕ → List Msg
first_relation tables named number = if is_among number named then [] else a_relation number (slice_get tables number)

-- the Relations of the tables that were not named before, in this order
abbrev pub first_relations : List Table → List ℕ → List ℕ → List Msg
first_relations tables named [] = []
first_relations tables named (number ∷ numbers) =
    first_relation tables named number ++ first_relations tables (named ++ number ∷ []) numbers

-- ---- transactions

-- a change, directly after the Relations of the tables that it is the first to name
abbrev pub change_messages : CheckedOf → List ℕ → Seen → List Msg
change_messages checked named change =
    first_relations checked.catalog.tables named (tables_of change) ++ seen_message (setting_in checked) change

-- changes, each after the tables that those before it named
abbrev pub changes_messages : CheckedOf → List ℕ → List Seen → List Msg
changes_messages checked named [] = []
changes_messages checked named (change ∷ changes) =
    change_messages checked named change ++ changes_messages checked (named ++ tables_of change) changes

-- Begin and Commit with the number and the time of the transaction, and the changes between them; nothing if nothing is
-- seen
abbrev pub transaction_messages : CheckedOf → List ℕ → ℕ → ℕ → List Seen → List Msg
transaction_messages checked named number time [] = []
transaction_messages checked named number time (first ∷ others) =
    m.Begin (lsn_of number) time (xid_of number) ∷ changes_messages checked named (first ∷ others)
    ++ m.Commit (lsn_of number) (end_lsn_of number) time ∷ []

-- ---- the law

-- the flags mark the tables that were named
pub record AreNamed (tables : List Table) (sent : List Bool) (named : List ℕ) : Type 0 where
  pub long : length sent ≡ length tables
  pub each : (number : ℕ) → number < length tables → slice_index_or sent number false ≡ is_among number named

-- the messages of a commit report what is seen of its transaction, and then the tables that it names are marked
pub record TellsTransaction (checked : CheckedOf) (subscriber : ℕ) (sent : List Bool) (named : List ℕ)
    (commit : CommitOf) (all : List Seen) : Type 0 where
  pub messages : messages_for checked subscriber sent commit
      ≡ transaction_messages checked named commit.number commit.time all
  pub named_after : AreNamed checked.catalog.tables (relation_sent_after checked subscriber sent commit)
      (named ++ flat_map tables_of all)

-- This holds for each commit whose changes are what its commands record on the tables before it.
abbrev pub CommitsTellTransactions : Type 0
CommitsTellTransactions = (checked : CheckedOf) → Covered (setting_in checked)
    → (subscriber : ℕ) (sent : List Bool) (named : List ℕ) → AreNamed checked.catalog.tables sent named
    → (commit : CommitOf) (tables : Tables) (number : ℕ) (commands : List Command)
    → first_fault (setting_in checked) tables number commands ≡ None
    → commit.changes ≡ record_of (setting_in checked) tables commands
    → TellsTransaction checked subscriber sent named commit (seen (setting_in checked) subscriber tables commands)
