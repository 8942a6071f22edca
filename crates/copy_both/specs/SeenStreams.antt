-- What a connection sends, by the transactions and what the subscriber sees of them alone: CopyBothResponse, and then
-- for each move the messages of the next transaction, each in an XLogData at the transaction's LSN, or a keepalive at
-- the sent position: PostgreSQL 15, 55.4. Streaming Replication Protocol, 55.5.3. Logical Replication Protocol Message
-- Flow, and "Logical Replication", 31.3.3 UPDATE Transformations.
use Rattle.std.specs.Prelude.{◌≡◌, ℕ, ◌+◌, List, [], ◌∷◌, ◌++◌, length, map, slice_get, take, Option, Some, None}
use Rattle.std.specs.List.{flat_map}
use Rattle.table_changes.specs.Seen.{Seen, seen}
use Rattle.table_changes.specs.Standing.{Covered}
use Rattle.table_changes.specs.Tables.{no_rows}
use Rattle.shard_checker.specs.CheckedView.{CheckedOf, setting_in}
use Rattle.tables_log.specs.Lsn.{end_lsn_of, commits_before}
use Rattle.tables_log.specs.StandsFor.{Transaction, after, AreAccepted, entries_from}
use Rattle.pgoutput_msgs.specs.Transactions.{tables_of, transaction_messages}
use Rattle.copy_both.specs.Streams.{StreamItem, Response, Carries, Alive, spelled, Move, Take, Keep, first_sent, head_of, stream}
use Rattle.copy_both.specs.Tellings.{telling_of}

-- where a connection is: how many transactions are done, which tables its changes named, and the sent position
pub record Reached : Type 0 where
  pub done : ℕ
  pub named : List ℕ
  pub sent : ℕ

-- a connection that starts at this position
abbrev pub reached_at : ℕ → Reached
reached_at position = record { done = commits_before position; named = []; sent = first_sent position }

-- what the subscriber sees of the transaction that comes after this number of others
abbrev pub seen_next : CheckedOf → List Transaction → ℕ → ℕ → Transaction → List Seen
seen_next checked transactions subscriber done transaction =
    seen (setting_in checked) subscriber (after (setting_in checked) (take done transactions)) transaction.commands

-- ---- moves

-- the next transaction is taken, if there is one
abbrev pub next_sent : CheckedOf → List Transaction → ℕ → Reached → Option Transaction → ℕ → List StreamItem
next_sent checked transactions subscriber at None clock = []
next_sent checked transactions subscriber at (Some transaction) clock =
    map (Carries (head_of (at.done + 1) clock))
    (transaction_messages checked at.named (at.done + 1) transaction.time
    (seen_next checked transactions subscriber at.done transaction))

abbrev pub reached_next : CheckedOf → List Transaction → ℕ → Reached → Option Transaction → Reached
reached_next checked transactions subscriber at None = at
reached_next checked transactions subscriber at (Some transaction) = record {
  done = at.done + 1;
  named = at.named ++ flat_map tables_of (seen_next checked transactions subscriber at.done transaction);
  sent = end_lsn_of (at.done + 1);
}

-- a keepalive carries the sent position
abbrev pub sent_by_move : CheckedOf → List Transaction → ℕ → Reached → Move → List StreamItem
sent_by_move checked transactions subscriber at (Take clock) =
    next_sent checked transactions subscriber at (slice_get transactions at.done) clock
sent_by_move checked transactions subscriber at (Keep clock want) =
    Alive (record { position = at.sent; clock = clock; wants_reply = want }) ∷ []

abbrev pub reached_by : CheckedOf → List Transaction → ℕ → Reached → Move → Reached
reached_by checked transactions subscriber at (Take clock) =
    reached_next checked transactions subscriber at (slice_get transactions at.done)
reached_by checked transactions subscriber at (Keep clock want) = at

abbrev pub sent_by_moves : CheckedOf → List Transaction → ℕ → Reached → List Move → List StreamItem
sent_by_moves checked transactions subscriber at [] = []
sent_by_moves checked transactions subscriber at (move ∷ moves) =
    sent_by_move checked transactions subscriber at move
    ++ sent_by_moves checked transactions subscriber (reached_by checked transactions subscriber at move) moves

-- the bytes of a connection of the subscriber with this number that starts at this position and makes these moves
abbrev pub stream_seen : CheckedOf → List Transaction → ℕ → ℕ → List Move → List ℕ
stream_seen checked transactions subscriber position moves =
    flat_map spelled (Response ∷ sent_by_moves checked transactions subscriber (reached_at position) moves)

-- ---- the law

-- The stream of the log of transactions that were accepted reports the transactions.
abbrev pub StreamsTellTransactions : Type 0
StreamsTellTransactions = (checked : CheckedOf) → Covered (setting_in checked)
    → (transactions : List Transaction) → AreAccepted (setting_in checked) no_rows transactions
    → (subscriber position : ℕ) (moves : List Move)
    → stream (telling_of checked) (entries_from (setting_in checked) no_rows 1 transactions) subscriber
    (length checked.catalog.tables) position moves
    ≡ stream_seen checked transactions subscriber position moves
