-- The stream of a log reports the transactions of the log.
use Rattle.std.proofs.Common.{◌≡◌, ℕ, zero, suc, ◌+◌, Bool, false, Option, Some, None, List, [], ◌∷◌, ◌++◌, length, take, map, refl, ap, subst, ◌∙◌, arith}
use Rattle.std.specs.Prelude.{fold, option_map, replicate, slice_get, slice_index_or}
use Rattle.std.specs.List.{flat_map}
use Rattle.table_changes.specs.Records.{record_of}
use Rattle.table_changes.specs.Setting.{Setting}
use Rattle.table_changes.specs.Standing.{Covered}
use Rattle.table_changes.specs.Tables.{Tables, no_rows}
use Rattle.shard_checker.specs.CheckedView.{CheckedOf, setting_in}
use Rattle.tables_log.specs.Commits.{CommitOf, commit_of}
use Rattle.tables_log.specs.StandsFor.{Transaction, left_by, after, IsAccepted, AreAccepted, entries_from}
use Rattle.pgoutput_msgs.specs.Telling.{relation_sent_after}
use Rattle.pgoutput_msgs.specs.Transactions.{AreNamed, TellsTransaction}
use Rattle.pgoutput_msgs.proofs.TransactionLemmas.{commits_tell_transactions}
use Rattle.copy_both.specs.SeenStreams.{Reached, reached_at, seen_next, next_sent, reached_next, sent_by_move, sent_by_moves, StreamsTellTransactions}
use Rattle.copy_both.specs.Streams.{StreamItem, Response, Carries, spelled, StreamStateOf, Move, Take, Keep, head_of, take_items, taken_state, all_items}
use Rattle.copy_both.specs.Tellings.{telling_of}

-- ---- entries of a log

entry_of : Setting → Tables → ℕ → Transaction → CommitOf
entry_of setting tables number transaction =
    commit_of number transaction.time (record_of setting tables transaction.commands)

at_first : (number : ℕ) → number ≡ number + 0
at_first number = omega arith

pub at_later : (number place : ℕ) → number + 1 + place ≡ number + suc place
at_later number place = omega arith

numbered : (setting : Setting) (tables : Tables) (found : Option Transaction) (one other : ℕ) → one ≡ other
    → option_map (entry_of setting tables one) found ≡ option_map (entry_of setting tables other) found
numbered setting tables found one other same = ap (λ number. option_map (entry_of setting tables number) found) same

entry_there : (setting : Setting) (tables : Tables) (number : ℕ) (transactions : List Transaction) (place : ℕ)
    → slice_get (entries_from setting tables number transactions) place
    ≡ option_map (entry_of setting (fold (left_by setting) tables (take place transactions)) (number + place))
    (slice_get transactions place)
unfolding entry_of
entry_there setting tables number [] place = refl
entry_there setting tables number (transaction ∷ transactions) zero =
    numbered setting tables (Some transaction) number (number + 0) (at_first number)
entry_there setting tables number (transaction ∷ transactions) (suc place) =
    entry_there setting (left_by setting tables transaction) (number + 1) transactions place
    ∙ numbered setting (fold (left_by setting) (left_by setting tables transaction) (take place transactions))
    (slice_get transactions place) (number + 1 + place) (number + suc place)
    (at_later number place)

first_is : (one other : Transaction) → Some one ≡ Some other → one ≡ other
first_is one other h = cc

accepted_there : (setting : Setting) (tables : Tables) (transactions : List Transaction) (place : ℕ)
    (transaction : Transaction)
    → AreAccepted setting tables transactions → slice_get transactions place ≡ Some transaction
    → IsAccepted setting (fold (left_by setting) tables (take place transactions)) transaction
accepted_there setting tables [] place transaction accepted h = absurd cc
accepted_there setting tables (first ∷ transactions) zero transaction accepted h =
    subst (IsAccepted setting tables) (first_is first transaction h) accepted.0
accepted_there setting tables (first ∷ transactions) (suc place) transaction accepted h =
    accepted_there setting (left_by setting tables first) transactions place transaction accepted.1 h

-- ---- moves

none_named : (tables : ℕ) (number : ℕ) → slice_index_or (replicate tables false) number false ≡ false
none_named zero number = refl
none_named (suc tables) zero = refl
none_named (suc tables) (suc number) = none_named tables number

module _ (checked : CheckedOf) (covered : Covered (setting_in checked)) (transactions : List Transaction)
    (accepted : AreAccepted (setting_in checked) no_rows transactions) (subscriber : ℕ) where
  abbrev log : List CommitOf
  log = entries_from (setting_in checked) no_rows 1 transactions

  abbrev entry : ℕ → Transaction → CommitOf
  entry done transaction =
      entry_of (setting_in checked) (after (setting_in checked) (take done transactions)) (done + 1) transaction

  -- the same state, if these flags say which tables were announced
  abbrev state_by : Reached → List Bool → StreamStateOf
  state_by at sent = record { slot = subscriber; done = at.done; relation_sent = sent; sent = at.sent }

  entry_after : (done : ℕ) → slice_get log done ≡ option_map (entry done) (slice_get transactions done)
  entry_after done =
      entry_there (setting_in checked) no_rows 1 transactions done
      ∙ numbered (setting_in checked) (after (setting_in checked) (take done transactions))
      (slice_get transactions done) (1 + done) (done + 1) (omega arith)

  tells : (at : Reached) (sent : List Bool) (transaction : Transaction)
      → AreNamed checked.catalog.tables sent at.named → slice_get transactions at.done ≡ Some transaction
      → TellsTransaction checked subscriber sent at.named (entry at.done transaction)
      (seen_next checked transactions subscriber at.done transaction)
  unfolding entry_of
  tells at sent transaction named there =
      commits_tell_transactions checked covered subscriber sent at.named named (entry at.done transaction)
      (after (setting_in checked) (take at.done transactions)) 1 transaction.commands
      (accepted_there (setting_in checked) no_rows transactions at.done transaction accepted there).no_fault refl

  -- the flags after the next transaction
  sent_next : List Bool → Reached → Option Transaction → List Bool
  sent_next sent at None = sent
  sent_next sent at (Some transaction) = relation_sent_after checked subscriber sent (entry at.done transaction)

  items_next : (at : Reached) (sent : List Bool) (found : Option Transaction) (clock : ℕ)
      → AreNamed checked.catalog.tables sent at.named → slice_get transactions at.done ≡ found
      → take_items (telling_of checked) (state_by at sent) (option_map (entry at.done) found) clock
      ≡ next_sent checked transactions subscriber at found clock
  unfolding entry_of
  items_next at sent None clock named there = refl
  items_next at sent (Some transaction) clock named there =
      ap (map (Carries (head_of (at.done + 1) clock))) (tells at sent transaction named there).messages

  state_next : (at : Reached) (sent : List Bool) (found : Option Transaction)
      → taken_state (telling_of checked) (state_by at sent) (option_map (entry at.done) found)
      ≡ state_by (reached_next checked transactions subscriber at found) (sent_next sent at found)
  unfolding entry_of sent_next
  state_next at sent None = refl
  state_next at sent (Some transaction) = refl

  named_next : (at : Reached) (sent : List Bool) (found : Option Transaction)
      → AreNamed checked.catalog.tables sent at.named → slice_get transactions at.done ≡ found
      → AreNamed checked.catalog.tables (sent_next sent at found)
      (reached_next checked transactions subscriber at found).named
  unfolding sent_next
  named_next at sent None named there = named
  named_next at sent (Some transaction) named there = (tells at sent transaction named there).named_after

  moves_as : (at : Reached) (sent : List Bool) → AreNamed checked.catalog.tables sent at.named → (moves : List Move)
      → all_items (telling_of checked) log (state_by at sent) moves
      ≡ sent_by_moves checked transactions subscriber at moves
  moves_as at sent named [] = refl
  moves_as at sent named (Take clock ∷ moves) =
      let found = slice_get transactions at.done in
      let next = reached_next checked transactions subscriber at found in
      ap (λ (one : Option CommitOf). take_items (telling_of checked) (state_by at sent) one clock
      ++ all_items (telling_of checked) log (taken_state (telling_of checked) (state_by at sent) one) moves)
      (entry_after at.done)
      ∙ ap (λ (state : StreamStateOf). take_items (telling_of checked) (state_by at sent)
      (option_map (entry at.done) found)
      clock ++ all_items (telling_of checked) log state moves)
      (state_next at sent found)
      ∙ ap (λ (items : List StreamItem). items
      ++ all_items (telling_of checked) log (state_by next (sent_next sent at found)) moves)
      (items_next at sent found clock named refl)
      ∙ ap (λ (items : List StreamItem). next_sent checked transactions subscriber at found clock ++ items)
      (moves_as next (sent_next sent at found) (named_next at sent found named refl) moves)
  moves_as at sent named (Keep clock want ∷ moves) =
      ap (λ (items : List StreamItem). sent_by_move checked transactions subscriber at (Keep clock want) ++ items)
      (moves_as at sent named moves)

-- ---- the law

length-replicate : (count : ℕ) → length (replicate count false) ≡ count
length-replicate zero = refl
length-replicate (suc count) = ap suc (length-replicate count)

pub streams_tell_transactions : StreamsTellTransactions
streams_tell_transactions checked covered transactions accepted subscriber position moves =
    let tables = length checked.catalog.tables in
    ap (λ (items : List StreamItem). flat_map spelled (Response ∷ items))
    (moves_as checked covered transactions accepted subscriber (reached_at position) (replicate tables false)
    (record { long = length-replicate tables; each = λ number within. none_named tables number }) moves)
