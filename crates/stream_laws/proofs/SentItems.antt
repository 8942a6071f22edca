-- Each item of a stream has room, if what is sent of the log has, and the clocks have 64 bits.
use Rattle.std.proofs.Common.{◌≡◌, ℕ, ◌+◌, ◌<◌, ◌≤◌, ◌^◌, List, [], ◌∷◌, ◌++◌, length, map, refl, sym, ap, subst, arith}
use Rattle.std.specs.Prelude.{Option, Some, None, All, slice_get}
use Rattle.std.proofs.lemmas.List.Elements.{All-nil, All-cons, All-head, All-tail}
use Rattle.table_changes.specs.Tables.{no_rows}
use Rattle.shard_checker.specs.CheckedView.{CheckedOf, setting_in}
use Rattle.tables_log.specs.Commits.{CommitOf}
use Rattle.tables_log.specs.Lsn.{commits_before}
use Rattle.tables_log.specs.StandsFor.{Transaction, AreAccepted}
use Rattle.pgoutput_msgs.specs.Sent.{IsSent}
use Rattle.pgoutput_msgs.specs.Telling.{messages_for}
use Rattle.pgoutput_msgs.specs.declared.message.Msg.{Msg}
use Rattle.copy_both.specs.Streams.{StreamItem, Response, Carries, StreamStateOf, Move, Take, Keep, state_at, state_after, taken_state, head_of, take_items, keep_item, all_items}
use Rattle.copy_both.specs.Tellings.{telling_of}
use Rattle.stream_laws.specs.Following.{log_of, items_from, IsSentItem}
use Rattle.stream_laws.specs.LayoutRoom.{IsClocked, FitsLayouts, StreamsCanBeSent}
use Rattle.stream_laws.proofs.EntryLemmas.{entry_at}
use Rattle.stream_laws.proofs.FollowingLemmas.{first_sent_counts}

carried_sent : (number clock : ℕ) → number ≤ 1000000000 → clock < 2 ^ 64
    → (messages : List Msg) (rest : List StreamItem) → All IsSent messages → All IsSentItem rest
    → All IsSentItem (map (Carries (head_of number clock)) messages ++ rest)
carried_sent number clock few timed [] rest sent h = h
carried_sent number clock few timed (message ∷ messages) rest sent h =
    All-cons IsSentItem (Carries (head_of number clock) message)
    (map (Carries (head_of number clock)) messages ++ rest) (
      record { start = omega (arith, few); end = omega (arith, few); clock = timed },
      All-head IsSent message messages sent,
    )
    (carried_sent number clock few timed messages rest (All-tail IsSent message messages sent) h)

module _ (checked : CheckedOf) (transactions : List Transaction)
    (accepted : AreAccepted (setting_in checked) no_rows transactions) (sayable : FitsLayouts checked transactions)
  where
    abbrev items_on : StreamStateOf → List Move → List StreamItem
    items_on state moves = all_items (telling_of checked) (log_of checked transactions) state moves

    take_sent : (moves : List Move) (state : StreamStateOf) (clock : ℕ) → clock < 2 ^ 64
        → commits_before state.sent ≤ length transactions → (found : Option CommitOf)
        → slice_get (log_of checked transactions) state.done ≡ found
        → ((at : StreamStateOf) → commits_before at.sent ≤ length transactions → All IsSentItem (items_on at moves))
        → All IsSentItem (take_items (telling_of checked) state found clock
        ++ items_on (taken_state (telling_of checked) state found) moves)
    take_sent moves state clock timed low None e later = later state low
    take_sent moves state clock timed low (Some commit) e later =
        let entry = entry_at (setting_in checked) no_rows 1 transactions state.done commit accepted e in
        let number : commit.number ≡ 1 + state.done = ap (λ (c : CommitOf). c.number) entry.is in
        carried_sent commit.number clock (omega (arith, number, entry.within, sayable.few)) timed
        (messages_for checked state.slot state.relation_sent commit)
        (items_on (state_after (telling_of checked) state commit) moves)
        (sayable.said state.slot state.relation_sent state.done commit e)
        (later (state_after (telling_of checked) state commit) (omega (arith, number, entry.within)))

    moves_sent : (moves : List Move) (state : StreamStateOf) → commits_before state.sent ≤ length transactions
        → All IsClocked moves
        → All IsSentItem (items_on state moves)
    moves_sent [] state low timed = All-nil IsSentItem
    moves_sent (Take clock ∷ moves) state low timed =
        take_sent moves state clock (All-head IsClocked (Take clock) moves timed) low
        (slice_get (log_of checked transactions) state.done) refl
        (λ at fits. moves_sent moves at fits (All-tail IsClocked (Take clock) moves timed))
    moves_sent (Keep clock want ∷ moves) state low timed =
        All-cons IsSentItem (keep_item state clock want) (items_on state moves)
        (omega (arith, low, sayable.few), All-head IsClocked (Keep clock want) moves timed)
        (moves_sent moves state low (All-tail IsClocked (Keep clock want) moves timed))

    pub stream_sent : (subscriber position : ℕ) (moves : List Move) → commits_before position ≤ length transactions
        → All IsClocked moves → All IsSentItem (items_from checked transactions subscriber position moves)
    stream_sent subscriber position moves low timed =
        let state = state_at subscriber (length checked.catalog.tables) position in
        All-cons IsSentItem Response (items_on state moves) tt
        (moves_sent moves state (subst (λ n. n ≤ length transactions) (sym (first_sent_counts position)) low) timed)

pub streams_can_be_sent : StreamsCanBeSent
streams_can_be_sent checked transactions accepted sayable subscriber position moves low timed =
    stream_sent checked transactions accepted sayable subscriber position moves low timed
