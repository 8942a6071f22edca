-- A subscriber reaches at most the sent position, and that is within the log.
use Rattle.std.proofs.Common.{◌≡◌, ℕ, ◌+◌, ◌-◌, ◌≤◌, Bool, true, false, List, [], ◌∷◌, ◌++◌, length, map, refl, sym, ap, subst, arith, eqb-true, le_trans}
use Rattle.std.specs.Prelude.{Option, Some, None, All, ◌==◌, nat_le, slice_get, if◌then◌else◌}
use Rattle.std.proofs.lemmas.List.Elements.{All-nil, All-cons, All-head, All-tail}
use Rattle.shard_checker.specs.CheckedView.{CheckedOf}
use Rattle.tables_log.specs.Commits.{CommitOf}
use Rattle.tables_log.specs.Lsn.{commits_before, end_lsn_of}
use Rattle.pgoutput_msgs.specs.Telling.{messages_for}
use Rattle.pgoutput_msgs.specs.declared.message.Msg.{Msg}
use Rattle.pgoutput_msgs.specs.declared.message.Msg.TheVariants as m
use Rattle.copy_both.specs.Streams as s
use Rattle.copy_both.specs.StreamLaws.{AllThere}
use Rattle.copy_both.specs.Streams.{StreamItem, Response, Carries, Alive, frame_in, StreamStateOf, Move, state_at, state_after, taken_state, moved, all_moved, head_of, take_items, keep_item, all_items, stream_items}
use Rattle.copy_both.specs.Tellings.{telling_of}
use Rattle.copy_frames.specs.Frames.{framed}
use Rattle.stream_laws.specs.Cutting.{if_whole, whole_in}
use Rattle.stream_laws.specs.Following.{raised_by_message, raised_by, position_after}
use Rattle.shard_world.proofs.EndLemmas.{TellsBy, messages_tell}
use Rattle.filter_tree.proofs.Tests.{by_test}

-- ---- items that report no more than a position

abbrev pub IsWithinItem : ℕ → StreamItem → Type 0
IsWithinItem most Response = Unit {0}
IsWithinItem most (Carries head message) = TellsBy (λ end. end ≤ most) message
IsWithinItem most (Alive keepalive) = keepalive.position ≤ most

message_within : (most position : ℕ) (message : Msg) → TellsBy (λ end. end ≤ most) message → position ≤ most
    → raised_by_message position message ≤ most
message_within most position (m.Begin final_lsn time xid) tells h = h
message_within most position (m.Commit lsn end_lsn time) tells h = omega (arith, tells, h)
message_within most position (m.Relation relation) tells h = h
message_within most position (m.Insert relation new) tells h = h
message_within most position (m.Update relation old new) tells h = h
message_within most position (m.Delete relation old) tells h = h
message_within most position (m.Truncate options relations) tells h = h

item_within : (most position : ℕ) (item : StreamItem) → IsWithinItem most item → position ≤ most
    → raised_by position item ≤ most
item_within most position Response tells h = h
item_within most position (Carries head message) tells h = message_within most position message tells h
item_within most position (Alive keepalive) tells h = omega (arith, tells, h)

items_within : (most position : ℕ) (items : List StreamItem) → All (IsWithinItem most) items → position ≤ most
    → position_after position items ≤ most
items_within most position [] all h = h
items_within most position (item ∷ items) all h =
    items_within most (raised_by position item) items (All-tail (IsWithinItem most) item items all)
    (item_within most position item (All-head (IsWithinItem most) item items all) h)

if_within : (P : StreamItem → Type 0) (whole : Bool) (item : StreamItem) (others : List StreamItem) → P item
    → All P others → All P (if_whole whole item others)
if_within P true item others here later = All-cons P item others here later
if_within P false item others here later = All-nil P

whole_within : (P : StreamItem → Type 0) (count : ℕ) (items : List StreamItem) → All P items
    → All P (whole_in count items)
whole_within P count [] all = All-nil P
whole_within P count (item ∷ items) all =
    if_within P (nat_le (length (framed (frame_in item))) count) item
    (whole_in (count - length (framed (frame_in item))) items) (All-head P item items all)
    (whole_within P (count - length (framed (frame_in item))) items (All-tail P item items all))

-- ---- places

-- no more was sent than up to where the last commit that is done ends
abbrev pub IsSentPlace : StreamStateOf → Type 0
IsSentPlace state = state.sent ≤ end_lsn_of state.done

module _ (checked : CheckedOf) (log : List CommitOf)
    (numbered : (place : ℕ) (commit : CommitOf) → slice_get log place ≡ Some commit → commit.number ≡ 1 + place) where
  record Next (state next : StreamStateOf) : Type 0 where
    sent : IsSentPlace next
    more : state.sent ≤ next.sent

  next_taken : (state : StreamStateOf) (found : Option CommitOf) → slice_get log state.done ≡ found → IsSentPlace state
      → Next state (taken_state (telling_of checked) state found)
  next_taken state None e sent = record { sent = sent; more = omega arith }
  next_taken state (Some commit) e sent =
      let number = numbered state.done commit e in
      record { sent = omega (arith, number); more = omega (arith, number, sent) }

  next_place : (state : StreamStateOf) (move : Move) → IsSentPlace state
      → Next state (moved (telling_of checked) log state move)
  next_place state (s.Take clock) sent = next_taken state (slice_get log state.done) refl sent
  next_place state (s.Keep clock want) sent = record { sent = sent; more = omega arith }

  all_sent : (moves : List Move) (state : StreamStateOf) → IsSentPlace state
      → Next state (all_moved (telling_of checked) log state moves)
  all_sent [] state sent = record { sent = sent; more = omega arith }
  all_sent (move ∷ moves) state sent =
      let here = next_place state move sent in
      let later = all_sent moves (moved (telling_of checked) log state move) here.sent in
      record { sent = later.sent; more = le_trans here.more later.more }

  carried_within : (most number clock : ℕ) (messages : List Msg) (rest : List StreamItem)
      → All (TellsBy (λ end. end ≤ most)) messages → All (IsWithinItem most) rest
      → All (IsWithinItem most) (map (Carries (head_of number clock)) messages ++ rest)
  carried_within most number clock [] rest all later = later
  carried_within most number clock (message ∷ messages) rest all later =
      All-cons (IsWithinItem most) (Carries (head_of number clock) message)
      (map (Carries (head_of number clock)) messages ++ rest)
      (All-head (TellsBy (λ end. end ≤ most)) message messages all)
      (carried_within most number clock messages rest (All-tail (TellsBy (λ end. end ≤ most)) message messages all)
      later)

  take_within : (most : ℕ) (moves : List Move) (state : StreamStateOf) (clock : ℕ) (found : Option CommitOf)
      → (taken_state (telling_of checked) state found).sent ≤ most
      → All (IsWithinItem most)
      (all_items (telling_of checked) log (taken_state (telling_of checked) state found) moves)
      → All (IsWithinItem most)
      (take_items (telling_of checked) state found clock
      ++ all_items (telling_of checked) log (taken_state (telling_of checked) state found) moves)
  take_within most moves state clock None low later = later
  take_within most moves state clock (Some commit) low later =
      carried_within most commit.number clock (messages_for checked state.slot state.relation_sent commit)
      (all_items (telling_of checked) log (state_after (telling_of checked) state commit) moves)
      (messages_tell (λ end. end ≤ most) checked state.slot state.relation_sent commit low) later

  moves_within : (most : ℕ) (moves : List Move) (state : StreamStateOf) → IsSentPlace state
      → (all_moved (telling_of checked) log state moves).sent ≤ most
      → All (IsWithinItem most) (all_items (telling_of checked) log state moves)
  moves_within most [] state sent low = All-nil (IsWithinItem most)
  moves_within most (s.Take clock ∷ moves) state sent low =
      let here = next_place state (s.Take clock) sent in
      let later = all_sent moves (moved (telling_of checked) log state (s.Take clock)) here.sent in
      take_within most moves state clock (slice_get log state.done) (omega (arith, later.more, low))
      (moves_within most moves (moved (telling_of checked) log state (s.Take clock)) here.sent low)
  moves_within most (s.Keep clock want ∷ moves) state sent low =
      let later = all_sent moves state sent in
      All-cons (IsWithinItem most) (keep_item state clock want) (all_items (telling_of checked) log state moves)
      (omega (arith, later.more, low))
      (moves_within most moves state sent low)

first_sent_place : (number tables position : ℕ) → IsSentPlace (state_at number tables position)
first_sent_place number tables position = by_test (position == 0)
    (λ zero. subst (λ n. n ≤ end_lsn_of (commits_before position)) (sym (ap (λ b. if b then 64 else position) zero))
    (omega arith))
    (λ more. subst (λ n. n ≤ end_lsn_of (commits_before position)) (sym (ap (λ b. if b then 64 else position) more))
    (omega arith))

pub first_reached : (position : ℕ) → position ≤ (if position == 0 then 64 else position)
first_reached position = by_test (position == 0)
    (λ zero. subst (λ n. position ≤ n) (sym (ap (λ b. if b then 64 else position) zero))
    (omega (arith, eqb-true position 0 zero)))
    (λ more. subst (λ n. position ≤ n) (sym (ap (λ b. if b then 64 else position) more)) (omega arith))

-- what a subscriber reaches is sent
pub reached_is_sent : (checked : CheckedOf) (log : List CommitOf)
    → ((place : ℕ) (commit : CommitOf) → slice_get log place ≡ Some commit → commit.number ≡ 1 + place)
    → (subscriber position : ℕ) (moves : List Move) (count : ℕ)
    → position_after position (whole_in count
    (stream_items (telling_of checked) log subscriber (length checked.catalog.tables) position moves)) ≤
    (all_moved (telling_of checked) log (state_at subscriber (length checked.catalog.tables) position) moves).sent
reached_is_sent checked log numbered subscriber position moves count =
    let state = state_at subscriber (length checked.catalog.tables) position in
    let items : List StreamItem = all_items (telling_of checked) log state moves in
    let first = first_sent_place subscriber (length checked.catalog.tables) position in
    let last = all_sent checked log numbered moves state first in
    let most = (all_moved (telling_of checked) log state moves).sent in
    items_within most position (whole_in count (Response ∷ items))
    (whole_within (IsWithinItem most) count (Response ∷ items)
    (All-cons (IsWithinItem most) Response items tt
    (moves_within checked log numbered most moves state first (omega arith))))
    (omega (arith, first_reached position, last.more))

-- ---- within the log

done_within : (checked : CheckedOf) (log : List CommitOf) (moves : List Move) (state : StreamStateOf)
    → AllThere (telling_of checked) log state moves → state.done ≤ length log
    → (all_moved (telling_of checked) log state moves).done ≤ length log
done_within checked log [] state there low = low
done_within checked log (s.Take clock ∷ moves) state there low =
    done_within checked log moves (moved (telling_of checked) log state (s.Take clock)) there.1
    (taken (slice_get log state.done))
  where
    taken : (found : Option CommitOf) → (taken_state (telling_of checked) state found).done ≤ length log
    taken None = low
    taken (Some commit) = omega (arith, there.0)
done_within checked log (s.Keep clock want ∷ moves) state there low = done_within checked log moves state there.1 low

-- no more is sent than up to where the log ends
pub sent_is_there : (checked : CheckedOf) (log : List CommitOf)
    → ((place : ℕ) (commit : CommitOf) → slice_get log place ≡ Some commit → commit.number ≡ 1 + place)
    → (subscriber position : ℕ) (moves : List Move)
    → AllThere (telling_of checked) log (state_at subscriber (length checked.catalog.tables) position) moves
    → commits_before position ≤ length log
    → (all_moved (telling_of checked) log (state_at subscriber (length checked.catalog.tables) position) moves).sent ≤
    end_lsn_of (length log)
sent_is_there checked log numbered subscriber position moves there low =
    let state = state_at subscriber (length checked.catalog.tables) position in
    let last = all_sent checked log numbered moves state
    (first_sent_place subscriber (length checked.catalog.tables) position) in
    omega (arith, last.sent, done_within checked log moves state there low)
