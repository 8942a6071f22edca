-- A subscriber follows its stream, item by item.
use Rattle.std.proofs.Common.{◌≡◌, ℕ, ◌<◌, ◌^◌, false, List, [], ◌∷◌, ◌++◌, length, map, refl, sym, ◌∙◌, ap, subst, arith}
use Rattle.std.specs.Int.{to_be_bytes, w64}
use Rattle.std.specs.Prelude.{Option, Some, None, Ok, Err, ◌==◌, if◌then◌else◌, All, max, nat_lt, replicate, slice_get, slice_index_or}
use Rattle.std.specs.Cmp.{unsigned_Decides}
use Rattle.std.specs.Result.{IsOkAnd}
use Rattle.std.proofs.lemmas.Bool.{ltb-true, ltb-false}
use Rattle.std.proofs.lemmas.List.{get_or-replicate, get_or_past, length-replicate}
use Rattle.std.proofs.lemmas.List.Elements.{All-head, All-tail}
use Rattle.filter_tree.specs.Datum.{Datum}
use Rattle.shard_checker.specs.CheckedView.{CheckedOf}
use Rattle.tables_log.specs.Commits.{CommitOf}
use Rattle.tables_log.specs.Lsn.{commits_before}
use Rattle.tables_log.specs.StandsFor.{Transaction}
use Rattle.pgoutput_msgs.specs.Sent.{IsSent}
use Rattle.pgoutput_msgs.specs.Spelling.{spelling_of}
use Rattle.pgoutput_msgs.specs.Telling.{oid_of, messages_for}
use Rattle.pgoutput_msgs.specs.declared.message.Msg.{Msg}
use Rattle.pgoutput_msgs.proofs.SpellingLaws.{are_decoded}
use Rattle.copy_both.specs.Streams.{StreamItem, Response, Carries, Alive, frame_in, StreamStateOf, Move, Take, Keep, state_at, state_after, taken_state, head_of, take_items, keep_item, all_items, first_sent}
use Rattle.copy_both.specs.Tellings.{telling_of}
use Rattle.copy_frames.specs.Contents.{xlog_data_in}
use Rattle.copy_frames.specs.declared.keepalive.Keepalive.{Keepalive}
use Rattle.copy_frames.specs.declared.xlog_data.XLogData.{XLogData}
use Rattle.copy_frames.proofs.ContentLemmas.{data_is_read, keepalive_is_read}
use Rattle.test_subscriber.specs.Feeding.{next_heard, hear_frames}
use Rattle.test_subscriber.specs.Frames.{raised, kept_alive, hear_keepalive, hear_decoded, hear_data, hear_content, hear_stream, hear_frame_in, hear_frame, started}
use Rattle.test_subscriber.specs.Hearing.{MachineResult, hear, hear_in}
use Rattle.test_subscriber.specs.Machine.{Machine, opened}
use Rattle.test_subscriber.specs.declared.phase.Phase.{Phase}
use Rattle.test_subscriber.specs.declared.phase.Phase.TheVariants.{Shut, Waiting, Idle, Busy}
use Rattle.stream_laws.specs.Following.{raised_by_message, raised_by, position_after, Follows, IsPublished, log_of, items_from, IsHead, IsSentItem, ItemsAreFollowed}
use Rattle.stream_laws.proofs.Safety.{Safe, safe_on, on_ok, ok_as}
use Rattle.stream_laws.proofs.StreamSteps.{Between, between_follows, commit_safe, keepalive_between}
use Rattle.filter_tree.proofs.Tests.{by_test}

-- ---- the frame of an item

not_empty : (byte : ℕ) (bytes : List ℕ) → (length (byte ∷ bytes) == 0) ≡ false
not_empty byte bytes = by_test (length (byte ∷ bytes) == 0)
    (λ none. let zero : length (byte ∷ bytes) ≡ 0 = (unsigned_Decides (length (byte ∷ bytes)) 0).0 none in
    absurd (omega (arith, zero)))
    (λ some. some)

data_content : (bytes : List ℕ) (machine : Machine)
    → hear_content (119 ∷ bytes) machine ≡ hear_data (xlog_data_in (119 ∷ bytes)) machine
data_content bytes machine = rw (not_empty 119 bytes) refl

carried : (head : XLogData) (message : Msg) (machine : Machine) → IsHead head → IsSent message
    → hear_stream (frame_in (Carries head message)) machine ≡ hear message machine
carried head message machine bounds sent =
    data_content (to_be_bytes w64 head.start
    ++ (to_be_bytes w64 head.end ++ (to_be_bytes w64 head.clock ++ spelling_of message))) machine
    ∙ ap (λ found. hear_data found machine)
    (data_is_read head (spelling_of message) bounds.start bounds.end bounds.clock)
    ∙ ap (λ result. hear_decoded result machine) (are_decoded message sent.read_back)

carries_heard : (head : XLogData) (message : Msg) (machine : Machine) (P : Machine → Type 0) → IsHead head
    → IsSent message → IsOkAnd (hear message machine) P
    → IsOkAnd (hear_frame (frame_in (Carries head message)) machine) P
carries_heard head message machine P bounds sent h = by_phase machine.phase refl
  where
    by_phase : (phase : Phase) → machine.phase ≡ phase
        → IsOkAnd (hear_frame (frame_in (Carries head message)) machine) P
    by_phase Shut e = absurd
        (ok_as (hear message machine) (hear_in Shut message machine) P (ap (λ phase. hear_in phase message machine) e)
        h)
    by_phase Waiting e = absurd
        (ok_as (hear message machine) (hear_in Waiting message machine) P
        (ap (λ phase. hear_in phase message machine) e) h)
    by_phase Idle e = ok_as (hear message machine) (hear_frame (frame_in (Carries head message)) machine) P
        (sym (ap (λ phase. hear_frame_in phase (frame_in (Carries head message)) machine) e
        ∙ carried head message machine bounds sent)) h
    by_phase (Busy begin) e = ok_as (hear message machine) (hear_frame (frame_in (Carries head message)) machine) P
        (sym (ap (λ phase. hear_frame_in phase (frame_in (Carries head message)) machine) e
        ∙ carried head message machine bounds sent)) h

kept_up : (keepalive : Keepalive) (machine : Machine) → machine.phase ≡ Idle → (keepalive.position < 2 ^ 64)
    × (keepalive.clock < 2 ^ 64)
    → hear_frame (frame_in (Alive keepalive)) machine ≡ Ok (kept_alive keepalive machine)
kept_up keepalive machine idle bounds =
    ap (λ phase. hear_frame_in phase (frame_in (Alive keepalive)) machine) idle
    ∙ ap (λ found. hear_keepalive found machine) (keepalive_is_read keepalive bounds.0 bounds.1)

-- ---- items, one after another

-- it follows before each item and at the end, and no frame is a fault
abbrev pub SafeItems : CheckedOf → List Transaction → ℕ → ℕ → List StreamItem → Machine → Type 0
SafeItems checked transactions subscriber position [] machine = Follows checked transactions subscriber position machine
SafeItems checked transactions subscriber position (item ∷ items) machine =
    Follows checked transactions subscriber position machine
    × IsOkAnd (hear_frame (frame_in item) machine)
    (SafeItems checked transactions subscriber (raised_by position item) items)

pub same_item : (one other : StreamItem) (xs ys : List StreamItem) → one ∷ xs ≡ other ∷ ys → one ≡ other
same_item one other xs ys e = cc

pub same_items : (one other : StreamItem) (xs ys : List StreamItem) → one ∷ xs ≡ other ∷ ys → xs ≡ ys
same_items one other xs ys e = cc

module _ (checked : CheckedOf) (transactions : List Transaction) (subscriber : ℕ) where
  -- the items of messages
  carried_safe : (head : XLogData) → IsHead head
      → (messages : List Msg) (rest : List StreamItem) (position : ℕ) (machine : Machine)
      → All IsSentItem (map (Carries head) messages ++ rest)
      → Safe (Follows checked transactions subscriber) position messages machine
      (λ at next. SafeItems checked transactions subscriber at rest next)
      → SafeItems checked transactions subscriber position (map (Carries head) messages ++ rest) machine
  carried_safe head bounds [] rest position machine sent h = h
  carried_safe head bounds (message ∷ messages) rest position machine sent h =
      let mine = All-head IsSentItem (Carries head message) (map (Carries head) messages ++ rest) sent in (
        h.0,
        carries_heard head message machine
            (SafeItems checked transactions subscriber (raised_by_message position message)
            (map (Carries head) messages ++ rest)) bounds mine.1
            (on_ok (hear message machine)
            (λ next. Safe (Follows checked transactions subscriber) (raised_by_message position message) messages next
            (λ at last. SafeItems checked transactions subscriber at rest last))
            (SafeItems checked transactions subscriber (raised_by_message position message)
            (map (Carries head) messages ++ rest)) h.1
            (λ next later. carried_safe head bounds messages rest (raised_by_message position message) next
            (All-tail IsSentItem (Carries head message) (map (Carries head) messages ++ rest) sent) later)),
      )

  -- of any first items
  pub first_safe : (fed others items : List StreamItem) (position : ℕ) (machine : Machine) → fed ++ others ≡ items
      → SafeItems checked transactions subscriber position items machine
      → IsOkAnd (hear_frames (map frame_in fed) machine)
      (Follows checked transactions subscriber (position_after position fed))
  first_safe [] others [] position machine e h = h
  first_safe [] others (item ∷ items) position machine e h = h.0
  first_safe (first ∷ fed) others [] position machine e h = absurd cc
  first_safe (first ∷ fed) others (item ∷ items) position machine e h =
      subst (λ one. IsOkAnd (next_heard (hear_frame (frame_in one) machine) (hear_frames (map frame_in fed)))
      (Follows checked transactions subscriber (position_after (raised_by position one) fed)))
      (sym (same_item first item (fed ++ others) items e))
      (then_ok (hear_frame (frame_in item) machine) (hear_frames (map frame_in fed))
      (SafeItems checked transactions subscriber (raised_by position item) items)
      (Follows checked transactions subscriber (position_after (raised_by position item) fed)) h.1
      (λ next later. first_safe fed others items (raised_by position item) next
      (same_items first item (fed ++ others) items e) later))
    where
      then_ok : (outcome : MachineResult) (more : Machine → MachineResult) (P Q : Machine → Type 0) → IsOkAnd outcome P
          → ((next : Machine) → P next → IsOkAnd (more next) Q)
          → IsOkAnd (next_heard outcome more) Q
      then_ok (Ok next) more P Q h on = on next h
      then_ok (Err fault) more P Q h on = h

-- what holds of all holds of the last ones
all_last : (xs ys : List StreamItem) → All IsSentItem (xs ++ ys) → All IsSentItem ys
all_last [] ys h = h
all_last (x ∷ xs) ys h = all_last xs ys (All-tail IsSentItem x (xs ++ ys) h)

-- ---- moves

module _ (checked : CheckedOf) (transactions : List Transaction) (published : IsPublished checked transactions) where
  abbrev items_on : StreamStateOf → List Move → List StreamItem
  items_on state moves = all_items (telling_of checked) (log_of checked transactions) state moves

  -- what comes after a move
  abbrev Later : List Move → Type 0
  Later moves = (state : StreamStateOf) (position : ℕ) (machine : Machine)
      → Between checked transactions state position machine → All IsSentItem (items_on state moves)
      → SafeItems checked transactions state.slot position (items_on state moves) machine

  take_safe : (moves : List Move) → Later moves
      → (state : StreamStateOf) (clock position : ℕ) (machine : Machine) (found : Option CommitOf)
      → slice_get (log_of checked transactions) state.done ≡ found
      → Between checked transactions state position machine
      → All IsSentItem (take_items (telling_of checked) state found clock
      ++ items_on (taken_state (telling_of checked) state found) moves)
      → SafeItems checked transactions state.slot position
      (take_items (telling_of checked) state found clock
      ++ items_on (taken_state (telling_of checked) state found) moves) machine
  take_safe moves later state clock position machine None e between sent = later state position machine between sent
  take_safe moves later state clock position machine (Some commit) e between sent =
      by_messages (messages_for checked state.slot state.relation_sent commit)
      (commit_safe checked transactions published state position machine between commit e) sent
    where
      by_messages : (messages : List Msg)
          → Safe (Follows checked transactions state.slot) position messages machine
          (Between checked transactions (state_after (telling_of checked) state commit))
          → All IsSentItem (map (Carries (head_of commit.number clock)) messages
          ++ items_on (state_after (telling_of checked) state commit) moves)
          → SafeItems checked transactions state.slot position
          (map (Carries (head_of commit.number clock)) messages
          ++ items_on (state_after (telling_of checked) state commit) moves) machine
      by_messages [] h all = later (state_after (telling_of checked) state commit) position machine h all
      by_messages (message ∷ messages) h all =
          let rest = items_on (state_after (telling_of checked) state commit) moves in
          let first = All-head IsSentItem (Carries (head_of commit.number clock) message)
          (map (Carries (head_of commit.number clock)) messages ++ rest) all in
          carried_safe checked transactions state.slot (head_of commit.number clock) first.0 (message ∷ messages) rest
          position machine all
          (safe_on (Follows checked transactions state.slot)
          (Between checked transactions (state_after (telling_of checked) state commit))
          (λ at last. SafeItems checked transactions state.slot at rest last) position (message ∷ messages) machine h
          (λ at last reached. later (state_after (telling_of checked) state commit) at last reached
          (all_last (map (Carries (head_of commit.number clock)) (message ∷ messages)) rest all)))

  walk_safe : (moves : List Move) → Later moves
  walk_safe [] state position machine between sent = between_follows checked transactions state position machine between
  walk_safe (Take clock ∷ moves) state position machine between sent =
      take_safe moves (λ at p m b s. walk_safe moves at p m b s) state clock position machine
      (slice_get (log_of checked transactions) state.done) refl between sent
  walk_safe (Keep clock want ∷ moves) state position machine between sent =
      let keepalive : Keepalive = record { position = state.sent; clock = clock; wants_reply = want } in
      let bounds = All-head IsSentItem (keep_item state clock want) (items_on state moves) sent in
      let others = All-tail IsSentItem (keep_item state clock want) (items_on state moves) sent in (
        between_follows checked transactions state position machine between,
        ok_as (Ok (kept_alive keepalive machine)) (hear_frame (frame_in (keep_item state clock want)) machine)
            (SafeItems checked transactions state.slot (max position state.sent) (items_on state moves))
            (sym (kept_up keepalive machine between.idle bounds))
            (walk_safe moves state (max position state.sent) (kept_alive keepalive machine)
            (keepalive_between checked transactions published state position machine (kept_alive keepalive machine)
            between refl (ap (λ phase. raised phase state.sent machine.position) between.idle) refl refl refl refl)
            others),
      )

-- ---- the stream

announced_nothing : (count number : ℕ) → slice_index_or (replicate count false) number false ≡ false
announced_nothing count number = by_test (nat_lt number count)
    (λ within. get_or-replicate count number false false (ltb-true number count within))
    (λ past. get_or_past (replicate count false) number false
    (omega (arith, ltb-false number count past, length-replicate count false)))

pub first_sent_counts : (position : ℕ) → commits_before (first_sent position) ≡ commits_before position
first_sent_counts position = by_test (position == 0)
    (λ zero. ap (λ b. commits_before (if b then 64 else position)) zero
    ∙ sym (only_zero ((unsigned_Decides position 0).0 zero)))
    (λ more. ap (λ b. commits_before (if b then 64 else position)) more)
  where
    only_zero : position ≡ 0 → commits_before position ≡ commits_before 64
    only_zero e = omega (arith, e)

-- a connection was opened: it waits for the stream's start, no Relation came, and nothing is staged
pub record IsOpened (machine : Machine) : Type 0 where
  pub waits : machine.phase ≡ Waiting
  pub known : (oid : ℕ) → machine.known oid ≡ false
  pub work_is : (oid : ℕ) (key : List Datum) → machine.work oid key ≡ machine.rows oid key

pub stream_safe : (checked : CheckedOf) (transactions : List Transaction) → IsPublished checked transactions
    → (subscriber : ℕ) (machine : Machine) → IsOpened machine
    → (position : ℕ) → Follows checked transactions subscriber position machine
    → (moves : List Move)
    → All IsSentItem (items_from checked transactions subscriber position moves)
    → SafeItems checked transactions subscriber position (items_from checked transactions subscriber position moves)
    machine
stream_safe checked transactions published subscriber machine at_start position follows moves sent =
    let state : StreamStateOf = state_at subscriber (length checked.catalog.tables) position in
    let items : List StreamItem = all_items (telling_of checked) (log_of checked transactions) state moves in (
      follows,
      ok_as (Ok (started machine)) (hear_frame (frame_in Response) machine)
          (SafeItems checked transactions subscriber position items)
          (sym (ap (λ phase. hear_frame_in phase (frame_in Response) machine) at_start.waits))
          (walk_safe checked transactions published moves state position (started machine)
          (record {
            idle = refl;
            position_is = follows.position_is;
            work_is = at_start.work_is;
            done = follows.within;
            counted = omega arith;
            sent = first_sent_counts position;
            at_done = follows.rows;
            at_position = follows.rows;
            knows = record {
              flags = length-replicate (length checked.catalog.tables) false;
              known = λ number. at_start.known (oid_of number)
                  ∙ sym (announced_nothing (length checked.catalog.tables) number);
              kept = λ number table there flag.
                  let nothing = announced_nothing (length checked.catalog.tables) number in absurd cc;
            };
            relations = follows.relations;
          })
          (All-tail IsSentItem Response items sent)),
    )

pub items_are_followed : ItemsAreFollowed
items_are_followed checked transactions published subscriber machine follows moves sent items others e =
    first_safe checked transactions subscriber items others
    (items_from checked transactions subscriber machine.position moves) machine.position (opened machine) e
    (stream_safe checked transactions published subscriber (opened machine)
    (record { waits = refl; known = λ oid. refl; work_is = λ oid key. refl }) machine.position
    (record { position_is = refl; within = follows.within; rows = follows.rows; relations = follows.relations }) moves
    sent)
