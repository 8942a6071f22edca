-- The position of a subscriber is 0, or where a commit ends; so at the end of the log it is where the last one ends.
use Rattle.std.proofs.Common.{◌≡◌, ℕ, ◌-◌, ◌<◌, ◌≤◌, Bool, true, false, List, [], ◌∷◌, ◌++◌, length, map, sym, ap, subst, arith, inr}
use Rattle.std.specs.Prelude.{Option, Some, None, All, ◌⊎◌, ◌==◌, max, nat_le, nat_lt, slice_get, slice_index_or, if◌then◌else◌}
use Rattle.std.proofs.lemmas.Bool.{ltb-true, ltb-false}
use Rattle.std.proofs.lemmas.List.Elements.{All-nil, All-cons, All-head, All-tail, All-append}
use Rattle.filter_tree.specs.declared.table.Table.{Table}
use Rattle.table_changes.specs.Outs.{got}
use Rattle.table_changes.specs.Records as r
use Rattle.shard_checker.specs.CheckedView.{CheckedOf, setting_in}
use Rattle.tables_log.specs.Commits.{CommitOf}
use Rattle.tables_log.specs.Lsn.{commits_before, end_lsn_of}
use Rattle.pgoutput_msgs.specs.Telling.{a_relation, introduced, relation_once, relations_of, mark_one, mark_by, named_in, message_of, said, said_each, begin_msg, commit_msg, enclosed, messages_for}
use Rattle.pgoutput_msgs.specs.declared.message.Msg.{Msg}
use Rattle.pgoutput_msgs.specs.declared.message.Msg.TheVariants as m
use Rattle.copy_both.specs.Streams as s
use Rattle.copy_both.specs.Streams.{StreamItem, Response, Carries, Alive, spelled, StreamStateOf, Move, state_at, state_after, taken_state, head_of, take_items, keep_item, all_items, stream_items}
use Rattle.copy_both.specs.Tellings.{telling_of}
use Rattle.stream_laws.specs.Cutting.{if_whole, whole_in}
use Rattle.stream_laws.specs.Following.{raised_by_message, raised_by, position_after}
use Rattle.filter_tree.proofs.Tests.{by_test}

-- ---- positions

-- it is 0, or where the last of the commits ends that it counts
abbrev pub IsEnd : ℕ → Type 0
IsEnd position = (position ≡ 0) ⊎ (position ≡ end_lsn_of (commits_before position))

pub greater_end : (one other : ℕ) → IsEnd one → IsEnd other → IsEnd (max one other)
greater_end one other first second = by_test (nat_lt one other)
    (λ below. subst IsEnd (sym (is_other one other (ltb-true one other below))) second)
    (λ above. subst IsEnd (sym (is_one one other (ltb-false one other above))) first)
  where
    is_other : (a b : ℕ) → a < b → max a b ≡ b
    is_other a b h = omega (arith, h)

    is_one : (a b : ℕ) → b ≤ a → max a b ≡ a
    is_one a b h = omega (arith, h)

pub end_is : (number : ℕ) → IsEnd (end_lsn_of number)
end_is number = inr (omega arith)

-- ---- what items report

-- this holds of the place where a message says that a commit ends
abbrev pub TellsBy : (ℕ → Type 0) → Msg → Type 0
TellsBy P (m.Begin final_lsn time xid) = Unit {0}
TellsBy P (m.Commit lsn end_lsn time) = P end_lsn
TellsBy P (m.Relation relation) = Unit {0}
TellsBy P (m.Insert relation new) = Unit {0}
TellsBy P (m.Update relation old new) = Unit {0}
TellsBy P (m.Delete relation old) = Unit {0}
TellsBy P (m.Truncate options relations) = Unit {0}

abbrev TellsEnd : Msg → Type 0
TellsEnd message = TellsBy IsEnd message

abbrev ItemTellsEnd : StreamItem → Type 0
ItemTellsEnd Response = Unit {0}
ItemTellsEnd (Carries head message) = TellsEnd message
ItemTellsEnd (Alive keepalive) = IsEnd keepalive.position

message_end : (position : ℕ) (message : Msg) → TellsEnd message → IsEnd position
    → IsEnd (raised_by_message position message)
message_end position (m.Begin final_lsn time xid) tells h = h
message_end position (m.Commit lsn end_lsn time) tells h = greater_end position end_lsn h tells
message_end position (m.Relation relation) tells h = h
message_end position (m.Insert relation new) tells h = h
message_end position (m.Update relation old new) tells h = h
message_end position (m.Delete relation old) tells h = h
message_end position (m.Truncate options relations) tells h = h

item_end : (position : ℕ) (item : StreamItem) → ItemTellsEnd item → IsEnd position → IsEnd (raised_by position item)
item_end position Response tells h = h
item_end position (Carries head message) tells h = message_end position message tells h
item_end position (Alive keepalive) tells h = greater_end position keepalive.position h tells

items_end : (position : ℕ) (items : List StreamItem) → All ItemTellsEnd items → IsEnd position
    → IsEnd (position_after position items)
items_end position [] tells h = h
items_end position (item ∷ items) tells h =
    items_end (raised_by position item) items (All-tail ItemTellsEnd item items tells)
    (item_end position item (All-head ItemTellsEnd item items tells) h)

if_end : (whole : Bool) (item : StreamItem) (others : List StreamItem) → ItemTellsEnd item → All ItemTellsEnd others
    → All ItemTellsEnd (if_whole whole item others)
if_end true item others first later = All-cons ItemTellsEnd item others first later
if_end false item others first later = All-nil ItemTellsEnd

whole_end : (count : ℕ) (items : List StreamItem) → All ItemTellsEnd items → All ItemTellsEnd (whole_in count items)
whole_end count [] tells = All-nil ItemTellsEnd
whole_end count (item ∷ items) tells =
    if_end (nat_le (length (spelled item)) count) item (whole_in (count - length (spelled item)) items)
    (All-head ItemTellsEnd item items tells)
    (whole_end (count - length (spelled item)) items (All-tail ItemTellsEnd item items tells))

-- ---- messages of a commit

module _ (P : ℕ → Type 0) where
  found_by : (number : ℕ) (found : Option Table) → All (TellsBy P) (a_relation number found)
  found_by number None = All-nil (TellsBy P)
  found_by number (Some table) = All-cons (TellsBy P) (m.Relation _) [] tt (All-nil (TellsBy P))

  once_by : (tables : List Table) (sent : Bool) (number : ℕ) → All (TellsBy P) (introduced tables sent number)
  once_by tables true number = All-nil (TellsBy P)
  once_by tables false number = found_by number (slice_get tables number)

  relations_by : (tables : List Table) (sent : List Bool) (numbers : List ℕ)
      → All (TellsBy P) (relations_of tables sent numbers)
  unfolding relations_of relation_once
  relations_by tables sent [] = All-nil (TellsBy P)
  relations_by tables sent (number ∷ numbers) =
      All-append (TellsBy P) (introduced tables (slice_index_or sent number false) number)
      (relations_of tables (mark_one sent number) numbers)
      (once_by tables (slice_index_or sent number false) number) (relations_by tables (mark_one sent number) numbers)

  own_by : (change : r.ChangeOf) → All (TellsBy P) (message_of change)
  own_by (r.Insert table new) = All-cons (TellsBy P) (m.Insert _ _) [] tt (All-nil (TellsBy P))
  own_by (r.Update table part new) = All-cons (TellsBy P) (m.Update _ _ _) [] tt (All-nil (TellsBy P))
  own_by (r.Delete table None) = All-nil (TellsBy P)
  own_by (r.Delete table (Some part)) = All-cons (TellsBy P) (m.Delete _ _) [] tt (All-nil (TellsBy P))
  own_by (r.Truncate numbers) = All-cons (TellsBy P) (m.Truncate _ _) [] tt (All-nil (TellsBy P))

  change_by : (tables : List Table) (sent : List Bool) (change : Option r.ChangeOf)
      → All (TellsBy P) (said tables sent change)
  unfolding said
  change_by tables sent None = All-nil (TellsBy P)
  change_by tables sent (Some change) =
      All-append (TellsBy P) (relations_of tables sent (named_in change)) (message_of change)
      (relations_by tables sent (named_in change)) (own_by change)

  said_by : (checked : CheckedOf) (subscriber : ℕ) (sent : List Bool) (changes : List r.ChangeOf)
      → All (TellsBy P) (said_each checked subscriber sent changes)
  unfolding said_each
  said_by checked subscriber sent [] = All-nil (TellsBy P)
  said_by checked subscriber sent (change ∷ changes) =
      All-append (TellsBy P) (said checked.catalog.tables sent (got (setting_in checked) subscriber change))
      (said_each checked subscriber (mark_by sent (got (setting_in checked) subscriber change)) changes)
      (change_by checked.catalog.tables sent (got (setting_in checked) subscriber change))
      (said_by checked subscriber (mark_by sent (got (setting_in checked) subscriber change)) changes)

  enclosed_by : (commit : CommitOf) → P (end_lsn_of commit.number) → (messages : List Msg) → All (TellsBy P) messages
      → All (TellsBy P) (enclosed commit messages)
  enclosed_by commit here [] all = All-nil (TellsBy P)
  enclosed_by commit here (first ∷ others) all =
      All-cons (TellsBy P) (begin_msg commit) ((first ∷ others) ++ commit_msg commit ∷ []) tt
      (All-append (TellsBy P) (first ∷ others) (commit_msg commit ∷ []) all
      (All-cons (TellsBy P) (commit_msg commit) [] here (All-nil (TellsBy P))))

  pub messages_tell : (checked : CheckedOf) (subscriber : ℕ) (sent : List Bool) (commit : CommitOf)
      → P (end_lsn_of commit.number) → All (TellsBy P) (messages_for checked subscriber sent commit)
  messages_tell checked subscriber sent commit here =
      enclosed_by commit here (said_each checked subscriber sent commit.changes)
      (said_by checked subscriber sent commit.changes)

-- ---- items of a stream

carried_end : (number clock : ℕ) (messages : List Msg) (rest : List StreamItem) → All TellsEnd messages
    → All ItemTellsEnd rest → All ItemTellsEnd (map (Carries (head_of number clock)) messages ++ rest)
carried_end number clock [] rest all later = later
carried_end number clock (message ∷ messages) rest all later =
    All-cons ItemTellsEnd (Carries (head_of number clock) message)
    (map (Carries (head_of number clock)) messages ++ rest) (All-head TellsEnd message messages all)
    (carried_end number clock messages rest (All-tail TellsEnd message messages all) later)

module _ (checked : CheckedOf) (log : List CommitOf) where
  take_end : (moves : List Move) (state : StreamStateOf) (clock : ℕ) (found : Option CommitOf) → IsEnd state.sent
      → ((at : StreamStateOf) → IsEnd at.sent → All ItemTellsEnd (all_items (telling_of checked) log at moves))
      → All ItemTellsEnd (take_items (telling_of checked) state found clock
      ++ all_items (telling_of checked) log (taken_state (telling_of checked) state found) moves)
  take_end moves state clock None sent later = later state sent
  take_end moves state clock (Some commit) sent later =
      carried_end commit.number clock (messages_for checked state.slot state.relation_sent commit)
      (all_items (telling_of checked) log (state_after (telling_of checked) state commit) moves)
      (messages_tell IsEnd checked state.slot state.relation_sent commit (end_is commit.number))
      (later (state_after (telling_of checked) state commit) (end_is commit.number))

  moves_end : (moves : List Move) (state : StreamStateOf) → IsEnd state.sent
      → All ItemTellsEnd (all_items (telling_of checked) log state moves)
  moves_end [] state sent = All-nil ItemTellsEnd
  moves_end (s.Take clock ∷ moves) state sent =
      take_end moves state clock (slice_get log state.done) sent (λ at tells. moves_end moves at tells)
  moves_end (s.Keep clock want ∷ moves) state sent =
      All-cons ItemTellsEnd (keep_item state clock want) (all_items (telling_of checked) log state moves) sent
      (moves_end moves state sent)

first_end : (position : ℕ) → IsEnd position → IsEnd (if position == 0 then 64 else position)
first_end position h = by_test (position == 0)
    (λ zero. subst IsEnd (sym (ap (λ b. if b then 64 else position) zero)) (end_is 0))
    (λ more. subst IsEnd (sym (ap (λ b. if b then 64 else position) more)) h)

-- the position after the items of a stream that are whole in some bytes
pub stream_end : (checked : CheckedOf) (log : List CommitOf) (subscriber start : ℕ) (moves : List Move)
    (count position : ℕ) → IsEnd start → IsEnd position
    → IsEnd (position_after position (whole_in count
    (stream_items (telling_of checked) log subscriber (length checked.catalog.tables) start moves)))
stream_end checked log subscriber start moves count position begins h =
    let state : StreamStateOf = state_at subscriber (length checked.catalog.tables) start in
    let items : List StreamItem = all_items (telling_of checked) log state moves in
    items_end position (whole_in count (Response ∷ items))
    (whole_end count (Response ∷ items)
    (All-cons ItemTellsEnd Response items tt (moves_end checked log moves state (first_end start begins)))) h
