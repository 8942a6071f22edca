-- A subscriber is brought up to the end of the log.
use Rattle.std.proofs.Common.{◌≡◌, ℕ, zero, suc, ◌+◌, ◌-◌, ◌<◌, ◌≤◌, ◌^◌, true, false, List, [], ◌∷◌, ◌++◌, length, map, drop, refl, sym, ◌∙◌, ap, subst, arith, length-append}
use Rattle.std.specs.Prelude.{Option, Some, None, max, fold, slice_get, if◌then◌else◌, ◌==◌}
use Rattle.std.specs.List.{flat_map}
use Rattle.std.proofs.lemmas.Bool.{le-leb, lt-leb}
use Rattle.table_changes.specs.Tables.{no_rows}
use Rattle.shard_checker.specs.CheckedView.{CheckedOf, setting_in}
use Rattle.tables_log.specs.Commits.{CommitOf}
use Rattle.tables_log.specs.Lsn.{commits_before}
use Rattle.tables_log.specs.StandsFor.{AreAccepted}
use Rattle.copy_both.specs.Streams as s
use Rattle.copy_both.specs.Streams.{StreamItem, Response, spelled, StreamStateOf, Move, state_at, keep_item, moved, taken_state, all_moved}
use Rattle.copy_both.specs.Tellings.{telling_of}
use Rattle.copy_both.proofs.StreamLemmas.{moved_append, items_append}
use Rattle.shard_world.specs.CatchingUp.{next_peer, sent_by, sent_to, take_many, delivered_all, caught_up}
use Rattle.stream_laws.specs.Cutting.{if_whole, whole_in}
use Rattle.stream_laws.specs.Following.{raised_by, position_after, IsPublished}
use Rattle.stream_laws.specs.LayoutRoom.{FitsLayouts}
use Rattle.shard_world.specs.World.{Up, Asks, Says, Connection, Peer, PeerEvent, Hear, Take, Keep, Deliver, Session, down_items, down_bytes, position_now, spelled_up, whole_up, ups_of, start_at, hear_up, newly, heard_of, hears, delivers, as_many, stream_state, take_commit, take_step, keep_step, moves_on, open_step, peer_step, StreamSource, up_bytes, down_of, log_in, asking_length}
use Rattle.stream_laws.proofs.EntryLemmas.{entry_at, entries_length, past_end}
use Rattle.stream_laws.proofs.FollowingLemmas.{first_sent_counts}
use Rattle.shard_world.proofs.WorldPeers.{IsGood, good_follows}
use Rattle.shard_world.proofs.WorldSteps.{peer_good}
use Rattle.filter_tree.proofs.Tests.{by_test}

-- ---- the command that starts the stream is heard

pub start_stays : (now start : ℕ) (ups : List Up) (session : Session) → session.start ≡ Some start
    → (fold (hear_up now) session ups).start ≡ Some start
start_stays now start [] session h = h
start_stays now start (Asks position ∷ ups) session h =
    start_stays now start ups (record session { start = start_at session.start position session.confirmed })
    (ap (λ o. start_at o position session.confirmed) h)
start_stays now start (Says status ∷ ups) session h = start_stays now start ups (hear_up now session (Says status)) h

pub record HasStart (start : Option ℕ) : Type 0 where
  pub at : ℕ
  pub is : start ≡ Some at

-- if the first of what is new requests the stream
pub starts_by : (now : ℕ) (position : ℕ) (ups : List Up) (session : Session)
    → HasStart (fold (hear_up now) session (Asks position ∷ ups)).start
starts_by now position ups session = by_start session.start refl
  where
    by_start : (start : Option ℕ) → session.start ≡ start
        → HasStart (fold (hear_up now) session (Asks position ∷ ups)).start
    by_start None e = record {
      at = max position session.confirmed;
      is = start_stays now (max position session.confirmed) ups
          (record session { start = start_at session.start position session.confirmed })
          (ap (λ o. start_at o position session.confirmed) e);
    }
    by_start (Some start) e = record {
      at = start;
      is = start_stays now start ups (record session { start = start_at session.start position session.confirmed })
          (ap (λ o. start_at o position session.confirmed) e);
    }

-- the command is whole among the bytes that are heard, or the stream has started
pub hears_start : (source : StreamSource) (now : ℕ) (peer : Peer) (c : Connection) (more : ℕ)
    → (c.start ≡ None → c.heard < asking_length source peer.position)
    → asking_length source peer.position ≤ c.heard + more → HasStart (heard_of source now peer c more).start
hears_start source now peer c more still whole = by_start c.start refl
  where
    by_start : (start : Option ℕ) → c.start ≡ start → HasStart (heard_of source now peer c more).start
    by_start (Some start) e = record {
      at = start;
      is = start_stays now start (newly source peer c more)
          (record { confirmed = peer.confirmed; start = c.start; moves = c.moves }) e;
    }
    by_start None e =
        subst (λ b. HasStart (fold (hear_up now)
        (record { confirmed = peer.confirmed; start = c.start; moves = c.moves })
        (drop (length (if_whole b (Asks peer.position)
        (whole_up source.checked source.number (c.heard - asking_length source peer.position)
        (map Says c.reports))))
        (whole_up source.checked source.number (c.heard + more) (ups_of peer c)))).start)
        (sym (lt-leb (asking_length source peer.position) c.heard (still e)))
        (subst (λ b. HasStart
        (fold (hear_up now) (record { confirmed = peer.confirmed; start = c.start; moves = c.moves })
        (if_whole b (Asks peer.position)
        (whole_up source.checked source.number (c.heard + more - asking_length source peer.position)
        (map Says c.reports)))).start)
        (sym (le-leb (asking_length source peer.position) (c.heard + more) whole))
        (starts_by now peer.position
        (whole_up source.checked source.number (c.heard + more - asking_length source peer.position)
        (map Says c.reports))
        (record { confirmed = peer.confirmed; start = c.start; moves = c.moves })))

-- ---- commits are taken

-- how many commits are counted by what was sent
module _ (source : StreamSource) (accepted : AreAccepted (setting_in source.checked) no_rows source.transactions) where
  take_counts : (state : StreamStateOf) (found : Option CommitOf) → slice_get (log_in source) state.done ≡ found
      → commits_before state.sent ≡ state.done
      → commits_before (taken_state (telling_of source.checked) state found).sent
      ≡ (taken_state (telling_of source.checked) state found).done
  take_counts state None e counts = counts
  take_counts state (Some commit) e counts =
      let entry = entry_at (setting_in source.checked) no_rows 1 source.transactions state.done commit accepted e in
      let number : commit.number ≡ 1 + state.done = ap (λ (one : CommitOf). one.number) entry.is in
      omega (arith, number)

  move_counts : (state : StreamStateOf) (move : Move) → commits_before state.sent ≡ state.done
      → commits_before (moved (telling_of source.checked) (log_in source) state move).sent
      ≡ (moved (telling_of source.checked) (log_in source) state move).done
  move_counts state (s.Take clock) counts = take_counts state (slice_get (log_in source) state.done) refl counts
  move_counts state (s.Keep clock want) counts = counts

  moves_count : (moves : List Move) (state : StreamStateOf) → commits_before state.sent ≡ state.done
      → commits_before (all_moved (telling_of source.checked) (log_in source) state moves).sent
      ≡ (all_moved (telling_of source.checked) (log_in source) state moves).done
  moves_count [] state counts = counts
  moves_count (move ∷ moves) state counts =
      moves_count moves (moved (telling_of source.checked) (log_in source) state move) (move_counts state move counts)

  pub place_counts : (start : ℕ) (moves : List Move)
      → commits_before (stream_state source start moves).sent ≡ (stream_state source start moves).done
  place_counts start moves =
      moves_count moves (state_at source.number (length source.checked.catalog.tables) start) (first_sent_counts start)

-- what was sent is never 0
move_sent : (checked : CheckedOf) (log : List CommitOf) (state : StreamStateOf) (move : Move) → 1 ≤ state.sent
    → 1 ≤ (moved (telling_of checked) log state move).sent
move_sent checked log state (s.Take clock) sent = by_found (slice_get log state.done)
  where
    by_found : (found : Option CommitOf) → 1 ≤ (taken_state (telling_of checked) state found).sent
    by_found None = sent
    by_found (Some commit) = omega arith
move_sent checked log state (s.Keep clock want) sent = sent

moves_sent : (checked : CheckedOf) (log : List CommitOf) (moves : List Move) (state : StreamStateOf) → 1 ≤ state.sent
    → 1 ≤ (all_moved (telling_of checked) log state moves).sent
moves_sent checked log [] state sent = sent
moves_sent checked log (move ∷ moves) state sent =
    moves_sent checked log moves (moved (telling_of checked) log state move) (move_sent checked log state move sent)

state_sent : (source : StreamSource) (start : ℕ) (moves : List Move) → 1 ≤ (stream_state source start moves).sent
state_sent source start moves =
    moves_sent source.checked (log_in source) moves
    (state_at source.number (length source.checked.catalog.tables) start) (first_some start)
  where
    not_zero : (p : ℕ) → (p == 0) ≡ false → 1 ≤ p
    not_zero zero h = absurd (let same : (0 == 0) ≡ true = refl in cc)
    not_zero (suc p) h = omega arith

    first_some : (p : ℕ) → 1 ≤ (if p == 0 then 64 else p)
    first_some p = by_test (p == 0)
        (λ zero. subst (λ n. 1 ≤ n) (sym (ap (λ b. if b then 64 else p) zero)) (omega arith))
        (λ more. subst (λ n. 1 ≤ n) (sym (ap (λ b. if b then 64 else p) more)) (not_zero p more))

-- ---- items, all of them

whole_all : (items : List StreamItem) → whole_in (length (flat_map spelled items)) items ≡ items
whole_all [] = refl
whole_all (item ∷ items) =
    ap (λ b. if_whole b item
    (whole_in (length (spelled item ++ flat_map spelled items) - length (spelled item)) items))
    (le-leb (length (spelled item)) (length (spelled item ++ flat_map spelled items)) first_fits)
    ∙ ap (λ n. item ∷ whole_in n items) left_is ∙ ap (λ others. item ∷ others) (whole_all items)
  where
    first_fits : length (spelled item) ≤ length (spelled item ++ flat_map spelled items)
    first_fits = omega (arith, length-append (spelled item) (flat_map spelled items))

    left_is : length (spelled item ++ flat_map spelled items) - length (spelled item) ≡ length (flat_map spelled items)
    left_is = omega (arith, length-append (spelled item) (flat_map spelled items))

after_one : (position : ℕ) (items : List StreamItem) (item : StreamItem)
    → position_after position (items ++ item ∷ []) ≡ raised_by (position_after position items) item
after_one position [] item = refl
after_one position (first ∷ items) item = after_one (raised_by position first) items item

-- ---- a connection whose stream has started

pub record IsRunning (source : StreamSource) (start : ℕ) (peer : Peer) : Type 0 where
  pub c : Connection
  pub is : peer.connection ≡ Some c
  pub start_is : c.start ≡ Some start
  pub good : IsGood source peer

-- this number of commits or fewer remain
pub record IsLeft (source : StreamSource) (start count : ℕ) (peer : Peer) : Type 0 where
  pub running : IsRunning source start peer
  pub left : length (log_in source) ≤ (stream_state source start running.c.moves).done + count

module _ (source : StreamSource) (published : IsPublished source.checked source.transactions)
    (sayable : FitsLayouts source.checked source.transactions) (now : ℕ) (timed : now < 2 ^ 64) where
  pub as_step : (event : PeerEvent) (peer : Peer) (c : Connection) → peer.connection ≡ Some c
      → next_peer source now event peer ≡ (open_step source now event peer c).1
  as_step event peer c is = ap (λ connection. (peer_step source now event peer connection).1) is

  pub next_good : (event : PeerEvent) (peer : Peer) → IsGood source peer
      → IsGood source (next_peer source now event peer)
  next_good event peer good = peer_good source published sayable now timed event peer peer.connection refl good

  pub take_next : (start count : ℕ) (peer : Peer) → IsLeft source start (suc count) peer
      → IsLeft source start count (next_peer source now Take peer)
  take_next start count peer h =
      subst (IsLeft source start count)
      (sym (as_step Take peer h.running.c h.running.is
      ∙ ap (λ from. (take_step source now peer h.running.c from).1) h.running.start_is))
      (by_found (slice_get (log_in source) (stream_state source start h.running.c.moves).done) refl
      (subst (IsGood source)
      (as_step Take peer h.running.c h.running.is
      ∙ ap (λ from. (take_step source now peer h.running.c from).1) h.running.start_is)
      (next_good Take peer h.running.good)))
    where
      by_found : (found : Option CommitOf)
          → slice_get (log_in source) (stream_state source start h.running.c.moves).done ≡ found
          → IsGood source (take_commit source.checked now peer h.running.c (stream_state source start h.running.c.moves)
          (slice_get (log_in source) (stream_state source start h.running.c.moves).done)).1
          → IsLeft source start count
          (take_commit source.checked now peer h.running.c (stream_state source start h.running.c.moves)
          (slice_get (log_in source) (stream_state source start h.running.c.moves).done)).1
      by_found None e good =
          subst (λ found. IsLeft source start count
          (take_commit source.checked now peer h.running.c (stream_state source start h.running.c.moves) found).1)
          (sym e) (record {
            running = h.running;
            left = let end = past_end (log_in source) (stream_state source start h.running.c.moves).done e in
                omega (arith, end);
          })
      by_found (Some commit) e good =
          subst (λ found. IsLeft source start count
          (take_commit source.checked now peer h.running.c (stream_state source start h.running.c.moves) found).1)
          (sym e) (record {
            running = record {
              c = record h.running.c { moves = h.running.c.moves ++ s.Take now ∷ [] };
              is = refl;
              start_is = h.running.start_is;
              good = subst (λ found. IsGood source
                  (take_commit source.checked now peer h.running.c
                  (stream_state source start h.running.c.moves) found).1) e
                  good;
            };
            left =
                let further : (stream_state source start (h.running.c.moves ++ s.Take now ∷ [])).done
                ≡ (stream_state source start h.running.c.moves).done + 1 =
                ap (λ (at : StreamStateOf). at.done)
                (moved_append (telling_of source.checked) (log_in source)
                (state_at source.number (length source.checked.catalog.tables) start) h.running.c.moves
                (s.Take now)
                ∙ ap (taken_state (telling_of source.checked) (stream_state source start h.running.c.moves)) e) in
                omega (arith, further, h.left);
          })

  take_all : (start count : ℕ) (peer : Peer) → IsLeft source start count peer
      → IsLeft source start 0 (take_many source now count peer)
  take_all start zero peer h = h
  take_all start (suc count) peer h =
      take_all start count (next_peer source now Take peer) (take_next start count peer h)

  -- ---- all is delivered

  pub keeps_on : (start : ℕ) (peer : Peer) (c : Connection) → peer.connection ≡ Some c → c.start ≡ Some start
      → next_peer source now (Keep false) peer ≡ moves_on peer c (s.Keep now false)
  keeps_on start peer c is start_is = as_step (Keep false) peer c is
      ∙ ap (λ from. (keep_step now false peer c from).1) start_is

  delivers_on : (peer : Peer) (c : Connection) → peer.connection ≡ Some c
      → delivered_all source now peer
      ≡ delivers peer c (as_many (length (down_of source c)) (length (down_of source c)) c.delivered)
  delivers_on peer c is =
      as_step (Deliver (sent_to source peer.connection)) peer c is
      ∙ ap (λ connection. (open_step source now (Deliver (sent_to source connection)) peer c).1) is

  -- after the keepalive the whole stream reports the end of the log
  -- it counts all commits, and is not 0
  pub record CountsAll (position : ℕ) : Type 0 where
    pub all : length (log_in source) ≤ commits_before position
    pub some : 1 ≤ position

  pub reaches_end : (start : ℕ) (position : ℕ) (c : Connection) → c.start ≡ Some start
      → length (log_in source) ≤ (stream_state source start c.moves).done + 0
      → (delivered : ℕ) → delivered ≤ length
      (flat_map spelled (down_items source c.start (c.moves ++ s.Keep now false ∷ [])))
      → CountsAll (position_after position (whole_in
      (delivered + as_many (length (down_bytes source c.start (c.moves ++ s.Keep now false ∷ [])))
      (length (down_bytes source c.start (c.moves ++ s.Keep now false ∷ []))) delivered)
      (down_items source c.start (c.moves ++ s.Keep now false ∷ []))))
  reaches_end start position c start_is left delivered within =
      let before : List StreamItem = down_items source (Some start) c.moves in
      subst CountsAll (sym (ap (position_after position)
      (whole (down_items source c.start (c.moves ++ s.Keep now false ∷ [])) delivered within ∙ items_are)
      ∙ after_one position before (keep_item (stream_state source start c.moves) now false)))
      (record { all = at_least (position_after position before); some = at_some (position_after position before) })
    where
      items_are : down_items source c.start (c.moves ++ s.Keep now false ∷ [])
          ≡ down_items source (Some start) c.moves ++ keep_item (stream_state source start c.moves) now false ∷ []
      items_are = ap (λ from. down_items source from (c.moves ++ s.Keep now false ∷ [])) start_is
          ∙ ap (λ items. Response ∷ items)
          (items_append (telling_of source.checked) (log_in source)
          (state_at source.number (length source.checked.catalog.tables) start) c.moves (s.Keep now false))

      whole : (items : List StreamItem) (done : ℕ) → done ≤ length (flat_map spelled items)
          → whole_in (done + as_many (length (flat_map spelled items)) (length (flat_map spelled items)) done) items
          ≡ items
      whole items done h = subst (λ n. whole_in n items ≡ items)
          (sym (all_of (length (flat_map spelled items)) done h)) (whole_all items)
        where
          all_of : (count done : ℕ) → done ≤ count → done + as_many count count done ≡ count
          all_of count done h = omega (arith, h)

      counts : commits_before (stream_state source start c.moves).sent ≡ (stream_state source start c.moves).done
      counts = place_counts source published.accepted start c.moves

      at_least : (p : ℕ) → length (log_in source) ≤ commits_before (max p (stream_state source start c.moves).sent)
      at_least p = omega (arith, counts, left)

      at_some : (p : ℕ) → 1 ≤ max p (stream_state source start c.moves).sent
      at_some p = omega (arith, state_sent source start c.moves)

  -- ---- all of it

  hears_all : (peer : Peer) (c : Connection) → peer.connection ≡ Some c
      → next_peer source now (Hear (sent_by source peer peer.connection)) peer
      ≡ hears source now peer c (as_many (length (up_bytes source peer c)) (length (up_bytes source peer c)) c.heard)
  hears_all peer c is =
      as_step (Hear (sent_by source peer peer.connection)) peer c is
      ∙ ap (λ connection. (open_step source now (Hear (sent_by source peer connection)) peer c).1) is

  -- a subscriber that has applied all commits
  pub record CatchesUp (final : Peer) : Type 0 where
    pub counts : commits_before (position_now source final) ≡ length source.transactions
    pub some : 1 ≤ position_now source final
    pub good : IsGood source final

  pub catches_up : (peer : Peer) (c : Connection) → peer.connection ≡ Some c
      → (c.start ≡ None → c.heard < asking_length source peer.position)
      → IsGood source peer → CatchesUp (caught_up source now peer)
  catches_up peer c is still good =
      let heard_good = next_good (Hear (sent_by source peer peer.connection)) peer good in
      let start = hears_start source now peer c
      (as_many (length (up_bytes source peer c)) (length (up_bytes source peer c)) c.heard) still
      (all_of (length (up_bytes source peer c)) (asking_length source peer.position) c.heard
      (omega (
        arith,
        length-append (spelled_up source.checked source.number (Asks peer.position))
            (flat_map (spelled_up source.checked source.number) (map Says c.reports)),
      ))) in
      let count : length (log_in source) ≡ length source.transactions =
      entries_length (setting_in source.checked) no_rows 1 source.transactions in
      let first : IsLeft source start.at (length source.transactions)
      (next_peer source now (Hear (sent_by source peer peer.connection)) peer) =
      subst (IsLeft source start.at (length source.transactions)) (sym (hears_all peer c is)) (record {
        running = record {
          c = _;
          is = refl;
          start_is = start.is;
          good = subst (IsGood source) (hears_all peer c is) heard_good;
        };
        left = omega (arith, count);
      }) in
      let taken = take_all start.at (length source.transactions)
      (next_peer source now (Hear (sent_by source peer peer.connection)) peer) first in
      let final_good : IsGood source (caught_up source now peer) =
      next_good (Deliver _) _ (next_good (Keep false) _ taken.running.good) in
      both (caught_up source now peer) count
      (lower (take_many source now (length source.transactions)
      (next_peer source now (Hear (sent_by source peer peer.connection)) peer)) start.at taken)
      final_good (good_follows source published sayable (caught_up source now peer) final_good).within
    where
      all_of : (total first heard : ℕ) → first ≤ total → first ≤ heard + as_many total total heard
      all_of total first heard h = omega (arith, h)

      lower : (at : Peer) (start : ℕ) → (taken : IsLeft source start 0 at)
          → CountsAll (position_now source (delivered_all source now (next_peer source now (Keep false) at)))
      lower at start taken =
          let kept = keeps_on start at taken.running.c taken.running.is taken.running.start_is in
          let kept_good = subst (IsGood source) kept (next_good (Keep false) at taken.running.good) in
          subst (λ q. CountsAll (position_now source q))
          (sym (ap (delivered_all source now) kept
          ∙ delivers_on (moves_on at taken.running.c (s.Keep now false))
          (record taken.running.c { moves = taken.running.c.moves ++ s.Keep now false ∷ [] }) refl))
          (reaches_end start at.position taken.running.c taken.running.start_is taken.left taken.running.c.delivered
          kept_good.connected.1.delivered)

      both : (final : Peer) → length (log_in source) ≡ length source.transactions
          → CountsAll (position_now source final)
          → IsGood source final → commits_before (position_now source final) ≤ length source.transactions
          → CatchesUp final
      both final e low good high = let all = low.all in
          record { counts = omega (arith, e, all, high); some = low.some; good = good }
