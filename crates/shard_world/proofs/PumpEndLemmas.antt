-- Where the events of a pump lead a subscriber, if memory is not refused.
use Rattle.std.proofs.Common.{◌≡◌, ℕ, zero, suc, ◌+◌, ◌<◌, ◌≤◌, ◌^◌, List, [], ◌∷◌, ◌++◌, length, map, replicate, refl, sym, ap, subst, ◌∙◌, arith, inl, inr, length-append}
use Rattle.std.specs.Prelude.{Option, Some, None, All, ◌⊎◌, false, slice_get}
use Rattle.std.specs.List.{flat_map}
use Rattle.std.proofs.lemmas.List.Elements.{All-head, All-tail}
use Rattle.table_changes.specs.Tables.{no_rows}
use Rattle.shard_checker.specs.CheckedView.{setting_in}
use Rattle.tables_log.specs.Commits.{CommitOf}
use Rattle.copy_both.specs.Streams as s
use Rattle.copy_both.specs.Streams.{StreamStateOf}
use Rattle.pgoutput_msgs.specs.declared.message.Msg.{Msg}
use Rattle.shard_world.specs.CatchingUp.{next_peer}
use Rattle.stream_laws.specs.Following.{IsPublished}
use Rattle.shard_world.specs.Pumping.{EndsIdle, KeepsConnection, all_bytes}
use Rattle.stream_laws.specs.LayoutRoom.{FitsLayouts}
use Rattle.shard_world.specs.World.{Asks, Says, Connection, Peer, Answer, Idle, PeerEvent, Hear, Take, Keep, Deliver, Report, down_bytes, connection_position, position_now, spelled_up, hears, as_many, stream_state, took, take_commit, take_step, moves_on, peer_step, StreamSource, up_bytes, log_in, asking_length}
use Rattle.shard_world.proofs.AskingLemmas.{IsAskedAt}
use Rattle.shard_world.proofs.CatchingUpLemmas.{CountsAll, IsLeft, as_step, hears_start, keeps_on, next_good, reaches_end, take_next}
use Rattle.stream_laws.proofs.EntryLemmas.{entries_length, past_end}
use Rattle.shard_world.proofs.PumpSteps.{PeerRuns}
use Rattle.shard_world.proofs.WorldHearing.{hears_stay}
use Rattle.shard_world.proofs.WorldPeers.{IsGood}

-- ---- all that waits

-- fewer bytes than were requested are all of them
all_waiting : (total done : ℕ) → as_many all_bytes total done < 2 ^ 63
    → as_many all_bytes total done ≡ as_many total total done
all_waiting total done few = omega (arith, few)

reaches_first : (first total heard : ℕ) → first ≤ total → as_many all_bytes total heard < 2 ^ 63
    → first ≤ heard + as_many all_bytes total heard
reaches_first first total heard within few = omega (arith, within, few)

-- ---- one answer

one_answer : (source : StreamSource) (now : ℕ) (event : PeerEvent) (answers : List Answer) (peer last : Peer)
    → PeerRuns source now (event ∷ []) answers peer last → All KeepsConnection answers
    → KeepsConnection (peer_step source now event peer peer.connection).0 × (last ≡ next_peer source now event peer)
one_answer source now event [] peer last runs goes = absurd runs
one_answer source now event (answer ∷ []) peer last runs goes =
    (subst KeepsConnection runs.0 (All-head KeepsConnection answer [] goes), runs.1)
one_answer source now event (answer ∷ other ∷ more) peer last runs goes = absurd runs.1

-- the first of several
record FirstRuns (source : StreamSource) (now : ℕ) (event : PeerEvent) (events : List PeerEvent)
    (peer last : Peer) : Type 0
  where
    goes : KeepsConnection (peer_step source now event peer peer.connection).0
    others : List Answer
    runs : PeerRuns source now events others (next_peer source now event peer) last
    all : All KeepsConnection others

first_answer : (source : StreamSource) (now : ℕ) (event : PeerEvent) (events : List PeerEvent) (answers : List Answer)
    (peer last : Peer)
    → PeerRuns source now (event ∷ events) answers peer last → All KeepsConnection answers
    → FirstRuns source now event events peer last
first_answer source now event events [] peer last runs goes = absurd runs
first_answer source now event events (answer ∷ answers) peer last runs goes = record {
  goes = subst KeepsConnection runs.0 (All-head KeepsConnection answer answers goes);
  others = answers;
  runs = runs.1;
  all = All-tail KeepsConnection answer answers goes;
}

module _ (source : StreamSource) (published : IsPublished source.checked source.transactions)
    (sayable : FitsLayouts source.checked source.transactions) (now : ℕ) (timed : now < 2 ^ 64) where
  abbrev next : PeerEvent → Peer → Peer
  next event peer = next_peer source now event peer

  abbrev Left : ℕ → ℕ → Peer → Type 0
  Left start count peer = IsLeft source start count peer

  -- ---- what was sent is heard

  pub record IsStarted (peer : Peer) : Type 0 where
    pub start : ℕ
    pub left : IsLeft source start (length source.transactions) peer

  started_by : (peer : Peer) (connection : Option Connection) → peer.connection ≡ connection
      → IsAskedAt source.checked source.number peer.position connection → IsGood source peer
      → KeepsConnection (peer_step source now (Hear all_bytes) peer connection).0
      → IsStarted (next (Hear all_bytes) peer)
  started_by peer None is asked good goes = absurd goes
  started_by peer (Some c) is asked good goes =
      let total : ℕ = length (up_bytes source peer c) in
      let start = hears_start source now peer c (as_many all_bytes total c.heard) asked
      (reaches_first (asking_length source peer.position) total c.heard
      (omega (
        arith,
        length-append (spelled_up source.checked source.number (Asks peer.position))
            (flat_map (spelled_up source.checked source.number) (map Says c.reports)),
      )) goes) in
      let heard : next (Hear all_bytes) peer ≡ hears source now peer c (as_many all_bytes total c.heard) =
      as_step source published sayable now timed (Hear all_bytes) peer c is in
      let count : length (log_in source) ≡ length source.transactions =
      entries_length (setting_in source.checked) no_rows 1 source.transactions in
      record {
        start = start.at;
        left = subst (Left start.at (length source.transactions)) (sym heard) (record {
          running = record {
            c = _;
            is = refl;
            start_is = start.is;
            good = subst (IsGood source) heard
                (next_good source published sayable now timed (Hear all_bytes) peer good);
          };
          left = omega (arith, count);
        });
      }

  pub hears_all : (answers : List Answer) (peer last : Peer)
      → PeerRuns source now (Hear all_bytes ∷ []) answers peer last → All KeepsConnection answers
      → IsAskedAt source.checked source.number peer.position peer.connection → IsGood source peer → IsStarted last
  hears_all answers peer last runs goes asked good =
      let one = one_answer source now (Hear all_bytes) answers peer last runs goes in
      subst IsStarted (sym one.1) (started_by peer peer.connection refl asked good one.0)

  -- ---- commits are taken

  -- as many as remain, or more
  takes_many : (start count times : ℕ) (answers : List Answer) (peer last : Peer)
      → PeerRuns source now (replicate times Take) answers peer last
      → Left start (count + times) peer → Left start count last
  takes_many start count zero [] peer last runs left = subst (Left start count) (sym runs) (fewer left)
    where
      fewer : Left start (count + 0) peer → Left start count peer
      fewer h = record { running = h.running; left = omega (arith, h.left) }
  takes_many start count (suc times) (answer ∷ answers) peer last runs left =
      takes_many start count times answers (next Take peer) last runs.1
      (take_next source published sayable now timed start (count + times) peer
      (record { running = left.running; left = omega (arith, left.left) }))
  takes_many start count zero (answer ∷ answers) peer last runs left = absurd runs
  takes_many start count (suc times) [] peer last runs left = absurd runs

  -- up to the first that finds none
  no_took : (number : ℕ) (messages : List Msg) → Idle ≡ took number messages → ⊥
  no_took number [] is = cc
  no_took number (message ∷ messages) is = cc

  none_found : (peer : Peer) (c : Connection) (state : StreamStateOf) (found : Option CommitOf)
      → Idle ≡ (take_commit source.checked now peer c state found).0 → (found ≡ None)
      × ((take_commit source.checked now peer c state found).1 ≡ peer)
  none_found peer c state None is = (refl, refl)
  none_found peer c state (Some commit) is = absurd (no_took commit.number _ is)

  takes_none : (start count : ℕ) (peer : Peer) → Left start count peer
      → Idle ≡ (peer_step source now Take peer peer.connection).0 → Left start 0 (next Take peer)
  takes_none start count peer left idle =
      let c : Connection = left.running.c in
      let state : StreamStateOf = stream_state source start c.moves in
      let step : peer_step source now Take peer peer.connection
      ≡ take_commit source.checked now peer c state (slice_get (log_in source) state.done) =
      ap (λ connection. peer_step source now Take peer connection) left.running.is
      ∙ ap (take_step source now peer c) left.running.start_is in
      let none = none_found peer c state (slice_get (log_in source) state.done) (idle ∙ ap (λ both. both.0) step) in
      subst (Left start 0) (sym (ap (λ both. both.1) step ∙ none.1)) (record {
        running = left.running;
        left = let end = past_end (log_in source) state.done none.0 in omega (arith, end);
      })

  takes_idle : (start count times : ℕ) (earlier : List Answer) (peer last : Peer)
      → PeerRuns source now (replicate times Take) (earlier ++ Idle ∷ []) peer last
      → Left start count peer → Left start 0 last
  takes_idle start count zero [] peer last runs left = absurd runs
  takes_idle start count zero (first ∷ earlier) peer last runs left = absurd runs
  takes_idle start count (suc zero) [] peer last runs left =
      subst (Left start 0) (sym runs.1) (takes_none start count peer left runs.0)
  takes_idle start count (suc (suc times)) [] peer last runs left = absurd runs.1
  takes_idle start count (suc times) (first ∷ earlier) peer last runs left =
      takes_idle start count times earlier (next Take peer) last runs.1
      (take_next source published sayable now timed start count peer
      (record { running = left.running; left = omega (arith, left.left) }))

  pub takes_all : (start times : ℕ) (answers : List Answer) (peer last : Peer)
      → PeerRuns source now (replicate times Take) answers peer last
      → EndsIdle answers ⊎ (length source.transactions < times) → Left start (length source.transactions) peer
      → Left start 0 last
  takes_all start times answers peer last runs enough left = elim enough [
    | inl idle ↦ takes_idle start (length source.transactions) times idle.earlier peer last
        (subst (λ its. PeerRuns source now (replicate times Take) its peer last) idle.are runs) left
    | inr many ↦ takes_many start 0 times answers peer last runs
        (record { running = left.running; left = omega (arith, many, left.left) })
  ]

  -- ---- all is reported

  abbrev PastAll : ℕ → Type 0
  PastAll position = CountsAll source published sayable now timed position

  -- after the keepalive all is delivered, and a status is sent and heard
  tells_with : (start : ℕ) (peer : Peer) (c : Connection) → peer.connection ≡ Some c → c.start ≡ Some start
      → IsGood source peer
      → length (log_in source) ≤ (stream_state source start c.moves).done + 0
      → as_many all_bytes (length (down_bytes source c.start (c.moves ++ s.Keep now false ∷ []))) c.delivered < 2 ^ 63
      → PastAll (position_now source
      (next (Hear all_bytes)
      (next (Report false) (next (Deliver all_bytes) (moves_on peer c (s.Keep now false))))))
  tells_with start peer c is start_is good left few =
      let total : ℕ = length (down_bytes source c.start (c.moves ++ s.Keep now false ∷ [])) in
      let kept_is = keeps_on source published sayable now timed start peer c is start_is in
      let kept : IsGood source (moves_on peer c (s.Keep now false)) =
      subst (IsGood source) kept_is (next_good source published sayable now timed (Keep false) peer good) in
      let delivered = next_good source published sayable now timed (Deliver all_bytes)
      (moves_on peer c (s.Keep now false)) kept in
      let reported = next_good source published sayable now timed (Report false)
      (next (Deliver all_bytes) (moves_on peer c (s.Keep now false))) delivered in
      subst PastAll (sym (hears_stay source now timed
      (next (Report false) (next (Deliver all_bytes) (moves_on peer c (s.Keep now false)))) _ _ reported))
      (subst (λ more. PastAll
      (connection_position source peer
      (Some (record c { moves = c.moves ++ s.Keep now false ∷ []; delivered = c.delivered + more }))))
      (sym (all_waiting total c.delivered few))
      (reaches_end source published sayable now timed start peer.position c start_is left c.delivered
      kept.connected.1.delivered))

  tells_more : (start : ℕ) (peer last : Peer) (left : Left start 0 peer) (answers : List Answer)
      → PeerRuns source now (Deliver all_bytes ∷ Report false ∷ Hear all_bytes ∷ []) answers
      (moves_on peer left.running.c (s.Keep now false)) last → All KeepsConnection answers
      → PastAll (position_now source last)
  tells_more start peer last left answers runs goes =
      let kept : Peer = moves_on peer left.running.c (s.Keep now false) in
      let delivers = first_answer source now (Deliver all_bytes) (Report false ∷ Hear all_bytes ∷ []) answers kept
      last runs goes in
      let reports = first_answer source now (Report false) (Hear all_bytes ∷ []) delivers.others
      (next (Deliver all_bytes) kept) last delivers.runs delivers.all in
      let hears = one_answer source now (Hear all_bytes) reports.others
      (next (Report false) (next (Deliver all_bytes) kept)) last reports.runs reports.all in
      subst (λ peer. PastAll (position_now source peer)) (sym hears.1)
      (tells_with start peer left.running.c left.running.is left.running.start_is left.running.good left.left
      delivers.goes)

  pub tells_all : (start : ℕ) (peer last : Peer) (answers : List Answer)
      → PeerRuns source now (Keep false ∷ Deliver all_bytes ∷ Report false ∷ Hear all_bytes ∷ []) answers peer last
      → All KeepsConnection answers
      → Left start 0 peer → PastAll (position_now source last)
  tells_all start peer last answers runs goes left =
      let keeps = first_answer source now (Keep false) (Deliver all_bytes ∷ Report false ∷ Hear all_bytes ∷ [])
      answers peer last runs goes in
      let kept_is = keeps_on source published sayable now timed start peer left.running.c left.running.is
      left.running.start_is in
      tells_more start peer last left keeps.others
      (subst (λ kept. PeerRuns source now (Deliver all_bytes ∷ Report false ∷ Hear all_bytes ∷ []) keeps.others kept
      last) kept_is keeps.runs) keeps.all
