-- Events on one connection as steps of the subscriber alone.
use Rattle.std.proofs.Common.{◌≡◌, ℕ, ◌<◌, Bool, true, List, [], ◌∷◌, ◌++◌, length, map, refl, sym, ap, subst, ◌∙◌, inl, inr}
use Rattle.std.specs.Prelude.{Option, Some, None, All, ◌==◌, if◌then◌else◌}
use Rattle.std.specs.Cmp.{unsigned_Decides}
use Rattle.std.proofs.lemmas.Bool.{lt-ltb}
use Rattle.std.proofs.lemmas.List.Elements.{All-head, All-tail}
use Rattle.shard_checker.specs.CheckedView.{CheckedOf}
use Rattle.tables_log.specs.Commits.{CommitOf}
use Rattle.copy_both.specs.Streams.{StreamStateOf}
use Rattle.pgoutput_msgs.specs.declared.message.Msg.{Msg}
use Rattle.shard_world.specs.CatchingUp.{next_peer}
use Rattle.shard_world.specs.Pumping.{EndsWalk, KeepsConnection, on_clock}
use Rattle.shard_world.specs.World.{Connection, Peer, World, PeerEvent, Open, Hear, Take, Keep, Deliver, Report, Lose, On, Answer, OutOfMemory, stream_state, took, take_commit, take_step, keep_step, open_step, peer_step, with_peer, Steps, StepsPeer, StreamSource, source_in, step_in}
use Rattle.shard_world.specs.WorldCalls.{Runs}

-- ---- one event

own_peer : (world : World) (subscriber : ℕ) (peer : Peer) → (with_peer world subscriber peer).peers subscriber ≡ peer
own_peer world subscriber peer =
    let same : (subscriber == subscriber) ≡ true = (unsigned_Decides subscriber subscriber).1 refl in
    ap (λ b. if b then peer else world.peers subscriber) same

-- the connection's own step is made
record IsMade (checked : CheckedOf) (world : World) (subscriber now : ℕ) (event : PeerEvent) (answer : Answer)
    (next : World) : Type 0 where
  answer_is : answer ≡ (step_in checked world subscriber now event).0
  transactions_are : next.transactions ≡ world.transactions
  peer_is : next.peers subscriber ≡ next_peer (source_in checked world subscriber) now event (world.peers subscriber)

-- this number of answers, each of the peer's own step
abbrev pub PeerRuns : StreamSource → ℕ → List PeerEvent → List Answer → Peer → Peer → Type 0
PeerRuns source now [] [] peer last = last ≡ peer
PeerRuns source now (event ∷ events) (answer ∷ answers) peer last =
    (answer ≡ (peer_step source now event peer peer.connection).0)
    × PeerRuns source now events answers (next_peer source now event peer) last
PeerRuns source now events answers peer last = ⊥

pub record RunsAs (source : StreamSource) (now : ℕ) (events : List PeerEvent) (answers : List Answer) (peer : Peer)
    (next : World) : Type 0 where
  pub transactions_are : next.transactions ≡ source.transactions
  pub runs : PeerRuns source now events answers peer (next.peers source.number)

-- ---- a connection that exists continues

record HasConnection (peer : Peer) : Type 0 where
  c : Connection
  is : peer.connection ≡ Some c

abbrev pub KeepsOpen : PeerEvent → Type 0
KeepsOpen Lose = ⊥
KeepsOpen event = Unit {0}

module _ (source : StreamSource) (now : ℕ) where
  takes_keep : (peer : Peer) (c : Connection) (state : StreamStateOf) (found : Option CommitOf) → HasConnection peer
      → HasConnection (take_commit source.checked now peer c state found).1
  takes_keep peer c state None has = has
  takes_keep peer c state (Some commit) has = record { c = _; is = refl }

  take_keeps : (peer : Peer) (c : Connection) (start : Option ℕ) → HasConnection peer
      → HasConnection (take_step source now peer c start).1
  take_keeps peer c None has = has
  take_keeps peer c (Some start) has = takes_keep peer c (stream_state source start c.moves) _ has

  keep_keeps : (want : Bool) (peer : Peer) (c : Connection) (start : Option ℕ) → HasConnection peer
      → HasConnection (keep_step now want peer c start).1
  keep_keeps want peer c None has = has
  keep_keeps want peer c (Some start) has = record { c = _; is = refl }

  open_keeps : (event : PeerEvent) (peer : Peer) (c : Connection) → KeepsOpen event → HasConnection peer
      → HasConnection (open_step source now event peer c).1
  open_keeps Open peer c keeps has = has
  open_keeps (Hear count) peer c keeps has = record { c = _; is = refl }
  open_keeps Take peer c keeps has = take_keeps peer c c.start has
  open_keeps (Keep want) peer c keeps has = keep_keeps want peer c c.start has
  open_keeps (Deliver count) peer c keeps has = record { c = _; is = refl }
  open_keeps (Report want) peer c keeps has = record { c = _; is = refl }
  open_keeps Lose peer c keeps has = absurd keeps

  next_keeps : (event : PeerEvent) (peer : Peer) → KeepsOpen event → HasConnection peer
      → HasConnection (next_peer source now event peer)
  next_keeps event peer keeps has =
      subst (λ connection. HasConnection (peer_step source now event peer connection).1) (sym has.is)
      (open_keeps event peer has.c keeps has)

  -- none of its own answers reports that there is none
  took_on : (number : ℕ) (messages : List Msg) → EndsWalk (took number messages) → ⊥
  took_on number [] ends = ends
  took_on number (message ∷ messages) ends = ends

  takes_on : (peer : Peer) (c : Connection) (state : StreamStateOf) (found : Option CommitOf)
      → EndsWalk (take_commit source.checked now peer c state found).0 → ⊥
  takes_on peer c state None ends = ends
  takes_on peer c state (Some commit) ends = took_on commit.number _ ends

  take_on : (peer : Peer) (c : Connection) (start : Option ℕ) → EndsWalk (take_step source now peer c start).0 → ⊥
  take_on peer c None ends = ends
  take_on peer c (Some start) ends = takes_on peer c (stream_state source start c.moves) _ ends

  keep_on : (want : Bool) (peer : Peer) (c : Connection) (start : Option ℕ)
      → EndsWalk (keep_step now want peer c start).0 → ⊥
  keep_on want peer c None ends = ends
  keep_on want peer c (Some start) ends = ends

  open_on : (event : PeerEvent) (peer : Peer) (c : Connection) → EndsWalk (open_step source now event peer c).0 → ⊥
  open_on Open peer c ends = ends
  open_on (Hear count) peer c ends = ends
  open_on Take peer c ends = take_on peer c c.start ends
  open_on (Keep want) peer c ends = keep_on want peer c c.start ends
  open_on (Deliver count) peer c ends = ends
  open_on (Report want) peer c ends = ends
  open_on Lose peer c ends = ends

-- ---- in the world

module _ (checked : CheckedOf) (most subscriber now : ℕ) (there : subscriber < length checked.plan) where
  step_there : (world next : World) (event : PeerEvent) (answer : Answer)
      → Steps checked most world now (On subscriber event) answer next
      → StepsPeer true checked world subscriber now event answer next
  step_there world next event answer steps =
      subst (λ known. StepsPeer known checked world subscriber now event answer next)
      (lt-ltb subscriber (length checked.plan) there) steps

  is_made : (world next : World) (event : PeerEvent) (answer : Answer) → KeepsConnection answer
      → Steps checked most world now (On subscriber event) answer next
      → IsMade checked world subscriber now event answer next
  is_made world next event answer goes steps = elim (step_there world next event answer steps) [
    | inl moves ↦ record {
      answer_is = moves.answer_is;
      transactions_are = ap (λ (its : World). its.transactions) moves.next_is;
      peer_is = ap (λ (its : World). its.peers subscriber) moves.next_is ∙ own_peer world subscriber _;
    }
    | inr breaks ↦ absurd (subst KeepsConnection breaks.answer_is goes)
  ]

  pub runs_as : (events : List PeerEvent) (answers : List Answer) (world next : World) → All KeepsConnection answers
      → Runs checked most (map (on_clock now subscriber) events) answers world next
      → RunsAs (source_in checked world subscriber) now events answers (world.peers subscriber) next
  runs_as [] [] world next goes runs =
      record {
        transactions_are = ap (λ (its : World). its.transactions) runs;
        runs =
            ap (λ (its : World). its.peers subscriber) runs;
      }
  runs_as (event ∷ events) (answer ∷ answers) world next goes runs =
      let made = is_made world runs.0 event answer (All-head KeepsConnection answer answers goes) runs.1 in
      let later = runs_as events answers runs.0 next (All-tail KeepsConnection answer answers goes) runs.2 in
      record {
        transactions_are = later.transactions_are ∙ made.transactions_are;
        runs = (
          made.answer_is,
          subst (λ peer. PeerRuns (source_in checked world subscriber) now events answers peer
              (next.peers subscriber)) made.peer_is
              (subst (λ its. PeerRuns (record { checked = checked; transactions = its; number = subscriber }) now
              events answers (runs.0.peers subscriber) (next.peers subscriber)) made.transactions_are later.runs),
        );
      }
  runs_as [] (answer ∷ answers) world next goes runs = absurd runs
  runs_as (event ∷ events) [] world next goes runs = absurd runs

  -- if there was memory for all but the last
  pub last_answer : (events : List PeerEvent) (answers : List Answer) (answer : Answer) (world next : World)
      → All KeepsOpen events → All KeepsConnection answers → EndsWalk answer
      → Runs checked most (map (on_clock now subscriber) events) (answers ++ answer ∷ []) world next
      → (c : Connection) → (world.peers subscriber).connection ≡ Some c → answer ≡ OutOfMemory
  last_answer [] [] answer world next keeps goes ends runs c is = absurd runs
  last_answer [] (first ∷ answers) answer world next keeps goes ends runs c is = absurd runs
  last_answer (event ∷ events) [] answer world next keeps goes ends runs c is =
      elim (step_there world runs.0 event answer runs.1) [
        | inl moves ↦ absurd (open_on (source_in checked world subscriber) now event (world.peers subscriber) c
            (subst (λ connection. EndsWalk
            (peer_step (source_in checked world subscriber) now event (world.peers subscriber) connection).0) is
            (subst EndsWalk moves.answer_is ends)))
        | inr breaks ↦ breaks.answer_is
      ]
  last_answer (event ∷ events) (first ∷ answers) answer world next keeps goes ends runs c is =
      let made = is_made world runs.0 event first (All-head KeepsConnection first answers goes) runs.1 in
      let kept = next_keeps (source_in checked world subscriber) now event (world.peers subscriber)
      (All-head KeepsOpen event events keeps) (record { c = c; is = is }) in
      last_answer events answers answer runs.0 next (All-tail KeepsOpen event events keeps)
      (All-tail KeepsConnection first answers goes) ends runs.2 kept.c
      (ap (λ (peer : Peer). peer.connection) made.peer_is ∙ kept.is)
