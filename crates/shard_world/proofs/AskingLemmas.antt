-- In the world a stream has started, or the command that requests it is still to be heard whole; so each subscriber can
-- be brought up to the end of the log.
use Rattle.std.proofs.Common.{◌≡◌, ℕ, ◌+◌, ◌<◌, ◌≤◌, Bool, true, false, List, [], ◌∷◌, length, refl, sym, ◌∙◌, ap, subst, arith, inl, inr}
use Rattle.std.specs.Prelude.{Option, Some, None, ◌==◌, nat_le, nat_lt, if◌then◌else◌}
use Rattle.std.specs.Cmp.{unsigned_Decides}
use Rattle.std.proofs.lemmas.Bool.{leb-true, leb-false}
use Rattle.shard_checker.specs.CheckedView.{CheckedOf}
use Rattle.tables_log.specs.Commits.{CommitOf}
use Rattle.tables_log.specs.Lsn.{commits_before, end_lsn_of}
use Rattle.copy_both.specs.Streams.{StreamStateOf}
use Rattle.shard_world.specs.CatchingUp.{next_peer, sent_by, caught_up, SubscribersCatchUp}
use Rattle.stream_laws.specs.Following.{IsPublished}
use Rattle.stream_laws.specs.LayoutRoom.{FitsLayouts}
use Rattle.shard_world.specs.World.{position_now, Asks, Connection, Peer, World, PeerEvent, Open, Hear, Take, Keep, Deliver, Report, Lose, Event, Commit, On, Answer, first_world, spelled_up, heard_of, hears, stream_state, take_commit, take_step, keep_step, open_step, shut_step, peer_step, broken, with_peer, with_transaction, StepsPeer, Steps, Leads, StreamSource, source_in, step_in, broken_in, asking_length}
use Rattle.shard_world.proofs.EndLemmas.{IsEnd}
use Rattle.shard_world.proofs.EndSteps.{now_end, peer_end, take_many_end, take_many_good, ends_at}
use Rattle.shard_world.proofs.CatchingUpLemmas.{hears_start, catches_up}
use Rattle.shard_world.proofs.WorldPeers.{IsGood}
use Rattle.shard_world.proofs.WorldSteps.{peer_good}
use Rattle.shard_world.proofs.WorldLemmas.{all_timed, can_be_said, good_at, published}
use Rattle.filter_tree.proofs.Tests.{by_test}

-- the command that requests the stream is still to be heard whole, or the stream has started
abbrev pub IsAskedAt : CheckedOf → ℕ → ℕ → Option Connection → Type 0
IsAskedAt checked subscriber position None = Unit {0}
IsAskedAt checked subscriber position (Some c) = c.start ≡ None
    → c.heard < length (spelled_up checked subscriber (Asks position))

abbrev pub IsAsked : CheckedOf → ℕ → Peer → Type 0
IsAsked checked subscriber peer = IsAskedAt checked subscriber peer.position peer.connection

module _ (source : StreamSource) (now : ℕ) where
  hears_asked : (peer : Peer) (c : Connection) (more : ℕ)
      → IsAskedAt source.checked source.number peer.position (Some c)
      → IsAsked source.checked source.number (hears source now peer c more)
  hears_asked peer c more still none = by_test (nat_le (asking_length source peer.position) (c.heard + more))
      (λ whole. absurd (
      let start = hears_start source now peer c more still
      (leb-true (asking_length source peer.position) (c.heard + more) whole) in
      let is : (heard_of source now peer c more).start ≡ Some start.at = start.is in
      cc))
      (λ part. leb-false (asking_length source peer.position) (c.heard + more) part)

  takes_asked : (peer : Peer) (c : Connection) (state : StreamStateOf) (found : Option CommitOf)
      → IsAsked source.checked source.number peer → IsAskedAt source.checked source.number peer.position (Some c)
      → IsAsked source.checked source.number (take_commit source.checked now peer c state found).1
  takes_asked peer c state None whole still = whole
  takes_asked peer c state (Some commit) whole still = still

  take_asked : (peer : Peer) (c : Connection) (start : Option ℕ) → IsAsked source.checked source.number peer
      → IsAskedAt source.checked source.number peer.position (Some c)
      → IsAsked source.checked source.number (take_step source now peer c start).1
  take_asked peer c None whole still = whole
  take_asked peer c (Some start) whole still = takes_asked peer c (stream_state source start c.moves) _ whole still

  keep_asked : (want : Bool) (peer : Peer) (c : Connection) (start : Option ℕ)
      → IsAsked source.checked source.number peer → IsAskedAt source.checked source.number peer.position (Some c)
      → IsAsked source.checked source.number (keep_step now want peer c start).1
  keep_asked want peer c None whole still = whole
  keep_asked want peer c (Some start) whole still = still

  open_asked : (event : PeerEvent) (peer : Peer) (c : Connection) → peer.connection ≡ Some c
      → IsAsked source.checked source.number peer
      → IsAsked source.checked source.number (open_step source now event peer c).1
  open_asked Open peer c is whole = whole
  open_asked (Hear count) peer c is whole =
      hears_asked peer c _ (subst (IsAskedAt source.checked source.number peer.position) is whole)
  open_asked Take peer c is whole =
      take_asked peer c c.start whole (subst (IsAskedAt source.checked source.number peer.position) is whole)
  open_asked (Keep want) peer c is whole =
      keep_asked want peer c c.start whole (subst (IsAskedAt source.checked source.number peer.position) is whole)
  open_asked (Deliver count) peer c is whole =
      let still : IsAskedAt source.checked source.number peer.position (Some c) =
      subst (IsAskedAt source.checked source.number peer.position) is whole in still
  open_asked (Report want) peer c is whole =
      let still : IsAskedAt source.checked source.number peer.position (Some c) =
      subst (IsAskedAt source.checked source.number peer.position) is whole in still
  open_asked Lose peer c is whole = tt

  shut_asked : (event : PeerEvent) (peer : Peer) → IsAsked source.checked source.number peer
      → IsAsked source.checked source.number (shut_step event peer).1
  shut_asked Open peer whole = λ none. omega arith
  shut_asked (Hear count) peer whole = whole
  shut_asked Take peer whole = whole
  shut_asked (Keep want) peer whole = whole
  shut_asked (Deliver count) peer whole = whole
  shut_asked (Report want) peer whole = whole
  shut_asked Lose peer whole = whole

  peer_asked : (event : PeerEvent) (peer : Peer) (connection : Option Connection) → peer.connection ≡ connection
      → IsAsked source.checked source.number peer
      → IsAsked source.checked source.number (peer_step source now event peer connection).1
  peer_asked event peer None is whole = shut_asked event peer whole
  peer_asked event peer (Some c) is whole = open_asked event peer c is whole

  broken_asked : (event : PeerEvent) (peer : Peer) (some : ℕ) (connection : Option Connection)
      → IsAsked source.checked source.number peer
      → IsAsked source.checked source.number (broken source now event peer some connection)
  broken_asked event peer some None whole = whole
  broken_asked event peer some (Some c) whole = tt

-- ---- the world

abbrev pub AllAsked : CheckedOf → World → Type 0
AllAsked checked world = (subscriber : ℕ) → IsAsked checked subscriber (world.peers subscriber)

same_asked : (checked : CheckedOf) (one other : World) → one ≡ other → AllAsked checked other → AllAsked checked one
same_asked checked one other e all = subst (AllAsked checked) (sym e) all

peer_changes : (checked : CheckedOf) (world : World) (subscriber : ℕ) (peer : Peer) → AllAsked checked world
    → IsAsked checked subscriber peer → AllAsked checked (with_peer world subscriber peer)
peer_changes checked world subscriber peer all new other = by_test (other == subscriber)
    (λ same. subst (IsAsked checked other) (sym (ap (λ b. if b then peer else world.peers other) same))
    (subst (λ n. IsAsked checked n peer) (sym ((unsigned_Decides other subscriber).0 same)) new))
    (λ differ. subst (IsAsked checked other) (sym (ap (λ b. if b then peer else world.peers other) differ)) (all other))

step_asked : (checked : CheckedOf) (most : ℕ) (world : World) (now : ℕ) (event : Event) (answer : Answer)
    (next : World) → Steps checked most world now event answer next
    → AllAsked checked world → AllAsked checked next
step_asked checked most world now (Commit commands time) answer next steps all = elim steps [
  | inl commits ↦ same_asked checked next (with_transaction world commands time) commits.next_is all
  | inr refuses ↦ same_asked checked next world refuses.next_is all
]
step_asked checked most world now (On subscriber event) answer next steps all =
    by_number (nat_lt subscriber (length checked.plan)) steps
  where
    by_number : (known : Bool) → StepsPeer known checked world subscriber now event answer next → AllAsked checked next
    by_number false step = same_asked checked next world step.1 all
    by_number true step = elim step [
      | inl moves ↦ same_asked checked next
          (with_peer world subscriber (step_in checked world subscriber now event).1) moves.next_is
          (peer_changes checked world subscriber (step_in checked world subscriber now event).1 all
          (peer_asked (source_in checked world subscriber) now event (world.peers subscriber)
          (world.peers subscriber).connection refl (all subscriber)))
      | inr breaks ↦ same_asked checked next
          (with_peer world subscriber (broken_in checked world subscriber now event breaks.some)) breaks.next_is
          (peer_changes checked world subscriber (broken_in checked world subscriber now event breaks.some) all
          (broken_asked (source_in checked world subscriber) now event (world.peers subscriber) breaks.some
          (world.peers subscriber).connection (all subscriber)))
    ]

pub leads_asked : (checked : CheckedOf) (most : ℕ) (events : List (ℕ × Event)) (world last : World)
    → Leads checked most events world last → AllAsked checked world → AllAsked checked last
leads_asked checked most [] world last leads all = same_asked checked last world leads all
leads_asked checked most (event ∷ events) world last leads all =
    leads_asked checked most events leads.1 last leads.3
    (step_asked checked most world event.0 event.1 leads.0 leads.1 leads.2 all)

-- a position that counts this number of commits, and is not 0, is where the last of them ends
pub end_of_count : (position count : ℕ) → IsEnd position → commits_before position ≡ count → 1 ≤ position
    → position ≡ end_lsn_of count
end_of_count position count ends counts some = elim ends [
  | inl zero ↦ absurd (omega (arith, zero, some))
  | inr is ↦ is ∙ ap end_lsn_of counts
]

pub subscribers_catch_up : SubscribersCatchUp
subscribers_catch_up checked most publisher events times world leads subscriber now timed c is =
    let source : StreamSource = source_in checked world subscriber in
    let sayable = can_be_said checked most publisher events times world leads in
    let good = good_at checked publisher.covered publisher.apart most events (all_timed events times) world leads
    sayable in
    let public = published checked publisher.covered publisher.apart world good in
    let caught = catches_up source public sayable now timed (world.peers subscriber) c is
    (subst (IsAskedAt checked subscriber (world.peers subscriber).position) is
    (leads_asked checked most events first_world world leads (λ other. tt) subscriber))
    (good.peers subscriber) in
    end_of_count (position_now source (caught_up source now (world.peers subscriber))) (length world.transactions)
    (now_end source (caught_up source now (world.peers subscriber)) caught.good
    (all_ends source public sayable (world.peers subscriber) (good.peers subscriber)
    (ends_at checked publisher.covered publisher.apart most events (all_timed events times) world leads sayable
    subscriber)))
    caught.counts caught.some
  where
    all_ends : (source : StreamSource) → IsPublished source.checked source.transactions
        → FitsLayouts source.checked source.transactions → (peer : Peer) → IsGood source peer → IsEnd peer.position
        → IsEnd (caught_up source now peer).position
    all_ends source public sayable peer good h =
        let heard_good = peer_good source public sayable now timed (Hear (sent_by source peer peer.connection)) peer
        peer.connection refl good in
        let heard_end = peer_end source now (Hear (sent_by source peer peer.connection)) peer peer.connection good h in
        let taken_good = take_many_good source public sayable now timed (length source.transactions)
        (next_peer source now (Hear (sent_by source peer peer.connection)) peer) heard_good in
        let taken_end = take_many_end source public sayable now timed (length source.transactions)
        (next_peer source now (Hear (sent_by source peer peer.connection)) peer) heard_good heard_end in
        let kept_good = peer_good source public sayable now timed (Keep false) _ _ refl taken_good in
        let kept_end = peer_end source now (Keep false) _ _ taken_good taken_end in
        peer_end source now (Deliver _) _ _ kept_good kept_end
