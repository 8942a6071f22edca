-- In the world each position is 0, or where a commit ends.
use Rattle.std.proofs.Common.{◌≡◌, ℕ, zero, suc, ◌<◌, ◌^◌, Bool, true, false, List, [], ◌∷◌, length, refl, sym, ap, subst, inl, inr}
use Rattle.std.specs.Prelude.{Option, Some, None, All, ◌==◌, nat_lt, if◌then◌else◌}
use Rattle.std.proofs.lemmas.List.Elements.{All-head, All-tail}
use Rattle.table_changes.specs.Standing.{Covered, KeepsApart}
use Rattle.shard_checker.specs.CheckedView.{CheckedOf, setting_in}
use Rattle.tables_log.specs.Commits.{CommitOf}
use Rattle.copy_both.specs.Streams.{StreamStateOf}
use Rattle.shard_world.specs.CatchingUp.{next_peer, take_many}
use Rattle.stream_laws.specs.Cutting.{whole_in}
use Rattle.stream_laws.specs.Following.{position_after, IsPublished}
use Rattle.stream_laws.specs.LayoutRoom.{FitsLayouts}
use Rattle.shard_world.specs.World.{Connection, Peer, World, PeerEvent, Open, Hear, Take, Keep, Deliver, Report, Lose, Event, Commit, On, Answer, first_world, down_items, connection_position, position_now, stream_state, take_commit, take_step, keep_step, open_step, shut_step, peer_step, broken, with_peer, with_transaction, StepsPeer, Steps, Leads, StreamSource, source_in, step_in, broken_in, in_part, log_in}
use Rattle.shard_world.proofs.EndLemmas.{IsEnd, stream_end}
use Rattle.shard_world.proofs.WorldItems.{sayable_first}
use Rattle.shard_world.proofs.WorldLemmas.{IsTimed, leads_grow, IsGoodWorld, published, step_good, first_good}
use Rattle.shard_world.proofs.WorldPeers.{StartsAt, IsConnectedAt, IsGood}
use Rattle.shard_world.proofs.WorldSteps.{in_part_good, peer_good}
use Rattle.filter_tree.proofs.Tests.{by_test}

module _ (source : StreamSource) where
  delivered_end : (position : ℕ) → IsEnd position → (start : Option ℕ) → StartsAt position start → (c : Connection)
      → c.start ≡ start
      → IsEnd (position_after position (whole_in c.delivered (down_items source start c.moves)))
  delivered_end position h None at c e = h
  delivered_end position h (Some start) at c e =
      stream_end source.checked (log_in source) source.number start c.moves c.delivered position
      (subst IsEnd (sym at) h) h

  at_end : (peer : Peer) (connection : Option Connection) → IsConnectedAt source peer connection → IsEnd peer.position
      → IsEnd (connection_position source peer connection)
  at_end peer None connected h = h
  at_end peer (Some c) connected h = delivered_end peer.position h c.start connected.1.started c refl

  pub now_end : (peer : Peer) → IsGood source peer → IsEnd peer.position → IsEnd (position_now source peer)
  now_end peer good h = at_end peer peer.connection good.connected h

  -- ---- steps

  takes_end : (now : ℕ) (peer : Peer) (c : Connection) (state : StreamStateOf) (found : Option CommitOf)
      → IsEnd peer.position
      → IsEnd (take_commit source.checked now peer c state found).1.position
  takes_end now peer c state None h = h
  takes_end now peer c state (Some commit) h = h

  take_end : (now : ℕ) (peer : Peer) (c : Connection) (start : Option ℕ) → IsEnd peer.position
      → IsEnd (take_step source now peer c start).1.position
  take_end now peer c None h = h
  take_end now peer c (Some start) h = takes_end now peer c (stream_state source start c.moves) _ h

  keep_end : (now : ℕ) (want : Bool) (peer : Peer) (c : Connection) (start : Option ℕ) → IsEnd peer.position
      → IsEnd (keep_step now want peer c start).1.position
  keep_end now want peer c None h = h
  keep_end now want peer c (Some start) h = h

  open_end : (now : ℕ) (event : PeerEvent) (peer : Peer) (c : Connection) → IsGood source peer → IsEnd peer.position
      → IsEnd (open_step source now event peer c).1.position
  open_end now Open peer c good h = h
  open_end now (Hear count) peer c good h = h
  open_end now Take peer c good h = take_end now peer c c.start h
  open_end now (Keep want) peer c good h = keep_end now want peer c c.start h
  open_end now (Deliver count) peer c good h = h
  open_end now (Report want) peer c good h = h
  open_end now Lose peer c good h = now_end peer good h

  shut_end : (event : PeerEvent) (peer : Peer) → IsEnd peer.position → IsEnd (shut_step event peer).1.position
  shut_end Open peer h = h
  shut_end (Hear count) peer h = h
  shut_end Take peer h = h
  shut_end (Keep want) peer h = h
  shut_end (Deliver count) peer h = h
  shut_end (Report want) peer h = h
  shut_end Lose peer h = h

  pub peer_end : (now : ℕ) (event : PeerEvent) (peer : Peer) (connection : Option Connection) → IsGood source peer
      → IsEnd peer.position
      → IsEnd (peer_step source now event peer connection).1.position
  peer_end now event peer None good h = shut_end event peer h
  peer_end now event peer (Some c) good h = open_end now event peer c good h

module _ (source : StreamSource) (public : IsPublished source.checked source.transactions)
    (sayable : FitsLayouts source.checked source.transactions) (now : ℕ) (timed : now < 2 ^ 64) where
  in_part_end : (event : PeerEvent) (peer : Peer) (some : ℕ) (c : Connection) → IsEnd peer.position
      → IsEnd (in_part source now event peer some c).position
  in_part_end Open peer some c h = h
  in_part_end (Hear count) peer some c h = h
  in_part_end Take peer some c h = h
  in_part_end (Keep want) peer some c h = h
  in_part_end (Deliver count) peer some c h = h
  in_part_end (Report want) peer some c h = h
  in_part_end Lose peer some c h = h

  broken_end : (event : PeerEvent) (peer : Peer) (some : ℕ) (connection : Option Connection)
      → peer.connection ≡ connection → IsGood source peer → IsEnd peer.position
      → IsEnd (broken source now event peer some connection).position
  broken_end event peer some None is good h = h
  broken_end event peer some (Some c) is good h =
      now_end source (in_part source now event peer some c)
      (in_part_good source public sayable now timed event peer some c is good) (in_part_end event peer some c h)

  pub take_many_end : (count : ℕ) (peer : Peer) → IsGood source peer → IsEnd peer.position
      → IsEnd (take_many source now count peer).position
  take_many_end zero peer good h = h
  take_many_end (suc count) peer good h =
      take_many_end count (next_peer source now Take peer)
      (peer_good source public sayable now timed Take peer peer.connection refl good)
      (peer_end source now Take peer peer.connection good h)

  pub take_many_good : (count : ℕ) (peer : Peer) → IsGood source peer → IsGood source (take_many source now count peer)
  take_many_good zero peer good = good
  take_many_good (suc count) peer good =
      take_many_good count (next_peer source now Take peer)
      (peer_good source public sayable now timed Take peer peer.connection refl good)

-- ---- the world

abbrev AllEnd : World → Type 0
AllEnd world = (subscriber : ℕ) → IsEnd (world.peers subscriber).position

same_end : (one other : World) → one ≡ other → AllEnd other → AllEnd one
same_end one other e all = subst AllEnd (sym e) all

peer_ends : (world : World) (subscriber : ℕ) (peer : Peer) → AllEnd world → IsEnd peer.position
    → AllEnd (with_peer world subscriber peer)
peer_ends world subscriber peer all new other = by_test (other == subscriber)
    (λ same. subst (λ (one : Peer). IsEnd one.position) (sym (ap (λ b. if b then peer else world.peers other) same))
    new)
    (λ differ. subst (λ (one : Peer). IsEnd one.position)
    (sym (ap (λ b. if b then peer else world.peers other) differ)) (all other))

module _ (checked : CheckedOf) (covered : Covered (setting_in checked)) (keeps : KeepsApart (setting_in checked)) where
  step_end : (most : ℕ) (world : World) (now : ℕ) (event : Event) (answer : Answer) (next : World) → now < 2 ^ 64
      → FitsLayouts checked world.transactions → IsGoodWorld checked world
      → Steps checked most world now event answer next → AllEnd world → AllEnd next
  step_end most world now (Commit commands time) answer next timed sayable good steps all = elim steps [
    | inl commits ↦ same_end next (with_transaction world commands time) commits.next_is all
    | inr refuses ↦ same_end next world refuses.next_is all
  ]
  step_end most world now (On subscriber event) answer next timed sayable good steps all =
      by_number (nat_lt subscriber (length checked.plan)) steps
    where
      by_number : (known : Bool) → StepsPeer known checked world subscriber now event answer next → AllEnd next
      by_number false step = same_end next world step.1 all
      by_number true step = elim step [
        | inl moves ↦ same_end next (with_peer world subscriber (step_in checked world subscriber now event).1)
            moves.next_is
            (peer_ends world subscriber (step_in checked world subscriber now event).1 all
            (peer_end (source_in checked world subscriber) now event (world.peers subscriber)
            (world.peers subscriber).connection (good.peers subscriber) (all subscriber)))
        | inr breaks ↦ same_end next
            (with_peer world subscriber (broken_in checked world subscriber now event breaks.some)) breaks.next_is
            (peer_ends world subscriber (broken_in checked world subscriber now event breaks.some) all
            (broken_end (source_in checked world subscriber) (published checked covered keeps world good) sayable now
            timed event (world.peers subscriber) breaks.some (world.peers subscriber).connection refl
            (good.peers subscriber) (all subscriber)))
      ]

  leads_end : (most : ℕ) (events : List (ℕ × Event)) → All IsTimed events → (world last : World)
      → Leads checked most events world last → FitsLayouts checked last.transactions
      → IsGoodWorld checked world → AllEnd world → AllEnd last
  leads_end most [] timed world last leads sayable good all = same_end last world leads all
  leads_end most (event ∷ events) timed world last leads sayable good all =
      let grown = leads_grow checked most (event ∷ events) world last leads in
      let first = sayable_first checked world.transactions grown.more (subst (FitsLayouts checked) grown.is sayable) in
      let time = All-head IsTimed event events timed in
      leads_end most events (All-tail IsTimed event events timed) leads.1 last leads.3 sayable
      (step_good checked covered keeps most world event.0 event.1 leads.0 leads.1 time first good leads.2)
      (step_end most world event.0 event.1 leads.0 leads.1 time first good leads.2 all)

  pub ends_at : (most : ℕ) (events : List (ℕ × Event)) → All IsTimed events → (world : World)
      → Leads checked most events first_world world → FitsLayouts checked world.transactions
      → (subscriber : ℕ) → IsEnd (world.peers subscriber).position
  ends_at most events timed world leads sayable =
      leads_end most events timed first_world world leads sayable (first_good checked covered keeps)
      (λ other. inl refl)
