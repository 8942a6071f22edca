-- A program's world that matches a world of the model still does after each event.
use Rattle.std.proofs.Common.{◌≡◌, ℕ, ◌≤◌, List, [], ◌∷◌, ◌++◌, length, take, refl, sym, ap, subst, ◌∙◌}
use Rattle.std.specs.Prelude.{Option, Some, None, slice_get}
use Rattle.shard_checker.specs.CheckedView.{CheckedOf}
use Rattle.std.specs.List.{flat_map}
use Rattle.tables_log.specs.Commits.{CommitOf}
use Rattle.tables_log.specs.StandsFor.{Transaction}
use Rattle.tables_log.specs.declared.slots.Slot.{Slot}
use Rattle.copy_both.specs.LinkLaws.{Run, IsStreaming}
use Rattle.copy_both.specs.StreamLaws.{AllThere}
use Rattle.copy_both.specs.Streams.{spelled, StreamStateOf, Move, all_moved, state_at}
use Rattle.copy_both.specs.Tellings.{telling_of}
use Rattle.copy_both.specs.declared.link.Link.{Link}
use Rattle.copy_both.proofs.LinkStreams.{log_grows}
use Rattle.copy_both.proofs.StreamLemmas.{all_moved_longer}
use Rattle.copy_frames.specs.Frames.{cut, rest_of}
use Rattle.test_subscriber.specs.Feeding.{limit}
use Rattle.test_subscriber.specs.Frames.{hear_cut}
use Rattle.test_subscriber.specs.Machine.{opened}
use Rattle.test_subscriber.specs.Subscribers.{sub_machine}
use Rattle.test_subscriber.specs.declared.subscriber.Subscriber.{Subscriber}
use Rattle.stream_laws.specs.Following.{log_of}
use Rattle.shard_world.specs.Joined.{PeerOf, PeerIs, IsAt, IsLinked, AlikeBut, SendsStream, run_of}
use Rattle.shard_world.specs.World as w
use Rattle.shard_world.specs.World.{Connection, Event, Answer, Steps, Leads, down_bytes, stream_state, StreamSource, log_in}
use Rattle.shard_world.proofs.WorldHearing.{down_longer}
use Rattle.shard_world.proofs.WorldItems.{log_goes_on, with_more}
use Rattle.shard_world.proofs.WorldPeers.{StartsAt, IsConnected, IsConnectedAt, IsGood}

-- ---- one more event

pub leads_one_more : (checked : CheckedOf) (most : ℕ) (events : List (ℕ × Event)) (first world : w.World) (now : ℕ)
    (event : Event) (answer : Answer) (next : w.World)
    → Leads checked most events first world → Steps checked most world now event answer next
    → Leads checked most (events ++ (now, event) ∷ []) first next
leads_one_more checked most [] first world now event answer next leads steps =
    (answer, next, subst (λ from. Steps checked most from now event answer next) leads steps, refl)
leads_one_more checked most (one ∷ events) first world now event answer next leads steps =
    (leads.0, leads.1, leads.2, leads_one_more checked most events leads.1 world now event answer next leads.3 steps)

-- ---- another slot changes

module _ (source : StreamSource) (before after : List Slot)
    (same : slice_get after source.number ≡ slice_get before source.number) where
  at_elsewhere : (link : Option Link) (subscriber : Subscriber) (peer : w.Peer) (connection : Option Connection)
      → IsAt source before link subscriber peer connection
      → IsAt source after link subscriber peer connection
  at_elsewhere None subscriber peer None at = record { machine = at.machine; slot = same ∙ at.slot }
  at_elsewhere (Some link) subscriber peer (Some c) at = record {
    heard = at.heard;
    delivered = at.delivered;
    sends = at.sends;
    held = at.held;
    machine = at.machine;
    checked_is = at.checked_is;
    hears = at.hears;
    speaks = at.speaks;
    slot = same ∙ at.slot;
  }
  at_elsewhere None subscriber peer (Some c) at = absurd at
  at_elsewhere (Some link) subscriber peer None at = absurd at

  pub is_elsewhere : (code : PeerOf) (peer : w.Peer) → PeerIs source before code peer → PeerIs source after code peer
  is_elsewhere code peer is =
      record { named = is.named; at = at_elsewhere code.link code.subscriber peer peer.connection is.at }

-- ---- the log grows

module _ (source : StreamSource) (more : List Transaction) (position : ℕ) where
  abbrev IsThereAt : List Move → Type 0
  IsThereAt moves = AllThere (telling_of source.checked) (log_in source)
      (state_at source.number (length source.checked.catalog.tables) position) moves

  bytes_longer : (start : Option ℕ) → StartsAt position start → (moves : List Move) → IsThereAt moves
      → down_bytes (with_more source more) start moves ≡ down_bytes source start moves
  bytes_longer start at moves there = ap (flat_map spelled) (down_longer source more position start at moves there)

  state_longer : (start : ℕ) → start ≡ position → (moves : List Move) → IsThereAt moves
      → stream_state (with_more source more) start moves ≡ stream_state source start moves
  state_longer start at moves there =
      let on = log_goes_on source.checked source.transactions more in
      ap (λ log. all_moved (telling_of source.checked) log
      (state_at source.number (length source.checked.catalog.tables) start) moves) on.is
      ∙ all_moved_longer (telling_of source.checked) (log_in source) on.others
      (state_at source.number (length source.checked.catalog.tables) start) moves
      (subst (λ p. AllThere (telling_of source.checked) (log_in source)
      (state_at source.number (length source.checked.catalog.tables) p) moves) (sym at) there)

  abbrev run_with : ℕ → List Move → List CommitOf → List ℕ → Run
  run_with start moves log passed = record (run_of source start moves 0) { log = log; passed = passed }

  speaks_longer : (link : Link) (moves : List Move) (delivered : ℕ) → IsThereAt moves → (start : Option ℕ)
      → StartsAt position start
      → SendsStream source link moves delivered start → SendsStream (with_more source more) link moves delivered start
  speaks_longer link moves delivered there None at speaks = speaks
  speaks_longer link moves delivered there (Some start) at speaks =
      let on = log_goes_on source.checked source.transactions more in
      let state : StreamStateOf = stream_state source start moves in
      let grown : IsStreaming link
      (run_with start moves (log_in source ++ on.others) (take delivered (down_bytes source (Some start) moves)))
      state =
      log_grows link (run_of source start moves delivered) state on.others speaks in
      subst (IsStreaming link (run_of (with_more source more) start moves delivered))
      (sym (state_longer start at moves there))
      (subst (λ bytes. IsStreaming link
      (run_with start moves (log_of source.checked (source.transactions ++ more)) (take delivered bytes)) state)
      (sym (bytes_longer (Some start) at moves there))
      (subst (λ log. IsStreaming link
      (run_with start moves log (take delivered (down_bytes source (Some start) moves))) state) (sym on.is)
      grown))

module _ (source : StreamSource) (more : List Transaction) where
  linked_longer : (slots : List Slot) (link : Link) (subscriber : Subscriber) (peer : w.Peer) (reached : ℕ)
      (c : Connection) → IsConnected source peer.position peer.confirmed reached c
      → IsLinked source slots link subscriber peer c → IsLinked (with_more source more) slots link subscriber peer c
  linked_longer slots link subscriber peer reached c connected linked =
      let same = bytes_longer source more peer.position c.start connected.started c.moves connected.there in
      record {
        heard = linked.heard;
        delivered = subst (λ bytes. c.delivered ≤ length bytes) (sym same) linked.delivered;
        sends = linked.sends;
        held = linked.held ∙ ap (λ bytes. rest_of (cut limit (take c.delivered bytes))) (sym same);
        machine = subst (λ bytes. AlikeBut (sub_machine subscriber)
            (hear_cut (cut limit (take c.delivered bytes)) (opened peer.machine)).machine) (sym same) linked.machine;
        checked_is = linked.checked_is;
        hears = record {
          checked_is = linked.hears.checked_is;
          phase_is = linked.hears.phase_is;
          started = linked.hears.started;
          asked = linked.hears.asked;
          statuses = linked.hears.statuses;
          held = linked.hears.held;
        };
        speaks = speaks_longer source more peer.position link c.moves c.delivered connected.there c.start
            connected.started linked.speaks;
        slot = linked.slot;
      }

  at_longer : (slots : List Slot) (link : Option Link) (subscriber : Subscriber) (peer : w.Peer)
      (connection : Option Connection) → IsConnectedAt source peer connection
      → IsAt source slots link subscriber peer connection
      → IsAt (with_more source more) slots link subscriber peer connection
  at_longer slots None subscriber peer None good at = record { machine = at.machine; slot = at.slot }
  at_longer slots (Some link) subscriber peer (Some c) good at =
      linked_longer slots link subscriber peer good.0 c good.1 at
  at_longer slots None subscriber peer (Some c) good at = absurd at
  at_longer slots (Some link) subscriber peer None good at = absurd at

  pub is_longer : (slots : List Slot) (code : PeerOf) (peer : w.Peer) → IsGood source peer
      → PeerIs source slots code peer
      → PeerIs (with_more source more) slots code peer
  is_longer slots code peer good is =
      record {
        named = is.named;
        at =
            at_longer slots code.link code.subscriber peer peer.connection good.connected is.at;
      }
