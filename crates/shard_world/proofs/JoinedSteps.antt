-- A subscriber connects, sends its position, and is sent commits and keepalives as in the world.
use Rattle.std.proofs.Common.{◌≡◌, ℕ, ◌≤◌, Bool, true, false, List, [], ◌∷◌, ◌++◌, drop, length, map, take, refl, sym, ap, subst, ◌∙◌, arith, length-append}
use Rattle.std.specs.Prelude.{Option, Some, None, Result, Ok, Err, nat_lt, slice_get}
use Rattle.std.specs.List.{flat_map}
use Rattle.std.proofs.lemmas.Bool.{ltb-true}
use Rattle.std.proofs.lemmas.Grind.{flat_map-append}
use Rattle.std.proofs.lemmas.List.{append-nil, take-append-le, drop-append-le}
use Rattle.std.proofs.lemmas.List.Elements.{All-nil, All-cons, All-append}
use mathlib.Core.List.{map-append}
use Rattle.tables_log.specs.Commits.{CommitOf}
use Rattle.tables_log.specs.declared.slots.Slot.{Slot}
use Rattle.pgoutput_msgs.specs.Telling.{messages_for}
use Rattle.pgoutput_msgs.specs.declared.message.Msg.{Msg}
use Rattle.copy_frames.specs.Frames.{cut, rest_of}
use Rattle.copy_frames.specs.declared.status.Status.{Status}
use Rattle.copy_both.specs.Ears.{IsSameEar}
use Rattle.copy_both.specs.LinkLaws as links
use Rattle.copy_both.specs.LinkLaws.{IsStreaming, with_moves}
use Rattle.copy_both.specs.Links.{LinkSays, link_checked, link_ear, link_output, link_stage, found_answer, next_answer, next_bytes, next_stage}
use Rattle.copy_both.specs.Streams as s
use Rattle.copy_both.specs.Streams.{spelled, Move, state_at, moved, taken_state}
use Rattle.copy_both.specs.Tellings.{telling_of}
use Rattle.copy_both.specs.Voices.{keep_answer, kept_bytes, taken_of}
use Rattle.copy_both.specs.declared.link.Link.{Link}
use Rattle.copy_both.specs.declared.taken.Taken.{Taken}
use Rattle.copy_both.specs.declared.taken.Taken.TheVariants as taken
use Rattle.copy_both.proofs.LinkStreams.{keeps_on, takes_on}
use Rattle.test_subscriber.specs.Feeding.{limit}
use Rattle.test_subscriber.specs.Frames.{hear_cut}
use Rattle.test_subscriber.specs.Machine.{opened}
use Rattle.test_subscriber.specs.StartQuery.{start_query, query, query_of, Asks}
use Rattle.test_subscriber.specs.Subscribers.{sub_machine, sub_output, sub_publications, sub_slot, status_at, SameNames}
use Rattle.test_subscriber.specs.declared.fault.SubFault.{SubFault}
use Rattle.test_subscriber.specs.declared.subscriber.Subscriber.{Subscriber}
use Rattle.shard_world.specs.Connections.{OpensStep, TakesStep, KeepsStep, ReportsStep, answer_of, kept_or_not}
use Rattle.shard_world.specs.Joined.{PeerOf, AlikeBut, StaysAlike, IsNamed, IsSilent, IsOneStatus, Hears, IsLinked, IsAt, PeerIs, SendsStream, run_of}
use Rattle.shard_world.specs.PeerSteps.{Case, IsCase, peer_of, StepsPeerTo, source_of}
use Rattle.shard_world.specs.World as w
use Rattle.shard_world.specs.World.{Answer, Opened, Reported, Connection, PeerEvent, start_of, spelled_up, with_connection, moves_on, stream_state, position_now, down_items, down_bytes, took, keep_step, take_step, peer_step, up_bytes, down_of, log_in}
use Rattle.shard_world.proofs.CaseLemmas.{case_asks, case_good, case_follows, opened_small, Open, is_shut, is_open}
use Rattle.copy_both.proofs.StreamLemmas.{moved_append}
use Rattle.stream_laws.proofs.CuttingLemmas.{cut_nothing}
use Rattle.shard_world.proofs.WorldPeers.{grows}
use Rattle.filter_tree.proofs.Tests.{by_test}

pub ok_of : {A E : Type 0} (one other : A) → ◌≡◌ {A = Result A E} (Ok one) (Ok other) → one ≡ other
ok_of one other e = cc

-- a step on a connection of this kind, and what it leaves
pub steps_to : (case : Case) (event : PeerEvent) (answer : Answer) (slots : List Slot) (code : PeerOf)
    (connection : Option Connection) → (peer_of case).connection ≡ connection
    → answer ≡ (peer_step (source_of case) case.now event (peer_of case) connection).0
    → PeerIs (source_of case) slots code (peer_step (source_of case) case.now event (peer_of case) connection).1
    → StepsPeerTo case event answer slots code
steps_to case event answer slots code connection is answer_is peer_is = record {
  answer_is = answer_is ∙ ap (λ its. (peer_step (source_of case) case.now event (peer_of case) its).0) (sym is);
  peer_is = subst (λ its. PeerIs (source_of case) slots code
      (peer_step (source_of case) case.now event (peer_of case) its).1) (sym is) peer_is;
}

pub still_named : (case : Case) (before after : Subscriber) → IsNamed case.checked case.number before
    → SameNames before after → IsNamed case.checked case.number after
still_named case before after named same =
    record { slot = same.slot ∙ named.slot; publications = same.publications ∙ named.publications }

-- ---- open

-- the command fits a frame
query_fits : (text : List ℕ) → length text ≤ 65531 → query_of text ≡ Ok (query text)
query_fits text fits = by_test (nat_lt 65531 (length text))
    (λ long. absurd (omega (arith, fits, ltb-true 65531 (length text) long)))
    (λ short. rw short refl)

pub asked_bytes : (case : Case) → IsCase case → (before : Subscriber) → IsNamed case.checked case.number before
    → StaysAlike (sub_machine before) (peer_of case).machine
    → start_query (sub_slot before) (sub_publications before) (sub_machine before).position
    ≡ Ok (spelled_up case.checked case.number (w.Asks (peer_of case).position))
asked_bytes case is before named stays =
    let at : (sub_machine before).position ≡ (peer_of case).position = stays.position
    ∙ (case_good case is).follows.position_is in
    ap (λ slot. start_query slot (sub_publications before) (sub_machine before).position) named.slot
    ∙ ap (λ names. start_query (w.subscription_name (slice_get case.checked.catalog.subscriptions case.number)) names
    (sub_machine before).position) named.publications
    ∙ ap (λ position. query_of (start_of case.checked.catalog case.number position)) at
    ∙ query_fits (start_of case.checked.catalog case.number (peer_of case).position)
    ((case_asks case is).fits (peer_of case).position (opened_small case is))

asks_ok : (answer : Result (List ℕ) SubFault) (bytes old new : List ℕ) → answer ≡ Ok bytes → Asks answer old new
    → new ≡ old ++ bytes
asks_ok (Ok found) bytes old new e asks = asks ∙ ap (λ more. old ++ more) (ok_of found bytes e)
asks_ok (Err fault) bytes old new e asks = absurd asks

pub opens : OpensStep
opens case is slots old link after stands none new opened_is =
    let shut = is_shut case slots old stands none in
    let apart = shut.is_apart in
    steps_to case w.Open Opened slots (record { link = Some link; subscriber = after }) None shut.none refl (record {
      named = still_named case old.subscriber after stands.named opened_is.names;
      at = record {
        heard = omega arith;
        delivered = omega arith;
        sends = asks_ok _ (spelled_up case.checked case.number (w.Asks (peer_of case).position)) [] (sub_output after)
            (asked_bytes case is old.subscriber stands.named apart.machine) opened_is.output
            ∙ sym (append-nil (spelled_up case.checked case.number (w.Asks (peer_of case).position)));
        held = opened_is.held ∙ sym (ap rest_of (cut_nothing limit));
        machine = subst (λ all. AlikeBut (sub_machine after) (hear_cut all (opened (peer_of case).machine)).machine)
            (sym (cut_nothing limit)) (record {
              phase = opened_is.machine.phase;
              position = opened_is.machine.position ∙ apart.machine.position;
              kept = λ oid. opened_is.machine.kept oid ∙ apart.machine.kept oid;
              known = λ oid. opened_is.machine.known oid;
              rows = λ oid key. opened_is.machine.rows oid key ∙ apart.machine.rows oid key;
              work = λ oid key. opened_is.machine.work oid key ∙ apart.machine.rows oid key;
            });
        checked_is = new.checked_is;
        hears = record {
          checked_is = new.heard_by;
          phase_is = new.phase_is;
          started = new.started;
          asked = omega arith;
          statuses = All-nil IsOneStatus;
          held = new.held ∙ sym (ap rest_of (cut_nothing 65536));
        };
        speaks = record { stage_is = new.stage_is; output = new.output; none = refl };
        slot = apart.slot;
      };
    })

-- ---- report

-- what a status adds to what is sent
ups_more : (case : Case) (c : Connection) (status : Status)
    → up_bytes (source_of case) (peer_of case) (record c { reports = c.reports ++ status ∷ [] })
    ≡ up_bytes (source_of case) (peer_of case) c ++ spelled_up case.checked case.number (w.Says status)
ups_more case c status =
    ap (λ ups. flat_map (spelled_up case.checked case.number) (w.Asks (peer_of case).position ∷ ups))
    (map-append w.Says c.reports (status ∷ []))
    ∙ flat_map-append (spelled_up case.checked case.number) (w.Asks (peer_of case).position ∷ map w.Says c.reports)
    (w.Says status ∷ [])
    ∙ ap (λ more. up_bytes (source_of case) (peer_of case) c ++ more)
    (append-nil (spelled_up case.checked case.number (w.Says status)))

pub reports : ReportsStep
reports case is slots old link after want stands some reported_is =
    let here = is_open case slots old link stands some in
    let linked = here.linked in
    let c = here.c in
    let at : (sub_machine old.subscriber).position ≡ position_now (source_of case) (peer_of case) =
    linked.machine.position
    ∙ ap (λ connection. (w.connection_machine (source_of case) (peer_of case) connection).position) (sym here.some)
    ∙ (case_follows case is).position_is in
    let status : Status = status_at (position_now (source_of case) (peer_of case)) case.now want in
    let more = ups_more case c status in
    steps_to case (w.Report want) Reported slots (record { link = old.link; subscriber = after }) (Some c) here.some
    refl (record {
      named = still_named case old.subscriber after stands.named reported_is.names;
      at = subst (λ its. IsAt (source_of case) slots its after
          (with_connection (peer_of case) (record c { reports = c.reports ++ status ∷ [] }))
          (Some (record c { reports = c.reports ++ status ∷ [] }))) (sym some) (record {
            heard = subst (λ bytes. c.heard ≤ length bytes) (sym more)
                (omega (
                  arith,
                  linked.heard,
                  length-append (up_bytes (source_of case) (peer_of case) c)
                      (spelled_up case.checked case.number (w.Says status)),
                ));
            delivered = linked.delivered;
            sends = reported_is.output
                ∙ ap (λ position. sub_output old.subscriber
                ++ spelled_up case.checked case.number (w.Says (status_at position case.now want))) at
                ∙ ap (λ bytes. bytes ++ spelled_up case.checked case.number (w.Says status)) linked.sends
                ∙ sym (drop-append-le c.heard (up_bytes (source_of case) (peer_of case) c)
                (spelled_up case.checked case.number (w.Says status)) linked.heard)
                ∙ ap (drop c.heard) (sym more);
            held = reported_is.held ∙ linked.held;
            machine = record {
              phase = reported_is.machine.phase ∙ linked.machine.phase;
              position = reported_is.machine.position ∙ linked.machine.position;
              kept = λ oid. reported_is.machine.kept oid ∙ linked.machine.kept oid;
              known = λ oid. reported_is.machine.known oid ∙ linked.machine.known oid;
              rows = λ oid key. reported_is.machine.rows oid key ∙ linked.machine.rows oid key;
              work = λ oid key. reported_is.machine.work oid key ∙ linked.machine.work oid key;
            };
            checked_is = linked.checked_is;
            hears = record {
              checked_is = linked.hears.checked_is;
              phase_is = linked.hears.phase_is;
              started = linked.hears.started;
              asked = linked.hears.asked;
              statuses = All-append IsOneStatus c.reports (status ∷ []) linked.hears.statuses
                  (All-cons IsOneStatus status [] (record { written = refl; applied = refl; timed = is.timed })
                  (All-nil IsOneStatus));
              held = linked.hears.held
                  ∙ ap (λ bytes. rest_of (cut 65536 bytes))
                  (sym (ap (take c.heard) more
                  ∙ take-append-le c.heard (up_bytes (source_of case) (peer_of case) c)
                  (spelled_up case.checked case.number (w.Says status)) linked.heard));
            };
            speaks = linked.speaks;
            slot = linked.slot;
          });
    })

-- ---- what is sent

-- the stream continues
pub record GrowsBy (before after : List ℕ) : Type 0 where
  pub more : List ℕ
  pub is : after ≡ before ++ more

pub stream_grows : (case : Case) (start : Option ℕ) (moves : List Move) (move : Move)
    → GrowsBy (down_bytes (source_of case) start moves) (down_bytes (source_of case) start (moves ++ move ∷ []))
stream_grows case start moves move =
    let grown = grows (source_of case) start moves move in
    record {
      more = flat_map spelled grown.more;
      is = ap (flat_map spelled) grown.is
          ∙ flat_map-append spelled (down_items (source_of case) start moves) grown.more;
    }

pub same_ear : (case : Case) (c : Connection) (old new : Link) → Hears (source_of case) old (peer_of case) c
    → IsSameEar (link_ear old) (link_ear new)
    → Hears (source_of case) new (peer_of case) c
same_ear case c old new hears same = record {
  checked_is = same.checked ∙ hears.checked_is;
  phase_is = same.phase_is ∙ hears.phase_is;
  started = same.started ∙ hears.started;
  asked = hears.asked;
  statuses = hears.statuses;
  held = same.held ∙ hears.held;
}

-- one more move, and a subscriber that was fed nothing
moves_linked : (case : Case) (slots : List Slot) (old new : Link) (subscriber : Subscriber) (c : Connection)
    (move : Move) (start : ℕ) → c.start ≡ Some start
    → IsLinked (source_of case) slots old subscriber (peer_of case) c
    → IsSameEar (link_ear old) (link_ear new) → link_checked new ≡ case.checked
    → SendsStream (source_of case) new (c.moves ++ move ∷ []) c.delivered (Some start)
    → IsLinked (source_of case) slots new subscriber (moves_on (peer_of case) c move)
    (record c { moves = c.moves ++ move ∷ [] })
moves_linked case slots old new subscriber c move start at linked same checked_is speaks =
    let grown = stream_grows case c.start c.moves move in
    let first : take c.delivered (down_bytes (source_of case) c.start (c.moves ++ move ∷ []))
    ≡ take c.delivered (down_of (source_of case) c) =
    ap (take c.delivered) grown.is
    ∙ take-append-le c.delivered (down_of (source_of case) c) grown.more linked.delivered in
    record {
      heard = linked.heard;
      delivered = subst (λ bytes. c.delivered ≤ length bytes) (sym grown.is)
          (omega (arith, linked.delivered, length-append (down_of (source_of case) c) grown.more));
      sends = linked.sends;
      held = linked.held ∙ ap (λ bytes. rest_of (cut limit bytes)) (sym first);
      machine = subst (λ bytes. AlikeBut (sub_machine subscriber)
          (hear_cut (cut limit bytes) (opened (peer_of case).machine)).machine) (sym first) linked.machine;
      checked_is = checked_is;
      hears = record {
        checked_is = same.checked ∙ linked.hears.checked_is;
        phase_is = same.phase_is ∙ linked.hears.phase_is;
        started = same.started ∙ linked.hears.started;
        asked = linked.hears.asked;
        statuses = linked.hears.statuses;
        held = same.held ∙ linked.hears.held;
      };
      speaks = subst (SendsStream (source_of case) new (c.moves ++ move ∷ []) c.delivered) (sym at) speaks;
      slot = linked.slot;
    }

-- ---- keepalives

run_more : (case : Case) (start : ℕ) (moves : List Move) (delivered : ℕ) (move : Move)
    → delivered ≤ length (down_bytes (source_of case) (Some start) moves)
    → record (run_of (source_of case) start moves delivered) { moves = moves ++ move ∷ [] }
    ≡ run_of (source_of case) start (moves ++ move ∷ []) delivered
run_more case start moves delivered move within =
    let grown = stream_grows case (Some start) moves move in
    ap (λ passed. record (run_of (source_of case) start (moves ++ move ∷ []) delivered) { passed = passed })
    (sym (ap (take delivered) grown.is
    ∙ take-append-le delivered (down_bytes (source_of case) (Some start) moves) grown.more within))

-- where a connection with a start is
pub record Streaming (case : Case) (link : Link) (c : Connection) (start : ℕ) : Type 0 where
  pub at : c.start ≡ Some start
  pub within : c.delivered ≤ length (down_bytes (source_of case) (Some start) c.moves)
  pub streams : IsStreaming link (run_of (source_of case) start c.moves c.delivered)
      (stream_state (source_of case) start c.moves)

streaming : (case : Case) (slots : List Slot) (link : Link) (subscriber : Subscriber) (c : Connection) (start : ℕ)
    → c.start ≡ Some start
    → IsLinked (source_of case) slots link subscriber (peer_of case) c → Streaming case link c start
streaming case slots link subscriber c start at linked = record {
  at = at;
  within = subst (λ its. c.delivered ≤ length (down_bytes (source_of case) its c.moves)) at linked.delivered;
  streams = subst (SendsStream (source_of case) link c.moves c.delivered) at linked.speaks;
}

-- the subscriber of a program whose end of the connection moved
abbrev pub with_link : PeerOf → Link → PeerOf
with_link code link = record code { link = Some link }

moved_peer : (case : Case) (slots : List Slot) (old : PeerOf) (link new : Link) (c : Connection) (move : Move)
    (start : ℕ) → IsNamed case.checked case.number old.subscriber → c.start ≡ Some start
    → IsLinked (source_of case) slots link old.subscriber (peer_of case) c → IsSameEar (link_ear link) (link_ear new)
    → link_checked new ≡ case.checked
    → IsStreaming new (record (run_of (source_of case) start c.moves c.delivered) { moves = c.moves ++ move ∷ [] })
    (stream_state (source_of case) start (c.moves ++ move ∷ []))
    → PeerIs (source_of case) slots (with_link old new) (moves_on (peer_of case) c move)
moved_peer case slots old link new c move start named at linked same checked_is streams = record {
  named = named;
  at = moves_linked case slots link new old.subscriber c move start at linked same checked_is
      (subst (λ run. IsStreaming new run (stream_state (source_of case) start (c.moves ++ move ∷ [])))
      (run_more case start c.moves c.delivered move
      (streaming case slots link old.subscriber c start at linked).within) streams);
}

still_linked : (case : Case) (slots : List Slot) (link new : Link) (subscriber : Subscriber) (c : Connection)
    → IsLinked (source_of case) slots link subscriber (peer_of case) c
    → IsSameEar (link_ear link) (link_ear new) → link_checked new ≡ case.checked
    → SendsStream (source_of case) new c.moves c.delivered c.start
    → IsLinked (source_of case) slots new subscriber (peer_of case) c
still_linked case slots link new subscriber c linked same checked_is speaks = record {
  heard = linked.heard;
  delivered = linked.delivered;
  sends = linked.sends;
  held = linked.held;
  machine = linked.machine;
  checked_is = checked_is;
  hears = same_ear case c link new linked.hears same;
  speaks = speaks;
  slot = linked.slot;
}

keeps_by : (case : Case) (slots : List Slot) (old : PeerOf) (link new : Link) (c : Connection) (want : Bool)
    (start : Option ℕ) → IsNamed case.checked case.number old.subscriber
    → (peer_of case).connection ≡ Some c → c.start ≡ start
    → IsLinked (source_of case) slots link old.subscriber (peer_of case) c
    → LinkSays link new (kept_bytes (link_stage link) case.now want) (link_stage link) → (said : Bool)
    → Ok said ≡ keep_answer (link_stage link)
    → StepsPeerTo case (w.Keep want) (kept_or_not said) slots (with_link old new)
keeps_by case slots old link new c want None named some at linked says said answer =
    let silent : IsSilent link c.moves =
    subst (SendsStream (source_of case) link c.moves c.delivered) at linked.speaks in
    let not : said ≡ false = ok_of said false (answer ∙ ap keep_answer silent.stage_is) in
    let nothing : kept_bytes (link_stage link) case.now want ≡ [] =
    ap (λ stage. kept_bytes stage case.now want) silent.stage_is in
    steps_to case (w.Keep want) (kept_or_not said) slots (with_link old new) (Some c) some
    (ap kept_or_not not ∙ sym (ap (λ its. (keep_step case.now want (peer_of case) c its).0) at))
    (subst (λ its. PeerIs (source_of case) slots (with_link old new) (keep_step case.now want (peer_of case) c its).1)
    (sym at) (record {
      named = named;
      at = subst (IsAt (source_of case) slots (Some new) old.subscriber (peer_of case)) (sym some)
          (still_linked case slots link new old.subscriber c linked says.ear (says.voice.checked ∙ linked.checked_is)
          (subst (SendsStream (source_of case) new c.moves c.delivered) (sym at) (record {
            stage_is = says.voice.stage_is ∙ silent.stage_is;
            output = says.voice.output ∙ ap (λ bytes. link_output link ++ bytes) nothing
                ∙ append-nil (link_output link) ∙ silent.output;
            none = silent.none;
          })));
    }))
keeps_by case slots old link new c want (Some start) named some at linked says said answer =
    let streams = streaming case slots link old.subscriber c start at linked in
    let does : said ≡ true = ok_of said true (answer ∙ ap keep_answer streams.streams.stage_is) in
    steps_to case (w.Keep want) (kept_or_not said) slots (with_link old new) (Some c) some
    (ap kept_or_not does ∙ sym (ap (λ its. (keep_step case.now want (peer_of case) c its).0) at))
    (subst (λ its. PeerIs (source_of case) slots (with_link old new) (keep_step case.now want (peer_of case) c its).1)
    (sym at)
    (moved_peer case slots old link new c (s.Keep case.now want) start named at linked says.ear
    (says.voice.checked ∙ linked.checked_is)
    (subst (IsStreaming new _)
    (sym (moved_append (telling_of case.checked) (log_in (source_of case))
    (state_at case.number (length case.checked.catalog.tables) start) c.moves (s.Keep case.now want)))
    (keeps_on link new (run_of (source_of case) start c.moves c.delivered) (stream_state (source_of case) start c.moves)
    case.now want streams.streams says))))

pub keeps : KeepsStep
keeps case slots old link new want stands some says said answer =
    let here = is_open case slots old link stands some in
    keeps_by case slots old link new here.c want here.c.start stands.named here.some refl here.linked says said answer

-- ---- commits

took_is : (number : ℕ) (messages : List Msg)
    → answer_of (taken_of number messages) ≡ took number messages
took_is number [] = refl
took_is number (message ∷ messages) = refl

takes_by : (case : Case) (slots : List Slot) (old : PeerOf) (link new : Link) (c : Connection) (start : ℕ)
    → IsNamed case.checked case.number old.subscriber
    → (peer_of case).connection ≡ Some c → c.start ≡ Some start
    → IsLinked (source_of case) slots link old.subscriber (peer_of case) c
    → LinkSays link new (next_bytes (link_checked link) (link_stage link) (log_in (source_of case)) case.now)
    (next_stage (link_checked link) (link_stage link) (log_in (source_of case)) case.now)
    → (found : Taken) → Ok found ≡ next_answer (link_checked link) (link_stage link) (log_in (source_of case))
    → (next : Option CommitOf)
    → slice_get (log_in (source_of case)) (stream_state (source_of case) start c.moves).done ≡ next
    → StepsPeerTo case w.Take (answer_of found) slots (with_link old new)
takes_by case slots old link new c start named some at linked says found answer next is =
    let log = log_in (source_of case) in
    let state = stream_state (source_of case) start c.moves in
    let streams = streaming case slots link old.subscriber c start at linked in
    let goes = takes_on link new (run_of (source_of case) start c.moves c.delivered) state case.now streams.streams
    says in
    let told : Ok found ≡ found_answer case.checked state next =
    answer ∙ ap (λ checked. next_answer checked (link_stage link) log) linked.checked_is
    ∙ ap (λ stage. next_answer case.checked stage log) streams.streams.stage_is
    ∙ ap (found_answer case.checked state) is in
    steps_to case w.Take (answer_of found) slots (with_link old new) (Some c) some
    (answered next told ∙ sym
    (ap (λ its. (take_step (source_of case) case.now (peer_of case) c its).0) at
    ∙ ap (λ its. (w.take_commit case.checked case.now (peer_of case) c state its).0) is))
    (subst (λ its. PeerIs (source_of case) slots (with_link old new)
    (take_step (source_of case) case.now (peer_of case) c its).1) (sym at)
    (subst (λ its. PeerIs (source_of case) slots (with_link old new)
    (w.take_commit case.checked case.now (peer_of case) c state its).1) (sym is)
    (left next is goes)))
  where
    answered : (its : Option CommitOf)
        → Ok found ≡ found_answer case.checked (stream_state (source_of case) start c.moves) its
        → answer_of found
        ≡ (w.take_commit case.checked case.now (peer_of case) c (stream_state (source_of case) start c.moves)
        its).0
    answered None e = ap answer_of (ok_of found taken.Idle e)
    answered (Some commit) e =
        let state = stream_state (source_of case) start c.moves in
        ap answer_of (ok_of found
        (taken_of commit.number (messages_for case.checked state.slot state.relation_sent commit)) e)
        ∙ took_is commit.number (messages_for case.checked state.slot state.relation_sent commit)

    left : (its : Option CommitOf)
        → slice_get (log_in (source_of case)) (stream_state (source_of case) start c.moves).done ≡ its
        → IsStreaming new (with_moves (run_of (source_of case) start c.moves c.delivered)
        (links.take_moves (slice_get (log_in (source_of case)) (stream_state (source_of case) start c.moves).done)
        case.now))
        (moved (telling_of case.checked) (log_in (source_of case)) (stream_state (source_of case) start c.moves)
        (s.Take case.now))
        → PeerIs (source_of case) slots (with_link old new)
        (w.take_commit case.checked case.now (peer_of case) c (stream_state (source_of case) start c.moves) its).1
    left None e goes = record {
      named = named;
      at = subst (IsAt (source_of case) slots (Some new) old.subscriber (peer_of case)) (sym some)
          (still_linked case slots link new old.subscriber c linked says.ear (says.voice.checked ∙ linked.checked_is)
          (subst (SendsStream (source_of case) new c.moves c.delivered) (sym at)
          (subst (λ moves. IsStreaming new
          (record (run_of (source_of case) start c.moves c.delivered) { moves = moves })
          (stream_state (source_of case) start c.moves)) (append-nil c.moves)
          (subst (λ found. IsStreaming new
          (with_moves (run_of (source_of case) start c.moves c.delivered) (links.take_moves found case.now))
          (taken_state (telling_of case.checked) (stream_state (source_of case) start c.moves) found)) e goes))));
    }
    left (Some commit) e goes =
        moved_peer case slots old link new c (s.Take case.now) start named at linked says.ear
        (says.voice.checked ∙ linked.checked_is)
        (subst (IsStreaming new _)
        (sym (moved_append (telling_of case.checked) (log_in (source_of case))
        (state_at case.number (length case.checked.catalog.tables) start) c.moves (s.Take case.now)))
        (subst (λ found. IsStreaming new
        (with_moves (run_of (source_of case) start c.moves c.delivered) (links.take_moves found case.now))
        (moved (telling_of case.checked) (log_in (source_of case)) (stream_state (source_of case) start c.moves)
        (s.Take case.now))) e goes))

takes_before : (case : Case) (slots : List Slot) (old : PeerOf) (link new : Link) (c : Connection)
    → IsNamed case.checked case.number old.subscriber
    → (peer_of case).connection ≡ Some c → c.start ≡ None
    → IsLinked (source_of case) slots link old.subscriber (peer_of case) c
    → LinkSays link new (next_bytes (link_checked link) (link_stage link) (log_in (source_of case)) case.now)
    (next_stage (link_checked link) (link_stage link) (log_in (source_of case)) case.now)
    → (found : Taken) → Ok found ≡ next_answer (link_checked link) (link_stage link) (log_in (source_of case))
    → StepsPeerTo case w.Take (answer_of found) slots (with_link old new)
takes_before case slots old link new c named some at linked says found answer =
    let log = log_in (source_of case) in
    let silent : IsSilent link c.moves =
    subst (SendsStream (source_of case) link c.moves c.delivered) at linked.speaks in
    steps_to case w.Take (answer_of found) slots (with_link old new) (Some c) some
    (ap answer_of (ok_of found taken.NotStarted
    (answer ∙ ap (λ stage. next_answer (link_checked link) stage log) silent.stage_is))
    ∙ sym (ap (λ its. (take_step (source_of case) case.now (peer_of case) c its).0) at))
    (subst (λ its. PeerIs (source_of case) slots (with_link old new)
    (take_step (source_of case) case.now (peer_of case) c its).1) (sym at) (record {
      named = named;
      at = subst (IsAt (source_of case) slots (Some new) old.subscriber (peer_of case)) (sym some)
          (still_linked case slots link new old.subscriber c linked says.ear (says.voice.checked ∙ linked.checked_is)
          (subst (SendsStream (source_of case) new c.moves c.delivered) (sym at) (record {
            stage_is = says.voice.stage_is
                ∙ ap (λ stage. next_stage (link_checked link) stage log case.now) silent.stage_is;
            output = says.voice.output
                ∙ ap (λ stage. link_output link ++ next_bytes (link_checked link) stage log case.now) silent.stage_is
                ∙ append-nil (link_output link) ∙ silent.output;
            none = silent.none;
          })));
    }))

pub takes : TakesStep
takes case slots old link new stands some says found answer =
    let here = is_open case slots old link stands some in by_start here here.c.start refl
  where
    by_start : (here : Open case slots link old.subscriber) → (start : Option ℕ) → here.c.start ≡ start
        → StepsPeerTo case w.Take (answer_of found) slots (with_link old new)
    by_start here None e =
        takes_before case slots old link new here.c stands.named here.some e here.linked says found answer
    by_start here (Some start) e =
        takes_by case slots old link new here.c start stands.named here.some e here.linked says found answer _ refl
