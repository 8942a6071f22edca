-- What the calls on a connection return is not a fault.
use Rattle.std.proofs.Common.{◌≡◌, ◌≢◌, ℕ, true, false, List, take, refl, sym, ap, subst, ◌∙◌}
use Rattle.std.specs.Prelude.{Option, Some, None, Result, slice_get}
use Rattle.filter_tree.specs.Memory.{TellsFault}
use Rattle.tables_log.specs.BookView.{book_slots}
use Rattle.tables_log.specs.Commits.{CommitOf}
use Rattle.tables_log.specs.declared.slots.Slot.{Slot}
use Rattle.copy_frames.specs.Frames.{cut}
use Rattle.copy_both.specs.Ears.{answer_in}
use Rattle.copy_both.specs.Hearing.{answer_of, reported_heard}
use Rattle.copy_both.specs.Links.{found_answer, link_heard, link_stage, next_answer}
use Rattle.copy_both.specs.Streams.{StreamStateOf}
use Rattle.pgoutput_msgs.specs.Telling.{messages_for}
use Rattle.copy_both.specs.Voices.{keep_answer, taken_of, reported_fault}
use Rattle.copy_both.specs.declared.link.Link.{Link}
use Rattle.copy_both.specs.declared.link_fault.LinkFault.{LinkFault}
use Rattle.copy_both.specs.declared.link_fault.LinkFault.TheVariants as fault
use Rattle.copy_both.specs.declared.taken.Taken.TheVariants as taken
use Rattle.test_subscriber.specs.Feeding.{limit}
use Rattle.test_subscriber.specs.Machine.{opened}
use Rattle.test_subscriber.specs.Subscribers.{status_answer, sub_machine}
use Rattle.test_subscriber.specs.declared.phase.Phase.{Phase}
use Rattle.test_subscriber.specs.declared.phase.Phase.TheVariants.{Shut, Waiting, Idle, Busy}
use Rattle.test_subscriber.specs.declared.subscriber.Subscriber.{Subscriber}
use Rattle.test_subscriber.proofs.FeedingLemmas.{IsOpen, cut_open}
use Rattle.shard_world.specs.Joined.{IsLinked, PeerOf, SendsStream}
use Rattle.shard_world.specs.PeerSteps.{Case, MatchesPeer, peer_of, source_of}
use Rattle.shard_world.specs.Refusals.{IsAnswered, HearsAreAnswered, KeepsAreAnswered, OpensAreAnswered, ReportsAreAnswered, TakesAreAnswered}
use Rattle.shard_world.specs.World as w
use Rattle.shard_world.specs.World.{Connection, stream_state, spelled_up, down_of, log_in}
use Rattle.shard_world.proofs.CaseLemmas.{is_open, is_shut}
use Rattle.shard_world.proofs.JoinedPieces.{commits, connection, heard_all, heard_before, heard_is, linked, more, piece, start_view}
use Rattle.shard_world.proofs.HeardStreams.{not_over}
use Rattle.shard_world.proofs.JoinedHearing.{heard_after}
use Rattle.shard_world.proofs.JoinedSteps.{asked_bytes}

-- ---- open, keep

pub opens_are_answered : OpensAreAnswered
opens_are_answered case is slots old stands none =
    let shut = is_shut case slots old stands none in
    record {
      value = spelled_up case.checked case.number (w.Asks (peer_of case).position);
      is =
          asked_bytes case is old.subscriber stands.named shut.is_apart.machine;
    }

pub keeps_are_answered : KeepsAreAnswered
keeps_are_answered case slots old link stands some =
    let here = is_open case slots old link stands some in by_start here.c here.c.start here.linked.speaks
  where
    by_start : (c : Connection) (start : Option ℕ) → SendsStream (source_of case) link c.moves c.delivered start
        → IsAnswered (keep_answer (link_stage link))
    by_start c None silent = record { value = false; is = ap keep_answer silent.stage_is }
    by_start c (Some start) streams = record { value = true; is = ap keep_answer streams.stage_is }

-- ---- take

pub takes_are_answered : TakesAreAnswered
takes_are_answered case is slots old link stands some =
    let here = is_open case slots old link stands some in
    subst (λ checked. IsAnswered (next_answer checked (link_stage link) (log_in (source_of case))))
    (sym here.linked.checked_is)
    (by_start here.c here.c.start here.linked.speaks)
  where
    found : (state : StreamStateOf) (its : Option CommitOf) → slice_get (log_in (source_of case)) state.done ≡ its
        → IsAnswered (found_answer case.checked state its)
    found state None e = record { value = taken.Idle; is = refl }
    found state (Some commit) e =
        record {
          value = taken_of commit.number (messages_for case.checked state.slot state.relation_sent commit);
          is = refl;
        }

    by_start : (c : Connection) (start : Option ℕ) → SendsStream (source_of case) link c.moves c.delivered start
        → IsAnswered (next_answer case.checked (link_stage link) (log_in (source_of case)))
    by_start c None silent =
        record {
          value = taken.NotStarted;
          is =
              ap (λ stage. next_answer case.checked stage (log_in (source_of case))) silent.stage_is;
        }
    by_start c (Some start) streams =
        let state = stream_state (source_of case) start c.moves in
        subst (λ stage. IsAnswered (next_answer case.checked stage (log_in (source_of case)))) (sym streams.stage_is)
        (found state (slice_get (log_in (source_of case)) state.done) refl)

-- ---- report

-- there is a connection
pub linked_open : (case : Case) (slots : List Slot) (link : Link) (subscriber : Subscriber) (c : Connection)
    → IsLinked (source_of case) slots link subscriber (peer_of case) c
    → IsOpen (sub_machine subscriber).phase
linked_open case slots link subscriber c linked =
    subst IsOpen (sym linked.machine.phase)
    (cut_open (cut limit (take c.delivered (down_of (source_of case) c))) (opened (peer_of case).machine) tt)

status_answered : (phase : Phase) → IsOpen phase → IsAnswered (status_answer phase)
status_answered Shut opens = absurd opens
status_answered Waiting opens = record { value = tt; is = refl }
status_answered Idle opens = record { value = tt; is = refl }
status_answered (Busy begin) opens = record { value = tt; is = refl }

pub reports_are_answered : ReportsAreAnswered
reports_are_answered case slots old link stands some =
    let here = is_open case slots old link stands some in
    status_answered (sub_machine old.subscriber).phase
    (linked_open case slots link old.subscriber here.c here.linked)

pub not_shut : (case : Case) (slots : List Slot) (old : PeerOf) (link : Link) → MatchesPeer case slots old
    → old.link ≡ Some link → (sub_machine old.subscriber).phase ≢ Shut
not_shut case slots old link stands some shut =
    let here = is_open case slots old link stands some in
    subst IsOpen shut (linked_open case slots link old.subscriber here.c here.linked)

-- ---- hear

pub hears_are_answered : HearsAreAnswered
hears_are_answered case is book old link count log stands some =
    let all = heard_all case is book book old link count log stands some in
    let at = is_open case (book_slots book) old link stands some in
    let known = heard_after case is (connection case is book book old link count log stands some)
    (commits case is book book old link count log stands some)
    (start_view case is book book old link count log stands some)
    (heard_before case is book book old link count log stands some)
    (more case is book book old link count log stands some) in
    record {
      value = reported_heard all.heard;
      is = ap (λ phase. answer_in phase
          (link_heard link book (piece case is book book old link count log stands some))) at.linked.hears.phase_is
          ∙ ap answer_of (heard_is case is book book old link count log stands some) ∙ not_over all known.hears.goes_on;
    }

-- an error means that memory was refused
pub only_memory : {A : Type 0} (error : LinkFault) (answer : Result A LinkFault)
    → TellsFault (reported_fault error) answer → IsAnswered answer → error ≡ fault.OutOfMemory
only_memory fault.OutOfMemory answer tells good = refl
only_memory fault.FrameTooLong answer tells good = absurd (let e = sym tells ∙ good.is in cc)
only_memory fault.BadLength answer tells good = absurd (let e = sym tells ∙ good.is in cc)
only_memory (fault.Unexpected kind) answer tells good = absurd (let e = sym tells ∙ good.is in cc)
only_memory (fault.BadStart state) answer tells good = absurd (let e = sym tells ∙ good.is in cc)
only_memory fault.StatusAhead answer tells good = absurd (let e = sym tells ∙ good.is in cc)
only_memory fault.Closed answer tells good = absurd (let e = sym tells ∙ good.is in cc)
