-- If memory is refused to a call on a subscriber and its connection, the connection is lost as in the world.
use Rattle.std.proofs.Common.{◌≡◌, ◌≢◌, ℕ, ◌<◌, Bool, true, List, length, refl, sym, ap, subst, ◌∙◌}
use Rattle.std.proofs.Common.{inl, inr}
use Rattle.std.specs.Prelude.{Option, Some, None, Err, is_some, slice_get}
use Rattle.filter_tree.specs.Memory.{TellsFault}
use Rattle.shard_checker.specs.CheckedView.{CheckedOf}
use Rattle.tables_log.specs.BookView.{book_log, book_slots}
use Rattle.tables_log.specs.Committing.{IsKept}
use Rattle.tables_log.specs.declared.book.Book.{Book}
use Rattle.tables_log.specs.declared.slots.Slot.{Slot}
use Rattle.copy_both.specs.Ears.{HearLeaves, ear_phase, hear_answer}
use Rattle.copy_both.specs.Links.{HasNext, LinkCloses, link_checked, link_ear, link_output, link_sent, link_stage, next_answer}
use Rattle.copy_both.specs.Voices.{IsStarted, keep_answer, reported_fault}
use Rattle.copy_both.specs.declared.link.Link.{Link}
use Rattle.copy_both.specs.declared.link_fault.LinkFault.{LinkFault}
use Rattle.copy_both.specs.declared.link_fault.LinkFault.TheVariants as fault
use Rattle.test_subscriber.specs.Subscribers.{FeedStops, Loses, sub_machine, sub_output}
use Rattle.test_subscriber.specs.declared.fault.SubFault.{SubFault}
use Rattle.test_subscriber.specs.declared.phase.Phase.TheVariants.{Shut}
use Rattle.test_subscriber.specs.declared.subscriber.Subscriber.{Subscriber}
use Rattle.shard_world.specs.Connections.{front_of}
use Rattle.shard_world.specs.Joined.{PeerOf, PeerIs, IsAt}
use Rattle.shard_world.specs.PeerCalls.{MakesFromEach, IsStopped, StopsFromEach, LosesIfThere, Drops, MovesFromEach}
use Rattle.shard_world.specs.PeerSteps.{Case, ChangesOwn, Halts, peer_of, source_of}
use Rattle.shard_world.specs.Refusals.{BreaksOn, HaltsOn}
use Rattle.shard_world.specs.World as w
use Rattle.shard_world.specs.World.{Answer, Connection, PeerEvent, Open, Hear, Take, Keep, Deliver, Report, broken, log_in}
use Rattle.shard_world.proofs.CallLemmas.{kept_own}
use Rattle.shard_world.proofs.JoinedSteps.{still_named}
use Rattle.shard_world.proofs.NeedsLemmas.{open_needs, hear_needs, take_needs, keep_needs, deliver_needs, report_needs}
use Rattle.shard_world.proofs.RefusedAnswers.{keeps_are_answered, not_shut, only_memory, takes_are_answered}
use Rattle.shard_world.proofs.RefusedFeeding.{deliver_halts}
use Rattle.shard_world.proofs.RefusedHearing.{hear_halts}
use Rattle.shard_world.proofs.RefusedSteps.{open_stays, open_breaks, take_halts, keep_halts, report_halts, loss_breaks, stays_lost}

-- ---- open

pub open_stays_shut : (checked : CheckedOf) (now : ℕ) (book : Book) (old : PeerOf) → old.link ≡ None
    → StopsFromEach checked now Open book book old old
open_stays_shut checked now book old none case stands = record {
  needed = open_needs case (book_slots book) old stands.peer none;
  stopped = subst (IsStopped case Open book book old) (sym none)
      (record { breaks = open_stays case (book_slots book) old stands.peer none; own = kept_own case.number book });
}

pub open_is_refused : (checked : CheckedOf) (now : ℕ) (book : Book) (old : PeerOf) (after : Subscriber)
    → old.link ≡ None → Loses old.subscriber after
    → StopsFromEach checked now Open book book old (record { link = old.link; subscriber = after })
open_is_refused checked now book old after none loses case stands = record {
  needed = open_needs case (book_slots book) old stands.peer none;
  stopped = subst (λ link. IsStopped case Open book book (record { link = link; subscriber = after }) link) (sym none)
      (record {
        breaks = open_breaks case (book_slots book) old after stands.peer none loses;
        own =
            kept_own case.number book;
      });
}

-- ---- with a connection

halts_so : (case : Case) (event : PeerEvent) (book : Book) (new : PeerOf) → Halts case event (book_slots book) new
    → HaltsOn case event book book new
halts_so case event book new halts = record { halts = halts; own = kept_own case.number book }

pub take_stops : (checked : CheckedOf) (now : ℕ) (book : Book) (old : PeerOf) (link new : Link) (error : LinkFault)
    → old.link ≡ Some link → LinkCloses link new
    → TellsFault (reported_fault error) (next_answer (link_checked link) (link_stage link) (book_log book))
    → (error ≡ fault.OutOfMemory → HasNext (link_stage link) (book_log book))
    → StopsFromEach checked now Take book book old (record { link = Some new; subscriber = old.subscriber })
take_stops checked now book old link new error some closes told memory case stands = record {
  needed =
      let answered = takes_are_answered case stands.is (book_slots book) old link stands.peer some in
      let wanted = memory (only_memory error
      (next_answer (link_checked link) (link_stage link) (log_in (source_of case)))
      (subst (λ log. TellsFault (reported_fault error) (next_answer (link_checked link) (link_stage link) log))
      stands.log.log_is told) answered) in
      take_needs case (book_slots book) old link stands.peer some
      (subst (HasNext (link_stage link)) stands.log.log_is wanted);
  stopped = halts_so case Take book (record { link = Some new; subscriber = old.subscriber })
      (take_halts case (book_slots book) old link new stands.peer some closes);
}

pub keep_stops : (checked : CheckedOf) (now : ℕ) (book : Book) (old : PeerOf) (link new : Link) (want : Bool)
    (error : LinkFault) → old.link ≡ Some link → LinkCloses link new
    → TellsFault (reported_fault error) (keep_answer (link_stage link))
    → (error ≡ fault.OutOfMemory → IsStarted (link_stage link))
    → StopsFromEach checked now (Keep want) book book old (record { link = Some new; subscriber = old.subscriber })
keep_stops checked now book old link new want error some closes told memory case stands = record {
  needed = keep_needs case (book_slots book) old link want stands.peer some
      (memory (only_memory error (keep_answer (link_stage link)) told
      (keeps_are_answered case (book_slots book) old link stands.peer some)));
  stopped = halts_so case (Keep want) book (record { link = Some new; subscriber = old.subscriber })
      (keep_halts case (book_slots book) old link new want stands.peer some closes);
}

pub report_stops : (checked : CheckedOf) (now : ℕ) (book : Book) (old : PeerOf) (link : Link) (after : Subscriber)
    (want : Bool) → old.link ≡ Some link
    → ((sub_machine old.subscriber).phase ≢ Shut → Loses old.subscriber after)
    → StopsFromEach checked now (Report want) book book old (record { link = old.link; subscriber = after })
report_stops checked now book old link after want some loses case stands = record {
  needed = report_needs case (book_slots book) old link want stands.peer some;
  stopped = subst (IsStopped case (Report want) book book (record { link = old.link; subscriber = after })) (sym some)
      (halts_so case (Report want) book (record { link = old.link; subscriber = after })
      (report_halts case (book_slots book) old link after want stands.peer some
      (loses (not_shut case (book_slots book) old link stands.peer some))));
}

pub report_stops_so : (checked : CheckedOf) (now : ℕ) (book : Book) (old : PeerOf) (after : Subscriber) (want : Bool)
    → is_some old.link ≡ true → ((sub_machine old.subscriber).phase ≢ Shut → Loses old.subscriber after)
    → StopsFromEach checked now (Report want) book book old (record { link = old.link; subscriber = after })
report_stops_so checked now book old after want there loses = by_link old.link refl there
  where
    by_link : (link : Option Link) → old.link ≡ link → is_some link ≡ true
        → StopsFromEach checked now (Report want) book book old (record { link = old.link; subscriber = after })
    by_link None is none = absurd cc
    by_link (Some link) is some = report_stops checked now book old link after want is loses

pub hear_stops : (checked : CheckedOf) (now : ℕ) (before after : Book) (old : PeerOf) (link new : Link) (count : ℕ)
    (error : LinkFault) (piece : List ℕ) → old.link ≡ Some link
    → piece ≡ front_of count (sub_output old.subscriber) → 0 < length piece
    → TellsFault (reported_fault error) (hear_answer (link_ear link) before piece (link_sent link))
    → HearLeaves (ear_phase (link_ear link)) (link_ear link) (link_ear new) before after piece (link_sent link)
    (Err error)
    → StopsFromEach checked now (Hear count) before after old (record { link = Some new; subscriber = old.subscriber })
hear_stops checked now before after old link new count error piece some is more told leaves case stands = record {
  needed = hear_needs case (book_slots before) old link count stands.peer some
      (subst (λ p. 0 < length p) is more);
  stopped = hear_halts case stands.is before after old link count stands.log stands.peer some new error
      (subst (λ p. TellsFault (reported_fault error) (hear_answer (link_ear link) before p (link_sent link))) is told)
      (subst (λ p. HearLeaves (ear_phase (link_ear link)) (link_ear link) (link_ear new) before after p
      (link_sent link) (Err error)) is leaves);
}

pub deliver_stops : (checked : CheckedOf) (now : ℕ) (book : Book) (old : PeerOf) (link : Link) (after : Subscriber)
    (count : ℕ) (error : SubFault) (piece : List ℕ) → old.link ≡ Some link
    → piece ≡ front_of count (link_output link) → 0 < length piece → FeedStops old.subscriber piece error after
    → StopsFromEach checked now (Deliver count) book book old (record { link = Some link; subscriber = after })
deliver_stops checked now book old link after count error piece some is more fed case stands = record {
  needed = deliver_needs case (book_slots book) old link count stands.peer some
      (subst (λ p. 0 < length p) is more);
  stopped = halts_so case (Deliver count) book (record { link = Some link; subscriber = after })
      (subst (λ its. Halts case (Deliver count) (book_slots book) (record { link = its; subscriber = after })) some
      (deliver_halts case stands.is (book_slots book) old link after count error stands.peer some
      (subst (λ p. FeedStops old.subscriber p error after) is fed)));
}

-- ---- the connection is dropped

-- a subscriber without a connection loses nothing
module _ (case : Case) (slots : List Slot) (old new : Subscriber) (loses : Loses old new) where
  at_apart : (peer : w.Peer) (connection : Option Connection) → IsAt (source_of case) slots None old peer connection
      → IsAt (source_of case) slots None new peer connection
  at_apart peer None at = record { machine = stays_lost old new peer.machine at.machine loses; slot = at.slot }
  at_apart peer (Some c) at = absurd at

  is_apart : (peer : w.Peer) → PeerIs (source_of case) slots (record { link = None; subscriber = old }) peer
      → PeerIs (source_of case) slots (record { link = None; subscriber = new }) peer
  is_apart peer is = record
      { named = still_named case old new is.named loses.cleared.names; at = at_apart peer peer.connection is.at }

-- what changes, one change after the other
own_then : (number : ℕ) (before between after : Book) → ChangesOwn number before between
    → ChangesOwn number between after → ChangesOwn number before after
own_then number before between after first then = record {
  book = record {
    checked = then.book.checked ∙ first.book.checked;
    limit = then.book.limit ∙ first.book.limit;
    rows = λ table key row. then.book.rows table key row ∙ first.book.rows table key row;
    log = then.book.log ∙ first.book.log;
    slots_are = refl;
  };
  others = λ other apart. then.others other apart ∙ first.others other apart;
}

own_of_kept : (number : ℕ) (before after : Book) → IsKept before after → ChangesOwn number before after
own_of_kept number before after kept = record {
  book = record { checked = kept.checked; limit = kept.limit; rows = kept.rows; log = kept.log; slots_are = refl };
  others = λ other apart. ap (λ slots. slice_get slots other) kept.slots_are;
}

module _ (case : Case) (event : PeerEvent) (before between after : Book) (subscriber : Subscriber) where
  breaks_dropped : (link : Option Link) (old : Subscriber)
      → IsStopped case event before between (record { link = link; subscriber = old }) link → Loses old subscriber
      → LosesIfThere link between after
      → BreaksOn case event before after (record { link = None; subscriber = subscriber })
  breaks_dropped None old stopped loses kept =
      record {
        breaks = record {
          some = stopped.breaks.some;
          peer_is = subst (λ slots. PeerIs (source_of case) slots (record { link = None; subscriber = subscriber })
              (broken (source_of case) case.now event (peer_of case) stopped.breaks.some (peer_of case).connection))
              (sym kept.slots_are)
              (is_apart case (book_slots between) old subscriber loses
              (broken (source_of case) case.now event (peer_of case) stopped.breaks.some (peer_of case).connection)
              stopped.breaks.peer_is);
        };
        own = own_then case.number before between after stopped.own (own_of_kept case.number between after kept);
      }
  breaks_dropped (Some link) old stopped loses lost =
      let broke = loss_breaks case event between after (record { link = Some link; subscriber = old }) link lost.lost
      subscriber stopped.halts refl lost.loses loses in
      record { breaks = broke.breaks; own = own_then case.number before between after stopped.own broke.own }

pub drops_connection : (checked : CheckedOf) (now : ℕ) (event : PeerEvent) (before between after : Book)
    (old middle new : PeerOf) → StopsFromEach checked now event before between old middle
    → Drops middle new between after → MovesFromEach checked now event before after old new w.OutOfMemory
drops_connection checked now event before between after old middle new stops drops case stands = inr (record {
  needed = (stops case stands).needed;
  answer_is = refl;
  on = subst (λ link. BreaksOn case event before after (record { link = link; subscriber = new.subscriber }))
      (sym drops.none)
      (breaks_dropped case event before between after new.subscriber middle.link middle.subscriber
      (stops case stands).stopped drops.subscriber drops.link);
})

pub makes_moves : (checked : CheckedOf) (now : ℕ) (event : PeerEvent) (before after : Book) (old new : PeerOf)
    (answer : Answer) → MakesFromEach checked now event before after old new answer
    → MovesFromEach checked now event before after old new answer
makes_moves checked now event before after old new answer makes case stands = inl (makes case stands)
