-- If memory is refused to a call on a connection, what is left is what the world leaves, and the connection is lost.
use Rattle.std.proofs.Common.{◌≡◌, ℕ, ◌≢◌, true, false, List, refl, sym, ap, subst, ◌∙◌}
use Rattle.std.specs.Prelude.{Option, Some, None, is_some, slice_get}
use Rattle.tables_log.specs.BookView.{book_slots}
use Rattle.tables_log.specs.Slots.{released, with_stream}
use Rattle.tables_log.specs.declared.slots.Slot.{Slot}
use Rattle.copy_both.specs.Ears.{EarCloses, ear_phase, ear_started, slots_after_loss, slots_without}
use Rattle.copy_both.specs.Links.{link_ear}
use Rattle.copy_both.specs.Phases.{phase_closed}
use Rattle.copy_both.specs.declared.link.Link.{Link}
use Rattle.copy_both.specs.declared.phase.Phase.{Phase}
use Rattle.copy_both.specs.declared.phase.Phase.TheVariants as phase
use Rattle.test_subscriber.specs.Machine.{Machine}
use Rattle.test_subscriber.specs.Subscribers.{Loses, sub_machine}
use Rattle.test_subscriber.specs.declared.subscriber.Subscriber.{Subscriber}
use Rattle.shard_world.specs.Joined.{AlikeBut, HasSlot, IsAt, IsLinked, PeerIs, PeerOf, StaysAlike, stream_of}
use Rattle.shard_world.specs.PeerSteps.{Case, Halts, HasStream, HasStreamBy, IsHalf, IsOwnStream, before_loss, peer_of, source_of}
use Rattle.shard_world.specs.Refusals.{KeepHalts, LossBreaks, OpenBreaks, OpenStays, ReportHalts, StepBreaks, TakeHalts}
use Rattle.shard_world.specs.World as w
use Rattle.shard_world.specs.World.{Connection, PeerEvent, connection_machine, machine_now, broken}
use Rattle.shard_world.proofs.CaseLemmas.{is_open, is_shut}
use Rattle.shard_world.proofs.JoinedSteps.{still_named}
use Rattle.shard_world.proofs.SlotLemmas.{others_stay, streams_slot}

-- ---- what stays across connections

pub stays_lost : (old new : Subscriber) (machine : Machine) → StaysAlike (sub_machine old) machine → Loses old new
    → StaysAlike (sub_machine new) machine
stays_lost old new machine alike loses = record {
  position = loses.machine.position ∙ alike.position;
  kept = λ oid. loses.machine.kept oid ∙ alike.kept oid;
  rows = λ oid key. loses.machine.rows oid key ∙ alike.rows oid key;
}

pub stays_now : (case : Case) (c : Connection) → (peer_of case).connection ≡ Some c → (machine : Machine)
    → AlikeBut machine (connection_machine (source_of case) (peer_of case) (Some c))
    → StaysAlike machine (machine_now (source_of case) (peer_of case))
stays_now case c some machine alike =
    subst (λ connection. StaysAlike machine (connection_machine (source_of case) (peer_of case) connection)) (sym some)
    (record { position = alike.position; kept = alike.kept; rows = alike.rows })

pub own_stream : (number : ℕ) (start : Option ℕ) → IsOwnStream number (stream_of number start)
own_stream number None = tt
own_stream number (Some start) = refl

pub is_stream : (number : ℕ) (start : Option ℕ) → is_some (stream_of number start) ≡ is_some start
is_stream number None = refl
is_stream number (Some start) = refl

-- a stream of this slot, of an ear that is not lost
pub has_stream : (slots : List Slot) (number confirmed : ℕ) (link : Link) (start : Option ℕ) (now : Phase)
    → ear_started (link_ear link) ≡ stream_of number start
    → ear_phase (link_ear link) ≡ now → now ≢ phase.Lost → HasSlot slots number confirmed (is_some start)
    → HasStream slots number confirmed link
has_stream slots number confirmed link start now started phase_is apart slot = record {
  own = subst (IsOwnStream number) (sym started) (own_stream number start);
  not_lost = λ is_lost. apart (sym phase_is ∙ is_lost);
  slot = subst (λ its. HasSlot slots number confirmed (is_some its)) (sym started)
      (subst (HasSlot slots number confirmed) (sym (is_stream number start)) slot);
}

open_apart : phase.Open ≢ phase.Lost
open_apart e = cc

pub closed_apart : phase.Closed ≢ phase.Lost
closed_apart e = cc

module _ (case : Case) (slots : List Slot) (link : Link) (subscriber : Subscriber) (c : Connection)
    (linked : IsLinked (source_of case) slots link subscriber (peer_of case) c) where
  pub stream_stays : HasStream slots case.number (peer_of case).confirmed link
  stream_stays = has_stream slots case.number (peer_of case).confirmed link c.start phase.Open linked.hears.started
      linked.hears.phase_is open_apart linked.slot

  stream_closes : (new : Link) → EarCloses (link_ear link) (link_ear new)
      → HasStream slots case.number (peer_of case).confirmed new
  stream_closes new closes =
      has_stream slots case.number (peer_of case).confirmed new c.start phase.Closed
      (closes.started ∙ linked.hears.started)
      (closes.phase_is ∙ ap phase_closed linked.hears.phase_is) closed_apart linked.slot

-- ---- take, keep, report

pub halts_with : (case : Case) (event : PeerEvent) (slots : List Slot) (code : PeerOf) (c : Connection) (some : ℕ)
    → (peer_of case).connection ≡ Some c
    → IsHalf case slots code.link code.subscriber (before_loss case event some (peer_of case) (Some c))
    → Halts case event slots code
halts_with case event slots code c some is half =
    record {
      some = some;
      half =
          subst (λ connection. IsHalf case slots code.link code.subscriber
          (before_loss case event some (peer_of case) connection)) (sym is) half;
    }

pub take_halts : TakeHalts
take_halts case slots old link new stands some closes =
    let here = is_open case slots old link stands some in
    halts_with case w.Take slots (record { link = Some new; subscriber = old.subscriber }) here.c 0 here.some (record {
      named = stands.named;
      machine = stays_now case here.c here.some (sub_machine old.subscriber) here.linked.machine;
      stream = stream_closes case slots link old.subscriber here.c here.linked new closes.ear;
    })

pub keep_halts : KeepHalts
keep_halts case slots old link new want stands some closes =
    let here = is_open case slots old link stands some in
    halts_with case (w.Keep want) slots (record { link = Some new; subscriber = old.subscriber }) here.c 0 here.some
    (record {
      named = stands.named;
      machine = stays_now case here.c here.some (sub_machine old.subscriber) here.linked.machine;
      stream = stream_closes case slots link old.subscriber here.c here.linked new closes.ear;
    })

pub report_halts : ReportHalts
report_halts case slots old link after want stands some loses =
    let here = is_open case slots old link stands some in
    halts_with case (w.Report want) slots (record { link = old.link; subscriber = after }) here.c 0 here.some (record {
      named = still_named case old.subscriber after stands.named loses.cleared.names;
      machine = stays_lost old.subscriber after (machine_now (source_of case) (peer_of case))
          (stays_now case here.c here.some (sub_machine old.subscriber) here.linked.machine) loses;
      stream = subst (HasStreamBy slots case.number (peer_of case).confirmed) (sym some)
          (stream_stays case slots link old.subscriber here.c here.linked);
    })

-- ---- open

breaks_without : (case : Case) (slots : List Slot) (code : PeerOf) → (peer_of case).connection ≡ None
    → PeerIs (source_of case) slots code (peer_of case)
    → StepBreaks case w.Open slots code
breaks_without case slots code none is = record {
  some = 0;
  peer_is = subst (λ connection. PeerIs (source_of case) slots code
      (broken (source_of case) case.now w.Open (peer_of case) 0 connection)) (sym none) is;
}

pub open_stays : OpenStays
open_stays case slots old stands none = breaks_without case slots old (is_shut case slots old stands none).none stands

pub open_breaks : OpenBreaks
open_breaks case slots old after stands none loses =
    let shut = is_shut case slots old stands none in
    breaks_without case slots (record { link = None; subscriber = after }) shut.none (record {
      named = still_named case old.subscriber after stands.named loses.cleared.names;
      at = subst (IsAt (source_of case) slots None after (peer_of case)) (sym shut.none)
          (record {
            machine = stays_lost old.subscriber after (peer_of case).machine shut.is_apart.machine loses;
            slot = shut.is_apart.slot;
          });
    })

-- ---- the loss

module _ (number : ℕ) (slots : List Slot) where
  given_back : (confirmed : ℕ) (started : Option (ℕ × ℕ)) → IsOwnStream number started
      → HasSlot slots number confirmed (is_some started)
      → HasSlot (slots_without started slots) number confirmed false
  given_back confirmed None own has = has
  given_back confirmed (Some started) own has =
      subst (λ its. HasSlot (released slots its) number confirmed false) (sym own)
      (streams_slot slots number confirmed true false has)

  others_kept : (other : ℕ) (started : Option (ℕ × ℕ)) → IsOwnStream number started → other ≢ number
      → slice_get (slots_without started slots) other ≡ slice_get slots other
  others_kept other None own apart = refl
  others_kept other (Some started) own apart =
      ap (λ its. slice_get (released slots its) other) own ∙ others_stay slots number other (with_stream false) apart

  not_lost_before : (now : Phase) (started : Option (ℕ × ℕ)) → now ≢ phase.Lost
      → slots_after_loss now started slots ≡ slots_without started slots
  not_lost_before phase.Open started apart = refl
  not_lost_before phase.Closed started apart = refl
  not_lost_before phase.Lost started apart = absurd (apart refl)

module _ (case : Case) (event : PeerEvent) (some : ℕ) (before after : List Slot) (link : Option Link)
    (old new : Subscriber) (loses : Loses old new) where
  -- what existed before the loss; its slot is released
  peer_lost : (connection : Option Connection) → (peer_of case).connection ≡ connection
      → IsHalf case before link old (before_loss case event some (peer_of case) connection)
      → HasSlot after case.number (before_loss case event some (peer_of case) connection).confirmed false
      → PeerIs (source_of case) after (record { link = None; subscriber = new })
      (broken (source_of case) case.now event (peer_of case) some connection)
  peer_lost None e half slot = record {
    named = still_named case old new half.named loses.cleared.names;
    at = subst (IsAt (source_of case) after None new (peer_of case)) (sym e) (record {
      machine = subst (λ connection. StaysAlike (sub_machine new)
          (connection_machine (source_of case) (peer_of case) connection)) e
          (stays_lost old new (machine_now (source_of case) (peer_of case)) half.machine loses);
      slot = slot;
    });
  }
  peer_lost (Some c) e half slot =
      let its = before_loss case event some (peer_of case) (Some c) in
      let stays = stays_lost old new (machine_now (source_of case) its) half.machine loses in
      record {
        named = still_named case old new half.named loses.cleared.names;
        at = record {
          machine = record { position = stays.position; kept = stays.kept; rows = stays.rows };
          slot =
              slot;
        };
      }

pub loss_breaks : LossBreaks
loss_breaks case event before after code link new subscriber halts some lost_link lost_subscriber =
    let half = halts.half in
    let its = before_loss case event halts.some (peer_of case) (peer_of case).connection in
    let stream : HasStream (book_slots before) case.number its.confirmed link =
    subst (HasStreamBy (book_slots before) case.number its.confirmed) some half.stream in
    let slots_are : book_slots after ≡ slots_without (ear_started (link_ear link)) (book_slots before) =
    lost_link.ear.book.slots_are
    ∙ not_lost_before case.number (book_slots before) (ear_phase (link_ear link)) (ear_started (link_ear link))
    stream.not_lost in
    let slot : HasSlot (book_slots after) case.number its.confirmed false =
    subst (λ slots. HasSlot slots case.number its.confirmed false) (sym slots_are)
    (given_back case.number (book_slots before) its.confirmed (ear_started (link_ear link)) stream.own stream.slot) in
    record {
      breaks = record {
        some = halts.some;
        peer_is = peer_lost case event halts.some (book_slots before) (book_slots after) code.link code.subscriber
            subscriber lost_subscriber (peer_of case).connection refl half slot;
      };
      own = record {
        book = record {
          checked = lost_link.ear.book.checked;
          limit = lost_link.ear.book.limit;
          rows =
              lost_link.ear.book.rows;
          log = lost_link.ear.book.log;
          slots_are = refl;
        };
        others = λ other apart. ap (λ slots. slice_get slots other) slots_are
            ∙ others_kept case.number (book_slots before) other (ear_started (link_ear link)) stream.own apart;
      };
    }
