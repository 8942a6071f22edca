-- A connection is lost as in the world.
use Rattle.std.proofs.Common.{◌≡◌, ℕ, ◌≢◌, true, false, List, refl, sym, ap, subst, ◌∙◌}
use Rattle.std.specs.Prelude.{Option, Some, None, is_some, slice_get}
use Rattle.tables_log.specs.BookView.{book_slots}
use Rattle.tables_log.specs.Slots.{with_stream}
use Rattle.tables_log.specs.declared.slots.Slot.{Slot}
use Rattle.copy_both.specs.Ears.{ear_started, slots_after_loss, slots_without}
use Rattle.copy_both.specs.Links.{link_ear}
use Rattle.test_subscriber.specs.Machine.{Machine}
use Rattle.shard_world.specs.Connections.{LosesStep}
use Rattle.shard_world.specs.Joined.{HasSlot, stream_of}
use Rattle.shard_world.specs.PeerSteps.{peer_of, source_of}
use Rattle.shard_world.specs.World as w
use Rattle.shard_world.proofs.CaseLemmas.{is_open}
use Rattle.shard_world.proofs.JoinedSteps.{steps_to, still_named}
use Rattle.shard_world.proofs.SlotLemmas.{others_stay, streams_slot}

-- ---- slots

-- the slot is released, if a stream used it
without_slot : (slots : List Slot) (number confirmed : ℕ) (start : Option ℕ)
    → HasSlot slots number confirmed (is_some start)
    → HasSlot (slots_without (stream_of number start) slots) number confirmed false
without_slot slots number confirmed None has = has
without_slot slots number confirmed (Some start) has = streams_slot slots number confirmed true false has

others_without : (slots : List Slot) (number other : ℕ) (start : Option ℕ) → other ≢ number
    → slice_get (slots_without (stream_of number start) slots) other ≡ slice_get slots other
others_without slots number other None apart = refl
others_without slots number other (Some start) apart = others_stay slots number other (with_stream false) apart

-- ---- lose

pub loses_on : LosesStep
loses_on case before after old link new subscriber stands some lost_link lost_subscriber =
    let here = is_open case (book_slots before) old link stands some in
    let linked = here.linked in
    let slots_are : book_slots after ≡ slots_without (stream_of case.number here.c.start) (book_slots before) =
    lost_link.ear.book.slots_are
    ∙ ap (λ its. slots_after_loss its (ear_started (link_ear link)) (book_slots before)) linked.hears.phase_is
    ∙ ap (λ its. slots_without its (book_slots before)) linked.hears.started in
    record {
      steps = steps_to case w.Lose w.Lost (book_slots after) (record { link = None; subscriber = subscriber })
          (Some here.c) here.some refl (record {
            named = still_named case old.subscriber subscriber stands.named lost_subscriber.cleared.names;
            at = record {
              machine = record {
                position = lost_subscriber.machine.position ∙ linked.machine.position
                    ∙ ap (λ (machine : Machine). machine.position) (now_is here.c here.some);
                kept = λ oid. lost_subscriber.machine.kept oid ∙ linked.machine.kept oid
                    ∙ ap (λ (machine : Machine). machine.kept oid) (now_is here.c here.some);
                rows = λ oid key. lost_subscriber.machine.rows oid key ∙ linked.machine.rows oid key
                    ∙ ap (λ (machine : Machine). machine.rows oid key) (now_is here.c here.some);
              };
              slot = subst (λ slots. HasSlot slots case.number (peer_of case).confirmed false) (sym slots_are)
                  (without_slot (book_slots before) case.number (peer_of case).confirmed here.c.start linked.slot);
            };
          });
      own = record {
        book = record {
          checked = lost_link.ear.book.checked;
          limit = lost_link.ear.book.limit;
          rows =
              lost_link.ear.book.rows;
          log = lost_link.ear.book.log;
          slots_are = refl;
        };
        others = λ other apart. ap (λ slots. slice_get slots other) slots_are
            ∙ others_without (book_slots before) case.number other here.c.start apart;
      };
    }
  where
    now_is : (c : w.Connection) → (peer_of case).connection ≡ Some c
        → w.connection_machine (source_of case) (peer_of case) (Some c) ≡ w.machine_now (source_of case) (peer_of case)
    now_is c is = ap (w.connection_machine (source_of case) (peer_of case)) (sym is)
