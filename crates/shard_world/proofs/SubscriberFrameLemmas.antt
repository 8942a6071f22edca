-- The frames that a subscriber sends are heard as they are in the world.
use Rattle.std.proofs.Common.{◌≡◌, ℕ, zero, suc, ◌^◌, ◌<◌, ◌≢◌, min, max, Bool, true, false, List, [], ◌∷◌, ◌++◌, length, map, replicate, Option, Some, None, refl, sym, ap, ◌∙◌, subst, arith, append_assoc, append-nil}
use Rattle.std.specs.Prelude.{fold, nat_lt, slice_get, All}
use Rattle.std.proofs.Math.ListN.{length-set}
use Rattle.std.proofs.lemmas.Bool.Decides.{nat_tests}
use Rattle.std.proofs.lemmas.List.{replicate-append-replicate}
use Rattle.std.proofs.lemmas.List.Elements.{All-head, All-tail}
use Rattle.pub_catalog.specs.declared.catalog.Subscription.{Subscription}
use Rattle.tables_log.specs.Lsn.{end_lsn_of}
use Rattle.tables_log.specs.Slots.{confirmed_of, confirmed_at, start_fault, changed, started, raised, with_stream, confirmed_up_to}
use Rattle.tables_log.specs.declared.slots.Slot.{Slot}
use Rattle.copy_frames.proofs.ContentLemmas.{status_is_read}
use Rattle.copy_frames.specs.declared.status.Status.{Status}
use Rattle.copy_both.specs.Events.{read_event}
use Rattle.copy_both.specs.Hearing.{HearingOf, ServedFrom, Begins, begun, one_more, confirmed_by, event_heard, next_heard, unless_over, frame_heard, frames_heard, is_over}
use Rattle.copy_both.specs.Streams.{Move, Keep}
use Rattle.stream_laws.specs.Asking.{CanAsk}
use Rattle.shard_world.specs.SubscriberFrames.{start_in, session_of, IsBegun, IsHearing, IsWithin, IsHeard, StartsAreHeard, StatusesAreHeard}
use Rattle.shard_world.specs.World.{Asks, Says, Session, start_at, replies_to, hear_up, up_frame}
use Rattle.shard_world.specs.Joined.{HasSlot}
use Rattle.shard_world.proofs.SlotLemmas.{others_stay, raised_slot}
use Rattle.stream_laws.proofs.StartAnswered.{starts_are_answered}

-- ---- slots

still_long : (slots : List Slot) (number : ℕ) (found : Option Slot) (change : Slot → Slot)
    → length (changed slots number found change) ≡ length slots
still_long slots number None change = refl
still_long slots number (Some slot) change = length-set slots number (change slot)

one_later : (slot : Slot) (slots : List Slot) (number : ℕ) (found : Option Slot) (change : Slot → Slot)
    → slice_get (changed (slot ∷ slots) (suc number) found change) (suc number)
    ≡ slice_get (changed slots number found change) number
one_later slot slots number None change = refl
one_later slot slots number (Some other) change = refl

raised_at : (slots : List Slot) (number position : ℕ) → number < length slots
    → confirmed_at (confirmed_up_to slots number position) number ≡ max (confirmed_at slots number) position
raised_at [] number position less = absurd (omega (arith, less))
raised_at (slot ∷ slots) zero position less = refl
raised_at (slot ∷ slots) (suc number) position less =
    ap confirmed_of (one_later slot slots number (slice_get slots number) (raised position))
    ∙ raised_at slots number position (omega (arith, less))

kept_at : (slots : List Slot) (number : ℕ) → confirmed_at (started slots number) number ≡ confirmed_at slots number
kept_at [] number = refl
kept_at (slot ∷ slots) zero = refl
kept_at (slot ∷ slots) (suc number) =
    ap confirmed_of (one_later slot slots number (slice_get slots number) (with_stream true)) ∙ kept_at slots number

-- ---- statuses

abbrev session : ℕ → Option ℕ → List Move → Session
session confirmed start moves = record { confirmed = confirmed; start = start; moves = moves }

replies_more : (wants : Bool) (replies now : ℕ) (moves : List Move)
    → moves ++ replicate (one_more wants replies) (Keep now false) ≡ (moves ++ replicate replies (Keep now false))
    ++ replies_to wants now
replies_more false replies now moves = sym (append-nil (moves ++ replicate replies (Keep now false)))
replies_more true replies now moves =
    ap (λ more. moves ++ more) (sym (replicate-append-replicate replies 1 (Keep now false)))
    ∙ sym (append_assoc moves (replicate replies (Keep now false)) (Keep now false ∷ []))

module _ (served : ServedFrom) (subscriber start now : ℕ) (moves : List Move) where
  abbrev after : Status → HearingOf → HearingOf
  after status h = confirmed_by false subscriber status h

  status_step : (status : Status) (h : HearingOf) → is_over h ≡ false → h.started ≡ Some (subscriber, start)
      → IsWithin (min h.sent (end_lsn_of served.commits)) status
      → frame_heard served h (up_frame served.checked subscriber (Says status)) ≡ after status h
  status_step status h goes_on is within =
      let reached : nat_lt (min h.sent (end_lsn_of served.commits)) status.flushed ≡ false =
      grind (arith, nat_tests, within.reached) in
      ap (λ over. unless_over over h
      (next_heard served (up_frame served.checked subscriber (Says status)) h.started h)) goes_on
      ∙ ap (λ begun. next_heard served (up_frame served.checked subscriber (Says status)) begun h) is
      ∙ ap (λ found. event_heard served subscriber (read_event found) h)
      (status_is_read status within.written within.flushed within.applied within.clock)
      ∙ ap (λ ahead. confirmed_by ahead subscriber status h) reached

  status_session : (status : Status) (h : HearingOf) → subscriber < length h.slots
      → session_of subscriber now moves (after status h) ≡ hear_up now (session_of subscriber now moves h) (Says status)
  status_session status h there =
      ap (λ confirmed. session confirmed (start_in h.started)
      (moves ++ replicate (one_more status.wants_reply h.heard.replies) (Keep now false)))
      (raised_at h.slots subscriber status.flushed there)
      ∙ ap (session (max (confirmed_at h.slots subscriber) status.flushed) (start_in h.started))
      (replies_more status.wants_reply h.heard.replies now moves)

  still_hearing : (status : Status) (h : HearingOf) → IsHearing subscriber h → IsHearing subscriber (after status h)
  still_hearing status h hearing = record {
    own = hearing.own;
    is_there = subst (λ n. subscriber < n)
        (sym (still_long h.slots subscriber (slice_get h.slots subscriber) (raised status.flushed))) hearing.is_there;
    goes_on = hearing.goes_on;
  }

  all_heard : (statuses : List Status) (h : HearingOf) → IsHearing subscriber h → h.started ≡ Some (subscriber, start)
      → All (IsWithin (min h.sent (end_lsn_of served.commits))) statuses
      → IsHeard subscriber now moves
      (frames_heard served h (map (up_frame served.checked subscriber) (map Says statuses)))
      (fold (hear_up now) (session_of subscriber now moves h) (map Says statuses))
  unfolding frames_heard
  all_heard [] h hearing is within = record { hearing = hearing; session_is = refl }
  all_heard (status ∷ statuses) h hearing is within =
      let step = status_step status h hearing.goes_on is
      (All-head (IsWithin (min h.sent (end_lsn_of served.commits))) status statuses within) in
      let same = status_session status h hearing.is_there in
      let later = all_heard statuses (after status h) (still_hearing status h hearing) is
      (All-tail (IsWithin (min h.sent (end_lsn_of served.commits))) status statuses within) in
      subst (λ next. IsHeard subscriber now moves
      (frames_heard served next (map (up_frame served.checked subscriber) (map Says statuses)))
      (fold (hear_up now) (hear_up now (session_of subscriber now moves h) (Says status)) (map Says statuses)))
      (sym step)
      (subst (λ its. IsHeard subscriber now moves
      (frames_heard served (after status h) (map (up_frame served.checked subscriber) (map Says statuses)))
      (fold (hear_up now) its (map Says statuses))) same later)

pub statuses_are_heard : StatusesAreHeard
statuses_are_heard served subscriber start now moves statuses h hearing is within =
    all_heard served subscriber start now moves statuses h hearing is within

-- ---- the start

pub start_step : (served : ServedFrom) (subscriber position : ℕ) (subscription : Subscription) (h : HearingOf)
    → CanAsk served.checked.catalog subscriber subscription → position < 2 ^ 64
    → start_fault h.slots (end_lsn_of served.commits) subscriber position ≡ None → is_over h ≡ false → h.started ≡ None
    → frame_heard served h (up_frame served.checked subscriber (Asks position))
    ≡ begun (Begins subscriber (max position (confirmed_at h.slots subscriber))) h
start_step served subscriber position subscription h can small free goes_on none =
    ap (λ over. unless_over over h
    (next_heard served (up_frame served.checked subscriber (Asks position)) h.started h)) goes_on
    ∙ ap (λ its. next_heard served (up_frame served.checked subscriber (Asks position)) its h) none
    ∙ ap (λ begins. begun begins h) (starts_are_answered served h.slots subscriber position subscription can small free)

pub starts_are_heard : StartsAreHeard
starts_are_heard served subscriber position now subscription moves h can small free hearing none =
    let from : ℕ = max position (confirmed_at h.slots subscriber) in
    let step = start_step served subscriber position subscription h can small free hearing.goes_on none in (
      subst (λ next. IsHeard subscriber now moves next
          (hear_up now (session_of subscriber now moves h) (Asks position))) (sym step) (record {
            hearing = record {
              own = refl;
              is_there = subst (λ n. subscriber < n)
                  (sym (still_long h.slots subscriber (slice_get h.slots subscriber) (with_stream true)))
                  hearing.is_there;
              goes_on = hearing.goes_on;
            };
            session_is =
                ap (λ confirmed. session confirmed (Some from) (moves ++ replicate h.heard.replies (Keep now false)))
                (kept_at h.slots subscriber)
                ∙ ap (λ its. session (confirmed_at h.slots subscriber)
                (start_at (start_in its) position (confirmed_at h.slots subscriber))
                (moves ++ replicate h.heard.replies (Keep now false))) (sym none);
          }),
      subst (IsBegun subscriber (max position (confirmed_at h.slots subscriber))) (sym step)
          (record { started = refl; sent = refl }),
    )

-- ---- slots

pub record HasSlotBy (slots : List Slot) (number : ℕ) (taken : Bool) : Type 0 where
  pub confirmed : ℕ
  pub has : HasSlot slots number confirmed taken

-- other slots stay, and this one is still a stream's or not
pub record SlotsGo (number : ℕ) (before after : List Slot) : Type 0 where
  pub others : (other : ℕ) → other ≢ number → slice_get after other ≡ slice_get before other
  pub own : (confirmed : ℕ) (taken : Bool) → HasSlot before number confirmed taken → HasSlotBy after number taken

slots_stay : (number : ℕ) (slots : List Slot) → SlotsGo number slots slots
slots_stay number slots =
    record { others = λ other apart. refl; own = λ confirmed taken has. record { confirmed = confirmed; has = has } }

slots_rise : (number : ℕ) (before after : List Slot) (position : ℕ) → after ≡ confirmed_up_to before number position
    → SlotsGo number before after
slots_rise number before after position is = subst (SlotsGo number before) (sym is) (record {
  others = λ other apart. others_stay before number other (raised position) apart;
  own = λ confirmed taken has. record
      { confirmed = max confirmed position; has = raised_slot before number confirmed position taken has };
})

slots_both : (number : ℕ) (first second last : List Slot) → SlotsGo number first second → SlotsGo number second last
    → SlotsGo number first last
slots_both number first second last one two = record {
  others = λ other apart. two.others other apart ∙ one.others other apart;
  own = λ confirmed taken has. two.own (one.own confirmed taken has).confirmed taken (one.own confirmed taken has).has;
}

module _ (served : ServedFrom) (subscriber start now : ℕ) (moves : List Move) where
  pub statuses_go : (statuses : List Status) (h : HearingOf) → IsHearing subscriber h
      → h.started ≡ Some (subscriber, start)
      → All (IsWithin (min h.sent (end_lsn_of served.commits))) statuses
      → SlotsGo subscriber h.slots
      (frames_heard served h (map (up_frame served.checked subscriber) (map Says statuses))).slots
  unfolding frames_heard
  statuses_go [] h hearing is within = slots_stay subscriber h.slots
  statuses_go (status ∷ statuses) h hearing is within =
      let step = status_step served subscriber start now moves status h hearing.goes_on is
      (All-head (IsWithin (min h.sent (end_lsn_of served.commits))) status statuses within) in
      let next = confirmed_by false subscriber status h in
      subst (λ its. SlotsGo subscriber h.slots
      (frames_heard served its (map (up_frame served.checked subscriber) (map Says statuses))).slots) (sym step)
      (slots_both subscriber h.slots next.slots
      (frames_heard served next (map (up_frame served.checked subscriber) (map Says statuses))).slots
      (slots_rise subscriber h.slots next.slots status.flushed refl)
      (statuses_go statuses next (still_hearing served subscriber start now moves status h hearing) is
      (All-tail (IsWithin (min h.sent (end_lsn_of served.commits))) status statuses within)))
