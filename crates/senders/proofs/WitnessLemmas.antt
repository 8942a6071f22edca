-- What the result of a connection says of its commits and of its slot.
use Rattle.std.proofs.Common.{◌≡◌, ◌⊎◌, ℕ, ◌≤◌, max, List, [], ◌++◌, length, map, append_assoc, refl, sym, ◌∙◌, ap, subst, inl, inr, arith}
use Rattle.std.specs.Prelude.{Bool, false, unwrap_or, Option, Some, None}
use Rattle.std.specs.Arc.{arc_value}
use Rattle.std.proofs.lemmas.List.{length-map}
use Rattle.shard_checker.specs.CheckedView.{CheckedOf}
use Rattle.tables_log.specs.Lsn.{commits_before, end_lsn_of}
use Rattle.copy_both.specs.Ears.{ear_confirmed}
use Rattle.copy_both.specs.VoiceLaws.{AreAt}
use Rattle.copy_both.proofs.StartBounds.{start_within}
use Rattle.publisher_desk.specs.Receipts.{ReceiptOf, transaction_of}
use Rattle.publisher_desk.specs.Sights.{StartsWith, times}
use Rattle.publisher_desk.specs.SlotEvents.{use_after}
use Rattle.publisher_desk.specs.SlotSights.{hold}
use Rattle.publisher_desk.specs.Viewers.{HadSlot, HasReleased, Holds, IsAcceptedLog, SeesMore, ShareNoAcquisition, ViewerOf, log_seen, new_viewer}
use Rattle.publisher_desk.specs.declared.slot_sight.Hold.{Hold}
use Rattle.senders.specs.Listening.{HasListened, HoldsStream}
use Rattle.senders.specs.Results.{AcquiredApart, HadStream, HadStreamOf, IsWitnessed, StartsFrom, ServedOf, acquisition, books_seen, commits_of, served_of}
use Rattle.senders.specs.Running.{EndedAtOnce, ReleasesIf, ServesOut, Streamed, Unstarted}
use Rattle.senders.specs.Serving.{IsServed}
use Rattle.senders.specs.declared.listener.Listener.{Listener}
use Rattle.senders.specs.declared.outcome.Outcome.{Outcome}
use Rattle.senders.proofs.BeginningLemmas.{at_in_log}
use Rattle.senders.proofs.RefusedLemmas.{served_refused}
use Rattle.senders.proofs.SeenLogs.{logged_at, sees_same}
use Rattle.senders.proofs.ServingLemmas.{EndsStream, at_once, by_listener}

-- ---- a connection that started no stream

pub record EndsUnstarted (checked : CheckedOf) (now last : ViewerOf) (left now_left : Option (List ℕ))
    (source_failed source_ended : Bool) (before after : Option (List ℕ)) (sink_failed : Bool) (new : Listener)
    (outcome : Outcome) (sent : ℕ) (is_requested : Bool) (confirmed number : ℕ) : Type 0 where
  pub no_slot : outcome.slot ≡ None
  pub no_start : outcome.start ≡ None
  pub none : outcome.taken.items ≡ []
  pub unheld : now.held ≡ None
  pub unnumbered : new.number ≡ 0
  pub unrequested : new.is_requested ≡ false
  pub served : IsServed checked left now_left source_failed source_ended before after sink_failed
      (served_of outcome sent is_requested confirmed number last)

witnessed_unstarted : (checked : CheckedOf) (last : ViewerOf) (outcome : Outcome) (sent : ℕ) (is_requested : Bool)
    (confirmed number : ℕ) → IsAcceptedLog checked last.seen → outcome.slot ≡ None → outcome.start ≡ None
    → outcome.taken.items ≡ [] → last.held ≡ None → number ≡ 0 → is_requested ≡ false → sent ≡ 0
    → IsWitnessed checked (served_of outcome sent is_requested confirmed number last)
witnessed_unstarted checked last outcome sent is_requested confirmed number accepted no_slot no_start none unheld
    unnumbered unrequested unsent = record {
      accepted = accepted;
      within = subst (λ (start : Option ℕ). commits_before (unwrap_or start 0) ≤ length last.seen) (sym no_start)
          (omega arith);
      taken = subst (AreAt (log_seen checked last.seen) (commits_before (unwrap_or outcome.start 0)))
          (sym (ap (map (λ commit. arc_value commit)) none)) tt;
      had = subst (λ (slot : Option ℕ). HadStream slot outcome.start is_requested number confirmed sent (length last.seen)
          last.events) (sym no_slot)
          (subst (λ (start : Option ℕ). HadStream None start is_requested number confirmed sent (length last.seen) last.events)
          (sym no_start) (unnumbered, unrequested, unsent));
      free = λ slot some. absurd (let other : None ≡ Some slot = sym no_slot ∙ some in cc);
      none = unheld;
      own = λ start some. absurd (let other : None ≡ Some start = sym no_start ∙ some in cc);
    }

pub witnessed_nothing : (checked : CheckedOf) (outcome : Outcome) → outcome.slot ≡ None → outcome.start ≡ None
    → outcome.taken.items ≡ [] → IsWitnessed checked (served_of outcome 0 false 0 0 new_viewer)
witnessed_nothing checked outcome no_slot no_start none =
    witnessed_unstarted checked new_viewer outcome 0 false 0 0 tt no_slot no_start none refl refl refl refl

-- ---- a connection that started a stream

-- a start that is not after the end of the log
before_end : (start count : ℕ) → start ≤ end_lsn_of count → commits_before start ≤ count
before_end start count low = omega (arith, low)

module _ (checked : CheckedOf) (now last sender : ViewerOf) (left now_left : Option (List ℕ))
    (source_failed source_ended : Bool) (before after : Option (List ℕ)) (sink_failed : Bool) (new : Listener)
    (outcome : Outcome) (sent : ℕ) (is_requested : Bool) (confirmed number : ℕ) (said : is_requested ≡ new.is_requested)
    (numbered : number ≡ new.number)
    (ends : EndsStream checked now last left now_left source_failed source_ended before after sink_failed new outcome
    sent is_requested confirmed number sender) where
  within_log : commits_before ends.start ≤ length last.seen
  within_log =
      before_end ends.start (length last.seen)
      (subst (λ (count : ℕ). ends.start ≤ end_lsn_of count)
      (length-map last.seen transaction_of)
      (start_within checked (books_seen last) ends.frames ends.slot ends.start ends.asks))

  -- the slot that it had, as it says
  abbrev its : Hold
  its = hold (acquisition ends.slot ends.start is_requested) number ends.holding.found
      (max ends.holding.found confirmed)

  its_hold : (released : ReleasesIf (Some ends.slot) sent now sender last) → released.0.mine ≡ its
  its_hold released =
      let found : ℕ = ends.holding.found in
      let position : ℕ = max found confirmed in
      let same : Some released.0.mine
      ≡ Some (hold (acquisition ends.slot ends.start new.is_requested) new.number found position) =
      sym released.0.was ∙ ends.holding.held_is in
      let mine : released.0.mine
      ≡ hold (acquisition ends.slot ends.start new.is_requested) new.number found position = cc in
      mine ∙ (ap (λ (b : Bool). hold (acquisition ends.slot ends.start b) new.number found position) (sym said)
      ∙ ap (λ (n : ℕ). hold (acquisition ends.slot ends.start is_requested) n found position) (sym numbered))

  had_stream : ReleasesIf (Some ends.slot) sent now sender last
      → HadStreamOf ends.slot ends.start is_requested number confirmed sent (length last.seen) last.events
  had_stream released = record {
    found = ends.holding.found;
    had = subst (λ (mine : Hold). HadSlot last.events mine sent (length last.seen)) (its_hold released) released.0.had;
    from = subst (StartsFrom ends.holding.found ends.start) (sym said) ends.holding.from;
  }

  its_own : ReleasesIf (Some ends.slot) sent now sender last → 1 ≤ times number last.own
  its_own released = subst (λ (mine : Hold). 1 ≤ times mine.number last.own) (its_hold released) released.0.own

  its_released : ReleasesIf outcome.slot sent now sender last → ReleasesIf (Some ends.slot) sent now sender last
  its_released released = subst (λ (slot : Option ℕ). ReleasesIf slot sent now sender last) ends.slot_is released

  freed : ReleasesIf outcome.slot sent now sender last → (slot : ℕ) → outcome.slot ≡ Some slot
      → use_after last.events slot ≡ false
  freed released slot some =
      let mine : ReleasesIf (Some ends.slot) sent now sender last = its_released released in
      let same : Some ends.slot ≡ Some slot = sym ends.slot_is ∙ some in
      let here : mine.0.mine.acquisition.slot ≡ slot =
      ap (λ (one : Hold). one.acquisition.slot) (its_hold mine) ∙ (let alike : ends.slot ≡ slot = cc in alike) in
      subst (λ (n : ℕ). use_after last.events n ≡ false) here mine.0.free

  witnessed_stream : IsAcceptedLog checked last.seen → ReleasesIf outcome.slot sent now sender last → IsWitnessed checked (served_of outcome sent is_requested confirmed number last)
  witnessed_stream accepted released = record {
    accepted = accepted;
    within = subst (λ (start : Option ℕ). commits_before (unwrap_or start 0) ≤ length last.seen) (sym ends.start_is)
        within_log;
    taken = subst (λ (start : Option ℕ). AreAt (log_seen checked last.seen) (commits_before (unwrap_or start 0))
        (commits_of outcome)) (sym ends.start_is)
        (at_in_log checked last.seen sender.seen (commits_before ends.start) (commits_of outcome) (its_released released).2
        (logged_at checked sender.seen (commits_before ends.start) (commits_of outcome) ends.follow ends.logged.logged));
    had = subst (λ (slot : Option ℕ). HadStream slot outcome.start is_requested number confirmed sent (length last.seen)
        last.events) (sym ends.slot_is)
        (subst (λ (start : Option ℕ). HadStream (Some ends.slot) start is_requested number confirmed sent (length last.seen)
        last.events) (sym ends.start_is) (had_stream (its_released released)));
    free = freed released;
    none = (its_released released).0.none;
    own = λ start some. its_own (its_released released);
  }

-- ---- two connections

pub are_apart : (checked : CheckedOf) (one other : ServedOf) → IsWitnessed checked one → IsWitnessed checked other
    → ShareNoAcquisition one.viewer other.viewer → AcquiredApart one other
are_apart checked one other mine theirs apart start next started next_started same =
    let first = mine.own start started in
    let second = subst (λ (number : ℕ). 1 ≤ times number other.viewer.own) (sym same) (theirs.own next next_started) in
    let both = apart one.number in omega (arith, first, second, both)

-- ---- either

-- a connection without a stream stays as it was
pub unreleased : (slot : Option ℕ) (sent : ℕ) (old sender new : ViewerOf) → slot ≡ None
    → ReleasesIf slot sent old sender new → ReleasesIf None sent old sender new
unreleased slot sent old sender new none = subst (λ (it : Option ℕ). ReleasesIf it sent old sender new) none

pub sees_if : (slot : Option ℕ) (sent : ℕ) (old sender new : ViewerOf) → ReleasesIf slot sent old sender new
    → SeesMore old new
sees_if None sent old sender new same = subst (SeesMore old) (sym same.0) (sees_same old)
sees_if (Some slot) sent old sender new released = released.1

-- what another viewer shows changes nothing of the slot that it has
pub released_as : (sent : ℕ) (old between new : ViewerOf) → between.held ≡ old.held → HasReleased sent between new
    → HasReleased sent old new
released_as sent old between new held released = record {
  mine = released.mine;
  was = sym held ∙ released.was;
  had = released.had;
  free = released.free;
  none = released.none;
  own = released.own;
}

-- what it has seen goes on what another has
pub starts_on : (old new other : ViewerOf) → SeesMore old new → StartsWith old.seen other.seen
    → StartsWith new.seen other.seen
starts_on old new other more begins = (
  begins.0 ++ more.log.0,
  more.log.1 ∙ (ap (λ (list : List ReceiptOf). list ++ more.log.0) begins.1
      ∙ append_assoc other.seen begins.0 more.log.0),
)

module _ (checked : CheckedOf) (was now last : ViewerOf) (sees : SeesMore now last) (left now_left : Option (List ℕ))
    (source_failed source_ended : Bool) (before after : Option (List ℕ)) (sink_failed : Bool) (old new : Listener)
    (fresh : HasListened checked was [] old) (sender : ViewerOf) (outcome : Outcome)
    (idle : outcome.slot ≡ None → last ≡ now) (sent : ℕ) (is_requested : Bool)
    (confirmed number : ℕ) (said : is_requested ≡ new.is_requested) (noted : confirmed ≡ ear_confirmed new.ear)
    (numbered : number ≡ new.number) where
  abbrev Ending : Type 0
  Ending =
      EndsUnstarted checked now last left now_left source_failed source_ended before after sink_failed new outcome
      sent is_requested confirmed number
      ⊎ EndsStream checked now last left now_left source_failed source_ended before after sink_failed new outcome
      sent is_requested confirmed number sender

  ending : ServesOut checked was now left now_left source_failed source_ended before after sink_failed old new sender
      outcome → Ending
  ending (Unstarted why at answers no_slot no_start none same fault_is) =
      let ends = at.hears.ends [] fresh in
      inl (record {
        no_slot = no_slot;
        no_start = no_start;
        none = none;
        unheld = (subst (λ (o : Option (ℕ × ℕ)). HoldsStream o new.is_requested new.number (ear_confirmed new.ear) now.held)
            at.started_is ends.holding).0;
        unnumbered = (subst (λ (o : Option (ℕ × ℕ)). HoldsStream o new.is_requested new.number (ear_confirmed new.ear) now.held)
            at.started_is ends.holding).1;
        unrequested = (subst (λ (o : Option (ℕ × ℕ)). HoldsStream o new.is_requested new.number (ear_confirmed new.ear) now.held)
            at.started_is ends.holding).2;
        served = subst (λ (viewer : ViewerOf). IsServed checked left now_left source_failed source_ended before after
            sink_failed (served_of outcome sent is_requested confirmed number viewer)) (sym (idle no_slot))
            (served_refused checked was now left now_left source_failed source_ended before after sink_failed
            old new outcome sent is_requested confirmed number why noted fresh at answers no_slot no_start none same
            fault_is);
      })
  ending (EndedAtOnce started why at streams logged) =
      inr (at_once checked was now last sees left now_left source_failed source_ended before after sink_failed old new
      fresh outcome sent is_requested confirmed number said noted numbered sender started why at streams logged)
  ending (Streamed started between middle_left middle on runs logged) =
      inr (by_listener checked was now last sees left now_left source_failed source_ended before after sink_failed old
      new fresh outcome sent is_requested confirmed number said noted numbered sender between middle_left middle started on
      runs.why runs.hears runs.streams logged)

  served_at : Ending → IsServed checked left now_left source_failed source_ended before after sink_failed
      (served_of outcome sent is_requested confirmed number last)
  served_at (inl ends) = ends.served
  served_at (inr ends) = ends.served

  -- the slot of its stream is its own
  holds_at : (held : Option Hold) → held ≡ now.held → Ending → (slot : ℕ) → outcome.slot ≡ Some slot → Holds held slot
  holds_at held same (inl ends) slot some = absurd (let no : None ≡ Some slot = sym ends.no_slot ∙ some in cc)
  holds_at held same (inr ends) slot some =
      let one : Some ends.slot ≡ Some slot = sym ends.slot_is ∙ some in
      record {
        mine = hold (acquisition ends.slot ends.start new.is_requested) new.number ends.holding.found
            (max ends.holding.found confirmed);
        held_is = same ∙ ends.holding.held_is;
        slot_is = cc;
      }

  witnessed_at : IsAcceptedLog checked last.seen → ReleasesIf outcome.slot sent now sender last
      → Ending → IsWitnessed checked (served_of outcome sent is_requested confirmed number last)
  witnessed_at accepted released (inl ends) =
      let none = unreleased outcome.slot sent now sender last ends.no_slot released in
      witnessed_unstarted checked last outcome sent is_requested confirmed number accepted ends.no_slot ends.no_start
      ends.none (ap (λ (viewer : ViewerOf). viewer.held) none.0 ∙ ends.unheld) (numbered ∙ ends.unnumbered)
      (said ∙ ends.unrequested) none.1
  witnessed_at accepted released (inr ends) =
      witnessed_stream checked now last sender left now_left source_failed source_ended before after sink_failed
      new outcome sent is_requested confirmed number said numbered ends accepted released

  module _ (serves : ServesOut checked was now left now_left source_failed source_ended before after sink_failed old new
      sender outcome) where
    pub served_by : IsServed checked left now_left source_failed source_ended before after sink_failed
        (served_of outcome sent is_requested confirmed number last)
    served_by = served_at (ending serves)

    pub holds_by : (held : Option Hold) → held ≡ now.held → (slot : ℕ) → outcome.slot ≡ Some slot → Holds held slot
    holds_by held same = holds_at held same (ending serves)

    pub witnessed_by : IsAcceptedLog checked last.seen → ReleasesIf outcome.slot sent now sender last
        → IsWitnessed checked (served_of outcome sent is_requested confirmed number last)
    witnessed_by accepted released = witnessed_at accepted released (ending serves)
