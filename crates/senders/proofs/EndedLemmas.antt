-- Which connections have ended after one has heard a piece, and after it was ended.
use Rattle.std.proofs.Common.{◌≡◌, ℕ, Bool, true, false, true≢false, List, refl, sym, ◌∙◌, ap, subst, cond, eq-eqb, ne_eqb}
use Rattle.std.specs.Prelude.{◌==◌, slice_get, slice_set, IfSome, Option, Some, None}
use Rattle.std.proofs.lemmas.Option.{slice_get_within}
use mathlib.Core.Logic.{dite}
use native.Mathlib.Decide.{ℕ_discrete}
use Rattle.tables_log.specs.Slots.{with_use}
use Rattle.tables_log.specs.declared.slots.Slot.{Slot}
use Rattle.tables_log.proofs.PlaceLemmas.{get_set_beside, get_set_here}
use Rattle.copy_both.specs.Ears.{ear_started}
use Rattle.publisher_desk.specs.SlotEvents.{HaveEnded, KeepsEnded, ended_at, ended_of, ended_with}
use Rattle.publisher_desk.specs.declared.connection_state.ConnectionState.{ConnectionState}
use Rattle.publisher_desk.specs.declared.slot_event.Acquisition.{Acquisition}
use Rattle.publisher_desk.specs.declared.slot_event.Confirmation.{Confirmation}
use Rattle.senders.specs.Hearing.{ended_started}
use Rattle.senders.specs.Listening.{NotesConfirmed, NotesStartIf}
use Rattle.senders.specs.declared.listener.Listener.{Listener}
use Rattle.senders.proofs.SentLemmas.{none_found}

-- ---- the state of one connection

-- one that had ended still has
pub kept_end : (connections : List ConnectionState) (slot : ℕ) (old new : ConnectionState)
    → slice_get connections slot ≡ Some old → (old.has_ended ≡ true → new.has_ended ≡ true)
    → HaveEnded (ended_at connections) (slice_set connections slot new)
kept_end connections slot old new at stays other ended = dite (ℕ_discrete other slot)
    (λ here.
    ap (ended_at (slice_set connections slot new)) here
    ∙ (ap ended_of (get_set_here connections slot new (slice_get_within connections slot old at))
    ∙ stays (sym (ap (ended_at connections) here ∙ ap ended_of at) ∙ ended)))
    (λ apart. ap ended_of (get_set_beside connections slot other new apart) ∙ ended)

-- fewer have to
not_this : (started : ℕ × ℕ) (was_started : Bool) (test : ℕ → Bool) (slot : ℕ)
    → ended_started (Some started) was_started test slot ≡ true → test slot ≡ true
not_this started true test slot ended = ended
not_this started false test slot ended = dite (ℕ_discrete slot started.0)
    (λ here. absurd (true≢false (sym ended ∙ ap (λ b. cond b false (test slot)) (eq-eqb slot started.0 here))))
    (λ apart. sym (ap (λ b. cond b false (test slot)) (ne_eqb slot started.0 apart)) ∙ ended)

fewer : (started : Option (ℕ × ℕ)) (was_started : Bool) (test : ℕ → Bool) (slot : ℕ)
    → ended_started started was_started test slot ≡ true → test slot ≡ true
fewer None was_started test slot ended = ended
fewer (Some one) was_started test slot ended = not_this one was_started test slot ended

-- nothing was set
pub unset_ended : (started : Option (ℕ × ℕ)) (was_started : Bool) (connections : List ConnectionState)
    → HaveEnded (ended_started started was_started (ended_at connections)) connections
unset_ended started was_started connections slot ended = fewer started was_started (ended_at connections) slot ended

-- so it is of the connection of the stream
set_ended : (stream : ℕ × ℕ) (was_started : Bool) (connections : List ConnectionState) (old new : ConnectionState)
    → slice_get connections stream.0 ≡ Some old
    → (was_started ≡ true → old.has_ended ≡ true → new.has_ended ≡ true)
    → HaveEnded (ended_started (Some stream) was_started (ended_at connections)) (slice_set connections stream.0 new)
set_ended stream true connections old new at stays other ended =
    kept_end connections stream.0 old new at (stays refl) other ended
set_ended stream false connections old new at stays other ended = dite (ℕ_discrete other stream.0)
    (λ here. absurd (true≢false (sym ended
    ∙ ap (λ b. cond b false (ended_at connections other)) (eq-eqb other stream.0 here))))
    (λ apart. ap ended_of (get_set_beside connections stream.0 other new apart)
    ∙ not_this stream false (ended_at connections) other ended)

pub stream_ended : (started : Option (ℕ × ℕ)) (stream : ℕ × ℕ) (was_started : Bool)
    (connections : List ConnectionState) (old new : ConnectionState) → started ≡ Some stream
    → slice_get connections stream.0 ≡ Some old
    → (was_started ≡ true → old.has_ended ≡ true → new.has_ended ≡ true)
    → HaveEnded (ended_started started was_started (ended_at connections)) (slice_set connections stream.0 new)
stream_ended started stream was_started connections old new is at stays =
    subst (λ (o : Option (ℕ × ℕ)). HaveEnded (ended_started o was_started (ended_at connections))
    (slice_set connections stream.0 new)) (sym is)
    (set_ended stream was_started connections old new at stays)

its_slot : (one other : ℕ × ℕ) → ◌≡◌ {A = Option (ℕ × ℕ)} (Some one) (Some other) → one.0 ≡ other.0
its_slot one other same = let alike : one ≡ other = cc in ap (λ (s : ℕ × ℕ). s.0) alike

-- the connection of the stream has ended, or there is none
pub set_here : (started : Option (ℕ × ℕ)) (stream : ℕ × ℕ) (connections : List ConnectionState)
    (old new : ConnectionState) → started ≡ Some stream → slice_get connections stream.0 ≡ Some old
    → new.has_ended ≡ true → (other : ℕ × ℕ) → started ≡ Some other
    → ended_at (slice_set connections stream.0 new) other.0 ≡ true
set_here started stream connections old new is at ends other same =
    ap (ended_at (slice_set connections stream.0 new)) (its_slot other stream (sym same ∙ is))
    ∙ (ap ended_of (get_set_here connections stream.0 new (slice_get_within connections stream.0 old at)) ∙ ends)

pub none_here : (started : Option (ℕ × ℕ)) (stream : ℕ × ℕ) (connections : List ConnectionState)
    (found : Option ConnectionState) → started ≡ Some stream → found ≡ slice_get connections stream.0
    → ((one : ConnectionState) → found ≡ Some one → ⊥) → (other : ℕ × ℕ) → started ≡ Some other
    → ended_at connections other.0 ≡ true
none_here started stream connections found is at none other same =
    ap (ended_at connections) (its_slot other stream (sym same ∙ is))
    ∙ ap ended_of (sym at ∙ none_found found none)

-- ---- a piece

none_begins : (started : Option (ℕ × ℕ)) (was_started : Bool) (test : ℕ → Bool) → (was_started ≡ false → started ≡ None)
    → (slot : ℕ) → test slot ≡ true → ended_started started was_started test slot ≡ true
none_begins None was_started test none slot ended = ended
none_begins (Some stream) true test none slot ended = ended
none_begins (Some stream) false test none slot ended = absurd (let nothing : Some stream ≡ None = none refl in cc)

starts_ended : (was_started : Bool) (confirmed : List ℕ) (number : ℕ) (heard after : Listener)
    (acquired : Option Acquisition) → NotesStartIf was_started confirmed number heard after acquired
    → (old new : List ConnectionState)
    → HaveEnded (ended_started (ear_started after.ear) was_started (ended_at old)) new
    → HaveEnded (ended_with acquired None (ended_at old)) new
starts_ended was_started confirmed number heard after None (same, none) old new ended slot is =
    ended slot (none_begins (ear_started after.ear) was_started (ended_at old)
    (λ fresh. ap (λ (listener : Listener). ear_started listener.ear) same ∙ none fresh) slot is)
starts_ended was_started confirmed number heard after (Some one) notes old new ended slot is =
    ended slot (ap (λ (b : Bool). ended_started (ear_started after.ear) b (ended_at old) slot) notes.began
    ∙ (ap (λ (started : Option (ℕ × ℕ)). ended_started started false (ended_at old) slot)
    (ap ear_started notes.ear_is ∙ notes.started_is) ∙ is))

ahead_ended : (b : Bool) (number : ℕ) (test : ℕ → Bool) (connections : List ConnectionState)
    → HaveEnded test connections → (b ≡ true → ended_at connections number ≡ true) → (slot : ℕ)
    → cond b (cond (slot == number) true (test slot)) (test slot) ≡ true → ended_at connections slot ≡ true
ahead_ended false number test connections ended ahead slot is = ended slot is
ahead_ended true number test connections ended ahead slot is = dite (ℕ_discrete slot number)
    (λ here. ap (ended_at connections) here ∙ ahead refl)
    (λ apart. ended slot (sym (ap (λ b. cond b true (test slot)) (ne_eqb slot number apart)) ∙ is))

-- an equal test, slot by slot
spread : (b : Bool) (number : ℕ) (test : ℕ → Bool) (slot : ℕ) → cond b (with_use number true test) test slot ≡ true
    → cond b (cond (slot == number) true (test slot)) (test slot) ≡ true
spread true number test slot is = is
spread false number test slot is = is

confirms_ended : (acquired : Option Acquisition) (confirmed : Option Confirmation) (old new : List ConnectionState)
    → HaveEnded (ended_with acquired None (ended_at old)) new
    → IfSome confirmed (λ one. one.is_ahead ≡ true → ended_at new one.slot ≡ true)
    → KeepsEnded acquired confirmed old new
confirms_ended None None old new ended ahead slot is = ended slot is
confirms_ended (Some it) None old new ended ahead slot is = ended slot is
confirms_ended None (Some one) old new ended ahead slot is =
    ahead_ended one.is_ahead one.slot (ended_at old) new ended ahead slot (spread one.is_ahead one.slot (ended_at old) slot is)
confirms_ended (Some it) (Some one) old new ended ahead slot is =
    ahead_ended one.is_ahead one.slot (ended_with (Some it) None (ended_at old)) new ended ahead slot
    (spread one.is_ahead one.slot (ended_with (Some it) None (ended_at old)) slot is)

pub keeps_ended : (was_started : Bool) (positions : List ℕ) (number : ℕ) (heard after : Listener)
    (acquired : Option Acquisition) (confirmed : Option Confirmation)
    → NotesStartIf was_started positions number heard after acquired → (old new : List ConnectionState)
    → HaveEnded (ended_started (ear_started after.ear) was_started (ended_at old)) new
    → IfSome confirmed (λ one. one.is_ahead ≡ true → ended_at new one.slot ≡ true)
    → KeepsEnded acquired confirmed old new
keeps_ended was_started positions number heard after acquired confirmed notes old new ended ahead =
    confirms_ended acquired confirmed old new
    (starts_ended was_started positions number heard after acquired notes old new ended) ahead

-- a status that is noted as ahead has ended the connection of its stream
pub ahead_there : (confirmed : Option Confirmation) (is_ahead : Bool) (before : List ℕ) (slots : List Slot)
    (started now : Option (ℕ × ℕ)) → started ≡ now → (connections : List ConnectionState)
    → IfSome confirmed (λ one. one.is_ahead ≡ is_ahead) → NotesConfirmed started before slots confirmed
    → (is_ahead ≡ true → (stream : ℕ × ℕ) → now ≡ Some stream → ended_at connections stream.0 ≡ true)
    → IfSome confirmed (λ one. one.is_ahead ≡ true → ended_at connections one.slot ≡ true)
ahead_there None is_ahead before slots started now same connections marks notes ends = tt
ahead_there (Some one) is_ahead before slots started now same connections marks notes ends = λ ahead.
    ends (sym marks ∙ ahead) (one.slot, notes.0.0) (sym same ∙ notes.0.1)
