-- Up to where clients were sent the log, after a connection has heard a piece, and after it was ended.
use Rattle.std.proofs.Common.{◌≡◌, ℕ, Bool, true, false, List, refl, sym, ◌∙◌, ap, subst, cond, eq-eqb, ne_eqb}
use Rattle.std.specs.Prelude.{slice_get, slice_set, Option, Some, None}
use Rattle.std.proofs.lemmas.Option.{slice_get_within}
use mathlib.Core.Logic.{dite}
use native.Mathlib.Decide.{ℕ_discrete}
use Rattle.tables_log.proofs.PlaceLemmas.{get_set_beside, get_set_here}
use Rattle.copy_both.specs.Ears.{ear_started}
use Rattle.publisher_desk.specs.SlotEvents.{AreSent, KeepsSent, sent_at, sent_of}
use Rattle.publisher_desk.specs.declared.connection_state.ConnectionState.{ConnectionState}
use Rattle.publisher_desk.specs.declared.slot_event.Acquisition.{Acquisition}
use Rattle.publisher_desk.proofs.SentLemmas.{sets_sent}
use Rattle.senders.specs.Hearing.{sent_started}
use Rattle.senders.specs.Listening.{NotesStartIf}
use Rattle.senders.specs.declared.listener.Listener.{Listener}

-- ---- the state of one connection

-- a client was sent what it was sent before
pub kept_state : (connections : List ConnectionState) (slot : ℕ) (old new : ConnectionState)
    → slice_get connections slot ≡ Some old → new.sent ≡ old.sent
    → AreSent (sent_at connections) (slice_set connections slot new)
kept_state connections slot old new at same other = dite (ℕ_discrete other slot)
    (λ here.
    ap (sent_at (slice_set connections slot new)) here
    ∙ (ap sent_of (get_set_here connections slot new (slice_get_within connections slot old at))
    ∙ (same ∙ sym (ap (sent_at connections) here ∙ ap sent_of at))))
    (λ apart. ap sent_of (get_set_beside connections slot other new apart))

-- no stream was started
pub no_stream : (started : Option (ℕ × ℕ)) (was_started : Bool) (connections : List ConnectionState)
    → ((stream : ℕ × ℕ) → started ≡ Some stream → ⊥)
    → AreSent (sent_started started was_started (sent_at connections)) connections
no_stream None was_started connections none slot = refl
no_stream (Some stream) was_started connections none slot = absurd (none stream refl)

pub none_found : {A : Type 0} (found : Option A) → ((x : A) → found ≡ Some x → ⊥) → found ≡ None
none_found None none = refl
none_found (Some x) none = absurd (none x refl)

-- the slot of the stream has no connection
nothing_there : (stream : ℕ × ℕ) (was_started : Bool) (connections : List ConnectionState)
    → slice_get connections stream.0 ≡ None
    → AreSent (sent_started (Some stream) was_started (sent_at connections)) connections
nothing_there stream true connections missing slot = refl
nothing_there stream false connections missing slot = dite (ℕ_discrete slot stream.0)
    (λ here.
    ap (sent_at connections) here
    ∙ (ap sent_of missing
    ∙ sym (ap (λ b. cond b 0 (sent_at connections slot)) (eq-eqb slot stream.0 here))))
    (λ apart. sym (ap (λ b. cond b 0 (sent_at connections slot)) (ne_eqb slot stream.0 apart)))

pub no_connection : (started : Option (ℕ × ℕ)) (stream : ℕ × ℕ) (was_started : Bool)
    (connections : List ConnectionState) (found : Option ConnectionState) → started ≡ Some stream
    → found ≡ slice_get connections stream.0 → ((one : ConnectionState) → found ≡ Some one → ⊥)
    → AreSent (sent_started started was_started (sent_at connections)) connections
no_connection started stream was_started connections found is at none =
    subst (λ (o : Option (ℕ × ℕ)). AreSent (sent_started o was_started (sent_at connections)) connections) (sym is)
    (nothing_there stream was_started connections (sym at ∙ none_found found none))

-- it has one
set_there : (stream : ℕ × ℕ) (was_started : Bool) (connections : List ConnectionState) (old new : ConnectionState)
    → slice_get connections stream.0 ≡ Some old → (was_started ≡ false → new.sent ≡ 0)
    → (was_started ≡ true → new.sent ≡ old.sent)
    → AreSent (sent_started (Some stream) was_started (sent_at connections)) (slice_set connections stream.0 new)
set_there stream true connections old new at begins goes_on =
    kept_state connections stream.0 old new at (goes_on refl)
set_there stream false connections old new at begins goes_on =
    sets_sent connections stream.0 0 new (begins refl) (slice_get_within connections stream.0 old at)

pub stream_state : (started : Option (ℕ × ℕ)) (stream : ℕ × ℕ) (was_started : Bool)
    (connections : List ConnectionState) (old new : ConnectionState) → started ≡ Some stream
    → slice_get connections stream.0 ≡ Some old → (was_started ≡ false → new.sent ≡ 0)
    → (was_started ≡ true → new.sent ≡ old.sent)
    → AreSent (sent_started started was_started (sent_at connections)) (slice_set connections stream.0 new)
stream_state started stream was_started connections old new is at begins goes_on =
    subst (λ (o : Option (ℕ × ℕ)). AreSent (sent_started o was_started (sent_at connections))
    (slice_set connections stream.0 new)) (sym is)
    (set_there stream was_started connections old new at begins goes_on)

-- ---- a piece

none_begins : (started : Option (ℕ × ℕ)) (was_started : Bool) (known : ℕ → ℕ) → (was_started ≡ false → started ≡ None)
    → (slot : ℕ) → sent_started started was_started known slot ≡ known slot
none_begins None was_started known none slot = refl
none_begins (Some stream) true known none slot = refl
none_begins (Some stream) false known none slot = absurd (let nothing : Some stream ≡ None = none refl in cc)

-- Of what clients were sent a piece changes nothing but that the client of the slot that is acquired was sent nothing.
pub keeps_sent : (was_started : Bool) (confirmed : List ℕ) (number : ℕ) (heard after : Listener)
    (acquired : Option Acquisition) → NotesStartIf was_started confirmed number heard after acquired
    → (old new : List ConnectionState) → AreSent (sent_started (ear_started after.ear) was_started (sent_at old)) new
    → KeepsSent acquired old new
keeps_sent was_started confirmed number heard after None (same, none) old new sent slot =
    sent slot
    ∙ none_begins (ear_started after.ear) was_started (sent_at old)
    (λ fresh. ap (λ (listener : Listener). ear_started listener.ear) same ∙ none fresh) slot
keeps_sent was_started confirmed number heard after (Some one) notes old new sent slot =
    sent slot
    ∙ (ap (λ (b : Bool). sent_started (ear_started after.ear) b (sent_at old) slot) notes.began
    ∙ ap (λ (started : Option (ℕ × ℕ)). sent_started started false (sent_at old) slot)
    (ap ear_started notes.ear_is ∙ notes.started_is))
