-- Slots, of which one is changed.
use Rattle.std.proofs.Common.{◌≡◌, ℕ, ◌≢◌, Bool, List, refl, ap, ◌∙◌}
use Rattle.std.specs.Prelude.{Option, Some, None, max, slice_get}
use Rattle.std.proofs.lemmas.Option.{slice_get_within}
use Rattle.tables_log.specs.Slots.{changed, change_at, confirmed_of, confirmed_at, with_stream, raised}
use Rattle.tables_log.specs.declared.slots.Slot.{Slot}
use Rattle.tables_log.proofs.PlaceLemmas.{get_set_here, get_set_beside}
use Rattle.shard_world.specs.Joined.{HasSlot}

pub changed_here : (slots : List Slot) (number : ℕ) (slot : Slot) (change : Slot → Slot)
    → slice_get slots number ≡ Some slot
    → slice_get (change_at slots number change) number ≡ Some (change slot)
changed_here slots number slot change at =
    ap (λ found. slice_get (changed slots number found change) number) at
    ∙ get_set_here slots number (change slot) (slice_get_within slots number slot at)

changed_beside : (slots : List Slot) (number other : ℕ) (found : Option Slot) (change : Slot → Slot) → other ≢ number
    → slice_get (changed slots number found change) other ≡ slice_get slots other
changed_beside slots number other None change apart = refl
changed_beside slots number other (Some slot) change apart = get_set_beside slots number other (change slot) apart

pub others_stay : (slots : List Slot) (number other : ℕ) (change : Slot → Slot) → other ≢ number
    → slice_get (change_at slots number change) other ≡ slice_get slots other
others_stay slots number other change apart = changed_beside slots number other (slice_get slots number) change apart

pub streams_slot : (slots : List Slot) (number confirmed : ℕ) (before after : Bool)
    → HasSlot slots number confirmed before
    → HasSlot (change_at slots number (with_stream after)) number confirmed after
streams_slot slots number confirmed before after at =
    changed_here slots number (record { confirmed = confirmed; taken = before }) (with_stream after) at

pub raised_slot : (slots : List Slot) (number confirmed position : ℕ) (taken : Bool)
    → HasSlot slots number confirmed taken
    → HasSlot (change_at slots number (raised position)) number (max confirmed position) taken
raised_slot slots number confirmed position taken at =
    changed_here slots number (record { confirmed = confirmed; taken = taken }) (raised position) at

pub confirmed_is : (slots : List Slot) (number confirmed : ℕ) (taken : Bool) → HasSlot slots number confirmed taken
    → confirmed_at slots number ≡ confirmed
confirmed_is slots number confirmed taken at = ap confirmed_of at
