-- What a frame does is the expected result, or memory was refused.
use Rattle.std.proofs.Common.{◌≡◌, ℕ, List, refl}
use Rattle.std.specs.Prelude.{Option, Some, None}
use Rattle.tables_log.specs.declared.slots.Slot.{Slot}
use Rattle.copy_both.specs.Hearing.{HeardOf, HearingOf, BeginOf, Begins, Refuses, begun, with_fault}
use Rattle.copy_both.specs.Sessions.{FailsBy, FailsToBegin, IsRefused}
use Rattle.copy_both.specs.declared.link_fault.LinkFault.{LinkFault}
use Rattle.copy_both.specs.declared.link_fault.LinkFault.TheVariants as fault

pub fails_here : (fault : LinkFault) (expected old : HearingOf) → expected ≡ with_fault fault old
    → FailsBy fault expected old old
fails_here fault.OutOfMemory expected old h = refl
fails_here _ expected old h = h

abbrev hearing : Option (ℕ × ℕ) → HeardOf → ℕ → ℕ → List Slot → List ℕ → HearingOf
hearing started heard sent confirmed slots response = record {
  started = started;
  heard = heard;
  sent = sent;
  confirmed = confirmed;
  slots = slots;
  response = response;
  fault = None;
}

refused_so : (fault : LinkFault) (b : BeginOf) (s : Option (ℕ × ℕ)) (h : HeardOf) (n m : ℕ) (before after : List Slot)
    (old new : List ℕ)
    → IsRefused b before after old new fault
    → begun b (hearing s h n m before old) ≡ with_fault fault (hearing s h n m after new)
refused_so fault (Begins slot start) s h n m before after old new is =
    absurd (let clash : None ≡ Some fault = is.fault_is in cc)
refused_so fault (Refuses refusal) s h n m before after old new is = cc (is.fault_is, is.slots, is.response)

-- a start that is refused
pub begun_fails : (fault : LinkFault) (b : BeginOf) (s : Option (ℕ × ℕ)) (h : HeardOf) (n m : ℕ)
    (before after : List Slot) (old new : List ℕ)
    → FailsToBegin fault b before after old new
    → FailsBy fault (begun b (hearing s h n m before old)) (hearing s h n m before old) (hearing s h n m after new)
begun_fails fault.OutOfMemory b s h n m before after old new stays = cc (stays.slots, stays.response)
begun_fails fault.FrameTooLong b s h n m before after old new is =
    refused_so fault.FrameTooLong b s h n m before after old new is
begun_fails fault.BadLength b s h n m before after old new is = refused_so fault.BadLength b s h n m before after old new is
begun_fails (fault.Unexpected byte) b s h n m before after old new is =
    refused_so (fault.Unexpected byte) b s h n m before after old new is
begun_fails (fault.BadStart state) b s h n m before after old new is =
    refused_so (fault.BadStart state) b s h n m before after old new is
begun_fails fault.StatusAhead b s h n m before after old new is =
    refused_so fault.StatusAhead b s h n m before after old new is
begun_fails fault.Closed b s h n m before after old new is = refused_so fault.Closed b s h n m before after old new is
