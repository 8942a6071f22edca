-- What is flushed of a voice, and that it tells on.
use Rattle.std.proofs.Common.{◌≡◌, ℕ, List, [], ◌++◌, length, take, drop, refl, sym, ◌∙◌, ap, subst, append_assoc, take-append-drop}
use Rattle.std.specs.Prelude.{Bool, Option}
use Rattle.std.specs.Io.KnownBytes.{Appends}
use Rattle.std.proofs.KnownBytes.{Appends-nil, Appends-trans}
use lib.Seq.{take-append_seam, drop-append_seam}
use Rattle.copy_both.specs.VoiceLaws.{VoiceRun, IsTelling}
use Rattle.copy_both.specs.Voices.{Passes, voice_output}
use Rattle.copy_both.specs.declared.voice.Voice.{Voice}
use Rattle.copy_both.proofs.VoiceStreams.{voice_passes_on}
use Rattle.senders.specs.Flushing.{Flushes}

-- Some of it was flushed, and the sink says of itself what it said.
pub record IsFlushing (before after : Option (List ℕ)) (was_failed failed was_refused refused : Bool)
    (old new : Voice) : Type 0 where
  pub flushes : Flushes before after old new
  pub same : failed ≡ was_failed
  pub unrefused : refused ≡ was_refused

pub flushes_none : (known : Option (List ℕ)) (voice : Voice) → Flushes known known voice voice
flushes_none known voice = record { bytes = []; whole = refl; checked = refl; stage_is = refl; put = Appends-nil known }

pub flushes_more : (before middle after : Option (List ℕ)) (old between new : Voice) (count : ℕ)
    → Flushes before middle old between → Appends middle after (take count (voice_output between))
    → Passes between new count → Flushes before after old new
flushes_more before middle after old between new count flushes put passes =
    let front : List ℕ = take count (voice_output between) in
    let split : voice_output between ≡ front ++ voice_output new =
    sym (take-append-drop count (voice_output between)) ∙ ap (λ (rest : List ℕ). front ++ rest) (sym passes.output) in
    record {
      bytes = flushes.bytes ++ front;
      whole = flushes.whole ∙ ap (λ (rest : List ℕ). flushes.bytes ++ rest) split
          ∙ sym (append_assoc flushes.bytes front (voice_output new));
      checked = passes.checked ∙ flushes.checked;
      stage_is = passes.stage_is ∙ flushes.stage_is;
      put = Appends-trans before middle after flushes.bytes front flushes.put put;
    }

-- all bytes that were written, passed on at once
pub flush_passes : (before after : Option (List ℕ)) (old new : Voice) (flushes : Flushes before after old new)
    → Passes old new (length flushes.bytes)
flush_passes before after old new flushes = record {
  checked = flushes.checked;
  stage_is = flushes.stage_is;
  output = sym (ap (drop (length flushes.bytes)) flushes.whole ∙ drop-append_seam flushes.bytes (voice_output new));
}

pub flush_front : (before after : Option (List ℕ)) (old new : Voice) (flushes : Flushes before after old new)
    → take (length flushes.bytes) (voice_output old) ≡ flushes.bytes
flush_front before after old new flushes = ap (take (length flushes.bytes)) flushes.whole
    ∙ take-append_seam flushes.bytes (voice_output new)

pub tells_flushed : (before after : Option (List ℕ)) (old new : Voice) (told : VoiceRun)
    (flushes : Flushes before after old new) → IsTelling old told
    → IsTelling new (record told { passed = told.passed ++ flushes.bytes })
tells_flushed before after old new told flushes tells =
    subst (λ (bytes : List ℕ). IsTelling new (record told { passed = told.passed ++ bytes }))
    (flush_front before after old new flushes)
    (voice_passes_on old new told (length flushes.bytes) tells (flush_passes before after old new flushes))
