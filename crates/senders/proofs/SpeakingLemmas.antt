-- What is said last.
use Rattle.std.proofs.Common.{◌≡◌, ◌⊎◌, ℕ, List, [], ◌++◌, refl, sym, ◌∙◌, ap, inl, inr}
use Rattle.std.specs.Prelude.{Bool, false, true, Option, Some, Result, Ok, Err, OnOk, MatchResult}
use Rattle.std.proofs.KnownBytes.{Appends-nil}
use Rattle.tables_log.specs.Commits.{CommitOf}
use Rattle.copy_frames.specs.Contents.{copy_done}
use Rattle.copy_both.specs.VoiceLaws.{VoiceRun}
use Rattle.copy_both.specs.Voices as voices
use Rattle.copy_both.specs.Voices.{Sends, done_bytes, voice_output, voice_stage}
use Rattle.copy_both.specs.declared.voice.Voice.{Voice}
use Rattle.senders.specs.Flushing.{Flushes}
use Rattle.senders.specs.Sending.{StopsAs}
use Rattle.senders.specs.Speaking.{Answers, Closes, Done, IsClosing, IsQuietAt, IsResting, Nothing, Refused, SaysLast}
use Rattle.senders.specs.declared.listener_end.ListenerEnd.{ListenerEnd}
use Rattle.senders.specs.declared.listener_end.ListenerEnd.TheVariants as listener_end
use Rattle.senders.specs.declared.sender_end.SenderEnd.{SenderEnd}
use Rattle.senders.specs.declared.sender_end.SenderEnd.TheVariants as sender_end

-- the sender did not fail
abbrev pub IsQuietStop : SenderEnd → Type 0
IsQuietStop s = (s ≡ sender_end.ConnectionEnded) ⊎ (s ≡ sender_end.Finished)

pub says_so : (s now : SenderEnd) (why : Option ListenerEnd) (before after : Option (List ℕ)) (was_failed failed : Bool)
    → IsQuietStop s → Closes s now why before after failed → SaysLast s now why before after was_failed failed
says_so sender_end.ConnectionEnded now why before after was_failed failed quiet closes = closes
says_so sender_end.Finished now why before after was_failed failed quiet closes = closes
says_so sender_end.WriteFault now why before after was_failed failed (inl is) closes = cc
says_so sender_end.WriteFault now why before after was_failed failed (inr is) closes = cc
says_so sender_end.OutOfMemory now why before after was_failed failed (inl is) closes = cc
says_so sender_end.OutOfMemory now why before after was_failed failed (inr is) closes = cc

-- nothing was said
says_empty : (s now : SenderEnd) (why : Option ListenerEnd) (known : Option (List ℕ)) (failed : Bool) → IsQuietStop s
    → IsClosing s now why [] → SaysLast s now why known known failed failed
says_empty s now why known failed quiet closing =
    says_so s now why known known failed failed quiet
    (record {
      last = [];
      said = Nothing refl;
      closing = closing;
      written = [];
      rest = [];
      bytes = refl;
      put =
          Appends-nil known;
      all = λ sound. refl;
    })

pub says_none : (s : SenderEnd) (why : Option ListenerEnd) (known : Option (List ℕ)) (failed : Bool) → IsQuietStop s
    → (why ≡ Some (listener_end.Frame 99) → ⊥) → SaysLast s s why known known failed failed
says_none s why known failed quiet not =
    says_empty s s why known failed quiet (Answers refl (λ done. absurd (not done)))

pub says_refused : (s : SenderEnd) (why : Option ListenerEnd) (known : Option (List ℕ)) (failed : Bool) → IsQuietStop s
    → SaysLast s sender_end.OutOfMemory why known known failed failed
says_refused s why known failed quiet = says_empty s sender_end.OutOfMemory why known failed quiet (Refused refl)

resting_at : (s : SenderEnd) (voice : Voice) → IsQuietStop s → IsQuietAt s voice → IsResting voice
resting_at sender_end.ConnectionEnded voice quiet rests = rests
resting_at sender_end.Finished voice quiet rests = rests
resting_at sender_end.WriteFault voice (inl is) rests = cc
resting_at sender_end.WriteFault voice (inr is) rests = cc
resting_at sender_end.OutOfMemory voice (inl is) rests = cc
resting_at sender_end.OutOfMemory voice (inr is) rests = cc

none_left : {E : Type 0} (result : Result (Unit {0}) E) (rest : List ℕ) (was_failed failed : Bool)
    → OnOk result (rest ≡ [])
    → MatchResult result (λ done. failed ≡ was_failed) (λ error. failed ≡ true) → failed ≡ false → rest ≡ []
none_left (Ok done) rest was_failed failed all says sound = all
none_left (Err error) rest was_failed failed all says sound = cc

pub says_done : {E : Type 0} (s : SenderEnd) (why : Option ListenerEnd) (before after : Option (List ℕ))
    (was_failed failed : Bool) (old done new : Voice) (result : Result (Unit {0}) E) → IsQuietStop s → IsQuietAt s old
    → why ≡ Some (listener_end.Frame 99) → Sends old done (done_bytes (voice_stage old)) voices.Closed
    → Flushes before after done new → OnOk result (voice_output new ≡ [])
    → MatchResult result (λ done. failed ≡ was_failed) (λ error. failed ≡ true)
    → SaysLast s s why before after was_failed failed
says_done s why before after was_failed failed old done new result quiet at is says flushes all fails =
    let rests : IsResting old = resting_at s old quiet at in
    let whole : done_bytes (voice_stage old) ≡ copy_done = ap done_bytes rests.stage_is in
    says_so s s why before after was_failed failed quiet
    (record {
      last = done_bytes (voice_stage old);
      said = Done whole is;
      closing = Answers refl (λ done. whole);
      written = flushes.bytes;
      rest = voice_output new;
      bytes = sym flushes.whole ∙ says.output
          ∙ ap (λ (waiting : List ℕ). waiting ++ done_bytes (voice_stage old)) rests.none;
      put = flushes.put;
      all = none_left result (voice_output new) was_failed failed all fails;
    })

-- a sender that did not fail has written all, and its stream goes on
pub rests : (s : SenderEnd) (before after : Option (List ℕ)) (taken : List CommitOf) (voice : Voice) (told : VoiceRun)
    → StopsAs s before after taken voice told → IsQuietAt s voice
rests sender_end.ConnectionEnded before after taken voice told goes =
    record { none = goes.quiet.none; state = goes.quiet.tells.state; stage_is = goes.quiet.tells.stage_is }
rests sender_end.Finished before after taken voice told goes =
    record { none = goes.quiet.none; state = goes.quiet.tells.state; stage_is = goes.quiet.tells.stage_is }
rests sender_end.WriteFault before after taken voice told breaks = tt
rests sender_end.OutOfMemory before after taken voice told starves = tt
