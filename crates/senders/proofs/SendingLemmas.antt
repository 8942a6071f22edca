-- What a sender does with a stream, step by step.
use Rattle.std.proofs.Common.{◌≡◌, ◌⊎◌, ℕ, suc, ◌+◌, ◌<◌, ◌^◌, List, [], ◌∷◌, ◌++◌, length, map, refl, sym, ◌∙◌, ap, subst, append_assoc, append-nil, inl, inr, arith}
use Rattle.std.specs.Prelude.{All, Bool, true, false, Option, Some, Result, Ok, Err, OnOk, OnErr, MatchResult}
use Rattle.std.specs.Result.{is_err}
use Rattle.std.proofs.lemmas.List.{map-append}
use Rattle.std.proofs.lemmas.List.Elements.{All-append, All-cons, All-nil}
use Rattle.std.proofs.KnownBytes.{Appends-nil, Appends-trans}
use Rattle.tables_log.specs.Commits.{CommitOf}
use Rattle.copy_both.specs.Streams.{Take, Keep, stream}
use Rattle.copy_both.specs.Tellings.{telling_of}
use Rattle.copy_both.specs.VoiceLaws.{VoiceRun, IsTelling, start_count}
use Rattle.copy_both.specs.Voices.{Closes, Sends, entry_bytes, entry_stage, kept_bytes, next_of, voice_checked, voice_output, voice_stage}
use Rattle.copy_both.specs.declared.voice.Voice.{Voice}
use Rattle.copy_both.proofs.VoiceStreams.{voice_keeps, voice_stops, voice_takes}
use Rattle.stream_laws.specs.LayoutRoom.{IsClocked}
use Rattle.senders.specs.Flushing.{Flushes}
use Rattle.senders.specs.Sending.{Breaks, Follows, GoesOn, IsQuiet, Spells, StopsAs, TakesUp, TellsAs, TellsOn}
use Rattle.senders.specs.declared.sender_end.SenderEnd.{SenderEnd}
use Rattle.senders.specs.declared.sender_end.SenderEnd.TheVariants as sender_end
use Rattle.senders.proofs.FlushingLemmas.{tells_flushed}

-- ---- a voice that tells spells its stream

pub spells : (voice : Voice) (told : VoiceRun) → IsTelling voice told → Spells told (voice_output voice) []
spells voice told tells = record {
  follow = tells.follow;
  takes = tells.takes;
  bytes = λ log are.
      (tells.speaks log are).bytes
      ∙ sym (append-nil (stream (telling_of told.checked) log told.start.slot told.start.tables
      told.start.position told.moves));
}

module _ (before after : Option (List ℕ)) (told : VoiceRun) where
  pub tells_first : (voice : Voice) → All IsClocked told.moves → IsQuiet voice told
      → TellsOn before before [] voice told
  tells_first voice clocks quiet = record {
    clocks = clocks;
    now = told;
    bytes = [];
    put = Appends-nil before;
    follows = record {
      checked_is = refl;
      start_is = refl;
      taken_is = sym (append-nil told.taken);
      passed_is =
          sym (append-nil told.passed);
    };
    tells = quiet.tells;
  }

  pub takes_up : (taken : List CommitOf) (old new : Voice) (commit : CommitOf) (number clock : ℕ) → clock < 2 ^ 64
      → TellsOn before after taken old told → next_of (voice_stage old) ≡ Some number
      → commit.number ≡ number
      → Sends old new (entry_bytes (voice_checked old) (voice_stage old) commit clock)
      (entry_stage (voice_checked old) (voice_stage old) commit)
      → TellsOn before after (taken ++ commit ∷ []) new told
  takes_up taken old new commit number clock timed on next is says =
      let tells = on.tells in
      let counted : Some (tells.state.done + 1) ≡ Some number = sym (ap next_of tells.stage_is) ∙ next in
      let count : tells.state.done + 1 ≡ number = cc in
      let done = tells.done in
      let place : commit.number ≡ suc (start_count on.now + length on.now.taken) = omega arith in
      let after_it = voice_takes old new on.now commit clock tells place says in
      record {
        now = record on.now { taken = on.now.taken ++ commit ∷ []; moves = _ };
        bytes = on.bytes;
        put = on.put;
        follows = record {
          checked_is = on.follows.checked_is;
          start_is = on.follows.start_is;
          taken_is = ap (λ (commits : List CommitOf). commits ++ commit ∷ []) on.follows.taken_is
              ∙ append_assoc told.taken taken (commit ∷ []);
          passed_is = on.follows.passed_is;
        };
        clocks = All-append IsClocked on.now.moves (Take clock ∷ []) on.clocks
            (All-cons IsClocked (Take clock) [] timed (All-nil IsClocked));
        tells = after_it;
      }

  pub keeps_alive : (taken : List CommitOf) (old new : Voice) (clock : ℕ) (want : Bool) → clock < 2 ^ 64
      → TellsOn before after taken old told
      → Sends old new (kept_bytes (voice_stage old) clock want) (voice_stage old) → TellsOn before after taken new told
  keeps_alive taken old new clock want timed on says = record {
    clocks = All-append IsClocked on.now.moves (Keep clock want ∷ []) on.clocks
        (All-cons IsClocked (Keep clock want) [] timed (All-nil IsClocked));
    now = record on.now { moves = _ };
    bytes = on.bytes;
    put = on.put;
    follows = record {
      checked_is = on.follows.checked_is;
      start_is = on.follows.start_is;
      taken_is = on.follows.taken_is;
      passed_is = on.follows.passed_is;
    };
    tells = voice_keeps old new on.now clock want on.tells says;
  }

  -- ---- it stops in the midst of it

  pub breaks : (taken : List CommitOf) (voice : Voice) → TellsOn before after taken voice told
      → Breaks before after taken voice told
  breaks taken voice on = record {
    now = on.now;
    bytes = on.bytes;
    put = on.put;
    follows = on.follows;
    clocks = on.clocks;
    spells = spells voice on.now on.tells;
  }

  pub breaks_closed : (taken : List CommitOf) (old new : Voice) → TellsOn before after taken old told → Closes old new
      → Breaks before after taken new told
  breaks_closed taken old new on closes =
      let has = voice_stops old new on.now on.tells closes in
      record {
        now = on.now;
        bytes = on.bytes;
        put = on.put;
        follows = on.follows;
        clocks = on.clocks;
        spells = record { follow = has.follow; takes = has.takes; bytes = has.bytes };
      }

  -- ---- what waits is written, or a part of it

  follows_flushed : (taken : List CommitOf) (now : VoiceRun) (bytes more : List ℕ) → Follows told now taken bytes
      → Follows told (record now { passed = now.passed ++ more }) taken (bytes ++ more)
  follows_flushed taken now bytes more follows = record {
    checked_is = follows.checked_is;
    start_is = follows.start_is;
    taken_is = follows.taken_is;
    passed_is = ap (λ (passed : List ℕ). passed ++ more) follows.passed_is ∙ append_assoc told.passed bytes more;
  }

  pub tells_written : (last : Option (List ℕ)) (taken : List CommitOf) (old new : Voice)
      → TellsOn before after taken old told → Flushes after last old new → TellsOn before last taken new told
  tells_written last taken old new on flushes = record {
    now = record on.now { passed = on.now.passed ++ flushes.bytes };
    bytes = on.bytes ++ flushes.bytes;
    put = Appends-trans before after last on.bytes flushes.bytes on.put flushes.put;
    follows = follows_flushed taken on.now on.bytes flushes.bytes on.follows;
    clocks = on.clocks;
    tells = tells_flushed after last old new on.now flushes on.tells;
  }

  pub breaks_written : (last : Option (List ℕ)) (taken : List CommitOf) (old new : Voice)
      → Breaks before after taken old told → Flushes after last old new → Breaks before last taken new told
  breaks_written last taken old new broken flushes = record {
    now = record broken.now { passed = broken.now.passed ++ flushes.bytes };
    bytes = broken.bytes ++ flushes.bytes;
    put = Appends-trans before after last broken.bytes flushes.bytes broken.put flushes.put;
    follows = follows_flushed taken broken.now broken.bytes flushes.bytes broken.follows;
    clocks = broken.clocks;
    spells = record {
      follow = broken.spells.follow;
      takes = broken.spells.takes;
      bytes = λ log are.
          append_assoc broken.now.passed flushes.bytes (voice_output new)
          ∙ ap (λ (waiting : List ℕ). broken.now.passed ++ waiting) (sym flushes.whole)
          ∙ broken.spells.bytes log are;
    };
  }

-- ---- a sender stops, and what waits is written

goes_on : (before after : Option (List ℕ)) (told : VoiceRun) (taken : List CommitOf) (voice : Voice)
    → TellsOn before after taken voice told → voice_output voice ≡ [] → GoesOn before after taken voice told
goes_on before after told taken voice on none = record {
  now = on.now;
  bytes = on.bytes;
  put = on.put;
  follows = on.follows;
  clocks = on.clocks;
  quiet = record { tells = on.tells; none = none };
}

pub not_fault : (s : SenderEnd) → (s ≡ sender_end.ConnectionEnded) ⊎ ((s ≡ sender_end.Finished) ⊎ (s ≡ sender_end.OutOfMemory)) → s ≡ sender_end.WriteFault
    → ⊥
not_fault s (inl told) fault = cc
not_fault s (inr (inl finished)) fault = cc
not_fault s (inr (inr starved)) fault = cc

module _ (before after last : Option (List ℕ)) (told : VoiceRun) (taken : List CommitOf) (old new : Voice)
    (flushes : Flushes after last old new) where
  pub writes_all : (s : SenderEnd) → (s ≡ sender_end.WriteFault → ⊥) → TellsAs s before after taken old told
      → voice_output new ≡ [] → StopsAs s before last taken new told
  writes_all sender_end.ConnectionEnded not tells none =
      goes_on before last told taken new (tells_written before after told last taken old new tells flushes) none
  writes_all sender_end.Finished not tells none =
      goes_on before last told taken new (tells_written before after told last taken old new tells flushes) none
  writes_all sender_end.WriteFault not tells none = absurd (not refl)
  writes_all sender_end.OutOfMemory not tells none = record {
    breaks = breaks_written before after told last taken old new tells flushes;
    none = none;
  }

  pub writes_part : (s : SenderEnd) → TellsAs s before after taken old told → Breaks before last taken new told
  writes_part sender_end.ConnectionEnded tells =
      breaks before last told taken new (tells_written before after told last taken old new tells flushes)
  writes_part sender_end.Finished tells =
      breaks before last told taken new (tells_written before after told last taken old new tells flushes)
  writes_part sender_end.WriteFault tells = breaks_written before after told last taken old new tells flushes
  writes_part sender_end.OutOfMemory tells = breaks_written before after told last taken old new tells flushes

-- ---- a turn of the sender

pub on_ok : {A E : Type 0} (result : Result A E) (test : Bool) (P : Type 0) → test ≡ is_err result → test ≡ false
    → OnOk result P → P
on_ok (Ok value) test P is good holds = holds
on_ok (Err error) test P is good holds = absurd (let no_error : true ≡ false = sym is ∙ good in cc)

pub on_err : {A E : Type 0} (result : Result A E) (test : Bool) (P : Type 0) → test ≡ is_err result → test ≡ true
    → OnErr result P → P
on_err (Ok value) test P is bad holds = absurd (let no_value : false ≡ true = sym is ∙ bad in cc)
on_err (Err error) test P is bad holds = holds

pub if_err : {A E : Type 0} (result : Result A E) (test : Bool) (P Q : Type 0) → test ≡ is_err result → test ≡ true
    → MatchResult result (λ value. P) (λ error. Q) → Q
if_err (Ok value) test P Q is bad says = absurd (let no_value : false ≡ true = sym is ∙ bad in cc)
if_err (Err error) test P Q is bad says = says

-- some of what waited is written, and then it goes on or stops
module _ {X : Type 0} (view : X → CommitOf) (before middle after : Option (List ℕ)) (told : VoiceRun)
    (first kept : List X) (old between : Voice) (on : TellsOn before middle (map view first) old told)
    (flushes : Flushes middle after old between) (same : kept ≡ first) where
  pub tells_kept : TellsOn before after (map view kept) between told
  tells_kept =
      subst (λ (commits : List X). TellsOn before after (map view commits) between told) (sym same)
      (tells_written before middle told after (map view first) old between on flushes)

  pub breaks_kept : Breaks before after (map view kept) between told
  breaks_kept = breaks before after told (map view kept) between tells_kept

  pub breaks_at : (new : Voice) → Closes between new → Breaks before after (map view kept) new told
  breaks_at new closes = breaks_closed before after told (map view kept) between new tells_kept closes

  pub tells_entry : (pushed : List X) (commit : X) (shown : CommitOf) (new : Voice) (next : Option ℕ)
      (number clock : ℕ) → clock < 2 ^ 64 → next ≡ next_of (voice_stage old) → next ≡ Some number
      → shown.number ≡ number → shown ≡ view commit
      → Sends between new (entry_bytes (voice_checked between) (voice_stage between) shown clock)
      (entry_stage (voice_checked between) (voice_stage between) shown)
      → pushed ≡ kept ++ commit ∷ [] → TellsOn before after (map view pushed) new told
  tells_entry pushed commit shown new next number clock timed next_is some numbered is says more =
      subst (λ (taken : List CommitOf). TellsOn before after taken new told)
      (sym (ap (map view) more ∙ map-append view kept (commit ∷ [])))
      (subst (λ (last : CommitOf). TellsOn before after (map view kept ++ last ∷ []) new told) is
      (takes_up before after told (map view kept) between new shown number clock timed tells_kept
      (ap next_of flushes.stage_is ∙ sym next_is ∙ some) numbered says))

  pub tells_reply : (new : Voice) (clock : ℕ) (want : Bool) → clock < 2 ^ 64
      → Sends between new (kept_bytes (voice_stage between) clock want) (voice_stage between)
      → TellsOn before after (map view kept) new told
  tells_reply new clock want timed says =
      keeps_alive before after told (map view kept) between new clock want timed tells_kept says

  pub tells_skips : (pushed commits : List X) (new : Voice) → TakesUp (map view commits) between new
      → pushed ≡ kept ++ commits → TellsOn before after (map view pushed) new told
  tells_skips pushed commits new skips more =
      subst (λ (taken : List CommitOf). TellsOn before after taken new told)
      (sym (ap (map view) more ∙ map-append view kept commits))
      (skips before after (map view kept) told tells_kept)

  pub breaks_unchanged : (left : List X) (new : Voice) → left ≡ kept → new ≡ between
      → Breaks before after (map view left) new told
  breaks_unchanged left new left_is new_is =
      subst (λ (commits : List X). Breaks before after (map view commits) new told) (sym left_is)
      (subst (λ (voice : Voice). Breaks before after (map view kept) voice told) (sym new_is) breaks_kept)
