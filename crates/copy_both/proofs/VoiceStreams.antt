-- What a voice sends is its stream.
use Rattle.std.proofs.Common.{◌≡◌, ℕ, suc, ◌+◌, Bool, List, [], ◌∷◌, ◌++◌, length, take, refl, sym, ap, subst, ◌∙◌, append_assoc, arith, length-append}
use Rattle.std.specs.Prelude.{slice_get, Some}
use Rattle.std.proofs.lemmas.List.{append-nil, take-append-drop}
use Rattle.shard_checker.specs.CheckedView.{CheckedOf}
use Rattle.tables_log.specs.Commits.{CommitOf}
use Rattle.copy_frames.specs.Contents.{copy_both_response}
use Rattle.copy_both.specs.LinkLaws.{started_at}
use Rattle.copy_both.specs.StreamLaws.{Start, HasSent, first_state}
use Rattle.copy_both.specs.Streams.{Telling, StreamStateOf, Move, Take, Keep, keep_bytes, state_after, take_bytes, stream}
use Rattle.copy_both.specs.Tellings.{telling_of}
use Rattle.copy_both.specs.VoiceLaws.{AreAt, Follow, takes_in, start_count, VoiceStarts, VoiceTakes, VoiceKeeps, VoicePassesOn, VoiceIsDone, VoiceStops, RestPassesOn}
use Rattle.copy_both.specs.Voices as voices
use Rattle.copy_both.specs.Voices.{StageOf, voice_checked, voice_stage, voice_output, entry_bytes, entry_stage, kept_bytes, done_bytes}
use Rattle.copy_both.proofs.StreamLemmas.{starts, takes, keeps, passes}

-- ---- one more commit

first_ones : (log : List CommitOf) (place : ℕ) (commits : List CommitOf) (commit : CommitOf)
    → AreAt log place (commits ++ commit ∷ []) → AreAt log place commits
first_ones log place [] commit are = tt
first_ones log place (first ∷ commits) commit are = (are.0, first_ones log (suc place) commits commit are.1)

last_one : (log : List CommitOf) (place : ℕ) (commits : List CommitOf) (commit : CommitOf)
    → AreAt log place (commits ++ commit ∷ [])
    → slice_get log (place + length commits) ≡ Some commit
last_one log place [] commit are = let same : place + 0 ≡ place = omega arith in ap (slice_get log) same ∙ are.0
last_one log place (first ∷ commits) commit are =
    let same : place + suc (length commits) ≡ suc place + length commits = omega arith in
    ap (slice_get log) same ∙ last_one log (suc place) commits commit are.1

follow_on : (count : ℕ) (commits : List CommitOf) (commit : CommitOf) → Follow count commits
    → commit.number ≡ suc (count + length commits)
    → Follow count (commits ++ commit ∷ [])
follow_on count [] commit follow is = let same : suc (count + 0) ≡ suc count = omega arith in (is ∙ same, tt)
follow_on count (first ∷ commits) commit follow is =
    let same : suc (count + suc (length commits)) ≡ suc (suc count + length commits) = omega arith in
    (follow.0, follow_on (suc count) commits commit follow.1 (is ∙ same))

takes_more : (moves : List Move) (clock : ℕ) → takes_in (moves ++ Take clock ∷ []) ≡ suc (takes_in moves)
takes_more [] clock = refl
takes_more (Take other ∷ moves) clock = ap suc (takes_more moves clock)
takes_more (Keep other want ∷ moves) clock = takes_more moves clock

takes_kept : (moves : List Move) (clock : ℕ) (want : Bool) → takes_in (moves ++ Keep clock want ∷ []) ≡ takes_in moves
takes_kept [] clock want = refl
takes_kept (Take other ∷ moves) clock want = ap suc (takes_kept moves clock want)
takes_kept (Keep other wanted ∷ moves) clock want = takes_kept moves clock want

length-push : (commits : List CommitOf) (commit : CommitOf) → length (commits ++ commit ∷ []) ≡ suc (length commits)
length-push commits commit = let grown = length-append commits (commit ∷ []) in omega (arith, grown)

-- ---- calls

pub voice_starts : VoiceStarts
voice_starts old new slot position waits silent says = record {
  checked_is = says.checked;
  state = first_state (started_at (voice_checked old) (slot, position));
  stage_is = says.stage_is;
  slot = refl;
  done = omega arith;
  follow = tt;
  takes = refl;
  speaks = λ log are.
      let start : Start = started_at (voice_checked old) (slot, position) in
      subst (λ (o : List ℕ). HasSent (telling_of (voice_checked old)) log start [] [] o (first_state start))
      (sym (says.output ∙ ap (λ (o : List ℕ). o ++ copy_both_response) silent))
      (starts (telling_of (voice_checked old)) log start);
}

pub voice_takes : VoiceTakes
voice_takes old new run commit clock telling number says =
    let state : StreamStateOf = telling.state in
    let telling_is : Telling CommitOf = telling_of run.checked in
    let stage_is : voice_stage new ≡ voices.Started (state_after telling_is state commit) =
    says.stage_is ∙ ap (λ (s : StageOf). entry_stage (voice_checked old) s commit) telling.stage_is
    ∙ ap (λ (k : CheckedOf). voices.Started (state_after (telling_of k) state commit)) telling.checked_is in
    let output_is : voice_output new ≡ voice_output old ++ take_bytes telling_is state commit clock =
    says.output ∙ ap (λ (s : StageOf). voice_output old ++ entry_bytes (voice_checked old) s commit clock)
    telling.stage_is
    ∙ ap (λ (k : CheckedOf). voice_output old ++ take_bytes (telling_of k) state commit clock) telling.checked_is in
    record {
      checked_is = says.checked ∙ telling.checked_is;
      state = state_after telling_is state commit;
      stage_is = stage_is;
      slot = telling.slot;
      done = omega (arith, telling.done, length-push run.taken commit);
      follow = follow_on (start_count run) run.taken commit telling.follow number;
      takes = takes_more run.moves clock ∙ ap suc telling.takes ∙ sym (length-push run.taken commit);
      speaks = λ log are.
          let found : slice_get log state.done ≡ Some commit = ap (slice_get log) telling.done
          ∙ last_one log (start_count run) run.taken commit are in
          subst (λ (o : List ℕ). HasSent telling_is log run.start (run.moves ++ Take clock ∷ []) run.passed o
          (state_after telling_is state commit)) (sym output_is)
          (takes telling_is log run.start run.moves run.passed (voice_output old) state commit clock
          (telling.speaks log (first_ones log (start_count run) run.taken commit are)) found);
    }

pub voice_keeps : VoiceKeeps
voice_keeps old new run clock want telling says =
    let state : StreamStateOf = telling.state in
    let output_is : voice_output new ≡ voice_output old ++ keep_bytes state clock want =
    says.output ∙ ap (λ (s : StageOf). voice_output old ++ kept_bytes s clock want) telling.stage_is in
    record {
      checked_is = says.checked ∙ telling.checked_is;
      state = state;
      stage_is = says.stage_is ∙ telling.stage_is;
      slot = telling.slot;
      done = telling.done;
      follow = telling.follow;
      takes = takes_kept run.moves clock want ∙ telling.takes;
      speaks = λ log are.
          subst (λ (o : List ℕ). HasSent (telling_of run.checked) log run.start (run.moves ++ Keep clock want ∷ [])
          run.passed o state) (sym output_is)
          (keeps (telling_of run.checked) log run.start run.moves run.passed (voice_output old) state clock want
          (telling.speaks log are));
    }

pub voice_passes_on : VoicePassesOn
voice_passes_on old new run count telling passed = record {
  checked_is = passed.checked ∙ telling.checked_is;
  state = telling.state;
  stage_is = passed.stage_is ∙ telling.stage_is;
  slot = telling.slot;
  done = telling.done;
  follow = telling.follow;
  takes = telling.takes;
  speaks = λ log are.
      subst (λ (o : List ℕ). HasSent (telling_of run.checked) log run.start run.moves
      (run.passed ++ take count (voice_output old)) o telling.state)
      (sym passed.output)
      (passes (telling_of run.checked) log run.start run.moves run.passed (voice_output old) telling.state count
      (telling.speaks log are));
}

-- ---- the end

pub voice_is_done : VoiceIsDone
voice_is_done old new run telling says = record {
  stage_is = says.stage_is;
  follow = telling.follow;
  takes = telling.takes;
  bytes = λ log are.
      let last : List ℕ = done_bytes (voice_stage old) in
      ap (λ (x : List ℕ). run.passed ++ x) says.output ∙ sym (append_assoc run.passed (voice_output old) last)
      ∙ ap (λ (x : List ℕ). x ++ last) (telling.speaks log are).bytes;
}

pub voice_stops : VoiceStops
voice_stops old new run telling closes = record {
  stage_is = closes.stage_is;
  follow = telling.follow;
  takes = telling.takes;
  bytes = λ log are.
      ap (λ (x : List ℕ). run.passed ++ x) closes.output ∙ (telling.speaks log are).bytes
      ∙ sym (append-nil (stream (telling_of run.checked) log run.start.slot run.start.tables run.start.position
      run.moves));
}

pub rest_passes_on : RestPassesOn
rest_passes_on old new run last count over passed = record {
  stage_is = passed.stage_is ∙ over.stage_is;
  follow = over.follow;
  takes = over.takes;
  bytes = λ log are.
      append_assoc run.passed (take count (voice_output old)) (voice_output new)
      ∙ ap (λ (x : List ℕ). run.passed ++ (take count (voice_output old) ++ x)) passed.output
      ∙ ap (λ (x : List ℕ). run.passed ++ x) (take-append-drop count (voice_output old))
      ∙ over.bytes log are;
}
