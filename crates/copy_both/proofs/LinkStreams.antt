-- What a link sends is its stream.
use Rattle.std.proofs.Common.{◌≡◌, ℕ, zero, suc, false, List, [], ◌∷◌, ◌++◌, take, drop, replicate, refl, sym, ap, subst, ◌∙◌, append_assoc}
use Rattle.std.specs.Prelude.{slice_get, Option, Some, None}
use Rattle.std.specs.List.{concat, flat_map}
use Rattle.std.proofs.lemmas.List.{append-nil, take-append-drop}
use Rattle.std.proofs.lemmas.List.Folds.{concat-append}
use Rattle.shard_checker.specs.CheckedView.{CheckedOf}
use Rattle.tables_log.specs.Commits.{CommitOf}
use Rattle.copy_frames.specs.Contents.{copy_both_response}
use Rattle.copy_both.specs.Hearing.{HeardOf, HearingOf}
use Rattle.copy_both.specs.LinkLaws.{Run, stream_of, with_moves, IsStreaming, replied, started_at, first_run, Goes, Goes_on, Starts, take_moves, LinkHears, LinkEnds, LinkBreaks, LinkStops, LinkTakes, LinkKeeps, LinkPassesOn, LinkRestPassesOn, LinkFrontPassesOn, LogGrows}
use Rattle.copy_both.specs.Links.{link_checked, link_stage, link_output, frames_by, stage_by, frames_said, closing, ended_stage, next_bytes, next_stage, stage_said}
use Rattle.copy_both.specs.StreamLaws.{Start, HasSent, first_state}
use Rattle.copy_both.specs.Streams.{spelled, Telling, StreamStateOf, Move, Take, Keep, keep_bytes, take_items, taken_state, move_items, moved}
use Rattle.copy_both.specs.Tellings.{telling_of}
use Rattle.copy_both.specs.Voices as voices
use Rattle.copy_both.specs.Voices.{StageOf, kept_bytes}
use Rattle.copy_both.specs.declared.link.Link.{Link}
use Rattle.copy_both.proofs.StreamLemmas.{starts, takes, keeps, passes, grows}

-- ---- replies

speaks_more : (telling : Telling CommitOf) (log : List CommitOf) (start : Start) (moves : List Move)
    (passed output : List ℕ) (state : StreamStateOf) (clock n : ℕ)
    → HasSent telling log start moves passed output state
    → HasSent telling log start (moves ++ replicate n (Keep clock false)) passed
    (output ++ concat (replicate n (keep_bytes state clock false))) state
speaks_more telling log start moves passed output state clock zero speaks =
    subst (λ (m : List Move). HasSent telling log start m passed (output ++ []) state) (sym (append-nil moves))
    (subst (λ (o : List ℕ). HasSent telling log start moves passed o state) (sym (append-nil output)) speaks)
speaks_more telling log start moves passed output state clock (suc n) speaks =
    let keep : Move = Keep clock false in
    let said : List ℕ = keep_bytes state clock false in
    let on : HasSent telling log start ((moves ++ keep ∷ []) ++ replicate n keep) passed
    ((output ++ said) ++ concat (replicate n said)) state =
    speaks_more telling log start (moves ++ keep ∷ []) passed (output ++ said) state clock n
    (keeps telling log start moves passed output state clock false speaks) in
    subst (λ (m : List Move). HasSent telling log start m passed (output ++ (said ++ concat (replicate n said))) state)
    (append_assoc moves (keep ∷ []) (replicate n keep))
    (subst (λ (o : List ℕ). HasSent telling log start ((moves ++ keep ∷ []) ++ replicate n keep) passed o state)
    (append_assoc output said (concat (replicate n said))) on)

concat_last : (xss : List (List ℕ)) (xs : List ℕ) → concat (xss ++ xs ∷ []) ≡ concat xss ++ xs
concat_last xss xs = concat-append xss (xs ∷ []) ∙ ap (λ (x : List ℕ). concat xss ++ x) (append-nil xs)

-- what is sent while it streams
said_on : (checked : CheckedOf) (state : StreamStateOf) (started : Option (ℕ × ℕ)) (heard : HeardOf) (clock : ℕ)
    → concat (frames_by checked (voices.Started state) started heard clock)
    ≡ concat (replicate heard.replies (keep_bytes state clock false)) ++ closing (voices.Started state) heard.ended
said_on checked state started heard clock =
    concat_last (replicate heard.replies (keep_bytes state clock false)) (closing (voices.Started state) heard.ended)

-- ---- what was heard is answered

-- with these bytes it would be at this place, and what is sent comes after them
record IsOpened (old : Link) (h : HearingOf) (clock : ℕ) (run : Run) (state : StreamStateOf) : Type 0 where
  output : List ℕ
  speaks : HasSent (telling_of run.checked) run.log run.start run.moves run.passed output state
  checked_is : link_checked old ≡ run.checked
  said : link_output old ++ concat (frames_said (link_checked old) (link_stage old) h clock)
      ≡ output ++ (concat (replicate h.heard.replies (keep_bytes state clock false))
      ++ closing (voices.Started state) h.heard.ended)
  stage_is : stage_said (link_checked old) (link_stage old) h ≡ ended_stage h.heard.ended (voices.Started state)

opened_on : (old : Link) (run : Run) (state : StreamStateOf) (h : HearingOf) (clock : ℕ) → IsStreaming old run state
    → IsOpened old h clock run state
opened_on old run state h clock streams = record {
  output = link_output old;
  speaks = streams.says;
  checked_is = streams.checked_is;
  said =
      ap (λ (s : StageOf). link_output old ++ concat (frames_said (link_checked old) s h clock)) streams.stage_is
      ∙ ap (λ (x : List ℕ). link_output old ++ x) (said_on (link_checked old) state h.started h.heard clock);
  stage_is = ap (λ (s : StageOf). stage_said (link_checked old) s h) streams.stage_is;
}

opened_first : (old : Link) (log : List CommitOf) (h : HearingOf) (clock : ℕ) (started : ℕ × ℕ)
    → link_stage old ≡ voices.NotStarted
    → link_output old ≡ [] → h.started ≡ Some started
    → IsOpened old h clock (first_run (link_checked old) log started)
    (first_state (started_at (link_checked old) started))
opened_first old log h clock started waits silent is =
    let checked : CheckedOf = link_checked old in
    let start : Start = started_at checked started in
    let state : StreamStateOf = first_state start in
    record {
      output = copy_both_response;
      speaks = starts (telling_of checked) log start;
      checked_is = refl;
      said =
          ap (λ (x : List ℕ). x ++ concat (frames_said checked (link_stage old) h clock)) silent
          ∙ ap (λ (s : StageOf). concat (frames_by checked s h.started h.heard clock)) waits
          ∙ ap (λ (s : Option (ℕ × ℕ)). concat (frames_by checked voices.NotStarted s h.heard clock)) is
          ∙ ap (λ (x : List ℕ). copy_both_response ++ x)
          (concat_last (replicate h.heard.replies (keep_bytes state clock false))
          (closing (voices.Started state) h.heard.ended));
      stage_is =
          ap (λ (s : StageOf). stage_by checked s h.started h.heard) waits
          ∙ ap (λ (s : Option (ℕ × ℕ)). stage_by checked voices.NotStarted s h.heard) is;
    }

opened : (old : Link) (run : Run) (state : StreamStateOf) (h : HearingOf) (clock : ℕ) → Goes old h run state
    → IsOpened old h clock run state
opened old run state h clock (Goes_on streams) = opened_on old run state h clock streams
opened old run state h clock (Starts started at) =
    subst (λ (r : Run). IsOpened old h clock r state) (sym at.run_is)
    (subst (λ (p : StreamStateOf). IsOpened old h clock (first_run (link_checked old) run.log started) p)
    (sym at.state_is)
    (opened_first old run.log h clock started at.waits at.silent at.started_is))

more_said : (old : Link) (run : Run) (state : StreamStateOf) (h : HearingOf) (clock : ℕ)
    (o : IsOpened old h clock run state)
    → HasSent (telling_of run.checked) run.log run.start (run.moves ++ replied h clock) run.passed
    (o.output ++ concat (replicate h.heard.replies (keep_bytes state clock false))) state
more_said old run state h clock o =
    speaks_more (telling_of run.checked) run.log run.start run.moves run.passed o.output state clock h.heard.replies
    o.speaks

pub hears : LinkHears
hears old new run state h heard clock goes none says =
    let o : IsOpened old h clock run state = opened old run state h clock goes in
    let keeps_said : List ℕ = concat (replicate h.heard.replies (keep_bytes state clock false)) in
    let output_is : link_output new ≡ o.output ++ keeps_said =
    says.output ∙ o.said
    ∙ ap (λ (x : List ℕ). o.output ++ x)
    (ap (λ (e : Option ℕ). keeps_said ++ closing (voices.Started state) e) none ∙ append-nil keeps_said) in
    record {
      checked_is = says.checked ∙ o.checked_is;
      stage_is = says.stage_is ∙ o.stage_is ∙ ap (λ (e : Option ℕ). ended_stage e (voices.Started state)) none;
      says =
          subst (λ (x : List ℕ). HasSent (telling_of run.checked) run.log run.start (run.moves ++ replied h clock)
          run.passed x state) (sym output_is)
          (more_said old run state h clock o);
    }

-- all that was sent, with what comes last
said_last : (old : Link) (run : Run) (state : StreamStateOf) (h : HearingOf) (clock : ℕ)
    → IsOpened old h clock run state
    → run.passed ++ (link_output old ++ concat (frames_said (link_checked old) (link_stage old) h clock))
    ≡ stream_of (with_moves run (replied h clock)) ++ closing (voices.Started state) h.heard.ended
said_last old run state h clock o =
    let keeps_said : List ℕ = concat (replicate h.heard.replies (keep_bytes state clock false)) in
    let last : List ℕ = closing (voices.Started state) h.heard.ended in
    ap (λ (x : List ℕ). run.passed ++ x) (o.said ∙ sym (append_assoc o.output keeps_said last))
    ∙ sym (append_assoc run.passed (o.output ++ keeps_said) last)
    ∙ ap (λ (x : List ℕ). x ++ last) (more_said old run state h clock o).bytes

pub ends : LinkEnds
ends old new run state h heard clock kind goes some says =
    let o : IsOpened old h clock run state = opened old run state h clock goes in
    record {
      stage_is = says.stage_is ∙ o.stage_is ∙ ap (λ (e : Option ℕ). ended_stage e (voices.Started state)) some;
      bytes =
          ap (λ (x : List ℕ). run.passed ++ x) says.output ∙ said_last old run state h clock o
          ∙ ap (λ (e : Option ℕ). stream_of (with_moves run (replied h clock)) ++ closing (voices.Started state) e)
          some;
    }

pub breaks : LinkBreaks
breaks old new run state h clock goes some =
    let o : IsOpened old h clock run state = opened old run state h clock goes in
    record {
      stage_is = some.says.stage_is;
      others = concat some.others;
      bytes =
          append_assoc run.passed (link_output new) (concat some.others)
          ∙ ap (λ (x : List ℕ). run.passed ++ x)
          (ap (λ (x : List ℕ). x ++ concat some.others) some.says.output
          ∙ append_assoc (link_output old) (concat some.said) (concat some.others)
          ∙ ap (λ (x : List ℕ). link_output old ++ x) (sym (concat-append some.said some.others) ∙ ap concat some.all))
          ∙ said_last old run state h clock o;
    }

pub stops : LinkStops
stops old new run state streams closes = record {
  stage_is = closes.stage_is;
  bytes =
      ap (λ (x : List ℕ). run.passed ++ x) closes.output ∙ streams.says.bytes ∙ sym (append-nil (stream_of run));
}

-- ---- moves

takes_by : (found : Option CommitOf) (run : Run) (output : List ℕ) (state : StreamStateOf) (clock : ℕ)
    → slice_get run.log state.done ≡ found
    → HasSent (telling_of run.checked) run.log run.start run.moves run.passed output state
    → HasSent (telling_of run.checked) run.log run.start (run.moves ++ take_moves found clock) run.passed
    (output ++ flat_map spelled (take_items (telling_of run.checked) state found clock))
    (taken_state (telling_of run.checked) state found)
takes_by None run output state clock is speaks =
    subst (λ (m : List Move). HasSent (telling_of run.checked) run.log run.start m run.passed (output ++ []) state)
    (sym (append-nil run.moves))
    (subst (λ (o : List ℕ). HasSent (telling_of run.checked) run.log run.start run.moves run.passed o state)
    (sym (append-nil output)) speaks)
takes_by (Some commit) run output state clock is speaks =
    takes (telling_of run.checked) run.log run.start run.moves run.passed output state commit clock speaks is

pub takes_on : LinkTakes
takes_on old new run state clock streams says =
    let telling : Telling CommitOf = telling_of run.checked in
    let output_is : link_output new
    ≡ link_output old ++ flat_map spelled (move_items telling run.log state (Take clock)) =
    says.voice.output
    ∙ ap (λ (s : StageOf). link_output old ++ next_bytes (link_checked old) s run.log clock) streams.stage_is
    ∙ ap (λ (k : CheckedOf). link_output old ++ flat_map spelled (move_items (telling_of k) run.log state (Take clock)))
    streams.checked_is in
    record {
      checked_is = says.voice.checked ∙ streams.checked_is;
      stage_is =
          says.voice.stage_is
          ∙ ap (λ (s : StageOf). next_stage (link_checked old) s run.log clock) streams.stage_is
          ∙ ap (λ (k : CheckedOf). voices.Started (moved (telling_of k) run.log state (Take clock))) streams.checked_is;
      says =
          subst (λ (o : List ℕ).
          HasSent telling run.log run.start (run.moves ++ take_moves (slice_get run.log state.done) clock) run.passed o
          (moved telling run.log state (Take clock)))
          (sym output_is) (takes_by (slice_get run.log state.done) run (link_output old) state clock refl streams.says);
    }

pub keeps_on : LinkKeeps
keeps_on old new run state clock want streams says =
    let telling : Telling CommitOf = telling_of run.checked in
    let output_is : link_output new ≡ link_output old ++ keep_bytes state clock want =
    says.voice.output ∙ ap (λ (s : StageOf). link_output old ++ kept_bytes s clock want) streams.stage_is in
    record {
      checked_is = says.voice.checked ∙ streams.checked_is;
      stage_is = says.voice.stage_is ∙ streams.stage_is;
      says =
          subst (λ (o : List ℕ). HasSent telling run.log run.start (run.moves ++ Keep clock want ∷ []) run.passed o
          state) (sym output_is)
          (keeps telling run.log run.start run.moves run.passed (link_output old) state clock want streams.says);
    }

pub passes_on : LinkPassesOn
passes_on old new run state count streams says =
    let telling : Telling CommitOf = telling_of run.checked in
    record {
      checked_is = says.voice.checked ∙ streams.checked_is;
      stage_is = says.voice.stage_is ∙ streams.stage_is;
      says =
          subst (λ (o : List ℕ). HasSent telling run.log run.start run.moves
          (run.passed ++ take count (link_output old)) o state) (sym says.voice.output)
          (passes telling run.log run.start run.moves run.passed (link_output old) state count streams.says);
    }

-- what was passed on and what waits stay together
passed_more : (passed output rest : List ℕ) (count : ℕ) → rest ≡ drop count output
    → (passed ++ take count output) ++ rest ≡ passed ++ output
passed_more passed output rest count is =
    append_assoc passed (take count output) rest ∙ ap (λ (x : List ℕ). passed ++ (take count output ++ x)) is
    ∙ ap (λ (x : List ℕ). passed ++ x) (take-append-drop count output)

pub rest_passes_on : LinkRestPassesOn
rest_passes_on old new run last count over says = record {
  stage_is = says.voice.stage_is ∙ over.stage_is;
  bytes = passed_more run.passed (link_output old) (link_output new) count says.voice.output ∙ over.bytes;
}

pub front_passes_on : LinkFrontPassesOn
front_passes_on old new run last count begun says = record {
  stage_is = says.voice.stage_is ∙ begun.stage_is;
  others = begun.others;
  bytes = ap (λ (x : List ℕ). x ++ begun.others)
      (passed_more run.passed (link_output old) (link_output new) count says.voice.output) ∙ begun.bytes;
}

pub log_grows : LogGrows
log_grows link run state more streams = record {
  checked_is = streams.checked_is;
  stage_is = streams.stage_is;
  says = grows (telling_of run.checked) run.log more run.start run.moves run.passed (link_output link) state
      streams.says;
}
