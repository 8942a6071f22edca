-- The answers to what was heard are sent frame by frame.
use Rattle.std.proofs.Common.{◌≡◌, ℕ, ◌+◌, ◌-◌, ◌≤◌, List, [], ◌∷◌, ◌++◌, replicate, refl, sym, ap, ◌∙◌, append_assoc, arith}
use Rattle.std.specs.Prelude.{false, Option, Result, Ok, Err, OnErr}
use Rattle.std.specs.List.{concat}
use Rattle.std.proofs.lemmas.List.{append-nil, replicate_more, replicate-append-replicate}
use Rattle.std.proofs.lemmas.List.Folds.{concat-append}
use Rattle.copy_both.specs.Hearing.{HeardOf}
use Rattle.copy_both.specs.Links.{SendsFirst, opening, begun_stage, replies, closing, frames_by, stage_by, ended_stage}
use Rattle.copy_both.specs.Voices.{StageOf, Sends, Closes, voice_checked, voice_stage, voice_output, kept_bytes}
use Rattle.copy_both.specs.declared.voice.Voice.{Voice}

concat_one : (xs : List ℕ) → concat (xs ∷ []) ≡ xs
concat_one xs = append-nil xs

concat_more : (n : ℕ) (k : List ℕ) → concat (replicate (n + 1) k) ≡ concat (replicate n k) ++ k
concat_more n k =
    ap concat (sym (replicate_more n k)) ∙ concat-append (replicate n k) (k ∷ [])
    ∙ ap (λ (x : List ℕ). concat (replicate n k) ++ x) (concat_one k)

-- ---- keepalives

pub no_replies : (voice : Voice) (k : List ℕ) → Sends voice voice (concat (replicate 0 k)) (voice_stage voice)
no_replies voice k = record { checked = refl; stage_is = refl; output = sym (append-nil (voice_output voice)) }

pub one_reply : (first now next : Voice) (stage : StageOf) (clock n : ℕ)
    → Sends first now (concat (replies stage n clock)) stage
    → Sends now next (kept_bytes (voice_stage now) clock false) (voice_stage now)
    → Sends first next (concat (replies stage (n + 1) clock)) stage
one_reply first now next stage clock n so_far says =
    let k : List ℕ = kept_bytes stage clock false in
    record {
      checked = says.checked ∙ so_far.checked;
      stage_is = says.stage_is ∙ so_far.stage_is;
      output =
          says.output
          ∙ ap (λ (s : StageOf). voice_output now ++ kept_bytes s clock false) so_far.stage_is
          ∙ ap (λ (x : List ℕ). x ++ k) so_far.output
          ∙ append_assoc (voice_output first) (concat (replicate n k)) k
          ∙ ap (λ (x : List ℕ). voice_output first ++ x) (sym (concat_more n k));
    }

pub reply_fails : (first now next : Voice) (stage : StageOf) (clock n count : ℕ)
    → Sends first now (concat (replies stage n clock)) stage
    → Closes now next → n ≤ count → SendsFirst first next (replies stage count clock)
reply_fails first now next stage clock n count so_far closes few =
    let k : List ℕ = kept_bytes stage clock false in
    let sum : n + (count - n) ≡ count = omega arith in
    record {
      said = replicate n k;
      others = replicate (count - n) k;
      all = replicate-append-replicate n (count - n) k ∙ ap (λ (m : ℕ). replicate m k) sum;
      says = record {
        checked = closes.checked ∙ so_far.checked;
        stage_is = closes.stage_is;
        output = closes.output ∙ so_far.output;
      };
    }

-- ---- all of it

pub on_err : {A E : Type 0} (result : Result A E) (P : Type 0) → P → OnErr result P
on_err (Ok value) P so = tt
on_err (Err error) P so = so

joined : (first opening closing : List ℕ) (between : List (List ℕ))
    → ((first ++ opening) ++ concat between) ++ closing ≡ first ++ concat (opening ∷ (between ++ closing ∷ []))
joined first opening closing between =
    append_assoc (first ++ opening) (concat between) closing ∙ append_assoc first opening (concat between ++ closing)
    ∙ ap (λ (x : List ℕ). first ++ (opening ++ (concat between ++ x))) (sym (concat_one closing))
    ∙ ap (λ (x : List ℕ). first ++ (opening ++ x)) (sym (concat-append between (closing ∷ [])))

pub all_said : (first opened replied last : Voice) (started : Option (ℕ × ℕ)) (heard : HeardOf) (clock : ℕ)
    → Sends first opened (opening (voice_stage first) started)
    (begun_stage (voice_checked first) (voice_stage first) started)
    → Sends opened replied (concat (replies (voice_stage opened) heard.replies clock)) (voice_stage opened)
    → Sends replied last (closing (voice_stage replied) heard.ended) (ended_stage heard.ended (voice_stage replied))
    → Sends first last (concat (frames_by (voice_checked first) (voice_stage first) started heard clock))
    (stage_by (voice_checked first) (voice_stage first) started heard)
all_said first opened replied last started heard clock opens answers ends =
    let begun : StageOf = begun_stage (voice_checked first) (voice_stage first) started in
    let after : voice_stage replied ≡ begun = answers.stage_is ∙ opens.stage_is in
    record {
      checked = ends.checked ∙ answers.checked ∙ opens.checked;
      stage_is = ends.stage_is ∙ ap (ended_stage heard.ended) after;
      output =
          ends.output
          ∙ ap (λ (s : StageOf). voice_output replied ++ closing s heard.ended) after
          ∙ ap (λ (x : List ℕ). x ++ closing begun heard.ended) answers.output
          ∙ ap (λ (s : StageOf). (voice_output opened ++ concat (replies s heard.replies clock))
          ++ closing begun heard.ended) opens.stage_is
          ∙ ap (λ (x : List ℕ). (x ++ concat (replies begun heard.replies clock)) ++ closing begun heard.ended)
          opens.output
          ∙ joined (voice_output first) (opening (voice_stage first) started) (closing begun heard.ended)
          (replies begun heard.replies clock);
    }

pub not_opened : (first opened : Voice) (frames : List (List ℕ)) → Closes first opened → SendsFirst first opened frames
not_opened first opened frames closes = record {
  said = [];
  others = frames;
  all = refl;
  says = record {
    checked = closes.checked;
    stage_is = closes.stage_is;
    output = closes.output
        ∙ sym (append-nil (voice_output first));
  };
}

pub not_replied : (first opened replied : Voice) (started : Option (ℕ × ℕ)) (heard : HeardOf) (clock : ℕ)
    → Sends first opened (opening (voice_stage first) started)
    (begun_stage (voice_checked first) (voice_stage first) started)
    → SendsFirst opened replied (replies (voice_stage opened) heard.replies clock)
    → SendsFirst first replied (frames_by (voice_checked first) (voice_stage first) started heard clock)
not_replied first opened replied started heard clock opens some =
    let begun : StageOf = begun_stage (voice_checked first) (voice_stage first) started in
    let start : List ℕ = opening (voice_stage first) started in
    let end : List (List ℕ) = closing begun heard.ended ∷ [] in
    record {
      said = start ∷ some.said;
      others = some.others ++ end;
      all =
          ap (λ (x : List (List ℕ)). start ∷ x)
          (sym (append_assoc some.said some.others end) ∙ ap (λ (x : List (List ℕ)). x ++ end) some.all
          ∙ ap (λ (s : StageOf). replies s heard.replies clock ++ end) opens.stage_is);
      says = record {
        checked = some.says.checked ∙ opens.checked;
        stage_is = some.says.stage_is;
        output =
            some.says.output ∙ ap (λ (x : List ℕ). x ++ concat some.said) opens.output
            ∙ append_assoc (voice_output first) start (concat some.said);
      };
    }

pub not_ended : (first opened replied last : Voice) (started : Option (ℕ × ℕ)) (heard : HeardOf) (clock : ℕ)
    → Sends first opened (opening (voice_stage first) started)
    (begun_stage (voice_checked first) (voice_stage first) started)
    → Sends opened replied (concat (replies (voice_stage opened) heard.replies clock)) (voice_stage opened)
    → Closes replied last
    → SendsFirst first last (frames_by (voice_checked first) (voice_stage first) started heard clock)
not_ended first opened replied last started heard clock opens answers closes =
    let begun : StageOf = begun_stage (voice_checked first) (voice_stage first) started in
    let start : List ℕ = opening (voice_stage first) started in
    record {
      said = start ∷ replies begun heard.replies clock;
      others = closing begun heard.ended ∷ [];
      all = refl;
      says = record {
        checked = closes.checked ∙ answers.checked ∙ opens.checked;
        stage_is = closes.stage_is;
        output =
            closes.output ∙ answers.output
            ∙ ap (λ (s : StageOf). voice_output opened ++ concat (replies s heard.replies clock)) opens.stage_is
            ∙ ap (λ (x : List ℕ). x ++ concat (replies begun heard.replies clock)) opens.output
            ∙ append_assoc (voice_output first) start (concat (replies begun heard.replies clock));
      };
    }
