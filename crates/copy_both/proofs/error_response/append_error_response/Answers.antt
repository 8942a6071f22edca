use Rattle.std.proofs.Common.{◌≡◌, List, ℕ, [], ◌∷◌, ◌++◌, ◌+◌, length, sym, ◌∙◌, ap, refl, arith}
use Rattle.std.specs.Int.{to_be_bytes, w32}
use Rattle.copy_both.specs.Refusals.{refusal_view, code_of, refusal_text, error_fields}
use Rattle.copy_both.proofs.RefusalLemmas.{severities, fields_are, length-fields, joined_9}
use Rattle.copy_both.proofs.error_response.append_error_response.Goals as goal

pub returns-clause-ok : goal.returns-clause-ok
returns-clause-ok c =
    let out : List ℕ = c.args.out.now.items in
    let code : List ℕ = c.code-code.result.now in
    let before : List ℕ = c.words-words.result.before.now in
    let name : List ℕ = c.words-words.result.name.now in
    let after : List ℕ = c.words-words.result.after.now in
    let text : List ℕ = refusal_text (refusal_view c.args.refusal.now) in
    let size : ℕ = length before + length name + length after + 28 in
    let chain : c.put-4.new.out.items
    ≡ out ++ (69 ∷ []) ++ to_be_bytes w32 size ++ severities ++ code ++ (0 ∷ 77 ∷ []) ++ before ++ name ++ after
    ++ (0 ∷ 0 ∷ []) =
    rw (
      c.put-4.ensures.items,
      c.put_text-4.ensures.items,
      c.put_text-3.ensures.items,
      c.put_text-2.ensures.items,
      c.put-3.ensures.items,
      c.put_text.ensures.items,
      c.put-2.ensures.items,
      c.put_int32.ensures.items,
      c.put.ensures.items,
      c.reserve.ensures.items,
    ) refl in
    let fields : severities ++ (code ++ ((0 ∷ 77 ∷ []) ++ (before ++ (name ++ (after ++ (0 ∷ 0 ∷ []))))))
    ≡ error_fields (code_of (refusal_view c.args.refusal.now)) text =
    fields_are code before name after ∙ ap (error_fields code) c.words-words.ensures.text
    ∙ ap (λ sent. error_fields sent text) c.code-code.ensures.code in
    let same : size ≡ length (error_fields (code_of (refusal_view c.args.refusal.now)) text) + 4 =
    omega (
      arith,
      c.words-words.ensures.length,
      length-fields (code_of (refusal_view c.args.refusal.now)) text
          (ap length (sym c.code-code.ensures.code) ∙ c.code-code.ensures.five),
    ) in
    chain ∙ joined_9 out (69 ∷ []) (to_be_bytes w32 size) severities code (0 ∷ 77 ∷ []) before name after (0 ∷ 0 ∷ [])
    ∙ ap (λ body. out ++ (69 ∷ (to_be_bytes w32 size ++ body))) fields
    ∙ ap (λ n. out ++ (69 ∷ (to_be_bytes w32 n ++ error_fields (code_of (refusal_view c.args.refusal.now)) text))) same
