use Rattle.std.proofs.Common.{refl, ap, ◌+◌, ◌++◌, ◌∙◌, ◌∷◌, [], length, List, ℕ}
use Rattle.std.specs.Int.{to_be_bytes, w32}
use Rattle.test_subscriber.proofs.StartQueryLemmas.{query_asked}
use Rattle.test_subscriber.proofs.start_query.append_query.Goals as goal

pub returns : goal.returns
returns c = record {
  ok = query_asked c.args.text.now c.args.out.now.items c.put-3.new.out.items (length c.args.text.now + 5)
      c.if-text-gt-LONGEST.false refl
      (c.put-3.ensures.items ∙ ap (λ (bytes : List ℕ). bytes ++ 0 ∷ []) (c.put-2.ensures.items
      ∙ ap (λ (bytes : List ℕ). bytes ++ c.args.text.now) (c.put_int32.ensures.items
      ∙ ap (λ (bytes : List ℕ). bytes ++ to_be_bytes w32 (length c.args.text.now + 5)) (c.put.ensures.items
      ∙ ap (λ (bytes : List ℕ). bytes ++ 81 ∷ []) c.in_ok-reserve.ensures.items))));
  fault = tt;
  err = tt;
}
