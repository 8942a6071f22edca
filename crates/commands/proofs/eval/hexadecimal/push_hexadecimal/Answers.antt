use Rattle.std.proofs.Common.{◌≡◌, ◌++◌, List, ℕ, map, sym, subst, ap, ◌∙◌, arith, rules}
use Rattle.std.specs.List.{flat_map}
use Rattle.std.specs.Str.{IsUtf8}
use Rattle.std.specs.String.{string_bytes}
use Rattle.commands.proofs.Digits.{pairs_flat, digits_text}
use Rattle.commands.specs.Eval.Hexadecimal.{digits_of, hexadecimal}
use Rattle.commands.proofs.eval.hexadecimal.push_hexadecimal.Goals as goal

pub text_of-requires : goal.text_of-requires
text_of-requires c =
    let pairs : c.as_slice.result.now ≡ map digits_of c.args.bytes.now = search rules in
    let same : flat_map (λ (pair : List ℕ). pair) c.as_slice.result.now ≡ hexadecimal c.args.bytes.now =
    ap (flat_map (λ (pair : List ℕ). pair)) pairs ∙ pairs_flat c.args.bytes.now in
    subst IsUtf8 (sym same) (digits_text c.args.bytes.now (λ k within. omega (arith, c.type_inv.bytes k)))

pub returns : goal.returns
returns c =
    let pairs : c.as_slice.result.now ≡ map digits_of c.args.bytes.now = search rules in
    let same : flat_map (λ (pair : List ℕ). pair) c.as_slice.result.now ≡ hexadecimal c.args.bytes.now =
    ap (flat_map (λ (pair : List ℕ). pair)) pairs ∙ pairs_flat c.args.bytes.now in
    let text = c.text_of.ensures ∙ same in
    c.in_ok-push_str.ensures.bytes ∙ ap (λ (bytes : List ℕ). string_bytes c.args.line.now ++ bytes) text
