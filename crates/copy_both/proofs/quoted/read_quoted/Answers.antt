use Rattle.std.proofs.Common.{rules, arith, ◌≡◌, ◌++◌, ◌∷◌, [], Some, None, string_bytes, encode_utf8, ◌∙◌}
use Rattle.std.proofs.lemmas.Str.Pattern.{split_parts}
use Rattle.copy_both.proofs.QuotedLoops.{Lacks, text_closes, text_goes_on, text_ends}
use Rattle.copy_both.proofs.quoted.read_quoted.Goals as goal

pub returns-then-first_byte-quote-clause-value : goal.returns-then-first_byte-quote-clause-value
returns-then-first_byte-quote-clause-value c =
    let parts = split_parts c.from.result c.loop-part.rest.now (Some (c.in-Some.part, c.in-Some.after))
    c.in-Some.ensures.cases (omega arith) in
    let there : c.loop-part.rest.now ≡ c.in-Some.part.now ++ (c.args.quote ∷ c.in-Some.after.now) =
    rw c.from.ensures at parts.0 in
    let lacks : Lacks c.args.quote c.in-Some.part.now = rw c.from.ensures at parts.1 in
    text_closes c.args.quote c.args.text.now c.loop-part.rest.now c.in-Some.part.now c.in-Some.after.now
    (string_bytes c.loop-part.meant) _
    c.loop-part.invariant.so_far c.loop-part.invariant.fewer there lacks (search rules)
    (c.new.ensures ∙ c.in_ok-push_str.ensures.bytes)

pub loop-part-preserved : goal.loop-part-preserved
loop-part-preserved c =
    let parts = split_parts c.from.result c.loop-part.rest.now (Some (c.in-Some.part, c.in-Some.after))
    c.in-Some.ensures.cases (omega arith) in
    let there : c.loop-part.rest.now ≡ c.in-Some.part.now ++ (c.args.quote ∷ c.in-Some.after.now) =
    rw c.from.ensures at parts.0 in
    let lacks : Lacks c.args.quote c.in-Some.part.now = rw c.from.ensures at parts.1 in
    let pushed : string_bytes c.push.new.self ≡ string_bytes c.loop-part.meant ++ c.in-Some.part.now
    ++ (c.args.quote ∷ []) =
    let ascii : encode_utf8 c.from-in-Some.result ≡ c.from-in-Some.result ∷ [] =
    c.in_ok-push.ensures.ascii (omega arith) in
    cc (c.in_ok-push.ensures.bytes, c.in_ok-push_str.ensures.bytes, c.from-in-Some.ensures, ascii) in
    let next =
    text_goes_on c.args.quote c.args.text.now c.loop-part.rest.now c.in-Some.part.now c.in-Some.after.now
    c.after_first-rest.result.now
    (string_bytes c.loop-part.meant) (string_bytes c.push.new.self)
    c.loop-part.invariant.so_far c.loop-part.invariant.fewer there lacks c.requires.some (search rules)
    c.after_first-rest.ensures pushed in
    record { so_far = next.0; fewer = next.1; utf8 = c.after_first-rest.utf8 }

pub returns-clause-value : goal.returns-clause-value
returns-clause-value c =
    let lacks = split_parts c.from.result c.loop-part.rest.now None c.in_default.ensures.cases (omega arith) in
    text_ends c.args.quote c.args.text.now c.loop-part.rest.now (string_bytes c.loop-part.meant) _
    c.loop-part.invariant.so_far (rw c.from.ensures at lacks)
