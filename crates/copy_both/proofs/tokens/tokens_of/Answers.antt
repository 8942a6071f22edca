use Rattle.std.proofs.Common.{rules, arith, ◌≡◌, ◌<◌, length, drop, Some, IsUtf8, ◌∙◌, ap, sym, subst, append-nil}
use Rattle.std.proofs.lemmas.Str.{IsUtf8-drop}
use Rattle.copy_both.specs.declared.token.Piece.TheVariants.{Blank, Whole, Bad}
use Rattle.copy_both.specs.CommandTokens.{front, tokens_from}
use Rattle.copy_both.specs.TokenPlaces.{EndsAscii}
use Rattle.copy_both.proofs.Cuts.{cut_after, front_piece}
use Rattle.copy_both.proofs.TokenLoops.{after_tokens, at_end, at_blank, at_bad, one_more}
use Rattle.copy_both.proofs.tokens.tokens_of.Goals as goal

pub split_at-requires : goal.split_at-requires
split_at-requires c =
    let some : 0 < length c.loop-rest.rest.now = search rules in
    let e : front c.loop-rest.rest.now ≡ Blank = cc (c.in_ok-front.ensures, c.in-Blank.is) in
    let ends : EndsAscii c.loop-rest.rest.now 1 = rw e at (front_piece c.loop-rest.rest.now some) in
    cut_after c.loop-rest.rest.now 1 c.loop-rest.invariant.utf8 ends

pub split_at-requires-in-Whole : goal.split_at-requires-in-Whole
split_at-requires-in-Whole c =
    let some : 0 < length c.loop-rest.rest.now = search rules in
    let e : front c.loop-rest.rest.now ≡ Whole c.in-Whole.token c.in-Whole.length =
    cc (c.in_ok-front.ensures, c.in-Whole.is) in
    let ends : EndsAscii c.loop-rest.rest.now c.in-Whole.length = rw e at (front_piece c.loop-rest.rest.now some) in
    cut_after c.loop-rest.rest.now c.in-Whole.length c.loop-rest.invariant.utf8 ends

pub loop-rest-preserved-in-Blank : goal.loop-rest-preserved-in-Blank
loop-rest-preserved-in-Blank c =
    let rest = c.loop-rest.rest.now in
    let some : 0 < length rest = search rules in
    let e : front rest ≡ Blank = cc (c.in_ok-front.ensures, c.in-Blank.is) in
    let ends : EndsAscii rest 1 = rw e at (front_piece rest some) in
    record {
      so_far =
          ap (λ left. after_tokens c.loop-rest.tokens.items (tokens_from 0 left)) c.split_at.ensures.back
          ∙ ap (after_tokens c.loop-rest.tokens.items) (sym (at_blank rest some e)) ∙ c.loop-rest.invariant.so_far;
      utf8 = subst IsUtf8 (sym c.split_at.ensures.back)
          (IsUtf8-drop rest 1 c.loop-rest.invariant.utf8 (cut_after rest 1 c.loop-rest.invariant.utf8 ends));
    }

pub loop-rest-smaller : goal.loop-rest-smaller
loop-rest-smaller c =
    let rest = c.loop-rest.rest.now in
    let some : 0 < length rest = search rules in
    let e : front rest ≡ Whole c.in-Whole.token c.in-Whole.length = cc (c.in_ok-front.ensures, c.in-Whole.is) in
    let ends : EndsAscii rest c.in-Whole.length = rw e at (front_piece rest some) in
    omega (arith, c.split_at-in-Whole.ensures.back_len, ends.some)

pub loop-rest-preserved : goal.loop-rest-preserved
loop-rest-preserved c =
    let rest = c.loop-rest.rest.now in
    let n = c.in-Whole.length in
    let some : 0 < length rest = search rules in
    let e : front rest ≡ Whole c.in-Whole.token n = cc (c.in_ok-front.ensures, c.in-Whole.is) in
    let ends : EndsAscii rest n = rw e at (front_piece rest some) in
    record {
      so_far =
          ap (λ left. after_tokens c.push.new.self.items (tokens_from 0 left)) c.split_at-in-Whole.ensures.back
          ∙ ap (λ tokens. after_tokens tokens (tokens_from 0 (drop n rest))) c.in_ok-push-in-Whole.ensures.items
          ∙ sym (one_more c.loop-rest.tokens.items rest c.in-Whole.token n ends.some ends.within e)
          ∙ c.loop-rest.invariant.so_far;
      utf8 = subst IsUtf8 (sym c.split_at-in-Whole.ensures.back)
          (IsUtf8-drop rest n c.loop-rest.invariant.utf8 (cut_after rest n c.loop-rest.invariant.utf8 ends));
    }

pub returns-in-Bad : goal.returns-in-Bad
returns-in-Bad c =
    let rest = c.loop-rest.rest.now in
    let some : 0 < length rest = search rules in
    let e : front rest ≡ Bad = cc (c.in_ok-front.ensures, c.in-Bad.is) in
    ap (after_tokens c.loop-rest.tokens.items) (sym (at_bad rest some e)) ∙ c.loop-rest.invariant.so_far

pub returns : goal.returns
returns c =
    let rest = c.loop-rest.rest.now in
    let none : length rest ≡ 0 = search rules in
    ap Some (c.from_vec.ensures ∙ sym (append-nil c.loop-rest.tokens.items))
    ∙ ap (after_tokens c.loop-rest.tokens.items) (sym (at_end rest none)) ∙ c.loop-rest.invariant.so_far
