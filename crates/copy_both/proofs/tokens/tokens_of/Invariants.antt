use denote.Shadow.{shadow}
use denote.Text.{Utf8}
use Rattle.std.proofs.Common.{◌≡◌, length}
use Rattle.copy_both.specs.CommandTokens.{tokens_of as spec}
use Rattle.copy_both.proofs.TokenLoops.{after_tokens}
use Rattle.copy_both.proofs.tokens.tokens_of.Given as goal

abbrev pub invariant-loop-rest : goal.invariant-loop-rest
invariant-loop-rest l = record {
  so_far : after_tokens l.tokens.items (spec l.rest) ≡ spec l.text;
  utf8 : shadow (Utf8 l.rest);
}

abbrev pub decreases-loop-rest : goal.decreases-loop-rest
decreases-loop-rest l = length l.rest
