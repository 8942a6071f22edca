use denote.Shadow.{shadow}
use denote.Text.{Utf8}
use Rattle.std.proofs.Common.{◌≡◌, ◌-◌, ◌≤◌, length, string_bytes}
use Rattle.copy_both.specs.CommandTokens.{quoted}
use Rattle.copy_both.proofs.QuotedLoops.{after_read}
use Rattle.copy_both.proofs.quoted.read_quoted.Given as goal

abbrev pub invariant-loop-part : goal.invariant-loop-part
invariant-loop-part l = record {
  so_far : after_read (string_bytes l.meant) (length l.text - length l.rest) (quoted l.quote l.rest)
      ≡ quoted l.quote l.text;
  fewer : length l.rest ≤ length l.text;
  utf8 : shadow (Utf8 l.rest);
}

abbrev pub decreases-loop-part : goal.decreases-loop-part
decreases-loop-part l = length l.rest
