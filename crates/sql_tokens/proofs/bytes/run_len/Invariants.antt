use Rattle.std.proofs.Common.{◌≡◌, ◌+◌, ◌-◌, ◌≤◌, length, drop}
use Rattle.std.specs.List.{prefix_len}
use Rattle.sql_tokens.specs.Bytes.{is_in_class}
use Rattle.sql_tokens.proofs.bytes.run_len.Given as goal

abbrev pub invariant-loop-length : goal.invariant-loop-length
invariant-loop-length l =
    (l.length + prefix_len (is_in_class l.class) (drop l.length l.bytes) ≡ prefix_len (is_in_class l.class) l.bytes)
    × (l.length ≤ length l.bytes)

abbrev pub decreases-loop-length : goal.decreases-loop-length
decreases-loop-length l = length l.bytes - l.length
