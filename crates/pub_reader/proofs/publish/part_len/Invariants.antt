use Rattle.std.proofs.Common.{◌≡◌, ◌+◌, ◌-◌, ◌≤◌, length, drop}
use Rattle.std.specs.List.{prefix_len}
use Rattle.pub_reader.specs.Operations.{is_part_byte}
use Rattle.pub_reader.proofs.publish.part_len.Given as goal

abbrev pub invariant-loop-length : goal.invariant-loop-length
invariant-loop-length l = record {
  so_far : l.length + prefix_len is_part_byte (drop l.length l.text) ≡ prefix_len is_part_byte l.text;
  within : l.length ≤ length l.text;
}

abbrev pub decreases-loop-length : goal.decreases-loop-length
decreases-loop-length l = length l.text - l.length
