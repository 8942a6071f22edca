use Rattle.std.proofs.Common.{◌≡◌, ◌+◌, ◌-◌, ◌≤◌, length, take, drop}
use Rattle.std.specs.Char.{is_ascii_digit}
use Rattle.std.specs.List.{prefix_len}
use Rattle.sql_tokens.specs.Numbers.{number_of}
use Rattle.sql_reader.proofs.plain_row.leading_digits.Given as goal

abbrev pub invariant-loop-length : goal.invariant-loop-length
invariant-loop-length l = record {
  counted : l.length + prefix_len is_ascii_digit (drop l.length l.bytes) ≡ prefix_len is_ascii_digit l.bytes;
  within : l.length ≤ length l.bytes;
  spelled : number_of (take l.length l.bytes) ≡ l.number;
}

abbrev pub decreases-loop-length : goal.decreases-loop-length
decreases-loop-length l = length l.bytes - l.length
