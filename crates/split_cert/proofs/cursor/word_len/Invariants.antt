use Rattle.std.proofs.Common.{◌≡◌, ◌+◌, ◌-◌, ◌≤◌, length, drop}
use Rattle.split_cert.specs.Reading.{word_len}
use Rattle.split_cert.proofs.cursor.word_len.Given as goal

abbrev pub invariant-loop-length : goal.invariant-loop-length
invariant-loop-length l = (l.length + word_len (drop l.length l.bytes) ≡ word_len l.bytes) × (l.length ≤ length l.bytes)

abbrev pub decreases-loop-length : goal.decreases-loop-length
decreases-loop-length l = length l.bytes - l.length
