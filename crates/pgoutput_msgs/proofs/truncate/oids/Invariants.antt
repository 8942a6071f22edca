use Rattle.std.proofs.Common.{◌≡◌, ◌-◌}
use Rattle.std.specs.Int.{w32}
use Rattle.pgoutput_msgs.specs.Reading.{many, big_endian}
use Rattle.pgoutput_msgs.proofs.Counting.{with_front}
use Rattle.pgoutput_msgs.proofs.truncate.oids.Given as goal

abbrev pub invariant-loop : goal.invariant-loop
invariant-loop l = with_front l.oids.items (many (big_endian w32) (l.count - l.counter) l.r)
    ≡ many (big_endian w32) l.count l.fn.r
