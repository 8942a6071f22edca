use Rattle.std.proofs.Common.{length, ◌-◌}
use Rattle.copy_frames.specs.Scans.{Reaches}
use Rattle.copy_frames.proofs.deframer.scan.Given as goal

abbrev pub invariant-frames : goal.invariant-frames
invariant-frames l = Reaches l.limit l.bytes l.at

abbrev pub decreases-frames : goal.decreases-frames
decreases-frames l = length l.bytes - l.at
