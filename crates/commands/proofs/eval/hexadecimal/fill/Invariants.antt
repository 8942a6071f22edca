use Rattle.std.proofs.Common.{◌≡◌, length, map, take}
use Rattle.commands.specs.Eval.Hexadecimal.{digits_of}
use Rattle.commands.proofs.eval.hexadecimal.fill.Given as goal

-- each byte so far has its digits
abbrev pub invariant-loop-place : goal.invariant-loop-place
invariant-loop-place l = (length l.pairs ≡ length l.bytes)
    × (take l.place l.pairs ≡ map digits_of (take l.place l.bytes))
