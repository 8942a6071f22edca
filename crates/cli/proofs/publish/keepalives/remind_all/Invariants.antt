use Rattle.std.specs.Prelude.{None}
use Rattle.publisher_desk.specs.SlotEvents.{KeepsEnded, KeepsSent}
use Rattle.cli.proofs.publish.keepalives.remind_all.Given as goal

-- each client was sent what it was sent at the begin, and each connection that had ended still has
abbrev pub invariant-loop-slot : goal.invariant-loop-slot
invariant-loop-slot l = KeepsSent None l.initial.connections l.connections
    × KeepsEnded None None l.initial.connections l.connections
