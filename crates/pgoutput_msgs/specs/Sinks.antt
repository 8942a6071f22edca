-- Messages that are taken one after another; a relation states what one message leaves: PostgreSQL 15, 55.5.3. Logical
-- Replication Protocol Message Flow.
use Rattle.std.specs.Prelude.{◌≡◌, List, [], ◌∷◌}
use Rattle.pgoutput_msgs.specs.declared.message.Msg.{Msg}

-- these messages were taken, between the old state and the new one
abbrev pub TakesEach : {S : Type 0} → (S → S → Msg → Type 0) → S → S → List Msg → Type 0
TakesEach takes_one old new [] = new ≡ old
TakesEach {S = S} takes_one old new (message ∷ messages) = (next : S) × takes_one old next message
    × TakesEach takes_one next new messages
