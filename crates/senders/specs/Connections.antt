-- What a source gives, and when it has ended: the bytes of a connection, as it is read piece by piece: PostgreSQL 15,
-- 55.4. Streaming Replication Protocol.
use Rattle.std.specs.Prelude.{ℕ, ◌==◌, nat_lt, Bool, ◌||◌, ◌&&◌, List, take, Option}
use Rattle.std.specs.Io.KnownBytes.{Consumes}

-- the first bytes of the piece, as many as were given, are the first of those that were left
abbrev pub Gives : Option (List ℕ) → Option (List ℕ) → List ℕ → ℕ → Type 0
Gives old new piece count = Consumes old new (take count piece)

-- it has ended from the first time on that it gave no byte although there was room
abbrev pub ended_by : Bool → ℕ → ℕ → Bool
ended_by ended count room = ended || ((count == 0) && nat_lt 0 room)
