-- What a read of a connection gives: PostgreSQL 15, 55.4. Streaming Replication Protocol.
use Rattle.std.specs.Prelude.{◌≡◌, ℕ, Bool, true, false, List, [], length, Option, Result, Ok, Err}
use Rattle.std.specs.Io.KnownBytes.{Consumes}
use Rattle.senders.specs.declared.failed.Failed.{Failed}
use Rattle.senders.specs.Listening.{piece_of}
use Rattle.senders.specs.declared.listener.Listener.{Listener}

-- These bytes were read, and are heard next.
pub record PullsPiece (before after : Option (List ℕ)) (bytes : List ℕ) (old new : Listener) : Type 0 where
  pub read : Consumes before after bytes
  pub piece : bytes ≡ piece_of new
  pub ear : new.ear ≡ old.ear
  pub same : new.is_requested ≡ old.is_requested
  pub number : new.number ≡ old.number
  pub room : length new.piece.items ≡ length old.piece.items

-- No byte was read, as the source says of itself.
pub record PullsNothing (before after : Option (List ℕ)) (says : Bool) (old new : Listener) : Type 0 where
  pub read : Consumes before after []
  pub ear : new.ear ≡ old.ear
  pub same : new.is_requested ≡ old.is_requested
  pub number : new.number ≡ old.number
  pub said : says ≡ true

abbrev pub Pulls : Option (List ℕ) → Option (List ℕ) → Bool → Bool → Listener → Listener → Result Bool Failed → Type 0
Pulls before after failed ended old new (Ok true) = PullsPiece before after (piece_of new) old new
Pulls before after failed ended old new (Ok false) = PullsNothing before after ended old new
Pulls before after failed ended old new (Err error) = PullsNothing before after failed old new
