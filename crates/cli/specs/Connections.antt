-- The results of the connections of `serve` and of `publish`: PostgreSQL 15, 55.4. Streaming Replication Protocol.
use Rattle.std.specs.Prelude.{◌≢◌, ℕ, All, Bool, List, Option}
use Rattle.std.specs.List.{flat_map}
use Rattle.shard_checker.specs.CheckedView.{CheckedOf}
use Rattle.copy_both.specs.declared.link_fault.LinkFault.TheVariants.{OutOfMemory}
use Rattle.senders.specs.Serving.{IsServed}
use Rattle.senders.specs.declared.end.End.TheVariants.{Link}
use Rattle.senders.specs.Results.{ServedOf}
use Rattle.cli.specs.declared.connections.ConnectionPlace.{ConnectionPlace}
use Rattle.cli.specs.declared.connections.ConnectionPlace.TheVariants as p
use Rattle.cli.specs.declared.publish.places.Berth.{Berth}

-- This is the result of a connection that was served to its end. Nothing is known of the bytes of a socket.
pub record WasServed (checked : CheckedOf) (served : ServedOf) : Type 0 where
  pub left : Option (List ℕ)
  pub now_left : Option (List ℕ)
  pub source_failed : Bool
  pub source_ended : Bool
  pub before : Option (List ℕ)
  pub after : Option (List ℕ)
  pub sink_failed : Bool
  pub is : IsServed checked left now_left source_failed source_ended before after sink_failed served

-- what is in a place when it has ended
abbrev pub IsFilled : {P : Type 0} → CheckedOf → ConnectionPlace P → Type 0
IsFilled checked p.Open = ⊥
IsFilled checked (p.Ended served) = WasServed checked served
IsFilled checked p.Failed = Unit {0}

-- the results of the connections of all places of `publish`
abbrev pub served_at : {P : Type 0} → List (Berth P) → List ServedOf
served_at {P} berths = flat_map (λ (berth : Berth P). berth.served.items) berths

-- if all results so far are those of connections that were served, so are these
abbrev pub StayServed : CheckedOf → List ServedOf → List ServedOf → Type 0
StayServed checked before after = All (WasServed checked) before → All (WasServed checked) after

-- the connection was refused neither memory nor a thread
abbrev pub HadMemory : ServedOf → Type 0
HadMemory served = served.end ≢ Link OutOfMemory
