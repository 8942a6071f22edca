-- A subscriber as it applies a stream: what it is ready for, its progress, what it keeps of tables, and their rows:
-- PostgreSQL 15, 31.2. Subscription, and 3.4. Transactions.
use Rattle.std.specs.Prelude.{◌≡◌, ℕ, Bool, false, List, Option}
use Rattle.filter_tree.specs.Datum.{Datum}
use Rattle.test_subscriber.specs.RowChanges.{Found}
use Rattle.test_subscriber.specs.declared.phase.Phase.{Phase}
use Rattle.test_subscriber.specs.declared.phase.Phase.TheVariants.{Shut, Waiting}
use Rattle.test_subscriber.specs.declared.shape.TableShape.{TableShape}

-- by the OID of a table and a row's values in the columns of its replica identity
abbrev pub Rows : Type 0
Rows = ℕ → Found

pub record Machine : Type 0 where
  pub phase : Phase
  -- the LSN up to which all is applied
  pub position : ℕ
  -- whether the publisher requests a status
  pub wants_reply : Bool
  -- what the Relation of an OID said, on this connection or an earlier one, and whether it came on this one
  pub kept : ℕ → Option TableShape
  pub known : ℕ → Bool
  -- the rows that applied transactions left, and those with the changes of the uncommitted one
  pub rows : Rows
  pub work : Rows

-- the same at each OID and each key
pub record Alike (one other : Machine) : Type 0 where
  pub phase : one.phase ≡ other.phase
  pub position : one.position ≡ other.position
  pub wants_reply : one.wants_reply ≡ other.wants_reply
  pub kept : (oid : ℕ) → one.kept oid ≡ other.kept oid
  pub known : (oid : ℕ) → one.known oid ≡ other.known oid
  pub rows : (oid : ℕ) (key : List Datum) → one.rows oid key ≡ other.rows oid key
  pub work : (oid : ℕ) (key : List Datum) → one.work oid key ≡ other.work oid key

-- after a fault the changes of the uncommitted transaction are discarded, and each Relation has to come again
abbrev pub stopped : Machine → Machine
stopped m = record m { phase = Shut; known = λ oid. false; work = m.rows }

-- the connection is lost
abbrev pub lost : Machine → Machine
lost m = record m { phase = Shut; wants_reply = false; known = λ oid. false; work = m.rows }

-- there is a new connection, on which the stream is requested
abbrev pub opened : Machine → Machine
opened m = record m { phase = Waiting; wants_reply = false; known = λ oid. false; work = m.rows }
