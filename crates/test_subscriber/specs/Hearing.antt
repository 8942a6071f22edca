-- What a subscriber does with the messages of a stream: PostgreSQL 15, 55.5.3. Logical Replication Protocol Message
-- Flow, 55.9. Logical Replication Message Formats, and 3.4. Transactions.
use Rattle.std.specs.Prelude.{ℕ, ◌==◌, ◌||◌, Bool, max, if◌then◌else◌, List, [], ◌∷◌, Option, Some, None, Result, Ok, Err}
use Rattle.pgoutput_msgs.specs.declared.message.Msg.{Msg}
use Rattle.pgoutput_msgs.specs.declared.message.Msg.TheVariants as m
use Rattle.pgoutput_msgs.specs.declared.relation.Relation.{Relation}
use Rattle.pgoutput_msgs.specs.declared.tuple.Cell.{Cell}
use Rattle.pgoutput_msgs.specs.declared.tuple.OldTuple.{OldTuple}
use Rattle.test_subscriber.specs.Machine.{Rows, Machine}
use Rattle.test_subscriber.specs.RowChanges.{Found, inserted, updated, deleted}
use Rattle.test_subscriber.specs.SameRelation.{same_relation}
use Rattle.test_subscriber.specs.Shapes.{shape_of}
use Rattle.test_subscriber.specs.declared.fault.SubFault.{SubFault}
use Rattle.test_subscriber.specs.declared.fault.SubFault.TheVariants.{OutOfPlace, NoRelation, BadValue, Closed}
use Rattle.test_subscriber.specs.declared.phase.Phase.{Phase}
use Rattle.test_subscriber.specs.declared.phase.Phase.TheVariants.{Shut, Waiting, Idle, Busy}
use Rattle.test_subscriber.specs.declared.shape.TableShape.{TableShape}

-- the machine afterwards, or the fault at which it stops
abbrev pub MachineResult : Type 0
MachineResult = Result Machine SubFault

-- ---- Relation

abbrev pub knows : Machine → ℕ → ℕ → Bool
knows machine oid other = other == oid || machine.known other

-- the Relation came, and says what is kept
abbrev pub recognized : ℕ → Machine → Machine
recognized oid machine = record machine { known = knows machine oid }

abbrev pub keeps : Machine → ℕ → TableShape → ℕ → Option TableShape
keeps machine oid shape other = if other == oid then Some shape else machine.kept other

abbrev pub learned : ℕ → TableShape → Machine → Machine
learned oid shape machine = record machine { kept = keeps machine oid shape; known = knows machine oid }

-- a new Relation, if its columns have known types
abbrev pub learn_new : Option TableShape → ℕ → Machine → MachineResult
learn_new None oid machine = Err BadValue
learn_new (Some shape) oid machine = Ok (learned oid shape machine)

abbrev pub learn_as : Option TableShape → Relation → Machine → MachineResult
learn_as None relation machine = learn_new (shape_of relation) relation.oid machine
learn_as (Some shape) relation machine =
    if same_relation shape.relation relation then Ok (recognized relation.oid machine) else Err OutOfPlace

-- A Relation is kept across connections, and may not change.
abbrev pub hear_relation : Relation → Machine → MachineResult
hear_relation relation machine = learn_as (machine.kept relation.oid) relation machine

-- ---- changes, which are staged

-- a table whose Relation came on this connection
abbrev pub known_shape : Machine → ℕ → Option TableShape
known_shape machine oid = if machine.known oid then machine.kept oid else None

abbrev pub with_found : Rows → ℕ → Found → Rows
with_found rows oid found other key = if other == oid then found key else rows other key

abbrev pub staged : Machine → ℕ → Result Found SubFault → MachineResult
staged machine oid (Err fault) = Err fault
staged machine oid (Ok found) = Ok (record machine { work = with_found machine.work oid found })

-- a change of the rows of a table
abbrev pub RowsChange : Type 0
RowsChange = TableShape → Found → Result Found SubFault

abbrev pub changed_rows : Option TableShape → Found → ℕ → RowsChange → Machine → MachineResult
changed_rows None found oid change machine = Err (NoRelation oid)
changed_rows (Some shape) found oid change machine = staged machine oid (change shape found)

abbrev pub change_in : ℕ → RowsChange → Machine → MachineResult
change_in oid change machine = changed_rows (known_shape machine oid) (machine.work oid) oid change machine

abbrev pub hear_insert : ℕ → List Cell → Machine → MachineResult
hear_insert oid new machine = change_in oid (λ shape found. inserted shape found new) machine

abbrev pub hear_update : ℕ → Option OldTuple → List Cell → Machine → MachineResult
hear_update oid old new machine = change_in oid (λ shape found. updated shape found old new) machine

abbrev pub hear_delete : ℕ → OldTuple → Machine → MachineResult
hear_delete oid old machine = change_in oid (λ shape found. deleted shape found old) machine

-- ---- TRUNCATE, whatever its options

abbrev pub without_rows : TableShape → Found → Result Found SubFault
without_rows shape found = Ok (λ key. None)

abbrev pub hear_empty : ℕ → Machine → MachineResult
hear_empty oid machine = change_in oid without_rows machine

abbrev pub empty_rest : MachineResult → (Machine → MachineResult) → MachineResult
empty_rest (Err fault) others = Err fault
empty_rest (Ok machine) others = others machine

unfoldable pub hear_truncate : List ℕ → Machine → MachineResult
hear_truncate [] machine = Ok machine
hear_truncate (oid ∷ oids) machine = empty_rest (hear_empty oid machine) (hear_truncate oids)

-- ---- transactions

-- All changes are shown at once, and the position is where the transaction ends, unless it was greater.
abbrev pub committed : ℕ → Machine → Machine
committed end_lsn machine =
    record machine { phase = Idle; position = max machine.position end_lsn; rows = machine.work }

abbrev pub begun : ℕ → Machine → Machine
begun lsn machine = record machine { phase = Busy lsn }

-- a Commit in a transaction whose Begin had this LSN
abbrev pub hear_commit : ℕ → ℕ → ℕ → Machine → MachineResult
hear_commit begin lsn end_lsn machine = if lsn == begin then Ok (committed end_lsn machine) else Err OutOfPlace

-- ---- messages

-- between transactions
abbrev pub hear_idle : Msg → Machine → MachineResult
hear_idle (m.Begin final_lsn time xid) machine = Ok (begun final_lsn machine)
hear_idle (m.Commit lsn end_lsn time) machine = Err OutOfPlace
hear_idle (m.Relation relation) machine = hear_relation relation machine
hear_idle (m.Insert relation new) machine = Err OutOfPlace
hear_idle (m.Update relation old new) machine = Err OutOfPlace
hear_idle (m.Delete relation old) machine = Err OutOfPlace
hear_idle (m.Truncate options relations) machine = Err OutOfPlace

-- in a transaction whose Begin had this LSN
abbrev pub hear_busy : ℕ → Msg → Machine → MachineResult
hear_busy begin (m.Begin final_lsn time xid) machine = Err OutOfPlace
hear_busy begin (m.Commit lsn end_lsn time) machine = hear_commit begin lsn end_lsn machine
hear_busy begin (m.Relation relation) machine = hear_relation relation machine
hear_busy begin (m.Insert relation new) machine = hear_insert relation new machine
hear_busy begin (m.Update relation old new) machine = hear_update relation old new machine
hear_busy begin (m.Delete relation old) machine = hear_delete relation old machine
hear_busy begin (m.Truncate options relations) machine = hear_truncate relations machine

abbrev pub hear_in : Phase → Msg → Machine → MachineResult
hear_in Shut message machine = Err Closed
hear_in Waiting message machine = Err OutOfPlace
hear_in Idle message machine = hear_idle message machine
hear_in (Busy begin) message machine = hear_busy begin message machine

abbrev pub hear : Msg → Machine → MachineResult
hear message machine = hear_in machine.phase message machine
