-- What calls on a subscriber return and leave, when its machine has an outcome.
use Rattle.std.specs.Prelude.{◌≡◌, Result, Ok, Err, OnOk, OnErr, IfErr}
use Rattle.test_subscriber.specs.Copies.{RefusedBy}
use Rattle.test_subscriber.specs.Hearing.{MachineResult}
use Rattle.test_subscriber.specs.Machine.{Machine, Alike, stopped}
use Rattle.test_subscriber.specs.Views.{machine_view}
use Rattle.test_subscriber.specs.declared.fault.SubFault.{SubFault}
use Rattle.test_subscriber.specs.declared.replica.Replica.{Replica}

-- the machine is that of the outcome
abbrev pub Reaches : Machine → MachineResult → Type 0
Reaches new (Ok machine) = Alike new machine
Reaches new (Err fault) = ⊥

-- nothing is lost that stays after a fault
abbrev pub Stays : Machine → Machine → Type 0
Stays old new = Alike (stopped new) (stopped old)

-- The machine is that of the rule's outcome. An error is its fault or out of memory, and loses nothing that stays after
-- a fault.
pub record Hears (rule : Machine → MachineResult) (old : Replica) (result : Result (Unit {0}) SubFault)
    (new : Replica) : Type 0 where
  pub ok : OnOk result (Reaches (machine_view new) (rule (machine_view old)))
  pub fault : IfErr result (RefusedBy (rule (machine_view old)))
  pub stays : OnErr result (Stays (machine_view old) (machine_view new))

-- the same for a change that is staged, which loses nothing of that, whatever the result
pub record Stages (rule : Machine → MachineResult) (old : Replica) (result : Result (Unit {0}) SubFault)
    (new : Replica) : Type 0 where
  pub ok : OnOk result (Reaches (machine_view new) (rule (machine_view old)))
  pub fault : IfErr result (RefusedBy (rule (machine_view old)))
  pub stays : Stays (machine_view old) (machine_view new)

-- the same fault, or machines that are alike
abbrev pub SameOutcome : MachineResult → MachineResult → Type 0
SameOutcome (Ok one) (Ok other) = Alike one other
SameOutcome (Err one) (Err other) = one ≡ other
SameOutcome one other = ⊥
