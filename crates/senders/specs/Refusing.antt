-- What is written where no stream was started, and why a connection ended: PostgreSQL 15, 55.4. Streaming Replication
-- Protocol.
use Rattle.std.specs.Prelude.{◌≡◌, ℕ, Bool, false, List, [], ◌++◌, Option, Some, None}
use Rattle.std.specs.Io.KnownBytes.{Appends}
use Rattle.copy_both.specs.declared.link_fault.LinkFault.{LinkFault}
use Rattle.copy_both.specs.declared.link_fault.LinkFault.TheVariants as fault
use Rattle.senders.specs.declared.end.End.{End}
use Rattle.senders.specs.declared.end.End.TheVariants as end
use Rattle.senders.specs.declared.listener_end.ListenerEnd.{ListenerEnd}
use Rattle.senders.specs.declared.listener_end.ListenerEnd.TheVariants as listener_end

-- The first of these bytes were written, all but where the sink failed.
pub record WritesFirst (before after : Option (List ℕ)) (failed : Bool) (bytes : List ℕ) : Type 0 where
  pub written : List ℕ
  pub rest : List ℕ
  pub bytes_are : written ++ rest ≡ bytes
  pub put : Appends before after written
  pub all : failed ≡ false → rest ≡ []

-- the response to a start that was refused, and else nothing
abbrev pub AnswersAs : ListenerEnd → Option (List ℕ) → Option (List ℕ) → Bool → List ℕ → Type 0
AnswersAs (listener_end.Fault (fault.BadStart state)) before after failed response =
    WritesFirst before after failed response
AnswersAs other before after failed response = Appends before after []

abbrev pub cause_by : ListenerEnd → End
cause_by listener_end.SourceFailed = end.ReadFault
cause_by listener_end.SourceEnded = end.Client
cause_by (listener_end.Frame kind) = end.Client
cause_by (listener_end.Fault fault) = end.Link fault

-- the fault of what the client sent, if that ended the listener
abbrev pub fault_by : ListenerEnd → Option LinkFault
fault_by (listener_end.Fault fault) = Some fault
fault_by listener_end.SourceFailed = None
fault_by listener_end.SourceEnded = None
fault_by (listener_end.Frame kind) = None

abbrev pub fault_after : Option ListenerEnd → Option LinkFault
fault_after None = None
fault_after (Some why) = fault_by why
