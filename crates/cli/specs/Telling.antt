-- The lines that `serve` writes if the sharding is accepted: one when it listens, and one at the end. The format is
-- this program's own.
use Rattle.std.specs.Prelude.{◌≡◌, ◌⊎◌, ℕ, List, [], ◌∷◌, ◌++◌, All, length, Option, Some, None, Result, codes}
use Rattle.std.specs.Option.{unwrap_or}
use Rattle.shard_checker.specs.CheckedView.{CheckedOf}
use Rattle.table_changes.specs.Commands.{Command}
use Rattle.tables_log.specs.declared.book.Book.{Book}
use Rattle.publisher_desk.specs.Seats.{SeatOf, empty_seat}
use Rattle.publisher_desk.specs.Viewers.{ClosingOf}
use Rattle.senders.specs.CloseReasons.{RefusedClose}
use Rattle.senders.specs.Closing.{IsClosed}
use Rattle.senders.specs.declared.close_error.CloseError.{CloseError}
use Rattle.senders.specs.declared.close_error.CloseError.TheVariants as e
use Rattle.senders.specs.Results.{ServedOf}
use Rattle.commands.specs.Names.{counted}
use Rattle.commands.specs.Output.{Writes}
use Rattle.commands.specs.declared.failure.Failure.{Failure}
use Rattle.commands.specs.declared.failure.Failure.TheVariants as f
use Rattle.commands.specs.declared.failure.Status.{Status}
use Rattle.commands.specs.declared.failure.Status.TheVariants.{Done, Refused}
use Rattle.cli.specs.Connections.{HadMemory, WasServed}
use Rattle.cli.specs.Sessions.{AreCommitted}
use Rattle.cli.specs.declared.requests.Service.{Service}

abbrev pub listening_line : ℕ → List ℕ
listening_line port = counted (codes "listening") port

-- and that with the port for callers, if commands come from callers
abbrev pub first_lines : ℕ → Option ℕ → List (List ℕ)
first_lines port None = listening_line port ∷ []
first_lines port (Some callers) = listening_line port ∷ counted (codes "commands") callers ∷ []

-- the numbers of commits in the log, and of connections
abbrev pub closed_line : ℕ → ℕ → List ℕ
closed_line commits connections = counted (counted (codes "closed") commits) connections

-- the name of what differs; none if memory ran out
abbrev pub name_of : CloseError → Option (List ℕ)
name_of e.CountDiffers = Some (codes "CountDiffers")
name_of e.ReceiptMissing = Some (codes "ReceiptMissing")
name_of e.ReadingWrong = Some (codes "ReadingWrong")
name_of e.TakenDiffers = Some (codes "TakenDiffers")
name_of e.ConnectionMissing = Some (codes "ConnectionMissing")
name_of e.StartLate = Some (codes "StartLate")
name_of e.SlotDiffers = Some (codes "SlotDiffers")
name_of e.OutOfMemory = None

-- What is served: a checked catalog, with a log of at most `limit` commits, by a session that commits these lists, to
-- this number of connections.
pub record ServiceOf : Type 0 where
  pub port : ℕ
  pub checked : CheckedOf
  pub limit : ℕ
  pub lists : List (List Command)
  pub connections : ℕ

-- the default number of connections is that of the subscriptions
abbrev pub service_of : Service → CheckedOf → List (List Command) → ServiceOf
service_of service checked lists = record {
  port = service.port;
  checked = checked;
  limit = service.limit;
  lists = lists;
  connections = unwrap_or service.connections (length checked.catalog.subscriptions);
}

-- The lists were committed in order, or skipped, and this is the session's seat. As many connections were
-- served as was requested, each to its end, with these results. None was refused memory.
pub record IsOver (service : ServiceOf) (seat : SeatOf) (served : List ServedOf) : Type 0 where
  pub committed : AreCommitted service.checked service.limit 1 service.lists empty_seat seat
  pub many : length served ≡ service.connections
  pub each : All (WasServed service.checked) served
  pub memory : All HadMemory served

-- The last line: the publisher was closed with the session's seat, one of 1,000, and the results of the connections; or
-- why it was not. The session has as many notes as the log has commits.
pub data IsLast (service : ServiceOf) : List ℕ → Status → Type 0 where
  Closed : (seat : SeatOf) (served : List ServedOf) (closing : ClosingOf) (book : Book) → IsOver service seat served
      → IsClosed service.checked service.limit closing (seat ∷ []) served book
      → IsLast service (closed_line (length seat.notes) (length served)) Done
  Differs : (seat : SeatOf) (served : List ServedOf) (closing : ClosingOf) (error : CloseError) (name : List ℕ)
      → IsOver service seat served
      → RefusedClose service.checked service.limit 1000 999 closing (seat ∷ []) served error
      → name_of error ≡ Some name → IsLast service (codes "close " ++ name) Refused

-- whatever name the error has, the line with it is a last line
abbrev pub IsLastOf : ServiceOf → CloseError → Type 0
IsLastOf service error = (name : List ℕ) → name_of error ≡ Some name → IsLast service (codes "close " ++ name) Refused

-- it is this that is served
pub record IsFor (service : ServiceOf) (checked : CheckedOf) (limit : ℕ) : Type 0 where
  pub checked_is : service.checked ≡ checked
  pub limit_is : service.limit ≡ limit

-- this line alone is written, with this status
abbrev pub WritesLine : List ℕ → Status → Option (List ℕ) → Option (List ℕ) → Result Status Failure → Type 0
WritesLine line status old new result =
    Writes (λ lines said. (lines ≡ line ∷ []) × (said ≡ status)) (λ lines. lines ≡ []) old new result

-- the lines are a last line alone
pub record IsClosing (service : ServiceOf) (lines : List (List ℕ)) (status : Status) : Type 0 where
  pub line : List ℕ
  pub are : lines ≡ line ∷ []
  pub last : IsLast service line status

abbrev pub Closes : ServiceOf → Option (List ℕ) → Option (List ℕ) → Result Status Failure → Type 0
Closes service old new result = Writes (IsClosing service) (λ lines. lines ≡ []) old new result

-- the lines are the first line, with this port, and a last line
pub record AreServeLines (service : ServiceOf) (lines : List (List ℕ)) (status : Status) : Type 0 where
  pub line : List ℕ
  pub are : lines ≡ listening_line service.port ∷ line ∷ []
  pub last : IsLast service line status

-- no line, or the first one
abbrev pub IsBegun : ℕ → List (List ℕ) → Type 0
IsBegun port lines = (lines ≡ []) ⊎ (lines ≡ listening_line port ∷ [])

abbrev pub WritesServeLines : ServiceOf → Option (List ℕ) → Option (List ℕ) → Result Status Failure → Type 0
WritesServeLines service old new result = Writes (AreServeLines service) (IsBegun service.port) old new result

-- it stops because the listening socket or the writer failed, or memory ran out
abbrev pub IsStop : Failure → Type 0
IsStop f.Output = Unit {0}
IsStop f.OutOfMemory = Unit {0}
IsStop (f.CommandLine why) = ⊥
IsStop (f.Input fault) = ⊥
