-- What `publish` answers: its input has the lines of a catalog, those of the certificates of its tables, and those of
-- commands, each of which is answered when it has arrived, while the subscribers are served. The format is this
-- program's own.
use Rattle.std.specs.Prelude.{◌≡◌, ◌⊎◌, ℕ, All, Bool, List, [], ◌∷◌, ◌++◌, is_none, true, false, length, Option, Some, None, Ok, Result, codes}
use Rattle.std.specs.Io.KnownBytes.{Appends}
use Rattle.std.specs.Option.{option_map}
use Rattle.filter_tree.specs.Expr.{Expr}
use Rattle.pub_catalog.specs.Catalogs.{CatalogOf}
use Rattle.pub_reader.specs.Statements.{catalog_by}
use Rattle.publisher_desk.specs.Seats.{SeatOf, empty_seat}
use Rattle.publisher_desk.specs.Viewers.{ClosingOf}
use Rattle.senders.specs.CloseReasons.{RefusedClose}
use Rattle.senders.specs.Closing.{IsClosed}
use Rattle.senders.specs.declared.close_error.CloseError.{CloseError}
use Rattle.senders.specs.Results.{ServedOf}
use Rattle.tables_log.specs.BookView.{book_log}
use Rattle.tables_log.specs.declared.book.Book.{Book}
use Rattle.sql_reader.specs.Reading.{Tells, read_fault}
use Rattle.sql_reader.specs.Written.{as_filter}
use Rattle.sql_reader.specs.declared.error.ReadError.{ReadError}
use Rattle.shard_checker.specs.CheckedView.{CheckedOf}
use Rattle.shard_checker.specs.Sound.{IsSound}
use Rattle.shard_checker.specs.Texts.{text_fault, trees_in}
use Rattle.shard_checker.specs.declared.text_error.TextError.TheVariants.{Text}
use Rattle.split_cert.specs.Tree.{Tree}
use Rattle.split_cert.specs.declared.error.CertError.{CertError}
use Rattle.commands.specs.Output.{Ends, StopsText, Writes, text_of}
use Rattle.commands.specs.Verdicts.{IsFirstRefusal, checked_by}
use Rattle.commands.specs.declared.failure.Failure.{Failure}
use Rattle.commands.specs.declared.failure.InputFault.{InputFault}
use Rattle.commands.specs.declared.failure.InputFault.TheVariants as i
use Rattle.commands.specs.declared.failure.Status.{Status}
use Rattle.commands.specs.declared.failure.Status.TheVariants.{Done, Refused}
use Rattle.cli.specs.Connections.{WasServed}
use Rattle.cli.specs.Lines.{LineParts, ended_lines, parts_of}
use Rattle.cli.specs.Serving.{IsRefusal}
use Rattle.cli.specs.Talks.{AreAnswered, AreLastFor, Conversation, IsSeatOf}
use Rattle.cli.specs.Telling.{closed_line, first_lines, name_of}
use Rattle.cli.specs.declared.publish.door.Door.{Door}
use Rattle.cli.specs.declared.requests.Feed.{Feed}

-- ---- how it ends

module _ (checked : CheckedOf) (limit : ℕ) (seat : SeatOf) where
  -- The last line: the publisher was closed with the session's seat, one of 1,000, and with the results of the
  -- connections, each of which was served to its end; or why it was not.
  pub data IsLastLine : List ℕ → Status → Type 0 where
    Closed : (served : List ServedOf) (closing : ClosingOf) (book : Book) → All (WasServed checked) served
        → IsClosed checked limit closing (seat ∷ []) served book
        → IsLastLine (closed_line (length (book_log book)) (length served)) Done
    Differs : (served : List ServedOf) (closing : ClosingOf) (error : CloseError) (name : List ℕ)
        → All (WasServed checked) served
        → RefusedClose checked limit 1000 999 closing (seat ∷ []) served error
        → name_of error ≡ Some name → IsLastLine (codes "close " ++ name) Refused

  -- whatever name the error has, the line with it is a last line
  abbrev pub IsLastLineOf : CloseError → Type 0
  IsLastLineOf error = (name : List ℕ) → name_of error ≡ Some name → IsLastLine (codes "close " ++ name) Refused

  -- the lines are a last line alone
  pub record IsClosing (lines : List (List ℕ)) (status : Status) : Type 0 where
    pub line : List ℕ
    pub are : lines ≡ line ∷ []
    pub last : IsLastLine line status

  abbrev pub Closes : Option (List ℕ) → Option (List ℕ) → Result Status Failure → Type 0
  Closes old new result = Writes IsClosing (λ lines. lines ≡ []) old new result

-- ---- what is written

-- the port is the requested one, or any if 0 was requested
abbrev pub IsPortFor : ℕ → ℕ → Type 0
IsPortFor asked port = (asked ≡ 0) ⊎ (port ≡ asked)

-- there is a port for callers if one was requested: that one, or any if 0 was requested
abbrev pub AreCallersAt : Option ℕ → Option ℕ → Type 0
AreCallersAt None None = Unit {0}
AreCallersAt None (Some port) = ⊥
AreCallersAt (Some asked) None = ⊥
AreCallersAt (Some asked) (Some port) = IsPortFor asked port

-- the port of the door for callers, if there is one
abbrev pub callers_at : Option Door → Option ℕ
callers_at door = option_map (λ door. door.port) door

-- The first of the lines of commands are answered by these lines.
pub record IsTalk (catalog : CatalogOf Expr) (limit : ℕ) (commands answers : List (List ℕ)) : Type 0 where
  pub said : List (List ℕ)
  pub unsaid : List (List ℕ)
  pub own : SeatOf
  pub first : commands ≡ said ++ unsaid
  pub answered : AreAnswered (checked_by catalog) limit empty_seat said answers own

-- Why lines of commands are not answered: there are none, the first is `QUIT;`, or the reader may fail.
pub data AreUnanswered (may_fail : Bool) : List (List ℕ) → Type 0 where
  NoneLeft : AreUnanswered may_fail []
  AfterQuit : (later : List (List ℕ)) → AreUnanswered may_fail (codes "QUIT;" ∷ later)
  MayFail : (lines : List (List ℕ)) → may_fail ≡ true → AreUnanswered may_fail lines

-- no further line of commands has an answer, unless commands come from callers at a port
abbrev pub AreUnansweredFor : Option ℕ → Bool → List (List ℕ) → Type 0
AreUnansweredFor None may_fail lines = AreUnanswered may_fail lines
AreUnansweredFor (Some port) may_fail lines = Unit {0}

-- That it listens, and those answers. If commands come from callers, the session's seat is that of their lines.
pub record AreEarlierLines (feed : Feed) (catalog : CatalogOf Expr) (commands : List (List ℕ)) (lines : List (List ℕ)) :
    Type 0 where
  pub port : ℕ
  pub callers : Option ℕ
  pub answers : List (List ℕ)
  pub seat : SeatOf
  pub port_is : IsPortFor feed.port port
  pub callers_are : AreCallersAt feed.commands callers
  pub talk : IsTalk catalog feed.limit commands answers
  pub seat_is : IsSeatOf (checked_by catalog) feed.limit empty_seat callers answers talk.own seat
  pub are : lines ≡ first_lines port callers ++ answers

-- the answers to all lines of commands, and a last line
pub record ArePublishLines (may_fail : Bool) (feed : Feed) (catalog : CatalogOf Expr) (commands : List (List ℕ))
    (lines : List (List ℕ)) (status : Status) : Type 0 where
  pub earlier : List (List ℕ)
  pub line : List ℕ
  pub first : AreEarlierLines feed catalog commands earlier
  pub unanswered : AreUnansweredFor first.callers may_fail first.talk.unsaid
  pub last : IsLastLine (checked_by catalog) feed.limit first.seat line status
  pub are : lines ≡ earlier ++ line ∷ []

-- ---- what is answered

-- there is no reason to refuse the sharding, it is sound, and the subscribers are served while the commands are
-- answered
pub record IsPublishServed (may_fail : Bool) (feed : Feed) (catalog : CatalogOf Expr) (trees : List Tree)
    (commands : List (List ℕ)) (lines : List (List ℕ)) (status : Status) : Type 0 where
  pub sound : IsSound catalog
  pub unrefused : IsFirstRefusal catalog trees None
  pub written : ArePublishLines may_fail feed catalog commands lines status

-- the input has three parts, the first is a catalog, and each line of the second is a certificate
pub record IsPublishHead (input : List ℕ) (catalog : CatalogOf Expr) (parts : LineParts) : Type 0 where
  pub parts_are : parts_of (ended_lines input) ≡ Some parts
  pub reads : catalog_by as_filter (text_of parts.catalog) ≡ Ok catalog
  pub certificates : text_fault 1 parts.certificates ≡ None

pub record IsPublishing (may_fail : Bool) (feed : Feed) (input : List ℕ) (lines : List (List ℕ)) (status : Status) :
    Type 0 where
  pub catalog : CatalogOf Expr
  pub parts : LineParts
  pub head : IsPublishHead input catalog parts
  pub result : IsPublishServed may_fail feed catalog (trees_in parts.certificates) parts.commands lines status
      ⊎ IsRefusal catalog (trees_in parts.certificates) lines status

-- its sharding is accepted: it is sound, and there is no reason to refuse it
pub record IsPublishAccepted (input : List ℕ) : Type 0 where
  pub catalog : CatalogOf Expr
  pub parts : LineParts
  pub head : IsPublishHead input catalog parts
  pub sound : IsSound catalog
  pub unrefused : IsFirstRefusal catalog (trees_in parts.certificates) None

-- the sharding is accepted, and the first lines of such an answer are written
pub record HasListenedToPublish (feed : Feed) (input : List ℕ) (lines : List (List ℕ)) : Type 0 where
  pub accepted : IsPublishAccepted input
  pub first : AreEarlierLines feed accepted.catalog accepted.parts.commands lines

abbrev pub IsBegunPublishing : Feed → List ℕ → List (List ℕ) → Type 0
IsBegunPublishing feed input lines = (lines ≡ []) ⊎ HasListenedToPublish feed input lines

-- ---- faults of the input

pub record IsBadPublishCatalog (input : List ℕ) (error : ReadError) : Type 0 where
  pub parts : LineParts
  pub parts_are : parts_of (ended_lines input) ≡ Some parts
  pub tells : Tells error (catalog_by as_filter (text_of parts.catalog))
  pub known : is_none (read_fault error) ≡ false

pub record IsBadPublishCertificate (input : List ℕ) (number : ℕ) (error : CertError) : Type 0 where
  pub parts : LineParts
  pub catalog : CatalogOf Expr
  pub parts_are : parts_of (ended_lines input) ≡ Some parts
  pub reads : catalog_by as_filter (text_of parts.catalog) ≡ Ok catalog
  pub first : text_fault 1 parts.certificates ≡ Some (Text number error)

abbrev pub IsPublishFault : List ℕ → InputFault → Type 0
IsPublishFault input i.Unread = ⊥
IsPublishFault input i.Parts = parts_of (ended_lines input) ≡ None
IsPublishFault input (i.Catalog error) = IsBadPublishCatalog input error
IsPublishFault input (i.Table name) = ⊥
IsPublishFault input (i.Certificate number error) = IsBadPublishCertificate input number error
IsPublishFault input (i.Script error) = ⊥

-- ---- what is written

abbrev pub EndsPublishing : Bool → Feed → List ℕ → Option (List ℕ) → Option (List ℕ) → Result Status Failure → Type 0
EndsPublishing may_fail feed input old new result =
    Ends (IsPublishing may_fail feed input) (IsBegunPublishing feed input) (IsPublishFault input) old new result

-- ---- what is served of a reader

module _ (feed : Feed) (checked : CheckedOf) (before after : Option (List ℕ)) where
  -- that it listens, and the answers to what was read
  pub record HasSaid (lines : List (List ℕ)) : Type 0 where
    pub port : ℕ
    pub callers : Option ℕ
    pub answers : List (List ℕ)
    pub own : SeatOf
    pub seat : SeatOf
    pub port_is : IsPortFor feed.port port
    pub callers_are : AreCallersAt feed.commands callers
    pub conversation : Conversation checked feed.limit empty_seat before after answers own
    pub seat_is : IsSeatOf checked feed.limit empty_seat callers answers own seat
    pub are : lines ≡ first_lines port callers ++ answers

  -- the answers to all that could be read, and a last line
  pub record HasClosed (may_fail : Bool) (lines : List (List ℕ)) (status : Status) : Type 0 where
    pub earlier : List (List ℕ)
    pub line : List ℕ
    pub said : HasSaid earlier
    pub all : AreLastFor said.callers may_fail before after said.conversation.more
    pub last : IsLastLine checked feed.limit said.seat line status
    pub are : lines ≡ earlier ++ line ∷ []

  abbrev pub MayHaveSaid : List (List ℕ) → Type 0
  MayHaveSaid lines = (lines ≡ []) ⊎ HasSaid lines

  abbrev pub Serves : Bool → Option (List ℕ) → Option (List ℕ) → Result Status Failure → Type 0
  Serves may_fail old new result = Writes (HasClosed may_fail) MayHaveSaid old new result

-- ---- the ports

-- it listens on these ports, and says so
pub record Opens (feed : Feed) (port : ℕ) (callers : Option ℕ) (old new : Option (List ℕ)) : Type 0 where
  pub port_is : IsPortFor feed.port port
  pub callers_are : AreCallersAt feed.commands callers
  pub written : Appends old new (text_of (first_lines port callers))

-- or not all of the lines are written, because memory ran out, or a port, the file or the writer failed
pub record StopsTelling (feed : Feed) (old new : Option (List ℕ)) (failure : Failure) : Type 0 where
  pub port : ℕ
  pub callers : Option ℕ
  pub port_is : IsPortFor feed.port port
  pub callers_are : AreCallersAt feed.commands callers
  pub stops : StopsText (text_of (first_lines port callers)) old new failure
