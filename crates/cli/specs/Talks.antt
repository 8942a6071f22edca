-- What `publish` answers to each line of its input after the certificates: a line has one step, COMMIT or VIEW, or
-- none. The format is this program's own; what a commit does is that of PostgreSQL 15, 3.4. Transactions.
use Rattle.std.specs.Prelude.{◌≡◌, ◌≢◌, ℕ, Bool, true, false, ◌&&◌, if◌then◌else◌, List, [], ◌∷◌, ◌++◌, All, IsUtf8, Option, Some, None, Ok, codes}
use Rattle.std.specs.Io.KnownBytes.{Appends, Consumes}
use Rattle.table_changes.specs.Commands.{Command}
use Rattle.pub_reader.specs.Scripts.{LineOf, script_by}
use Rattle.pub_reader.specs.Steps.{StepOf, Commit, View}
use Rattle.sql_reader.specs.KindNames.{kind_name}
use Rattle.sql_reader.specs.declared.error.ReadError.{ReadError}
use Rattle.shard_checker.specs.CheckedView.{CheckedOf, setting_in}
use Rattle.shard_world.specs.declared.answer.Answer.{Answer}
use Rattle.shard_world.specs.declared.answer.Answer.TheVariants as a
use Rattle.tables_log.specs.declared.error.CommitError.{CommitError}
use Rattle.publisher_desk.specs.Answers.{IsMade}
use Rattle.publisher_desk.specs.Logged.{IsRefused}
use Rattle.publisher_desk.specs.Receipts.{receipt_of}
use Rattle.publisher_desk.specs.Refusals.{HasFault}
use Rattle.publisher_desk.specs.Seats.{SeatOf, SeesOn}
use Rattle.publisher_desk.specs.declared.note.Note.TheVariants as n
use Rattle.commands.specs.Failures.{fault_line}
use Rattle.cli.specs.Lines.{AreLast, IsPlain, ReadsLine, ReadsSome}
use Rattle.cli.specs.Views.{IsView}
use Rattle.cli.specs.declared.publish.session.Turn.{Turn}
use Rattle.cli.specs.declared.publish.session.Turn.TheVariants as t
use Rattle.commands.specs.Output.{WritesFirst, text_of}
use Rattle.commands.specs.Simulate.Answers.{answer_line}
use Rattle.commands.specs.Simulate.Simulation.{TellsScript}
use Rattle.commands.specs.declared.failure.Failure.{Failure}
use Rattle.commands.specs.declared.failure.Failure.TheVariants as f
use Rattle.commands.specs.declared.failure.InputFault.TheVariants as i

-- ---- which steps a line may have

abbrev pub is_fit : StepOf → Bool
is_fit (Commit commands) = true
is_fit View = true
is_fit _ = false

-- the place of the first step that is neither COMMIT nor VIEW, or not the first of its line
abbrev pub unfit_from : Bool → List LineOf → Option ℕ
unfit_from is_first [] = None
unfit_from is_first (step ∷ others) =
    if is_first && is_fit step.step then unfit_from false others else Some step.place

abbrev pub first_unfit : List LineOf → Option ℕ
first_unfit steps = unfit_from true steps

-- ---- whether all is answered

-- the bytes after those of the lines are the last ones, unless commands come from callers at a port
abbrev pub AreLastFor : Option ℕ → Bool → Option (List ℕ) → Option (List ℕ) → List ℕ → Type 0
AreLastFor None may_fail before after bytes = AreLast may_fail before after bytes
AreLastFor (Some port) may_fail before after bytes = Unit {0}

-- ---- what is answered

-- `had` is the session's seat before an answer, and `has` the seat after it.
module _ (checked : CheckedOf) (limit : ℕ) where
  -- Commands are answered with the number of the commit that they are, of which the session keeps a receipt. Or they
  -- are answered with the reason why they are refused after the log that the session has then seen, and it keeps
  -- nothing.
  pub data IsTalkAnswered (had : SeatOf) (commands : List Command) (has : SeatOf) : Answer → Type 0 where
    Made : (number time : ℕ) → IsMade checked limit had.seen has.seen commands time number
        → has.notes ≡ had.notes ++ n.Committed (receipt_of number commands time) ∷ []
        → IsTalkAnswered had commands has (a.Committed number)
    Refused : (error : CommitError) → IsRefused checked limit has commands error
        → HasFault (setting_in checked) commands error → has.notes ≡ had.notes
        → IsTalkAnswered had commands has (a.Refused error)

  -- A step is answered with these lines. VIEW shows the log, and the events of slots, that the session has then seen.
  pub data IsStepAnswered (had has : SeatOf) : StepOf → List (List ℕ) → Type 0 where
    Committing : (commands : List Command) (answer : Answer) → IsTalkAnswered had commands has answer
        → IsStepAnswered had has (Commit commands) (answer_line answer ∷ [])
    Viewing : (lines : List (List ℕ)) → IsView checked has lines → has.notes ≡ had.notes
        → IsStepAnswered had has View lines

  -- A line is answered with these lines. A step may show the session more of the log and of the slots.
  pub data IsLineAnswer (had : SeatOf) (line : List ℕ) : List (List ℕ) → SeatOf → Type 0 where
    NoText : (IsUtf8 line → ⊥) → IsLineAnswer had line (fault_line i.Unread ∷ []) had
    NoScript : (error : ReadError) → TellsScript (script_by checked.catalog.tables line) error
        → IsLineAnswer had line (fault_line (i.Script error) ∷ []) had
    Unfit : (steps : List LineOf) (error : ReadError) → script_by checked.catalog.tables line ≡ Ok steps
        → first_unfit steps ≡ Some error.place → kind_name error.kind ≡ codes "Expected"
        → IsLineAnswer had line (fault_line (i.Script error) ∷ []) had
    Empty : script_by checked.catalog.tables line ≡ Ok [] → IsLineAnswer had line [] had
    OneStep : (step : LineOf) (lines : List (List ℕ)) (has : SeatOf)
        → script_by checked.catalog.tables line ≡ Ok (step ∷ []) → IsStepAnswered had has step.step lines
        → SeesOn had has → IsLineAnswer had line lines has

  -- Lines other than `QUIT;` are answered one after another.
  pub data AreAnswered (had : SeatOf) : List (List ℕ) → List (List ℕ) → SeatOf → Type 0 where
    Nothing : AreAnswered had [] [] had
    OneMore : (lines answers own : List (List ℕ)) (line : List ℕ) (mid has : SeatOf) → AreAnswered had lines answers mid
        → line ≢ codes "QUIT;" → IsLineAnswer mid line own has
        → AreAnswered had (lines ++ line ∷ []) (answers ++ own) has

  -- ---- whose lines are answered

  -- The lines of one caller after another were answered.
  pub data AreHeard (had : SeatOf) : SeatOf → Type 0 where
    Nobody : AreHeard had had
    NextCaller : (lines answers : List (List ℕ)) (mid has : SeatOf) → AreHeard had mid
        → AreAnswered mid lines answers has → AreHeard had has

  -- The session's seat is that of the reader's own lines. If commands come from callers at a port, it is that of
  -- callers' lines, and nothing is answered to the reader's lines.
  abbrev pub IsSeatOf : SeatOf → Option ℕ → List (List ℕ) → SeatOf → SeatOf → Type 0
  IsSeatOf had None answers own has = has ≡ own
  IsSeatOf had (Some port) answers own has = (answers ≡ []) × AreHeard had has

  -- ---- what the session does

  -- commands are answered so
  pub record Replies (commands : List Command) (had has : SeatOf) (answer : Answer) : Type 0 where
    pub is : IsTalkAnswered had commands has answer
    pub begins : SeesOn had has

  -- a step is answered by a text
  pub record Tells (step : StepOf) (had has : SeatOf) (text : List ℕ) : Type 0 where
    pub lines : List (List ℕ)
    pub is : IsStepAnswered had has step lines
    pub text_is : text ≡ text_of lines
    pub begins : SeesOn had has

  -- a line is answered by a text
  pub record Answers (line : List ℕ) (had has : SeatOf) (text : List ℕ) : Type 0 where
    pub lines : List (List ℕ)
    pub is : IsLineAnswer had line lines has
    pub text_is : text ≡ text_of lines

  -- a line is read, and its answer is written
  pub record GoesOn (before after old new : Option (List ℕ)) (had has : SeatOf) : Type 0 where
    pub line : List ℕ
    pub text : List ℕ
    pub other : line ≢ codes "QUIT;"
    pub read : ReadsLine before after line
    pub answered : Answers line had has text
    pub written : Appends old new text

  -- the last bytes are read, and nothing is written
  pub record IsOver (may_fail : Bool) (before after old new : Option (List ℕ)) : Type 0 where
    pub more : List ℕ
    pub consumed : Consumes before after more
    pub last : AreLast may_fail before after more
    pub unwritten : new ≡ old

  abbrev pub HasGone : Bool → Option (List ℕ) → Option (List ℕ) → Option (List ℕ) → Option (List ℕ) → SeatOf → SeatOf
      → Turn → Type 0
  HasGone may_fail before after old new had has t.Line = GoesOn before after old new had has
  HasGone may_fail before after old new had has t.Quit =
      ReadsLine before after (codes "QUIT;") × (new ≡ old) × (has ≡ had)
  HasGone may_fail before after old new had has t.Over = IsOver may_fail before after old new × (has ≡ had)

  -- a line is read, and the first bytes of its answer are written
  pub record FailsToTell (before after old new : Option (List ℕ)) (had has : SeatOf) : Type 0 where
    pub line : List ℕ
    pub text : List ℕ
    pub other : line ≢ codes "QUIT;"
    pub read : ReadsLine before after line
    pub answered : Answers line had has text
    pub first : WritesFirst text old new

  abbrev pub StopsNext : Option (List ℕ) → Option (List ℕ) → Option (List ℕ) → Option (List ℕ) → SeatOf → SeatOf
      → Failure → Type 0
  StopsNext before after old new had has f.OutOfMemory = ReadsSome before after × (new ≡ old)
  StopsNext before after old new had has f.Output = FailsToTell before after old new had has
  StopsNext before after old new had has (f.CommandLine why) = ⊥
  StopsNext before after old new had has (f.Input fault) = ⊥

  -- lines are read, and answered by these
  pub record Conversation (had : SeatOf) (before after : Option (List ℕ)) (answers : List (List ℕ)) (has : SeatOf) :
      Type 0 where
    pub lines : List (List ℕ)
    pub more : List ℕ
    pub consumed : Consumes before after (text_of lines ++ more)
    pub plain : All IsPlain lines
    pub answered : AreAnswered had lines answers has

  -- the last line that was read is `QUIT;`
  pub record HasQuit (after : Option (List ℕ)) : Type 0 where
    pub before : Option (List ℕ)
    pub line : ReadsLine before after (codes "QUIT;")

  -- the lines of a caller were answered
  pub record HasTalked (had has : SeatOf) : Type 0 where
    pub lines : List (List ℕ)
    pub answers : List (List ℕ)
    pub answered : AreAnswered had lines answers has

  -- `callers` is the port at which callers call, if commands come from callers
  module _ (callers : Option ℕ) where
    -- the answers to all lines are written
    pub record HasAnswered (may_fail : Bool) (before after old new : Option (List ℕ)) (had has : SeatOf) : Type 0 where
      pub answers : List (List ℕ)
      pub own : SeatOf
      pub conversation : Conversation had before after answers own
      pub last : AreLastFor callers may_fail before after conversation.more
      pub seat_is : IsSeatOf had callers answers own has
      pub written : Appends old new (text_of answers)

    -- or the first of them
    pub record HasBegun (before after old new : Option (List ℕ)) (had : SeatOf) : Type 0 where
      pub answers : List (List ℕ)
      pub own : SeatOf
      pub has : SeatOf
      pub conversation : Conversation had before after answers own
      pub seat_is : IsSeatOf had callers answers own has
      pub written : Appends old new (text_of answers)

    -- or the first bytes of them
    pub record HasPart (before after old new : Option (List ℕ)) (had has : SeatOf) : Type 0 where
      pub answers : List (List ℕ)
      pub own : SeatOf
      pub conversation : Conversation had before after answers own
      pub seat_is : IsSeatOf had callers answers own has
      pub first : WritesFirst (text_of answers) old new

    -- the session stops because the writer fails, or memory ran out
    abbrev pub IsCutOff : Option (List ℕ) → Option (List ℕ) → Option (List ℕ) → Option (List ℕ) → SeatOf → SeatOf
        → Failure → Type 0
    IsCutOff before after old new had has f.OutOfMemory = HasBegun before after old new had
    IsCutOff before after old new had has f.Output = HasPart before after old new had has
    IsCutOff before after old new had has (f.CommandLine why) = ⊥
    IsCutOff before after old new had has (f.Input fault) = ⊥
