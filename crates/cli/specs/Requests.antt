-- What the arguments of a command line request, and which lines answer it.
use Rattle.std.specs.Prelude.{◌≡◌, ℕ, ◌⊎◌, Bool, true, false, List, [], Option, IsErrAnd, Result}
use Rattle.commands.specs.Check.Checking as checking
use Rattle.cli.specs.CommandLine.{IsUsageError as IsMiswordedFor, IsRequest}
use Rattle.cli.specs.Published as published
use Rattle.cli.specs.Serving as serving
use Rattle.commands.specs.Eval.Evaluation as evaluation
use Rattle.commands.specs.Make.Making as making
use Rattle.commands.specs.Inputs.{IsInput, IsOfReading, IsUnread}
use Rattle.commands.specs.Output.{Ends}
use Rattle.commands.specs.Show.Showing as showing
use Rattle.commands.specs.Simulate.Simulation as simulation
use Rattle.cli.specs.declared.requests.Request.{Request}
use Rattle.cli.specs.declared.requests.Request.TheVariants.{Eval, Show, Check, Make, Simulate, Serve, Publish}
use Rattle.commands.specs.declared.failure.Failure.{Failure}
use Rattle.commands.specs.declared.failure.InputFault.{InputFault}
use Rattle.commands.specs.declared.failure.Status.{Status}

-- ---- of a request and its input

-- The lines are the whole answer, and the status says whether it is a refusal; [] and 0 say that no row, table or step
-- is left. `may_fail` says whether reads may fail, since a read that fails ends the commands of `publish`.
abbrev pub IsAnswer : Bool → Request → List ℕ → List (List ℕ) → Status → Type 0
IsAnswer may_fail (Eval table wanted) input lines status =
    evaluation.IsEvaluation wanted input table.now [] lines status
IsAnswer may_fail Show input lines status = showing.IsShowing input lines status
IsAnswer may_fail (Check shows) input lines status = checking.IsCheck shows input lines status
IsAnswer may_fail Make input lines status = making.IsMaking input 0 lines status
IsAnswer may_fail (Simulate limit) input lines status = simulation.IsSimulation limit input [] lines status
IsAnswer may_fail (Serve service) input lines status = serving.IsServing service input lines status
IsAnswer may_fail (Publish feed) input lines status = published.IsPublishing may_fail feed input lines status

-- there is no line yet, and nothing is said of the input; or the lines are the first of an answer
abbrev pub IsBegunAnswer : Request → List ℕ → List (List ℕ) → Type 0
IsBegunAnswer (Eval table wanted) input lines = (lines ≡ []) ⊎ evaluation.IsBegunEvaluation wanted input table.now lines
IsBegunAnswer Show input lines = lines ≡ []
IsBegunAnswer (Check shows) input lines = lines ≡ []
IsBegunAnswer Make input lines = (lines ≡ []) ⊎ making.IsBegunMaking input lines
IsBegunAnswer (Simulate limit) input lines = (lines ≡ []) ⊎ simulation.IsBegunSimulation limit input lines
IsBegunAnswer (Serve service) input lines = serving.IsBegunServing service input lines
IsBegunAnswer (Publish feed) input lines = published.IsBegunPublishing feed input lines

-- the input has this fault
abbrev pub IsRequestFault : Request → List ℕ → InputFault → Type 0
IsRequestFault (Eval table wanted) input fault = evaluation.IsEvalFault input table.now fault
IsRequestFault Show input fault = making.IsMakeFault input fault
IsRequestFault (Check shows) input fault = checking.IsCheckFault input fault
IsRequestFault Make input fault = making.IsMakeFault input fault
IsRequestFault (Simulate limit) input fault = simulation.IsSimulateFault input fault
IsRequestFault (Serve service) input fault = serving.IsServeFault input fault
IsRequestFault (Publish feed) input fault = published.IsPublishFault input fault

-- the request is answered of this input, as far as memory and the writer go, or the input has a fault and nothing is
-- written
abbrev pub EndsRequest : Bool → Request → List ℕ → Option (List ℕ) → Option (List ℕ) → Result Status Failure → Type 0
EndsRequest may_fail request input old new result =
    Ends (IsAnswer may_fail request input) (IsBegunAnswer request input) (IsRequestFault request input) old new result

-- ---- whether it can be served

-- `serve` and `publish` are answered only by a program that can serve
abbrev pub CanServe : Bool → Request → Type 0
CanServe serves (Serve service) = serves ≡ true
CanServe serves (Publish feed) = serves ≡ true
CanServe serves (Eval table wanted) = Unit {0}
CanServe serves Show = Unit {0}
CanServe serves (Check shows) = Unit {0}
CanServe serves Make = Unit {0}
CanServe serves (Simulate limit) = Unit {0}

-- ---- whether it uses sockets

-- The request is to serve, and the sharding of the input is accepted. No other request uses sockets, and neither does
-- one whose sharding is refused.
abbrev pub Accepts : Request → List ℕ → Type 0
Accepts (Serve service) input = serving.IsAccepted input
Accepts (Publish feed) input = published.IsPublishAccepted input
Accepts (Eval table wanted) input = ⊥
Accepts Show input = ⊥
Accepts (Check shows) input = ⊥
Accepts Make input = ⊥
Accepts (Simulate limit) input = ⊥

-- ---- of a reader

-- the sharding of what the reader gave is accepted
pub record AcceptsInput (request : Request) (known : Option (List ℕ)) : Type 0 where
  pub input : List ℕ
  pub given : IsInput known input
  pub accepts : Accepts request input

-- what the reader gave is answered
pub record AnswersInput (may_fail : Bool) (request : Request) (known old new : Option (List ℕ))
    (result : Result Status Failure) : Type 0 where
  pub input : List ℕ
  pub given : IsInput known input
  pub ends : EndsRequest may_fail request input old new result

-- or reading it stopped, and nothing is written
abbrev pub AnswersReader : Request → Bool → Option (List ℕ) → Option (List ℕ) → Option (List ℕ) → Result Status Failure
    → Type 0
AnswersReader request may_fail known old new result =
    AnswersInput may_fail request known old new result
    ⊎ (IsErrAnd result (IsOfReading may_fail known) × (new ≡ old))

-- ---- of the words and what the reader gives

-- `serves` says whether the program can serve
module _ (serves : Bool) (words : List (List ℕ)) (known : Option (List ℕ)) where
  -- what is requested, of which input
  pub record IsAsked (request : Request) (input : List ℕ) : Type 0 where
    pub asks : IsRequest words request
    pub can : CanServe serves request
    pub given : IsInput known input

  -- the lines answer what the arguments request of the input
  pub record AnswersWords (may_fail : Bool) (lines : List (List ℕ)) (status : Status) : Type 0 where
    pub request : Request
    pub input : List ℕ
    pub asked : IsAsked request input
    pub answer : IsAnswer may_fail request input lines status

  -- the lines begin such an answer
  pub record BeginsWords (lines : List (List ℕ)) : Type 0 where
    pub request : Request
    pub input : List ℕ
    pub asked : IsAsked request input
    pub begun : IsBegunAnswer request input lines

  -- the input has this fault
  pub record HasInputFault (fault : InputFault) : Type 0 where
    pub request : Request
    pub input : List ℕ
    pub asked : IsAsked request input
    pub is : IsRequestFault request input fault

-- the arguments request something of an input, and the reader's input cannot be read
pub record LacksInput (serves : Bool) (words : List (List ℕ)) (may_fail : Bool) (known : Option (List ℕ)) : Type 0 where
  pub request : Request
  pub asks : IsRequest words request
  pub can : CanServe serves request
  pub unread : IsUnread may_fail known

-- the arguments request to serve
pub record AsksSockets (words : List (List ℕ)) : Type 0 where
  pub request : Request
  pub asks : IsRequest words request
  pub needs : CanServe false request → ⊥

-- but the program cannot
abbrev pub AsksToServe : Bool → List (List ℕ) → Type 0
AsksToServe serves words = (serves ≡ false) × AsksSockets words

-- the arguments are a usage error, or request what the program cannot do
abbrev pub IsMisworded : Bool → List (List ℕ) → Type 0
IsMisworded serves words = IsMiswordedFor words ⊎ AsksToServe serves words

-- The arguments request to serve what the reader gives, and its sharding is accepted: only then are sockets used.
pub record UsesSockets (words : List (List ℕ)) (known : Option (List ℕ)) : Type 0 where
  pub request : Request
  pub input : List ℕ
  pub asks : IsRequest words request
  pub given : IsInput known input
  pub accepts : Accepts request input
