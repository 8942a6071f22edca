-- What the arguments of a command line request, as the crate `clap` parses arguments: the help, the version or a
-- subcommand. Arguments may be in any order.
use Rattle.std.specs.Prelude.{◌≡◌, ◌≢◌, ◌≤◌, ◌⊎◌, ℕ, Bool, true, false, List, [], Option, Some, None, codes}
use Rattle.std.specs.Option.{option_map}
use Rattle.std.specs.Str.Parse.{IsNumeral, digits_value, without_leading_plus}
use Rattle.clap.specs.Words.{IsAmong, Row, Text, fault_of, first_of, one_of, subcommand_of}
use Rattle.clap.specs.declared.error.kind.ErrorKind.{ErrorKind}
use Rattle.clap.specs.declared.error.kind.ErrorKind.TheVariants as kind
use Rattle.command_tree.specs.Tree.{pgshard}
use Rattle.cli.specs.declared.arguments.Invocation.{Invocation}
use Rattle.cli.specs.declared.arguments.Invocation.TheVariants.{Help, Answer}
use Rattle.commands.specs.declared.eval.row_output.RowOutput.{RowOutput}
use Rattle.commands.specs.declared.eval.row_output.RowOutput.TheVariants.{Answers, Insert}
use Rattle.cli.specs.declared.requests.Request.{Request}
use Rattle.cli.specs.declared.requests.Request.TheVariants.{Eval, Show, Check, Make, Simulate, Serve, Publish}
use Rattle.cli.specs.declared.requests.Feed.{Feed}
use Rattle.cli.specs.declared.requests.LogFormat.{LogFormat}
use Rattle.cli.specs.declared.requests.LogFormat.TheVariants.{Text as TextLines, Json}
use Rattle.cli.specs.declared.requests.Service.{Service}
use Rattle.commands.specs.Simulate.Limits.{IsLogLimit}
use Rattle.commands.specs.declared.failure.Failure.{Failure}
use Rattle.commands.specs.declared.failure.Failure.TheVariants as f

-- ---- requests

-- the arguments of `eval` are this table's name, and `--insert` if the message is wanted
pub record HasArguments (found : List Row) (word : Text) (wanted : RowOutput) : Type 0 where
  pub named : first_of (codes "TABLE") found ≡ Some word
  pub with_flag : one_of (codes "insert") found ≡ Some (codes "true") → wanted ≡ Insert
  pub without_flag : one_of (codes "insert") found ≡ Some (codes "false") → wanted ≡ Answers

abbrev pub IsEval : List Row → Request → Type 0
IsEval found (Eval table wanted) = HasArguments found table.now wanted
IsEval found Show = ⊥
IsEval found (Check shows) = ⊥
IsEval found Make = ⊥
IsEval found (Simulate limit) = ⊥
IsEval found (Serve service) = ⊥
IsEval found (Publish feed) = ⊥

-- the argument of `check` is `--show` if the catalog is to be shown
pub record HasShow (found : List Row) (shows : Bool) : Type 0 where
  pub with_flag : one_of (codes "show") found ≡ Some (codes "true") → shows ≡ true
  pub without_flag : one_of (codes "show") found ≡ Some (codes "false") → shows ≡ false

abbrev pub IsCheck : List Row → Request → Type 0
IsCheck found (Check shows) = HasShow found shows
IsCheck found (Eval table wanted) = ⊥
IsCheck found Show = ⊥
IsCheck found Make = ⊥
IsCheck found (Simulate limit) = ⊥
IsCheck found (Serve service) = ⊥
IsCheck found (Publish feed) = ⊥

-- the word spells this limit: decimal digits, with or without a plus before them
pub record SpellsLimit (word : Text) (limit : ℕ) : Type 0 where
  pub numeral : IsNumeral 10 (without_leading_plus word)
  pub is : limit ≡ digits_value 10 (without_leading_plus word)
  pub within : IsLogLimit limit

-- if no word is given, it is 1,000,000
abbrev pub IsLimit : Option Text → ℕ → Type 0
IsLimit None limit = limit ≡ 1000000
IsLimit (Some word) limit = SpellsLimit word limit

-- the argument of `simulate` is this limit
abbrev pub HasLimit : List Row → ℕ → Type 0
HasLimit found limit = IsLimit (first_of (codes "limit") found) limit

abbrev pub IsSimulate : List Row → Request → Type 0
IsSimulate found (Simulate limit) = HasLimit found limit
IsSimulate found (Eval table wanted) = ⊥
IsSimulate found Show = ⊥
IsSimulate found (Check shows) = ⊥
IsSimulate found Make = ⊥
IsSimulate found (Serve service) = ⊥
IsSimulate found (Publish feed) = ⊥

-- the word spells this number, which is from 1 to this maximum: decimal digits, with or without a plus before them
pub record Spells (most : ℕ) (word : Text) (number : ℕ) : Type 0 where
  pub numeral : IsNumeral 10 (without_leading_plus word)
  pub is : number ≡ digits_value 10 (without_leading_plus word)
  pub some : 1 ≤ number
  pub within : number ≤ most

-- a port is required
abbrev pub IsPort : Option Text → ℕ → Type 0
IsPort None port = ⊥
IsPort (Some word) port = Spells 65535 word port

-- if no word is given, there is no number of connections
abbrev pub AreConnections : Option Text → Option ℕ → Type 0
AreConnections None None = Unit {0}
AreConnections None (Some count) = ⊥
AreConnections (Some word) None = ⊥
AreConnections (Some word) (Some count) = Spells 1000 word count

-- the arguments of `serve` are these
pub record IsService (found : List Row) (service : Service) : Type 0 where
  pub port : IsPort (first_of (codes "port") found) service.port
  pub limit : HasLimit found service.limit
  pub connections : AreConnections (first_of (codes "connections") found) service.connections

abbrev pub IsServe : List Row → Request → Type 0
IsServe found (Serve service) = IsService found service
IsServe found (Eval table wanted) = ⊥
IsServe found Show = ⊥
IsServe found (Check shows) = ⊥
IsServe found Make = ⊥
IsServe found (Simulate limit) = ⊥
IsServe found (Publish feed) = ⊥

-- the word spells this number, which is at most this maximum: decimal digits, with or without a plus before them
pub record SpellsUpTo (most : ℕ) (word : Text) (number : ℕ) : Type 0 where
  pub numeral : IsNumeral 10 (without_leading_plus word)
  pub is : number ≡ digits_value 10 (without_leading_plus word)
  pub within : number ≤ most

-- a port is required; 0 is any free one
abbrev pub IsPortOrAny : Option Text → ℕ → Type 0
IsPortOrAny None port = ⊥
IsPortOrAny (Some word) port = SpellsUpTo 65535 word port

-- if no word is given, commands come from the input
abbrev pub AreCommandsAt : Option Text → Option ℕ → Type 0
AreCommandsAt None None = Unit {0}
AreCommandsAt None (Some port) = ⊥
AreCommandsAt (Some word) None = ⊥
AreCommandsAt (Some word) (Some port) = SpellsUpTo 65535 word port

-- this many seconds; if no word is given, the default
abbrev pub AreSeconds : ℕ → Option Text → ℕ → Type 0
AreSeconds otherwise None seconds = seconds ≡ otherwise
AreSeconds otherwise (Some word) seconds = Spells 86400 word seconds

-- the word is the name of this format; if no word is given, it is text
abbrev pub IsLogFormat : Option Text → LogFormat → Type 0
IsLogFormat None format = format ≡ TextLines
IsLogFormat (Some word) TextLines = word ≡ codes "text"
IsLogFormat (Some word) Json = word ≡ codes "json"

-- the arguments of `publish` are these
pub record IsFeed (found : List Row) (feed : Feed) : Type 0 where
  pub port : IsPortOrAny (first_of (codes "port") found) feed.port
  pub port_file : first_of (codes "port-file") found ≡ option_map (λ file. file.now) feed.port_file
  pub commands : AreCommandsAt (first_of (codes "commands") found) feed.commands
  pub limit : HasLimit found feed.limit
  pub start_timeout : AreSeconds 10 (first_of (codes "start-timeout") found) feed.start_timeout
  pub write_timeout : AreSeconds 60 (first_of (codes "write-timeout") found) feed.write_timeout
  pub keepalive : AreSeconds 10 (first_of (codes "keepalive") found) feed.keepalive
  pub timeout : AreSeconds 60 (first_of (codes "timeout") found) feed.timeout
  pub log : IsLogFormat (first_of (codes "log") found) feed.log

abbrev pub IsPublish : List Row → Request → Type 0
IsPublish found (Publish feed) = IsFeed found feed
IsPublish found (Eval table wanted) = ⊥
IsPublish found Show = ⊥
IsPublish found (Check shows) = ⊥
IsPublish found Make = ⊥
IsPublish found (Simulate limit) = ⊥
IsPublish found (Serve service) = ⊥

-- the request can be answered
abbrev pub CanDo : Request → Type 0
CanDo (Eval table wanted) = Unit {0}
CanDo Show = Unit {0}
CanDo (Check shows) = Unit {0}
CanDo Make = Unit {0}
CanDo (Simulate limit) = IsLogLimit limit
CanDo (Serve service) = IsLogLimit service.limit
CanDo (Publish feed) = IsLogLimit feed.limit

-- what clap parses is `eval` with its arguments
pub record TakesEval (taken : Option (Text × List Row)) (word : Text) (wanted : RowOutput) : Type 0 where
  pub found : List Row
  pub is : taken ≡ Some (codes "eval", found)
  pub arguments : HasArguments found word wanted

-- what clap parses is the subcommand of this name
pub record TakesSubcommand (taken : Option (Text × List Row)) (name : Text) : Type 0 where
  pub found : List Row
  pub is : taken ≡ Some (name, found)

-- what clap parses is `check` with its argument
pub record TakesCheck (taken : Option (Text × List Row)) (shows : Bool) : Type 0 where
  pub found : List Row
  pub is : taken ≡ Some (codes "check", found)
  pub argument : HasShow found shows

-- what clap parses is `simulate` with its argument
pub record TakesSimulate (taken : Option (Text × List Row)) (limit : ℕ) : Type 0 where
  pub found : List Row
  pub is : taken ≡ Some (codes "simulate", found)
  pub argument : HasLimit found limit

-- what clap parses is `serve` with its arguments
pub record TakesServe (taken : Option (Text × List Row)) (service : Service) : Type 0 where
  pub found : List Row
  pub is : taken ≡ Some (codes "serve", found)
  pub arguments : IsService found service

-- what clap parses is `publish` with its arguments
pub record TakesPublish (taken : Option (Text × List Row)) (feed : Feed) : Type 0 where
  pub found : List Row
  pub is : taken ≡ Some (codes "publish", found)
  pub arguments : IsFeed found feed

abbrev pub IsSubcommand : Option (Text × List Row) → Request → Type 0
IsSubcommand taken (Eval table wanted) = TakesEval taken table.now wanted
IsSubcommand taken Show = TakesSubcommand taken (codes "show")
IsSubcommand taken (Check shows) = TakesCheck taken shows
IsSubcommand taken Make = TakesSubcommand taken (codes "make")
IsSubcommand taken (Simulate limit) = TakesSimulate taken limit
IsSubcommand taken (Serve service) = TakesServe taken service
IsSubcommand taken (Publish feed) = TakesPublish taken feed

-- clap finds no fault in the arguments, and what it parses is the request
pub record IsRequest (words : List Text) (request : Request) : Type 0 where
  pub faultless : fault_of pgshard words ≡ []
  pub taken : IsSubcommand (subcommand_of pgshard words) request

-- ---- what else the words may be

-- The arguments request the help or the version. To the argument help, clap answers with the help, or that there is no
-- such subcommand.
abbrev pub AsksHelp : List Text → Type 0
AsksHelp words = IsAmong kind.DisplayHelp (fault_of pgshard words) ⊎ IsAmong kind.DisplayVersion
    (fault_of pgshard words)

-- clap finds this fault in the arguments, which do not request the help or the version
pub record IsFaulty (words : List Text) : Type 0 where
  pub found : ErrorKind
  pub is : IsAmong found (fault_of pgshard words)
  pub no_help : found ≢ kind.DisplayHelp
  pub no_version : found ≢ kind.DisplayVersion

-- clap finds no fault in the arguments, and they request nothing that can be answered
pub record AsksNothing (words : List Text) : Type 0 where
  pub faultless : fault_of pgshard words ≡ []
  pub nothing : (request : Request) → IsSubcommand (subcommand_of pgshard words) request → ⊥

abbrev pub IsUsageError : List Text → Type 0
IsUsageError words = IsFaulty words ⊎ AsksNothing words

abbrev pub IsAsking : List Text → Invocation → Type 0
IsAsking words (Help text) = AsksHelp words
IsAsking words (Answer request) = IsRequest words request

-- parsing fails because the arguments are a usage error, or memory ran out
abbrev pub IsOfWords : List Text → Failure → Type 0
IsOfWords words (f.CommandLine text) = IsUsageError words
IsOfWords words f.OutOfMemory = Unit {0}
IsOfWords words _ = ⊥

-- ---- an error of clap

-- it is a request for the help or the version
abbrev pub IsHelpKind : ErrorKind → Type 0
IsHelpKind found = (found ≡ kind.DisplayHelp) ⊎ (found ≡ kind.DisplayVersion)

abbrev pub IsHelp : Invocation → Type 0
IsHelp (Help text) = Unit {0}
IsHelp (Answer request) = ⊥

-- it is a usage error, or out of memory
abbrev pub IsOfError : ErrorKind → Failure → Type 0
IsOfError found (f.CommandLine text) = (found ≢ kind.OutOfMemory) × (found ≢ kind.DisplayHelp)
    × (found ≢ kind.DisplayVersion)
IsOfError found f.OutOfMemory = Unit {0}
IsOfError found _ = ⊥
