-- Where the status is that of a failed write, the writer has failed, or sockets are used.
use Rattle.std.proofs.Common.{◌≡◌, ◌⊎◌, inl, inr, ℕ, Bool, true, false, if◌then◌else◌, List, Option, refl, sym, subst}
use Rattle.std.specs.Prelude.{IsErrAnd, Result, Ok, Err, is_none}
use Rattle.cli.specs.Courses.{FinishesFault, IsToServe}
use Rattle.cli.specs.Lines.{StopsPart}
use Rattle.cli.specs.Outcomes.{NumberSaysFault}
use Rattle.cli.specs.Requests.{AcceptsInput, UsesSockets}
use Rattle.cli.specs.Scripts.{IsOfScript}
use Rattle.cli.specs.Serving.{IsAccepted}
use Rattle.cli.specs.declared.requests.Request.{Request}
use Rattle.cli.specs.declared.requests.Request.TheVariants.{Serve}
use Rattle.cli.specs.declared.requests.Service.{Service}
use Rattle.commands.specs.Certificates.{IsOfLines}
use Rattle.commands.specs.Failures.{failure_of_read, status_of_failure}
use Rattle.commands.specs.Inputs.{IsInput}
use Rattle.commands.specs.Output.{EndsByFault, SaysFault}
use Rattle.commands.specs.declared.failure.Failure.{Failure}
use Rattle.commands.specs.declared.failure.Failure.TheVariants as f
use Rattle.commands.specs.declared.failure.InputFault.TheVariants as i
use Rattle.commands.specs.declared.failure.Status.{Status}
use Rattle.filter_tree.specs.declared.table.Table.{Table}
use Rattle.sql_reader.specs.Reading.{read_fault}
use Rattle.sql_reader.specs.declared.error.ReadError.{ReadError}

-- ---- reading stops, and nothing is written

-- of what a `?` gives
stopped : (failure : Failure) (old : Bool) (result : Result Status Failure)
    → SaysFault old old (status_of_failure failure) → IsErrAnd result (λ failed. failed ≡ failure)
    → EndsByFault old old result
stopped failure old (Ok told) says is = absurd is
stopped failure old (Err failed) says is =
    subst (λ (told : Failure). SaysFault old old (status_of_failure told)) (sym is) says

pub memory_stops : (old : Bool) (result : Result Status Failure) → IsErrAnd result (λ failed. failed ≡ f.OutOfMemory)
    → EndsByFault old old result
memory_stops old result is = stopped f.OutOfMemory old result refl is

catalog_says : (error : ReadError) (old : Bool) (is_memory : Bool)
    → SaysFault old old (status_of_failure (if is_memory then f.OutOfMemory else f.Input (i.Catalog error)))
catalog_says error old true = refl
catalog_says error old false = refl

pub catalog_stops : (error : ReadError) (old : Bool) (result : Result Status Failure)
    → IsErrAnd result (λ failed. failed ≡ failure_of_read error) → EndsByFault old old result
catalog_stops error old result is =
    stopped (failure_of_read error) old result (catalog_says error old (is_none (read_fault error))) is

certificate_says : (lines : List (List ℕ)) (failure : Failure) (old : Bool) → IsOfLines lines failure
    → SaysFault old old (status_of_failure failure)
certificate_says lines (f.Input fault) old is = refl
certificate_says lines f.OutOfMemory old is = refl
certificate_says lines (f.CommandLine why) old is = absurd is
certificate_says lines f.Output old is = absurd is

pub certificate_stops : (lines : List (List ℕ)) (failure : Failure) (old : Bool) (result : Result Status Failure)
    → IsOfLines lines failure → IsErrAnd result (λ failed. failed ≡ failure) → EndsByFault old old result
certificate_stops lines failure old result of is =
    stopped failure old result (certificate_says lines failure old of) is

script_says : (tables : List Table) (text : List ℕ) (failure : Failure) (old : Bool) → IsOfScript tables text failure
    → SaysFault old old (status_of_failure failure)
script_says tables text (f.Input fault) old is = refl
script_says tables text f.OutOfMemory old is = refl
script_says tables text (f.CommandLine why) old is = absurd is
script_says tables text f.Output old is = absurd is

pub script_stops : (tables : List Table) (text : List ℕ) (failure : Failure) (old : Bool)
    (result : Result Status Failure) → IsOfScript tables text failure → IsErrAnd result (λ failed. failed ≡ failure)
    → EndsByFault old old result
script_stops tables text failure old result of is =
    stopped failure old result (script_says tables text failure old of) is

part_says : (may_fail : Bool) (known left : Option (List ℕ)) (failure : Failure) (old : Bool)
    → StopsPart may_fail known left failure → SaysFault old old (status_of_failure failure)
part_says may_fail known left (f.Input fault) old is = refl
part_says may_fail known left f.OutOfMemory old is = refl
part_says may_fail known left (f.CommandLine why) old is = absurd is
part_says may_fail known left f.Output old is = absurd is

pub part_stops : (may_fail : Bool) (known left : Option (List ℕ)) (failure : Failure) (old : Bool)
    (result : Result Status Failure) → StopsPart may_fail known left failure
    → IsErrAnd result (λ failed. failed ≡ failure) → EndsByFault old old result
part_stops may_fail known left failure old result of is =
    stopped failure old result (part_says may_fail known left failure old of) is

pub ruleset quiet = (memory_stops, catalog_stops, certificate_stops, script_stops, part_stops)

-- ---- of a reader

-- what the reader gave was served
pub input_says : (service : Service) (known : Option (List ℕ)) (input : List ℕ) (old new : Bool)
    (result : Result Status Failure) → IsInput known input → IsAccepted input ⊎ EndsByFault old new result
    → AcceptsInput (Serve service) known ⊎ EndsByFault old new result
input_says service known input old new result given (inl accepted) =
    inl (record { input = input; given = given; accepts = accepted })
input_says service known input old new result given (inr ends) = inr ends

-- what is requested was served, and the status is returned
pub served_says : {I : Type 0} (remaining : I → Option (List ℕ)) (words : List (List ℕ)) (input left : I)
    (old mid : Option (List ℕ)) (request : Request) (result : Result Status Failure) (before between after last : Bool)
    (number : ℕ) → IsToServe words input left old mid request → between ≡ before
    → AcceptsInput request (remaining left) ⊎ EndsByFault between after result
    → FinishesFault result after last number
    → UsesSockets words (remaining input) ⊎ NumberSaysFault before last number
served_says {I} remaining words input left old mid request result before between after last number is same
    (inl accepted) finishes =
    inl (record {
      request = request;
      input = accepted.input;
      asks = is.asks;
      given = subst (λ (reader : I). IsInput (remaining reader) accepted.input) is.unread accepted.given;
      accepts = accepted.accepts;
    })
served_says remaining words input left old mid request result before between after last number is same (inr ends)
    finishes = inr (finishes before (subst (λ (from : Bool). EndsByFault from after result) same ends))
