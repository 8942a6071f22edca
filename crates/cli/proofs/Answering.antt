-- A request is answered, or cannot be.
use Rattle.std.proofs.Common.{◌≡◌, ℕ, inl, inr, true, false, Bool, List, Option, refl, sym, subst}
use Rattle.std.specs.Prelude.{IfErr, IfOk, IsErrAnd, OnOk, Result, Ok, Err}
use Rattle.std.specs.Io.KnownBytes.{Appends}
use Rattle.cli.proofs.Exits as exits
use Rattle.cli.proofs.RequestLemmas.{can_serve, somebody_serves}
use Rattle.cli.specs.CommandLine.{AsksHelp, IsOfWords, IsRequest}
use Rattle.cli.specs.Courses.{IsToServe, IsUnserved}
use Rattle.cli.specs.Requests.{AnswersReader, CanServe, IsAsked, IsAnswer, IsBegunAnswer, IsRequestFault, EndsRequest}
use Rattle.cli.specs.Runs.{asked_of_words, IsProgramEnding}
use Rattle.cli.specs.declared.requests.Request.{Request}
use Rattle.cli.specs.declared.requests.Request.TheVariants.{Eval, Show, Check, Make, Simulate, Serve, Publish}
use Rattle.commands.specs.Inputs.{IsOfReading}
use Rattle.commands.specs.Failures.{status_of_failure}
use Rattle.commands.specs.Output.{EndsByFault, SaysFault, StopsText, ended}
use Rattle.commands.specs.declared.failure.Failure.{Failure}
use Rattle.commands.specs.declared.failure.Failure.TheVariants as f
use Rattle.commands.specs.declared.failure.InputFault.TheVariants as i
use Rattle.commands.specs.declared.failure.Status.{Status}
use Rattle.commands.specs.declared.failure.Status.TheVariants.{Done}

-- what is answered of an input was read
is_read : (request : Request) (input : List ℕ) → IsRequestFault request input i.Unread → ⊥
is_read (Eval table wanted) input there = there
is_read Show input there = there
is_read (Check shows) input there = there
is_read Make input there = there
is_read (Simulate limit) input there = there
is_read (Serve service) input (inl there) = there
is_read (Serve service) input (inr there) = there
is_read (Publish feed) input there = there

module _ (serves : Bool) (words : List (List ℕ)) (may_fail : Bool) (known : Option (List ℕ)) where
  answered : (request : Request) (input : List ℕ) (old new : Option (List ℕ)) (result : Result Status Failure)
      → IsAsked serves words known request input
      → EndsRequest may_fail request input old new result → IsProgramEnding serves words may_fail known old new result
  answered request input old new result asked ends =
      exits.answered (asked_of_words serves words may_fail known) (IsAnswer may_fail request input)
      (IsBegunAnswer request input) (IsRequestFault request input)
      (λ lines status whole. record { request = request; input = input; asked = asked; answer = whole })
      (λ lines begun. record { request = request; input = input; asked = asked; begun = begun })
      (λ fault there. record { request = request; input = input; asked = asked; is = there }) (is_read request input)
      old new result ends

  -- ---- of a reader

  module _ (request : Request) (asks : IsRequest words request) (can : CanServe serves request) where
    unread_reported : (old new : Option (List ℕ)) (failure : Failure)
        → IsOfReading may_fail known failure → new ≡ old
        → IsProgramEnding serves words may_fail known old new (Err failure)
    unread_reported old new (f.Input i.Unread) is same =
        (record { request = request; asks = asks; can = can; unread = is }, same)
    unread_reported old new f.OutOfMemory is same =
        exits.out_of_memory (asked_of_words serves words may_fail known) old new same
    unread_reported old new (f.CommandLine why) is same = absurd is
    unread_reported old new f.Output is same = absurd is
    unread_reported old new (f.Input i.Parts) is same = absurd is
    unread_reported old new (f.Input (i.Catalog error)) is same = absurd is
    unread_reported old new (f.Input (i.Table name)) is same = absurd is
    unread_reported old new (f.Input (i.Certificate number error)) is same = absurd is
    unread_reported old new (f.Input (i.Script error)) is same = absurd is

    unread_ends : (old new : Option (List ℕ)) (result : Result Status Failure)
        → IsErrAnd result (IsOfReading may_fail known) → new ≡ old
        → IsProgramEnding serves words may_fail known old new result
    unread_ends old new (Ok status) is same = absurd is
    unread_ends old new (Err failure) is same = unread_reported old new failure is same

  pub reader_ends : (request : Request) (old new : Option (List ℕ)) (result : Result Status Failure)
      → IsRequest words request → CanServe serves request → AnswersReader request may_fail known old new result
      → IsProgramEnding serves words may_fail known old new result
  reader_ends request old new result asks can (inl answers) =
      answered request answers.input old new result (record { asks = asks; can = can; given = answers.given })
      answers.ends
  reader_ends request old new result asks can (inr unread) =
      unread_ends request asks can old new result unread.0 unread.1

  -- ---- of no request

  pub help_ends : (text : List ℕ) (old new : Option (List ℕ)) (result : Result Status Failure) → AsksHelp words
      → IfOk result (λ status. status ≡ Done) → OnOk result (Appends old new (ended text))
      → IfErr result (StopsText (ended text) old new) → IsProgramEnding serves words may_fail known old new result
  help_ends text old new (Ok status) asks same appends stops =
      subst (λ (s : Status). IsProgramEnding serves words may_fail known old new (Ok s)) (sym same)
      (exits.help_written (asked_of_words serves words may_fail known) text old new asks appends)
  help_ends text old new (Err failure) asks same appends stops =
      exits.help_stopped (asked_of_words serves words may_fail known) text old new failure asks stops

  -- the arguments are a usage error
  pub words_end : (old : Option (List ℕ)) (failure : Failure) → IsOfWords words failure
      → IsProgramEnding serves words may_fail known old old (Err failure)
  words_end old (f.CommandLine why) is = (inl is, refl)
  words_end old f.OutOfMemory is = exits.out_of_memory (asked_of_words serves words may_fail known) old old refl
  words_end old (f.Input fault) is = absurd is
  words_end old f.Output is = absurd is

-- what is not to serve is answered, whether anybody serves or not
pub request_ends : (words : List (List ℕ)) (may_fail : Bool) (known : Option (List ℕ)) (request : Request)
    (old new : Option (List ℕ)) (result : Result Status Failure) → IsRequest words request → CanServe false request
    → AnswersReader request may_fail known old new result
    → (serves : Bool) → IsProgramEnding serves words may_fail known old new result
request_ends words may_fail known request old new result asks can answers serves =
    reader_ends serves words may_fail known request old new result asks (can_serve request can serves) answers

-- somebody serves
pub served_ends : {I : Type 0} (may_fail : Bool) (remaining : I → Option (List ℕ)) (words : List (List ℕ))
    (input left : I) (old mid new : Option (List ℕ)) (request : Request) (result : Result Status Failure)
    → IsToServe words input left old mid request → AnswersReader request may_fail (remaining left) mid new result
    → IsProgramEnding true words may_fail (remaining input) old new result
served_ends {I} may_fail remaining words input left old mid new request result is answers =
    subst (λ (from : Option (List ℕ)). IsProgramEnding true words may_fail (remaining input) from new result)
    is.unwritten
    (subst (λ (given : I). IsProgramEnding true words may_fail (remaining given) mid new result) is.unread
    (reader_ends true words may_fail (remaining left) request mid new result is.asks (somebody_serves request)
    answers))

-- nobody serves
pub unserved_ends : {I : Type 0} (words : List (List ℕ)) (may_fail : Bool) (known : Option (List ℕ)) (input left : I)
    (old mid : Option (List ℕ)) (request : Request) (failure : Failure)
    → IsToServe words input left old mid request → IsUnserved failure
    → IsProgramEnding false words may_fail known old mid (Err failure)
unserved_ends words may_fail known input left old mid request (f.CommandLine why) is told =
    (inr (refl, record { request = request; asks = is.asks; needs = is.needs }), is.unwritten)
unserved_ends words may_fail known input left old mid request f.OutOfMemory is told =
    exits.out_of_memory (asked_of_words false words may_fail known) old mid is.unwritten
unserved_ends words may_fail known input left old mid request (f.Input fault) is told = absurd told
unserved_ends words may_fail known input left old mid request f.Output is told = absurd told

-- and nothing is written
pub unserved_says : (failure : Failure) (old new : Bool) → IsUnserved failure → new ≡ old
    → SaysFault old new (status_of_failure failure)
unserved_says (f.CommandLine why) old new told same = same
unserved_says f.OutOfMemory old new told same = same
unserved_says (f.Input fault) old new told same = absurd told
unserved_says f.Output old new told same = absurd told

-- the arguments are a usage error, and nothing is written
pub words_say : (words : List (List ℕ)) (failure : Failure) (old : Bool) → IsOfWords words failure
    → SaysFault old old (status_of_failure failure)
words_say words (f.CommandLine why) old is = refl
words_say words f.OutOfMemory old is = refl
words_say words (f.Input fault) old is = absurd is
words_say words f.Output old is = absurd is

-- reading the input stops, and nothing is written
reading_reported : (may_fail : Bool) (known : Option (List ℕ)) (failure : Failure) (old : Bool)
    → IsOfReading may_fail known failure → SaysFault old old (status_of_failure failure)
reading_reported may_fail known (f.Input fault) old is = refl
reading_reported may_fail known f.OutOfMemory old is = refl
reading_reported may_fail known (f.CommandLine why) old is = absurd is
reading_reported may_fail known f.Output old is = absurd is

pub reading_says : (may_fail : Bool) (known : Option (List ℕ)) (failure : Failure) (old : Bool)
    (result : Result Status Failure) → IsOfReading may_fail known failure → IsErrAnd result (λ failed. failed ≡ failure)
    → EndsByFault old old result
reading_says may_fail known failure old (Ok told) is same = absurd same
reading_says may_fail known failure old (Err failed) is same =
    subst (λ (told : Failure). SaysFault old old (status_of_failure told)) (sym same)
    (reading_reported may_fail known failure old is)

-- reading the input stops, of what a `?` gives
pub reading_returned : (may_fail : Bool) (known : Option (List ℕ)) (failure : Failure) (result : Result Status Failure)
    → IsOfReading may_fail known failure → IsErrAnd result (λ failed. failed ≡ failure)
    → IsErrAnd result (IsOfReading may_fail known)
reading_returned may_fail known failure (Ok told) is same = absurd same
reading_returned may_fail known failure (Err failed) is same = subst (IsOfReading may_fail known) (sym same) is
