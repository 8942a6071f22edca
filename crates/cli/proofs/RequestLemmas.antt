-- What the words of a command line ask can be done.
use Rattle.std.proofs.Common.{ℕ, Bool, true, false, refl, List, arith, codes}
use Rattle.std.specs.Prelude.{Option, Some, None}
use Rattle.clap.specs.Words.{Text, first_of}
use Rattle.commands.specs.Simulate.Limits.{IsLogLimit}
use Rattle.cli.specs.CommandLine.{CanDo, IsLimit, IsRequest}
use Rattle.cli.specs.Requests.{CanServe}
use Rattle.cli.specs.declared.requests.Request.{Request}
use Rattle.cli.specs.declared.requests.Request.TheVariants.{Eval, Show, Check, Make, Simulate, Serve, Publish}

limit_within : (word : Option Text) (limit : ℕ) → IsLimit word limit → IsLogLimit limit
limit_within None limit is = record { some = omega (arith, is); most = omega (arith, is) }
limit_within (Some word) limit is = is.within

pub asked_can : (words : List Text) (request : Request) → IsRequest words request → CanDo request
asked_can words (Eval table wanted) asks = tt
asked_can words Show asks = tt
asked_can words (Check shows) asks = tt
asked_can words Make asks = tt
asked_can words (Simulate limit) asks =
    limit_within (first_of (codes "limit") asks.taken.found) limit asks.taken.argument
asked_can words (Serve service) asks =
    limit_within (first_of (codes "limit") asks.taken.found) service.limit asks.taken.arguments.limit
asked_can words (Publish feed) asks =
    limit_within (first_of (codes "limit") asks.taken.found) feed.limit asks.taken.arguments.limit

-- what is not to serve can be answered whether anybody serves or not
pub can_serve : (request : Request) → CanServe false request → (serves : Bool) → CanServe serves request
can_serve (Eval table wanted) can serves = tt
can_serve Show can serves = tt
can_serve (Check shows) can serves = tt
can_serve Make can serves = tt
can_serve (Simulate limit) can serves = tt
can_serve (Serve service) can true = refl
can_serve (Serve service) can false = can
can_serve (Publish feed) can true = refl
can_serve (Publish feed) can false = can

-- each request can be answered by a program that can serve
pub somebody_serves : (request : Request) → CanServe true request
somebody_serves (Eval table wanted) = tt
somebody_serves Show = tt
somebody_serves (Check shows) = tt
somebody_serves Make = tt
somebody_serves (Simulate limit) = tt
somebody_serves (Serve service) = refl
somebody_serves (Publish feed) = refl
