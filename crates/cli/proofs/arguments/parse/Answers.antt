use Rattle.std.proofs.Common.{◌≡◌, ℕ, List, [], ap, inr, map, refl, subst, sym}
use Rattle.std.specs.Prelude.{Option}
use Rattle.clap.specs.Words.{App, HasKind, HasMatchesOf, Row, fault_of, is_simple_and_free, kind_of, subcommand_of, subcommand_rows_of}
use Rattle.command_tree.specs.Tree.{pgshard}
use Rattle.cli.specs.CommandLine.{IsSubcommand}
use Rattle.cli.specs.declared.requests.Request.{Request}
use Rattle.cli.proofs.Invocations.{error_asks, error_stops}
use Rattle.cli.proofs.arguments.parse.Goals as goal

pub returns-in-Err-clause-asked : goal.returns-in-Err-clause-asked
returns-in-Err-clause-asked g c =
    let words = map g.S.AsStr.text c.args.words.now in
    let simple = c.in_ok-command.ensures in
    let faults = subst (λ (a : App). HasKind (fault_of a words) c.in-Err.error) simple
    (c.in-Err.ensures.kinds (ap is_simple_and_free simple)) in
    error_asks words (kind_of c.in-Err.error) faults c.asked_by.result c.asked_by.ensures.help

pub returns-in-Err-clause-stopped : goal.returns-in-Err-clause-stopped
returns-in-Err-clause-stopped g c =
    let words = map g.S.AsStr.text c.args.words.now in
    let simple = c.in_ok-command.ensures in
    let faults = subst (λ (a : App). HasKind (fault_of a words) c.in-Err.error) simple
    (c.in-Err.ensures.kinds (ap is_simple_and_free simple)) in
    error_stops words (kind_of c.in-Err.error) faults c.asked_by.result c.asked_by.ensures.stopped

pub returns-in-Some-clause-asked : goal.returns-in-Some-clause-asked
returns-in-Some-clause-asked g c =
    let words = map g.S.AsStr.text c.args.words.now in
    let simple = c.in_ok-command.ensures in
    let none : fault_of pgshard words ≡ [] =
    subst (λ (a : App). fault_of a words ≡ []) simple (c.in-Ok.ensures.kinds (ap is_simple_and_free simple)) in
    let met = subst (λ (a : App). HasMatchesOf a words c.in-Ok.matches) simple c.in-Ok.ensures.ok.2 in
    let same : subcommand_rows_of c.in-Ok.matches ≡ subcommand_of pgshard words = (met refl).1 in
    record {
      faultless = none;
      taken = subst (λ (taken : Option (List ℕ × List Row)). IsSubcommand taken c.in-Some.request) same
          c.in-Some.ensures.some;
    }

pub returns-clause-stopped : goal.returns-clause-stopped
returns-clause-stopped g c =
    let words = map g.S.AsStr.text c.args.words.now in
    let simple = c.in_ok-command.ensures in
    let none : fault_of pgshard words ≡ [] =
    subst (λ (a : App). fault_of a words ≡ []) simple (c.in-Ok.ensures.kinds (ap is_simple_and_free simple)) in
    let met = subst (λ (a : App). HasMatchesOf a words c.in-Ok.matches) simple c.in-Ok.ensures.ok.2 in
    let same : subcommand_rows_of c.in-Ok.matches ≡ subcommand_of pgshard words = (met refl).1 in
    let nothing : (request : Request) → IsSubcommand (subcommand_of pgshard words) request → ⊥ =
    λ request takes. c.request_of.ensures.none c.in-None.is request
    (subst (λ (taken : Option (List ℕ × List Row)). IsSubcommand taken request) (sym same) takes) in
    inr (record { faultless = none; nothing = nothing })
