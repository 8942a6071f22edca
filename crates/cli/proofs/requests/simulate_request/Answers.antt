use Rattle.std.proofs.Common.{◌≡◌, ◌∙◌, ℕ, List, sym, subst, codes}
use Rattle.std.specs.Prelude.{Option}
use Rattle.std.specs.Option.{option_map}
use Rattle.clap.specs.Words.{found_of, first_of, rows_of}
use Rattle.clap.proofs.WalkLemmas.{first_value-rows}
use Rattle.cli.specs.CommandLine.{IsLimit}
use Rattle.cli.proofs.requests.simulate_request.Goals as goal

pub returns-in_err-limit-clause-none : goal.returns-in_err-limit-clause-none
returns-in_err-limit-clause-none c = λ none limit is.
    let found = found_of c.args.simulate.now in
    let named : first_of (codes "limit") (rows_of found) ≡ option_map (λ word. word.now) c.get_str.result =
    sym (first_value-rows found (codes "limit")) ∙ sym c.get_str.ensures in
    c.limit_by.ensures.none c.in_err-limit.was limit
    (subst (λ (word : Option (List ℕ)). IsLimit word limit) named is)

pub returns-clause-some : goal.returns-clause-some
returns-clause-some c =
    let found = found_of c.args.simulate.now in
    let named : first_of (codes "limit") (rows_of found) ≡ option_map (λ word. word.now) c.get_str.result =
    sym (first_value-rows found (codes "limit")) ∙ sym c.get_str.ensures in
    subst (λ (word : Option (List ℕ)). IsLimit word c.in_ok-limit.limit) (sym named) c.in_ok-limit.ensures.some
