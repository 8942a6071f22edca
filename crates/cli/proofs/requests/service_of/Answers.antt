use Rattle.std.proofs.Common.{◌≡◌, ◌∙◌, ℕ, List, sym, subst, codes}
use Rattle.std.specs.Prelude.{Option}
use Rattle.std.specs.Option.{option_map}
use Rattle.clap.specs.Words.{found_of, first_of, rows_of}
use Rattle.clap.proofs.WalkLemmas.{first_value-rows}
use Rattle.cli.specs.CommandLine.{IsLimit}
use Rattle.cli.specs.CommandLine.{AreConnections, IsPort}
use Rattle.cli.proofs.requests.service_of.Goals as goal

pub returns-in_err-port-clause-none : goal.returns-in_err-port-clause-none
returns-in_err-port-clause-none c = λ none service is.
    let found = found_of c.args.serve.now in
    let named : first_of (codes "port") (rows_of found) ≡ option_map (λ word. word.now) c.get_str.result =
    sym (first_value-rows found (codes "port")) ∙ sym c.get_str.ensures in
    c.port_by.ensures.none c.in_err-port.was service.port
    (subst (λ (word : Option (List ℕ)). IsPort word service.port) named is.port)

pub returns-in_err-limit-clause-none : goal.returns-in_err-limit-clause-none
returns-in_err-limit-clause-none c = λ none service is.
    let found = found_of c.args.serve.now in
    let named : first_of (codes "limit") (rows_of found) ≡ option_map (λ word. word.now) c.get_str-2.result =
    sym (first_value-rows found (codes "limit")) ∙ sym c.get_str-2.ensures in
    c.limit_by.ensures.none c.in_err-limit.was service.limit
    (subst (λ (word : Option (List ℕ)). IsLimit word service.limit) named is.limit)

pub returns-in_err-connections-clause-none : goal.returns-in_err-connections-clause-none
returns-in_err-connections-clause-none c = λ none service is.
    let found = found_of c.args.serve.now in
    let named : first_of (codes "connections") (rows_of found) ≡ option_map (λ word. word.now) c.get_str-3.result =
    sym (first_value-rows found (codes "connections")) ∙ sym c.get_str-3.ensures in
    c.connections_by.ensures.none c.in_err-connections.was service.connections
    (subst (λ (word : Option (List ℕ)). AreConnections word service.connections) named is.connections)

pub returns-clause-some : goal.returns-clause-some
returns-clause-some c =
    let found = found_of c.args.serve.now in
    let port_named : first_of (codes "port") (rows_of found) ≡ option_map (λ word. word.now) c.get_str.result =
    sym (first_value-rows found (codes "port")) ∙ sym c.get_str.ensures in
    let limit_named : first_of (codes "limit") (rows_of found) ≡ option_map (λ word. word.now) c.get_str-2.result =
    sym (first_value-rows found (codes "limit")) ∙ sym c.get_str-2.ensures in
    let connections_named : first_of (codes "connections") (rows_of found)
    ≡ option_map (λ word. word.now) c.get_str-3.result = sym (first_value-rows found (codes "connections"))
    ∙ sym c.get_str-3.ensures in
    record {
      port = subst (λ (word : Option (List ℕ)). IsPort word c.in_ok-port.port) (sym port_named)
          c.in_ok-port.ensures.some;
      limit = subst (λ (word : Option (List ℕ)). IsLimit word c.in_ok-limit.limit) (sym limit_named)
          c.in_ok-limit.ensures.some;
      connections = subst (λ (word : Option (List ℕ)). AreConnections word c.in_ok-connections.connections)
          (sym connections_named) c.in_ok-connections.ensures.some;
    }
