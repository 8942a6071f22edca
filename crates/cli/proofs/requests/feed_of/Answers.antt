use Rattle.std.proofs.Common.{◌≡◌, ◌∙◌, ℕ, List, sym, subst, codes}
use Rattle.std.specs.Prelude.{Option}
use Rattle.std.specs.Option.{option_map}
use Rattle.clap.specs.Words.{found_of, first_of, rows_of}
use Rattle.clap.proofs.WalkLemmas.{first_value-rows}
use Rattle.cli.specs.CommandLine.{AreCommandsAt, AreSeconds, IsLimit, IsLogFormat, IsPortOrAny}
use Rattle.cli.proofs.requests.feed_of.Goals as goal

pub returns-in_err-port-clause-none : goal.returns-in_err-port-clause-none
returns-in_err-port-clause-none c = λ none feed is.
    let found = found_of c.args.publish.now in
    let named : first_of (codes "port") (rows_of found) ≡ option_map (λ word. word.now) c.get_str.result =
    sym (first_value-rows found (codes "port")) ∙ sym c.get_str.ensures in
    c.port_or_any_by.ensures.none c.in_err-port.was feed.port
    (subst (λ (word : Option (List ℕ)). IsPortOrAny word feed.port) named is.port)

pub returns-in_err-commands-clause-none : goal.returns-in_err-commands-clause-none
returns-in_err-commands-clause-none c = λ none feed is.
    let found = found_of c.args.publish.now in
    let named : first_of (codes "commands") (rows_of found) ≡ option_map (λ word. word.now) c.get_str-2.result =
    sym (first_value-rows found (codes "commands")) ∙ sym c.get_str-2.ensures in
    c.commands_by.ensures.none c.in_err-commands.was feed.commands
    (subst (λ (word : Option (List ℕ)). AreCommandsAt word feed.commands) named is.commands)

pub returns-in_err-limit-clause-none : goal.returns-in_err-limit-clause-none
returns-in_err-limit-clause-none c = λ none feed is.
    let found = found_of c.args.publish.now in
    let named : first_of (codes "limit") (rows_of found) ≡ option_map (λ word. word.now) c.get_str-3.result =
    sym (first_value-rows found (codes "limit")) ∙ sym c.get_str-3.ensures in
    c.limit_by.ensures.none c.in_err-limit.was feed.limit
    (subst (λ (word : Option (List ℕ)). IsLimit word feed.limit) named is.limit)

pub returns-in_err-start_timeout-clause-none : goal.returns-in_err-start_timeout-clause-none
returns-in_err-start_timeout-clause-none c = λ none feed is.
    let found = found_of c.args.publish.now in
    let named : first_of (codes "start-timeout") (rows_of found) ≡ option_map (λ word. word.now) c.get_str-4.result =
    sym (first_value-rows found (codes "start-timeout")) ∙ sym c.get_str-4.ensures in
    c.seconds_by.ensures.none c.in_err-start_timeout.was feed.start_timeout
    (subst (λ (word : Option (List ℕ)). AreSeconds 10 word feed.start_timeout) named is.start_timeout)

pub returns-in_err-write_timeout-clause-none : goal.returns-in_err-write_timeout-clause-none
returns-in_err-write_timeout-clause-none c = λ none feed is.
    let found = found_of c.args.publish.now in
    let named : first_of (codes "write-timeout") (rows_of found) ≡ option_map (λ word. word.now) c.get_str-5.result =
    sym (first_value-rows found (codes "write-timeout")) ∙ sym c.get_str-5.ensures in
    c.seconds_by-2.ensures.none c.in_err-write_timeout.was feed.write_timeout
    (subst (λ (word : Option (List ℕ)). AreSeconds 60 word feed.write_timeout) named is.write_timeout)

pub returns-in_err-keepalive-clause-none : goal.returns-in_err-keepalive-clause-none
returns-in_err-keepalive-clause-none c = λ none feed is.
    let found = found_of c.args.publish.now in
    let named : first_of (codes "keepalive") (rows_of found) ≡ option_map (λ word. word.now) c.get_str-6.result =
    sym (first_value-rows found (codes "keepalive")) ∙ sym c.get_str-6.ensures in
    c.seconds_by-3.ensures.none c.in_err-keepalive.was feed.keepalive
    (subst (λ (word : Option (List ℕ)). AreSeconds 10 word feed.keepalive) named is.keepalive)

pub returns-in_err-timeout-clause-none : goal.returns-in_err-timeout-clause-none
returns-in_err-timeout-clause-none c = λ none feed is.
    let found = found_of c.args.publish.now in
    let named : first_of (codes "timeout") (rows_of found) ≡ option_map (λ word. word.now) c.get_str-7.result =
    sym (first_value-rows found (codes "timeout")) ∙ sym c.get_str-7.ensures in
    c.seconds_by-4.ensures.none c.in_err-timeout.was feed.timeout
    (subst (λ (word : Option (List ℕ)). AreSeconds 60 word feed.timeout) named is.timeout)

pub returns-in_err-log-clause-none : goal.returns-in_err-log-clause-none
returns-in_err-log-clause-none c = λ none feed is.
    let found = found_of c.args.publish.now in
    let named : first_of (codes "log") (rows_of found) ≡ option_map (λ word. word.now) c.get_str-8.result =
    sym (first_value-rows found (codes "log")) ∙ sym c.get_str-8.ensures in
    c.log_by.ensures.none c.in_err-log.was feed.log
    (subst (λ (word : Option (List ℕ)). IsLogFormat word feed.log) named is.log)

pub returns-clause-some : goal.returns-clause-some
returns-clause-some c =
    let found = found_of c.args.publish.now in
    let port_named : first_of (codes "port") (rows_of found) ≡ option_map (λ word. word.now) c.get_str.result =
    sym (first_value-rows found (codes "port")) ∙ sym c.get_str.ensures in
    let port_file_named : first_of (codes "port-file") (rows_of found) ≡ option_map (λ word. word.now) c.get_str-port_file.result =
    sym (first_value-rows found (codes "port-file")) ∙ sym c.get_str-port_file.ensures in
    let commands_named : first_of (codes "commands") (rows_of found) ≡ option_map (λ word. word.now) c.get_str-2.result =
    sym (first_value-rows found (codes "commands")) ∙ sym c.get_str-2.ensures in
    let limit_named : first_of (codes "limit") (rows_of found) ≡ option_map (λ word. word.now) c.get_str-3.result =
    sym (first_value-rows found (codes "limit")) ∙ sym c.get_str-3.ensures in
    let start_timeout_named : first_of (codes "start-timeout") (rows_of found) ≡ option_map (λ word. word.now) c.get_str-4.result =
    sym (first_value-rows found (codes "start-timeout")) ∙ sym c.get_str-4.ensures in
    let write_timeout_named : first_of (codes "write-timeout") (rows_of found) ≡ option_map (λ word. word.now) c.get_str-5.result =
    sym (first_value-rows found (codes "write-timeout")) ∙ sym c.get_str-5.ensures in
    let keepalive_named : first_of (codes "keepalive") (rows_of found) ≡ option_map (λ word. word.now) c.get_str-6.result =
    sym (first_value-rows found (codes "keepalive")) ∙ sym c.get_str-6.ensures in
    let timeout_named : first_of (codes "timeout") (rows_of found) ≡ option_map (λ word. word.now) c.get_str-7.result =
    sym (first_value-rows found (codes "timeout")) ∙ sym c.get_str-7.ensures in
    let log_named : first_of (codes "log") (rows_of found) ≡ option_map (λ word. word.now) c.get_str-8.result =
    sym (first_value-rows found (codes "log")) ∙ sym c.get_str-8.ensures in
    record {
      port = subst (λ (word : Option (List ℕ)). IsPortOrAny word c.in_ok-port.port) (sym port_named)
          c.in_ok-port.ensures.some;
      port_file = port_file_named;
      commands = subst (λ (word : Option (List ℕ)). AreCommandsAt word c.in_ok-commands.commands) (sym commands_named)
          c.in_ok-commands.ensures.some;
      limit = subst (λ (word : Option (List ℕ)). IsLimit word c.in_ok-limit.limit) (sym limit_named)
          c.in_ok-limit.ensures.some;
      start_timeout = subst (λ (word : Option (List ℕ)). AreSeconds 10 word c.in_ok-start_timeout.start_timeout)
          (sym start_timeout_named) c.in_ok-start_timeout.ensures.some;
      write_timeout = subst (λ (word : Option (List ℕ)). AreSeconds 60 word c.in_ok-write_timeout.write_timeout)
          (sym write_timeout_named) c.in_ok-write_timeout.ensures.some;
      keepalive = subst (λ (word : Option (List ℕ)). AreSeconds 10 word c.in_ok-keepalive.keepalive)
          (sym keepalive_named) c.in_ok-keepalive.ensures.some;
      timeout = subst (λ (word : Option (List ℕ)). AreSeconds 60 word c.in_ok-timeout.timeout)
          (sym timeout_named) c.in_ok-timeout.ensures.some;
      log = subst (λ (word : Option (List ℕ)). IsLogFormat word c.in_ok-log.log) (sym log_named)
          c.in_ok-log.ensures.some;
    }
