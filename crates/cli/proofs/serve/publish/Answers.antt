use Rattle.std.proofs.Common.{◌≡◌, ◌∙◌, All, ℕ, List, ap, length, map, rules, refl, sym, subst}
use Rattle.std.proofs.lemmas.List.{length-map}
use Rattle.std.specs.Option.{unwrap_or}
use Rattle.publisher_desk.specs.Seats.{SeatOf, empty_seat}
use Rattle.senders.specs.Results.{ServedOf}
use Rattle.commands.specs.declared.failure.Failure.TheVariants as f
use Rattle.cli.proofs.LastLines.{all_served}
use Rattle.cli.proofs.Telling.{stopped_returned, tells, unheard_returned}
use Rattle.cli.specs.Connections.{IsFilled}
use Rattle.cli.specs.Scripts.{list_view}
use Rattle.cli.specs.Sessions.{AreCommitted}
use Rattle.cli.specs.Telling.{IsOver, ServiceOf, service_of}
use Rattle.cli.specs.declared.connections.ConnectionPlace.{ConnectionPlace}
use Rattle.cli.specs.declared.connections.ConnectionPlace.TheVariants.{Ended}
use Rattle.cli.proofs.serve.publish.Goals as goal

pub returns-in_err-listener : goal.returns-in_err-listener
returns-in_err-listener g c =
    unheard_returned (service_of c.args.service g.P.Publishing.checked (map list_view c.args.lists.items)) (g.W.Writer.contents c.args.writer.now)
    (g.W.Writer.contents c.listen.new.writer) c.in_err-listener.field-0.0 c.from_residual-in_err-listener.result
    c.in_err-listener.ensures.stopped c.from_residual-in_err-listener.ensures.1

pub returns-in_err-served : goal.returns-in_err-served
returns-in_err-served g c =
    stopped_returned (service_of c.args.service g.P.Publishing.checked (map list_view c.args.lists.items)) (g.W.Writer.contents c.args.writer.now)
    (g.W.Writer.contents c.listen.new.writer) c.in_err-served.field-0.0 c.from_residual-in_err-served.result
    c.in_ok-listener.ensures.written c.in_err-served.ensures.stopped c.from_residual-in_err-served.ensures.1

pub returns-in_err-committed : goal.returns-in_err-committed
returns-in_err-committed g c =
    stopped_returned (service_of c.args.service g.P.Publishing.checked (map list_view c.args.lists.items)) (g.W.Writer.contents c.args.writer.now)
    (g.W.Writer.contents c.listen.new.writer) f.OutOfMemory c.from_residual-in_err-committed.result
    c.in_ok-listener.ensures.written tt c.from_residual-in_err-committed.ensures.1

pub returns : goal.returns
returns g c =
    let service : ServiceOf = service_of c.args.service g.P.Publishing.checked (map list_view c.args.lists.items) in
    let checked = g.P.Publishing.checked in
    let lists = map list_view c.args.lists.items in
    let served = c.in_ok-served.served.items in
    let places = c.run_both-committed.new.places.items in
    let seat = c.run_both-committed.new.seat in
    let all : map Ended served ≡ places = c.in_ok-served.ensures.all in
    let subscriptions : c.len-subscriptions.result ≡ length checked.catalog.subscriptions = search rules in
    let count : c.unwrap_or.result ≡ service.connections = c.unwrap_or.ensures
    ∙ ap (λ (n : ℕ). unwrap_or c.args.service.connections n) subscriptions in
    let over : IsOver service seat served = record {
      committed = subst (λ (l : ℕ). AreCommitted checked l 1 lists empty_seat seat) (sym c.requires.limit)
          (subst (λ (s : SeatOf). AreCommitted checked g.P.Publishing.limit 1 lists s seat) c.in-Some.ensures.new
          c.in_ok-committed.ensures.committed);
      many = sym (length-map served (λ (s : ServedOf). Ended s)) ∙ (ap length all ∙ (c.run_both-committed.ensures.same
          ∙ (c.in_ok-places.ensures ∙ count)));
      each = all_served checked served (subst (λ (p : List (ConnectionPlace _)). All (IsFilled checked) p) (sym all)
          c.run_both-committed.ensures.served);
      memory = c.in_ok-served.ensures.memory;
    } in
    tells service (g.W.Writer.contents c.args.writer.now) (g.W.Writer.contents c.listen.new.writer)
    (g.W.Writer.contents c.close_and_tell.new.writer) c.close_and_tell.result
    c.in_ok-listener.ensures.written
    (c.close_and_tell.ensures service (record { checked_is = refl; limit_is = c.requires.limit }) over)
