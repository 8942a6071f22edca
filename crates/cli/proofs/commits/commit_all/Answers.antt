use Rattle.std.proofs.Common.{◌≡◌, ◌∙◌, ◌+◌, ap, arith, length, map, rules}
use Rattle.std.proofs.lemmas.List.{length-map}
use Rattle.cli.proofs.Sessions.{begins, goes_on, ends}
use Rattle.cli.specs.Scripts.{list_view}
use Rattle.cli.proofs.commits.commit_all.Goals as goal

pub loop-commands-init : goal.loop-commands-init
loop-commands-init g c =
    let same = c.into_iter-commands-iterator.ensures.into_iter_gives.0 in (
      omega (arith, ap length same),
      begins g.P.Publishing.checked g.P.Publishing.limit (map list_view c.args.lists.items)
          (map list_view c.into_iter-commands-iterator.result.rest.items) c.args.seat.now (ap (map list_view) same),
    )

pub loop-commands-preserved : goal.loop-commands-preserved
loop-commands-preserved g c =
    let steps = c.in-Some.ensures.steps.0 in (
      omega (arith, c.loop-commands.invariant.0, ap length steps),
      goes_on g.P.Publishing.checked g.P.Publishing.limit (map list_view c.args.lists.items)
          (map list_view c.loop-commands.commands-iterator.rest.items) (map list_view c.next.new.self.rest.items)
          (c.loop-commands.time + 1) (list_view c.in-Some.commands) c.args.seat.now c.loop-commands.seat c.take_up.new.seat
          (ap (map list_view) steps) c.loop-commands.invariant.1 c.in_ok-take_up.ensures,
    )

pub returns : goal.returns
returns g c =
    let left = c.loop-commands.commands-iterator.rest.items in
    let none : length left ≡ 0 = search rules in
    ends g.P.Publishing.checked g.P.Publishing.limit (map list_view c.args.lists.items)
    (map list_view left) (c.loop-commands.time + 1) c.args.seat.now c.loop-commands.seat
    (length-map left list_view ∙ none) c.loop-commands.invariant.1
