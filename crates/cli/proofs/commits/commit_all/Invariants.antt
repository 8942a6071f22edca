use Rattle.std.proofs.Common.{◌≡◌, ◌+◌, length, map}
use Rattle.cli.proofs.Sessions.{CarriesOn}
use Rattle.cli.specs.Scripts.{list_view}
use Rattle.cli.proofs.commits.commit_all.Given as goal

abbrev pub invariant-loop-commands : goal.invariant-loop-commands
invariant-loop-commands g l =
    (l.time + length l.commands-iterator.rest.items ≡ length l.fn.lists.items)
    × CarriesOn g.P.Publishing.checked g.P.Publishing.limit (map list_view l.fn.lists.items) (l.time + 1)
    (map list_view l.commands-iterator.rest.items) l.initial.seat l.seat
