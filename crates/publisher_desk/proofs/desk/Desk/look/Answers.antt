use Rattle.publisher_desk.specs.Sights.{sight_of}
use Rattle.publisher_desk.proofs.LoggedLemmas.{looks_in}
use Rattle.publisher_desk.proofs.desk.Desk.look.Goals as goal

pub returns-clause-seen : goal.returns-clause-seen
returns-clause-seen g c =
    looks_in c.self.inside.book c.self.inside.history c.self.invariant.history_is g.P.Publishing.checked c.args.table
    c.in_ok-found.found.0 c.args.key.now c.in_ok-found.found.1 (sight_of c.args.token.now)
    (sight_of c.look.new.token) c.self.invariant.is.named c.in_ok-found.ensures.number c.in_ok-found.ensures.row
    c.look.ensures.seen
