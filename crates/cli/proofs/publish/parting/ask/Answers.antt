use Rattle.std.proofs.Common.{◌≡◌, ◌∙◌, ap, false, rules, sym}
use Rattle.std.specs.Prelude.{slice_get}
use Rattle.std.proofs.lemmas.Option.{gets}
use Rattle.publisher_desk.specs.SlotEvents.{ended_of, sent_of}
use Rattle.cli.proofs.EndedLemmas.{set_ends}
use Rattle.cli.proofs.SentLemmas.{set_keeps}
use Rattle.cli.proofs.publish.parting.ask.Goals as goal

pub returns-clause-sent : goal.returns-clause-sent
returns-clause-sent c =
    let found : c.copied.result ≡ slice_get c.args.connections.now c.args.slot = search (rules, gets) in
    set_keeps c.args.connections.now c.args.slot _ (ap sent_of (sym c.in-Some.is ∙ found))

pub returns-clause-ended : goal.returns-clause-ended
returns-clause-ended c =
    let found : c.copied.result ≡ slice_get c.args.connections.now c.args.slot = search (rules, gets) in
    let goes_on : c.in-Some.connection.has_ended ≡ false = search rules in
    set_ends c.args.connections.now c.args.slot _ (sym goes_on ∙ ap ended_of (sym c.in-Some.is ∙ found))
