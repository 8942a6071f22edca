use Rattle.std.proofs.Common.{◌≡◌, ◌∙◌, refl, rules, sym}
use Rattle.std.specs.Prelude.{slice_get}
use Rattle.std.proofs.lemmas.Option.{gets}
use Rattle.senders.proofs.EndedLemmas.{kept_end}
use Rattle.senders.proofs.SentLemmas.{kept_state}
use Rattle.senders.proofs.slot_tasks.EndConnectionSlotTask.use_slots.Goals as goal

pub returns-clause-sent : goal.returns-clause-sent
returns-clause-sent c =
    let found : c.copied.result ≡ slice_get c.args.connections.now c.args.self.now.slot = search (rules, gets) in
    kept_state c.args.connections.now c.args.self.now.slot c.in-Some.connection _ (sym found ∙ c.in-Some.is) refl

pub returns-clause-ended : goal.returns-clause-ended
returns-clause-ended c =
    let found : c.copied.result ≡ slice_get c.args.connections.now c.args.self.now.slot = search (rules, gets) in
    kept_end c.args.connections.now c.args.self.now.slot c.in-Some.connection _ (sym found ∙ c.in-Some.is)
    (λ ended. refl)
