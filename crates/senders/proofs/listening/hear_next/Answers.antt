use Rattle.std.proofs.Common.{refl, subst, sym, ap, ◌∙◌}
use Rattle.std.specs.Prelude.{Bool, Ok}
use Rattle.copy_both.specs.Ears.{ear_started}
use Rattle.copy_both.specs.declared.ear.Ear.{Ear}
use Rattle.senders.specs.Listening.{HearsNext, PermitsStart}
use Rattle.senders.specs.declared.next.Next.{Next}
use Rattle.senders.specs.Pieces.{Pulls}
use Rattle.senders.proofs.PermitLemmas.{permits_same}
use Rattle.senders.proofs.ReadLemmas.{hears_next, pulled, read_ends, read_fails}
use Rattle.senders.proofs.listening.hear_next.Goals as goal

pub returns-clause-hears : goal.returns-clause-hears
returns-clause-hears g c =
    let left = g.S.Source.left in
    let failed = g.S.Source.has_failed c.pull.new.reader in
    let ended = g.S.Source.has_ended c.pull.new.reader in
    let pulls = pulled (left c.args.reader.now) (left c.pull.new.reader) failed ended c.args.listener.now
    c.pull.new.self c.pull.result c.in-Ok-true.field-0 c.in-Ok-true.is c.in-Ok-true.field-0-test
    c.pull.ensures in
    subst
    (λ (next : Next). HearsNext g.P.Publishing.checked c.args.viewer.now c.hear_piece-permit.new.viewer (left c.args.reader.now) (left c.pull.new.reader) failed ended
    c.args.listener.now c.hear_piece-permit.new.listener next)
    (sym c.next_of.ensures)
    (hears_next g.P.Publishing.checked c.args.viewer.now c.hear_piece-permit.new.viewer (left c.args.reader.now) (left c.pull.new.reader) failed ended
    c.args.listener.now c.pull.new.self c.hear_piece-permit.new.listener pulls
    c.hear_piece-permit.ensures.room c.hear_piece-permit.result.0.heard c.hear_piece-permit.ensures.says
    c.hear_piece-permit.result.1 c.hear_piece-permit.ensures.permit
    c.hear_piece-permit.result.0.was_over c.hear_piece-permit.result.0.heard refl c.hear_piece-permit.ensures.hears)

pub returns-in-Err-clause-hears : goal.returns-in-Err-clause-hears
returns-in-Err-clause-hears g c =
    let left = g.S.Source.left in
    let failed = g.S.Source.has_failed c.pull.new.reader in
    let ended = g.S.Source.has_ended c.pull.new.reader in
    read_fails g.P.Publishing.checked c.args.viewer.now (left c.args.reader.now) (left c.pull.new.reader) failed ended
    c.args.listener.now c.pull.new.self
    (subst (Pulls (left c.args.reader.now) (left c.pull.new.reader) failed ended c.args.listener.now c.pull.new.self)
    c.in-Err.is c.pull.ensures)

pub returns-in-Ok-false-clause-hears : goal.returns-in-Ok-false-clause-hears
returns-in-Ok-false-clause-hears g c =
    let left = g.S.Source.left in
    let failed = g.S.Source.has_failed c.pull.new.reader in
    let ended = g.S.Source.has_ended c.pull.new.reader in
    read_ends g.P.Publishing.checked c.args.viewer.now (left c.args.reader.now) (left c.pull.new.reader) failed ended
    c.args.listener.now c.pull.new.self
    (subst (Pulls (left c.args.reader.now) (left c.pull.new.reader) failed ended c.args.listener.now c.pull.new.self)
    (c.in-Ok-false.is ∙ ap (λ (b : Bool). Ok b) c.in-Ok-false.field-0-test) c.pull.ensures)

pub returns-clause-permit : goal.returns-clause-permit
returns-clause-permit g c =
    let left = g.S.Source.left in
    let pulls = pulled (left c.args.reader.now) (left c.pull.new.reader) (g.S.Source.has_failed c.pull.new.reader)
    (g.S.Source.has_ended c.pull.new.reader) c.args.listener.now c.pull.new.self c.pull.result c.in-Ok-true.field-0
    c.in-Ok-true.is c.in-Ok-true.field-0-test c.pull.ensures in
    subst (λ (ear : Ear). PermitsStart (ear_started ear) (ear_started c.hear_piece-permit.new.listener.ear)
    c.hear_piece-permit.result.1) pulls.ear c.hear_piece-permit.ensures.permit

pub returns-in-Err-clause-permit : goal.returns-in-Err-clause-permit
returns-in-Err-clause-permit g c =
    let left = g.S.Source.left in
    let pulls = subst (Pulls (left c.args.reader.now) (left c.pull.new.reader)
    (g.S.Source.has_failed c.pull.new.reader) (g.S.Source.has_ended c.pull.new.reader) c.args.listener.now
    c.pull.new.self) c.in-Err.is c.pull.ensures in
    permits_same (ear_started c.args.listener.now.ear) (ear_started c.pull.new.self.ear) (ap ear_started pulls.ear)

pub returns-in-Ok-false-clause-permit : goal.returns-in-Ok-false-clause-permit
returns-in-Ok-false-clause-permit g c =
    let left = g.S.Source.left in
    let pulls = subst (Pulls (left c.args.reader.now) (left c.pull.new.reader)
    (g.S.Source.has_failed c.pull.new.reader) (g.S.Source.has_ended c.pull.new.reader) c.args.listener.now
    c.pull.new.self) (c.in-Ok-false.is ∙ ap (λ (b : Bool). Ok b) c.in-Ok-false.field-0-test) c.pull.ensures in
    permits_same (ear_started c.args.listener.now.ear) (ear_started c.pull.new.self.ear) (ap ear_started pulls.ear)
