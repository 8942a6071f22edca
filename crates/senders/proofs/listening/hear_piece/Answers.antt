use Rattle.std.proofs.Common.{ℕ, refl, subst, sym}
use Rattle.std.specs.Prelude.{Option, None}
use Rattle.copy_both.specs.Ears.{ear_started}
use Rattle.publisher_desk.specs.Viewers.{IsUsedIf}
use Rattle.senders.specs.Listening.{PermitsStart}
use Rattle.senders.specs.declared.listener.Listened.{Listened}
use Rattle.senders.specs.declared.listener.Listener.{Listener}
use Rattle.senders.proofs.HearingLemmas.{ListenerDid, heard_nothing, heard_used, says_nothing, says_used}
use Rattle.senders.proofs.PermitLemmas.{permits_same, permits_used}
use Rattle.senders.proofs.listening.hear_piece.Goals as goal

pub returns-in-Some-clause-hears : goal.returns-in-Some-clause-hears
returns-in-Some-clause-hears g c =
    heard_used g.P.Publishing.checked c.args.viewer.now c.with_stream.new.viewer c.with_stream.ensures.more
    c.args.listener.now c.with_stream.new.user c.in-Some.listened.1 c.in-Some.listened.0
    (subst (λ (answer : Option (Listened × Option ℕ)). IsUsedIf ListenerDid g.P.Publishing.checked c.args.viewer.now
    c.with_stream.new.viewer c.args.listener.now c.with_stream.new.user answer) c.in-Some.is
    c.with_stream.ensures.used)

pub returns-in-Some-clause-says : goal.returns-in-Some-clause-says
returns-in-Some-clause-says g c =
    says_used g.P.Publishing.checked c.args.viewer.now c.with_stream.new.viewer c.with_stream.ensures.more
    c.args.listener.now c.with_stream.new.user c.in-Some.listened.1 c.in-Some.listened.0
    (subst (λ (answer : Option (Listened × Option ℕ)). IsUsedIf ListenerDid g.P.Publishing.checked c.args.viewer.now
    c.with_stream.new.viewer c.args.listener.now c.with_stream.new.user answer) c.in-Some.is
    c.with_stream.ensures.used)

pub returns-in-Some-clause-permit : goal.returns-in-Some-clause-permit
returns-in-Some-clause-permit g c =
    permits_used g.P.Publishing.checked c.args.viewer.now c.with_stream.new.viewer c.args.listener.now
    c.with_stream.new.user c.in-Some.listened.0 c.in-Some.listened.1
    (subst (λ (answer : Option (Listened × Option ℕ)). IsUsedIf ListenerDid g.P.Publishing.checked c.args.viewer.now
    c.with_stream.new.viewer c.args.listener.now c.with_stream.new.user answer) c.in-Some.is
    c.with_stream.ensures.used)

pub returns-in-None-clause-hears : goal.returns-in-None-clause-hears
returns-in-None-clause-hears g c =
    let unused = subst (λ (answer : Option (Listened × Option ℕ)). IsUsedIf ListenerDid g.P.Publishing.checked
    c.args.viewer.now c.with_stream.new.viewer c.args.listener.now c.with_stream.new.user answer) c.in-None.is
    c.with_stream.ensures.used in
    heard_nothing g.P.Publishing.checked c.args.viewer.now c.with_stream.new.viewer unused.viewer c.args.listener.now
    c.with_stream.new.user unused.user

pub returns-in-None-clause-says : goal.returns-in-None-clause-says
returns-in-None-clause-says g c =
    let unused = subst (λ (answer : Option (Listened × Option ℕ)). IsUsedIf ListenerDid g.P.Publishing.checked
    c.args.viewer.now c.with_stream.new.viewer c.args.listener.now c.with_stream.new.user answer) c.in-None.is
    c.with_stream.ensures.used in
    says_nothing g.P.Publishing.checked c.args.viewer.now c.with_stream.new.viewer unused.viewer c.args.listener.now
    c.with_stream.new.user unused.user

pub returns-in-None-clause-permit : goal.returns-in-None-clause-permit
returns-in-None-clause-permit g c =
    let unused = subst (λ (answer : Option (Listened × Option ℕ)). IsUsedIf ListenerDid g.P.Publishing.checked
    c.args.viewer.now c.with_stream.new.viewer c.args.listener.now c.with_stream.new.user answer) c.in-None.is
    c.with_stream.ensures.used in
    subst (λ (l : Listener). PermitsStart (ear_started c.args.listener.now.ear) (ear_started l.ear) None)
    (sym unused.user)
    (permits_same (ear_started c.args.listener.now.ear) (ear_started c.args.listener.now.ear) refl)
