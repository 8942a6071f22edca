use Rattle.std.proofs.Common.{ℕ, subst, sym}
use Rattle.std.specs.Prelude.{Option}
use Rattle.publisher_desk.specs.Viewers.{Holds}
use Rattle.publisher_desk.specs.declared.slot_sight.Hold.{Hold}
use Rattle.senders.specs.Running.{ReleasesIf}
use Rattle.senders.proofs.SeenLogs.{sees_on}
use Rattle.senders.proofs.WitnessLemmas.{released_as, starts_on}
use Rattle.senders.proofs.serving.release_if.Goals as goal

pub release-requires : goal.release-requires
release-requires g c =
    subst (λ (held : Option Hold). Holds held c.in-Some.permit) (sym c.compare.ensures.held)
    (c.requires c.in-Some.permit c.in-Some.is)

pub returns-in-Some : goal.returns-in-Some
returns-in-Some g c =
    subst (λ (slot : Option ℕ). ReleasesIf slot c.release.result c.args.viewer.now c.args.sender.now c.release.new.viewer)
    (sym c.in-Some.is) (
      released_as c.release.result c.args.viewer.now c.compare.new.viewer c.release.new.viewer c.compare.ensures.held
          c.release.ensures.released,
      sees_on c.args.viewer.now c.compare.new.viewer c.release.new.viewer c.compare.ensures.more c.release.ensures.more,
      starts_on c.compare.new.viewer c.release.new.viewer c.args.sender.now c.release.ensures.more
          c.compare.ensures.begins,
    )
