use Rattle.std.proofs.Common.{◌≡◌, drop, map}
use Rattle.pub_reader.specs.ScriptView.{line_view}
use Rattle.cli.specs.Talks.{first_unfit, unfit_from}
use Rattle.cli.proofs.publish.session.first_unfit.Given as goal

-- what holds of the steps that are left
abbrev pub invariant-loop-step : goal.invariant-loop-step
invariant-loop-step l =
    unfit_from l.is_first (map line_view (drop l.step-index l.steps)) ≡ first_unfit (map line_view l.steps)
