use Rattle.std.proofs.Common.{ℕ, ap, refl, ◌∙◌}
use Rattle.std.specs.Prelude.{Some}
use Rattle.senders.proofs.serving.conclude.Goals as goal

pub returns-clause-concludes : goal.returns-clause-concludes
returns-clause-concludes g c = record {
  slot_is = ap (λ (started : ℕ × ℕ). Some started.0) c.started.view_is;
  start_is = ap Some c.to_u64.ensures ∙ ap (λ (started : ℕ × ℕ). Some started.1) c.started.view_is;
  taken_is = refl;
  stop = c.say_last-stop.result;
  end_is = c.reported_cause-end.ensures;
  fault_is = c.fault_after.ensures;
  says = c.say_last-stop.ensures.says;
}
