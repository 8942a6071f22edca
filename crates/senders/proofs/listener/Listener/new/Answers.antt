use Rattle.std.proofs.Common.{◌≡◌, ℕ, [], ◌∙◌, refl, subst, sym, ap}
use Rattle.std.specs.Prelude.{Option, None, false}
use Rattle.std.specs.Arc.{arc_value}
use Rattle.shard_checker.specs.CheckedView.{CheckedOf, checked_view}
use Rattle.shard_checker.specs.declared.checked.Checked.{Checked}
use Rattle.copy_both.specs.HeardFrames.{HasHeard, frames_in}
use Rattle.copy_both.specs.ConfirmedFrames.{HasConfirmedAll}
use Rattle.copy_both.specs.Ears.{ear_confirmed}
use Rattle.copy_both.proofs.PiecesHeard.{nothing_is_heard}
use Rattle.publisher_desk.specs.Viewers.{new_viewer}
use Rattle.senders.specs.Listening.{HoldsStream}
use Rattle.senders.specs.Results.{books_seen}
use Rattle.senders.proofs.listener.Listener.new.Goals as goal

pub returns-clause-heard : goal.returns-clause-heard
returns-clause-heard c =
    let new = c.new-ear in
    let same : arc_value c.in_ok-try_clone.field-0 ≡ arc_value c.args.checked.now = c.in_ok-try_clone.ensures in
    record {
      heard = subst (λ (checked : CheckedOf). HasHeard checked (books_seen new_viewer) [] new.result)
          (new.ensures.checked ∙ ap (λ (checked : Checked). checked_view checked) same)
          (nothing_is_heard (books_seen new_viewer) new.result new.ensures.phase new.ensures.started new.ensures.held);
      requested = λ slot start started says. cc;
      confirmed = subst (λ (o : Option (ℕ × ℕ)). HasConfirmedAll o (frames_in []) (ear_confirmed new.result))
          (sym new.ensures.started) new.ensures.confirmed;
      holding = subst (λ (start : Option (ℕ × ℕ)). HoldsStream start false 0 (ear_confirmed new.result) None)
          (sym new.ensures.started) (refl, refl, refl);
    }
