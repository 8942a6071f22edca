-- Nothing is sent for a commit of which the subscriber gets nothing.
use Rattle.std.proofs.Common.{◌≡◌, ℕ, Bool, true, false, ◌||◌, Option, Some, None, List, [], ◌∷◌, refl, ap}
use Rattle.std.specs.Prelude.{is_some}
use Rattle.replica_identity.specs.Transforms.{out_for}
use Rattle.row_owners.specs.Owners.{concerns, is_for}
use Rattle.shard_checker.specs.CheckedView.{CheckedOf, setting_in}
use Rattle.table_changes.specs.Outs.{OutOf, got}
use Rattle.table_changes.specs.Records.{ChangeOf}
use Rattle.pgoutput_msgs.specs.Silent.{QuietAreSilent}
use Rattle.pgoutput_msgs.specs.Telling.{said, mark_by, said_each, mark_each, enclosed}
use Rattle.pgoutput_msgs.proofs.TellingLemmas.{got_none}

first_false : (a b : Bool) → (a || b) ≡ false → a ≡ false
first_false false b none = refl
first_false true b none = absurd cc

other_false : (a b : Bool) → (a || b) ≡ false → b ≡ false
other_false false b none = none
other_false true b none = absurd cc

is_none : (out : Option OutOf) → is_some out ≡ false → None ≡ out
is_none None none = refl
is_none (Some out) none = absurd cc

-- the subscriber gets nothing of a change that is not for it
pub gets_none : (checked : CheckedOf) (subscriber : ℕ) (change : ChangeOf)
    → is_for checked.plan subscriber change ≡ false → got (setting_in checked) subscriber change ≡ None
gets_none checked subscriber change none =
    got_none checked subscriber change checked.plan refl
    (is_none (out_for checked.plan subscriber change) none)

none_said : (checked : CheckedOf) (subscriber : ℕ) (sent : List Bool) (changes : List ChangeOf)
    → concerns checked.plan changes subscriber ≡ false → said_each checked subscriber sent changes ≡ []
unfolding said_each said mark_by
none_said checked subscriber sent [] none = refl
none_said checked subscriber sent (change ∷ changes) none =
    rw (gets_none checked subscriber change (first_false (is_for checked.plan subscriber change)
    (concerns checked.plan changes subscriber) none))
    (none_said checked subscriber sent changes (other_false (is_for checked.plan subscriber change)
    (concerns checked.plan changes subscriber) none))

none_marked : (checked : CheckedOf) (subscriber : ℕ) (sent : List Bool) (changes : List ChangeOf)
    → concerns checked.plan changes subscriber ≡ false → mark_each checked subscriber sent changes ≡ sent
unfolding mark_each mark_by
none_marked checked subscriber sent [] none = refl
none_marked checked subscriber sent (change ∷ changes) none =
    rw (gets_none checked subscriber change (first_false (is_for checked.plan subscriber change)
    (concerns checked.plan changes subscriber) none))
    (none_marked checked subscriber sent changes (other_false (is_for checked.plan subscriber change)
    (concerns checked.plan changes subscriber) none))

pub quiet_are_silent : QuietAreSilent
quiet_are_silent checked subscriber sent commit none = record {
  messages = ap (enclosed commit) (none_said checked subscriber sent commit.changes none);
  after = none_marked checked subscriber sent commit.changes none;
}
