use Rattle.copy_both.proofs.SlotChanges as lemmas
use Rattle.copy_both.proofs.StartUses as uses
use Rattle.copy_both.proofs.laws.ears_change_slots.Goals as goal

pub returns-clause-hear : goal.returns-clause-hear
returns-clause-hear c = lemmas.hearing_changes_slots

pub returns-clause-lose : goal.returns-clause-lose
returns-clause-lose c = lemmas.losing_changes_slots

pub returns-clause-uses : goal.returns-clause-uses
returns-clause-uses c = uses.starts_take_slots
