-- What the proofs of functions use, under one name for each.
use Rattle.table_changes.proofs.ChangeLemmas.{rows_stand, stay_keyed, stay_fit, stay_apart, begins_well}
use Rattle.table_changes.proofs.CommandListLemmas.{are_alike, fault_of_one_more, first_fault_stays, left_by_one_more, record_of_one_more}
use Rattle.table_changes.proofs.TableLemmas.{holds_with, row_goes, holds_emptied, others_stay, one_row}

pub ruleset rows_of_tables = (holds_with, row_goes, holds_emptied, others_stay, one_row)

pub ruleset changes_of_rows = (rows_stand, stay_keyed, stay_fit, stay_apart, begins_well)

pub ruleset lists_of_commands = (are_alike, fault_of_one_more, first_fault_stays, left_by_one_more, record_of_one_more)
