-- What the proofs of functions use, under one name for each.
use Rattle.tables_log.proofs.BookLemmas.{refused_by, count_refused, is_transaction, commits_tables, stops_kept, keeps_first, stages_settled}
use Rattle.tables_log.proofs.ListLemmas.{map_more, so_far_begins, keeps_both, keeps_itself}
use Rattle.tables_log.proofs.PlaceLemmas.{puts_there, keeps_there, keeps_here, puts_nothing}
use Rattle.tables_log.proofs.SettleLemmas.{settles_all, discards_all}
use Rattle.tables_log.proofs.StandLemmas.{new_stands, commits_add_one, slots_keep_it, each_is_logged, books_are_right}
use Rattle.tables_log.proofs.StepLemmas.{was_there, none_found, puts_same, found_same}

pub ruleset committing = (refused_by, count_refused, is_transaction, map_more)

pub ruleset committing_tables = (commits_tables, stops_kept, keeps_first, stages_settled, settles_all, discards_all)

pub ruleset standing_for_transactions = (new_stands, commits_add_one, slots_keep_it, each_is_logged, books_are_right)

pub ruleset applying_all = (so_far_begins, keeps_both, keeps_itself)

pub ruleset putting = (puts_there, keeps_there, keeps_here, was_there)

pub ruleset placing = (puts_nothing, keeps_here, none_found, puts_same, found_same)

pub ruleset taking = (puts_nothing, keeps_here, puts_same)
