-- What the proofs of functions use, under one name for each.
use Rattle.filter_memo.proofs.BitLemmas.{true_added, null_added, false_added, past_added}
use Rattle.filter_memo.proofs.Planning.{atom_clause, not_clause, or_clause, and_clause, no_branch, const_branches, not_branches, is_branches}

pub ruleset clauses_of_parts = (atom_clause, not_clause, or_clause, and_clause)

pub ruleset branches_of_parts = (no_branch, const_branches, not_branches, is_branches)

pub ruleset adding_what_is_said = (true_added, null_added, false_added, past_added)
