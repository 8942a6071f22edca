-- What the proofs of functions use, under one name for each.
use Rattle.filter_tree.proofs.OrderLemmas.{row_total, row_tie, ties_same_rows, orders_values}

pub ruleset order_of_rows = (row_total, row_tie, ties_same_rows, orders_values)
