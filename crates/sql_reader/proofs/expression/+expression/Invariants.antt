use Rattle.std.proofs.Common.{◌≡◌, ◌<◌, ◌≤◌, ◌+◌, ◌*◌, map}
use Rattle.sql_reader.specs.declared.word.Keyword.TheVariants as k
use Rattle.sql_reader.specs.declared.item.Item.TheVariants as i
use Rattle.sql_reader.specs.Items.{to_read, size}
use Rattle.sql_reader.specs.Expressions as spec
use Rattle.sql_reader.specs.Operands.{operand_view, part_view}
use Rattle.sql_reader.specs.Repetitions.{link, repeat}
use Rattle.sql_reader.specs.Written.{as_filter}
use Rattle.sql_reader.proofs.expression.+expression.Given as goal

abbrev pub decreases-disjunction : goal.decreases-disjunction
decreases-disjunction l = 32 * l.depth + 31

abbrev pub decreases-one_more_conjunction : goal.decreases-one_more_conjunction
decreases-one_more_conjunction l = 32 * l.depth + 30

abbrev pub decreases-conjunction : goal.decreases-conjunction
decreases-conjunction l = 32 * l.depth + 29

abbrev pub decreases-one_more_negation : goal.decreases-one_more_negation
decreases-one_more_negation l = 32 * l.depth + 28

abbrev pub decreases-negation : goal.decreases-negation
decreases-negation l = 32 * l.depth + 27

abbrev pub decreases-predicate : goal.decreases-predicate
decreases-predicate l = 32 * l.depth + 26

abbrev pub decreases-tested : goal.decreases-tested
decreases-tested l = 32 * l.depth + 25

abbrev pub decreases-distinct_side : goal.decreases-distinct_side
decreases-distinct_side l = 32 * l.depth + 24

abbrev pub decreases-comparison : goal.decreases-comparison
decreases-comparison l = 32 * l.depth + 23

abbrev pub decreases-right_side_or_none : goal.decreases-right_side_or_none
decreases-right_side_or_none l = 32 * l.depth + 22

abbrev pub decreases-member_or_none : goal.decreases-member_or_none
decreases-member_or_none l = 32 * l.depth + 21

abbrev pub decreases-bounds : goal.decreases-bounds
decreases-bounds l = 32 * l.depth + 20

abbrev pub decreases-other_entries : goal.decreases-other_entries
decreases-other_entries l = 32 * l.depth + 19

abbrev pub decreases-one_entry : goal.decreases-one_entry
decreases-one_entry l = 32 * l.depth + 18

abbrev pub decreases-right_side : goal.decreases-right_side
decreases-right_side l = 32 * l.depth + 17

abbrev pub decreases-side : goal.decreases-side
decreases-side l = 32 * l.depth + 16

abbrev pub decreases-term : goal.decreases-term
decreases-term l = 32 * l.depth + 15

abbrev pub decreases-divisor_or_none : goal.decreases-divisor_or_none
decreases-divisor_or_none l = 32 * l.depth + 14

abbrev pub decreases-divisor : goal.decreases-divisor
decreases-divisor l = 32 * l.depth + 13

abbrev pub decreases-primary : goal.decreases-primary
decreases-primary l = 32 * l.depth + 12

abbrev pub decreases-after_not : goal.decreases-after_not
decreases-after_not l = 32 * l.depth + 1

abbrev pub decreases-in_parentheses : goal.decreases-in_parentheses
decreases-in_parentheses l = 32 * l.depth + 1

abbrev pub decreases-in_list : goal.decreases-in_list
decreases-in_list l = 32 * l.depth + 1

abbrev pub invariant-conjunction-loop-left : goal.invariant-conjunction-loop-left
invariant-conjunction-loop-left l = record {
  so_far : spec.conjunction as_filter l.columns (spec.nested as_filter l.columns l.depth) (to_read l.fn.r)
      ≡ repeat (link (i.Keyword k.And)
      (spec.one_more_negation as_filter l.columns (spec.nested as_filter l.columns l.depth))) (part_view l.left)
      (to_read l.r);
  fewer : size (to_read l.r) < size (to_read l.fn.r);
}

abbrev pub decreases-conjunction-loop-left : goal.decreases-conjunction-loop-left
decreases-conjunction-loop-left l = size (to_read l.r)

abbrev pub invariant-disjunction-loop-left : goal.invariant-disjunction-loop-left
invariant-disjunction-loop-left l = record {
  so_far : spec.disjunction as_filter l.columns (spec.nested as_filter l.columns l.depth) (to_read l.fn.r)
      ≡ repeat (link (i.Keyword k.Or)
      (spec.one_more_conjunction as_filter l.columns (spec.nested as_filter l.columns l.depth)))
      (part_view l.left) (to_read l.r);
  fewer : size (to_read l.r) < size (to_read l.fn.r);
}

abbrev pub decreases-disjunction-loop-left : goal.decreases-disjunction-loop-left
decreases-disjunction-loop-left l = size (to_read l.r)

abbrev pub invariant-other_entries-loop-others : goal.invariant-other_entries-loop-others
invariant-other_entries-loop-others l = record {
  so_far : spec.other_entries as_filter l.columns (spec.nested as_filter l.columns l.depth) (to_read l.fn.r)
      ≡ repeat (link i.Comma (spec.one_entry as_filter l.columns (spec.nested as_filter l.columns l.depth)))
      (map operand_view l.others.items) (to_read l.r);
  no_more : size (to_read l.r) ≤ size (to_read l.fn.r);
}

abbrev pub decreases-other_entries-loop-others : goal.decreases-other_entries-loop-others
decreases-other_entries-loop-others l = size (to_read l.r)
