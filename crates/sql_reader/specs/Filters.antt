-- The rules of Expressions as they make filters; parentheses and NOT may nest this many levels deeper: PostgreSQL 15,
-- "Value Expressions", 4.2.
use Rattle.std.specs.Prelude.{ℕ, Option, List}
use Rattle.filter_tree.specs.declared.filter.Op.{Op}
use Rattle.filter_tree.specs.declared.table.Column.{Column}
use Rattle.filter_tree.specs.Expr.{Expr}
use Rattle.sql_reader.specs.declared.column.FoundColumn.{FoundColumn}
use Rattle.sql_reader.specs.declared.membership.MembershipWord.{MembershipWord}
use Rattle.sql_reader.specs.declared.truth_test.DistinctWords.{DistinctWords}
use Rattle.sql_reader.specs.Expressions.{Nested}
use Rattle.sql_reader.specs.Expressions as rules
use Rattle.sql_reader.specs.Operands.{OperandOf, ParsedPart}
use Rattle.sql_reader.specs.Reading.{Rule}
use Rattle.sql_reader.specs.Written.{as_filter}

abbrev pub nested : List Column → ℕ → Nested Expr → Rule (ParsedPart Expr)
nested columns depth = rules.nested as_filter columns depth

-- ---- beginning with what binds tightest

abbrev pub primary : List Column → ℕ → Rule (ParsedPart Expr)
primary columns depth = rules.primary as_filter columns (nested columns depth)

abbrev pub divisor : List Column → ℕ → ℕ → Option FoundColumn → Rule (ParsedPart Expr)
divisor columns depth = rules.divisor as_filter columns (nested columns depth)

abbrev pub divisor_or_none : List Column → ℕ → ParsedPart Expr → Rule (ParsedPart Expr)
divisor_or_none columns depth = rules.divisor_or_none as_filter columns (nested columns depth)

abbrev pub term : List Column → ℕ → Rule (ParsedPart Expr)
term columns depth = rules.term as_filter columns (nested columns depth)

abbrev pub side : List Column → ℕ → Rule (ParsedPart Expr)
side columns depth = rules.side as_filter columns (nested columns depth)

abbrev pub right_side : List Column → ℕ → ParsedPart Expr → Op → Rule (ParsedPart Expr)
right_side columns depth = rules.right_side as_filter columns (nested columns depth)

abbrev pub one_entry : List Column → ℕ → List (OperandOf Expr) → Rule (List (OperandOf Expr))
one_entry columns depth = rules.one_entry as_filter columns (nested columns depth)

abbrev pub other_entries : List Column → ℕ → Rule (List (OperandOf Expr))
other_entries columns depth = rules.other_entries as_filter columns (nested columns depth)

abbrev pub bounds : List Column → ℕ → MembershipWord → ParsedPart Expr → Rule (ParsedPart Expr)
bounds columns depth = rules.bounds as_filter columns (nested columns depth)

abbrev pub member_or_none : List Column → ℕ → ParsedPart Expr → Rule (ParsedPart Expr)
member_or_none columns depth = rules.member_or_none as_filter columns (nested columns depth)

abbrev pub right_side_or_none : List Column → ℕ → ParsedPart Expr → Rule (ParsedPart Expr)
right_side_or_none columns depth = rules.right_side_or_none as_filter columns (nested columns depth)

abbrev pub comparison : List Column → ℕ → Rule (ParsedPart Expr)
comparison columns depth = rules.comparison as_filter columns (nested columns depth)

abbrev pub distinct_side : List Column → ℕ → ParsedPart Expr → DistinctWords → Rule (ParsedPart Expr)
distinct_side columns depth = rules.distinct_side as_filter columns (nested columns depth)

abbrev pub maybe_tested : List Column → ℕ → ParsedPart Expr → Rule (ParsedPart Expr)
maybe_tested columns depth = rules.maybe_tested as_filter columns (nested columns depth)

abbrev pub predicate : List Column → ℕ → Rule (ParsedPart Expr)
predicate columns depth = rules.predicate as_filter columns (nested columns depth)

abbrev pub negation : List Column → ℕ → Rule (ParsedPart Expr)
negation columns depth = rules.negation as_filter columns (nested columns depth)

abbrev pub one_more_negation : List Column → ℕ → ParsedPart Expr → Rule (ParsedPart Expr)
one_more_negation columns depth = rules.one_more_negation as_filter columns (nested columns depth)

abbrev pub conjunction : List Column → ℕ → Rule (ParsedPart Expr)
conjunction columns depth = rules.conjunction as_filter columns (nested columns depth)

abbrev pub one_more_conjunction : List Column → ℕ → ParsedPart Expr → Rule (ParsedPart Expr)
one_more_conjunction columns depth = rules.one_more_conjunction as_filter columns (nested columns depth)

abbrev pub disjunction : List Column → ℕ → Rule (ParsedPart Expr)
disjunction columns depth = rules.disjunction as_filter columns (nested columns depth)
