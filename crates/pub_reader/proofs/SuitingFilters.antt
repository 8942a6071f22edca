-- A filter that is read suits the table over whose columns it is read.
use Rattle.std.proofs.Common.{ℕ, zero, suc, Bool, true, false, List}
use Rattle.std.specs.Prelude.{Option, Some, None, Ok, if◌then◌else◌}
use Rattle.sql_tokens.specs.declared.kinds.Operator.TheVariants as o
use Rattle.filter_tree.specs.declared.filter.Op.{Op}
use Rattle.filter_tree.specs.declared.table.Column.{Column}
use Rattle.filter_tree.specs.Expr.{Expr, And, Or}
use Rattle.sql_reader.specs.declared.word.Keyword.TheVariants as k
use Rattle.sql_reader.specs.declared.item.Item.{Item}
use Rattle.sql_reader.specs.declared.item.Item.TheVariants as i
use Rattle.sql_reader.specs.declared.column.FoundColumn.{FoundColumn}
use Rattle.sql_reader.specs.declared.truth_test.DistinctWords.{DistinctWords}
use Rattle.sql_reader.specs.declared.truth_test.TestAhead.{TestAhead}
use Rattle.sql_reader.specs.declared.truth_test.TestAhead.TheVariants as b
use Rattle.sql_reader.specs.declared.membership.Membership.{Membership}
use Rattle.sql_reader.specs.declared.membership.Membership.TheVariants as m
use Rattle.sql_reader.specs.declared.membership.MembershipWord.{MembershipWord}
use Rattle.sql_reader.specs.Expressions.{no_call, column, column_part, number_part, cast_or_none, string_part, truth_part, simple_by, simple, no_cast, no_operator, membership_or_none, test_or_none, Nested, AfterNot, InParentheses, InList, primary, divisor, divisor_or_none, term, side, right_side, other_entries, in_list, bounds, member_by, member_or_none, right_side_by, right_side_or_none, comparison, distinct_side, tested_by, maybe_tested, predicate, negation, one_more_negation, conjunction, one_more_conjunction, disjunction, after_not, in_parentheses, nested, expression}
use Rattle.sql_reader.specs.Items.{Items}
use Rattle.sql_reader.specs.Memberships.{among, between, distinct_from, among_part, between_part, distinct_part}
use Rattle.sql_reader.specs.Names.{name}
use Rattle.sql_reader.specs.Numbers.{placed_number}
use Rattle.sql_reader.specs.Operands.{ParsedPart, part, wanted, negated, joined, dividend, remainder, comparison_by, compared_part, tested as tested_part}
use Rattle.sql_reader.specs.Reading.{Rule, Verdict, and_then, with_rest, is_ahead, item_ahead, place_ahead, next_is, expect, rest_of}
use Rattle.sql_reader.specs.Repetitions.{link}
use Rattle.sql_reader.specs.Written.{as_filter}
use Rattle.sql_reader.proofs.Keeping.{Gives, then-gives, any-gives, chosen-gives, repeat-gives, link-gives}
use Rattle.sql_reader.proofs.NamedParts.{Says, check-gives}
use Rattle.pub_reader.specs.WellFormed.{SuitsTable}
use Rattle.pub_reader.proofs.SuitingParts.{known_column-finds, IsFoundIn, Suits, SuitsPart, both-suits, either-suits, wanted-suits, negated-suits, joined-suits, SuitsFound, dividend-suits, remainder-suits, compared_part-suits, tested_part-suits, formed-suits, among-suits, between-suits, distinct-suits}

-- ---- the rules

module _ (columns : List Column) where
  abbrev Fits : ParsedPart Expr → Type 0
  Fits part = SuitsPart columns part

  simple_by-fits : (item : Option Item) (ts : Items) → Gives Fits (simple_by columns item ts)
  unfolding column_part number_part string_part truth_part column
  simple_by-fits (Some (i.Operator o.Minus)) ts = any-gives Fits (placed_number ts) _ (λ digits ts2. tt)
  simple_by-fits (Some (i.Number number)) ts = any-gives Fits (placed_number ts) _ (λ digits ts2. tt)
  simple_by-fits (Some i.Text) ts = any-gives Fits (cast_or_none (rest_of ts)) _ (λ u ts2. tt)
  simple_by-fits (Some (i.Keyword k.True)) ts = tt
  simple_by-fits (Some (i.Keyword k.False)) ts = tt
  simple_by-fits (Some (i.Keyword k.Null)) ts = tt
  simple_by-fits (Some (i.Keyword k.Case)) ts = tt
  simple_by-fits _ ts =
      then-gives (IsFoundIn columns) Fits (column columns ts) _ (column-gives ts)
      (λ found ts2 h. (h, tt))
    where
      column-gives : (ts : Items) → Gives (IsFoundIn columns) (column columns ts)
      column-gives ts =
          any-gives (IsFoundIn columns) (name ts) _ (λ called ts2.
          any-gives (IsFoundIn columns) (no_call called ts2) _
          (λ u ts3. known_column-finds columns called ts3))

  simple-fits : (ts : Items) → Gives Fits (simple columns ts)
  unfolding simple
  simple-fits ts = simple_by-fits (item_ahead ts) ts

  abbrev FitsNested : Nested Expr → Type 0
  FitsNested AfterNot = Unit {0}
  FitsNested InParentheses = Unit {0}
  FitsNested (InList word left) = Fits left

  abbrev AllFit : (Nested Expr → Rule (ParsedPart Expr)) → Type 0
  AllFit below = (inner : Nested Expr) (ts : Items) → FitsNested inner → Gives Fits (below inner ts)

  module _ (below : Nested Expr → Rule (ParsedPart Expr)) (all : AllFit below) where
    primary-fits : (ts : Items) → Gives Fits (primary as_filter columns below ts)
    unfolding primary
    primary-fits ts = chosen-gives Fits (is_ahead i.Open ts) (below InParentheses ts) (simple columns ts)
        (all InParentheses ts tt) (simple-fits ts)

    divisor-fits : (first : ℕ) (column : Option FoundColumn) (ts : Items) → SuitsFound columns column
        → Gives Fits (divisor as_filter columns below first column ts)
    unfolding divisor
    divisor-fits first column ts h =
        any-gives Fits (expect (i.Operator o.Percent) ts) _ (λ place ts2.
        any-gives Fits (primary as_filter columns below ts2) _ (λ right ts3.
        check-gives Fits (remainder place first column right.operand) ts3
        (remainder-suits columns place first column right.operand h)))

    divisor_or_none-fits : (left : ParsedPart Expr) (ts : Items) → Fits left
        → Gives Fits (divisor_or_none as_filter columns below left ts)
    unfolding divisor_or_none
    divisor_or_none-fits left ts h =
        any-gives Fits (next_is (i.Operator o.Percent) ts) _ (λ is_divided ts2. by_divisor is_divided ts2)
      where
        by_divisor : (is_divided : Bool) (ts2 : Items) →
            Gives Fits ((if is_divided then
            divisor as_filter columns below left.place (dividend left.operand) else (λ ts3. Ok (left, ts3))) ts2)
        by_divisor true ts2 =
            divisor-fits left.place (dividend left.operand) ts2 (dividend-suits columns left.operand h)
        by_divisor false ts2 = h

    term-fits : (ts : Items) → Gives Fits (term as_filter columns below ts)
    unfolding term
    term-fits ts = then-gives Fits Fits (primary as_filter columns below ts) _ (primary-fits ts) divisor_or_none-fits

    ended-fits : (whole : ParsedPart Expr) (ts : Items) → Fits whole
        → Gives Fits (and_then (no_operator ts) (λ u ts2. Ok (whole, ts2)))
    ended-fits whole ts h = any-gives Fits (no_operator ts) _ (λ u ts2. h)

    side-fits : (ts : Items) → Gives Fits (side as_filter columns below ts)
    unfolding side
    side-fits ts = then-gives Fits Fits (term as_filter columns below ts) _ (term-fits ts) ended-fits

    checked-fits : (verdict : Verdict (ParsedPart Expr)) → Says Fits verdict → (ts : Items)
        → Gives Fits (and_then (with_rest verdict ts)
        (λ whole ts2. and_then (no_operator ts2) (λ u ts3. Ok (whole, ts3))))
    checked-fits verdict h ts = then-gives Fits Fits (with_rest verdict ts) _ (check-gives Fits verdict ts h) ended-fits

    right_side-fits : (left : ParsedPart Expr) (op : Op) (ts : Items) → Fits left
        → Gives Fits (right_side as_filter columns below left op ts)
    unfolding right_side
    right_side-fits left op ts h =
        then-gives Fits Fits (term as_filter columns below (rest_of ts)) _ (term-fits (rest_of ts)) (λ right ts2 r.
        any-gives Fits (no_cast ts2) _ (λ u ts3.
        checked-fits (compared_part as_filter (place_ahead ts) left op right)
        (compared_part-suits columns (place_ahead ts) left op right h r) ts3))

    in_list-fits : (word : MembershipWord) (left : ParsedPart Expr) (ts : Items) → Fits left
        → Gives Fits (in_list as_filter columns below word left ts)
    unfolding in_list
    in_list-fits word left ts h =
        any-gives Fits (expect i.Open ts) _ (λ place ts2.
        any-gives Fits (side as_filter columns below ts2) _ (λ first ts3.
        any-gives Fits (other_entries as_filter columns below ts3) _ (λ others ts4.
        any-gives Fits (expect i.Close ts4) _ (λ end ts5.
        checked-fits (among_part as_filter word left first.operand others)
        (formed-suits columns word.is_negated left.place
        (among as_filter word.place left.operand first.operand others)
        (among-suits columns word.place left.operand first.operand others h)) ts5))))

    bounds-fits : (word : MembershipWord) (left : ParsedPart Expr) (ts : Items) → Fits left
        → Gives Fits (bounds as_filter columns below word left ts)
    unfolding bounds
    bounds-fits word left ts h =
        any-gives Fits (side as_filter columns below ts) _ (λ low ts2.
        any-gives Fits (expect (i.Keyword k.And) ts2) _ (λ place ts3.
        any-gives Fits (term as_filter columns below ts3) _ (λ high ts4.
        any-gives Fits (no_cast ts4) _ (λ u ts5.
        checked-fits (between_part as_filter word left low.operand high.operand)
        (formed-suits columns word.is_negated left.place
        (between as_filter word.place left.operand low.operand high.operand)
        (between-suits columns word.place left.operand low.operand high.operand h)) ts5))))

    member_by-fits : (left : ParsedPart Expr) (membership : Option Membership) (ts : Items) → Fits left
        → Gives Fits (member_by as_filter columns below left membership ts)
    member_by-fits left (Some (m.List word)) ts h = all (InList word left) ts h
    member_by-fits left (Some (m.Range word)) ts h = bounds-fits word left ts h
    member_by-fits left None ts h = h

    right_side_by-fits : (left : ParsedPart Expr) (op : Option Op) (ts : Items) → Fits left
        → Gives Fits (right_side_by as_filter columns below left op ts)
    unfolding member_or_none
    right_side_by-fits left (Some op) ts h = right_side-fits left op ts h
    right_side_by-fits left None ts h =
        any-gives Fits (membership_or_none ts) _ (λ membership ts2. member_by-fits left membership ts2 h)

    comparison-fits : (ts : Items) → Gives Fits (comparison as_filter columns below ts)
    unfolding comparison right_side_or_none
    comparison-fits ts =
        then-gives Fits Fits (side as_filter columns below ts) _ (side-fits ts)
        (λ left ts2 h. right_side_by-fits left (comparison_by (item_ahead ts2)) ts2 h)

    distinct_side-fits : (left : ParsedPart Expr) (words : DistinctWords) (ts : Items) → Fits left
        → Gives Fits (distinct_side as_filter columns below left words ts)
    unfolding distinct_side
    distinct_side-fits left words ts h =
        any-gives Fits (term as_filter columns below ts) _ (λ right ts2.
        any-gives Fits (no_cast ts2) _ (λ u ts3.
        checked-fits (distinct_part as_filter words left right.operand)
        (formed-suits columns words.is_negated left.place
        (distinct_from as_filter words.place words.distinct_place left.operand right.operand)
        (distinct-suits columns words.place words.distinct_place left.operand right.operand h)) ts3))

    tested_by-fits : (left : ParsedPart Expr) (asking : Option TestAhead) (ts : Items) → Fits left
        → Gives Fits (tested_by as_filter columns below left asking ts)
    tested_by-fits left (Some (b.Truth test)) ts h =
        check-gives Fits (tested_part as_filter test left) ts (tested_part-suits columns test left h)
    tested_by-fits left (Some (b.Distinct words)) ts h = distinct_side-fits left words ts h
    tested_by-fits left None ts h = h

    predicate-fits : (ts : Items) → Gives Fits (predicate as_filter columns below ts)
    unfolding predicate maybe_tested
    predicate-fits ts =
        then-gives Fits Fits (comparison as_filter columns below ts) _ (comparison-fits ts) (λ left ts2 h.
        any-gives Fits (test_or_none ts2) _ (λ test ts3. tested_by-fits left test ts3 h))

    negation-fits : (ts : Items) → Gives Fits (negation as_filter columns below ts)
    unfolding negation
    negation-fits ts = chosen-gives Fits (is_ahead (i.Keyword k.Not) ts) (below AfterNot ts)
        (predicate as_filter columns below ts) (all AfterNot ts tt) (predicate-fits ts)

    one_more_negation-fits : (left : ParsedPart Expr) (ts : Items) → Fits left
        → Gives Fits (one_more_negation as_filter columns below left ts)
    unfolding one_more_negation
    one_more_negation-fits left ts h =
        then-gives (Suits columns) Fits (with_rest (wanted as_filter left) ts) _
        (check-gives (Suits columns) (wanted as_filter left) ts (wanted-suits columns left h))
        (λ filter ts2 n.
        then-gives Fits Fits (negation as_filter columns below ts2) _ (negation-fits ts2) (λ right ts3 r.
        check-gives Fits (joined as_filter And left.place filter right) ts3
        (joined-suits columns And (both-suits columns) left.place filter right n r)))

    conjunction-fits : (ts : Items) → Gives Fits (conjunction as_filter columns below ts)
    unfolding conjunction
    conjunction-fits ts =
        then-gives Fits Fits (negation as_filter columns below ts) _ (negation-fits ts)
        (repeat-gives Fits (link (i.Keyword k.And) (one_more_negation as_filter columns below))
        (link-gives Fits (i.Keyword k.And) (one_more_negation as_filter columns below) one_more_negation-fits))

    one_more_conjunction-fits : (left : ParsedPart Expr) (ts : Items) → Fits left
        → Gives Fits (one_more_conjunction as_filter columns below left ts)
    unfolding one_more_conjunction
    one_more_conjunction-fits left ts h =
        then-gives (Suits columns) Fits (with_rest (wanted as_filter left) ts) _
        (check-gives (Suits columns) (wanted as_filter left) ts (wanted-suits columns left h))
        (λ filter ts2 n.
        then-gives Fits Fits (conjunction as_filter columns below ts2) _ (conjunction-fits ts2) (λ right ts3 r.
        check-gives Fits (joined as_filter Or left.place filter right) ts3
        (joined-suits columns Or (either-suits columns) left.place filter right n r)))

    disjunction-fits : (ts : Items) → Gives Fits (disjunction as_filter columns below ts)
    unfolding disjunction
    disjunction-fits ts =
        then-gives Fits Fits (conjunction as_filter columns below ts) _ (conjunction-fits ts)
        (repeat-gives Fits (link (i.Keyword k.Or) (one_more_conjunction as_filter columns below))
        (link-gives Fits (i.Keyword k.Or) (one_more_conjunction as_filter columns below) one_more_conjunction-fits))

    after_not-fits : (ts : Items) → Gives Fits (after_not as_filter columns below ts)
    unfolding after_not
    after_not-fits ts =
        any-gives Fits (expect (i.Keyword k.Not) ts) _ (λ place ts2.
        then-gives Fits Fits (negation as_filter columns below ts2) _ (negation-fits ts2) (λ right ts3 r.
        check-gives Fits (negated as_filter place right) ts3 (negated-suits columns place right r)))

    in_parentheses-fits : (ts : Items) → Gives Fits (in_parentheses as_filter columns below ts)
    unfolding in_parentheses
    in_parentheses-fits ts =
        any-gives Fits (expect i.Open ts) _ (λ place ts2.
        then-gives Fits Fits (disjunction as_filter columns below ts2) _ (disjunction-fits ts2) (λ inner ts3 h.
        any-gives Fits (expect i.Close ts3) _ (λ end ts4. h)))

  nested-fits : (n : ℕ) → AllFit (nested as_filter columns n)
  unfolding nested
  nested-fits zero inner ts h = tt
  nested-fits (suc n) AfterNot ts h = after_not-fits (nested as_filter columns n) (nested-fits n) ts
  nested-fits (suc n) InParentheses ts h = in_parentheses-fits (nested as_filter columns n) (nested-fits n) ts
  nested-fits (suc n) (InList word left) ts h = in_list-fits (nested as_filter columns n) (nested-fits n) word left ts h

  -- a filter suits the table over whose columns it is read
  pub expression-suits : (ts : Items) → Gives (SuitsTable columns) (expression as_filter columns ts)
  unfolding expression
  expression-suits ts =
      then-gives Fits (SuitsTable columns) (disjunction as_filter columns (nested as_filter columns 64) ts) _
      (disjunction-fits (nested as_filter columns 64) (nested-fits 64) ts)
      (λ whole ts2 h. check-gives (SuitsTable columns) (wanted as_filter whole) ts2
      (wanted-suits columns whole h))
