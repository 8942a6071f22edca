-- What the forms make of an expression is carried over.
use Rattle.std.proofs.Common.{◌≡◌, ℕ, zero, suc, Bool, true, false, List, [], ◌∷◌, length, map, refl, sym, ap}
use Rattle.std.proofs.lemmas.List.{map-append, length-map}
use Rattle.std.specs.Prelude.{Option, Some, None, Ok, if◌then◌else◌}
use Rattle.sql_tokens.specs.declared.kinds.Operator.TheVariants as o
use Rattle.filter_tree.specs.declared.filter.Op.{Op}
use Rattle.filter_tree.specs.declared.table.Column.{Column}
use Rattle.sql_reader.specs.declared.word.Keyword.TheVariants as k
use Rattle.sql_reader.specs.declared.item.Item.TheVariants as i
use Rattle.sql_reader.specs.declared.column.FoundColumn.{FoundColumn}
use Rattle.sql_reader.specs.declared.truth_test.DistinctWords.{DistinctWords}
use Rattle.sql_reader.specs.declared.truth_test.TestAhead.{TestAhead}
use Rattle.sql_reader.specs.declared.truth_test.TestAhead.TheVariants as b
use Rattle.sql_reader.specs.declared.membership.Membership.{Membership}
use Rattle.sql_reader.specs.declared.membership.Membership.TheVariants as m
use Rattle.sql_reader.specs.declared.membership.MembershipWord.{MembershipWord}
use Rattle.sql_reader.specs.Expressions.{column, no_cast, no_operator, membership_or_none, test_or_none, Nested, AfterNot, InParentheses, InList, primary, divisor, divisor_or_none, term, side, right_side, one_entry, other_entries, in_list, bounds, member_by, member_or_none, right_side_by, right_side_or_none, comparison, distinct_side, tested_by, maybe_tested, predicate, negation, one_more_negation, conjunction, one_more_conjunction, disjunction, after_not, in_parentheses, nested, expression}
use Rattle.sql_reader.specs.Items.{Items}
use Rattle.sql_reader.specs.Memberships.{among_part, between_part, distinct_part, room_in_list}
use Rattle.sql_reader.specs.Operands.{Forms, OperandOf, ParsedPart, verdict_map, wanted, negated, joined, dividend, remainder, comparison_by, compared_part, tested as tested_part}
use Rattle.sql_reader.specs.Reading.{Rule, Verdict, and_then, with_rest, is_ahead, item_ahead, place_ahead, next_is, expect, rest_of}
use Rattle.sql_reader.specs.Repetitions.{link}
use Rattle.sql_reader.proofs.Carrying.{mapped, Carries, then-same, then-carried, repeat-carried, link-carried}
use Rattle.sql_reader.proofs.CarryingParts.{operand_map, part_map, check-carried, simple-carried, dividend-same, remainder-carried, wanted-carried, negated-carried, joined-carried, compared_part-carried, tested_part-carried, among_part-carried, between_part-carried, distinct_part-carried}
use Rattle.filter_tree.proofs.Tests.{by_test}

module _ {S T : Type 0} (from : Forms S) (to : Forms T) (h : S → T) (carries : Carries from to h)
    (columns : List Column) where
  abbrev nested_map : Nested S → Nested T
  nested_map AfterNot = AfterNot
  nested_map InParentheses = InParentheses
  nested_map (InList word left) = InList word (part_map h left)

  abbrev Alike : (Nested S → Rule (ParsedPart S)) → (Nested T → Rule (ParsedPart T)) → Type 0
  Alike below other = (inner : Nested S) (ts : Items)
      → other (nested_map inner) ts ≡ mapped (part_map h) (below inner ts)

  module _ (below : Nested S → Rule (ParsedPart S)) (other : Nested T → Rule (ParsedPart T))
      (alike : Alike below other) where
    primary-carried : (ts : Items) → primary to columns other ts ≡ mapped (part_map h) (primary from columns below ts)
    unfolding primary
    primary-carried ts = by_test (is_ahead i.Open ts) (λ e. rw e (alike InParentheses ts))
        (λ e. rw e (simple-carried h columns ts))

    divisor-carried : (first : ℕ) (column : Option FoundColumn) (ts : Items)
        → divisor to columns other first column ts ≡ mapped (part_map h) (divisor from columns below first column ts)
    unfolding divisor
    divisor-carried first column ts =
        then-same (part_map h) (expect (i.Operator o.Percent) ts) _ _ (λ place ts2.
        then-carried (part_map h) (part_map h) (primary from columns below ts2) (primary to columns other ts2) _ _
        (primary-carried ts2)
        (λ right ts3. check-carried (part_map h) (remainder place first column right.operand)
        (remainder place first column (operand_map h right.operand))
        (remainder-carried h place first column right.operand) ts3))

    divisor_or_none-carried : (left : ParsedPart S) (ts : Items)
        → divisor_or_none to columns other (part_map h left) ts
        ≡ mapped (part_map h) (divisor_or_none from columns below left ts)
    unfolding divisor_or_none
    divisor_or_none-carried left ts =
        then-same (part_map h) (next_is (i.Operator o.Percent) ts) _ _ (λ is_divided ts2. by_divisor is_divided ts2)
      where
        by_divisor : (is_divided : Bool) (ts2 : Items) →
            (if is_divided then divisor to columns other left.place (dividend (operand_map h left.operand))
            else (λ ts3. Ok (part_map h left, ts3))) ts2
            ≡ mapped (part_map h)
            ((if is_divided then divisor from columns below left.place (dividend left.operand)
            else (λ ts3. Ok (left, ts3))) ts2)
        by_divisor true ts2 = rw (dividend-same h left.operand) (divisor-carried left.place (dividend left.operand) ts2)
        by_divisor false ts2 = refl

    term-carried : (ts : Items) → term to columns other ts ≡ mapped (part_map h) (term from columns below ts)
    unfolding term
    term-carried ts =
        then-carried (part_map h) (part_map h) (primary from columns below ts) (primary to columns other ts) _ _
        (primary-carried ts) (λ left ts2. divisor_or_none-carried left ts2)

    side-carried : (ts : Items) → side to columns other ts ≡ mapped (part_map h) (side from columns below ts)
    unfolding side
    side-carried ts =
        then-carried (part_map h) (part_map h) (term from columns below ts) (term to columns other ts) _ _
        (term-carried ts)
        (λ read ts2. then-same (part_map h) (no_operator ts2) _ _ (λ u ts3. refl))

    -- what ends a side of a comparison
    ended-carried : (whole : ParsedPart S) (ts : Items)
        → and_then (no_operator ts) (λ u ts2. Ok (part_map h whole, ts2))
        ≡ mapped (part_map h) (and_then (no_operator ts) (λ u ts2. Ok (whole, ts2)))
    ended-carried whole ts = then-same (part_map h) (no_operator ts) _ _ (λ u ts2. refl)

    checked-carried : (verdict : Verdict (ParsedPart S)) (found : Verdict (ParsedPart T))
        → found ≡ verdict_map (part_map h) verdict → (ts : Items) →
        and_then (with_rest found ts) (λ whole ts2. and_then (no_operator ts2) (λ u ts3. Ok (whole, ts3)))
        ≡ mapped (part_map h)
        (and_then (with_rest verdict ts) (λ whole ts2. and_then (no_operator ts2) (λ u ts3. Ok (whole, ts3))))
    checked-carried verdict found is ts =
        then-carried (part_map h) (part_map h) (with_rest verdict ts) (with_rest found ts) _ _
        (check-carried (part_map h) verdict found is ts) ended-carried

    right_side-carried : (left : ParsedPart S) (op : Op) (ts : Items)
        → right_side to columns other (part_map h left) op ts
        ≡ mapped (part_map h) (right_side from columns below left op ts)
    unfolding right_side
    right_side-carried left op ts =
        then-carried (part_map h) (part_map h) (term from columns below (rest_of ts))
        (term to columns other (rest_of ts)) _ _ (term-carried (rest_of ts)) (λ right ts2.
        then-same (part_map h) (no_cast ts2) _ _ (λ u ts3.
        checked-carried (compared_part from (place_ahead ts) left op right)
        (compared_part to (place_ahead ts) (part_map h left) op (part_map h right))
        (compared_part-carried from to h carries (place_ahead ts) left op right) ts3))

    one_entry-carried : (others : List (OperandOf S)) (ts : Items)
        → one_entry to columns other (map (operand_map h) others) ts
        ≡ mapped (map (operand_map h)) (one_entry from columns below others ts)
    unfolding one_entry
    one_entry-carried others ts =
        rw (length-map others (operand_map h))
        (then-same (map (operand_map h)) (room_in_list (length others) ts) _ _ (λ u ts2.
        then-carried (part_map h) (map (operand_map h)) (side from columns below ts2) (side to columns other ts2) _ _
        (side-carried ts2)
        (λ entry ts3. ap (λ operands. Ok (operands, ts3))
        (sym (map-append (operand_map h) others (entry.operand ∷ []))))))

    other_entries-carried : (ts : Items)
        → other_entries to columns other ts ≡ mapped (map (operand_map h)) (other_entries from columns below ts)
    unfolding other_entries
    other_entries-carried ts =
        repeat-carried (map (operand_map h)) (link i.Comma (one_entry from columns below))
        (link i.Comma (one_entry to columns other))
        (link-carried (map (operand_map h)) i.Comma (one_entry from columns below) (one_entry to columns other)
        one_entry-carried) [] ts

    in_list-carried : (word : MembershipWord) (left : ParsedPart S) (ts : Items)
        → in_list to columns other word (part_map h left) ts
        ≡ mapped (part_map h) (in_list from columns below word left ts)
    unfolding in_list
    in_list-carried word left ts =
        then-same (part_map h) (expect i.Open ts) _ _ (λ place ts2.
        then-carried (part_map h) (part_map h) (side from columns below ts2) (side to columns other ts2) _ _
        (side-carried ts2) (λ first ts3.
        then-carried (map (operand_map h)) (part_map h) (other_entries from columns below ts3)
        (other_entries to columns other ts3) _ _ (other_entries-carried ts3) (λ others ts4.
        then-same (part_map h) (expect i.Close ts4) _ _ (λ end ts5.
        checked-carried (among_part from word left first.operand others)
        (among_part to word (part_map h left) (operand_map h first.operand) (map (operand_map h) others))
        (among_part-carried from to h carries word left first.operand others) ts5))))

    bounds-carried : (word : MembershipWord) (left : ParsedPart S) (ts : Items)
        → bounds to columns other word (part_map h left) ts
        ≡ mapped (part_map h) (bounds from columns below word left ts)
    unfolding bounds
    bounds-carried word left ts =
        then-carried (part_map h) (part_map h) (side from columns below ts) (side to columns other ts) _ _
        (side-carried ts) (λ low ts2.
        then-same (part_map h) (expect (i.Keyword k.And) ts2) _ _ (λ place ts3.
        then-carried (part_map h) (part_map h) (term from columns below ts3) (term to columns other ts3) _ _
        (term-carried ts3) (λ high ts4.
        then-same (part_map h) (no_cast ts4) _ _ (λ u ts5.
        checked-carried (between_part from word left low.operand high.operand)
        (between_part to word (part_map h left) (operand_map h low.operand) (operand_map h high.operand))
        (between_part-carried from to h carries word left low.operand high.operand) ts5))))

    member_by-carried : (left : ParsedPart S) (membership : Option Membership) (ts : Items)
        → member_by to columns other (part_map h left) membership ts
        ≡ mapped (part_map h) (member_by from columns below left membership ts)
    member_by-carried left (Some (m.List word)) ts = alike (InList word left) ts
    member_by-carried left (Some (m.Range word)) ts = bounds-carried word left ts
    member_by-carried left None ts = refl

    member_or_none-carried : (left : ParsedPart S) (ts : Items)
        → member_or_none to columns other (part_map h left) ts
        ≡ mapped (part_map h) (member_or_none from columns below left ts)
    unfolding member_or_none
    member_or_none-carried left ts = then-same (part_map h) (membership_or_none ts) _ _ (member_by-carried left)

    right_side_by-carried : (left : ParsedPart S) (op : Option Op) (ts : Items)
        → right_side_by to columns other (part_map h left) op ts
        ≡ mapped (part_map h) (right_side_by from columns below left op ts)
    right_side_by-carried left (Some op) ts = right_side-carried left op ts
    right_side_by-carried left None ts = member_or_none-carried left ts

    comparison-carried : (ts : Items)
        → comparison to columns other ts ≡ mapped (part_map h) (comparison from columns below ts)
    unfolding comparison right_side_or_none
    comparison-carried ts =
        then-carried (part_map h) (part_map h) (side from columns below ts) (side to columns other ts) _ _
        (side-carried ts)
        (λ left ts2. right_side_by-carried left (comparison_by (item_ahead ts2)) ts2)

    distinct_side-carried : (left : ParsedPart S) (words : DistinctWords) (ts : Items)
        → distinct_side to columns other (part_map h left) words ts
        ≡ mapped (part_map h) (distinct_side from columns below left words ts)
    unfolding distinct_side
    distinct_side-carried left words ts =
        then-carried (part_map h) (part_map h) (term from columns below ts) (term to columns other ts) _ _
        (term-carried ts) (λ right ts2.
        then-same (part_map h) (no_cast ts2) _ _ (λ u ts3.
        checked-carried (distinct_part from words left right.operand)
        (distinct_part to words (part_map h left) (operand_map h right.operand))
        (distinct_part-carried from to h carries words left right.operand) ts3))

    tested_by-carried : (left : ParsedPart S) (asking : Option TestAhead) (ts : Items)
        → tested_by to columns other (part_map h left) asking ts
        ≡ mapped (part_map h) (tested_by from columns below left asking ts)
    tested_by-carried left (Some (b.Truth test)) ts =
        check-carried (part_map h) (tested_part from test left) (tested_part to test (part_map h left))
        (tested_part-carried from to h carries test left) ts
    tested_by-carried left (Some (b.Distinct words)) ts = distinct_side-carried left words ts
    tested_by-carried left None ts = refl

    tested-carried : (left : ParsedPart S) (ts : Items)
        → maybe_tested to columns other (part_map h left) ts
        ≡ mapped (part_map h) (maybe_tested from columns below left ts)
    unfolding maybe_tested
    tested-carried left ts = then-same (part_map h) (test_or_none ts) _ _ (tested_by-carried left)

    predicate-carried : (ts : Items)
        → predicate to columns other ts ≡ mapped (part_map h) (predicate from columns below ts)
    unfolding predicate
    predicate-carried ts =
        then-carried (part_map h) (part_map h) (comparison from columns below ts) (comparison to columns other ts) _ _
        (comparison-carried ts) (λ asked_part ts2. tested-carried asked_part ts2)

    negation-carried : (ts : Items)
        → negation to columns other ts ≡ mapped (part_map h) (negation from columns below ts)
    unfolding negation
    negation-carried ts =
        by_test (is_ahead (i.Keyword k.Not) ts) (λ e. rw e (alike AfterNot ts)) (λ e. rw e (predicate-carried ts))

    one_more_negation-carried : (left : ParsedPart S) (ts : Items)
        → one_more_negation to columns other (part_map h left) ts
        ≡ mapped (part_map h) (one_more_negation from columns below left ts)
    unfolding one_more_negation
    one_more_negation-carried left ts =
        then-carried h (part_map h) (with_rest (wanted from left) ts) (with_rest (wanted to (part_map h left)) ts) _ _
        (check-carried h (wanted from left) (wanted to (part_map h left)) (wanted-carried from to h carries left) ts)
        (λ filter ts2.
        then-carried (part_map h) (part_map h) (negation from columns below ts2) (negation to columns other ts2) _ _
        (negation-carried ts2)
        (λ right ts3. check-carried (part_map h) (joined from from.both left.place filter right)
        (joined to to.both left.place (h filter) (part_map h right))
        (joined-carried from to h carries from.both to.both carries.both left.place filter right) ts3))

    conjunction-carried : (ts : Items)
        → conjunction to columns other ts ≡ mapped (part_map h) (conjunction from columns below ts)
    unfolding conjunction
    conjunction-carried ts =
        then-carried (part_map h) (part_map h) (negation from columns below ts) (negation to columns other ts) _ _
        (negation-carried ts)
        (repeat-carried (part_map h) (link (i.Keyword k.And) (one_more_negation from columns below))
        (link (i.Keyword k.And) (one_more_negation to columns other))
        (link-carried (part_map h) (i.Keyword k.And) (one_more_negation from columns below)
        (one_more_negation to columns other) one_more_negation-carried))

    one_more_conjunction-carried : (left : ParsedPart S) (ts : Items)
        → one_more_conjunction to columns other (part_map h left) ts
        ≡ mapped (part_map h) (one_more_conjunction from columns below left ts)
    unfolding one_more_conjunction
    one_more_conjunction-carried left ts =
        then-carried h (part_map h) (with_rest (wanted from left) ts) (with_rest (wanted to (part_map h left)) ts) _ _
        (check-carried h (wanted from left) (wanted to (part_map h left)) (wanted-carried from to h carries left) ts)
        (λ filter ts2.
        then-carried (part_map h) (part_map h) (conjunction from columns below ts2) (conjunction to columns other ts2)
        _ _ (conjunction-carried ts2)
        (λ right ts3. check-carried (part_map h) (joined from from.either left.place filter right)
        (joined to to.either left.place (h filter) (part_map h right))
        (joined-carried from to h carries from.either to.either carries.either left.place filter right) ts3))

    disjunction-carried : (ts : Items)
        → disjunction to columns other ts ≡ mapped (part_map h) (disjunction from columns below ts)
    unfolding disjunction
    disjunction-carried ts =
        then-carried (part_map h) (part_map h) (conjunction from columns below ts) (conjunction to columns other ts) _
        _ (conjunction-carried ts)
        (repeat-carried (part_map h) (link (i.Keyword k.Or) (one_more_conjunction from columns below))
        (link (i.Keyword k.Or) (one_more_conjunction to columns other))
        (link-carried (part_map h) (i.Keyword k.Or) (one_more_conjunction from columns below)
        (one_more_conjunction to columns other) one_more_conjunction-carried))

    after_not-carried : (ts : Items)
        → after_not to columns other ts ≡ mapped (part_map h) (after_not from columns below ts)
    unfolding after_not
    after_not-carried ts =
        then-same (part_map h) (expect (i.Keyword k.Not) ts) _ _ (λ place ts2.
        then-carried (part_map h) (part_map h) (negation from columns below ts2) (negation to columns other ts2) _ _
        (negation-carried ts2)
        (λ right ts3. check-carried (part_map h) (negated from place right) (negated to place (part_map h right))
        (negated-carried from to h carries place right) ts3))

    in_parentheses-carried : (ts : Items)
        → in_parentheses to columns other ts ≡ mapped (part_map h) (in_parentheses from columns below ts)
    unfolding in_parentheses
    in_parentheses-carried ts =
        then-same (part_map h) (expect i.Open ts) _ _ (λ place ts2.
        then-carried (part_map h) (part_map h) (disjunction from columns below ts2) (disjunction to columns other ts2)
        _ _ (disjunction-carried ts2)
        (λ inner ts3. then-same (part_map h) (expect i.Close ts3) _ _ (λ end ts4. refl)))

  nested-carried : (n : ℕ) → Alike (nested from columns n) (nested to columns n)
  unfolding nested
  nested-carried zero inner ts = refl
  nested-carried (suc n) AfterNot ts =
      after_not-carried (nested from columns n) (nested to columns n) (nested-carried n) ts
  nested-carried (suc n) InParentheses ts =
      in_parentheses-carried (nested from columns n) (nested to columns n) (nested-carried n) ts
  nested-carried (suc n) (InList word left) ts =
      in_list-carried (nested from columns n) (nested to columns n) (nested-carried n) word left ts

  pub expression-carried : (ts : Items) → expression to columns ts ≡ mapped h (expression from columns ts)
  unfolding expression
  expression-carried ts =
      then-carried (part_map h) h (disjunction from columns (nested from columns 64) ts)
      (disjunction to columns (nested to columns 64) ts) _ _
      (disjunction-carried (nested from columns 64) (nested to columns 64) (nested-carried 64) ts)
      (λ whole ts2. check-carried h (wanted from whole) (wanted to (part_map h whole))
      (wanted-carried from to h carries whole) ts2)
