-- Filters as they are written: PostgreSQL 15, "Value Expressions", 4.2, with the precedences of 4.1.6 Operator
-- Precedence: `%` binds tighter than comparisons, IN and BETWEEN, and these tighter than IS tests, then NOT, AND and
-- OR; AND and OR build to the left.
use Rattle.std.specs.Prelude.{ℕ, zero, suc, ◌+◌, Bool, true, false, if◌then◌else◌, List, [], ◌∷◌, ◌++◌, length, Option, Some, None, Ok, Err}
use Rattle.std.specs.Str.{bytes_eq}
use Rattle.sql_tokens.specs.declared.kinds.Operator.TheVariants as o
use Rattle.filter_tree.specs.declared.table.Column.{Column}
use Rattle.filter_tree.specs.declared.filter.Op.{Op}
use Rattle.filter_tree.specs.declared.filter.Term.TheVariants.{Col}
use Rattle.filter_tree.specs.declared.filter.Test.TheVariants as t
use Rattle.filter_tree.specs.Datum.{Number, Truth, Bytes}
use Rattle.sql_reader.specs.declared.word.Keyword.TheVariants as k
use Rattle.sql_reader.specs.declared.item.Item.{Item}
use Rattle.sql_reader.specs.declared.item.Item.TheVariants as i
use Rattle.sql_reader.specs.declared.name.PlacedName.{PlacedName}
use Rattle.sql_reader.specs.declared.column.FoundColumn.{FoundColumn}
use Rattle.sql_reader.specs.declared.truth_test.TestedValue.{TestedValue}
use Rattle.sql_reader.specs.declared.truth_test.TestedValue.TheVariants as a
use Rattle.sql_reader.specs.declared.truth_test.DistinctWords.{DistinctWords}
use Rattle.sql_reader.specs.declared.truth_test.TestAhead.{TestAhead}
use Rattle.sql_reader.specs.declared.truth_test.TestAhead.TheVariants as b
use Rattle.sql_reader.specs.declared.membership.Membership.{Membership}
use Rattle.sql_reader.specs.declared.membership.Membership.TheVariants as m
use Rattle.sql_reader.specs.declared.membership.MembershipWord.{MembershipWord}
use Rattle.sql_reader.specs.declared.error.Omitted.TheVariants as l
use Rattle.sql_reader.specs.ErrorKinds as w
use Rattle.sql_reader.specs.Items.{is_name}
use Rattle.sql_reader.specs.Names.{name, string_meant}
use Rattle.sql_reader.specs.Memberships.{among_part, between_part, distinct_part, room_in_list}
use Rattle.sql_reader.specs.Numbers.{placed_number}
use Rattle.sql_reader.specs.Operands.{OperandOf, ParsedPart, OfTerm, OfLiteral, part, wanted, negated, joined, dividend, remainder, comparison_by, compared_part, tested as tested_part}
pub use Rattle.sql_reader.specs.Operands.{Forms}
use Rattle.sql_reader.specs.Reading.{Rule, Verdict, fault, ◌>>=◌, ◌>>◌, pure, check, here, refuse, refuse_as, advance, look, eat, expect, next_is, is_ahead, item_ahead, place_ahead, written_ahead}
use Rattle.sql_reader.specs.Repetitions.{link, repeat}

-- ---- columns

-- the column of this name, among columns whose numbers begin at this one
abbrev pub found_from : ℕ → List ℕ → List Column → Option FoundColumn
found_from number text [] = None
found_from number text (column ∷ columns) =
    if bytes_eq text column.name then Some (record { number = number; kind = column.kind })
    else found_from (number + 1) text columns

unfoldable pub find_column : List ℕ → List Column → Option FoundColumn
find_column text columns = found_from 0 text columns

abbrev pub known : PlacedName → Option FoundColumn → Verdict FoundColumn
known called (Some column) = Ok column
known called None = Err (fault called.place w.UnknownName)

unfoldable pub known_column : List Column → PlacedName → Verdict FoundColumn
known_column columns called = known called (find_column called.text columns)

-- a name that is followed by a parenthesis or a point is not a column
abbrev pub no_call_by : Option Item → PlacedName → Verdict (Unit {0})
no_call_by (Some i.Open) called = Err (fault called.place (w.LeftOut l.Function))
no_call_by (Some i.Dot) called = Err (fault called.place (w.LeftOut l.Qualified))
no_call_by _ called = Ok tt

unfoldable pub no_call : PlacedName → Rule (Unit {0})
no_call called = look >> (λ ts. check (no_call_by (item_ahead ts) called) ts)

unfoldable pub column : List Column → Rule FoundColumn
column columns = do
  called ← name
  no_call called
  check (known_column columns called)

-- ---- literals and columns

-- a cast is not supported. This does not look at a faulty token: if nothing can continue an operand, the checks of what
-- it ends come before that token
unfoldable pub no_cast : Rule (Unit {0})
no_cast ts = if is_ahead i.DoubleColon ts then refuse_as (w.LeftOut l.Cast) ts else Ok (tt, ts)

unfoldable pub column_part : {S : Type 0} → List Column → Rule (ParsedPart S)
column_part columns = do
  place ← here
  found ← column columns
  pure (part place (OfTerm (Col found.number) found.kind))

unfoldable pub number_part : {S : Type 0} → Rule (ParsedPart S)
number_part = do
  place ← here
  digits ← placed_number
  pure (part place (OfLiteral digits.place (Number digits.number)))

-- the type after `::`, which is at this place, is the word text: any other is not supported
abbrev pub text_type_by : ℕ → Option Item → Rule (Unit {0})
text_type_by place (Some (i.Keyword k.Text)) = advance
text_type_by place (Some item) = if is_name item then check (Err (fault place (w.LeftOut l.Cast))) else refuse
text_type_by place None = refuse

unfoldable pub text_type : ℕ → Rule (Unit {0})
text_type place ts = text_type_by place (item_ahead ts) ts

unfoldable pub text_cast : Rule (Unit {0})
text_cast = expect i.DoubleColon >>= text_type

-- after a string, `:: text` changes nothing
unfoldable pub cast_or_none : Rule (Unit {0})
cast_or_none = do
  has_cast ← next_is i.DoubleColon
  if has_cast then text_cast else pure tt

unfoldable pub string_part : {S : Type 0} → Rule (ParsedPart S)
string_part = λ ts. (advance >> cast_or_none >> pure
    (part (place_ahead ts) (OfLiteral (place_ahead ts) (Bytes (string_meant (written_ahead ts)))))) ts

unfoldable pub truth_part : {S : Type 0} → Bool → Rule (ParsedPart S)
truth_part known = λ ts. (advance >> pure (part (place_ahead ts) (OfLiteral (place_ahead ts) (Truth known)))) ts

-- NULL and CASE are not operands here, and not names
abbrev pub simple_by : {S : Type 0} → List Column → Option Item → Rule (ParsedPart S)
simple_by columns (Some (i.Operator o.Minus)) = number_part
simple_by columns (Some (i.Number number)) = number_part
simple_by columns (Some i.Text) = string_part
simple_by columns (Some (i.Keyword k.True)) = truth_part true
simple_by columns (Some (i.Keyword k.False)) = truth_part false
simple_by columns (Some (i.Keyword k.Null)) = refuse_as (w.LeftOut l.Constant)
simple_by columns (Some (i.Keyword k.Case)) = refuse_as (w.LeftOut l.Function)
simple_by columns _ = column_part columns

unfoldable pub simple : {S : Type 0} → List Column → Rule (ParsedPart S)
simple columns ts = simple_by columns (item_ahead ts) ts

-- ---- operators after an operand that are not supported

abbrev pub no_operator_by : Option Item → Rule (Unit {0})
no_operator_by (Some i.DoubleColon) = refuse_as (w.LeftOut l.Cast)
no_operator_by (Some (i.Operator o.Minus)) = refuse_as (w.LeftOut l.Operator)
no_operator_by (Some (i.Operator o.Star)) = refuse_as (w.LeftOut l.Operator)
no_operator_by (Some (i.Keyword k.Like)) = refuse_as (w.LeftOut l.Operator)
no_operator_by (Some (i.Keyword k.Ilike)) = refuse_as (w.LeftOut l.Operator)
no_operator_by (Some (i.Keyword k.Similar)) = refuse_as (w.LeftOut l.Operator)
no_operator_by _ = pure tt

unfoldable pub no_operator : Rule (Unit {0})
no_operator = look >> (λ ts. no_operator_by (item_ahead ts) ts)

-- ---- IN and BETWEEN

unfoldable pub membership_word : Bool → Rule MembershipWord
membership_word is_negated = λ ts. (advance >> pure (record { place = place_ahead ts; is_negated = is_negated })) ts

-- IN must be followed by a list in parentheses
abbrev pub list_due : Rule (Unit {0})
list_due ts = if is_ahead i.Open ts then Ok (tt, ts) else refuse ts

unfoldable pub list_ahead : Bool → Rule (Option Membership)
list_ahead is_negated = do
  word ← membership_word is_negated
  list_due
  pure (Some (m.List word))

-- BETWEEN SYMMETRIC is not supported, and neither is ASYMMETRIC, which changes nothing
abbrev pub no_symmetry_by : Option Item → Rule (Unit {0})
no_symmetry_by (Some (i.Keyword k.Symmetric)) = refuse_as (w.LeftOut l.Operator)
no_symmetry_by (Some (i.Keyword k.Asymmetric)) = refuse_as (w.LeftOut l.Operator)
no_symmetry_by _ = pure tt

unfoldable pub no_symmetry : Rule (Unit {0})
no_symmetry ts = no_symmetry_by (item_ahead ts) ts

unfoldable pub range_ahead : Bool → Rule (Option Membership)
range_ahead is_negated = do
  word ← membership_word is_negated
  no_symmetry
  pure (Some (m.Range word))

-- after an operand and NOT
abbrev pub negated_membership_by : Option Item → Rule (Option Membership)
negated_membership_by (Some (i.Keyword k.In)) = list_ahead true
negated_membership_by (Some (i.Keyword k.Between)) = range_ahead true
negated_membership_by (Some (i.Keyword k.Like)) = refuse_as (w.LeftOut l.Operator)
negated_membership_by (Some (i.Keyword k.Ilike)) = refuse_as (w.LeftOut l.Operator)
negated_membership_by (Some (i.Keyword k.Similar)) = refuse_as (w.LeftOut l.Operator)
negated_membership_by _ = refuse

unfoldable pub negated_membership : Rule (Option Membership)
negated_membership = advance >> (λ ts. negated_membership_by (item_ahead ts) ts)

abbrev pub membership_by : Option Item → Rule (Option Membership)
membership_by (Some (i.Keyword k.In)) = list_ahead false
membership_by (Some (i.Keyword k.Between)) = range_ahead false
membership_by (Some (i.Keyword k.Not)) = negated_membership
membership_by _ = pure None

-- IN or BETWEEN after an operand, with or without NOT before it, if one is ahead
unfoldable pub membership_or_none : Rule (Option Membership)
membership_or_none ts = membership_by (item_ahead ts) ts

-- ---- IS tests

abbrev pub tested_value_by : Option Item → Rule TestedValue
tested_value_by (Some (i.Keyword k.Null)) = advance >> pure a.Null
tested_value_by (Some (i.Keyword k.True)) = advance >> pure (a.Truth t.True)
tested_value_by (Some (i.Keyword k.False)) = advance >> pure (a.Truth t.False)
tested_value_by (Some (i.Keyword k.Unknown)) = advance >> pure (a.Truth t.Unknown)
tested_value_by _ = refuse

unfoldable pub asked_for : Rule TestedValue
asked_for ts = tested_value_by (item_ahead ts) ts

-- after IS, which is at this place, or IS NOT
unfoldable pub truth_test : ℕ → Bool → Rule (Option TestAhead)
truth_test place is_negated = do
  what ← asked_for
  pure (Some (b.Truth (record { place = place; is_negated = is_negated; asked = what })))

unfoldable pub distinct_words : ℕ → Bool → Rule (Option TestAhead)
distinct_words place is_negated = do
  distinct_place ← expect (i.Keyword k.Distinct)
  expect (i.Keyword k.From)
  pure (Some (b.Distinct (record { place = place; is_negated = is_negated; distinct_place = distinct_place })))

unfoldable pub after_is : ℕ → Bool → Rule (Option TestAhead)
after_is place is_negated ts =
    if is_ahead (i.Keyword k.Distinct) ts then distinct_words place is_negated ts else truth_test place is_negated ts

unfoldable pub is_test : Rule (Option TestAhead)
is_test = do
  place ← expect (i.Keyword k.Is)
  is_negated ← eat (i.Keyword k.Not)
  after_is place is_negated

-- ISNULL and NOTNULL
unfoldable pub null_test : Bool → Rule (Option TestAhead)
null_test is_negated =
    λ ts. (advance >> pure
    (Some (b.Truth (record { place = place_ahead ts; is_negated = is_negated; asked = a.Null })))) ts

abbrev pub test_by : Option Item → Rule (Option TestAhead)
test_by (Some (i.Keyword k.Is)) = is_test
test_by (Some (i.Keyword k.IsNull)) = null_test false
test_by (Some (i.Keyword k.NotNull)) = null_test true
test_by _ = pure None

-- a test, if one is ahead
unfoldable pub test_or_none : Rule (Option TestAhead)
test_or_none ts = test_by (item_ahead ts) ts

-- ---- expressions

-- looks at what follows a side of a comparison
abbrev pub side_ended : {S : Type 0} → ParsedPart S → Rule (ParsedPart S)
side_ended read = no_operator >> pure read

-- the parenthesis after a part; with its parentheses the part begins at this place
abbrev pub closed : {S : Type 0} → ℕ → ParsedPart S → Rule (ParsedPart S)
closed place inner = expect i.Close >> pure (part place inner.operand)

-- what is nested: what is after NOT, an expression in parentheses, or the list of IN with its left side
pub data Nested (S : Type 0) : Type 0 where
  AfterNot : Nested S
  InParentheses : Nested S
  InList : MembershipWord → ParsedPart S → Nested S

module _ {S : Type 0} (forms : Forms S) (columns : List Column) where
  -- Each of these adds one level of nesting, which is refused at the parenthesis or the NOT that passes the limit.
  abbrev Below : Type 0
  Below = Nested S → Rule (ParsedPart S)

  unfoldable pub primary : Below → Rule (ParsedPart S)
  primary below ts = if is_ahead i.Open ts then below InParentheses ts else simple columns ts

  -- `%` and the divisor, after what begins at this place
  unfoldable pub divisor : Below → ℕ → Option FoundColumn → Rule (ParsedPart S)
  divisor below first column = do
    place ← expect (i.Operator o.Percent)
    right ← primary below
    check (remainder place first column right.operand)

  unfoldable pub divisor_or_none : Below → ParsedPart S → Rule (ParsedPart S)
  divisor_or_none below left = do
    is_divided ← next_is (i.Operator o.Percent)
    if is_divided then divisor below left.place (dividend left.operand) else pure left

  unfoldable pub term : Below → Rule (ParsedPart S)
  term below = primary below >>= divisor_or_none below

  -- a side of a comparison
  unfoldable pub side : Below → Rule (ParsedPart S)
  side below = term below >>= side_ended

  -- a comparison is checked before what follows it, except for a cast
  unfoldable pub right_side : Below → ParsedPart S → Op → Rule (ParsedPart S)
  right_side below left operator = do
    place ← here
    advance
    right ← term below
    no_cast
    whole ← check (compared_part forms place left operator right)
    side_ended whole

  -- one more entry of a list, after the first one and these others
  unfoldable pub one_entry : Below → List (OperandOf S) → Rule (List (OperandOf S))
  one_entry below others = do
    room_in_list (length others)
    entry ← side below
    pure (others ++ entry.operand ∷ [])

  unfoldable pub other_entries : Below → Rule (List (OperandOf S))
  other_entries below = repeat (link i.Comma (one_entry below)) []

  -- a list after IN, which is checked at its parenthesis
  unfoldable pub in_list : Below → MembershipWord → ParsedPart S → Rule (ParsedPart S)
  in_list below word left = do
    expect i.Open
    first ← side below
    others ← other_entries below
    expect i.Close
    whole ← check (among_part forms word left first.operand others)
    side_ended whole

  -- the bounds after BETWEEN, which are checked as a comparison is
  unfoldable pub bounds : Below → MembershipWord → ParsedPart S → Rule (ParsedPart S)
  bounds below word left = do
    low ← side below
    expect (i.Keyword k.And)
    high ← term below
    no_cast
    whole ← check (between_part forms word left low.operand high.operand)
    side_ended whole

  abbrev pub member_by : Below → ParsedPart S → Option Membership → Rule (ParsedPart S)
  member_by below left (Some (m.List word)) = below (InList word left)
  member_by below left (Some (m.Range word)) = bounds below word left
  member_by below left None = pure left

  -- the list or the bounds after IN or BETWEEN, if one of these is ahead
  unfoldable pub member_or_none : Below → ParsedPart S → Rule (ParsedPart S)
  member_or_none below left = membership_or_none >>= member_by below left

  abbrev pub right_side_by : Below → ParsedPart S → Option Op → Rule (ParsedPart S)
  right_side_by below left (Some operator) = right_side below left operator
  right_side_by below left None = member_or_none below left

  unfoldable pub right_side_or_none : Below → ParsedPart S → Rule (ParsedPart S)
  right_side_or_none below left ts = right_side_by below left (comparison_by (item_ahead ts)) ts

  unfoldable pub comparison : Below → Rule (ParsedPart S)
  comparison below = side below >>= right_side_or_none below

  -- what is after IS DISTINCT FROM
  unfoldable pub distinct_side : Below → ParsedPart S → DistinctWords → Rule (ParsedPart S)
  distinct_side below left words = do
    right ← term below
    no_cast
    whole ← check (distinct_part forms words left right.operand)
    side_ended whole

  abbrev pub tested_by : Below → ParsedPart S → Option TestAhead → Rule (ParsedPart S)
  tested_by below left (Some (b.Truth test)) = check (tested_part forms test left)
  tested_by below left (Some (b.Distinct words)) = distinct_side below left words
  tested_by below left None = pure left

  unfoldable pub maybe_tested : Below → ParsedPart S → Rule (ParsedPart S)
  maybe_tested below left = test_or_none >>= tested_by below left

  unfoldable pub predicate : Below → Rule (ParsedPart S)
  predicate below = comparison below >>= maybe_tested below

  unfoldable pub negation : Below → Rule (ParsedPart S)
  negation below ts = if is_ahead (i.Keyword k.Not) ts then below AfterNot ts else predicate below ts

  unfoldable pub after_not : Below → Rule (ParsedPart S)
  after_not below = do
    place ← expect (i.Keyword k.Not)
    right ← negation below
    check (negated forms place right)

  -- AND requires filters: the one before it is checked once AND is seen, and the one after it once it has ended
  unfoldable pub one_more_negation : Below → ParsedPart S → Rule (ParsedPart S)
  one_more_negation below left = do
    filter ← check (wanted forms left)
    right ← negation below
    check (joined forms forms.both left.place filter right)

  unfoldable pub conjunction : Below → Rule (ParsedPart S)
  conjunction below = negation below >>= repeat (link (i.Keyword k.And) (one_more_negation below))

  unfoldable pub one_more_conjunction : Below → ParsedPart S → Rule (ParsedPart S)
  one_more_conjunction below left = do
    filter ← check (wanted forms left)
    right ← conjunction below
    check (joined forms forms.either left.place filter right)

  unfoldable pub disjunction : Below → Rule (ParsedPart S)
  disjunction below = conjunction below >>= repeat (link (i.Keyword k.Or) (one_more_conjunction below))

  unfoldable pub in_parentheses : Below → Rule (ParsedPart S)
  in_parentheses below = do
    place ← expect i.Open
    inner ← disjunction below
    closed place inner

  -- what is nested, if this many more levels may nest
  unfoldable pub nested : ℕ → Below
  nested zero inner = refuse_as w.TooDeep
  nested (suc n) AfterNot = after_not (nested n)
  nested (suc n) InParentheses = in_parentheses (nested n)
  nested (suc n) (InList word left) = in_list (nested n) word left

  -- a filter
  unfoldable pub expression : Rule S
  expression = do
    whole ← disjunction (nested 64)
    check (wanted forms whole)
