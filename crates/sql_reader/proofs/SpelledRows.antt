-- The text of a row is read as the row.
use Rattle.std.proofs.Common.{◌≡◌, ◌≢◌, ℕ, zero, suc, ◌+◌, ◌^◌, ◌<◌, true, false, List, [], ◌∷◌, ◌++◌, length, Ok, refl, sym, ap, subst, ◌∙◌, inl, inr, arith, append_assoc, append-nil, length-append, add-zero, get_or}
use Rattle.std.specs.Prelude.{pos, negsuc, codes, All, Contains, None, IfSome, slice_get}
use Rattle.std.specs.Fmt.{decimal, signed_decimal}
use Rattle.std.specs.List.{flat_map}
use Rattle.std.proofs.lemmas.Int.{ints, by_lt_z}
use Rattle.filter_tree.proofs.ValidLemmas.{valid_from_no_fault}
use Rattle.filter_tree.specs.Datum.{Constant, Number, Truth, Bytes, Datum, Missing, Known, value_at}
use Rattle.filter_tree.specs.Range.{least_of}
use Rattle.filter_tree.specs.Valid.{IsOf, Fits, IsValid, row_fault}
use Rattle.filter_tree.specs.declared.table.ColType.{ColType}
use Rattle.filter_tree.specs.declared.table.ColType.TheVariants.{SmallInt, Integer, BigInt, Boolean, Text}
use Rattle.filter_tree.specs.declared.table.Column.{Column}
use Rattle.sql_tokens.specs.declared.kinds.TokenKind.{TokenKind}
use Rattle.sql_tokens.specs.declared.kinds.TokenKind.TheVariants as t
use Rattle.sql_tokens.specs.declared.kinds.Operator.TheVariants.{Minus}
use Rattle.sql_tokens.specs.Doubled.{in_quotes}
use Rattle.sql_tokens.specs.Lexed.{tokens_from}
use Rattle.sql_tokens.proofs.SpelledTokens.{EndsValue, Begins, lexeme, space_passes, open_token, close_token, comma_token, null_token, true_token, false_token, number_token, minus_token, string_token, string_says}
use Rattle.sql_reader.specs.declared.item.Item.TheVariants as i
use Rattle.sql_reader.specs.Items.{Items, Stop, Then, seen_item, items, items_of, size}
use Rattle.sql_reader.specs.Keywords.{keyword_of, early_keyword, late_keyword}
use Rattle.sql_reader.specs.Numbers.{number, placed_number, signed_number}
use Rattle.sql_reader.specs.PlainRows.{ReadsValue}
use Rattle.sql_reader.specs.Reading.{look, is_ahead, next_is, expect, rest_of}
use Rattle.sql_reader.specs.Rows.{cast_or_none, string_value, number_value, value, one_value, values, end, row_in_parentheses, row, row_of}
use Rattle.sql_reader.specs.Repetitions.{link, repeat}
use Rattle.sql_reader.specs.WrittenRows.{value_text, row_text, IsReadable, IsReadableRow, least}
use Rattle.sql_reader.proofs.RepetitionLemmas.{link-goes_on, link-ends}

-- the tokens of bytes that are at a place of the text
abbrev pub ahead : ℕ → List ℕ → Items
ahead place text = items (tokens_from place 0 text)

token_ahead : (kind : TokenKind) (place : ℕ) (text rest : List ℕ) → Begins kind place text rest
    → ahead place (text ++ rest) ≡ Then (seen_item (lexeme kind place text)) (ahead (place + length text) rest)
unfolding items
token_ahead kind place text rest begins = ap items begins

pub comma_ahead : (place : ℕ) (rest : List ℕ)
    → ahead place (44 ∷ rest) ≡ Then (seen_item (lexeme t.Comma place (44 ∷ []))) (ahead (place + 1) rest)
comma_ahead place rest = token_ahead t.Comma place (44 ∷ []) rest (comma_token place rest)

close_ahead : (place : ℕ) (rest : List ℕ)
    → ahead place (41 ∷ rest) ≡ Then (seen_item (lexeme t.Close place (41 ∷ []))) (ahead (place + 1) rest)
close_ahead place rest = token_ahead t.Close place (41 ∷ []) rest (close_token place rest)

-- ---- a value

pub null_again : (place next : ℕ) (rest : List ℕ) → EndsValue next
    → ReadsValue Missing (ahead place (codes "NULL" ++ (next ∷ rest))) (ahead (place + 4) (next ∷ rest))
unfolding value keyword_of early_keyword late_keyword
null_again place next rest ends =
    rw (token_ahead t.Word place (codes "NULL") (next ∷ rest) (null_token place next rest ends))
    (record { reads = refl; fewer = omega arith })

pub true_again : (place next : ℕ) (rest : List ℕ) → EndsValue next
    → ReadsValue (Known (Truth true)) (ahead place (codes "TRUE" ++ (next ∷ rest))) (ahead (place + 4) (next ∷ rest))
unfolding value keyword_of early_keyword late_keyword
true_again place next rest ends =
    rw (token_ahead t.Word place (codes "TRUE") (next ∷ rest) (true_token place next rest ends))
    (record { reads = refl; fewer = omega arith })

pub false_again : (place next : ℕ) (rest : List ℕ) → EndsValue next
    → ReadsValue (Known (Truth false)) (ahead place (codes "FALSE" ++ (next ∷ rest)))
    (ahead (place + 5) (next ∷ rest))
unfolding value keyword_of early_keyword late_keyword
false_again place next rest ends =
    rw (token_ahead t.Word place (codes "FALSE") (next ∷ rest) (false_token place next rest ends))
    (record { reads = refl; fewer = omega arith })

positive_again : (n place next : ℕ) (rest : List ℕ) → n < 2 ^ 63 → EndsValue next
    → ReadsValue (Known (Number (pos n))) (ahead place (decimal n ++ (next ∷ rest)))
    (ahead (place + length (decimal n)) (next ∷ rest))
unfolding value number_value signed_number placed_number number is_ahead
positive_again n place next rest small ends =
    rw (token_ahead (t.Number n) place (decimal n) (next ∷ rest) (number_token place n next rest small ends))
    (record { reads = refl; fewer = omega arith })

negative_again : (k place next : ℕ) (rest : List ℕ) → suc k < 2 ^ 63 → EndsValue next
    → ReadsValue (Known (Number (negsuc k))) (ahead place (45 ∷ (decimal (suc k) ++ (next ∷ rest))))
    (ahead (place + 1 + length (decimal (suc k))) (next ∷ rest))
unfolding value number_value signed_number placed_number number is_ahead
negative_again k place next rest small ends =
    rw (
      token_ahead (t.Operator Minus) place (45 ∷ []) (decimal (suc k) ++ (next ∷ rest))
          (minus_token place (suc k) (next ∷ rest) small),
      token_ahead (t.Number (suc k)) (place + 1) (decimal (suc k)) (next ∷ rest)
          (number_token (place + 1) (suc k) next rest small ends),
    ) (record { reads = refl; fewer = omega arith })

no_cast : (place next : ℕ) (rest : List ℕ) → EndsValue next
    → cast_or_none (ahead place (next ∷ rest)) ≡ Ok (tt, ahead place (next ∷ rest))
unfolding cast_or_none next_is look is_ahead
no_cast place next rest ends =
    elim ends [ inl e ↦ rw (e, comma_ahead place rest) refl | inr e ↦ rw (e, close_ahead place rest) refl ]

pub string_again : (text : List ℕ) (place next : ℕ) (rest : List ℕ) → IsReadable (Known (Bytes text)) → EndsValue next
    → ReadsValue (Known (Bytes text)) (ahead place (in_quotes 39 text ++ (next ∷ rest)))
    (ahead (place + length (in_quotes 39 text)) (next ∷ rest))
unfolding value string_value
string_again text place next rest is ends =
    rw (token_ahead t.Text place (in_quotes 39 text) (next ∷ rest)
    (string_token place text next rest is.no_zero is.short ends))
    (record {
      reads = rw (no_cast (place + length (in_quotes 39 text)) next rest ends, string_says text) refl;
      fewer =
          omega arith;
    })

-- what follows a value begins like this
record EndsText (text : List ℕ) : Type 0 where
  next : ℕ
  rest : List ℕ
  ends : EndsValue next
  is : text ≡ next ∷ rest

value_next : (cell : Datum) (place next : ℕ) (rest : List ℕ) → IsReadable cell → EndsValue next
    → ReadsValue cell (ahead place (value_text cell ++ (next ∷ rest)))
    (ahead (place + length (value_text cell)) (next ∷ rest))
value_next Missing place next rest is ends = null_again place next rest ends
value_next (Known (Truth true)) place next rest is ends = true_again place next rest ends
value_next (Known (Truth false)) place next rest is ends = false_again place next rest ends
value_next (Known (Number (pos n))) place next rest is ends =
    positive_again n place next rest (omega (arith, ints, is.1)) ends
value_next (Known (Number (negsuc k))) place next rest is ends =
    let there : place + 1 + length (decimal (suc k)) ≡ place + length (signed_decimal (negsuc k)) = omega arith in
    subst (λ p. ReadsValue (Known (Number (negsuc k))) (ahead place (signed_decimal (negsuc k) ++ (next ∷ rest)))
    (ahead p (next ∷ rest))) there
    (negative_again k place next rest (omega (arith, ints, is.0)) ends)
value_next (Known (Bytes text)) place next rest is ends = string_again text place next rest is ends

value_again : (cell : Datum) (place : ℕ) (following : List ℕ) → IsReadable cell → EndsText following
    → ReadsValue cell (ahead place (value_text cell ++ following)) (ahead (place + length (value_text cell)) following)
value_again cell place following is ends =
    subst (λ text. ReadsValue cell (ahead place (value_text cell ++ text))
    (ahead (place + length (value_text cell)) text)) (sym ends.is)
    (value_next cell place ends.next ends.rest is ends.ends)

-- ---- the values of a row

abbrev other_text : Datum → List ℕ
other_text cell = codes ", " ++ value_text cell

-- the values after the first, up to the end of the text
abbrev others_text : List Datum → List ℕ
others_text cells = flat_map other_text cells ++ (41 ∷ [])

others_end : (cells : List Datum) → EndsText (others_text cells)
others_end [] = record { next = 41; rest = []; ends = inr refl; is = refl }
others_end (cell ∷ cells) =
    record {
      next = 44;
      rest = 32 ∷ ((value_text cell ++ flat_map other_text cells) ++ (41 ∷ []));
      ends =
          inl refl;
      is = refl;
    }

-- the tokens of the closing parenthesis at a place, up to the end of the text
abbrev pub closing : ℕ → Items
closing place = ahead place (41 ∷ [])

pub one_more : (read : List Datum) (cell : Datum) (ts after : Items) → ReadsValue cell ts after
    → one_value read ts ≡ Ok (read ++ (cell ∷ []), after)
unfolding one_value
one_more read cell ts after takes = rw takes.reads refl

pub comma_next : (place : ℕ) (rest : List ℕ)
    → next_is i.Comma (ahead place (44 ∷ rest)) ≡ Ok (true, ahead place (44 ∷ rest))
unfolding next_is look is_ahead
comma_next place rest = rw (comma_ahead place rest) refl

pub close_next : (place : ℕ) → next_is i.Comma (closing place) ≡ Ok (false, closing place)
unfolding next_is look is_ahead
close_next place = rw (close_ahead place []) refl

step : (read : List Datum) (cell : Datum) (place : ℕ) (following : List ℕ) → IsReadable cell → EndsText following
    → repeat (link i.Comma one_value) read (ahead place (other_text cell ++ following))
    ≡ repeat (link i.Comma one_value) (read ++ (cell ∷ [])) (ahead (place + length (other_text cell)) following)
step read cell place following is ends =
    let text = value_text cell ++ following in
    let start = place + 1 + 1 in
    let takes = value_again cell start following is ends in
    let tokens : ahead place (44 ∷ 32 ∷ text) ≡ Then (seen_item (lexeme t.Comma place (44 ∷ []))) (ahead start text) =
    comma_ahead place (32 ∷ text)
    ∙ ap (λ tokens. Then (seen_item (lexeme t.Comma place (44 ∷ []))) (items tokens)) (space_passes (place + 1) text)
    in
    let read_next = ap (one_value read) (ap rest_of tokens)
    ∙ one_more read cell (ahead start text) (ahead (start + length (value_text cell)) following) takes in
    let fewer : size (ahead (start + length (value_text cell)) following) < size (ahead place (44 ∷ 32 ∷ text)) =
    omega (arith, takes.fewer, ap size tokens) in
    let there : start + length (value_text cell) ≡ place + length (other_text cell) = omega arith in
    link-goes_on i.Comma one_value read (ahead place (44 ∷ 32 ∷ text)) (read ++ (cell ∷ []))
    (ahead (start + length (value_text cell)) following) (comma_next place (32 ∷ text)) read_next fewer
    ∙ ap (λ p. repeat (link i.Comma one_value) (read ++ (cell ∷ [])) (ahead p following)) there

others_again : (cells read : List Datum) (place : ℕ) → All IsReadable cells
    → repeat (link i.Comma one_value) read (ahead place (others_text cells))
    ≡ Ok (read ++ cells, closing (place + length (flat_map other_text cells)))
others_again [] read place each =
    link-ends i.Comma one_value read (closing place) (close_next place) ∙ rw (append-nil read, add-zero) refl
others_again (cell ∷ cells) read place each =
    let here = place + length (other_text cell) in
    let there : here + length (flat_map other_text cells) ≡ place + length (flat_map other_text (cell ∷ cells)) =
    omega (arith, length-append (other_text cell) (flat_map other_text cells)) in
    ap (λ text. repeat (link i.Comma one_value) read (ahead place text))
    (append_assoc (other_text cell) (flat_map other_text cells) (41 ∷ []))
    ∙ step read cell place (others_text cells) (each 0 cell (omega arith)) (others_end cells)
    ∙ others_again cells (read ++ (cell ∷ [])) here (λ k d below. each (suc k) d (omega arith))
    ∙ rw (append_assoc, there) refl

-- ---- the whole row

values_again : (cell : Datum) (cells : List Datum) (place : ℕ) → IsReadable cell → All IsReadable cells
    → values (ahead place (value_text cell ++ others_text cells))
    ≡ Ok (cell ∷ cells, closing (place + length (value_text cell) + length (flat_map other_text cells)))
unfolding values
values_again cell cells place first each =
    let one = one_more [] cell _ _ (value_again cell place (others_text cells) first (others_end cells)) in
    rw one (others_again cells (cell ∷ []) (place + length (value_text cell)) each)

open_ahead : (rest : List ℕ) → ahead 0 (40 ∷ rest) ≡ Then (seen_item (lexeme t.Open 0 (40 ∷ []))) (ahead 1 rest)
open_ahead rest = token_ahead t.Open 0 (40 ∷ []) rest (open_token 0 rest)

nothing_ahead : (place : ℕ) → ahead place [] ≡ Stop place
unfolding tokens_from items
nothing_ahead place = refl

pub between_parentheses : (text : List ℕ) (cells : List Datum) (place : ℕ)
    → values (ahead 1 text) ≡ Ok (cells, closing place) → row_of (40 ∷ text) ≡ Ok cells
unfolding row_of row row_in_parentheses items_of expect end is_ahead
between_parentheses text cells place e = rw (open_ahead text, e, close_ahead place [], nothing_ahead (place + 1)) refl

row_again : (row : List Datum) → IsReadableRow row → row_of (row_text row) ≡ Ok row
row_again [] is = absurd (is.some refl)
row_again (cell ∷ cells) is =
    let place = 1 + length (value_text cell) + length (flat_map other_text cells) in
    ap (λ text. row_of (40 ∷ text)) (append_assoc (value_text cell) (flat_map other_text cells) (41 ∷ []))
    ∙ between_parentheses (value_text cell ++ others_text cells) (cell ∷ cells) place
    (values_again cell cells 1 (is.each 0 cell (omega arith)) (λ k d below. is.each (suc k) d (omega arith)))

pub is_read_again : (text : List ℕ) (row : List Datum) → text ≡ row_text row → IsReadableRow row → row_of text ≡ Ok row
is_read_again text row e is = ap row_of e ∙ row_again row is

-- ---- rows that fit a table

constant_readable : (kind : ColType) (constant : Constant) → IsOf kind constant → Known constant ≢ least
    → IsReadable (Known constant)
constant_readable kind (Truth truth) is other = tt
constant_readable Text (Bytes text) is other = is.1
constant_readable SmallInt (Number n) is other =
    (omega (arith, ints, is.above_least), omega (arith, ints, is.below_greatest))
constant_readable Integer (Number n) is other =
    (omega (arith, ints, is.above_least), omega (arith, ints, is.below_greatest))
constant_readable BigInt (Number n) is other =
    by_lt_z (least_of BigInt) n (λ above. (above, is.below_greatest))
    (λ below. let same : n ≡ least_of BigInt = omega (arith, ints, is.above_least) in
    absurd (other (ap (λ n. Known (Number n)) same)))
constant_readable Boolean (Number n) is other = absurd is
constant_readable Text (Number n) is other = absurd is
constant_readable SmallInt (Bytes text) is other = absurd is
constant_readable Integer (Bytes text) is other = absurd is
constant_readable BigInt (Bytes text) is other = absurd is
constant_readable Boolean (Bytes text) is other = absurd is

value_readable : (column : Column) (cell : Datum) → Fits column cell → cell ≢ least → IsReadable cell
value_readable column Missing fits other = tt
value_readable column (Known constant) fits other = constant_readable column.kind constant fits other

-- the value of a column of the row; the default past the row's end does not matter
value_at_is : (row : List Datum) (k : ℕ) (d : Datum) → k < length row → value_at row k ≡ get_or row k d
value_at_is [] k d below = absurd (omega arith)
value_at_is (cell ∷ row) zero d below = refl
value_at_is (cell ∷ row) (suc k) d below = value_at_is row k d (omega arith)

column_at : (columns : List Column) (k : ℕ) (P : Column → Type 0) → k < length columns
    → IfSome (slice_get columns k) P → (column : Column) × P column
column_at [] k P below h = absurd (omega arith)
column_at (column ∷ columns) zero P below h = (column, h)
column_at (column ∷ columns) (suc k) P below h = column_at columns k P (omega arith) h

valid_readable : (columns : List Column) (row : List Datum) → IsValid columns row → row ≢ [] → ¬ Contains row least
    → IsReadableRow row
valid_readable columns row is some no_least = record {
  some = some;
  each = λ k d below.
      let found = column_at columns k (λ column. Fits column (value_at row k)) (omega (arith, is.wide)) (is.fits k) in
      let other : value_at row k ≢ least = λ e. no_least (k, below, sym (value_at_is row k least below) ∙ e) in
      subst IsReadable (value_at_is row k d below) (value_readable found.0 (value_at row k) found.1 other);
}

pub valid_is_read_again : (text : List ℕ) (row : List Datum) (columns : List Column) → text ≡ row_text row
    → row_fault columns row ≡ None → row ≢ [] → ¬ Contains row least → row_of text ≡ Ok row
valid_is_read_again text row columns e fits some no_least =
    is_read_again text row e (valid_readable columns row (valid_from_no_fault columns row fits) some no_least)
