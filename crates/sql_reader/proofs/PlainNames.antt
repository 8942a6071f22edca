-- A name that is read has 1 to 63 bytes of UTF-8, none of which is zero, and so do the names of columns.
use Rattle.std.proofs.Common.{◌≡◌, ℕ, zero, suc, Bool, true, false, ◌||◌, List, [], ◌∷◌, All, refl}
use Rattle.std.specs.Prelude.{if◌then◌else◌, Option, Some, None, Ok, Err}
use Rattle.std.proofs.lemmas.List.Elements.{All-nil, All-cons, All-head, All-tail, All-push}
use Rattle.std.proofs.lemmas.Str.{IsUtf8-had}
use Rattle.filter_tree.specs.declared.table.ColType.{ColType}
use Rattle.filter_tree.specs.declared.table.Column.{Column}
use Rattle.sql_tokens.specs.declared.kinds.TokenKind.{TokenKind}
use Rattle.sql_tokens.specs.declared.kinds.TokenKind.TheVariants as t
use Rattle.sql_tokens.specs.Left.{text_of, left}
use Rattle.sql_tokens.specs.Lexed.{Lexed, End, Bad, Then as After}
use Rattle.sql_tokens.specs.PlainNames.{IsPlainName, IsPlainToken, AreTokensPlain}
use Rattle.sql_tokens.proofs.PlainNames.{are_plain}
use Rattle.sql_reader.specs.declared.column_rule.Constraints.{Constraints}
use Rattle.sql_reader.specs.declared.item.Item.{Item}
use Rattle.sql_reader.specs.declared.item.Item.TheVariants as i
use Rattle.sql_reader.specs.declared.name.PlacedName.{PlacedName}
use Rattle.sql_reader.specs.declared.reader.Ahead.{Ahead}
use Rattle.sql_reader.specs.declared.reader.Ahead.TheVariants as a
use Rattle.sql_reader.specs.declared.reader.Reader.{Reader}
use Rattle.sql_reader.specs.declared.word.Keyword.{Keyword}
use Rattle.sql_reader.specs.declared.word.Keyword.TheVariants as k
use Rattle.sql_reader.specs.Items.{ahead_of, to_read, Items, Stop, Broken, Then, SeenItem, word_or_keyword, is_name, item_of, within_quotes, items}
use Rattle.sql_reader.specs.Columns.{Parts, no_parts, new_column, required, type_taken, column_type, given_by, constraint_by, constraint, constraint_ahead, no_constraints, constraints, has_key, column_element, once_in_key, key_column, key_columns, first_key, key_element, element_by, element, elements}
use Rattle.sql_reader.specs.Expressions.{known_column}
use Rattle.sql_reader.specs.Keywords.{keyword_of}
use Rattle.sql_reader.specs.Names.{name_ahead, name_meant, name}
use Rattle.sql_reader.specs.Reading.{Fault, Outcome, Rule, and_then, Verdict, with_rest, look, next_is, expect, item_ahead, is_ahead, rest_of, refuse}
use Rattle.sql_reader.proofs.Leaving.{Leaves, then-leaves, chosen-leaves, links-leave, each-leave}

-- ---- tokens

-- a token that may be a name means a plain name
abbrev IsPlainItem : SeenItem → Type 0
IsPlainItem token = is_name token.item ≡ true → IsPlainName (name_meant (Some token.item) token.written)

abbrev pub ArePlain : Items → Type 0
ArePlain (Stop place) = Unit {0}
ArePlain (Broken place kind) = Unit {0}
ArePlain (Then token rest) = IsPlainItem token × ArePlain rest

word_plain : (found : Option Keyword) (text : List ℕ) → IsPlainToken t.Word text
    → is_name (word_or_keyword found) ≡ true → IsPlainName (name_meant (Some (word_or_keyword found)) text)
word_plain None text h e = h
word_plain (Some keyword) text h e = h

item_plain : (kind : TokenKind) (text : List ℕ) → IsPlainToken kind text → is_name (item_of kind text) ≡ true
    → IsPlainName (name_meant (Some (item_of kind text)) (within_quotes kind text))
item_plain t.Word text h e = word_plain (keyword_of text) text h e
item_plain t.QuotedName text h e = h
item_plain (t.Number number) text h e = absurd cc
item_plain t.Text text h e = absurd cc
item_plain (t.Operator operator) text h e = absurd cc
item_plain t.Open text h e = absurd cc
item_plain t.Close text h e = absurd cc
item_plain t.Comma text h e = absurd cc
item_plain t.Semicolon text h e = absurd cc
item_plain t.Dot text h e = absurd cc
item_plain t.DoubleColon text h e = absurd cc

items_plain : (lexed : Lexed) → AreTokensPlain lexed → ArePlain (items lexed)
unfolding items
items_plain (End place) h = tt
items_plain (Bad place fault) h = tt
items_plain (After lexeme rest) h = (item_plain lexeme.kind lexeme.text h.0, items_plain rest h.1)

pub rest_plain : (ts : Items) → ArePlain ts → ArePlain (rest_of ts)
rest_plain (Stop place) h = tt
rest_plain (Broken place kind) h = tt
rest_plain (Then token rest) h = h.1

ahead_plain : (ahead : Ahead) (place : ℕ) (written : List ℕ) (rest : Items) → ArePlain rest
    → ArePlain (rest_of (ahead_of ahead place written rest))
ahead_plain a.End place written rest h = tt
ahead_plain (a.Fault kind) place written rest h = tt
ahead_plain (a.Item item) place written rest h = h

-- what a reader still has to read after the token ahead
pub reader_plain : (r : Reader) → ArePlain (rest_of (to_read r))
unfolding to_read
reader_plain r = ahead_plain r.ahead r.place r.written.now (items (left r.tokens))
    (items_plain (left r.tokens)
    (are_plain (text_of r.tokens) r.tokens.place (IsUtf8-had (text_of r.tokens) r.tokens.utf8)))

-- ---- rules

-- whatever was read, plain tokens are left
abbrev pub Any : {A : Type 0} → A → Items → Type 0
Any a ts = ArePlain ts

pub any-plain : {A B : Type 0} (P : B → Items → Type 0) (read : Outcome A) (more : A → Rule B) → Leaves Any read
    → ((a : A) (ts : Items) → ArePlain ts → Leaves P (more a ts))
    → Leaves P (and_then read more)
any-plain P read more h next = then-leaves Any P read more h next

pub check-plain : {A : Type 0} (verdict : Verdict A) (ts : Items) → ArePlain ts → Leaves Any (with_rest verdict ts)
check-plain (Ok a) ts h = h
check-plain (Err fault) ts h = tt

pub expect-plain : (item : Item) (ts : Items) → ArePlain (rest_of ts) → Leaves Any (expect item ts)
unfolding expect
expect-plain item ts h = chosen-leaves Any (is_ahead item ts) _ _ h tt

pub look-plain : (ts : Items) → ArePlain ts → Leaves Any (look ts)
unfolding look
look-plain (Stop place) h = tt
look-plain (Broken place kind) h = tt
look-plain (Then token rest) h = h

next_is-plain : (item : Item) (ts : Items) → ArePlain ts → Leaves (λ is ts2. ArePlain (rest_of ts2)) (next_is item ts)
unfolding next_is
next_is-plain item ts h =
    then-leaves Any (λ is ts2. ArePlain (rest_of ts2)) (look ts) _ (look-plain ts h) (λ u ts2 p. rest_plain ts2 p)

-- a plain name, and plain tokens are left
abbrev pub NamesPlain : PlacedName → Items → Type 0
NamesPlain called ts = IsPlainName called.text × ArePlain ts

name_if : (item : Item) (written : List ℕ) (is : Bool) → is_name item ≡ is
    → (is_name item ≡ true → IsPlainName (name_meant (Some item) written)) → (place : ℕ) (rest : Items)
    → ArePlain rest → (fault : Fault)
    → Leaves NamesPlain (if is then
    Ok (record { place = place; text = name_meant (Some item) written }, rest) else Err fault)
name_if item written true e h place rest p fault = (h e, p)
name_if item written false e h place rest p fault = tt

pub name-plain : (ts : Items) → ArePlain ts → Leaves NamesPlain (name ts)
unfolding name name_ahead
name-plain (Stop place) h = tt
name-plain (Broken place kind) h = tt
name-plain (Then token rest) h = name_if token.item token.written (is_name token.item) refl h.0 token.place rest h.1 _

-- ---- columns

abbrev pub HasPlainName : Column → Type 0
HasPlainName column = IsPlainName column.name

-- the columns that were read have plain names, and plain tokens are left
abbrev pub ColumnsPlain : Parts → Items → Type 0
ColumnsPlain parts ts = All HasPlainName parts.columns × ArePlain ts

type_plain : (found : Option ColType) (ts : Items) → ArePlain ts → Leaves Any (type_taken found ts)
type_plain (Some kind) ts h = rest_plain ts h
type_plain None ts h = tt

column_type-plain : (ts : Items) → ArePlain ts → Leaves Any (column_type ts)
unfolding column_type
column_type-plain ts h = chosen-leaves Any (name_ahead ts) _ _ (type_plain _ ts h) tt

given-plain : (second : Keyword) (given : Constraints) (ts : Items) → ArePlain ts
    → Leaves Any (given_by second given ts)
unfolding given_by
given-plain second given ts h =
    any-plain Any (expect (i.Keyword second) (rest_of ts)) _
    (expect-plain (i.Keyword second) (rest_of ts) (rest_plain (rest_of ts) (rest_plain ts h))) (λ place ts2 p. p)

chosen_rule : {A : Type 0} (P : A → Items → Type 0) (b : Bool) (one other : Rule A) (ts : Items) → Leaves P (one ts)
    → Leaves P (other ts) → Leaves P ((if b then one else other) ts)
chosen_rule P true one other ts h k = h
chosen_rule P false one other ts h k = k

constraint_by-plain : (keyed : Bool) (given : Constraints) (item : Option Item) (ts : Items) → ArePlain ts
    → Leaves Any (constraint_by keyed given item ts)
constraint_by-plain keyed given (Some (i.Keyword k.Not)) ts h =
    chosen_rule Any given.not_null refuse (given_by k.Null (record given { not_null = true })) ts tt
    (given-plain k.Null (record given { not_null = true }) ts h)
constraint_by-plain keyed given (Some (i.Keyword k.Primary)) ts h =
    chosen_rule Any (keyed || given.key) refuse (given_by k.Key (record given { key = true })) ts tt
    (given-plain k.Key (record given { key = true }) ts h)
constraint_by-plain keyed given _ ts h = tt

constraint-plain : (keyed : Bool) (given : Constraints) (ts : Items) → ArePlain ts
    → Leaves Any (constraint keyed given ts)
unfolding constraint
constraint-plain keyed given ts h = constraint_by-plain keyed given (item_ahead ts) ts h

constraints-plain : (keyed : Bool) (ts : Items) → ArePlain ts → Leaves Any (constraints keyed ts)
unfolding constraints
constraints-plain keyed ts h =
    each-leave Any (constraint keyed) (constraint-plain keyed) constraint_ahead no_constraints ts h

column_element-plain : (parts : Parts) (ts : Items) → ColumnsPlain parts ts
    → Leaves ColumnsPlain (column_element parts ts)
unfolding column_element
column_element-plain parts ts h =
    then-leaves NamesPlain ColumnsPlain (name ts) _ (name-plain ts h.1) (λ called ts2 named.
    any-plain ColumnsPlain (with_rest (new_column parts called) ts2) _
    (check-plain (new_column parts called) ts2 named.1) (λ n ts3 p.
    any-plain ColumnsPlain (column_type ts3) _ (column_type-plain ts3 p) (λ kind ts4 q.
    any-plain ColumnsPlain (constraints (has_key parts) ts4) _ (constraints-plain (has_key parts) ts4 q) (λ given ts5 r.
    (All-push HasPlainName parts.columns _ h.0 named.0, r)))))

required-plain : (columns : List Column) (number : ℕ) → All HasPlainName columns
    → All HasPlainName (required columns number)
required-plain [] number h = h
required-plain (column ∷ columns) zero h =
    All-cons HasPlainName (record column { not_null = true }) columns (All-head HasPlainName column columns h)
    (All-tail HasPlainName column columns h)
required-plain (column ∷ columns) (suc number) h =
    All-cons HasPlainName column (required columns number) (All-head HasPlainName column columns h)
    (required-plain columns number (All-tail HasPlainName column columns h))

key_column-plain : (parts : Parts) (ts : Items) → ColumnsPlain parts ts → Leaves ColumnsPlain (key_column parts ts)
unfolding key_column
key_column-plain parts ts h =
    then-leaves NamesPlain ColumnsPlain (name ts) _ (name-plain ts h.1) (λ called ts2 named.
    any-plain ColumnsPlain (with_rest (known_column parts.columns called) ts2) _
    (check-plain (known_column parts.columns called) ts2 named.1) (λ column ts3 p.
    any-plain ColumnsPlain (with_rest (once_in_key parts called column) ts3) _
    (check-plain (once_in_key parts called column) ts3 p) (λ n ts4 q.
    (required-plain parts.columns column.number h.0, q))))

after_comma : (parts : Parts) (ts : Items) → ColumnsPlain parts ts
    → Leaves (λ is ts2. ColumnsPlain parts (rest_of ts2)) (next_is i.Comma ts)
after_comma parts ts h =
    let kept : (is : Outcome Bool) → Leaves (λ more ts2. ArePlain (rest_of ts2)) is
    → Leaves (λ more ts2. ColumnsPlain parts (rest_of ts2)) is = λ is. with_columns is in
    kept (next_is i.Comma ts) (next_is-plain i.Comma ts h.1)
  where
    with_columns : (is : Outcome Bool) → Leaves (λ more ts2. ArePlain (rest_of ts2)) is
        → Leaves (λ more ts2. ColumnsPlain parts (rest_of ts2)) is
    with_columns (Ok read) p = (h.0, p)
    with_columns (Err fault) p = tt

key_columns-plain : (parts : Parts) (ts : Items) → ColumnsPlain parts ts → Leaves ColumnsPlain (key_columns parts ts)
unfolding key_columns
key_columns-plain parts ts h =
    then-leaves ColumnsPlain ColumnsPlain (key_column parts ts) _ (key_column-plain parts ts h) (λ keyed ts2 p.
    links-leave ColumnsPlain key_column key_column-plain i.Comma after_comma keyed ts2 p)

first_key-plain : (parts : Parts) (ts : Items) → ColumnsPlain parts ts → Leaves ColumnsPlain (first_key parts ts)
unfolding first_key
first_key-plain parts ts h =
    any-plain ColumnsPlain (expect (i.Keyword k.Primary) ts) _
    (expect-plain (i.Keyword k.Primary) ts (rest_plain ts h.1)) (λ a ts2 p.
    any-plain ColumnsPlain (expect (i.Keyword k.Key) ts2) _ (expect-plain (i.Keyword k.Key) ts2 (rest_plain ts2 p))
    (λ b ts3 q.
    any-plain ColumnsPlain (expect i.Open ts3) _ (expect-plain i.Open ts3 (rest_plain ts3 q)) (λ c ts4 r.
    then-leaves ColumnsPlain ColumnsPlain (key_columns parts ts4) _ (key_columns-plain parts ts4 (h.0, r))
    (λ keyed ts5 s.
    any-plain ColumnsPlain (expect i.Close ts5) _ (expect-plain i.Close ts5 (rest_plain ts5 s.1))
    (λ d ts6 u. (s.0, u))))))

key_element-plain : (parts : Parts) (ts : Items) → ColumnsPlain parts ts → Leaves ColumnsPlain (key_element parts ts)
unfolding key_element
key_element-plain parts ts h =
    chosen_rule ColumnsPlain (has_key parts) refuse (first_key parts) ts tt (first_key-plain parts ts h)

element_by-plain : (item : Option Item) (parts : Parts) (ts : Items) → ColumnsPlain parts ts
    → Leaves ColumnsPlain (element_by item parts ts)
element_by-plain (Some (i.Keyword k.Primary)) parts ts h = key_element-plain parts ts h
element_by-plain (Some (i.Keyword k.Check)) parts ts h = tt
element_by-plain (Some (i.Keyword k.Unique)) parts ts h = tt
element_by-plain (Some (i.Keyword k.Foreign)) parts ts h = tt
element_by-plain (Some (i.Keyword k.Constraint)) parts ts h = tt
element_by-plain _ parts ts h = column_element-plain parts ts h

element-plain : (parts : Parts) (ts : Items) → ColumnsPlain parts ts → Leaves ColumnsPlain (element parts ts)
unfolding element
element-plain parts ts h = element_by-plain (item_ahead ts) parts ts h

pub elements-plain : (ts : Items) → ArePlain ts → Leaves ColumnsPlain (elements ts)
unfolding elements
elements-plain ts h =
    then-leaves ColumnsPlain ColumnsPlain (element no_parts ts) _
    (element-plain no_parts ts (All-nil HasPlainName, h)) (λ parts ts2 p.
    links-leave ColumnsPlain element element-plain i.Comma after_comma parts ts2 p)
