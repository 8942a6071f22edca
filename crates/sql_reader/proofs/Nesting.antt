-- What may be in parentheses or after NOT if this many more levels may nest.
use Rattle.std.proofs.Common.{◌≡◌, ℕ, zero, suc, ◌-◌, ◌≢◌, List, refl, ap, arith}
use Rattle.filter_tree.specs.declared.table.Column.{Column}
use Rattle.sql_reader.specs.declared.membership.MembershipWord.{MembershipWord}
use Rattle.sql_reader.specs.Expressions.{Forms, Nested, AfterNot, InParentheses, InList, nested, after_not, in_parentheses, in_list}
use Rattle.sql_reader.specs.Items.{Items}
use Rattle.sql_reader.specs.Operands.{ParsedPart}
use Rattle.sql_reader.specs.Reading.{refuse_as}
use Rattle.sql_reader.specs.ErrorKinds as w

one_less : (n : ℕ) → n ≡ suc n - 1
one_less n = omega arith

pub nested-deepest : {S : Type 0} (forms : Forms S) (columns : List Column) (n : ℕ) (inner : Nested S) (ts : Items)
    → n ≡ 0 → nested forms columns n inner ts ≡ refuse_as w.TooDeep ts
unfolding nested
nested-deepest forms columns zero inner ts e = refl
nested-deepest forms columns (suc n) inner ts e = cc

pub nested-after_not : {S : Type 0} (forms : Forms S) (columns : List Column) (n : ℕ) (ts : Items) → n ≢ 0
    → nested forms columns n AfterNot ts ≡ after_not forms columns (nested forms columns (n - 1)) ts
unfolding nested
nested-after_not forms columns zero ts h = absurd (h refl)
nested-after_not forms columns (suc n) ts h = ap (λ m. after_not forms columns (nested forms columns m) ts) (one_less n)

pub nested-in_parentheses : {S : Type 0} (forms : Forms S) (columns : List Column) (n : ℕ) (ts : Items) → n ≢ 0
    → nested forms columns n InParentheses ts ≡ in_parentheses forms columns (nested forms columns (n - 1)) ts
unfolding nested
nested-in_parentheses forms columns zero ts h = absurd (h refl)
nested-in_parentheses forms columns (suc n) ts h =
    ap (λ m. in_parentheses forms columns (nested forms columns m) ts) (one_less n)

pub nested-in_list : {S : Type 0} (forms : Forms S) (columns : List Column) (n : ℕ) (word : MembershipWord)
    (left : ParsedPart S) (ts : Items) → n ≢ 0 →
    nested forms columns n (InList word left) ts ≡ in_list forms columns (nested forms columns (n - 1)) word left ts
unfolding nested
nested-in_list forms columns zero word left ts h = absurd (h refl)
nested-in_list forms columns (suc n) word left ts h =
    ap (λ m. in_list forms columns (nested forms columns m) word left ts) (one_less n)

pub ruleset nests = (nested-deepest, nested-after_not, nested-in_parentheses, nested-in_list)
