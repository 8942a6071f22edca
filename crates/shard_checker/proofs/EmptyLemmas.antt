-- A term is empty exactly if no value, not even null, is left for it.
use Rattle.std.proofs.Common.{◌≡◌, Bool, true, false, not, ◌&&◌, ◌||◌, List, refl}
use Rattle.filter_tree.specs.Datum.{Datum, Missing, Known}
use Rattle.filter_tree.specs.Lists.{column_of}
use Rattle.filter_tree.specs.Paths.{Path}
use Rattle.filter_tree.specs.declared.filter.Term.{Term}
use Rattle.filter_tree.specs.declared.table.Column.{Column}
use Rattle.shard_checker.specs.Domain.{kind_at}
use Rattle.shard_checker.specs.Emptiness.{IsLeft, HasValue, IsEmptiness, EmptinessIsDecidable}
use Rattle.shard_checker.specs.Facts.{is_said_null, is_present}
use Rattle.shard_checker.specs.Candidates.{has_value, is_empty}
use Rattle.shard_checker.proofs.ExistingLemmas.{value_exists}
use Rattle.shard_checker.proofs.Testing.{both_false, clash}
use Rattle.shard_checker.proofs.ValueLemmas.{value_found}
use Rattle.filter_tree.proofs.Tests.{by_test}

not_false : (b : Bool) → not b ≡ false → b ≡ true
not_false true h = refl
not_false false h = absurd cc

-- ---- a term that is not empty has a value

second_false : (p q : Bool) → p ≡ true → (p && q) ≡ false → q ≡ false
second_false true q e h = h
second_false false q e h = absurd cc

pub not_empty_has : (columns : List Column) (term : Term) (path : Path) → is_empty columns term path ≡ false
    → HasValue columns term path
not_empty_has columns term path h = by_test (is_present columns (column_of term) path)
    (λ present. let rest =
    second_false (is_present columns (column_of term) path)
    (is_said_null (column_of term) path || not (has_value (kind_at columns (column_of term)) term path)) present h in
    let both = both_false (is_said_null (column_of term) path)
    (not (has_value (kind_at columns (column_of term)) term path)) rest in
    let some = value_exists (kind_at columns (column_of term)) term path (not_false _ both.1) in
    record {
      value = Known some.value;
      left =
          record { in_domain = some.in_domain; may_be_known = both.0; agrees = some.left };
    })
    (λ absent. record { value = Missing; left = absent })

-- ---- a term that has a value is not empty

first_fails : (p q r : Bool) → p ≡ false → (p && (q || not r)) ≡ false
first_fails true q r h = absurd cc
first_fails false q r h = refl

rest_fails : (p q r : Bool) → q ≡ false → r ≡ true → (p && (q || not r)) ≡ false
rest_fails true q r h k = rw (h, k) refl
rest_fails false q r h k = refl

left_not_empty : (columns : List Column) (term : Term) (path : Path) (value : Datum) → IsLeft columns term path value
    → is_empty columns term path ≡ false
left_not_empty columns term path Missing absent =
    first_fails (is_present columns (column_of term) path) (is_said_null (column_of term) path)
    (has_value (kind_at columns (column_of term)) term path) absent
left_not_empty columns term path (Known constant) left =
    rest_fails (is_present columns (column_of term) path) (is_said_null (column_of term) path)
    (has_value (kind_at columns (column_of term)) term path) left.may_be_known
    (value_found (kind_at columns (column_of term)) term path constant left.in_domain left.agrees)

pub has_not_empty : (columns : List Column) (term : Term) (path : Path) → HasValue columns term path
    → is_empty columns term path ≡ false
has_not_empty columns term path has = left_not_empty columns term path has.value has.left

-- ---- the law

pub decided_by_values : IsEmptiness is_empty
decided_by_values = record {
  empty = λ columns term path. (
    (λ empty has. clash (is_empty columns term path) empty (has_not_empty columns term path has)),
    (λ none. by_test (is_empty columns term path) (λ empty. empty)
        (λ rest. absurd (none (not_empty_has columns term path rest)))),
  );
  others = λ columns term path. (not_empty_has columns term path, has_not_empty columns term path);
}

pub is_decidable : EmptinessIsDecidable
is_decidable = record { test = is_empty; tells = decided_by_values }
