-- The position of a value among sorted values: its kind, and the result of a binary search in the order of values
-- (PostgreSQL 15, 7.5 Sorting Rows).
use Rattle.std.specs.Prelude.{◌≡◌, List}
use Rattle.std.specs.List.Sorted.{IsBinarySearchResult}
use Rattle.std.specs.Ordering.{on}
use Rattle.std.specs.declared.cmp.Ordering.{Ordering}
use Rattle.filter_tree.specs.Datum.{Number, Truth, Bytes, Datum, Missing, Known}
use Rattle.filter_tree.specs.Order.{datum_cmp}
use Rattle.filter_tree.specs.Values.{datum_view}
use Rattle.filter_tree.specs.declared.value.Value.{Value}
use Rattle.filter_memo.specs.declared.bucket.Kind.{Kind}
use Rattle.filter_memo.specs.declared.bucket.Kind.TheVariants.{Null, Int, Bool, Text}
use Rattle.filter_memo.specs.declared.bucket.Bucket.{Bucket}

abbrev pub value_cmp : {A : _} → Value A → Value A → Ordering
value_cmp = on (λ value. datum_view value) datum_cmp

abbrev pub kind_of : Datum → Kind
kind_of Missing = Null
kind_of (Known (Number number)) = Int
kind_of (Known (Truth truth)) = Bool
kind_of (Known (Bytes bytes)) = Text

pub record IsBucket {A : _} (bounds : List (Value A)) (datum : Datum) (bucket : Bucket) : Type 0 where
  pub kind : bucket.kind ≡ kind_of datum
  pub found : IsBinarySearchResult (λ bound. datum_cmp (datum_view bound) datum) bounds bucket.found
