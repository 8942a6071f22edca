-- The constants of an IN list, by their types.
use Rattle.std.specs.Prelude.{◌≡◌, Bool, false, ◌||◌, List, Option, Some, None, if◌then◌else◌}
use Rattle.std.specs.HashSet.{contains, contains_by}
use Rattle.std.specs.List.{list_any}
use Rattle.std.specs.Ordering.{int_eq}
use Rattle.std.specs.Str.{bytes_eq}
use Rattle.filter_tree.specs.Datum.{Constant, Number, Truth, Bytes}
use Rattle.filter_tree.specs.Expr.{AtomOf, Cmp, IsNull, In, Between, Distinct}
use Rattle.filter_tree.specs.declared.filter.Op.TheVariants.{Eq}
use Rattle.shard_checker.specs.Facts.{compares}
use Rattle.shard_checker.specs.declared.members.Members.{Members}

-- the value is one of the members
abbrev pub has : Members → Option Constant → Bool
has members (Some (Number number)) = contains int_eq members.numbers number
has members (Some (Truth truth)) = if truth then members.has_true else members.has_false
has members (Some (Bytes text)) = contains_by (λ member. bytes_eq text member.now) members.texts
has members None = false

-- the constant is one more member
pub record Adds (old new : Members) (constant : Constant) : Type 0 where
  pub each : (value : Option Constant) → has new value ≡ (has old value || compares Eq value constant)

-- the members are these constants
pub record AreMembers (constants : List Constant) (members : Members) : Type 0 where
  pub each : (value : Option Constant) → has members value ≡ list_any (compares Eq value) constants

-- the members are those of the atom's list, if it has one
abbrev pub AreMembersOf : AtomOf → Members → Type 0
AreMembersOf (Cmp term op constant) members = Unit {0}
AreMembersOf (IsNull column) members = Unit {0}
AreMembersOf (In term constants) members = AreMembers constants members
AreMembersOf (Between term low high) members = Unit {0}
AreMembersOf (Distinct term constant) members = Unit {0}
