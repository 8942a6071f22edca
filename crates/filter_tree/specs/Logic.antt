-- SQL's three truth values and their connectives: the truth tables of "9.1 Logical Operators" and the boolean tests
-- of "9.2 Comparison Functions and Operators".
use Rattle.std.specs.Prelude.{Bool, true, false}
use Rattle.filter_tree.specs.declared.tri.Tri.{Tri}
use Rattle.filter_tree.specs.declared.tri.Tri.TheVariants.{True, False, Null}
use Rattle.filter_tree.specs.declared.filter.Test.{Test}
use Rattle.filter_tree.specs.declared.filter.Test.TheVariants.{True as AskTrue, False as AskFalse, Unknown as AskUnknown}

-- false if a side is false, else null if a side is null, else true
abbrev pub and_of : Tri → Tri → Tri
and_of False q = False
and_of p False = False
and_of Null q = Null
and_of p Null = Null
and_of True True = True

-- true if a side is true, else null if a side is null, else false
abbrev pub or_of : Tri → Tri → Tri
or_of True q = True
or_of p True = True
or_of Null q = Null
or_of p Null = Null
or_of False False = False

-- true and false swapped; null stays null
abbrev pub not_of : Tri → Tri
not_of True = False
not_of False = True
not_of Null = Null

-- `IS TRUE`, `IS FALSE`, `IS UNKNOWN`: whether it is that truth value, never null
abbrev pub is_of : Test → Tri → Tri
is_of AskTrue True = True
is_of AskFalse False = True
is_of AskUnknown Null = True
is_of _ _ = False

-- a test whose result is known
abbrev pub tri_of : Bool → Tri
tri_of true = True
tri_of false = False
