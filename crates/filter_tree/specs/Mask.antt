-- Sets of SQL's truth values, and the connectives on them member by member: what a connective may give when each side
-- may be any member of its set.
use Rattle.std.specs.Prelude.{Bool, true, false, ◌&&◌, List, [], ◌∷◌}
use Rattle.std.specs.List.{list_any}
use Rattle.filter_tree.specs.declared.mask.Mask.{Mask}
use Rattle.filter_tree.specs.declared.tri.Tri.{Tri}
use Rattle.filter_tree.specs.declared.tri.Tri.TheVariants.{True, False, Null}

abbrev pub same_tri : Tri → Tri → Bool
same_tri True True = true
same_tri False False = true
same_tri Null Null = true
same_tri _ _ = false

abbrev pub all_three : List Tri
all_three = True ∷ False ∷ Null ∷ []

-- whether the set has the truth value
abbrev pub member : Mask → Tri → Bool
member mask True = mask.truth
member mask False = mask.falsity
member mask Null = mask.null

-- the set of the truth values that pass the test
abbrev pub mask_where : (Tri → Bool) → Mask
mask_where test = record { truth = test True; falsity = test False; null = test Null }

-- the set of one truth value
abbrev pub single_of : Tri → Mask
single_of value = mask_where (same_tri value)

-- what the connective gives for the members of a set
abbrev pub lift_one : (Tri → Tri) → Mask → Mask
lift_one f mask = mask_where (λ t. list_any (λ a. member mask a && same_tri (f a) t) all_three)

-- what the connective gives for a member of one set and a member of the other
abbrev pub lift_two : (Tri → Tri → Tri) → Mask → Mask → Mask
lift_two f left right =
    mask_where (λ t. list_any (λ a. list_any (λ b. member left a && (member right b && same_tri (f a b) t)) all_three)
    all_three)
