-- Two plans are equal in at most one way, since a test distinguishes filters.
use Rattle.std.proofs.Common.{◌≡◌, Bool, true, false, ◌&&◌, refl, ◌∙◌, ap, subst}
use Rattle.std.specs.Bool.{beq}
use Rattle.std.specs.Cmp.{booleans_Decides}
use mathlib.Core.HLevel.{Discrete, hedberg, prop→set, Unit-prop}
use mathlib.Core.List.{is_set}
use mathlib.Core.Sum.{⊎_set}
use Rattle.filter_tree.specs.Expr.{Expr, Const, Atom, Not, And, Or, Is}
use Rattle.filter_tree.specs.Same.{same_atom}
use Rattle.filter_tree.specs.declared.filter.Test.{Test}
use Rattle.filter_tree.specs.declared.filter.Test.TheVariants.{True, False, Unknown}
use Rattle.filter_tree.proofs.SameLemmas.{same_atom_is, same_atom_of_equal}
use Rattle.std.proofs.Math.Logic.{∥∥₁_elim}
use Rattle.pub_catalog.specs.Catalogs.{CatalogOf}
use Rattle.replica_identity.specs.Plans.{PlanOf, plan_of}
use Rattle.replica_identity.specs.Shares.{ShareOf}
use Rattle.filter_tree.proofs.Tests.{both_true}

abbrev same_test : Test → Test → Bool
same_test True True = true
same_test False False = true
same_test Unknown Unknown = true
same_test _ _ = false

abbrev same_expr : Expr → Expr → Bool
same_expr (Const p) (Const q) = beq p q
same_expr (Atom c) (Atom d) = same_atom c d
same_expr (Not f) (Not g) = same_expr f g
same_expr (And f g) (And h k) = same_expr f h && same_expr g k
same_expr (Or f g) (Or h k) = same_expr f h && same_expr g k
same_expr (Is s f) (Is t g) = same_test s t && same_expr f g
same_expr _ _ = false

-- ---- the test holds for equal filters only, and for each filter with itself

same_test_is : (s t : Test) → same_test s t ≡ true → s ≡ t
same_test_is True True h = refl
same_test_is False False h = refl
same_test_is Unknown Unknown h = refl
same_test_is s t h = absurd cc

same_test_self : (t : Test) → same_test t t ≡ true
same_test_self True = refl
same_test_self False = refl
same_test_self Unknown = refl

same_expr_is : (f g : Expr) → same_expr f g ≡ true → f ≡ g
same_expr_is (Const p) (Const q) h = ap Const ((booleans_Decides p q).0 h)
same_expr_is (Atom c) (Atom d) h = ap Atom (same_atom_is c d h)
same_expr_is (Not f) (Not g) h = ap Not (same_expr_is f g h)
same_expr_is (And f g) (And h k) e =
    let both = both_true (same_expr f h) (same_expr g k) e in
    let left : f ≡ h = same_expr_is f h both.0 in
    let right : g ≡ k = same_expr_is g k both.1 in
    cc
same_expr_is (Or f g) (Or h k) e =
    let both = both_true (same_expr f h) (same_expr g k) e in
    let left : f ≡ h = same_expr_is f h both.0 in
    let right : g ≡ k = same_expr_is g k both.1 in
    cc
same_expr_is (Is s f) (Is t g) e =
    let both = both_true (same_test s t) (same_expr f g) e in
    let tests : s ≡ t = same_test_is s t both.0 in
    let parts : f ≡ g = same_expr_is f g both.1 in
    cc
same_expr_is f g h = absurd cc

same_expr_self : (f : Expr) → same_expr f f ≡ true
same_expr_self (Const p) = (booleans_Decides p p).1 refl
same_expr_self (Atom c) = same_atom_of_equal c c refl
same_expr_self (Not f) = same_expr_self f
same_expr_self (And f g) = ap (λ b. b && same_expr g g) (same_expr_self f) ∙ same_expr_self g
same_expr_self (Or f g) = ap (λ b. b && same_expr g g) (same_expr_self f) ∙ same_expr_self g
same_expr_self (Is t f) = ap (λ b. b && same_expr f f) (same_test_self t) ∙ same_expr_self f

same_or_not : (f g : Expr) (b : Bool) → same_expr f g ≡ b → Dec (f ≡ g)
same_or_not f g true h = yes (same_expr_is f g h)
same_or_not f g false h =
    no (λ e. let same : same_expr f g ≡ true = subst (λ x. same_expr f x ≡ true) e (same_expr_self f) in cc)

Expr-discrete : Discrete Expr
Expr-discrete f g = same_or_not f g (same_expr f g) refl

Expr-set : IsSet Expr
Expr-set = hedberg Expr-discrete

ShareOf-set : IsSet ShareOf
ShareOf-set = Prim.hlevel (Expr-set, ⊎_set, prop→set (Unit-prop {0}))

pub PlanOf-set : IsSet PlanOf
PlanOf-set = is_set (is_set ShareOf-set)

-- what is kept of a catalog and its plan
pub kept_own : (catalog : CatalogOf Expr) (plan : PlanOf) → ∥ plan ≡ plan_of catalog ∥₁ → plan ≡ plan_of catalog
kept_own catalog plan kept = ∥∥₁_elim kept (PlanOf-set plan (plan_of catalog)) (λ own. own)
