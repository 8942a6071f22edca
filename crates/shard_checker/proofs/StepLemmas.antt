-- Filters that are added to steps.
use Rattle.std.proofs.Common.{◌≡◌, ℕ, zero, suc, ◌+◌, ◌<◌, ◌≤◌, Bool, List, [], ◌∷◌, ◌++◌, length, take, get_or, refl, sym, ap, subst, ◌∙◌}
use Rattle.std.specs.Prelude.{◌⊎◌, Some, slice_get}
use Rattle.std.proofs.Common.{inl, inr}
use Rattle.std.proofs.lemmas.Option.{slice_get_within, same_Some}
use Rattle.filter_tree.specs.Expr.{AtomOf, Expr}
use Rattle.filter_tree.specs.Expr as e
use Rattle.filter_tree.specs.declared.filter.Test.{Test}
use Rattle.std.specs.Borrow.{Bor}
use Rattle.std.proofs.lemmas.List.{map_more, take_all}
use Rattle.replica_identity.specs.Shares.{ShareOf, share_view}
use Rattle.replica_identity.specs.declared.share.Share.{Share}
use Rattle.shard_checker.specs.Owners.{shares_view}
use Rattle.shard_checker.specs.Steps.{Stands, IsFilter, PartsBefore, IsOrdered, Extends, Adds, Compiles, filter_of, AreFilters, IsCompiled}
use Rattle.shard_checker.specs.declared.formulas.Formulas.{Formulas}
use Rattle.shard_checker.specs.declared.steps.FormulaNode.{FormulaNode}
use Rattle.shard_checker.specs.declared.steps.FormulaNode.TheVariants.{Const, Atom, Not, And, Or, Is}

-- ---- one more step

got_before : (old : List FormulaNode) (step last : FormulaNode) (number : ℕ) → slice_get old number ≡ Some step
    → slice_get (old ++ last ∷ []) number ≡ Some step
got_before [] step last number h = absurd cc
got_before (first ∷ old) step last zero h = h
got_before (first ∷ old) step last (suc number) h = got_before old step last number h

got_last : (old : List FormulaNode) (last : FormulaNode) → slice_get (old ++ last ∷ []) (length old) ≡ Some last
got_last [] last = refl
got_last (first ∷ old) last = got_last old last

-- a step existed before, or it is the last one
got_among : (old : List FormulaNode) (last step : FormulaNode) (number : ℕ) → slice_get (old ++ last ∷ []) number ≡ Some step
    → (slice_get old number ≡ Some step) ⊎ ((number ≡ length old) × (last ≡ step))
got_among [] last step zero h = inr (refl, same_Some last step h)
got_among [] last step (suc number) h = absurd cc
got_among (first ∷ old) last step zero h = inl h
got_among (first ∷ old) last step (suc number) h =
    elim (got_among old last step number h) [ inl there ↦ inl there | inr (at, same) ↦ inr (ap suc at, same) ]

pub adds_pushed : (old new : List FormulaNode) (number : ℕ) (step : FormulaNode) → new ≡ old ++ step ∷ [] → number ≡ length old
    → Adds old new number step
adds_pushed old new number step e n = record {
  there = subst (λ (steps : List FormulaNode). slice_get steps number ≡ Some step) (sym e)
      (subst (λ k. slice_get (old ++ step ∷ []) k ≡ Some step) (sym n) (got_last old step));
  extends = record {
    each =
        λ k found h. subst (λ (steps : List FormulaNode). slice_get steps k ≡ Some found) (sym e)
        (got_before old found step k h);
  };
  ordered = λ before parts. subst (λ (steps : List FormulaNode). IsOrdered steps) (sym e) (record {
    each = λ k found h.
        elim (got_among old step found k h) [
          | inl there ↦ before.each k found there
          | inr (at, same) ↦ subst (λ f. PartsBefore k f) same (subst (λ m. PartsBefore m step) (sym at) parts)
        ];
  });
}

pub adds_found : (steps : List FormulaNode) (number : ℕ) (step : FormulaNode) → slice_get steps number ≡ Some step
    → Adds steps steps number step
adds_found steps number step there =
    record { there = there; extends = record { each = λ k found h. h }; ordered = λ before parts. before }

pub ruleset adding = (adds_pushed, adds_found)

-- ---- a filter

stands_more : (atoms : List AtomOf) (old new : List FormulaNode) → Extends old new → (number : ℕ) (filter : Expr)
    → Stands atoms old number filter → Stands atoms new number filter
stands_more atoms old new more number (e.Const known) h = more.each _ _ h
stands_more atoms old new more number (e.Atom atom) h = (h.0, (more.each _ _ h.1.0, h.1.1))
stands_more atoms old new more number (e.Not part) h =
    (h.0, (more.each _ _ h.1.0, stands_more atoms old new more h.0 part h.1.1))
stands_more atoms old new more number (e.And left right) h = (
  h.0,
  (
    h.1.0,
    (
      more.each _ _ h.1.1.0,
      (stands_more atoms old new more h.0 left h.1.1.1.0, stands_more atoms old new more h.1.0 right h.1.1.1.1),
    ),
  ),
)
stands_more atoms old new more number (e.Or left right) h = (
  h.0,
  (
    h.1.0,
    (
      more.each _ _ h.1.1.0,
      (stands_more atoms old new more h.0 left h.1.1.1.0, stands_more atoms old new more h.1.0 right h.1.1.1.1),
    ),
  ),
)
stands_more atoms old new more number (e.Is test part) h =
    (h.0, (more.each _ _ h.1.0, stands_more atoms old new more h.0 part h.1.1))

pub filter_more : (atoms : List AtomOf) (old new : List FormulaNode) (number : ℕ) (filter : Expr) → Extends old new
    → IsFilter atoms old number filter → IsFilter atoms new number filter
filter_more atoms old new number filter more h =
    record { stands = stands_more atoms old new more number filter h.stands }

stands_within : (atoms : List AtomOf) (steps : List FormulaNode) (number : ℕ) (filter : Expr)
    → Stands atoms steps number filter → number < length steps
stands_within atoms steps number (e.Const known) h = slice_get_within steps number _ h
stands_within atoms steps number (e.Atom atom) h = slice_get_within steps number _ h.1.0
stands_within atoms steps number (e.Not part) h = slice_get_within steps number _ h.1.0
stands_within atoms steps number (e.And left right) h = slice_get_within steps number _ h.1.1.0
stands_within atoms steps number (e.Or left right) h = slice_get_within steps number _ h.1.1.0
stands_within atoms steps number (e.Is test part) h = slice_get_within steps number _ h.1.0

filter_within : (atoms : List AtomOf) (steps : List FormulaNode) (number : ℕ) (filter : Expr)
    → IsFilter atoms steps number filter → number < length steps
filter_within atoms steps number filter h = stands_within atoms steps number filter h.stands

pub extends_self : (steps : List FormulaNode) → Extends steps steps
extends_self steps = record { each = λ number step h. h }

pub extends_on : (old middle new : List FormulaNode) → Extends old middle → Extends middle new → Extends old new
extends_on old middle new first second =
    record { each = λ number step h. second.each number step (first.each number step h) }

module _ (atoms : List AtomOf) (old new : List FormulaNode) (number : ℕ) where
  pub compiled_const : (known : Bool) → Adds old new number (Const known)
      → Compiles atoms old new number (e.Const known)
  compiled_const known added =
      record {
        there = record { stands = added.there };
        extends = added.extends;
        ordered =
            λ before. added.ordered before tt;
      }

  pub compiled_atom : (place : ℕ) (atom : AtomOf) → slice_get atoms place ≡ Some atom
      → Adds old new number (Atom place) → Compiles atoms old new number (e.Atom atom)
  compiled_atom place atom named added =
      record {
        there = record { stands = (place, (added.there, named)) };
        extends = added.extends;
        ordered =
            λ before. added.ordered before tt;
      }

  module _ (middle : List FormulaNode) (first : ℕ) (part : Expr) (compiled : Compiles atoms old middle first part) where
    pub compiled_not : Adds middle new number (Not first) → Compiles atoms old new number (e.Not part)
    compiled_not added = record {
      there = record {
        stands =
            (first, (added.there, stands_more atoms middle new added.extends first part compiled.there.stands));
      };
      extends = extends_on old middle new compiled.extends added.extends;
      ordered = λ before. added.ordered (compiled.ordered before)
          (filter_within atoms middle first part compiled.there);
    }

    pub compiled_is : (test : Test) → Adds middle new number (Is test first)
        → Compiles atoms old new number (e.Is test part)
    compiled_is test added = record {
      there = record {
        stands =
            (first, (added.there, stands_more atoms middle new added.extends first part compiled.there.stands));
      };
      extends = extends_on old middle new compiled.extends added.extends;
      ordered = λ before. added.ordered (compiled.ordered before)
          (filter_within atoms middle first part compiled.there);
    }

  module _ (one two : List FormulaNode) (first second : ℕ) (left right : Expr) (at_left : Compiles atoms old one first left)
      (at_right : Compiles atoms one two second right) where
    parts_within : (first < length two) × (second < length two)
    parts_within = (
      filter_within atoms two first left
          (filter_more atoms one two first left at_right.extends at_left.there),
      filter_within atoms two second right at_right.there,
    )

    left_there : Extends two new → Stands atoms new first left
    left_there more = stands_more atoms two new more first left
        (stands_more atoms one two at_right.extends first left at_left.there.stands)

    pub compiled_and : Adds two new number (And first second) → Compiles atoms old new number (e.And left right)
    compiled_and added = record {
      there = record {
        stands = (
          first,
          (
            second,
            (
              added.there,
              (left_there added.extends, stands_more atoms two new added.extends second right at_right.there.stands),
            ),
          ),
        );
      };
      extends = extends_on old one new at_left.extends (extends_on one two new at_right.extends added.extends);
      ordered = λ before. added.ordered (at_right.ordered (at_left.ordered before)) parts_within;
    }

    pub compiled_or : Adds two new number (Or first second) → Compiles atoms old new number (e.Or left right)
    compiled_or added = record {
      there = record {
        stands = (
          first,
          (
            second,
            (
              added.there,
              (left_there added.extends, stands_more atoms two new added.extends second right at_right.there.stands),
            ),
          ),
        );
      };
      extends = extends_on old one new at_left.extends (extends_on one two new at_right.extends added.extends);
      ordered = λ before. added.ordered (at_right.ordered (at_left.ordered before)) parts_within;
    }

pub ruleset compiling = (compiled_const, compiled_atom, compiled_not, compiled_is, compiled_and, compiled_or)

-- ---- the filters of shares

filters_kept : (atoms : List AtomOf) (old new : List FormulaNode) (more : Extends old new) (roots : List ℕ)
    (shares : List ShareOf) → AreFilters atoms old roots shares → AreFilters atoms new roots shares
filters_kept atoms old new more [] [] h = tt
filters_kept atoms old new more [] (share ∷ shares) h = absurd h
filters_kept atoms old new more (root ∷ roots) [] h = absurd h
filters_kept atoms old new more (root ∷ roots) (share ∷ shares) h =
    (filter_more atoms old new root (filter_of share) more h.0, filters_kept atoms old new more roots shares h.1)

filters_then : (atoms : List AtomOf) (steps : List FormulaNode) (roots : List ℕ) (shares : List ShareOf) (root : ℕ)
    (share : ShareOf) → AreFilters atoms steps roots shares
    → IsFilter atoms steps root (filter_of share) → AreFilters atoms steps (roots ++ root ∷ []) (shares ++ share ∷ [])
filters_then atoms steps [] [] root share h last = (last, tt)
filters_then atoms steps [] (s ∷ shares) root share h last = absurd h
filters_then atoms steps (r ∷ roots) [] root share h last = absurd h
filters_then atoms steps (r ∷ roots) (s ∷ shares) root share h last =
    (h.0, filters_then atoms steps roots shares root share h.1 last)

pub filters_more : (atoms : List AtomOf) (shares : List ShareOf) (old new : Formulas) (root : ℕ) (share : ShareOf)
    → IsCompiled atoms shares old
    → Compiles atoms old.steps.list.items new.steps.list.items root (filter_of share)
    → new.roots.items ≡ old.roots.items ++ root ∷ [] → IsCompiled atoms (shares ++ share ∷ []) new
filters_more atoms shares old new root share before compiled pushed = record {
  ordered = compiled.ordered before.ordered;
  filters = subst (λ roots. AreFilters atoms new.steps.list.items roots (shares ++ share ∷ [])) (sym pushed)
      (filters_then atoms new.steps.list.items old.roots.items shares root share
      (filters_kept atoms old.steps.list.items new.steps.list.items compiled.extends old.roots.items shares
      before.filters) compiled.there);
}

pub none_compiled : (atoms : List AtomOf) (formulas : Formulas) → formulas.steps.list.items ≡ []
    → formulas.roots.items ≡ [] → IsCompiled atoms [] formulas
none_compiled atoms formulas steps roots = record {
  ordered = subst (λ (steps : List FormulaNode). IsOrdered steps) (sym steps) (record { each = λ number step h. absurd cc });
  filters = subst (λ roots. AreFilters atoms formulas.steps.list.items roots []) (sym roots) tt;
}

module _ {A : _} (atoms : List AtomOf) (shares : List (Bor (Share A))) (count : ℕ) (share : Bor (Share A))
    (formulas : Formulas) where
  pub next_compiled : IsCompiled atoms (shares_view (take count shares) ++ share_view share.now ∷ []) formulas
      → count < length shares → share ≡ get_or shares count share
      → IsCompiled atoms (shares_view (take (count + 1) shares)) formulas
  next_compiled compiled within is = subst (λ (found : List ShareOf). IsCompiled atoms found formulas)
      (ap (λ (last : Bor (Share A)). shares_view (take count shares) ++ share_view last.now ∷ []) is
      ∙ sym (map_more (λ (s : Bor (Share A)). share_view s.now) shares count share within)) compiled

  pub all_compiled : IsCompiled atoms (shares_view (take count shares)) formulas → length shares ≤ count
      → IsCompiled atoms (shares_view shares) formulas
  all_compiled compiled past =
      subst (λ (found : List (Bor (Share A))). IsCompiled atoms (shares_view found) formulas)
      (take_all count shares past) compiled

pub ruleset sharing = (none_compiled, next_compiled, all_compiled)
