-- What is known of a filter, atom by atom; and the law.
use Rattle.std.proofs.Common.{◌<◌, List, [], ◌∷◌, length}
use Rattle.std.proofs.lemmas.List.Elements.{recursion_from_All}
use Rattle.std.specs.List.{AllByRecursion}
use Rattle.filter_tree.specs.Expr.{AtomOf, term_of, Expr, Const, Atom, Not, And, Or, Is}
use Rattle.filter_tree.specs.Lists.{atoms_in, columns_in, NamesWithin}
use Rattle.filter_tree.specs.declared.table.Column.{Column}
use Rattle.catalog_laws.specs.Laws.{TextsTellFilters}
use Rattle.catalog_laws.proofs.FilterTexts.{fit_filters_apart}
use Rattle.catalog_laws.proofs.ItemTexts.{IsFit}
use Rattle.catalog_laws.proofs.ListParts.{first_all, later_all}
use Rattle.catalog_laws.proofs.TermTexts.{IsTerm}

module _ (columns : List Column) where
  abbrev IsKnown : AtomOf → Type 0
  IsKnown atom = IsTerm columns (term_of atom)

  atoms_known : (atoms : List AtomOf) → AllByRecursion (λ column. column < length columns) (columns_in atoms)
      → AllByRecursion IsKnown atoms
  atoms_known [] known = tt
  atoms_known (atom ∷ atoms) known = (known.0, atoms_known atoms known.1)

  filter_fits : (filter : Expr) → AllByRecursion IsKnown (atoms_in filter) → IsFit columns filter
  filter_fits (Const truth) all = tt
  filter_fits (Atom atom) all = all.0
  filter_fits (Not part) all = filter_fits part all
  filter_fits (And left right) all = (
    filter_fits left (first_all IsKnown (atoms_in left) (atoms_in right) all),
    filter_fits right (later_all IsKnown (atoms_in left) (atoms_in right) all),
  )
  filter_fits (Or left right) all = (
    filter_fits left (first_all IsKnown (atoms_in left) (atoms_in right) all),
    filter_fits right (later_all IsKnown (atoms_in left) (atoms_in right) all),
  )
  filter_fits (Is test part) all = filter_fits part all

  named_fits : (filter : Expr) → NamesWithin (length columns) filter → IsFit columns filter
  named_fits filter within =
      filter_fits filter (atoms_known (atoms_in filter)
      (recursion_from_All (λ column. column < length columns) (columns_in (atoms_in filter)) within))

-- ---- the law

pub filters_apart : TextsTellFilters
filters_apart columns named one other within within_too x y e =
    fit_filters_apart columns named one other x y (named_fits columns one within) (named_fits columns other within_too)
    e
