-- A catalog and a filter are determined by their canonical texts. This is specific to this project.
use Rattle.std.specs.Prelude.{◌≡◌, ℕ, false, List, ◌∷◌, ◌++◌, length, map, Ok}
use Rattle.std.specs.List.{IsDistinct}
use Rattle.std.specs.Str.{bytes_eq}
use Rattle.filter_tree.specs.Expr.{Expr}
use Rattle.filter_tree.specs.Lists.{NamesWithin}
use Rattle.filter_tree.specs.declared.table.Column.{Column}
use Rattle.pub_catalog.specs.Catalogs.{CatalogOf}
use Rattle.sql_reader.specs.Written.{as_filter}
use Rattle.pub_reader.specs.Statements.{catalog_by}
use Rattle.catalog_text.specs.CatalogText.{catalog_text}
use Rattle.catalog_text.specs.FilterText.{expr_text}
use Rattle.catalog_text.specs.declared.level.Level.TheVariants as level

-- the law: texts that are read as catalogs which are shown alike are read as the same catalog
abbrev pub TextsTellCatalogs : Type 0
TextsTellCatalogs =
    (text other_text : List ℕ) (one other : CatalogOf Expr) → catalog_by as_filter text ≡ Ok one
    → catalog_by as_filter other_text ≡ Ok other → catalog_text one ≡ catalog_text other → one ≡ other

-- the law: filters on columns of different names are the same if their texts before a closing parenthesis are, whatever
-- follows it
abbrev pub TextsTellFilters : Type 0
TextsTellFilters =
    (columns : List Column) → IsDistinct bytes_eq (map (λ column. column.name) columns) → (one other : Expr)
    → NamesWithin (length columns) one → NamesWithin (length columns) other → (rest other_rest : List ℕ)
    → expr_text columns level.Or false one ++ (41 ∷ rest) ≡ expr_text columns level.Or false other ++ (41 ∷ other_rest)
    → (one ≡ other) × (rest ≡ other_rest)
