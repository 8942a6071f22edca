-- Entries of publications are for tables that exist, and their filters name columns of these tables.
use Rattle.std.proofs.Common.{◌≡◌, ℕ, length}
use Rattle.std.specs.Prelude.{Option, Some, None, Ok, IfSome}
use Rattle.filter_tree.specs.Expr.{Expr}
use Rattle.filter_tree.specs.Lists.{NamesWithin}
use Rattle.sql_reader.specs.Items.{Items}
use Rattle.sql_reader.specs.Written.{as_filter}
use Rattle.sql_reader.proofs.NamedColumns.{expression-named}
use Rattle.pub_catalog.specs.CatalogEntries.{FilterNamesWithin, AllCarryKnown}
use Rattle.pub_reader.specs.Drafts.{DraftOf, no_draft, resolved}
use Rattle.pub_reader.specs.Statements.{statements}
use Rattle.pub_reader.proofs.KeptFilters.{resolved_entries_have}

names_within : (count : ℕ) (filter : Option Expr) → IfSome filter (NamesWithin count) → FilterNamesWithin count filter
names_within count None h = tt
names_within count (Some filter) h = h

-- what is made of the statements of a text
pub resolved_entries_known : (ts : Items) (draft : DraftOf Expr) (rest : Items)
    → statements as_filter no_draft ts ≡ Ok (draft, rest) → AllCarryKnown (resolved draft)
resolved_entries_known ts draft rest e = λ n d low m f inside.
    let known = resolved_entries_have (λ columns. NamesWithin (length columns)) expression-named ts draft rest e n d low
    m f inside in
    record { table = known.0; columns = names_within _ _ known.1 }
