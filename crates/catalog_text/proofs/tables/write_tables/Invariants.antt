use Rattle.std.proofs.Common.{◌≡◌, ◌++◌, drop}
use Rattle.std.specs.String.{string_bytes}
use Rattle.catalog_text.specs.CatalogText.{tables_from}
use Rattle.catalog_text.proofs.tables.write_tables.Given as goal

-- what is written, and the tables that are left, make up the text of all
abbrev pub invariant-loop-number : goal.invariant-loop-number
invariant-loop-number l =
    string_bytes l.text ++ tables_from l.tables l.number (drop l.number l.tables)
    ≡ string_bytes l.fn.text ++ tables_from l.tables 0 l.tables
