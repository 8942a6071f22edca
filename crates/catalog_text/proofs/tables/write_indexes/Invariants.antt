use Rattle.std.proofs.Common.{◌≡◌, ◌++◌, drop}
use Rattle.std.specs.List.{flat_map}
use Rattle.std.specs.String.{string_bytes}
use Rattle.catalog_text.specs.CatalogText.{index_text}
use Rattle.catalog_text.proofs.tables.write_indexes.Given as goal

-- what is written, and the indexes that are left, make up the text of all
abbrev pub invariant-loop-index : goal.invariant-loop-index
invariant-loop-index l =
    string_bytes l.text ++ flat_map (index_text l.table) (drop l.index-index l.indexes)
    ≡ string_bytes l.fn.text ++ flat_map (index_text l.table) l.indexes
