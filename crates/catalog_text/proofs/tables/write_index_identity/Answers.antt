use Rattle.std.proofs.Common.{codes}
use Rattle.std.specs.String.{string_bytes}
use Rattle.catalog_text.specs.CatalogText.{index_name}
use Rattle.catalog_text.proofs.Joins.{joined_2}
use Rattle.catalog_text.proofs.tables.write_index_identity.Goals as goal

pub returns : goal.returns
returns c =
    joined_2 (string_bytes c.args.text.now) (codes "USING INDEX ") (index_name c.args.indexes.now c.args.number)
    c.in_ok-push_str.ensures.bytes c.in_ok-write_index_name.ensures
