-- The values that a key has: PostgreSQL 15, 5.4.4 Primary Keys.
use Rattle.std.specs.Prelude.{List}
use Rattle.filter_tree.specs.Datum.{Datum}
use Rattle.tables_log.specs.NumberKeys.{number_key}
use Rattle.tables_log.specs.declared.key.Key.{Key}
use Rattle.tables_log.specs.declared.key.Key.TheVariants as k

abbrev pub key_view : Key → List Datum
key_view (k.Number number) = number_key number
key_view (k.Values values) = values
