-- Which table of a catalog a word names: `name` of the schema public, or `schema.name`, split at the first dot
-- (PostgreSQL 15, "Schemas", 5.9).
use Rattle.std.specs.Prelude.{ℕ, ◌==◌, Bool, ◌&&◌, if◌then◌else◌, List, length, nat_lt, Option, position, codes}
use Rattle.std.specs.List.{position_or_len, before_first, after_first}
use Rattle.std.specs.Str.{bytes_eq}
use Rattle.filter_tree.specs.declared.table.Table.{Table}

abbrev pub is_dot : ℕ → Bool
is_dot byte = byte == 46

abbrev pub has_dot : List ℕ → Bool
has_dot word = nat_lt (position_or_len is_dot word) (length word)

abbrev pub schema_word : List ℕ → List ℕ
schema_word word = if has_dot word then before_first is_dot word else codes "public"

abbrev pub name_word : List ℕ → List ℕ
name_word word = if has_dot word then after_first is_dot word else word

abbrev pub is_named_by : List ℕ → Table → Bool
is_named_by word table = bytes_eq table.schema (schema_word word) && bytes_eq table.name (name_word word)

-- the number of the first table that the word names
abbrev pub table_named_by : List ℕ → List Table → Option ℕ
table_named_by word tables = position (is_named_by word) tables
