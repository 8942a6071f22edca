-- Names and strings with their meaning: PostgreSQL 15, "SQL Syntax", 4.1.1 Identifiers and Key Words and 4.1.2.1 String
-- Constants.
use Rattle.std.specs.Prelude.{ℕ, Bool, false, if◌then◌else◌, List, Option, Some, None, Ok, Err}
use Rattle.std.specs.Str.{str_to_ascii_lowercase}
use Rattle.sql_tokens.specs.Meant.{undoubled}
use Rattle.sql_reader.specs.declared.item.Item.{Item}
use Rattle.sql_reader.specs.declared.item.Item.TheVariants as i
use Rattle.sql_reader.specs.declared.name.PlacedName.{PlacedName}
use Rattle.sql_reader.specs.Items.{Items, is_name}
use Rattle.sql_reader.specs.Reading.{Rule, unexpected, place_ahead, item_ahead, written_ahead, rest_of}

abbrev pub is_name_item : Option Item → Bool
is_name_item (Some item) = is_name item
is_name_item None = false

-- whether a name comes next
unfoldable pub name_ahead : Items → Bool
name_ahead ts = is_name_item (item_ahead ts)

-- a quoted name without its quotes, any other name in lower case
abbrev pub name_meant : Option Item → List ℕ → List ℕ
name_meant (Some i.QuotedName) written = undoubled 34 written
name_meant _ written = str_to_ascii_lowercase written

-- a string without its quotes
abbrev pub string_meant : List ℕ → List ℕ
string_meant written = undoubled 39 written

-- a name, with its place
unfoldable pub name : Rule PlacedName
name ts =
    if name_ahead ts then
    Ok (record { place = place_ahead ts; text = name_meant (item_ahead ts) (written_ahead ts) }, rest_of ts)
    else Err (unexpected ts)
