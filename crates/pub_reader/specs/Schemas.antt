-- Schemas: PostgreSQL 15, SQL Commands, CREATE SCHEMA, and "Data Definition", 5.9 Schemas.
use Rattle.std.specs.Prelude.{ℕ, Bool, if◌then◌else◌, List, Option, Some, None, Ok, Err}
use Rattle.std.specs.Option.{is_some}
use Rattle.pub_reader.specs.Grammar.w
use Rattle.pub_reader.specs.Grammar.{PlacedName, Rule, Verdict, fault, ◌>>=◌, ◌>>◌, pure, check, name}
use Rattle.sql_reader.specs.declared.error.Limit.{Limit}
use Rattle.pub_reader.specs.Drafts.{DraftOf, find_schema, with_name}

-- the position of what has a name, which must exist
abbrev pub known_position : PlacedName → Option ℕ → Verdict ℕ
known_position called (Some number) = Ok number
known_position called None = Err (fault called.place w.UnknownName)

-- a new name is not taken, and there is room for one more
abbrev pub fresh : PlacedName → Option ℕ → Bool → Limit → Verdict (Unit {0})
fresh called found is_full limit =
    if is_some found then Err (fault called.place w.NameTwice)
    else (if is_full then Err (fault called.place (w.TooMany limit)) else Ok tt)

-- a schema that was created before
unfoldable pub known_schema : List (List ℕ) → PlacedName → Verdict ℕ
known_schema schemas called = known_position called (find_schema called.text schemas)

-- a new schema has a new name
unfoldable pub check_new_schema : List (List ℕ) → PlacedName → Verdict (Unit {0})
check_new_schema schemas called = if is_some (find_schema called.text schemas) then
    Err (fault called.place w.NameTwice) else Ok tt

unfoldable pub create_schema : {S : Type 0} → DraftOf S → Rule (DraftOf S)
create_schema draft = do
  called ← name
  check (check_new_schema draft.schemas called)
  pure (record draft { schemas = with_name draft.schemas called.text })
