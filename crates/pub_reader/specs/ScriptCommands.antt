-- The commands of a script: PostgreSQL 15, SQL Commands, INSERT, UPDATE, DELETE and TRUNCATE, in a short form: a
-- table, and then rows and keys in parentheses. A key is written as a row.
use Rattle.std.specs.Prelude.{ℕ, List, [], ◌∷◌, ◌++◌, Option, Some, None, if◌then◌else◌, codes}
use Rattle.std.specs.Str.{str_eq_ignore_ascii_case}
use Rattle.filter_tree.specs.declared.table.Table.{Table}
use Rattle.table_changes.specs.Commands.{Command, Insert, Update, Delete, Truncate}
use Rattle.pub_reader.specs.Grammar.i
use Rattle.pub_reader.specs.Grammar.{Item, Rule, ◌>>=◌, ◌>>◌, pure, refuse, advance, expect, next_is, item_ahead, written_ahead, link, repeat}
use Rattle.sql_reader.specs.Items.{Items}
use Rattle.sql_reader.specs.Rows.{row_in_parentheses}
use Rattle.pub_reader.specs.declared.script_command.CommandWord.{CommandWord}
use Rattle.pub_reader.specs.declared.script_command.CommandWord.TheVariants as c
use Rattle.pub_reader.specs.ScriptTables.{script_table}

-- ---- the words that begin commands, in upper or lower case; all of them may also be names

unfoldable pub command_word : List ℕ → Option CommandWord
command_word word =
    if str_eq_ignore_ascii_case word (codes "insert") then Some c.Insert else
    if str_eq_ignore_ascii_case word (codes "update") then Some c.Update else
    if str_eq_ignore_ascii_case word (codes "delete") then Some c.Delete else
    if str_eq_ignore_ascii_case word (codes "truncate") then Some c.Truncate else
    None

abbrev pub command_word_by : Option Item → List ℕ → Option CommandWord
command_word_by (Some i.Word) written = command_word written
command_word_by _ written = None

unfoldable pub command_ahead : Items → Option CommandWord
command_ahead ts = command_word_by (item_ahead ts) (written_ahead ts)

-- ---- commands, after their words

unfoldable pub insert_body : List Table → Rule Command
insert_body tables = do
  number ← script_table tables
  row ← row_in_parentheses
  pure (Insert number row)

unfoldable pub update_body : List Table → Rule Command
update_body tables = do
  number ← script_table tables
  key ← row_in_parentheses
  row ← row_in_parentheses
  pure (Update number key row)

unfoldable pub delete_body : List Table → Rule Command
delete_body tables = do
  number ← script_table tables
  key ← row_in_parentheses
  pure (Delete number key)

unfoldable pub one_table : List Table → List ℕ → Rule (List ℕ)
one_table tables numbers = script_table tables >>= (λ number. pure (numbers ++ number ∷ []))

unfoldable pub table_list : List Table → Rule (List ℕ)
table_list tables = one_table tables [] >>= repeat (link i.Comma (one_table tables))

unfoldable pub truncate_body : List Table → Rule Command
truncate_body tables = do
  expect i.Open
  numbers ← table_list tables
  expect i.Close
  pure (Truncate numbers)

-- ---- lists of commands

abbrev pub command_by : Option CommandWord → List Table → Rule Command
command_by (Some c.Insert) tables = advance >> insert_body tables
command_by (Some c.Update) tables = advance >> update_body tables
command_by (Some c.Delete) tables = advance >> delete_body tables
command_by (Some c.Truncate) tables = advance >> truncate_body tables
command_by None tables = refuse

unfoldable pub command : List Table → Rule Command
command tables ts = command_by (command_ahead ts) tables ts

unfoldable pub one_command : List Table → List Command → Rule (List Command)
one_command tables commands = command tables >>= (λ command. pure (commands ++ command ∷ []))

unfoldable pub command_list : List Table → Rule (List Command)
command_list tables = one_command tables [] >>= repeat (link i.Comma (one_command tables))

-- a list may be empty, if the step ends
unfoldable pub commands_or_none : List Table → Rule (List Command)
commands_or_none tables = do
  is_end ← next_is i.Semicolon
  if is_end then pure [] else command_list tables
