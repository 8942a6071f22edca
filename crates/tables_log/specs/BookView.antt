-- What a book shows: the catalog that was checked, its tables, its log and its slots: PostgreSQL 15, "Logical
-- Replication", 31.1 Publication.
use Rattle.std.specs.Prelude.{ℕ, List, map}
use Rattle.std.specs.Arc.{arc_value}
use Rattle.filter_tree.specs.Datum.{Datum}
use Rattle.shard_checker.specs.CheckedView.{CheckedOf, checked_view, setting_in}
use Rattle.table_changes.specs.Setting.{Setting}
use Rattle.table_changes.specs.Tables.{Tables}
use Rattle.tables_log.specs.Commits.{CommitOf}
use Rattle.tables_log.specs.Places.{kept_in, listed_in}
use Rattle.tables_log.specs.Routes.{commit_in}
use Rattle.tables_log.specs.declared.book.Book.{Book}
use Rattle.tables_log.specs.declared.slots.Slot.{Slot}

abbrev pub book_checked : Book → CheckedOf
book_checked book = checked_view (arc_value book.checked)

-- what changes of its tables depend on
abbrev pub book_setting : Book → Setting
book_setting book = setting_in (book_checked book)

-- how many commits its log may have
abbrev pub book_limit : Book → ℕ
book_limit book = book.limit

abbrev pub book_rows : Book → Tables
book_rows book = kept_in book.tables.items

-- the rows of a table as a list, each once
abbrev pub book_listed : Book → ℕ → List (List Datum)
book_listed book table = listed_in book.tables.items table

abbrev pub book_log : Book → List CommitOf
book_log book = map commit_in book.log.items

abbrev pub book_slots : Book → List Slot
book_slots book = book.slots.items
