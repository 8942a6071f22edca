-- What a book keeps of its tables, its log and its slots.
use Rattle.std.proofs.Common.{◌≡◌, ◌≢◌, ℕ, ◌+◌, ◌-◌, ◌<◌, ◌≤◌, List, [], ◌∷◌, ◌++◌, length, map, refl, sym, ◌∙◌, ap, subst, arith, append_assoc}
use Rattle.std.specs.Prelude.{Option, Some, None, if◌then◌else◌, ◌==◌, All, slice_get, slice_index_or}
use Rattle.std.proofs.lemmas.Option.{get_or_from_slice_get}
use Rattle.filter_tree.specs.Datum.{Datum}
use Rattle.filter_tree.specs.declared.table.Table.{Table}
use Rattle.pub_catalog.specs.CatalogLimits.{IsLimitedTable}
use Rattle.replica_identity.specs.Setting.{keys_in}
use Rattle.std.proofs.lemmas.List.{length-map}
use Rattle.shard_checker.specs.CheckedView.{CheckedOf, setting_in}
use Rattle.table_changes.specs.Commands.{command_view, Command}
use Rattle.table_changes.specs.CommandLists.{AreAlike}
use Rattle.table_changes.specs.Setting.{Setting}
use Rattle.table_changes.specs.Tables.{SameTables, no_rows}
use Rattle.table_changes.specs.declared.command.Command as m
use Rattle.table_changes.proofs.CommandListLemmas.{are_alike}
use Rattle.table_changes.proofs.TableLemmas.{some_is}
use Rattle.tables_log.specs.Applying.{IsNarrow, widths_of}
use Rattle.tables_log.specs.ApplyingAll.{RefusesCount, StopsAt, StagesCommit, CommitsTables}
use Rattle.tables_log.specs.BookView.{book_setting, book_limit, book_rows, book_log}
use Rattle.tables_log.specs.Commits.{CommitOf, commit_of}
use Rattle.tables_log.specs.Committing.{IsTransaction, RefusedBy}
use Rattle.tables_log.specs.Logs.{entry_at, IsNumbered}
use Rattle.tables_log.specs.Places.{kept_at, seen_at, maps_of, kept_in, seen_in, widths, KeepsTables, SettlesTables, DiscardsTables}
use Rattle.tables_log.specs.Settling.{are_named, IsSettled, IsSettledBut}
use Rattle.tables_log.specs.Lsn.{end_lsn_of}
use Rattle.tables_log.specs.Slots.{confirmed_at, IsBounded}
use Rattle.tables_log.specs.declared.book.Book.{Book}
use Rattle.tables_log.specs.declared.error.CommitError.{CommitError}
use Rattle.tables_log.specs.declared.error.CommitError.TheVariants as e
use Rattle.tables_log.specs.declared.slots.Slot.{Slot}
use Rattle.tables_log.specs.declared.table_rows.TableRows.{TableRows}
use Rattle.tables_log.proofs.ListLemmas.{map_more}
use Rattle.tables_log.proofs.PlaceLemmas.{number_is, number_apart, within, get_front, get_last}
use Rattle.tables_log.proofs.SettleLemmas.{settled_others}
use Rattle.filter_tree.proofs.Tests.{by_test}

-- ---- tables without rows

pub record MakingTables (rows : List TableRows) (left all : List Table) : Type 0 where
  pub wide : widths rows ++ widths_of left ≡ widths_of all
  pub kept_none : SameTables (kept_in rows) no_rows
  pub seen_none : SameTables (seen_in rows) no_rows

bare_more : (show : Option TableRows → ℕ → List Datum → Option (List Datum)) (rows : List TableRows) (made : TableRows)
    → SameTables (λ table. show (slice_get rows table)) no_rows
    → ((key : ℕ) (value : List Datum) → show (Some made) key value ≡ None)
    → SameTables (λ table. show (slice_get (rows ++ made ∷ []) table)) no_rows
bare_more show rows made none bare number key value = by_test (number == length rows)
    (λ here. let same : number ≡ length rows = number_is number (length rows) here in
    ap (λ n. show (slice_get (rows ++ made ∷ []) n) key value) same
    ∙ ap (λ found. show found key value) (get_last rows made) ∙ bare key value)
    (λ beside. ap (λ found. show found key value)
    (get_front rows made number (number_apart number (length rows) beside)) ∙ none number key value)

pub makes_one : (rows : List TableRows) (table : Table) (left all : List Table) (made : TableRows)
    → length made.maps.items ≡ length (keys_in (Some table))
    → ((number : ℕ) (value : List Datum) → kept_at made.maps.items number value ≡ None)
    → ((number : ℕ) (value : List Datum) → seen_at made.maps.items number value ≡ None)
    → MakingTables rows (table ∷ left) all → MakingTables (rows ++ made ∷ []) left all
makes_one rows table left all made width unkept unseen making = record {
  wide = ap (λ list. list ++ widths_of left) (map_more (λ (one : TableRows). length one.maps.items) rows made)
      ∙ append_assoc (widths rows) (length made.maps.items ∷ []) (widths_of left)
      ∙ ap (λ n. widths rows ++ n ∷ widths_of left) width
      ∙ making.wide;
  kept_none = bare_more (λ found. kept_at (maps_of found)) rows made making.kept_none unkept;
  seen_none = bare_more (λ found. seen_at (maps_of found)) rows made making.seen_none unseen;
}

pub bare_settled : (rows : List TableRows) → SameTables (kept_in rows) no_rows → SameTables (seen_in rows) no_rows
    → IsSettled rows
bare_settled rows unkept unseen table key value = unkept table key value ∙ sym (unseen table key value)

pub narrow_limited : (tables : List Table) → length tables ≤ 64 → All IsLimitedTable tables → IsNarrow tables
narrow_limited tables few each = record {
  few = few;
  narrow = λ number table at.
      let low : number < length tables = within tables number table at in
      let one : slice_index_or tables number table ≡ table = get_or_from_slice_get tables number table table at in
      let limited : IsLimitedTable table = subst IsLimitedTable one (each number table low) in
      limited.columns;
}

-- ---- the log

pub numbered_more : (log : List CommitOf) (commit : CommitOf) → commit.number ≡ length log + 1 → IsNumbered log
    → IsNumbered (log ++ commit ∷ [])
numbered_more log commit is numbered place found at = by_test (place == length log)
    (λ here. let same : place ≡ length log = number_is place (length log) here in
    let last : commit ≡ found =
    some_is commit found (sym (get_last log commit) ∙ ap (slice_get (log ++ commit ∷ [])) (sym same) ∙ at) in
    ap (λ (one : CommitOf). one.number) (sym last) ∙ is ∙ ap (λ n. n + 1) (sym same))
    (λ beside. numbered place found (sym (get_front log commit place (number_apart place (length log) beside)) ∙ at))

pub bounded_more : (slots : List Slot) (commits more : ℕ) → commits ≤ more → IsBounded slots commits
    → IsBounded slots more
bounded_more slots commits more longer bounded number = let low : confirmed_at slots number ≤ end_lsn_of commits =
    bounded number in omega arith

-- ---- commits

module _ (setting : Setting) (first staged : List TableRows) (commands : List Command) (settled : IsSettled first) where
  alike_kept : AreAlike setting (seen_in first) (kept_in first)
  alike_kept = are_alike setting (seen_in first) (kept_in first) (λ table key value. sym (settled table key value))

  pub commits_tables : (last : List TableRows) (time number : ℕ) (entry : CommitOf) → KeepsTables first staged
      → StagesCommit setting first staged commands time number entry
      → SettlesTables staged last → CommitsTables setting first last commands time number entry
  commits_tables last time number entry keeps stages settles = record {
    no_fault = sym (alike_kept.first 1 commands) ∙ stages.no_fault;
    leaves = λ table key value. settles.keeps table key value ∙ stages.leaves table key value
        ∙ alike_kept.all_left commands table key value;
    records = stages.records ∙ ap (commit_of number time) (alike_kept.recorded commands);
    width = settles.width ∙ keeps.width;
  }

  pub stops_kept : (error : CommitError) → StopsAt setting (seen_in first) commands error
      → StopsAt setting (kept_in first) commands error
  stops_kept e.EmptyTransaction stops = stops
  stops_kept e.TooManyCommands stops = stops
  stops_kept e.LogFull stops = stops
  stops_kept (e.At number fault) stops = sym (alike_kept.first 1 commands) ∙ stops
  stops_kept e.OutOfMemory stops = stops

pub keeps_first : (first staged last : List TableRows) → KeepsTables first staged → DiscardsTables staged last
    → KeepsTables first last
keeps_first first staged last keeps after = record {
  keeps = λ table key value. after.keeps table key value ∙ keeps.keeps table key value;
  width = after.width ∙ keeps.width;
}

pub stages_settled : (setting : Setting) (first staged : List TableRows) (commands : List m.Command) (time number : ℕ)
    (entry : CommitOf) → IsSettled first → KeepsTables first staged
    → StagesCommit setting first staged (map command_view commands) time number entry
    → IsSettledBut (are_named commands) staged
stages_settled setting first staged commands time number entry settled keeps stages =
    settled_others setting first staged commands settled keeps stages.leaves

pub refused_by : (book : Book) (commands : List Command) (error : CommitError) → IsTransaction commands
    → length (book_log book) < book_limit book
    → StopsAt (book_setting book) (book_rows book) commands error → RefusedBy book commands error
refused_by book commands e.EmptyTransaction transaction room stops = absurd stops
refused_by book commands e.TooManyCommands transaction room stops = absurd stops
refused_by book commands e.LogFull transaction room stops = absurd stops
refused_by book commands (e.At number fault) transaction room stops =
    record { transaction = transaction; room = room; first = stops }
refused_by book commands e.OutOfMemory transaction room stops = tt

empty_list : {X Y : Type 0} (f : X → Y) (xs : List X) → length xs ≡ 0 → map f xs ≡ []
empty_list f [] h = refl
empty_list f (x ∷ xs) h = absurd cc

pub count_refused : (book : Book) (commands : List m.Command) (error : CommitError)
    → RefusesCount (length commands) error → RefusedBy book (map command_view commands) error
count_refused book commands e.EmptyTransaction refuses = empty_list command_view commands refuses
count_refused book commands e.TooManyCommands refuses =
    subst (λ n. 1000 < n) (sym (length-map commands command_view)) refuses
count_refused book commands e.LogFull refuses = absurd refuses
count_refused book commands (e.At number fault) refuses = absurd refuses
count_refused book commands e.OutOfMemory refuses = absurd refuses

pub is_transaction : (commands : List m.Command) → 1 ≤ length commands → length commands ≤ 1000
    → IsTransaction (map command_view commands)
is_transaction commands some few =
    let same : length (map command_view commands) ≡ length commands = length-map commands command_view in
    record { some = omega (arith, same); few = omega (arith, same) }

-- ---- entries

pub found_numbered : (log : List CommitOf) (number : ℕ) (commit : CommitOf) → Some commit ≡ entry_at log number
    → IsNumbered log → commit.number ≡ number
found_numbered log number commit found numbered = by_test (number == 0)
    (λ zero_is. absurd (let none : Some commit ≡ None = found
    ∙ ap (λ b. if b then None else slice_get log (number - 1)) zero_is in cc))
    (λ some.
    let apart : number ≢ 0 = number_apart number 0 some in
    let at : slice_get log (number - 1) ≡ Some commit =
    sym (found ∙ ap (λ b. if b then None else slice_get log (number - 1)) some) in
    let is : commit.number ≡ number - 1 + 1 = numbered (number - 1) commit at in
    omega arith)

-- ---- what a book keeps

pub numbered_pushed : {C : Type 0} (view : C → CommitOf) (log : List C) (commit : C)
    → (view commit).number ≡ length log + 1 → IsNumbered (map view log)
    → IsNumbered (map view (log ++ commit ∷ []))
numbered_pushed view log commit is numbered =
    subst IsNumbered (sym (map_more view log commit))
    (numbered_more (map view log) (view commit) (is ∙ ap (λ n. n + 1) (sym (length-map log view))) numbered)

-- what was committed through references to a book's catalog and tables
pub as_committed : (one other : CheckedOf) (bare first last : List TableRows) (commands : List Command)
    (time number : ℕ) (entry : CommitOf) → one ≡ other → bare ≡ first
    → CommitsTables (setting_in one) bare last commands time number entry
    → CommitsTables (setting_in other) first last commands time number entry
as_committed one other bare first last commands time number entry same same_rows commits =
    subst (λ checked. CommitsTables (setting_in checked) first last commands time number entry) same
    (subst (λ rows. CommitsTables (setting_in one) rows last commands time number entry) same_rows commits)

pub as_stopped : (one other : CheckedOf) (bare first : List TableRows) (commands : List Command) (error : CommitError)
    → one ≡ other → bare ≡ first
    → StopsAt (setting_in one) (kept_in bare) commands error → StopsAt (setting_in other) (kept_in first) commands error
as_stopped one other bare first commands error same same_rows stops =
    subst (λ checked. StopsAt (setting_in checked) (kept_in first) commands error) same
    (subst (λ rows. StopsAt (setting_in one) (kept_in rows) commands error) same_rows stops)
