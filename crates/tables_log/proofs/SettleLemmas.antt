-- Tables that commands name settle one after another, and commands change no others.
use Rattle.std.proofs.Common.{◌≡◌, ◌≢◌, ℕ, ◌≤◌, Bool, true, false, ◌||◌, List, [], ◌∷◌, length, map, drop, refl, sym, ◌∙◌, ap}
use Rattle.std.specs.Prelude.{Option, Some, None, ◌==◌, slice_get, slice_set, if◌then◌else◌}
use Rattle.std.proofs.lemmas.Bool.{or_parts}
use Rattle.std.proofs.lemmas.Option.{slice_get_past}
use Rattle.filter_tree.specs.Datum.{Datum}
use Rattle.table_changes.specs.Commands.{command_view, applied, all_applied}
use Rattle.table_changes.specs.Setting.{Setting}
use Rattle.table_changes.specs.Tables.{Tables, SameTables, without}
use Rattle.table_changes.specs.declared.command.Command.{Command}
use Rattle.table_changes.specs.declared.command.Command.TheVariants.{Insert, Update, Delete, Truncate}
use Rattle.tables_log.specs.Places.{kept_at, seen_at, maps_of, kept_in, seen_in, widths, KeepsTables, SettlesRows, SettlesTables, DiscardsTables}
use Rattle.tables_log.specs.Settling.{is_in, names, are_named, IsSettled, IsSettledBut, SettlesOne, SettlesNamed}
use Rattle.tables_log.specs.declared.table_rows.TableRows.{TableRows}
use Rattle.tables_log.proofs.ListLemmas.{drop_past}
use Rattle.tables_log.proofs.PlaceLemmas.{number_is, number_apart, within, get_set_here, get_set_beside, map_set, put_others}
use Rattle.filter_tree.proofs.Tests.{by_test}

-- ---- one table

nothing_past : (tables : List TableRows) (number : ℕ) → length tables ≤ number → (key : ℕ) (value : List Datum)
    → kept_in tables number key value ≡ seen_in tables number key value
nothing_past tables number past key value =
    ap (λ found. kept_at (maps_of found) key value) (slice_get_past tables number past)
    ∙ sym (ap (λ found. seen_at (maps_of found) key value) (slice_get_past tables number past))

-- what is kept of a table is what is seen of it
same_if : (b : Bool) (kept seen : Option (List Datum)) → (b ≡ true → kept ≡ seen) → kept ≡ (if b then seen else kept)
same_if true kept seen same = same refl
same_if false kept seen same = refl

pub settles_past : (tables : List TableRows) (number : ℕ) → length tables ≤ number → SettlesOne tables tables number
settles_past tables number past = record {
  keeps = λ table key value. same_if (number == table) (kept_in tables table key value) (seen_in tables table key value)
      (λ here. ap (λ n. kept_in tables n key value) (sym (number_is number table here))
      ∙ nothing_past tables number past key value
      ∙ ap (λ n. seen_in tables n key value) (number_is number table here));
  sees = λ table key value. refl;
  width = refl;
}

module _ (tables : List TableRows) (number : ℕ) (old new : TableRows) (at : slice_get tables number ≡ Some old)
    (settles : SettlesRows old new) where
  here_is : slice_get (slice_set tables number new) number ≡ Some new
  here_is = get_set_here tables number new (within tables number old at)

  beside_is : (table : ℕ) → (number == table) ≡ false
      → slice_get (slice_set tables number new) table ≡ slice_get tables table
  beside_is table apart = get_set_beside tables number table new (λ same. number_apart number table apart (sym same))

  kept_here : (key : ℕ) (value : List Datum)
      → kept_in (slice_set tables number new) number key value ≡ seen_in tables number key value
  kept_here key value =
      ap (λ found. kept_at (maps_of found) key value) here_is ∙ settles.keeps key value
      ∙ sym (ap (λ found. seen_at (maps_of found) key value) at)

  seen_here : (key : ℕ) (value : List Datum)
      → seen_in (slice_set tables number new) number key value ≡ seen_in tables number key value
  seen_here key value =
      ap (λ found. seen_at (maps_of found) key value) here_is ∙ settles.sees key value
      ∙ sym (ap (λ found. seen_at (maps_of found) key value) at)

  pub settles_here : SettlesOne tables (slice_set tables number new) number
  settles_here = record {
    keeps = λ table key value. by_test (number == table)
        (λ here.
        ap (λ n. kept_in (slice_set tables number new) n key value) (sym (number_is number table here))
        ∙ kept_here key value
        ∙ ap (λ n. seen_in tables n key value) (number_is number table here)
        ∙ sym (ap (λ b. if b then seen_in tables table key value else kept_in tables table key value) here))
        (λ apart.
        ap (λ found. kept_at (maps_of found) key value) (beside_is table apart)
        ∙ sym (ap (λ b. if b then seen_in tables table key value else kept_in tables table key value) apart));
    sees = λ table key value. by_test (number == table)
        (λ here.
        ap (λ n. seen_in (slice_set tables number new) n key value) (sym (number_is number table here))
        ∙ seen_here key value
        ∙ ap (λ n. seen_in tables n key value) (number_is number table here))
        (λ apart. ap (λ found. seen_at (maps_of found) key value) (beside_is table apart));
    width = map_set (λ (rows : TableRows). length rows.maps.items) tables number new old at settles.width;
  }

-- ---- one table after another

-- so far: when the remaining ones settle, all are settled
pub record Settling (tables first : List TableRows) (left all : ℕ → Bool) : Type 0 where
  pub keeps : (table key : ℕ) (value : List Datum)
      → (if left table then seen_in tables table key value else kept_in tables table key value)
      ≡ (if all table then seen_in first table key value else kept_in first table key value)
  pub sees : SameTables (seen_in tables) (seen_in first)
  pub width : widths tables ≡ widths first

pub settling_begins : (tables : List TableRows) (named : ℕ → Bool) → Settling tables tables named named
settling_begins tables named = record { keeps = λ table key value. refl; sees = λ table key value. refl; width = refl }

either : (p q : Bool) (seen kept : Option (List Datum))
    → (if q then seen else (if p then seen else kept)) ≡ (if p || q then seen else kept)
either true true seen kept = refl
either true false seen kept = refl
either false true seen kept = refl
either false false seen kept = refl

settles_some : (tables new first : List TableRows) (some left all : ℕ → Bool) → SettlesNamed tables new some
    → Settling tables first (λ table. some table || left table) all → Settling new first left all
settles_some tables new first some left all settles settling = record {
  keeps = λ table key value.
      ap (λ seen. if left table then seen else kept_in new table key value) (settles.sees table key value)
      ∙ ap (λ kept. if left table then seen_in tables table key value else kept) (settles.keeps table key value)
      ∙ either (some table) (left table) (seen_in tables table key value) (kept_in tables table key value)
      ∙ settling.keeps table key value;
  sees = λ table key value. settles.sees table key value ∙ settling.sees table key value;
  width = settles.width ∙ settling.width;
}

pub settles_number : (tables new first : List TableRows) (number : ℕ) (left all : List ℕ) → SettlesOne tables new number
    → Settling tables first (is_in (number ∷ left)) (is_in all) → Settling new first (is_in left) (is_in all)
settles_number tables new first number left all settles settling =
    settles_some tables new first (λ table. number == table) (is_in left) (is_in all) settles settling

pub settles_command : (tables new first : List TableRows) (command : Command) (left all : List Command)
    → SettlesNamed tables new (names command)
    → Settling tables first (are_named (command ∷ left)) (are_named all)
    → Settling new first (are_named left) (are_named all)
settles_command tables new first command left all settles settling =
    settles_some tables new first (names command) (are_named left) (are_named all) settles settling

settled : (tables first : List TableRows) (left all : ℕ → Bool) → ((table : ℕ) → left table ≡ false)
    → Settling tables first left all → SettlesNamed first tables all
settled tables first left all none settling = record {
  keeps = λ table key value. sym
      (ap (λ b. if b then seen_in tables table key value else kept_in tables table key value) (none table))
      ∙ settling.keeps table key value;
  sees = settling.sees;
  width = settling.width;
}

pub settled_numbers : (tables first : List TableRows) (numbers : List ℕ) (index : ℕ) → length numbers ≤ index
    → Settling tables first (is_in (drop index numbers)) (is_in numbers)
    → SettlesNamed first tables (is_in numbers)
settled_numbers tables first numbers index past settling =
    settled tables first (is_in (drop index numbers)) (is_in numbers)
    (λ table. ap (λ left. is_in left table) (drop_past numbers index past)) settling

pub settled_commands : (tables first : List TableRows) (commands : List Command) (index : ℕ) → length commands ≤ index
    → Settling tables first (are_named (drop index commands)) (are_named commands)
    → IsSettledBut (are_named commands) first → SettlesTables first tables
settled_commands tables first commands index past settling but =
    let all : SettlesNamed first tables (are_named commands) =
    settled tables first (are_named (drop index commands)) (are_named commands)
    (λ table. ap (λ left. are_named left table) (drop_past commands index past)) settling in
    record {
      keeps = λ table key value. by_test (are_named commands table)
          (λ named. all.keeps table key value
          ∙ ap (λ b. if b then seen_in first table key value else kept_in first table key value) named)
          (λ others. all.keeps table key value
          ∙ ap (λ b. if b then seen_in first table key value else kept_in first table key value) others
          ∙ but table others key value);
      sees = all.sees;
      width = all.width;
    }

-- ---- tables that commands do not name

without_others : (setting : Setting) (tables : Tables) (number : ℕ) (found : Option (List Datum)) (table : ℕ)
    → table ≢ number → (key : ℕ) (value : List Datum)
    → without setting.keys tables number found table key value ≡ tables table key value
without_others setting tables number None table apart key value = refl
without_others setting tables number (Some row) table apart key value =
    put_others setting.keys tables number row None table apart key value

beside_one : (setting : Setting) (tables : Tables) (command : Command) (table : ℕ) → names command table ≡ false
    → (key : ℕ) (value : List Datum)
    → applied setting tables (command_view command) table key value ≡ tables table key value
beside_one setting tables (Insert number row) table apart key value =
    put_others setting.keys tables number row (Some row) table (λ same. number_apart number table apart (sym same))
    key value
beside_one setting tables (Update number old row) table apart key value =
    let beside : table ≢ number = λ same. number_apart number table apart (sym same) in
    put_others setting.keys (without setting.keys tables number (tables number 0 old)) number row (Some row) table
    beside key value
    ∙ without_others setting tables number (tables number 0 old) table beside key value
beside_one setting tables (Delete number old) table apart key value =
    without_others setting tables number (tables number 0 old) table
    (λ same. number_apart number table apart (sym same)) key value
beside_one setting tables (Truncate numbers) table apart key value =
    ap (λ b. if b then None else tables table key value) apart

pub beside_all : (setting : Setting) (tables : Tables) (commands : List Command) (table : ℕ)
    → are_named commands table ≡ false → (key : ℕ) (value : List Datum)
    → all_applied setting tables (map command_view commands) table key value ≡ tables table key value
beside_all setting tables [] table apart key value = refl
beside_all setting tables (command ∷ commands) table apart key value =
    let both = or_parts (names command table) (are_named commands table) apart in
    beside_all setting (applied setting tables (command_view command)) commands table both.1 key value
    ∙ beside_one setting tables command table both.0 key value

-- what commands leave is seen, and what was seen before is kept
pub settled_others : (setting : Setting) (first staged : List TableRows) (commands : List Command) → IsSettled first
    → KeepsTables first staged
    → SameTables (seen_in staged) (all_applied setting (seen_in first) (map command_view commands))
    → IsSettledBut (are_named commands) staged
settled_others setting first staged commands is_settled keeps leaves table apart key value =
    keeps.keeps table key value ∙ is_settled table key value
    ∙ sym (leaves table key value ∙ beside_all setting (seen_in first) commands table apart key value)

-- ---- what is settled

pub settles_all : (old new : List TableRows) → SettlesTables old new → IsSettled new
settles_all old new settles table key value = settles.keeps table key value ∙ sym (settles.sees table key value)

pub discards_all : (old new : List TableRows) → DiscardsTables old new → IsSettled new
discards_all old new discards table key value = discards.keeps table key value ∙ sym (discards.sees table key value)
