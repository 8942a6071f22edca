-- Books are the results of the transactions that they accepted.
use Rattle.std.proofs.Common.{◌≡◌, ℕ, suc, ◌+◌, List, [], ◌∷◌, ◌++◌, length, refl, sym, ◌∙◌, ap, subst, arith}
use Rattle.std.specs.Prelude.{fold}
use Rattle.replica_identity.proofs.SettingLemmas.{has_primary_keys}
use Rattle.shard_checker.specs.CheckedView.{setting_in}
use Rattle.table_changes.specs.Changes.{BeginsWell}
use Rattle.table_changes.specs.CommandLists.{AreAlike}
use Rattle.table_changes.specs.Keys.{HasPrimaryKeys, key_at}
use Rattle.table_changes.specs.Records.{record_of}
use Rattle.table_changes.specs.Setting.{Setting}
use Rattle.table_changes.specs.Standing.{Apart, AllFit, KeepsApart}
use Rattle.table_changes.specs.Tables.{Tables, SameTables, no_rows, Stands}
use Rattle.table_changes.proofs.ChangeLemmas.{stay_keyed, stay_fit, stay_apart, begins_well}
use Rattle.table_changes.proofs.CommandListLemmas.{are_alike, no_more}
use Rattle.tables_log.specs.BookView.{book_checked, book_setting, book_rows, book_listed, book_log}
use Rattle.tables_log.specs.Commits.{commit_of}
use Rattle.tables_log.specs.StandsFor.{Transaction, left_by, after, IsAccepted, AreAccepted, entries_from, StandsFor, NewStands, CommitsAddOne, SlotsKeepIt, EachIsLogged, BooksAreRight, ListedAreRows}
use Rattle.tables_log.specs.declared.book.Book.{Book}
use Rattle.tables_log.proofs.ListingLemmas.{rows_in_order}

same_back : (one other : Tables) → SameTables one other → SameTables other one
same_back one other same = λ table number value. sym (same table number value)

-- ---- one more transaction

after_more : (setting : Setting) (tables : Tables) (transactions : List Transaction) (transaction : Transaction)
    → fold (left_by setting) tables (transactions ++ transaction ∷ [])
    ≡ left_by setting (fold (left_by setting) tables transactions) transaction
after_more setting tables [] transaction = refl
after_more setting tables (first ∷ transactions) transaction =
    after_more setting (left_by setting tables first) transactions transaction

pub accepted_more : (setting : Setting) (tables : Tables) (transactions : List Transaction) (transaction : Transaction)
    → AreAccepted setting tables transactions
    → IsAccepted setting (fold (left_by setting) tables transactions) transaction
    → AreAccepted setting tables (transactions ++ transaction ∷ [])
accepted_more setting tables [] transaction accepted one = (one, tt)
accepted_more setting tables (first ∷ transactions) transaction accepted one =
    (accepted.0, accepted_more setting (left_by setting tables first) transactions transaction accepted.1 one)

number_more : (number count : ℕ) → number + 1 + count ≡ number + suc count
number_more number count = omega arith

entries_more : (setting : Setting) (tables : Tables) (number : ℕ) (transactions : List Transaction)
    (transaction : Transaction)
    → entries_from setting tables number (transactions ++ transaction ∷ [])
    ≡ entries_from setting tables number transactions
    ++ commit_of (number + length transactions) transaction.time
    (record_of setting (fold (left_by setting) tables transactions) transaction.commands) ∷ []
entries_more setting tables number [] transaction =
    ap (λ n. commit_of n transaction.time (record_of setting tables transaction.commands) ∷ []) (no_more number)
entries_more setting tables number (first ∷ transactions) transaction =
    ap (λ rest. commit_of number first.time (record_of setting tables first.commands) ∷ rest)
    (entries_more setting (left_by setting tables first) (number + 1) transactions transaction
    ∙ ap (λ n. entries_from setting (left_by setting tables first) (number + 1) transactions
    ++ commit_of n transaction.time
    (record_of setting (fold (left_by setting) (left_by setting tables first) transactions) transaction.commands)
    ∷ [])
    (number_more number (length transactions)))

entries_length : (setting : Setting) (tables : Tables) (number : ℕ) (transactions : List Transaction)
    → length (entries_from setting tables number transactions) ≡ length transactions
entries_length setting tables number [] = refl
entries_length setting tables number (first ∷ transactions) =
    ap suc (entries_length setting (left_by setting tables first) (number + 1) transactions)

-- ---- laws

pub new_stands : NewStands
new_stands book checked limit new = record { accepted = tt; rows = new.rows; log = new.log }

pub each_is_logged : EachIsLogged
each_is_logged book transactions stands = ap length stands.log
    ∙ entries_length (book_setting book) no_rows 1 transactions

-- in the setting of the old book
record Stood (setting : Setting) (book : Book) (transactions : List Transaction) : Type 0 where
  accepted : AreAccepted setting no_rows transactions
  rows : SameTables (book_rows book) (after setting transactions)
  log : book_log book ≡ entries_from setting no_rows 1 transactions

stood_stands : (setting : Setting) (book : Book) (transactions : List Transaction) → setting ≡ book_setting book
    → Stood setting book transactions → StandsFor book transactions
stood_stands setting book transactions same stood =
    let moved : Stood (book_setting book) book transactions = subst (λ s. Stood s book transactions) same stood in
    record { accepted = moved.accepted; rows = moved.rows; log = moved.log }

pub slots_keep_it : SlotsKeepIt
slots_keep_it old new slots changes transactions stands =
    stood_stands (book_setting old) new transactions (sym (ap setting_in changes.checked)) (record {
      accepted = stands.accepted;
      rows = λ table number value. changes.rows table number value ∙ stands.rows table number value;
      log = changes.log ∙ stands.log;
    })

pub commits_add_one : CommitsAddOne
commits_add_one old new commands time number commits transactions stands =
    let alike : AreAlike (book_setting old) (book_rows old) (after (book_setting old) transactions) =
    are_alike (book_setting old) (book_rows old) (after (book_setting old) transactions) stands.rows in
    let count : length (book_log old) ≡ length transactions = each_is_logged old transactions stands in
    let numbers : number ≡ 1 + length transactions = omega (arith, commits.number_is, count) in
    stood_stands (book_setting old) new (transactions ++ record { commands = commands; time = time } ∷ [])
    (sym (ap setting_in commits.checked)) (record {
      accepted = accepted_more (book_setting old) no_rows transactions (record { commands = commands; time = time })
          stands.accepted
          (record { sized = commits.transaction; no_fault = sym (alike.first 1 commands) ∙ commits.no_fault });
      rows = λ table key value.
          commits.rows table key value ∙ alike.all_left commands table key value
          ∙ ap (λ (tables : Tables). tables table key value)
          (sym (after_more (book_setting old) no_rows transactions
          (record { commands = commands; time = time })));
      log = commits.log
          ∙ ap (λ log. log ++ commit_of number time (record_of (book_setting old) (book_rows old) commands) ∷ [])
          stands.log
          ∙ ap (λ changes. entries_from (book_setting old) no_rows 1 transactions ++ commit_of number time changes
          ∷ []) (alike.recorded commands)
          ∙ ap (λ n. entries_from (book_setting old) no_rows 1 transactions
          ++ commit_of n time (record_of (book_setting old) (after (book_setting old) transactions) commands)
          ∷ []) numbers
          ∙ sym (entries_more (book_setting old) no_rows 1 transactions (record { commands = commands; time = time }));
    })

-- ---- rows are right

keyed_after : (setting : Setting) (tables : Tables) (transactions : List Transaction)
    → AreAccepted setting tables transactions → Stands setting.keys tables
    → Stands setting.keys (fold (left_by setting) tables transactions)
keyed_after setting tables [] accepted stands = stands
keyed_after setting tables (transaction ∷ transactions) accepted stands =
    keyed_after setting (left_by setting tables transaction) transactions accepted.1
    (stay_keyed setting tables 1 transaction.commands accepted.0.no_fault stands)

fit_after : (setting : Setting) → HasPrimaryKeys setting.keys → (tables : Tables) (transactions : List Transaction)
    → AreAccepted setting tables transactions → Stands setting.keys tables
    → AllFit setting tables → AllFit setting (fold (left_by setting) tables transactions)
fit_after setting has tables [] accepted stands fit = fit
fit_after setting has tables (transaction ∷ transactions) accepted stands fit =
    fit_after setting has (left_by setting tables transaction) transactions accepted.1
    (stay_keyed setting tables 1 transaction.commands accepted.0.no_fault stands)
    (stay_fit setting has tables 1 transaction.commands accepted.0.no_fault stands fit)

apart_after : (setting : Setting) → KeepsApart setting → (tables : Tables) (transactions : List Transaction)
    → AreAccepted setting tables transactions → Stands setting.keys tables
    → Apart setting tables → Apart setting (fold (left_by setting) tables transactions)
apart_after setting keeps tables [] accepted stands apart = apart
apart_after setting keeps tables (transaction ∷ transactions) accepted stands apart =
    apart_after setting keeps (left_by setting tables transaction) transactions accepted.1
    (stay_keyed setting tables 1 transaction.commands accepted.0.no_fault stands)
    (stay_apart setting keeps tables 1 transaction.commands accepted.0.no_fault stands apart)

pub books_are_right : BooksAreRight
books_are_right book transactions stands =
    let begins : BeginsWell (book_setting book) = begins_well (book_setting book) in
    let has : HasPrimaryKeys (book_setting book).keys =
    has_primary_keys (book_checked book).catalog (book_checked book).plan in
    let alike : AreAlike (book_setting book) (after (book_setting book) transactions) (book_rows book) =
    are_alike (book_setting book) (after (book_setting book) transactions) (book_rows book)
    (same_back (book_rows book) (after (book_setting book) transactions) stands.rows) in
    let keyed : Stands (book_setting book).keys (after (book_setting book) transactions) =
    keyed_after (book_setting book) no_rows transactions stands.accepted begins.keyed in
    let fit : AllFit (book_setting book) (after (book_setting book) transactions) =
    fit_after (book_setting book) has no_rows transactions stands.accepted begins.keyed begins.fit in
    record {
      keyed = alike.standing keyed;
      fit = λ table row holds. fit table row (alike.holding table row ∙ holds);
      apart = λ keeps table one other first second same.
          apart_after (book_setting book) keeps no_rows transactions stands.accepted begins.keyed begins.apart table
          one other
          (alike.holding table one ∙ first) (alike.holding table other ∙ second) same;
    }

-- ---- the rows of a table as a list

pub listed_are_rows : ListedAreRows
listed_are_rows book transactions table rows stands lists in_order =
    let right = books_are_right book transactions stands in
    rows_in_order (book_rows book table 0) (book_listed book table) rows (key_at (book_setting book).keys table 0)
    (λ key row is. right.keyed.keyed table 0 key row is) lists in_order
