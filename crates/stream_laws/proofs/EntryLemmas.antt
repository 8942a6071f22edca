-- The entry of a log at a place, and the tables before and after it.
use Rattle.std.proofs.Common.{◌≡◌, ℕ, zero, suc, ◌+◌, ◌<◌, ◌≤◌, List, [], ◌∷◌, length, take, refl, sym, ◌∙◌, ap, arith, add-zero}
use Rattle.std.specs.Prelude.{Some, None, fold, slice_get}
use Rattle.table_changes.specs.Records.{record_of}
use Rattle.table_changes.specs.Setting.{Setting}
use Rattle.table_changes.specs.Standing.{KeepsApart}
use Rattle.table_changes.specs.Tables.{Tables}
use Rattle.table_changes.proofs.ChangeLemmas.{stay_keyed, stay_fit, stay_apart}
use Rattle.replica_identity.proofs.SettingLemmas.{has_primary_keys}
use Rattle.shard_checker.specs.CheckedView.{CheckedOf, setting_in}
use Rattle.tables_log.specs.Commits.{CommitOf, commit_of}
use Rattle.tables_log.specs.StandsFor.{Transaction, left_by, IsAccepted, AreAccepted, entries_from}
use Rattle.stream_laws.proofs.CommandSteps.{IsRight}
use Rattle.std.proofs.lemmas.Option.{same_Some}
use Rattle.copy_both.proofs.SeenStreamLemmas.{at_later}

-- the transaction of an entry, which comes after this number of others
pub record IsEntry (setting : Setting) (tables : Tables) (number : ℕ) (transactions : List Transaction) (place : ℕ)
    (commit : CommitOf) : Type 0 where
  pub transaction : Transaction
  pub there : slice_get transactions place ≡ Some transaction
  pub within : place < length transactions
  pub is : commit ≡ commit_of (number + place) transaction.time
      (record_of setting (fold (left_by setting) tables (take place transactions)) transaction.commands)
  pub accepted : IsAccepted setting (fold (left_by setting) tables (take place transactions)) transaction
  pub left : fold (left_by setting) tables (take (suc place) transactions)
      ≡ left_by setting (fold (left_by setting) tables (take place transactions)) transaction

pub past_end : {X : Type 0} (xs : List X) (place : ℕ) → slice_get xs place ≡ None → length xs ≤ place
past_end [] place e = omega arith
past_end (x ∷ xs) zero e = absurd cc
past_end (x ∷ xs) (suc place) e = let later : length xs ≤ place = past_end xs place e in omega (arith, later)

pub entry_at : (setting : Setting) (tables : Tables) (number : ℕ) (transactions : List Transaction) (place : ℕ)
    (commit : CommitOf) → AreAccepted setting tables transactions
    → slice_get (entries_from setting tables number transactions) place ≡ Some commit
    → IsEntry setting tables number transactions place commit
entry_at setting tables number [] place commit accepted h = absurd cc
entry_at setting tables number (transaction ∷ transactions) zero commit accepted h = record {
  transaction = transaction;
  there = refl;
  within = omega arith;
  is = same_Some commit _ (sym h)
      ∙ ap (λ n. commit_of n transaction.time (record_of setting tables transaction.commands))
      (sym (add-zero number));
  accepted = accepted.0;
  left = refl;
}
entry_at setting tables number (transaction ∷ transactions) (suc place) commit accepted h =
    let later = entry_at setting (left_by setting tables transaction) (number + 1) transactions place commit
    accepted.1 h in
    record {
      transaction = later.transaction;
      there = later.there;
      within = omega (arith, later.within);
      is = later.is ∙ ap (λ n. commit_of n later.transaction.time
          (record_of setting (fold (left_by setting) (left_by setting tables transaction) (take place transactions))
          later.transaction.commands))
          (at_later number place);
      accepted = later.accepted;
      left = later.left;
    }

pub right_at : (checked : CheckedOf) → KeepsApart (setting_in checked)
    → (tables : Tables) (transactions : List Transaction) (place : ℕ)
    → AreAccepted (setting_in checked) tables transactions
    → IsRight (setting_in checked) tables
    → IsRight (setting_in checked) (fold (left_by (setting_in checked)) tables (take place transactions))
right_at checked keeps tables [] zero accepted right = right
right_at checked keeps tables [] (suc place) accepted right = right
right_at checked keeps tables (transaction ∷ transactions) zero accepted right = right
right_at checked keeps tables (transaction ∷ transactions) (suc place) accepted right =
    let setting = setting_in checked in
    right_at checked keeps (left_by setting tables transaction) transactions place accepted.1 (record {
      stands = stay_keyed setting tables 1 transaction.commands accepted.0.no_fault right.stands;
      fit = stay_fit setting (has_primary_keys checked.catalog checked.plan) tables 1 transaction.commands
          accepted.0.no_fault right.stands right.fit;
      apart = stay_apart setting keeps tables 1 transaction.commands accepted.0.no_fault right.stands right.apart;
    })

-- there is an entry for each
pub entries_length : (setting : Setting) (tables : Tables) (number : ℕ) (all : List Transaction)
    → length (entries_from setting tables number all) ≡ length all
entries_length setting tables number [] = refl
entries_length setting tables number (transaction ∷ all) =
    ap suc (entries_length setting (left_by setting tables transaction) (number + 1) all)
