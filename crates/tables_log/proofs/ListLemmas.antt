-- Commands on tables, one after another: what is staged so far, and what the rest does.
use Rattle.std.proofs.Common.{◌≡◌, ℕ, zero, suc, ◌+◌, ◌≤◌, List, [], ◌∷◌, ◌++◌, length, map, drop, refl, sym, ◌∙◌, ap, subst, append_assoc, append-nil, arith}
use Rattle.std.specs.Prelude.{All}
use Rattle.std.proofs.lemmas.List.Elements.{All-nil, All-push}
use Rattle.replica_identity.specs.ChangeView.{change_view}
use Rattle.replica_identity.specs.declared.change.Change.{Change}
use Rattle.table_changes.specs.Commands.{command_view, Command, fault_of, applied, all_applied, numbered, first_fault}
use Rattle.table_changes.specs.declared.command.Command as m
use Rattle.table_changes.specs.CommandLists.{AreAlike}
use Rattle.table_changes.specs.Records.{ChangeOf, change_of, record_of}
use Rattle.table_changes.specs.Setting.{Setting}
use Rattle.table_changes.specs.Tables.{SameTables}
use Rattle.table_changes.proofs.CommandListLemmas.{are_alike}
use Rattle.tables_log.specs.Applying.{Applies}
use Rattle.tables_log.specs.ApplyingAll.{AppliesAll, error_at, StopsAt}
use Rattle.tables_log.specs.Faults.{Tells}
use Rattle.tables_log.specs.Places.{seen_in, KeepsTables}
use Rattle.tables_log.specs.Sendable.{IsSendableChange}
use Rattle.tables_log.specs.declared.error.Refused.{Refused}
use Rattle.tables_log.specs.declared.error.Refused.TheVariants.{Fault, OutOfMemory}
use Rattle.tables_log.specs.declared.table_rows.TableRows.{TableRows}

pub keeps_both : (first middle last : List TableRows) → KeepsTables first middle → KeepsTables middle last
    → KeepsTables first last
keeps_both first middle last one other = record {
  keeps = λ table number value. other.keeps table number value ∙ one.keeps table number value;
  width = other.width ∙ one.width;
}

pub keeps_itself : (tables : List TableRows) → KeepsTables tables tables
keeps_itself tables = record { keeps = λ table number value. refl; width = refl }

pub map_more : {X Y : Type 0} (f : X → Y) (xs : List X) (x : X) → map f (xs ++ x ∷ []) ≡ map f xs ++ f x ∷ []
map_more f [] x = refl
map_more f (y ∷ ys) x = ap (λ rest. f y ∷ rest) (map_more f ys x)

-- what the remaining commands do to the tables, and their fault, is what all do; the first that remains has this number
pub record SoFar (setting : Setting) (tables first : List TableRows) (changes : List ChangeOf) (number : ℕ)
    (left all : List Command) : Type 0 where
  pub fault : first_fault setting (seen_in tables) number left ≡ first_fault setting (seen_in first) 1 all
  pub leaves : SameTables (all_applied setting (seen_in tables) left) (all_applied setting (seen_in first) all)
  pub records : changes ++ record_of setting (seen_in tables) left ≡ record_of setting (seen_in first) all
  pub sendable : All IsSendableChange changes
  pub keeps : KeepsTables first tables

pub applies_one : (setting : Setting) (tables new first : List TableRows) (changes : List ChangeOf) (number : ℕ)
    (command : Command) (left all : List Command) (change : ChangeOf)
    → Applies setting tables new command change → KeepsTables tables new
    → SoFar setting tables first changes number (command ∷ left) all
    → SoFar setting new first (changes ++ change ∷ []) (number + 1) left all
applies_one setting tables new first changes number command left all change applies keeps so_far =
    let alike : AreAlike setting (seen_in new) (applied setting (seen_in tables) command) =
    are_alike setting (seen_in new) (applied setting (seen_in tables) command) applies.leaves in
    record {
      fault = alike.first (number + 1) left
          ∙ sym (ap (λ fault. numbered number fault
          (first_fault setting (applied setting (seen_in tables) command) (number + 1) left)) applies.no_fault)
          ∙ so_far.fault;
      leaves = λ table key value. alike.all_left left table key value ∙ so_far.leaves table key value;
      records = append_assoc changes (change ∷ []) (record_of setting (seen_in new) left)
          ∙ ap (λ one. changes ++ one ∷ record_of setting (seen_in new) left) applies.records
          ∙ ap (λ rest. changes ++ change_of setting (seen_in tables) command ∷ rest) (alike.recorded left)
          ∙ so_far.records;
      sendable = All-push IsSendableChange changes change so_far.sendable applies.sendable;
      keeps = keeps_both first tables new so_far.keeps keeps;
    }

pub applies_all : (setting : Setting) (tables first : List TableRows) (changes : List ChangeOf) (number : ℕ)
    (all : List Command)
    → SoFar setting tables first changes number [] all → AppliesAll setting first tables all changes
applies_all setting tables first changes number all so_far = record {
  no_fault = sym so_far.fault;
  leaves = so_far.leaves;
  records = sym (append-nil changes) ∙ so_far.records;
  sendable = so_far.sendable;
}

pub stops_at : (setting : Setting) (tables first : List TableRows) (changes : List ChangeOf) (number : ℕ)
    (command : Command) (left all : List Command) (refused : Refused)
    → Tells refused (fault_of setting (seen_in tables) command)
    → SoFar setting tables first changes number (command ∷ left) all
    → StopsAt setting (seen_in first) all (error_at number refused)
stops_at setting tables first changes number command left all (Fault fault) tells so_far =
    sym so_far.fault ∙ ap
    (λ found. numbered number found
    (first_fault setting (applied setting (seen_in tables) command) (number + 1) left)) tells
stops_at setting tables first changes number command left all OutOfMemory tells so_far = tt

-- ---- as the loop over the commands has it

pub so_far_begins : (setting : Setting) (first : List TableRows) (changes : List Change) (commands : List m.Command)
    → changes ≡ []
    → SoFar setting first first (map change_view changes) 1 (map command_view commands) (map command_view commands)
so_far_begins setting first changes commands none =
    subst (λ some. SoFar setting first first (map change_view some) 1 (map command_view commands)
    (map command_view commands)) (sym none) (record {
      fault = refl;
      leaves = λ table key value. refl;
      records = refl;
      sendable = All-nil IsSendableChange;
      keeps = keeps_itself first;
    })

pub drop_past : {X : Type 0} (xs : List X) (i : ℕ) → length xs ≤ i → drop i xs ≡ []
drop_past [] zero past = refl
drop_past [] (suc i) past = refl
drop_past (x ∷ xs) zero past = absurd (omega arith)
drop_past (x ∷ xs) (suc i) past = drop_past xs i (omega arith)

pub applied_to_end : (setting : Setting) (tables first : List TableRows) (changes : List ChangeOf) (number i : ℕ)
    (commands : List m.Command) → length commands ≤ i
    → SoFar setting tables first changes number (map command_view (drop i commands)) (map command_view commands)
    → AppliesAll setting first tables (map command_view commands) changes
applied_to_end setting tables first changes number i commands past so_far =
    applies_all setting tables first changes number (map command_view commands)
    (subst (λ left. SoFar setting tables first changes number (map command_view left) (map command_view commands))
    (drop_past commands i past) so_far)
