-- What a book refuses, whatever rows there are.
use Rattle.std.proofs.Common.{◌≡◌, List, refl, subst}
use Rattle.shard_checker.specs.CheckedView.{CheckedOf, setting_in}
use Rattle.table_changes.specs.Commands.{Command, NoTable, Unfit}
use Rattle.table_changes.proofs.AlwaysLemmas.{faults_of_commands_stay}
use Rattle.tables_log.specs.BookView.{book_checked, book_setting, book_rows}
use Rattle.tables_log.specs.Committing.{RefusedBy}
use Rattle.tables_log.specs.declared.book.Book.{Book}
use Rattle.tables_log.specs.declared.error.CommandFault.TheVariants as f
use Rattle.tables_log.specs.declared.error.CommitError.{CommitError}
use Rattle.tables_log.specs.declared.error.CommitError.TheVariants as e
use Rattle.publisher_desk.specs.Refusals.{HasFault}

has_fault_in : (book : Book) (commands : List Command) (error : CommitError) → RefusedBy book commands error
    → HasFault (book_setting book) commands error
has_fault_in book commands e.EmptyTransaction refused = refused
has_fault_in book commands e.TooManyCommands refused = refused
has_fault_in book commands e.LogFull refused = tt
has_fault_in book commands (e.At number f.NoTable) refused =
    faults_of_commands_stay (book_setting book) (book_rows book) commands number NoTable refl refused.first
has_fault_in book commands (e.At number (f.Row fault)) refused =
    faults_of_commands_stay (book_setting book) (book_rows book) commands number (Unfit fault) refl refused.first
has_fault_in book commands (e.At number f.NoSuchRow) refused = tt
has_fault_in book commands (e.At number f.DuplicateKey) refused = tt
has_fault_in book commands e.OutOfMemory refused = tt

pub has_fault : (checked : CheckedOf) (book : Book) (commands : List Command) (error : CommitError)
    → book_checked book ≡ checked → RefusedBy book commands error
    → HasFault (setting_in checked) commands error
has_fault checked book commands error named refused =
    subst (λ (one : CheckedOf). HasFault (setting_in one) commands error) named
    (has_fault_in book commands error refused)
