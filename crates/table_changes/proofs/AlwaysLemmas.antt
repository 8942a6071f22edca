-- A fault that a command has by itself stays, whatever rows there are.
use Rattle.std.proofs.Common.{◌≡◌, ℕ, suc, ◌+◌, Bool, true, false, List, [], ◌∷◌, refl, sym, ◌∙◌, ap, arith}
use Rattle.std.specs.Prelude.{Option, Some, None, is_some, slice_get}
use Rattle.filter_tree.specs.declared.validity.RowFault.{RowFault}
use Rattle.table_changes.specs.Always.{is_of_command, FaultsOfCommandsStay}
use Rattle.table_changes.specs.Commands.{Command, Insert, Update, Delete, Truncate, CommandFault, NoTable, NoSuchRow, DuplicateKey, unless, unless_unfit, named, fault_of, applied, numbered, first_fault}
use Rattle.table_changes.specs.Setting.{Setting}
use Rattle.table_changes.specs.Tables.{Tables, without, is_free}

-- ---- one command

-- the fault, if there is one, depends on the rows
abbrev IsOfRows : Option CommandFault → Type 0
IsOfRows found = (fault : CommandFault) → is_of_command fault ≡ true → found ≡ Some fault → ⊥

none_of_rows : IsOfRows None
none_of_rows fault own is = cc

one_of_rows : (test : Bool) (fault : CommandFault) (rest : Option CommandFault) → is_of_command fault ≡ false
    → IsOfRows rest → IsOfRows (unless test fault rest)
one_of_rows true fault rest other later found own is = later found own is
one_of_rows false fault rest other later found own is =
    let same : fault ≡ found = cc in
    let no : true ≡ false = sym own ∙ ap is_of_command (sym same) ∙ other in
    cc

taken_of_rows : (free : Bool) → IsOfRows (unless free DuplicateKey None)
taken_of_rows free = one_of_rows free DuplicateKey None refl none_of_rows

-- what comes after the tests of the command alone may change
stays : (known : Bool) (unfit : Option RowFault) (rest other : Option CommandFault) (fault : CommandFault)
    → is_of_command fault ≡ true → IsOfRows rest
    → unless known NoTable (unless_unfit unfit rest) ≡ Some fault
    → unless known NoTable (unless_unfit unfit other) ≡ Some fault
stays true None rest other fault own rows is = absurd (rows fault own is)
stays true (Some unfit) rest other fault own rows is = is
stays false unfit rest other fault own rows is = is

always_of : (setting : Setting) (tables : Tables) (command : Command) (fault : CommandFault)
    → is_of_command fault ≡ true → fault_of setting tables command ≡ Some fault
    → (others : Tables) → fault_of setting others command ≡ Some fault
always_of setting tables (Insert table row) fault own is others =
    stays (setting.known table) (setting.fault table row) _ _ fault own
    (taken_of_rows (is_free setting.keys tables table row)) is
always_of setting tables (Update table key row) fault own is others =
    stays (setting.known table) (setting.fault table row) _ _ fault own
    (one_of_rows (is_some (named tables table key)) NoSuchRow _ refl
    (taken_of_rows (is_free setting.keys (without setting.keys tables table (named tables table key)) table row)))
    is
always_of setting tables (Delete table key) fault own is others =
    stays (setting.known table) None _ _ fault own
    (one_of_rows (is_some (named tables table key)) NoSuchRow None refl none_of_rows) is
always_of setting tables (Truncate numbers) fault own is others = is

-- ---- lists

-- the command with this number has the fault; the first one has the number `first`
record HasFrom (setting : Setting) (commands : List Command) (first number : ℕ) (fault : CommandFault) : Type 0 where
  place : ℕ
  command : Command
  number_is : number ≡ first + place
  at : slice_get commands place ≡ Some command
  always : (tables : Tables) → fault_of setting tables command ≡ Some fault

later : (setting : Setting) (command : Command) (commands : List Command) (first number : ℕ) (fault : CommandFault)
    → HasFrom setting commands (first + 1) number fault → HasFrom setting (command ∷ commands) first number fault
later setting command commands first number fault has =
    record {
      place = suc has.place;
      command = has.command;
      number_is = omega (arith, has.number_is);
      at =
          has.at;
      always = has.always;
    }

here_or_later : (setting : Setting) (tables : Tables) (command : Command) (commands : List Command) (first number : ℕ)
    (fault : CommandFault) → is_of_command fault ≡ true
    → (first_fault setting (applied setting tables command) (first + 1) commands ≡ Some (number, fault)
    → HasFrom setting commands (first + 1) number fault)
    → (found : Option CommandFault) → fault_of setting tables command ≡ found
    → numbered first found (first_fault setting (applied setting tables command) (first + 1) commands)
    ≡ Some (number, fault) → HasFrom setting (command ∷ commands) first number fault
here_or_later setting tables command commands first number fault own rest None found told =
    later setting command commands first number fault (rest told)
here_or_later setting tables command commands first number fault own rest (Some one) found told =
    let pair : (first, one) ≡ (number, fault) = cc in
    let same : first ≡ number = ap (λ (p : ℕ × CommandFault). p.0) pair in
    let fault_is : one ≡ fault = ap (λ (p : ℕ × CommandFault). p.1) pair in
    record {
      place = 0;
      command = command;
      number_is = omega (arith, same);
      at = refl;
      always =
          always_of setting tables command fault own (found ∙ ap Some fault_is);
    }

has_from : (setting : Setting) (tables : Tables) (commands : List Command) (first number : ℕ) (fault : CommandFault)
    → is_of_command fault ≡ true
    → first_fault setting tables first commands ≡ Some (number, fault) → HasFrom setting commands first number fault
has_from setting tables [] first number fault own is = absurd cc
has_from setting tables (command ∷ commands) first number fault own is =
    here_or_later setting tables command commands first number fault own
    (has_from setting (applied setting tables command) commands (first + 1) number fault own)
    (fault_of setting tables command) refl is

pub faults_of_commands_stay : FaultsOfCommandsStay
faults_of_commands_stay setting tables commands number fault own is =
    let has : HasFrom setting commands 1 number fault = has_from setting tables commands 1 number fault own is in
    record {
      place = has.place;
      command = has.command;
      number_is = omega (arith, has.number_is);
      at = has.at;
      always =
          has.always;
    }
