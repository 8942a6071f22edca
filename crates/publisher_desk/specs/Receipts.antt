-- Receipts of commits, as plain data.
use Rattle.std.specs.Prelude.{ℕ, List, map}
use Rattle.table_changes.specs.Commands.{Command}
use Rattle.tables_log.specs.StandsFor.{Transaction}

pub record ReceiptOf : Type 0 where
  -- the number of the commit
  pub number : ℕ
  pub commands : List Command
  -- in microseconds since 2000-01-01
  pub time : ℕ

abbrev pub receipt_of : ℕ → List Command → ℕ → ReceiptOf
receipt_of number commands time = record { number = number; commands = commands; time = time }

abbrev pub transaction_of : ReceiptOf → Transaction
transaction_of receipt = record { commands = receipt.commands; time = receipt.time }

abbrev pub transactions_of : List ReceiptOf → List Transaction
transactions_of receipts = map transaction_of receipts
