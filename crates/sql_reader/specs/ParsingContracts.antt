-- What a function that reads by a rule of the grammar does: it consumes tokens from the front of what its reader still
-- has to read. The other words of such contracts are re-exported.
use Rattle.std.specs.Prelude.{◌≡◌, ◌<◌, ◌≤◌, Result, Ok, Err}
pub use Rattle.sql_reader.specs.Items.{to_read}
use Rattle.sql_reader.specs.declared.error.ReadError.{ReadError}
use Rattle.sql_reader.specs.declared.reader.Reader.{Reader}
use Rattle.sql_reader.specs.Items.{size}
use Rattle.sql_reader.specs.Reading.{Rule, Tells}
pub use Rattle.sql_reader.specs.Reading.{Reads, Answers, ReportsFault, item_ahead, written_ahead}

-- The result is the rule's, or out of memory, and the tokens that the rule leaves are those that are left, no more than
-- before. `view` gives the value read as plain data.
abbrev pub Takes : {A B : Type 0} → (A → B) → Rule B → Reader → Result A ReadError → Reader → Type 0
Takes view rule before (Ok value) after = (rule (to_read before) ≡ Ok (view value, to_read after))
    × (size (to_read after) ≤ size (to_read before))
Takes view rule before (Err error) after = Tells error (rule (to_read before))

-- The same for a rule that consumes at least one token.
abbrev pub TakesSome : {A B : Type 0} → (A → B) → Rule B → Reader → Result A ReadError → Reader → Type 0
TakesSome view rule before (Ok value) after = (rule (to_read before) ≡ Ok (view value, to_read after))
    × (size (to_read after) < size (to_read before))
TakesSome view rule before (Err error) after = Tells error (rule (to_read before))
