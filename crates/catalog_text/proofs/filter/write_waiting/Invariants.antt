use Rattle.std.proofs.Common.{◌≡◌, ◌++◌}
use Rattle.std.specs.String.{string_bytes}
use Rattle.catalog_text.specs.Waiting.{waiting_steps, waiting_text}
use Rattle.catalog_text.proofs.filter.write_waiting.Given as goal

-- what is written, and what waits, make up the whole text
abbrev pub invariant-loop-piece : goal.invariant-loop-piece
invariant-loop-piece l =
    string_bytes l.text ++ waiting_text l.columns l.waiting.items ≡ string_bytes l.initial.text
    ++ waiting_text l.columns l.initial.waiting.items

abbrev pub decreases-loop-piece : goal.decreases-loop-piece
decreases-loop-piece l = waiting_steps l.waiting.items
