-- Scripts: steps to the end of a text, each ended by a semicolon. No step is empty.
use Rattle.std.specs.Prelude.{ℕ, List, [], ◌∷◌, ◌++◌, length}
use Rattle.filter_tree.specs.declared.table.Table.{Table}
use Rattle.pub_reader.specs.Grammar.i
use Rattle.pub_reader.specs.Grammar.{Rule, Verdict, ◌>>=◌, ◌>>◌, pure, here, expect, more_ahead, each, repeat}
use Rattle.sql_reader.specs.Items.{items_of}
use Rattle.sql_reader.specs.Rows.{without_rest}
use Rattle.pub_reader.specs.Steps.{StepOf, counted_word, step_body}

-- a step, and the place of its first word
pub record LineOf : Type 0 where
  pub place : ℕ
  pub step : StepOf

-- a step that has this number of steps before it
unfoldable pub next_line : List Table → ℕ → Rule LineOf
next_line tables count = do
  place ← here
  word ← counted_word count
  step ← step_body word tables
  expect i.Semicolon
  pure (record { place = place; step = step })

-- one more step
unfoldable pub one_line : List Table → List LineOf → Rule (List LineOf)
one_line tables lines = next_line tables (length lines) >>= (λ line. pure (lines ++ line ∷ []))

unfoldable pub lines : List Table → Rule (List LineOf)
lines tables = repeat (each more_ahead (one_line tables)) []

-- the steps that a text spells, or the first fault of the text; the tables of its commands are those of a catalog
unfoldable pub script_by : List Table → List ℕ → Verdict (List LineOf)
script_by tables text = without_rest (lines tables (items_of text))
