-- The steps of a script, in words of their own: what is committed, and what happens on the connection of a subscriber,
-- by its number. Bytes are counted.
use Rattle.std.specs.Prelude.{ℕ, Bool, true, false, nat_le, List, Option, Some, None, if◌then◌else◌, codes}
use Rattle.std.specs.Str.{str_eq_ignore_ascii_case}
use Rattle.filter_tree.specs.declared.table.Table.{Table}
use Rattle.table_changes.specs.Commands.{Command}
use Rattle.sql_reader.specs.declared.error.Limit.TheVariants.{Steps}
use Rattle.pub_reader.specs.Grammar.k
use Rattle.pub_reader.specs.Grammar.i
use Rattle.pub_reader.specs.Grammar.w
use Rattle.pub_reader.specs.Grammar.{Item, Rule, ◌>>=◌, ◌>>◌, pure, refuse, refuse_as, advance, item_ahead, written_ahead}
use Rattle.sql_reader.specs.Items.{Items}
use Rattle.pub_reader.specs.declared.step_word.StepWord.{StepWord}
use Rattle.pub_reader.specs.declared.step_word.StepWord.TheVariants as s
use Rattle.pub_reader.specs.ScriptCommands.{commands_or_none}

pub data StepOf : Type 0 where
  Commit : List Command → StepOf
  Open : ℕ → StepOf
  Hear : ℕ → ℕ → StepOf
  Take : ℕ → StepOf
  Keep : ℕ → Bool → StepOf
  Deliver : ℕ → ℕ → StepOf
  Report : ℕ → Bool → StepOf
  Lose : ℕ → StepOf
  Pump : ℕ → StepOf
  View : StepOf

-- ---- the words that begin steps, in upper or lower case; all of them may also be names

unfoldable pub step_word : List ℕ → Option StepWord
step_word word =
    if str_eq_ignore_ascii_case word (codes "commit") then Some s.Commit else
    if str_eq_ignore_ascii_case word (codes "open") then Some s.Open else
    if str_eq_ignore_ascii_case word (codes "hear") then Some s.Hear else
    if str_eq_ignore_ascii_case word (codes "take") then Some s.Take else
    if str_eq_ignore_ascii_case word (codes "keep") then Some s.Keep else
    if str_eq_ignore_ascii_case word (codes "deliver") then Some s.Deliver else
    if str_eq_ignore_ascii_case word (codes "report") then Some s.Report else
    if str_eq_ignore_ascii_case word (codes "lose") then Some s.Lose else
    if str_eq_ignore_ascii_case word (codes "pump") then Some s.Pump else
    if str_eq_ignore_ascii_case word (codes "view") then Some s.View else
    None

abbrev pub step_word_by : Option Item → List ℕ → Option StepWord
step_word_by (Some i.Word) written = step_word written
step_word_by _ written = None

unfoldable pub step_ahead : Items → Option StepWord
step_ahead ts = step_word_by (item_ahead ts) (written_ahead ts)

-- The word of a step after this number of other steps: there are at most 100,000 steps, and no token after the word is
-- looked at.
abbrev pub step_counted : ℕ → Option StepWord → Rule StepWord
step_counted count None = refuse
step_counted count (Some word) = if nat_le 100000 count then refuse_as (w.TooMany Steps) else advance >> pure word

unfoldable pub counted_word : ℕ → Rule StepWord
counted_word count ts = step_counted count (step_ahead ts) ts

-- ---- numbers and truth values

abbrev pub natural_by : Option Item → Rule ℕ
natural_by (Some (i.Number number)) = advance >> pure number
natural_by _ = refuse

-- a number without a sign
unfoldable pub natural : Rule ℕ
natural ts = natural_by (item_ahead ts) ts

abbrev pub truth_by : Option Item → Rule Bool
truth_by (Some (i.Keyword k.True)) = advance >> pure true
truth_by (Some (i.Keyword k.False)) = advance >> pure false
truth_by _ = refuse

unfoldable pub truth_word : Rule Bool
truth_word ts = truth_by (item_ahead ts) ts

-- FALSE if there is none
abbrev pub truth_or_false_by : Option Item → Rule Bool
truth_or_false_by (Some (i.Keyword k.True)) = advance >> pure true
truth_or_false_by (Some (i.Keyword k.False)) = advance >> pure false
truth_or_false_by _ = pure false

unfoldable pub truth_or_false : Rule Bool
truth_or_false ts = truth_or_false_by (item_ahead ts) ts

-- ---- steps, after their words

unfoldable pub commit_body : List Table → Rule StepOf
commit_body tables = commands_or_none tables >>= (λ commands. pure (Commit commands))

-- a step on a subscriber only
unfoldable pub on_subscriber : (ℕ → StepOf) → Rule StepOf
on_subscriber step = natural >>= (λ subscriber. pure (step subscriber))

unfoldable pub hear_body : Rule StepOf
hear_body = do
  subscriber ← natural
  bytes ← natural
  pure (Hear subscriber bytes)

unfoldable pub keep_body : Rule StepOf
keep_body = do
  subscriber ← natural
  want ← truth_word
  pure (Keep subscriber want)

unfoldable pub deliver_body : Rule StepOf
deliver_body = do
  subscriber ← natural
  bytes ← natural
  pure (Deliver subscriber bytes)

unfoldable pub report_body : Rule StepOf
report_body = do
  subscriber ← natural
  want ← truth_or_false
  pure (Report subscriber want)

abbrev pub step_by : StepWord → List Table → Rule StepOf
step_by s.Commit tables = commit_body tables
step_by s.Open tables = on_subscriber Open
step_by s.Hear tables = hear_body
step_by s.Take tables = on_subscriber Take
step_by s.Keep tables = keep_body
step_by s.Deliver tables = deliver_body
step_by s.Report tables = report_body
step_by s.Lose tables = on_subscriber Lose
step_by s.Pump tables = on_subscriber Pump
step_by s.View tables = pure View

unfoldable pub step_body : StepWord → List Table → Rule StepOf
step_body word tables = step_by word tables
