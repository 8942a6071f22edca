-- A script that is read has at most 100,000 steps.
use Rattle.std.proofs.Common.{◌≡◌, ℕ, ◌<◌, ◌≤◌, Bool, true, false, List, [], length, map, refl, subst, arith}
use Rattle.std.specs.Prelude.{if◌then◌else◌, nat_le, Option, Some, None, Ok, Err}
use Rattle.std.proofs.lemmas.List.{length_push, length-map}
use Rattle.filter_tree.specs.declared.table.Table.{Table}
use Rattle.sql_reader.specs.declared.error.Limit.TheVariants.{Steps}
use Rattle.sql_reader.specs.declared.item.Item.TheVariants as i
use Rattle.sql_reader.specs.Items.{Items, items_of}
use Rattle.sql_reader.specs.Reading.{Outcome, ◌>>◌, pure, refuse_as, advance, expect, more_ahead}
use Rattle.sql_reader.specs.Rows.{without_rest}
use Rattle.sql_reader.specs.Repetitions.{each}
use Rattle.sql_reader.specs.ErrorKinds as w
use Rattle.sql_reader.proofs.Keeping.{Gives, then-gives, any-gives, repeat-gives, each-gives}
use Rattle.sql_reader.proofs.Widths.{below}
use Rattle.pub_reader.specs.declared.script.Line.{Line}
use Rattle.pub_reader.specs.declared.step_word.StepWord.{StepWord}
use Rattle.pub_reader.specs.Scripts.{LineOf, next_line, one_line, lines, script_by}
use Rattle.pub_reader.specs.ScriptView.{line_view}
use Rattle.pub_reader.specs.Steps.{step_counted, counted_word, step_ahead, step_body}

counted_by : (count : ℕ) (word : StepWord) (ts : Items) (full : Bool) → nat_le 100000 count ≡ full
    → Gives (λ (u : StepWord). count < 100000) ((if full then refuse_as (w.TooMany Steps) else advance >> pure word) ts)
counted_by count word ts true is = tt
counted_by count word ts false is = below 100000 count is

counted-gives : (count : ℕ) (word : Option StepWord) (ts : Items)
    → Gives (λ (u : StepWord). count < 100000) (step_counted count word ts)
counted-gives count None ts = tt
counted-gives count (Some word) ts = counted_by count word ts (nat_le 100000 count) refl

next_line-gives : (tables : List Table) (count : ℕ) (ts : Items)
    → Gives (λ (line : LineOf). count < 100000) (next_line tables count ts)
unfolding next_line counted_word
next_line-gives tables count ts =
    let room : LineOf → Type 0 = λ line. count < 100000 in
    then-gives (λ (u : StepWord). count < 100000) room (counted_word count ts) _
    (counted-gives count (step_ahead ts) ts) (λ word ts2 has.
    any-gives room (step_body word tables ts2) _ (λ step ts3.
    any-gives room (expect i.Semicolon ts3) _ (λ semicolon ts4. has)))

one_line-gives : (tables : List Table) (lines : List LineOf) (ts : Items) → length lines ≤ 100000
    → Gives (λ (more : List LineOf). length more ≤ 100000) (one_line tables lines ts)
unfolding one_line
one_line-gives tables lines ts short =
    then-gives (λ (line : LineOf). length lines < 100000) (λ (more : List LineOf). length more ≤ 100000)
    (next_line tables (length lines) ts) _ (next_line-gives tables (length lines) ts)
    (λ line ts2 room. omega (arith, length_push lines line))

lines-gives : (tables : List Table) (ts : Items)
    → Gives (λ (made : List LineOf). length made ≤ 100000) (lines tables ts)
unfolding lines
lines-gives tables ts =
    let short : List LineOf → Type 0 = λ made. length made ≤ 100000 in
    repeat-gives short (each more_ahead (one_line tables))
    (each-gives short more_ahead (one_line tables) (one_line-gives tables)) [] ts (omega arith)

without_rest-short : (read : Outcome (List LineOf)) (made : List LineOf)
    → Gives (λ (made : List LineOf). length made ≤ 100000) read → without_rest read ≡ Ok made → length made ≤ 100000
without_rest-short (Ok read) made short is = let same : read.0 ≡ made = cc in
    subst (λ (steps : List LineOf). length steps ≤ 100000) same short
without_rest-short (Err fault) made short is = absurd (cc)

script_by-short : (tables : List Table) (text : List ℕ) (made : List LineOf) → script_by tables text ≡ Ok made
    → length made ≤ 100000
unfolding script_by
script_by-short tables text made is =
    without_rest-short (lines tables (items_of text)) made (lines-gives tables (items_of text)) is

pub script_is_short : (tables : List Table) (text : List ℕ) (made : List Line)
    → script_by tables text ≡ Ok (map line_view made) → length made ≤ 100000
script_is_short tables text made is =
    let short : length (map line_view made) ≤ 100000 = script_by-short tables text (map line_view made) is in
    omega (arith, length-map made line_view)
