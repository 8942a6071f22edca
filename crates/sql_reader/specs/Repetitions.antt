-- Lists and chains: a step of the grammar repeated until it says that there are no more.
use Rattle.std.specs.Prelude.{ℕ, zero, suc, Bool, nat_lt, if◌then◌else◌, Option, Some, None, Result, Ok, Err}
use Rattle.sql_reader.specs.declared.item.Item.{Item}
use Rattle.sql_reader.specs.Items.{Items, size}
use Rattle.sql_reader.specs.Reading.{Fault, Outcome, Rule, next_is, rest_of}

-- what a step makes of what was read so far, if there is one more
abbrev pub RepeatStep : Type 0 → Type 0
RepeatStep S = S → Items → Result (Option (S × Items)) Fault

abbrev pub after_step : {S : Type 0} → Result (Option (S × Items)) Fault → (Option (S × Items) → Outcome S) → Outcome S
after_step (Ok more) go_on = go_on more
after_step (Err fault) go_on = Err fault

-- A step that consumes no token is the last one; no step of the grammar is such a step.
abbrev pub goes : {S : Type 0} → (S → Rule S) → S → Items → Option (S × Items) → Outcome S
goes more s ts None = Ok (s, ts)
goes more s ts (Some read) = if nat_lt (size read.1) (size ts) then more read.0 read.1 else Ok read

unfoldable pub at_most : {S : Type 0} → ℕ → RepeatStep S → S → Rule S
at_most zero step s ts = Ok (s, ts)
at_most (suc n) step s ts = after_step (step s ts) (goes (at_most n step) s ts)

-- as many steps as there are: each consumes a token, so there are no more steps than tokens
unfoldable pub repeat : {S : Type 0} → RepeatStep S → S → Rule S
repeat step s ts = at_most (suc (size ts)) step s ts

-- ---- the step of a list: a separator, and one more

abbrev pub one_more : {S : Type 0} → Outcome S → Result (Option (S × Items)) Fault
one_more (Ok read) = Ok (Some read)
one_more (Err fault) = Err fault

abbrev pub linked : {S : Type 0} → (S → Rule S) → S → Outcome Bool → Result (Option (S × Items)) Fault
linked read s (Ok more) = if more.0 then one_more (read s (rest_of more.1)) else Ok None
linked read s (Err fault) = Err fault

unfoldable pub link : {S : Type 0} → Item → (S → Rule S) → RepeatStep S
link separator read s ts = linked read s (next_is separator ts)

-- ---- the step of a list whose parts themselves show whether there is one more

abbrev pub guarded : {S : Type 0} → (S → Rule S) → S → Items → Result Bool Fault → Result (Option (S × Items)) Fault
guarded read s ts (Ok more) = if more then one_more (read s ts) else Ok None
guarded read s ts (Err fault) = Err fault

unfoldable pub each : {S : Type 0} → (Items → Result Bool Fault) → (S → Rule S) → RepeatStep S
each more read s ts = guarded read s ts (more ts)
