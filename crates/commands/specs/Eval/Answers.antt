-- What publications say of a row of a table: PostgreSQL 15, "Logical Replication", 31.1 Publication and 31.3 Row
-- Filters.
use Rattle.std.specs.Prelude.{ℕ, List, [], ◌∷◌, ◌++◌, Option, Some, None, map, codes}
use Rattle.std.specs.List.{join_with_byte}
use Rattle.filter_tree.specs.Datum.{Datum}
use Rattle.filter_tree.specs.Expr.{Expr, meaning}
use Rattle.filter_tree.specs.declared.tri.Tri.TheVariants.{True, False, Null}
use Rattle.commands.specs.Eval.Carriers.{CarrierOf}
use Rattle.commands.specs.declared.eval.answers.PublicationAnswer.{PublicationAnswer}
use Rattle.commands.specs.declared.eval.answers.PublicationAnswer.TheVariants.{All, Filtered}

-- where a publication carries the table by a filter, what that says; with no filter it carries all rows
abbrev pub answer_of : List Datum → Option Expr → PublicationAnswer
answer_of row None = All
answer_of row (Some filter) = Filtered (meaning filter row)

abbrev pub word_of : PublicationAnswer → List ℕ
word_of All = codes "all"
word_of (Filtered True) = codes "true"
word_of (Filtered False) = codes "false"
word_of (Filtered Null) = codes "null"

-- `name=answer`
abbrev pub answer_text : List ℕ → PublicationAnswer → List ℕ
answer_text name answer = name ++ 61 ∷ word_of answer

abbrev pub said_by : List Datum → CarrierOf → List ℕ
said_by row carrier = answer_text carrier.name (answer_of row carrier.filter)

-- what each publication that carries the table says, a space between
abbrev pub line_of : List Datum → List CarrierOf → List ℕ
line_of row carriers = join_with_byte 32 (map (said_by row) carriers)

-- a line after which one more publication has its say
abbrev pub with_said : List ℕ → List ℕ → List ℕ
with_said [] said = said
with_said (byte ∷ line) said = (byte ∷ line) ++ 32 ∷ said
