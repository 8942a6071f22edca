-- The Insert message of a row that some publication carries: PostgreSQL 15, "Row Filters", 31.3, and "Logical
-- Replication Message Formats", 55.9.
use Rattle.std.specs.Prelude.{ℕ, Bool, true, false, if◌then◌else◌, List, codes}
use Rattle.std.specs.List.{list_any}
use Rattle.filter_tree.specs.Datum.{Datum}
use Rattle.filter_tree.specs.declared.tri.Tri.TheVariants.{True}
use Rattle.pgoutput_msgs.specs.Spelling.{spelling_of}
use Rattle.pgoutput_msgs.specs.Telling.{oid_of}
use Rattle.pgoutput_msgs.specs.ValueText.{cells_of}
use Rattle.pgoutput_msgs.specs.declared.message.Msg.{Msg}
use Rattle.pgoutput_msgs.specs.declared.message.Msg.TheVariants.{Insert}
use Rattle.commands.specs.Eval.Answers.{answer_of}
use Rattle.commands.specs.Eval.Carriers.{CarrierOf}
use Rattle.commands.specs.Eval.Hexadecimal.{hexadecimal}
use Rattle.commands.specs.declared.eval.answers.PublicationAnswer.{PublicationAnswer}
use Rattle.commands.specs.declared.eval.answers.PublicationAnswer.TheVariants.{All, Filtered}

-- a row is carried where the whole table is, or where the filter is true
abbrev pub is_through : PublicationAnswer → Bool
is_through All = true
is_through (Filtered True) = true
is_through _ = false

abbrev pub carrier_has : List Datum → CarrierOf → Bool
carrier_has row carrier = is_through (answer_of row carrier.filter)

abbrev pub is_carried : List Datum → List CarrierOf → Bool
is_carried row carriers = list_any (carrier_has row) carriers

abbrev pub insert_of : ℕ → List Datum → Msg
insert_of table row = Insert (oid_of table) (cells_of row)

abbrev pub message_text : ℕ → List Datum → List ℕ
message_text table row = hexadecimal (spelling_of (insert_of table row))

-- the message of a row that some publication carries, or `none`
abbrev pub insert_line : ℕ → List Datum → List CarrierOf → List ℕ
insert_line table row carriers =
    if is_carried row carriers then message_text table row
    else codes "none"
