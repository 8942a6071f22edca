use Rattle.std.proofs.Common.{List, length, ap, arith}
use Rattle.std.specs.List.{flat_map}
use Rattle.filter_tree.specs.Datum.{Datum}
use Rattle.pgoutput_msgs.specs.Spelling.{cell_spelling}
use Rattle.pgoutput_msgs.specs.ValueText.{cells_of}
use Rattle.pgoutput_msgs.proofs.RowWriting.{spelled_values}
use Rattle.pgoutput_msgs.proofs.row_tuple.row_room.Goals as goal

pub returns : goal.returns
returns c =
    let row = ap (λ (row : List Datum). length (flat_map cell_spelling (cells_of row))) c.values.ensures in
    omega (arith, c.values_room.ensures, c.saturating_add.ensures, row, ap length (spelled_values c.values.result.now))
