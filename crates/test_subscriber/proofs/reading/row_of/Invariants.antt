use Rattle.std.proofs.Common.{◌≡◌, length, drop, map}
use Rattle.filter_tree.specs.Values.{datum_view}
use Rattle.pgoutput_msgs.specs.ValueText.{row_in}
use Rattle.test_subscriber.proofs.GatherLemmas.{after}
use Rattle.test_subscriber.proofs.reading.row_of.Given as goal

-- the values so far, and the remaining ones
abbrev pub invariant-loop-cell : goal.invariant-loop-cell
invariant-loop-cell l =
    (length l.values.items ≡ length l.yielded)
    × (length l.kinds ≡ length l.fn.cells.items)
    × (after (map datum_view l.values.items)
    (row_in (drop (length l.yielded) l.kinds) (drop (length l.yielded) l.fn.cells.items))
    ≡ row_in l.kinds l.fn.cells.items)
