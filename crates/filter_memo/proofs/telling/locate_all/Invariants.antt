use Rattle.std.proofs.Common.{take}
use Rattle.filter_memo.specs.Telling.{AreCells, Judges, numbers_in}
use Rattle.filter_memo.proofs.telling.locate_all.Given as goal

-- the values of the filters of the terms so far
abbrev pub invariant-loop-number : goal.invariant-loop-number
invariant-loop-number l = AreCells l.parts l.all_breakpoints l.initial.cells
    → Judges l.parts l.all_breakpoints l.cells (numbers_in (take l.number l.all_breakpoints)) l.row l.said
