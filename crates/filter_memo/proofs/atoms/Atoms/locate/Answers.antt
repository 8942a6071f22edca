use Rattle.std.proofs.Common.{List, Global, refl, subst}
use Rattle.filter_tree.specs.declared.filter.Filter.{Filter}
use Rattle.filter_memo.specs.Telling.{AreCells, Judges, numbers_in}
use Rattle.filter_memo.specs.declared.breakpoints.Breakpoints.{Breakpoints}
use Rattle.filter_memo.proofs.AtomLemmas.{other_cells, located}
use Rattle.filter_memo.proofs.atoms.Atoms.locate.Goals as goal

pub returns-clause-atoms : goal.returns-clause-atoms
returns-clause-atoms c = λ filters is.
    let judged : AreCells c.args.self.now.parts.items c.args.self.now.all_breakpoints.items c.args.self.now.cells
    → Judges c.args.self.now.parts.items c.args.self.now.all_breakpoints.items c.locate_all.new.cells
    (numbers_in c.args.self.now.all_breakpoints.items) c.args.row.now c.locate_all.result =
    subst (λ (parts : List (Filter Global)).
    AreCells parts c.args.self.now.all_breakpoints.items c.args.self.now.cells
    → Judges parts c.args.self.now.all_breakpoints.items c.locate_all.new.cells
    (numbers_in c.args.self.now.all_breakpoints.items) c.args.row.now c.locate_all.result) c.deref.ensures.value
    (subst (λ (all : List Breakpoints). AreCells c.deref.result.now all c.args.self.now.cells
    → Judges c.deref.result.now all c.locate_all.new.cells (numbers_in all) c.args.row.now c.locate_all.result)
    c.deref-2.ensures.value c.locate_all.ensures) in
    other_cells c.args.self.now _ filters is refl refl refl refl (λ cells. (judged cells).kept)

pub returns-clause-located : goal.returns-clause-located
returns-clause-located c = λ filters is.
    let judged : AreCells c.args.self.now.parts.items c.args.self.now.all_breakpoints.items c.args.self.now.cells
    → Judges c.args.self.now.parts.items c.args.self.now.all_breakpoints.items c.locate_all.new.cells
    (numbers_in c.args.self.now.all_breakpoints.items) c.args.row.now c.locate_all.result =
    subst (λ (parts : List (Filter Global)).
    AreCells parts c.args.self.now.all_breakpoints.items c.args.self.now.cells
    → Judges parts c.args.self.now.all_breakpoints.items c.locate_all.new.cells
    (numbers_in c.args.self.now.all_breakpoints.items) c.args.row.now c.locate_all.result) c.deref.ensures.value
    (subst (λ (all : List Breakpoints). AreCells c.deref.result.now all c.args.self.now.cells
    → Judges c.deref.result.now all c.locate_all.new.cells (numbers_in all) c.args.row.now c.locate_all.result)
    c.deref-2.ensures.value c.locate_all.ensures) in
    located c.args.self.now _ filters is refl refl c.args.row.now c.locate_all.result (λ cells. (judged cells).values)
