use Rattle.std.proofs.Common.{◌≡◌, ◌≤◌}
use Rattle.std.specs.Prelude.{fold}
use Rattle.filter_tree.specs.Shape.{atoms_view, expr_view}
use Rattle.sql_reader.specs.Limits.{expr_nodes}
use Rattle.sql_reader.specs.Counting.{atoms_backwards, gathered}
use Rattle.sql_reader.proofs.limits.+gather_atoms.Given as goal

abbrev pub decreases-gather_atoms : goal.decreases-gather_atoms
decreases-gather_atoms l = expr_nodes (expr_view l.filter.now)

-- the atoms of the part that is left complete the list
abbrev pub invariant-loop-part : goal.invariant-loop-part
invariant-loop-part l = record {
  smaller : expr_nodes (expr_view l.part) ≤ expr_nodes (expr_view l.filter);
  same_list : fold gathered (atoms_view l.atoms.items) (atoms_backwards (expr_view l.part))
      ≡ fold gathered (atoms_view l.initial.atoms.items) (atoms_backwards (expr_view l.filter));
}

abbrev pub decreases-loop-part : goal.decreases-loop-part
decreases-loop-part l = expr_nodes (expr_view l.part)
