use Rattle.std.proofs.Common.{◌+◌, ◌*◌}
use Rattle.split_cert.specs.Tree.{nodes}
use Rattle.split_cert.specs.Where.{tree_view}
use Rattle.shard_checker.proofs.walk.+tree.Given as goal

-- a tree's nodes; a tree is before its branches
abbrev pub decreases-visit_branches : goal.decreases-visit_branches
decreases-visit_branches g l =
    2 * (nodes (tree_view l.if_true.now) + nodes (tree_view l.if_false.now) + nodes (tree_view l.if_null.now)) + 1

abbrev pub decreases-visit_tree : goal.decreases-visit_tree
decreases-visit_tree g l = 2 * nodes (tree_view l.tree.now)
