use Rattle.std.proofs.Common.{◌+◌, ◌*◌}
use Rattle.cert_search.proofs.parts.Parts.+tree.Given as goal

-- the splits that the path may still have; a branch is before its tree
abbrev pub decreases-branch : goal.decreases-branch
decreases-branch l = 2 * l.may_split + 1

abbrev pub decreases-tree : goal.decreases-tree
decreases-tree l = 2 * l.may_split
