use Rattle.std.proofs.Common.{◌+◌, ◌*◌}
use Rattle.cert_search.proofs.search.Search.+tree.Given as goal

-- the splits that the path may still have; a split is before its branches, a branch before its tree, and a tree before
-- what is made of it
abbrev pub decreases-branch : goal.decreases-branch
decreases-branch l = 4 * l.may_split + 2

abbrev pub decreases-grow : goal.decreases-grow
decreases-grow l = 4 * l.may_split + 1

abbrev pub decreases-made : goal.decreases-made
decreases-made l = 4 * l.may_split

abbrev pub decreases-split : goal.decreases-split
decreases-split l = 4 * l.may_split + 3
