use Rattle.std.proofs.Common.{◌+◌, ◌*◌, length}
use Rattle.split_cert.proofs.reading.+tree.Given as goal

-- the nodes that are left; a tree is before what comes after its first node, and branches are before their trees
abbrev pub decreases-tree : goal.decreases-tree
decreases-tree g l = 4 * length l.reader.now.nodes

abbrev pub decreases-rooted : goal.decreases-rooted
decreases-rooted g l = 4 * length l.reader.now.nodes + 3

abbrev pub decreases-split : goal.decreases-split
decreases-split g l = 4 * length l.reader.now.nodes + 2

abbrev pub decreases-branch : goal.decreases-branch
decreases-branch g l = 4 * length l.reader.now.nodes + 1
