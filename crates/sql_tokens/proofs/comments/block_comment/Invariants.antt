use Rattle.std.proofs.Common.{◌≡◌, ◌+◌, ◌≤◌, length}
use Rattle.sql_tokens.specs.Comments.{longer, block_comment}
use Rattle.sql_tokens.proofs.CommentLoops.{comment_from}
use Rattle.sql_tokens.proofs.comments.block_comment.Given as goal

abbrev pub invariant-loop-rest : goal.invariant-loop-rest
invariant-loop-rest l =
    (longer l.length (comment_from l.depth l.before l.rest) ≡ block_comment 0 l.bytes)
    × (l.length + length l.rest ≡ length l.bytes) × (l.depth ≤ l.length)

abbrev pub decreases-loop-rest : goal.decreases-loop-rest
decreases-loop-rest l = length l.rest
