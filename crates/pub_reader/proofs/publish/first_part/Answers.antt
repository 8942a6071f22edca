use Rattle.std.proofs.Common.{arith}
use Rattle.pub_reader.proofs.Listing.{parts-cut, parts-whole}
use Rattle.pub_reader.proofs.publish.first_part.Goals as goal

pub returns-in-empty-clause-parts : goal.returns-in-empty-clause-parts
returns-in-empty-clause-parts c =
    parts-whole c.args.text.now c.split_at.result.0.now c.split_at.result.1.now c.part_len.result
    c.part_len.ensures.value c.split_at.ensures.front c.split_at.ensures.back c.in-empty.len_below

pub returns-in-len1-up-clause-parts : goal.returns-in-len1-up-clause-parts
returns-in-len1-up-clause-parts c =
    parts-cut c.args.text.now c.split_at.result.0.now c.split_at.result.1.now c.part_len.result
    c.part_len.ensures.value c.split_at.ensures.front c.split_at.ensures.back
    (omega (arith, c.in-len1-up.len_at_least))
