use Rattle.std.proofs.Common.{rules, append_assoc, sym}
use Rattle.catalog_text.proofs.Numbers.{number_written}
use Rattle.catalog_text.proofs.atom.write_between.Goals as goal

pub returns : goal.returns
returns c =
    rw (sym (number_written c.args.low c.ranges.low), sym (number_written c.args.high c.ranges.high))
    (search (rules, append_assoc))
