use Rattle.std.proofs.Common.{rules}
use Rattle.tables_log.proofs.applying.take.Goals as goal

pub returns : goal.returns
returns c = record {
  fault = search rules;
  keeps = c.in_ok-remove.ensures.keeps;
  found = search rules;
  puts = c.in_ok-remove.ensures.puts;
}
