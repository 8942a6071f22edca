use Rattle.std.proofs.Common.{rules}
use Rattle.split_cert.proofs.NodeLemmas.{stays, over_at, stops_at, goes_on_at}
use Rattle.split_cert.proofs.node_reader.NodeReader.next.Goals as goal

pub returns-in_err-check_end : goal.returns-in_err-check_end
returns-in_err-check_end c = search (rules, stays, over_at)

pub returns-then-is_over : goal.returns-then-is_over
returns-then-is_over c = search (rules, stays, over_at)

pub returns-in_err-head : goal.returns-in_err-head
returns-in_err-head c = search (rules, stays, stops_at)

pub returns : goal.returns
returns c = search (rules, goes_on_at)
