use Rattle.std.proofs.Common.{map}
use Rattle.table_changes.specs.Commands.{command_view}
use Rattle.senders.proofs.ReplayLemmas.{other_now, refused_then}
use Rattle.senders.proofs.replaying.make_again.Goals as goal

pub returns-then-not-have_same_entry-clause-err : goal.returns-then-not-have_same_entry-clause-err
returns-then-not-have_same_entry-clause-err c =
    other_now c.args.book.now c.args.fresh.now c.commit.new.self c.args.receipt.now
    (map command_view c.commands.result.now) c.time.result c.in-Ok.number
    c.commands.ensures c.time.ensures c.in-Ok.ensures.ok c.if-not-have_same_entry.ensures

pub returns-else-is_memory-clause-err : goal.returns-else-is_memory-clause-err
returns-else-is_memory-clause-err c =
    refused_then c.args.book.now c.args.fresh.now c.args.receipt.now (map command_view c.commands.result.now)
    c.in-Err.error
    c.commands.ensures c.if-is_memory.ensures c.in-Err.ensures.refused
