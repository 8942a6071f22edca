use Rattle.shard_world.proofs.WorldLemmas.{worlds_hold_exactly, worlds_divide_rows, worlds_start_as_asked}
use Rattle.shard_world.proofs.laws.subscribers_divide_the_tables.Goals as goal

pub returns-clause-exactly : goal.returns-clause-exactly
returns-clause-exactly c = worlds_hold_exactly

pub returns-clause-divided : goal.returns-clause-divided
returns-clause-divided c = worlds_divide_rows

pub returns-clause-asked : goal.returns-clause-asked
returns-clause-asked c = worlds_start_as_asked
