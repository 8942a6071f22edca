-- Each step is that of its lemma.
use Rattle.shard_world.proofs.JoinedPieces.{hears_step}
use Rattle.shard_world.proofs.JoinedFeeding.{delivers_on}
use Rattle.shard_world.proofs.JoinedLoss.{loses_on}
use Rattle.shard_world.proofs.JoinedSteps.{opens, takes, keeps, reports}
use Rattle.shard_world.proofs.laws.connections_step_as_the_world.Goals as goal

pub returns-clause-opened : goal.returns-clause-opened
returns-clause-opened c = opens

pub returns-clause-heard : goal.returns-clause-heard
returns-clause-heard c = hears_step

pub returns-clause-taken : goal.returns-clause-taken
returns-clause-taken c = takes

pub returns-clause-kept : goal.returns-clause-kept
returns-clause-kept c = keeps

pub returns-clause-delivered : goal.returns-clause-delivered
returns-clause-delivered c = delivers_on

pub returns-clause-reported : goal.returns-clause-reported
returns-clause-reported c = reports

pub returns-clause-lost : goal.returns-clause-lost
returns-clause-lost c = loses_on
