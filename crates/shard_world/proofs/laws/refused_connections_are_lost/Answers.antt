-- What each refused call leaves is that of its lemma.
use Rattle.shard_world.proofs.RefusedAnswers.{opens_are_answered, hears_are_answered, takes_are_answered, keeps_are_answered, reports_are_answered}
use Rattle.shard_world.proofs.RefusedFeeding.{deliver_halts, delivers_are_answered}
use Rattle.shard_world.proofs.RefusedHearing.{hear_halts}
use Rattle.shard_world.proofs.RefusedSteps.{open_stays, open_breaks, take_halts, keep_halts, report_halts, loss_breaks}
use Rattle.shard_world.proofs.laws.refused_connections_are_lost.Goals as goal

pub returns-clause-opens : goal.returns-clause-opens
returns-clause-opens c = opens_are_answered

pub returns-clause-hears : goal.returns-clause-hears
returns-clause-hears c = hears_are_answered

pub returns-clause-takes : goal.returns-clause-takes
returns-clause-takes c = takes_are_answered

pub returns-clause-keeps : goal.returns-clause-keeps
returns-clause-keeps c = keeps_are_answered

pub returns-clause-delivers : goal.returns-clause-delivers
returns-clause-delivers c = delivers_are_answered

pub returns-clause-reports : goal.returns-clause-reports
returns-clause-reports c = reports_are_answered

pub returns-clause-stays : goal.returns-clause-stays
returns-clause-stays c = open_stays

pub returns-clause-opened : goal.returns-clause-opened
returns-clause-opened c = open_breaks

pub returns-clause-heard : goal.returns-clause-heard
returns-clause-heard c = hear_halts

pub returns-clause-taken : goal.returns-clause-taken
returns-clause-taken c = take_halts

pub returns-clause-kept : goal.returns-clause-kept
returns-clause-kept c = keep_halts

pub returns-clause-delivered : goal.returns-clause-delivered
returns-clause-delivered c = deliver_halts

pub returns-clause-reported : goal.returns-clause-reported
returns-clause-reported c = report_halts

pub returns-clause-lost : goal.returns-clause-lost
returns-clause-lost c = loss_breaks
