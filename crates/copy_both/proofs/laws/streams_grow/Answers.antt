use Rattle.copy_both.proofs.StreamLemmas as lemmas
use Rattle.copy_both.proofs.laws.streams_grow.Goals as goal

pub returns-clause-starts : goal.returns-clause-starts
returns-clause-starts g c = lemmas.starts

pub returns-clause-takes : goal.returns-clause-takes
returns-clause-takes g c = lemmas.takes

pub returns-clause-keeps : goal.returns-clause-keeps
returns-clause-keeps g c = lemmas.keeps

pub returns-clause-passes : goal.returns-clause-passes
returns-clause-passes g c = lemmas.passes

pub returns-clause-grows : goal.returns-clause-grows
returns-clause-grows g c = lemmas.grows
