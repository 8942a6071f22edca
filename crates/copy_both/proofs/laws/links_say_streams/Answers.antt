use Rattle.copy_both.proofs.LinkStreams as lemmas
use Rattle.copy_both.proofs.laws.links_say_streams.Goals as goal

pub returns-clause-hears : goal.returns-clause-hears
returns-clause-hears c = lemmas.hears

pub returns-clause-ends : goal.returns-clause-ends
returns-clause-ends c = lemmas.ends

pub returns-clause-breaks : goal.returns-clause-breaks
returns-clause-breaks c = lemmas.breaks

pub returns-clause-stops : goal.returns-clause-stops
returns-clause-stops c = lemmas.stops

pub returns-clause-takes : goal.returns-clause-takes
returns-clause-takes c = lemmas.takes_on

pub returns-clause-keeps : goal.returns-clause-keeps
returns-clause-keeps c = lemmas.keeps_on

pub returns-clause-passes : goal.returns-clause-passes
returns-clause-passes c = lemmas.passes_on

pub returns-clause-rest : goal.returns-clause-rest
returns-clause-rest c = lemmas.rest_passes_on

pub returns-clause-front : goal.returns-clause-front
returns-clause-front c = lemmas.front_passes_on

pub returns-clause-grows : goal.returns-clause-grows
returns-clause-grows c = lemmas.log_grows
