use Rattle.copy_both.proofs.link.Link.take_routed.Goals as goal

-- if the whole log is taken, no memory is allocated
pub returns-in-None-clause-memory : goal.returns-in-None-clause-memory
returns-in-None-clause-memory c = tt
