use Rattle.copy_both.proofs.link.Link.take.Goals as goal

-- if the whole log is taken, no memory is allocated
pub returns-in_default-clause-memory : goal.returns-in_default-clause-memory
returns-in_default-clause-memory c = tt
