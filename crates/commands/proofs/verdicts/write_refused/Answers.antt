use Rattle.commands.proofs.verdicts.write_refused.Goals as goal

-- the line is written to its end
pub returns-clause-stopped : goal.returns-clause-stopped
returns-clause-stopped g c = tt
