use Rattle.sql_reader.proofs.reader.Reader.refused.Goals as goal

pub returns-clause-place : goal.returns-clause-place
returns-clause-place c = c.place.ensures
