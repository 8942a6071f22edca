use Rattle.pub_reader.proofs.WellFormedLemmas as lemmas
use Rattle.pub_reader.proofs.laws.catalogs_are_well_formed.Goals as goal

pub returns : goal.returns
returns c = lemmas.catalogs_are_well_formed
