use Rattle.catalog_laws.proofs.FitFilters as lemmas
use Rattle.catalog_laws.proofs.laws.texts_tell_filters.Goals as goal

pub returns : goal.returns
returns c = lemmas.filters_apart
