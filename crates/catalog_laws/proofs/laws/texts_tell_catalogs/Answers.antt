use Rattle.catalog_laws.proofs.ReadCatalogs as lemmas
use Rattle.catalog_laws.proofs.laws.texts_tell_catalogs.Goals as goal

pub returns : goal.returns
returns c = lemmas.texts_tell_catalogs
