use Rattle.replica_identity.proofs.SettingLemmas.{has_table}
use Rattle.replica_identity.proofs.laws.catalogs_make_settings.Goals as goal

pub returns-clause-tables : goal.returns-clause-tables
returns-clause-tables c = has_table
