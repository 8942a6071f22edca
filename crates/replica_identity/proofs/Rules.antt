-- What the proofs of functions use, under one name for each.
use Rattle.replica_identity.proofs.PartLemmas.{by_default, by_index, by_full, by_nothing}
use Rattle.replica_identity.proofs.SettingLemmas.{has_table, has_primary_keys, columns_identify}

pub ruleset settings_of_catalogs = (has_table, has_primary_keys, columns_identify)

pub ruleset parts_by_identity = (by_default, by_index, by_full, by_nothing)
