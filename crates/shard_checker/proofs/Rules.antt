-- What the proofs of functions use, under one name for each.
use Rattle.shard_checker.proofs.AnyTest.{checks_by_any}
use Rattle.shard_checker.proofs.SoundLemmas.{certificate_sound}
use Rattle.shard_checker.proofs.TruthLemmas.{certificate_wrong}

pub ruleset verdicts_of_one = (certificate_sound, certificate_wrong, checks_by_any)
