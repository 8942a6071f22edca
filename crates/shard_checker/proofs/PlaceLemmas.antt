-- Elements by their numbers.
use Rattle.std.proofs.lemmas.Option.{slice_get-map}

-- in a list in which each element was replaced
pub ruleset places = (slice_get-map)
