-- What the proofs of functions use, under one name for each.
use Rattle.stream_laws.proofs.FollowingBytesLemmas.{bytes_are_followed, fed_follow, first_follows, follows_longer}
use Rattle.stream_laws.proofs.FollowingLemmas.{items_are_followed}

pub ruleset following = (items_are_followed, bytes_are_followed)

pub ruleset following_pieces = (fed_follow, first_follows, follows_longer)
