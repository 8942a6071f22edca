use Rattle.std.proofs.Common.{◌≡◌, map, take}
use Rattle.std.specs.String.{string_bytes}
use Rattle.pub_catalog.specs.CatalogView.{publication_view}
use Rattle.shard_world.specs.FirstPeers.{names_of}
use Rattle.shard_world.proofs.opening.publication_names.Given as goal

abbrev pub invariant-loop-number : goal.invariant-loop-number
invariant-loop-number l =
    map string_bytes l.names.items ≡ names_of (map publication_view l.publications) (take l.number-index l.numbers)
