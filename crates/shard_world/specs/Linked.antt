-- From which catalog the connections of subscribers are served (the project's own).
use Rattle.std.specs.Prelude.{List, All}
use Rattle.std.specs.Option.{ForSome}
use Rattle.shard_checker.specs.CheckedView.{CheckedOf}
use Rattle.copy_both.specs.Links.{link_checked}
use Rattle.copy_both.specs.Spared.{RouteAlike}
use Rattle.shard_world.specs.Joined.{PeerOf}

-- by both catalogs, the same subscribers get something from each change
abbrev pub IsServedAlike : CheckedOf → CheckedOf → Type 0
IsServedAlike one other = RouteAlike one.plan other.plan

-- the connection, if there is one, is served as from this catalog
abbrev pub IsLinkedTo : CheckedOf → PeerOf → Type 0
IsLinkedTo checked code = ForSome code.link (λ link. IsServedAlike checked (link_checked link))

abbrev pub AreLinkedTo : CheckedOf → List PeerOf → Type 0
AreLinkedTo checked peers = All (IsLinkedTo checked) peers
