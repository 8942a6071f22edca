-- What the threads of a service share: the listening socket, and what places of clients know of each other.
use denote.Param.Send.{IsSync, sendable}
use Rattle.std.proofs.Crossing.{crosses}
use Rattle.std.proofs.MapsCrossing as maps
use Rattle.std.specs.contracts.net.tcp.TcpListener as Tcp
use Rattle.cli.specs.contracts.publish.hall.Hall as Hall
use Rattle.filter_tree.proofs.filter.Filter.TheLaws.TheKnot as K

ruleset all = (sendable, crosses, maps.crosses, K.crosses)

pub listener_sync : IsSync Tcp.the_row
listener_sync = search all depth 200 fits 3000 parts 0

pub hall_sync : IsSync Hall.the_row
hall_sync = search all depth 200 fits 3000 parts 0
