-- A router may be sent to another thread. The search stops at its limits when it goes through a filter, which may
-- contain itself. So the router of a table has a lemma of its own.
use denote.Param.Send.{IsSend, sendable}
use Rattle.std.proofs.Crossing.{crosses}
use Rattle.std.proofs.MapsCrossing as maps
use Rattle.filter_tree.proofs.filter.Filter.TheLaws.TheKnot as K
use Rattle.row_owners.specs.contracts.router.Router as R
use Rattle.row_owners.specs.contracts.table_router.TableRouter as T

ruleset all = (sendable, crosses, maps.crosses, K.crosses)

table_router_send : IsSend T.the_row
table_router_send = search all depth 200 fits 30000 parts 0

pub router_send : IsSend R.the_field.row
router_send = search (table_router_send, all) depth 200 fits 30000 parts 0
