-- A book may be sent to another thread, and what it shares of its catalog and its commits may be read in several.
-- The search stops at its limits when it goes through a filter, which may contain itself. So each type that reaches a
-- filter has a lemma, and the types that contain it name that lemma.
use denote.Param.Send.{IsSend, IsSync, sendable, struct_send, struct_sync, recorded_send, recorded_sync}
use denote.Struct.Declared.{shape}
use Rattle.std.proofs.Crossing.{crosses, Arc-send, Vec-send}
use Rattle.std.proofs.MapsCrossing as maps
use Rattle.std.specs.contracts.alloc.Global as Heap
use Rattle.std.specs.contracts.impls.GlobalAllocator.TheImpl.{ghosts}
use Rattle.filter_tree.specs.contracts.filter.Filter as F
use Rattle.filter_tree.specs.contracts.table.Table as Tab
use Rattle.filter_tree.proofs.filter.Filter.TheLaws.TheKnot as K
use Rattle.pub_catalog.specs.contracts.catalog.Catalog as Cat
use Rattle.pub_catalog.specs.contracts.catalog.Publication as Pub
use Rattle.pub_catalog.specs.contracts.catalog.Subscription as Sub
use Rattle.replica_identity.specs.contracts.share.Share as Sh
use Rattle.replica_identity.specs.contracts.shared_row.SharedRow as R
use Rattle.replica_identity.specs.contracts.shares.Plan as Pl
use Rattle.row_owners.proofs.Crossing.{router_send}
use Rattle.row_owners.specs.contracts.routes.ChangeOwners as Each
use Rattle.row_owners.specs.contracts.routes.Routes as Ro
use Rattle.shard_checker.specs.contracts.checked.Checked as C
use Rattle.tables_log.specs.contracts.book.Book as B
use Rattle.tables_log.specs.contracts.commit.Commit as M
use Rattle.tables_log.specs.contracts.routed.Routed as E
use Rattle.tables_log.specs.contracts.slots.Slot as S
use Rattle.tables_log.specs.contracts.table_row.TableRow as W
use Rattle.tables_log.specs.contracts.table_rows.TableRows as T

ruleset all = (sendable, crosses, maps.crosses, K.crosses)

-- ---- catalogs and plans

table_send : IsSend Tab.the_row
table_send = search all depth 200 fits 3000 parts 0

table_sync : IsSync Tab.the_row
table_sync = search all depth 200 fits 3000 parts 0

filter_send : IsSend (F.the_row Heap.the_row ghosts)
filter_send = search (K.crosses, all) depth 200 fits 3000 parts 0

filter_sync : IsSync (F.the_row Heap.the_row ghosts)
filter_sync = search (K.crosses, all) depth 200 fits 3000 parts 0

publication_send : IsSend Pub.the_row
publication_send = search (filter_send, all) depth 200 fits 3000 parts 0

publication_sync : IsSync Pub.the_row
publication_sync = search (filter_sync, all) depth 200 fits 3000 parts 0

subscription_send : IsSend Sub.the_row
subscription_send = search all depth 200 fits 3000 parts 0

subscription_sync : IsSync Sub.the_row
subscription_sync = search all depth 200 fits 3000 parts 0

catalog_send : IsSend Cat.the_field.row
catalog_send = search (table_send, publication_send, subscription_send, all) depth 200 fits 3000 parts 0

catalog_sync : IsSync Cat.the_field.row
catalog_sync = search (table_sync, publication_sync, subscription_sync, all) depth 200 fits 3000 parts 0

share_send : IsSend (Sh.the_row Heap.the_row ghosts)
share_send = search all depth 200 fits 3000 parts 0

share_sync : IsSync (Sh.the_row Heap.the_row ghosts)
share_sync = search all depth 200 fits 3000 parts 0

plan_send : IsSend Pl.the_field.row
plan_send = search (share_send, all) depth 200 fits 3000 parts 0

plan_sync : IsSync Pl.the_field.row
plan_sync = search (share_sync, all) depth 200 fits 3000 parts 0

pub checked_send : IsSend C.the_row
checked_send = recorded_send C.the_field.row _ _ C.the_type.to_one
    (struct_send (shape C.the_type) (catalog_send, (plan_send, tt)))

pub checked_sync : IsSync C.the_row
checked_sync = recorded_sync C.the_field.row _ _ C.the_type.to_one
    (struct_sync (shape C.the_type) (catalog_sync, (plan_sync, tt)))

-- ---- books

pub commit_send : IsSend M.the_row
commit_send = search all depth 200 fits 3000 parts 0

pub commit_sync : IsSync M.the_row
commit_sync = search all depth 200 fits 3000 parts 0

owners_send : IsSend Each.the_row
owners_send = search all depth 200 fits 3000 parts 0

owners_sync : IsSync Each.the_row
owners_sync = search all depth 200 fits 3000 parts 0

routes_send : IsSend Ro.the_row
routes_send = search (owners_send, owners_sync, all) depth 200 fits 3000 parts 0

pub entry_send : IsSend E.the_row
entry_send = search (commit_send, commit_sync, routes_send, all) depth 200 fits 30000 parts 0

shared_row_send : IsSend R.the_row
shared_row_send = search all depth 200 fits 3000 parts 0

row_send : IsSend W.the_row
row_send = search (shared_row_send, all) depth 200 fits 3000 parts 0

rows_send : IsSend T.the_row
rows_send = search (row_send, all) depth 200 fits 30000 parts 0

slot_send : IsSend S.the_row
slot_send = search all depth 200 fits 3000 parts 0

pub book_field_send : IsSend B.the_field.row
book_field_send = struct_send (shape B.the_type) (
  search sendable depth 14,
  (
    Arc-send C.the_row checked_send checked_sync,
    (
      router_send,
      (
        search sendable,
        (
          Vec-send T.the_row rows_send,
          (Vec-send E.the_row entry_send, (Vec-send S.the_row slot_send, tt)),
        ),
      ),
    ),
  ),
)

pub book_send : IsSend B.the_row
book_send = recorded_send B.the_field.row _ _ B.the_type.to_one book_field_send
