use denote.Param.{param}
use Rattle.publisher_desk.proofs.Crossing.{publisher_sync}
use Rattle.publisher_desk.proofs.laws.threads_share_publishers.Goals as goal

pub is_shared-requires-sync-T : goal.is_shared-requires-sync-T
is_shared-requires-sync-T g c κs within = search (publisher_sync (param 0 g.row.P) g.P.Publishing g.P.Ledger)
