-- Changes, the parts of old rows in them, and what subscribers get of them, as plain data.
use Rattle.std.specs.Prelude.{Option, Some, None}
use Rattle.replica_identity.specs.declared.change.OldPart.{OldPart}
use Rattle.replica_identity.specs.declared.change.OldPart.TheVariants as p
use Rattle.replica_identity.specs.declared.change.Change.{Change}
use Rattle.replica_identity.specs.declared.change.Change.TheVariants as c
use Rattle.replica_identity.specs.declared.transforms.Out.{Out}
use Rattle.replica_identity.specs.declared.transforms.Out.TheVariants as t
use Rattle.table_changes.specs.Outs as o
use Rattle.table_changes.specs.Records as r

abbrev pub part_view : OldPart → Option r.PartOf
part_view p.None = None
part_view (p.Key part) = Some (r.Key part)
part_view (p.Full old) = Some (r.Full old)

abbrev pub change_view : Change → r.ChangeOf
change_view (c.Insert table new) = r.Insert table new
change_view (c.Update table old new) = r.Update table (part_view old) new
change_view (c.Delete table old) = r.Delete table (part_view old)
change_view (c.Truncate tables) = r.Truncate tables.items

abbrev pub out_view : Out → o.OutOf
out_view (t.Insert new) = o.Insert new.now
out_view (t.Update old new) = o.Update (part_view old.now) new.now
out_view (t.Delete old) = o.Delete (part_view old.now)
out_view (t.Truncate tables) = o.Truncate tables.now
