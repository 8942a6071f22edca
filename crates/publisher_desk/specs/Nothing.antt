-- A checked catalog without tables, which is named where no publisher is.
use Rattle.std.specs.Prelude.{[]}
use Rattle.shard_checker.specs.CheckedView.{CheckedOf}

abbrev pub nothing_checked : CheckedOf
nothing_checked = record { catalog = record { tables = []; publications = []; subscriptions = [] }; plan = [] }
