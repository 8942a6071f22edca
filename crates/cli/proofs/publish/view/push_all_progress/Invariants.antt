use Rattle.std.proofs.Common.{◌≡◌, ◌++◌, drop}
use Rattle.std.specs.String.{string_bytes}
use Rattle.pub_catalog.specs.CatalogView.{catalog_view}
use Rattle.commands.specs.Output.{text_of}
use Rattle.cli.specs.Views.{progress_lines}
use Rattle.cli.proofs.publish.view.push_all_progress.Given as goal

-- what is written, and the lines of the subscribers that are left
abbrev pub invariant-loop-number : goal.invariant-loop-number
invariant-loop-number l =
    string_bytes l.text ++ text_of (progress_lines (catalog_view l.catalog) l.number (drop l.number l.progress))
    ≡ string_bytes l.fn.text ++ text_of (progress_lines (catalog_view l.catalog) 0 l.progress)
