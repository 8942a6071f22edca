use Rattle.std.proofs.Common.{sym, ap, ◌∙◌}
use Rattle.std.specs.Option.{option_copied}
use Rattle.tables_log.proofs.ListingLemmas.{lists_no_table, lists_table}
use Rattle.tables_log.proofs.book.Book.rows.Goals as goal

pub returns-in-None-clause-found : goal.returns-in-None-clause-found
returns-in-None-clause-found c =
    lists_no_table c.args.self.now.tables.items c.args.table (sym c.table.ensures ∙ ap option_copied c.in-None.is)

pub returns-in_ok-rows-in-Some-clause-found : goal.returns-in_ok-rows-in-Some-clause-found
returns-in_ok-rows-in-Some-clause-found c =
    lists_table c.args.self.now.tables.items c.args.table c.in-Some.rows.now
    (sym c.table.ensures ∙ ap option_copied c.in-Some.is) c.in_ok-rows-in-Some.ensures.found
