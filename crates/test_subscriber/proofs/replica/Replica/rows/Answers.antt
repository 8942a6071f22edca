use Rattle.std.proofs.Common.{◌∙◌, sym}
use Rattle.test_subscriber.proofs.ListedLemmas.{nowhere_in_order, nowhere_listed, copy_in_order, copy_listed}
use Rattle.test_subscriber.proofs.replica.Replica.rows.Goals as goal

pub returns-in-None-clause-shows : goal.returns-in-None-clause-shows
returns-in-None-clause-shows c =
    nowhere_in_order c.args.self.now.copies.items c.args.oid c.new.result.items
    (sym c.place_of.ensures ∙ c.in-None.is) c.new.ensures.items

pub returns-in-None-clause-found : goal.returns-in-None-clause-found
returns-in-None-clause-found c =
    nowhere_listed c.args.self.now.copies.items c.args.oid (sym c.place_of.ensures ∙ c.in-None.is)

pub returns-in_ok-kept_rows-in-Some-clause-shows : goal.returns-in_ok-kept_rows-in-Some-clause-shows
returns-in_ok-kept_rows-in-Some-clause-shows c =
    copy_in_order c.args.self.now.copies.items c.args.oid c.in-Some.place c.index.result.now
    (sym c.place_of.ensures ∙ c.in-Some.is) c.index.ensures
    c.in_ok-kept_rows-in-Some.field-0.items c.in_ok-kept_rows-in-Some.ensures.shows

pub returns-in_ok-kept_rows-in-Some-clause-found : goal.returns-in_ok-kept_rows-in-Some-clause-found
returns-in_ok-kept_rows-in-Some-clause-found c =
    copy_listed c.args.self.now.copies.items c.args.oid c.in-Some.place c.index.result.now
    (sym c.place_of.ensures ∙ c.in-Some.is) c.index.ensures
    c.in_ok-kept_rows-in-Some.ensures.found
