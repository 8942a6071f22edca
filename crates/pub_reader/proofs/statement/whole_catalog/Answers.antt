use Rattle.std.proofs.Common.{rules, sym, subst}
use Rattle.sql_reader.specs.Items.{to_read, items_of}
use Rattle.sql_reader.specs.Written.{as_filter}
use Rattle.pub_reader.specs.DraftNames.{IsNamedDraft}
use Rattle.pub_reader.specs.DraftView.{draft_view}
use Rattle.pub_reader.proofs.KeptEntries.{resolved_entries_known}
use Rattle.pub_reader.proofs.KeptLimits.{resolved_limited}
use Rattle.pub_reader.proofs.OwnNames.{none_named, resolved_named}
use Rattle.pub_reader.proofs.statement.whole_catalog.Goals as goal

-- what was read has proper names, since a reader's tokens are those of a text
pub finish-requires-clause-limits : goal.finish-requires-clause-limits
finish-requires-clause-limits c =
    resolved_limited as_filter (items_of c.args.text.now) (draft_view c.statements.new.draft)
    (to_read c.statements.new.r) (search rules)
    (c.in_ok-statements.ensures.named (subst IsNamedDraft (sym c.in_ok-draft.ensures) none_named)).tables

pub finish-requires-clause-entries : goal.finish-requires-clause-entries
finish-requires-clause-entries c =
    resolved_entries_known (items_of c.args.text.now) (draft_view c.statements.new.draft) (to_read c.statements.new.r)
    (search rules)

pub finish-requires-clause-names : goal.finish-requires-clause-names
finish-requires-clause-names c =
    resolved_named (draft_view c.statements.new.draft)
    (c.in_ok-statements.ensures.named (subst IsNamedDraft (sym c.in_ok-draft.ensures) none_named))
