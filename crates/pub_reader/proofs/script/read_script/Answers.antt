use Rattle.std.proofs.Common.{map, subst}
use Rattle.sql_reader.specs.Items.{to_read, items_of}
use Rattle.sql_reader.specs.Reading.{Reads}
use Rattle.pub_reader.specs.Scripts as spec
use Rattle.pub_reader.specs.ScriptView.{line_view}
use Rattle.pub_reader.proofs.WholeTexts.{whole_read}
use Rattle.pub_reader.proofs.script.read_script.Goals as goal

pub returns : goal.returns
unfolding spec.script_by
returns c =
    whole_read (λ lines. map line_view lines.items)
    (spec.lines c.args.catalog.now.tables.items (items_of c.args.text.now)) c.lines.result (to_read c.lines.new.r)
    (subst (λ tables. Reads (λ lines. map line_view lines.items) (spec.lines tables (items_of c.args.text.now))
    c.lines.result (to_read c.lines.new.r)) c.as_slice.ensures.value
    (subst (λ items. Reads (λ lines. map line_view lines.items) (spec.lines c.as_slice.result.now items)
    c.lines.result (to_read c.lines.new.r)) c.new.ensures c.lines.ensures))
