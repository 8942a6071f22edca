use Rattle.std.proofs.Common.{List, map, sym, ◌∙◌, ap, subst, arith}
use Rattle.shard_checker.specs.CheckedView.{setting_in}
use Rattle.table_changes.specs.Commands.{command_view}
use Rattle.table_changes.specs.declared.command.Command.{Command}
use Rattle.publisher_desk.specs.Logged.{Refuses}
use Rattle.publisher_desk.specs.Receipts.{ReceiptOf}
use Rattle.publisher_desk.specs.Refusals.{HasFault}
use Rattle.publisher_desk.specs.Sights.{sight_of}
use Rattle.publisher_desk.proofs.HeldLemmas.{commit_held, adds_as, made_as, refuses}
use Rattle.publisher_desk.proofs.LoggedLemmas.{history_adds, history_long}
use Rattle.publisher_desk.proofs.RefusalLemmas.{has_fault}
use Rattle.publisher_desk.proofs.desk.Desk.commit.Goals as goal

-- the receipt is of the next commit
pub record-requires-clause-number : goal.record-requires-clause-number
record-requires-clause-number g c =
    omega (
      arith,
      ap (λ (receipt : ReceiptOf). receipt.number) c.new-receipt.ensures,
      c.in-Ok.ensures.ok.number_is,
      history_long c.self.inside.book c.self.inside.history c.self.invariant.history_is,
    )

pub invariant_of-self : goal.invariant_of-self
invariant_of-self g c =
    commit_held g.P.Publishing.checked g.P.Publishing.limit c.self.inside.book c.make_commit.new.book
    (map command_view c.as_slice.result.now) c.args.time c.in-Ok.number c.self.inside.counted.total
    c.make_commit.new.counted.total c.self.inside.connections.items c.self.inside.history c.record.new.self
    c.self.inside.slots c.in-Ok.ensures.ok c.in-Ok.ensures.total
    (history_adds c.self.inside.book c.self.inside.history c.self.invariant.history_is c.make_commit.new.book
    (map command_view c.as_slice.result.now) c.args.time c.in-Ok.number c.new-receipt.result c.record.new.self
    c.in-Ok.ensures.ok
    (ap (λ (receipt : ReceiptOf). receipt.commands) c.new-receipt.ensures
    ∙ sym (ap (λ (list : List Command). map command_view list) c.as_slice.ensures.value))
    (ap (λ (receipt : ReceiptOf). receipt.time) c.new-receipt.ensures) c.record.ensures.log)
    c.self.invariant

pub returns-in-Ok-clause-ok : goal.returns-in-Ok-clause-ok
returns-in-Ok-clause-ok g c =
    adds_as g.P.Publishing.checked g.P.Publishing.limit c.self.inside.book c.self.invariant.is
    c.make_commit.new.book (map command_view c.as_slice.result.now) (map command_view c.args.commands.items)
    c.args.time c.in-Ok.number c.new-receipt.result.number c.args.self.now c.in-Ok.ensures.ok c.self.view_is
    (ap (λ (list : List Command). map command_view list) c.as_slice.ensures.value)
    (sym (ap (λ (receipt : ReceiptOf). receipt.number) c.new-receipt.ensures))

pub returns-in-Ok-clause-made : goal.returns-in-Ok-clause-made
returns-in-Ok-clause-made g c =
    made_as g.P.Publishing.checked g.P.Publishing.limit c.self.inside.book c.self.invariant.is
    c.make_commit.new.book (map command_view c.as_slice.result.now) (map command_view c.args.commands.items)
    c.args.time c.in-Ok.number c.new-receipt.result c.self.inside.history c.record.new.self
    (sight_of c.args.token.now) (sight_of c.record.new.token) c.in-Ok.ensures.ok c.new-receipt.ensures
    (history_adds c.self.inside.book c.self.inside.history c.self.invariant.history_is c.make_commit.new.book
    (map command_view c.as_slice.result.now) c.args.time c.in-Ok.number c.new-receipt.result c.record.new.self
    c.in-Ok.ensures.ok
    (ap (λ (receipt : ReceiptOf). receipt.commands) c.new-receipt.ensures
    ∙ sym (ap (λ (list : List Command). map command_view list) c.as_slice.ensures.value))
    (ap (λ (receipt : ReceiptOf). receipt.time) c.new-receipt.ensures) c.record.ensures.log)
    c.record.ensures.log c.record.ensures.seen

pub returns-in-Err-clause-fault : goal.returns-in-Err-clause-fault
returns-in-Err-clause-fault g c =
    subst (λ (list : List Command). HasFault (setting_in g.P.Publishing.checked) (map command_view list)
    c.in-Err.error) c.as_slice.ensures.value
    (has_fault g.P.Publishing.checked c.self.inside.book (map command_view c.as_slice.result.now) c.in-Err.error
    c.self.invariant.is.named c.in-Err.ensures.refused)

pub returns-in-Err-clause-refused : goal.returns-in-Err-clause-refused
returns-in-Err-clause-refused g c =
    subst (λ (list : List Command). Refuses g.P.Publishing.checked g.P.Publishing.limit (map command_view list)
    (sight_of c.args.token.now) (sight_of c.look.new.token) c.in-Err.error) c.as_slice.ensures.value
    (refuses g.P.Publishing.checked g.P.Publishing.limit c.self.inside.book c.self.invariant.is
    c.self.inside.history (sight_of c.args.token.now) (sight_of c.look.new.token)
    (map command_view c.as_slice.result.now) c.in-Err.error c.self.invariant.history_is c.look.ensures.seen
    c.in-Err.ensures.refused)
