use Rattle.std.proofs.Common.{ap, subst, sym, ◌∙◌, length, List}
use Rattle.test_subscriber.specs.Machine.{Alike, stopped}
use Rattle.test_subscriber.specs.Views.{machine_with, machine_view}
use Rattle.test_subscriber.specs.declared.phase.Phase.TheVariants.{Shut}
use Rattle.test_subscriber.specs.declared.table_copy.TableCopy.{TableCopy}
use Rattle.test_subscriber.proofs.PassLemmas.{forgotten, written_over}
use Rattle.test_subscriber.proofs.replica.Replica.stop.Goals as goal

pub returns : goal.returns
returns c =
    subst (λ (xs : List TableCopy). Alike (machine_with Shut c.args.self.now.position c.args.self.now.wants_reply xs)
    (stopped (machine_view c.args.self.now)))
    (sym (written_over c.args.self.now.copies.len c.forget.new.copies c.args.self.now.copies.items
    (c.forget.auto.copies ∙ ap length c.deref_mut.ensures.value ∙ sym c.args.self.now.copies.ok.0)))
    (subst (λ (xs : List TableCopy). Alike
    (machine_with Shut c.args.self.now.position c.args.self.now.wants_reply c.forget.new.copies)
    (stopped (machine_with c.args.self.now.phase c.args.self.now.position c.args.self.now.wants_reply xs)))
    c.deref_mut.ensures.value
    (forgotten c.args.self.now.phase c.args.self.now.position c.args.self.now.wants_reply c.deref_mut.result.now
    c.forget.new.copies c.forget.ensures))
