use Rattle.std.specs.Vec.{with_items}
use Rattle.std.proofs.Common.{ℕ, max, ap, subst, sym, ◌∙◌, length, List}
use Rattle.test_subscriber.specs.Machine.{Alike}
use Rattle.test_subscriber.specs.Hearing.{committed}
use Rattle.test_subscriber.specs.Views.{machine_with, machine_view}
use Rattle.test_subscriber.specs.declared.phase.Phase.TheVariants.{Idle}
use Rattle.test_subscriber.specs.declared.table_copy.TableCopy.{TableCopy}
use Rattle.test_subscriber.proofs.PassLemmas.{settled, written_over}
use Rattle.test_subscriber.proofs.replica.Replica.commit.Goals as goal

pub returns : goal.returns
returns c =
    subst (λ (n : ℕ). Alike (machine_view (record {
      alloc = c.args.self.now.alloc;
      phase = Idle;
      position = n;
      wants_reply = c.args.self.now.wants_reply;
      copies = with_items c.args.self.now.copies c.settle.new.copies;
    })) (committed c.args.end_lsn (machine_view c.args.self.now)))
    (sym c.max-self.ensures)
    (subst (λ (xs : List TableCopy). Alike
    (machine_with Idle (max c.args.self.now.position c.args.end_lsn) c.args.self.now.wants_reply xs)
    (committed c.args.end_lsn (machine_view c.args.self.now)))
    (sym (written_over c.args.self.now.copies.len c.settle.new.copies c.args.self.now.copies.items
    (c.settle.auto.copies ∙ ap length c.deref_mut.ensures.value ∙ sym c.args.self.now.copies.ok.0)))
    (subst (λ (xs : List TableCopy). Alike
    (machine_with Idle (max c.args.self.now.position c.args.end_lsn) c.args.self.now.wants_reply
    c.settle.new.copies)
    (committed c.args.end_lsn
    (machine_with c.args.self.now.phase c.args.self.now.position c.args.self.now.wants_reply xs)))
    c.deref_mut.ensures.value
    (settled c.args.self.now.phase c.args.self.now.position c.args.end_lsn c.args.self.now.wants_reply
    c.deref_mut.result.now c.settle.new.copies c.settle.ensures)))
