use Rattle.std.proofs.Common.{List, sym, ◌∙◌, rules, subst}
use Rattle.test_subscriber.specs.Answers.{Reaches}
use Rattle.test_subscriber.specs.Hearing.{hear_relation}
use Rattle.test_subscriber.specs.Views.{machine_with, machine_view}
use Rattle.test_subscriber.specs.declared.table_copy.TableCopy.{TableCopy}
use Rattle.test_subscriber.proofs.RelationLemmas.{unknown_type, learns}
use Rattle.test_subscriber.proofs.replica.Replica.learn.Goals as goal

pub returns-in_default : goal.returns-in_default
returns-in_default c = record {
  ok = tt;
  fault = unknown_type c.args.self.now.phase c.args.self.now.position c.args.self.now.wants_reply
      c.args.self.now.copies.items c.args.relation c.requires
      (sym c.in_ok-shape.ensures ∙ c.in_default.is);
  stays = search rules;
}

pub returns : goal.returns
returns c = record {
  ok = subst (λ (xs : List TableCopy). Reaches
      (machine_with c.args.self.now.phase c.args.self.now.position c.args.self.now.wants_reply xs)
      (hear_relation c.args.relation (machine_view c.args.self.now)))
      (sym c.in_ok-push.ensures.items)
      (learns c.args.self.now.phase c.args.self.now.position c.args.self.now.wants_reply c.args.self.now.copies.items
      c.args.relation c.requires
      c.in-Some.shape c.new.result (sym c.in_ok-shape.ensures ∙ c.in-Some.is) c.new.ensures.shape c.new.ensures.known
      c.new.ensures.kept c.new.ensures.seen);
  fault = tt;
  stays = tt;
}
