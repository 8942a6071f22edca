use Rattle.std.proofs.Common.{◌≡◌, true, sym, ◌∙◌, rules, subst}
use Rattle.test_subscriber.specs.SameRelation.{same_relation}
use Rattle.test_subscriber.specs.declared.table_copy.TableCopy.{TableCopy}
use Rattle.test_subscriber.proofs.CopyLemmas.{read_same, place_within}
use Rattle.test_subscriber.proofs.RelationLemmas.{differs, recognizes}
use Rattle.test_subscriber.proofs.replica.Replica.recognize.Goals as goal

pub returns-else-same_relation : goal.returns-else-same_relation
returns-else-same_relation c = record {
  ok = tt;
  fault = differs c.args.self.now.phase c.args.self.now.position c.args.self.now.wants_reply
      c.args.self.now.copies.items c.args.place c.index.result.now c.args.relation.now
      c.requires c.index.ensures (sym c.same_relation.ensures ∙ c.if-same_relation.false);
  stays = search rules;
}

pub returns-then-same_relation : goal.returns-then-same_relation
returns-then-same_relation c = record {
  ok = recognizes c.args.self.now.phase c.args.self.now.position c.args.self.now.wants_reply
      c.args.self.now.copies.items c.args.place c.index_mut.result.now c.args.relation.now
      c.requires c.index_mut.ensures.value
      (subst (λ (copy : TableCopy). same_relation copy.shape.relation c.args.relation.now ≡ true)
      (read_same c.args.self.now.copies.items c.args.place c.index.result.now c.index_mut.result.now
      (place_within c.args.self.now.copies.items c.args.relation.now.oid c.args.place c.requires) c.index.ensures
      c.index_mut.ensures.value)
      (sym c.same_relation.ensures ∙ c.if-same_relation.true));
  fault = tt;
  stays = tt;
}
