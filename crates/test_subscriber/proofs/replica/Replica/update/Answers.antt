use Rattle.std.proofs.Common.{refl}
use Rattle.test_subscriber.specs.RowChanges.{updated}
use Rattle.test_subscriber.proofs.MachineLemmas.{stages}
use Rattle.test_subscriber.proofs.replica.Replica.update.Goals as goal

pub returns : goal.returns
returns c =
    stages c.args.self.now _ c.args.oid c.in_ok-place.place c.index_mut.result.now c.update.new.self
    c.in_ok-place.ensures.ok c.index_mut.ensures.value refl
    (λ shape found. updated shape found c.args.old c.args.new) c.update.result c.update.ensures
