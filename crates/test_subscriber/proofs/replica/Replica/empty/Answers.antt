use Rattle.std.proofs.Common.{refl}
use Rattle.std.specs.Prelude.{Ok}
use Rattle.test_subscriber.specs.Hearing.{without_rows}
use Rattle.test_subscriber.proofs.MachineLemmas.{stages}
use Rattle.test_subscriber.proofs.replica.Replica.empty.Goals as goal

pub returns : goal.returns
returns c =
    stages c.args.self.now _ c.args.oid c.in_ok-place.place c.index_mut.result.now c.empty.new.self
    c.in_ok-place.ensures.ok c.index_mut.ensures.value refl without_rows (Ok tt) c.empty.ensures
