use Rattle.pub_reader.proofs.FoundIndexes.{is_identity, is_no_identity}
use Rattle.pub_reader.proofs.identity.index_named.Goals as goal

pub returns : goal.returns
returns c =
    is_identity c.args.columns.now c.args.indexes.now c.args.name.now c.as_str.ensures c.find_index.ensures.value
    c.in_ok-number.ensures.found c.identifies.ensures c.if-not-identifies.false

pub returns-then-not-identifies : goal.returns-then-not-identifies
returns-then-not-identifies c =
    is_no_identity c.args.columns.now c.args.indexes.now c.args.name.now c.as_str.ensures c.find_index.ensures.value
    c.in_ok-number.ensures.found c.identifies.ensures c.if-not-identifies.true
