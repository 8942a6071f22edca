use Rattle.tables_log.proofs.LayerLemmas.{rewinds_one, last_room}
use Rattle.tables_log.proofs.layers.write_back.Goals as goal

pub loop-key-preserved : goal.loop-key-preserved
loop-key-preserved g c =
    rewinds_one g.met.K.Ord.total c.loop-key.base c.write.new.base c.args.base.now c.loop-key.undo.items
    c.pop.new.self.items c.args.undo.now.items c.in-Some.key c.in-Some.place
    c.in-Some.ensures.items c.write.ensures.puts c.write.ensures.stay c.loop-key.invariant

pub write-requires : goal.write-requires
write-requires g c =
    last_room g.met.K.Ord.total c.loop-key.base c.args.base.now c.loop-key.undo.items c.pop.new.self.items
    c.args.undo.now.items c.in-Some.key c.in-Some.place
    c.in-Some.ensures.items c.loop-key.invariant
