use Rattle.std.proofs.Common.{◌≡◌, ◌++◌, map}
use Rattle.tables_log.specs.Layers.{filled, rewound, kept_places}
use Rattle.tables_log.proofs.layers.Layers.list.Given as goal

abbrev pub invariant-loop-key : goal.invariant-loop-key
invariant-loop-key g l =
    map (λ value. value.now) l.listed.items
    ++ filled (map (λ entry. rewound g.K.Ord.cmp l.self.made.items l.self.undo.items entry.0 entry.1) l.key-iterator)
    ≡ map (λ value. value.now) l.initial.listed.items
    ++ filled (kept_places g.K.Ord.cmp l.self.base l.self.made.items l.self.undo.items)
