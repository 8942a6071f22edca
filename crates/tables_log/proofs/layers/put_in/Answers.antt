use Rattle.std.proofs.Common.{◌≡◌, Some, [], ◌∷◌, ◌++◌, refl, sym, ◌∙◌, ap}
use Rattle.tables_log.proofs.LayerLemmas.{below_after, stay_after, there_after, keeps_undone, kept_same, room_same, room_undone}
use Rattle.tables_log.proofs.layers.put_in.Goals as goal

pub returns-in-Some-clause-room : goal.returns-in-Some-clause-room
returns-in-Some-clause-room g c =
    let base = c.args.base.now in
    let new = c.insert.new.self in
    let undo = c.args.undo.now.items in
    let updates = c.in_ok-insert.ensures.updates in
    let pushed : c.push_reserved-in-Some.new.self.items ≡ undo ++ (c.args.key, c.in-Some.was) ∷ [] =
    c.push_reserved-in-Some.ensures.items
    ∙ ap (λ places. places ++ (c.args.copy, c.in-Some.was) ∷ []) c.reserve-2.ensures.items
    ∙ ap (λ key. undo ++ (key, c.in-Some.was) ∷ []) c.requires.same in
    room_same g.K.Ord.cmp new new (undo ++ (c.args.key, c.in-Some.was) ∷ []) c.push_reserved-in-Some.new.self.items
    pushed (λ other has. has)
    (room_undone g.met.K.Ord.total base new undo c.args.key c.in-Some.was
    (stay_after g.met.K.Ord.total base new c.args.key (Some c.args.value) updates)
    (there_after g.met.K.Ord.total base new c.args.key (Some c.args.value) updates) c.requires.room)

pub returns-in-Some-clause-keeps : goal.returns-in-Some-clause-keeps
returns-in-Some-clause-keeps g c = λ other.
    let base = c.args.base.now in
    let new = c.insert.new.self in
    let undo = c.args.undo.now.items in
    let pushed : c.push_reserved-in-Some.new.self.items ≡ undo ++ (c.args.key, c.in-Some.was) ∷ [] =
    c.push_reserved-in-Some.ensures.items
    ∙ ap (λ places. places ++ (c.args.copy, c.in-Some.was) ∷ []) c.reserve-2.ensures.items
    ∙ ap (λ key. undo ++ (key, c.in-Some.was) ∷ []) c.requires.same in
    kept_same g.K.Ord.cmp new new c.args.made.now.items c.reserve.new.self.items
    (undo ++ (c.args.key, c.in-Some.was) ∷ []) c.push_reserved-in-Some.new.self.items
    c.reserve.ensures.items pushed (λ key. refl) other
    ∙ keeps_undone g.met.K.Ord.total base new c.args.made.now.items undo c.args.key c.in-Some.was (Some c.args.value)
    (sym c.in_ok-insert.ensures.old ∙ c.in-Some.is)
    (below_after g.K.Ord.cmp base new c.args.key (Some (Some c.args.value)) c.in_ok-insert.ensures.updates) other
