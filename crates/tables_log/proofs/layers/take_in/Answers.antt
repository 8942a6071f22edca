use Rattle.std.proofs.Common.{◌≡◌, None, [], ◌∷◌, ◌++◌, refl, sym, ◌∙◌, ap}
use Rattle.std.specs.Prelude.{is_some}
use Rattle.tables_log.proofs.LayerLemmas.{keeps_undone, kept_same, room_same, room_undone}
use Rattle.tables_log.proofs.layers.take_in.Goals as goal

pub returns-in-Some-clause-room : goal.returns-in-Some-clause-room
returns-in-Some-clause-room g c =
    let base = c.args.base.now in
    let new = c.clear_place.new.base in
    let undo = c.args.undo.now.items in
    let pushed : c.push_reserved.new.self.items ≡ undo ++ (c.args.key, c.in-Some.was) ∷ [] =
    c.push_reserved.ensures.items ∙ ap (λ places. places ++ (c.args.key, c.in-Some.was) ∷ []) c.reserve.ensures.items in
    room_same g.K.Ord.cmp new new (undo ++ (c.args.key, c.in-Some.was) ∷ []) c.push_reserved.new.self.items pushed
    (λ other has. has)
    (room_undone g.met.K.Ord.total base new undo c.args.key c.in-Some.was
    (λ other has. c.clear_place.ensures.stay other ∙ has)
    (c.clear_place.ensures.stay c.args.key ∙ ap is_some (sym c.clear_place.ensures.was ∙ c.in-Some.is)) c.requires)

pub returns-in-Some-clause-keeps : goal.returns-in-Some-clause-keeps
returns-in-Some-clause-keeps g c = λ other.
    let base = c.args.base.now in
    let new = c.clear_place.new.base in
    let undo = c.args.undo.now.items in
    let pushed : c.push_reserved.new.self.items ≡ undo ++ (c.args.key, c.in-Some.was) ∷ [] =
    c.push_reserved.ensures.items ∙ ap (λ places. places ++ (c.args.key, c.in-Some.was) ∷ []) c.reserve.ensures.items in
    kept_same g.K.Ord.cmp new new c.args.made.now c.args.made.now (undo ++ (c.args.key, c.in-Some.was) ∷ [])
    c.push_reserved.new.self.items
    refl pushed (λ key. refl) other
    ∙ keeps_undone g.met.K.Ord.total base new c.args.made.now undo c.args.key c.in-Some.was None
    (sym c.clear_place.ensures.was ∙ c.in-Some.is)
    c.clear_place.ensures.clears other
