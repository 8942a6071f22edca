-- Lists of views that are compared item by item.
use Rattle.std.proofs.Common.{◌≡◌, ◌≢◌, ℕ, ◌+◌, ◌<◌, List, length, map, take, get_or, sym, ◌∙◌, ap, arith}
use Rattle.std.proofs.lemmas.List.{take_more_same, get_or-map, length-map}

-- `x` and `y` are at this place
module _ {X Y : Type 0} (view : X → Y) (one other : List X) (place : ℕ) (x y : X) (counts : length one ≡ length other)
    (low : place < length one)
    (here : x ≡ get_or one place x) (there : y ≡ get_or other place y) where
  view_here : get_or (map view one) place (view x) ≡ view x
  view_here = get_or-map view one place x (view x) low ∙ ap view (sym here)

  view_there : get_or (map view other) place (view x) ≡ view y
  view_there = get_or-map view other place y (view x) (omega arith) ∙ ap view (sym there)

  pub agree_one_more : view x ≡ view y → take place (map view one) ≡ take place (map view other)
      → take (place + 1) (map view one) ≡ take (place + 1) (map view other)
  agree_one_more same before =
      take_more_same (map view one) (map view other) place (view x) (omega (arith, length-map one view))
      (omega (arith, length-map other view)) before
      (view_here ∙ same ∙ sym view_there)

  pub differ_there : view x ≢ view y → map view one ≢ map view other
  differ_there apart same = apart (sym view_here ∙ ap (λ list. get_or list place (view x)) same ∙ view_there)
