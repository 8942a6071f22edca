-- Sorted lists, as they are shown.
use Rattle.std.proofs.Common.{◌≡◌, ℕ, ◌<◌, List, length, map, get_or, inl, inr, ap, arith}
use Rattle.std.specs.List.Sorted.{IsNonDecreasingBy}
use Rattle.std.proofs.lemmas.List.{get_or-map, length-map}
use Rattle.std.proofs.lemmas.Option.{slice_get_cases}

pub sorted_shown : {X Y : Type 0} (show : X → Y) (key : Y → ℕ) (xs : List X)
    → IsNonDecreasingBy (λ x. key (show x)) xs → IsNonDecreasingBy key (map show xs)
sorted_shown show key xs sorted i j d order low =
    let inside : j < length xs = omega (arith, low, length-map xs show) in
    elim (slice_get_cases xs j).1 [
      | inl found ↦
          let first : get_or (map show xs) i d ≡ show (get_or xs i found.0) =
          get_or-map show xs i found.0 d (omega arith) in
          let second : get_or (map show xs) j d ≡ show (get_or xs j found.0) = get_or-map show xs j found.0 d inside in
          omega (arith, sorted i j found.0 order inside, ap key first, ap key second)
      | inr past ↦ absurd (omega (arith, past.0, inside))
    ]
