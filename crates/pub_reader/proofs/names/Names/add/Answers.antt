use Rattle.std.proofs.Common.{◌≡◌, ◌++◌, ◌∷◌, [], Bool, true, false, List, ℕ, map, refl, sym, ap, ◌∙◌}
use Rattle.std.proofs.lemmas.List.{map-append}
use Rattle.std.specs.Prelude.{if◌then◌else◌}
use Rattle.std.specs.List.{list_any}
use Rattle.std.specs.Str.{bytes_eq}
use Rattle.std.specs.String.{string_bytes}
use Rattle.pub_reader.proofs.Positions.{list_any-map}
use Rattle.pub_reader.proofs.names.Names.add.Goals as goal

map-grown : {A B : Type 0} (f : A → B) (b : Bool) (xs : List A) (x : A)
    → map f (if b then xs else xs ++ x ∷ []) ≡ (if b then map f xs else map f xs ++ f x ∷ [])
map-grown f true xs x = refl
map-grown f false xs x = map-append f xs (x ∷ [])

pub returns-clause-ok : goal.returns-clause-ok
returns-clause-ok c =
    let name : List ℕ = string_bytes c.args.name in
    let old = c.self.inside.names.keys in
    let grown : List (List ℕ) = map string_bytes old ++ name ∷ [] in
    let is_there : list_any (λ k. bytes_eq name (string_bytes k)) old
    ≡ list_any (bytes_eq name) (map string_bytes old) = sym (list_any-map (bytes_eq name) string_bytes old) in
    rw (← c.self.view_is) (ap (map string_bytes) c.in_ok-insert.ensures.keys
    ∙ map-grown string_bytes (list_any (λ k. bytes_eq name (string_bytes k)) old) old c.args.name
    ∙ ap (λ (b : Bool). if b then map string_bytes old else grown) is_there)
