-- What came of the connections of all places of `publish`.
use Rattle.std.proofs.Common.{◌≡◌, ◌<◌, ℕ, suc, List, [], ◌∷◌, ◌++◌, All, get_or, length, ap, ◌∙◌, arith}
use Rattle.std.proofs.lemmas.List.{append-nil}
use Rattle.std.proofs.lemmas.List.Concat.{flat_map-append}
use Rattle.std.proofs.lemmas.List.Elements.{All-append, All-cons, All-head, All-nil, All-push, All-tail}
use Rattle.shard_checker.specs.CheckedView.{CheckedOf}
use Rattle.senders.specs.Results.{ServedOf}
use Rattle.cli.specs.Connections.{StayServed, WasServed, served_at}
use Rattle.cli.specs.declared.publish.places.Berth.{Berth}

-- each of both parts
all_first : {X : Type 0} (P : X → Type 0) (xs ys : List X) → All P (xs ++ ys) → All P xs
all_first P [] ys all = All-nil P
all_first P (x ∷ xs) ys all =
    All-cons P x xs (All-head P x (xs ++ ys) all) (all_first P xs ys (All-tail P x (xs ++ ys) all))

all_last : {X : Type 0} (P : X → Type 0) (xs ys : List X) → All P (xs ++ ys) → All P ys
all_last P [] ys all = all
all_last P (x ∷ xs) ys all = all_last P xs ys (All-tail P x (xs ++ ys) all)

-- what stays so in each place stays so in all
pub stay_served : {P : Type 0} (checked : CheckedOf) (old new : List (Berth P)) → length new ≡ length old
    → ((place : ℕ) (other : Berth P) → place < length old
    → StayServed checked (get_or old place other).served.items (get_or new place other).served.items)
    → StayServed checked (served_at old) (served_at new)
stay_served checked [] [] same each all = all
stay_served checked [] (after ∷ new) same each all = absurd (omega (arith, same))
stay_served checked (before ∷ old) [] same each all = absurd (omega (arith, same))
stay_served checked (before ∷ old) (after ∷ new) same each all =
    All-append (WasServed checked) after.served.items (served_at new)
    (each 0 before (omega arith) (all_first (WasServed checked) before.served.items (served_at old) all))
    (stay_served checked old new (omega (arith, same))
    (λ place other below. each (suc place) other (omega (arith, below)))
    (all_last (WasServed checked) before.served.items (served_at old) all))

-- one place more
pub served_more : {P : Type 0} (berths : List (Berth P)) (berth : Berth P)
    → served_at (berths ++ berth ∷ []) ≡ served_at berths ++ berth.served.items
served_more {P} berths berth =
    flat_map-append (λ (b : Berth P). b.served.items) berths (berth ∷ [])
    ∙ ap (λ (last : List ServedOf). served_at berths ++ last) (append-nil berth.served.items)

-- one more result
pub stay_pushed : (checked : CheckedOf) (before after : List ServedOf) (one : ServedOf)
    → StayServed checked before after → WasServed checked one → StayServed checked before (after ++ one ∷ [])
stay_pushed checked before after one stay is all = All-push (WasServed checked) after one (stay all) is
