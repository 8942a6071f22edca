-- Entries of a log of which a subscriber gets nothing.
use Rattle.std.proofs.Common.{◌≡◌, ℕ, zero, suc, ◌+◌, ◌-◌, ◌≤◌, ◌<◌, Bool, true, false, List, [], ◌∷◌, ◌++◌, map, length, take, drop, refl, sym, ap, subst, ◌∙◌, append_assoc, append-nil, inl, inr, arith}
use Rattle.std.specs.Prelude.{not, cond, min, nat_lt, slice_get, slice_index_or, Option, Some, None, IfSome, is_some}
use Rattle.std.specs.Borrow.{Bor}
use Rattle.std.specs.List.{take_while, prefix_len}
use Rattle.std.proofs.lemmas.Bool.{cases_lt, ltb-true}
use Rattle.std.proofs.lemmas.List.{take_all, drop_all, take-map, drop-map, length-drop, length-take}
use Rattle.std.proofs.lemmas.List.Elements.{All-append, All-cons, All-nil, All-drop, All-take}
use Rattle.std.proofs.lemmas.List.Sums.{take_while-cons}
use Rattle.replica_identity.specs.Plans.{PlanOf}
use Rattle.row_owners.specs.Owners.{AreRoutes, owned, concerns}
use Rattle.shard_checker.specs.CheckedView.{CheckedOf}
use Rattle.table_changes.specs.Records.{ChangeOf}
use Rattle.tables_log.specs.Commits.{CommitOf}
use Rattle.tables_log.specs.Logs.{IsNumbered}
use Rattle.tables_log.specs.Routes.{commit_in, lacks, IsRouted, AreRouted, passed_over, ArePassed}
use Rattle.tables_log.specs.declared.routed.Routed.{Routed}
use Rattle.tables_log.proofs.ListLemmas.{map_more}

-- ---- the entries after this number of others

drop_within : {X : Type 0} (xs : List X) (done : ℕ) → drop (min done (length xs)) xs ≡ drop done xs
drop_within xs done =
    elim (cases_lt done (length xs)) [
      | inl low ↦ let same : min done (length xs) ≡ done = omega (arith, low) in ap (λ n. drop n xs) same
      | inr past ↦
          let same : min done (length xs) ≡ length xs = omega (arith, past) in
          ap (λ n. drop n xs) same ∙ drop_all (length xs) xs (omega arith) ∙ sym (drop_all done xs past)
    ]

take_within : {X : Type 0} (xs : List X) (most : ℕ) → take (min most (length xs)) xs ≡ take most xs
take_within xs most =
    elim (cases_lt most (length xs)) [
      | inl low ↦ let same : min most (length xs) ≡ most = omega (arith, low) in ap (λ n. take n xs) same
      | inr past ↦
          let same : min most (length xs) ≡ length xs = omega (arith, past) in
          ap (λ n. take n xs) same ∙ take_all (length xs) xs (omega arith) ∙ sym (take_all most xs past)
    ]

pub some_after : {X : Type 0} (xs : List X) (done most : ℕ)
    → take (min most (length (drop (min done (length xs)) xs))) (drop (min done (length xs)) xs)
    ≡ take most (drop done xs)
some_after xs done most = take_within (drop (min done (length xs)) xs) most ∙ ap (take most) (drop_within xs done)

-- ---- sets of entries, and what subscribers get

lacks_it : (plan : PlanOf) (subscriber : ℕ) (entry : Routed) → subscriber < 32 → IsRouted plan entry
    → lacks subscriber entry ≡ not (concerns plan (commit_in entry).changes subscriber)
lacks_it plan subscriber entry few routed = ap not (routed.all subscriber few)

first_of : (plan : PlanOf) (entry : Routed) (entries : List Routed) → AreRouted plan (entry ∷ entries)
    → IsRouted plan entry
first_of plan entry entries routed = routed 0 entry (omega arith)

others_of : (plan : PlanOf) (entry : Routed) (entries : List Routed) → AreRouted plan (entry ∷ entries)
    → AreRouted plan entries
others_of plan entry entries routed = All-drop (IsRouted plan) 1 (entry ∷ entries) routed

quiet_front : (plan : PlanOf) (subscriber : ℕ) (entries : List Routed) → subscriber < 32 → AreRouted plan entries
    → map commit_in (take_while (lacks subscriber) entries)
    ≡ take_while (λ commit. not (concerns plan commit.changes subscriber)) (map commit_in entries)
quiet_front plan subscriber [] few routed = refl
quiet_front plan subscriber (entry ∷ entries) few routed =
    let quiet = λ (commit : CommitOf). not (concerns plan commit.changes subscriber) in
    ap (map commit_in) (take_while-cons (lacks subscriber) entry entries)
    ∙ by (lacks subscriber entry)
    ∙ ap (λ b. cond b (commit_in entry ∷ map commit_in (take_while (lacks subscriber) entries)) [])
    (lacks_it plan subscriber entry few (first_of plan entry entries routed))
    ∙ ap (λ rest. cond (quiet (commit_in entry)) (commit_in entry ∷ rest) [])
    (quiet_front plan subscriber entries few (others_of plan entry entries routed))
    ∙ sym (take_while-cons quiet (commit_in entry) (map commit_in entries))
  where
    by : (b : Bool) → map commit_in (cond b (entry ∷ take_while (lacks subscriber) entries) [])
        ≡ cond b (commit_in entry ∷ map commit_in (take_while (lacks subscriber) entries)) []
    by true = refl
    by false = refl

pub shows_passed : (plan : PlanOf) (subscriber : ℕ) (log : List Routed) (done : ℕ) → subscriber < 32
    → AreRouted plan log
    → map commit_in (take_while (lacks subscriber) (take 64 (drop done log)))
    ≡ passed_over plan subscriber (map commit_in log) done
shows_passed plan subscriber log done few routed =
    quiet_front plan subscriber (take 64 (drop done log)) few
    (All-take (IsRouted plan) 64 (drop done log) (All-drop (IsRouted plan) done log routed))
    ∙ ap (take_while (λ (commit : CommitOf). not (concerns plan commit.changes subscriber)))
    (sym (take-map commit_in 64 (drop done log)) ∙ ap (take 64) (sym (drop-map commit_in done log)))

-- ---- what was gathered, and then what is passed over of the rest

-- the rest begins with this entry
next_quiet : (subscriber : ℕ) (entry : Routed) (rest left : List Routed) (b : Bool)
    → owned entry.routes.all subscriber ≡ b → left ≡ entry ∷ rest
    → take_while (lacks subscriber) left ≡ cond (not b) (entry ∷ take_while (lacks subscriber) rest) []
next_quiet subscriber entry rest left b is left_is =
    ap (take_while (lacks subscriber)) left_is ∙ take_while-cons (lacks subscriber) entry rest
    ∙ ap (λ (found : Bool). cond (not found) (entry ∷ take_while (lacks subscriber) rest) []) is

pub gathers_one : {X : Type 0} (view : X → CommitOf) (subscriber : ℕ) (old new : List X) (commit : X)
    (entry : Routed) (rest left : List Routed) (all : List CommitOf)
    → owned entry.routes.all subscriber ≡ false → left ≡ entry ∷ rest
    → view commit ≡ commit_in entry → new ≡ old ++ commit ∷ []
    → map view old ++ map commit_in (take_while (lacks subscriber) left) ≡ all
    → map view new ++ map commit_in (take_while (lacks subscriber) rest) ≡ all
gathers_one view subscriber old new commit entry rest left all lacking left_is shown pushed gathers =
    let more = map commit_in (take_while (lacks subscriber) rest) in
    ap (λ (commits : List CommitOf). commits ++ more) (ap (map view) pushed ∙ map_more view old commit)
    ∙ append_assoc (map view old) (view commit ∷ []) more
    ∙ ap (λ (one : CommitOf). map view old ++ one ∷ more) shown
    ∙ sym (ap (λ (quiet : List Routed). map view old ++ map commit_in quiet)
    (next_quiet subscriber entry rest left false lacking left_is))
    ∙ gathers

pub gathered : {X : Type 0} (view : X → CommitOf) (subscriber : ℕ) (commits : List X) (entry : Routed)
    (rest left : List Routed) (all : List CommitOf)
    → owned entry.routes.all subscriber ≡ true → left ≡ entry ∷ rest
    → map view commits ++ map commit_in (take_while (lacks subscriber) left) ≡ all
    → map view commits ≡ all
gathered view subscriber commits entry rest left all has left_is gathers =
    sym (append-nil (map view commits))
    ∙ sym (ap (λ (quiet : List Routed). map view commits ++ map commit_in quiet)
    (next_quiet subscriber entry rest left true has left_is))
    ∙ gathers

-- ---- their numbers

-- each has the number of its place after this number of others
abbrev After : ℕ → List CommitOf → Type 0
After done commits = (place : ℕ) (commit : CommitOf) → slice_get commits place ≡ Some commit
    → commit.number ≡ done + place + 1

get_after : (log : List CommitOf) (done place : ℕ) → slice_get (drop done log) place ≡ slice_get log (done + place)
get_after log zero place = let same : 0 + place ≡ place = omega arith in ap (slice_get log) (sym same)
get_after [] (suc done) place = refl
get_after (commit ∷ log) (suc done) place =
    let same : suc done + place ≡ suc (done + place) = omega arith in
    get_after log done place ∙ sym (ap (slice_get (commit ∷ log)) same)

numbered_after : (log : List CommitOf) (done : ℕ) → IsNumbered log → After done (drop done log)
numbered_after log done numbered place commit at =
    numbered (done + place) commit (sym (get_after log done place) ∙ at)

passed_front : (plan : PlanOf) (subscriber done most : ℕ) (commits : List CommitOf) → After done commits
    → ArePassed plan subscriber done
    (take_while (λ commit. not (concerns plan commit.changes subscriber)) (take most commits))
passed_front plan subscriber done zero commits after = tt
passed_front plan subscriber done (suc most) [] after = tt
passed_front plan subscriber done (suc most) (commit ∷ commits) after =
    let quiet = λ (other : CommitOf). not (concerns plan other.changes subscriber) in
    let is : commit.number ≡ suc done = let one = after 0 commit refl in omega (arith, one) in
    let rest : ArePassed plan subscriber (suc done) (take_while quiet (take most commits)) =
    passed_front plan subscriber (suc done) most commits
    (λ place other at. let one = after (suc place) other at in omega (arith, one)) in
    subst (ArePassed plan subscriber done) (sym (take_while-cons quiet commit (take most commits)))
    (by (concerns plan commit.changes subscriber) refl is (take_while quiet (take most commits)) rest)
  where
    by : (b : Bool) → concerns plan commit.changes subscriber ≡ b → commit.number ≡ suc done
        → (others : List CommitOf) → ArePassed plan subscriber (suc done) others
        → ArePassed plan subscriber done
        (cond (not (concerns plan commit.changes subscriber)) (commit ∷ others) [])
    by true some is others rest =
        subst (λ (b : Bool). ArePassed plan subscriber done (cond (not b) (commit ∷ others) [])) (sym some) tt
    by false none is others rest =
        subst (λ (b : Bool). ArePassed plan subscriber done (cond (not b) (commit ∷ others) [])) (sym none)
        ((is, none), rest)

pub are_passed : (plan : PlanOf) (subscriber : ℕ) (log : List CommitOf) (done : ℕ) → IsNumbered log
    → ArePassed plan subscriber done (passed_over plan subscriber log done)
are_passed plan subscriber log done numbered =
    passed_front plan subscriber done 64 (drop done log) (numbered_after log done numbered)

-- ---- how many they are

pub few_passed : (plan : PlanOf) (subscriber : ℕ) (log : List CommitOf) (done : ℕ)
    → length (passed_over plan subscriber log done) ≤ length log - done
few_passed plan subscriber log done =
    let quiet = λ (commit : CommitOf). not (concerns plan commit.changes subscriber) in
    let next : List CommitOf = take 64 (drop done log) in
    let front : length (passed_over plan subscriber log done) ≡ min (prefix_len quiet next) (length next) =
    length-take (prefix_len quiet next) next in
    let window : length next ≡ min 64 (length (drop done log)) = length-take 64 (drop done log) in
    let rest : length (drop done log) ≡ length log - done = length-drop done log in
    omega (arith, front, window, rest)

-- ---- entries that are added

pub routed_entry : (one other : CheckedOf) (entry : Routed) (changes : List ChangeOf) → one ≡ other
    → changes ≡ (commit_in entry).changes → AreRoutes one.plan changes entry.routes → IsRouted other.plan entry
routed_entry one other entry changes same seen owned =
    subst (λ (checked : CheckedOf). IsRouted checked.plan entry) same
    (subst (λ (all : List ChangeOf). AreRoutes one.plan all entry.routes) seen owned)

pub routed_pushed : (plan : PlanOf) (log : List Routed) (entry : Routed) → IsRouted plan entry → AreRouted plan log
    → AreRouted plan (log ++ entry ∷ [])
routed_pushed plan log entry is routed =
    All-append (IsRouted plan) log (entry ∷ []) routed (All-cons (IsRouted plan) entry [] is (All-nil (IsRouted plan)))

pub none_routed : (plan : PlanOf) → AreRouted plan []
none_routed plan = All-nil (IsRouted plan)

pub found_routed : (plan : PlanOf) (log seen : List Routed) (place : ℕ) (found : Option (Bor Routed))
    → is_some found ≡ nat_lt place (length seen)
    → IfSome found (λ entry. entry.now ≡ slice_index_or seen place entry.now) → seen ≡ log → AreRouted plan log
    → IfSome found (λ entry. IsRouted plan entry.now)
found_routed plan log seen place None within at same routed = tt
found_routed plan log seen place (Some entry) within at same routed =
    subst (IsRouted plan) (sym at)
    (subst (AreRouted plan) (sym same) routed place entry.now (ltb-true place (length seen) (sym within)))
