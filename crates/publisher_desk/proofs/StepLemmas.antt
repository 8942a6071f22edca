-- What a step tells of the log.
use Rattle.std.proofs.Common.{◌≡◌, ℕ, zero, suc, ◌+◌, ◌-◌, ◌<◌, ◌≤◌, Bool, true, false, List, [], ◌∷◌, length, map, take, drop, refl, sym, ◌∙◌, ap, subst, arith}
use Rattle.std.specs.Prelude.{not, cond, ◌==◌, slice_get, Option, Some, None, IfNone, IfSome}
use Rattle.std.specs.List.{take_while}
use Rattle.std.proofs.lemmas.List.{length-map}
use Rattle.std.proofs.lemmas.List.Sums.{take_while-cons}
use Rattle.std.proofs.lemmas.Option.{slice_get_within}
use Rattle.replica_identity.specs.Plans.{PlanOf}
use Rattle.row_owners.specs.Owners.{concerns}
use Rattle.table_changes.proofs.TableLemmas.{some_is}
use Rattle.tables_log.specs.Commits.{CommitOf}
use Rattle.tables_log.specs.Logs.{entry_at}
use Rattle.tables_log.specs.Lsn.{end_lsn_of}
use Rattle.tables_log.specs.Routes.{ArePassed, passed_over}
use Rattle.tables_log.proofs.PlaceLemmas.{number_is}
use Rattle.publisher_desk.specs.Lending.{IsGiven, commits_in}
use Rattle.publisher_desk.specs.SlotEvents.{advanced_after}
use Rattle.publisher_desk.specs.declared.slot_event.SlotEvent.{SlotEvent}
use Rattle.publisher_desk.specs.declared.step.SenderStep.{SenderStep}

-- ---- where nothing is passed over, the subscriber gets something of the next commit

from_next : (log : List CommitOf) (done : ℕ) (commit : CommitOf) → slice_get log done ≡ Some commit
    → drop done log ≡ commit ∷ drop (suc done) log
from_next [] done commit at = absurd cc
from_next (first ∷ log) zero commit at = ap (λ (one : CommitOf). one ∷ log) (some_is first commit at)
from_next (first ∷ log) (suc done) commit at = from_next log done commit at

front_is : (quiet : CommitOf → Bool) (most done : ℕ) (log : List CommitOf) (commit : CommitOf)
    → slice_get log done ≡ Some commit
    → take_while quiet (take (suc most) (drop done log))
    ≡ cond (quiet commit) (commit ∷ take_while quiet (take most (drop (suc done) log))) []
front_is quiet most done log commit at =
    ap (λ (rest : List CommitOf). take_while quiet (take (suc most) rest)) (from_next log done commit at)
    ∙ take_while-cons quiet commit (take most (drop (suc done) log))

not_taken : (commit : CommitOf) (rest : List CommitOf) (b : Bool) → cond b (commit ∷ rest) [] ≡ [] → b ≡ false
not_taken commit rest true none = absurd cc
not_taken commit rest false none = refl

is_true : (b : Bool) → not b ≡ false → b ≡ true
is_true true is = refl
is_true false is = absurd cc

not_quiet : (plan : PlanOf) (slot done : ℕ) (log : List CommitOf) (commit : CommitOf)
    → slice_get log done ≡ Some commit → passed_over plan slot log done ≡ []
    → concerns plan commit.changes slot ≡ true
not_quiet plan slot done log commit at none =
    let quiet = λ (other : CommitOf). not (concerns plan other.changes slot) in
    is_true (concerns plan commit.changes slot)
    (not_taken commit (take_while quiet (take 63 (drop (suc done) log))) (not (concerns plan commit.changes slot))
    (sym (front_is quiet 63 done log commit at) ∙ none))

-- the place of an entry by its number
entry_place : (log : List CommitOf) (number : ℕ) (commit : CommitOf) → 1 ≤ number
    → entry_at log number ≡ Some commit → slice_get log (number - 1) ≡ Some commit
entry_place log number commit some at = by (number == 0) refl at
  where
    by : (b : Bool) → (number == 0) ≡ b → cond b None (slice_get log (number - 1)) ≡ Some commit
        → slice_get log (number - 1) ≡ Some commit
    by true is found = absurd (let zeroth : number ≡ 0 = number_is number 0 is in omega arith)
    by false is found = found

pub next_concerns : (plan : PlanOf) (slot number : ℕ) (log : List CommitOf) (commit : CommitOf) → 1 ≤ number
    → entry_at log number ≡ Some commit → passed_over plan slot log (number - 1) ≡ []
    → concerns plan commit.changes slot ≡ true
next_concerns plan slot number log commit some at none =
    not_quiet plan slot (number - 1) log commit (entry_place log number commit some at) none

pub entry_within : (log : List CommitOf) (number : ℕ) (commit : CommitOf) → 1 ≤ number
    → entry_at log number ≡ Some commit → number ≤ length log
entry_within log number commit some at =
    let low : number - 1 < length log =
    slice_get_within log (number - 1) commit (entry_place log number commit some at) in
    omega (arith, low)

pub some_numbered : {X : Type 0} (view : X → CommitOf) (found : Option X) (commit : X) (number : ℕ)
    → found ≡ Some commit → IfSome found (λ one. (view one).number ≡ number) → (view commit).number ≡ number
some_numbered {X} view found commit number is numbered =
    subst (λ (o : Option X). IfSome o (λ one. (view one).number ≡ number)) is numbered

-- ---- lists without a last element

missing : {X : Type 0} (items : List X) (place : ℕ) → place < length items → None ≡ slice_get items place → ⊥
missing [] place low none = omega (arith, low)
missing (first ∷ items) zero low none = cc
missing (first ∷ items) (suc place) low none = missing items place (omega (arith, low)) none

empty_of : {X : Type 0} (items : List X) → None ≡ slice_get items (length items - 1) → items ≡ []
empty_of [] none = refl
empty_of (first ∷ items) none =
    absurd (missing (first ∷ items) (length (first ∷ items) - 1) (omega arith) none)

pub none_passed : {X : Type 0} (view : X → CommitOf) (items seen : List X) → seen ≡ items
    → None ≡ slice_get seen (length seen - 1) → map view items ≡ []
none_passed view items seen same none = ap (map view) (sym same ∙ empty_of seen none)

-- ---- the last of those that are passed over is in the log

last_number : (plan : PlanOf) (slot done : ℕ) (commits : List CommitOf) (last : CommitOf)
    → ArePassed plan slot done commits → slice_get commits (length commits - 1) ≡ Some last
    → last.number ≡ done + length commits
last_number plan slot done [] last are at = absurd cc
last_number plan slot done (only ∷ []) last are at =
    let place : length (only ∷ []) - 1 ≡ 0 = omega arith in
    let same : only ≡ last = some_is only last (sym (ap (slice_get (only ∷ [])) place) ∙ at) in
    let number : only.number ≡ suc done = are.0.0 in
    let numbers : only.number ≡ last.number = ap (λ (commit : CommitOf). commit.number) same in
    omega (arith, number, numbers)
last_number plan slot done (first ∷ (second ∷ others)) last are at =
    let place : length (first ∷ (second ∷ others)) - 1 ≡ suc (length (second ∷ others) - 1) = omega arith in
    let found : slice_get (second ∷ others) (length (second ∷ others) - 1) ≡ Some last =
    sym (ap (slice_get (first ∷ (second ∷ others))) place) ∙ at in
    let rest : last.number ≡ suc done + length (second ∷ others) =
    last_number plan slot (suc done) (second ∷ others) last are.1 found in
    omega (arith, rest)

get_map : {X : Type 0} (view : X → CommitOf) (items : List X) (place : ℕ) (one : X) → slice_get items place ≡ Some one
    → slice_get (map view items) place ≡ Some (view one)
get_map view [] place one at = absurd cc
get_map view (first ∷ items) zero one at = ap (λ (x : _). Some (view x)) (some_is first one at)
get_map view (first ∷ items) (suc place) one at = get_map view items place one at

-- its number, of so many that are passed over from this number on
module _ {X : Type 0} (view : X → CommitOf) (plan : PlanOf) (slot number room shown : ℕ) (items seen : List X)
    (last : X) (commit : CommitOf) (some : 1 ≤ number) (same : seen ≡ items)
    (at : Some last ≡ slice_get seen (length seen - 1)) (viewed : commit ≡ view last)
    (shows : shown ≡ commit.number) (are : ArePassed plan slot (number - 1) (map view items))
    (few : length items ≤ room - (number - 1)) where
  passed_last : (shown ≡ number - 1 + length items) × (1 ≤ length items)
  passed_last =
      let found : slice_get items (length items - 1) ≡ Some last =
      subst (λ (list : List X). slice_get list (length list - 1) ≡ Some last) same (sym at) in
      let long : length (map view items) ≡ length items = length-map items view in
      let place : length (map view items) - 1 ≡ length items - 1 = omega (arith, long) in
      let viewed_at : slice_get (map view items) (length (map view items) - 1) ≡ Some (view last) =
      ap (slice_get (map view items)) place ∙ get_map view items (length items - 1) last found in
      let numbered : (view last).number ≡ number - 1 + length (map view items) =
      last_number plan slot (number - 1) (map view items) (view last) are viewed_at in
      let is : commit.number ≡ (view last).number = ap (λ (other : CommitOf). other.number) viewed in
      let there : length items - 1 < length items = slice_get_within items (length items - 1) last found in
      (omega (arith, shows, is, numbered, long), omega (arith, there))

  pub last_is : shown + 1 ≡ number + length items
  last_is = let passed = passed_last in omega (arith, passed.0, some)

  pub last_within : shown ≤ room
  last_within = let passed = passed_last in omega (arith, passed.0, passed.1, few)

-- ---- what the sender was given

-- up to the last commit of a step, if it has any
pub given_by : (slot number : ℕ) (last : Option ℕ) (events : List SlotEvent) (step : SenderStep)
    → IfSome last (λ found. found + 1 ≡ number + commits_in step) → IfNone last (commits_in step ≡ 0)
    → IfSome last (λ found. end_lsn_of found ≤ advanced_after events slot) → IsGiven slot number events step
given_by slot number None events step some none given more = absurd (omega (arith, none, more))
given_by slot number (Some found) events step some none given more =
    omega (arith, some, more, given)
