-- That no stream started after commits of the log that no client of its slot confirmed or asked to pass over, or before
-- a position that one confirmed, and that in the end each slot is confirmed so that one could start there: PostgreSQL
-- 15, "Logical Replication", 31.2.1 Replication Slot Management.
use Rattle.std.specs.Prelude.{◌≡◌, ◌≢◌, ◌<◌, ◌≤◌, ℕ, true, List, [], ◌∷◌, ◌++◌, All, Contains, map, unwrap_or, Option, Some, None}
use Rattle.std.specs.List.{range_with_len}
use Rattle.std.specs.List.Sorted.{IsPermutation, IsNonDecreasingBy}
use Rattle.tables_log.specs.Lsn.{commits_before}
use Rattle.tables_log.specs.Slots.{confirmed_at}
use Rattle.tables_log.specs.declared.slots.Slot.{Slot}
use Rattle.senders.specs.Results.{ServedOf, taken_from}
use Rattle.senders.specs.TakenCommits.{confirmed_to}

-- ---- the connections that started a stream

-- a connection before these others, if it has a start
abbrev pub if_started : Option ℕ → ServedOf → List ServedOf → List ServedOf
if_started None one others = others
if_started (Some start) one others = one ∷ others

-- those with a start, in their order
abbrev pub started_in : List ServedOf → List ServedOf
started_in [] = []
started_in (one ∷ all) = if_started one.start one (started_in all)

-- the numbers of their acquisitions
abbrev pub numbers_in : List ServedOf → List ℕ
numbers_in all = map (λ (one : ServedOf). one.number) all

-- Those that started a stream, in the order in which they acquired their slots: their numbers are 1 to this count, each
-- once.
pub record IsOrder (count : ℕ) (all order : List ServedOf) : Type 0 where
  pub same : IsPermutation (started_in all) order
  pub numbered : numbers_in order ≡ range_with_len 1 count

-- Sorted by their numbers, those that started a stream do not have the numbers 1 to this count.
pub record LacksConnection (count : ℕ) (all : List ServedOf) : Type 0 where
  pub sorted : List ServedOf
  pub same : IsPermutation (started_in all) sorted
  pub order : IsNonDecreasingBy (λ (one : ServedOf). one.number) sorted
  pub other : numbers_in sorted ≢ range_with_len 1 count

-- ---- the commits before a start

-- The commit of the log that this number of commits precede is accounted for by a connection of the slot: it was taken
-- for it, and its client confirmed it; or it is before the position that its client requested.
pub data Accounts (slot count : ℕ) (one : ServedOf) : Type 0 where
  Confirms : one.slot ≡ Some slot → taken_from one ≤ count → count < confirmed_to one → Accounts slot count one
  Requests : one.slot ≡ Some slot → one.is_requested ≡ true → count < taken_from one → Accounts slot count one

-- One of the connections accounts for it.
pub record IsAccounted (all : List ServedOf) (slot count : ℕ) : Type 0 where
  pub one : ServedOf
  pub among : Contains all one
  pub by : Accounts slot count one

-- In this order of the connections: each commit before the start of one of the slot was taken for one of the slot
-- before it, whose client confirmed it, or is before a position that its client, or that of one of the slot before it,
-- requested.
abbrev pub IsReached : List ServedOf → ℕ → Type 0
IsReached order slot = (earlier : List ServedOf) (one : ServedOf) (later : List ServedOf)
    → order ≡ earlier ++ one ∷ later → one.slot ≡ Some slot → (count : ℕ) → count < taken_from one
    → IsAccounted (earlier ++ one ∷ []) slot count

-- so it is of each slot
abbrev pub AreReached : ℕ → List ServedOf → Type 0
AreReached slots order = (slot : ℕ) → slot < slots → IsReached order slot

-- ---- the positions before a start

-- In this order of the connections: none of the slot starts before a position that an earlier one of the slot reports
-- as confirmed.
abbrev pub IsResumed : List ServedOf → ℕ → Type 0
IsResumed order slot = (earlier : List ServedOf) (one : ServedOf) (later : List ServedOf)
    → order ≡ earlier ++ one ∷ later → one.slot ≡ Some slot
    → All (λ (other : ServedOf). other.slot ≡ Some slot → other.confirmed ≤ unwrap_or one.start 0) earlier

-- so it is of each slot
abbrev pub AreResumed : ℕ → List ServedOf → Type 0
AreResumed slots order = (slot : ℕ) → slot < slots → IsResumed order slot

-- ---- the positions up to which slots are confirmed in the end

-- Each commit before the position up to which this slot is confirmed is accounted for by a connection of the slot.
abbrev pub EndsReached : List ServedOf → List Slot → ℕ → Type 0
EndsReached order slots slot =
    (count : ℕ) → count < commits_before (confirmed_at slots slot) → IsAccounted order slot count

-- so it is of each of so many slots
abbrev pub AllEndReached : ℕ → List Slot → List ServedOf → Type 0
AllEndReached count slots order = (slot : ℕ) → slot < count → EndsReached order slots slot

-- It is as if a stream without a request started where this slot is confirmed: each commit before that position is
-- accounted for by a connection of the slot, and none of the slot reports a later position as confirmed.
pub record EndsAsConfirmed (order : List ServedOf) (slots : List Slot) (slot : ℕ) : Type 0 where
  pub reached : EndsReached order slots slot
  pub resumed : All (λ (other : ServedOf). other.slot ≡ Some slot → other.confirmed ≤ confirmed_at slots slot) order

-- so it is of each of so many slots
abbrev pub AllEndAsConfirmed : ℕ → List Slot → List ServedOf → Type 0
AllEndAsConfirmed count slots order = (slot : ℕ) → slot < count → EndsAsConfirmed order slots slot
