-- Which subscribers get something of the entries of a log, and which commits a subscriber's connection passes over:
-- PostgreSQL 15, "Logical Replication", 31.3.3 UPDATE Transformations.
use Rattle.std.specs.Prelude.{◌≡◌, ℕ, suc, Bool, false, not, List, [], ◌∷◌, All, drop, take, Option, Some, None}
use Rattle.std.specs.Arc.{arc_value}
use Rattle.std.specs.List.{take_while}
use Rattle.replica_identity.specs.Plans.{PlanOf}
use Rattle.row_owners.specs.Owners.{AreRoutes, concerns, owned}
use Rattle.tables_log.specs.Commits.{CommitOf}
use Rattle.tables_log.specs.declared.routed.Routed.{Routed}

abbrev pub commit_in : Routed → CommitOf
commit_in entry = arc_value entry.commit

-- the entry's set lacks the subscriber
abbrev pub lacks : ℕ → Routed → Bool
lacks subscriber entry = not (owned entry.routes.all subscriber)

-- The entry's sets have exactly the subscribers that get something of its commit, and of each of its changes.
abbrev pub IsRouted : PlanOf → Routed → Type 0
IsRouted plan entry = AreRoutes plan (commit_in entry).changes entry.routes

-- The same holds for each entry.
abbrev pub AreRouted : PlanOf → List Routed → Type 0
AreRouted plan log = All (IsRouted plan) log

-- the subscriber gets something of the commit; nobody does if there is none
abbrev pub gets_some : PlanOf → Option CommitOf → ℕ → Bool
gets_some plan None subscriber = false
gets_some plan (Some commit) subscriber = concerns plan commit.changes subscriber

-- the commits after this number of others, before the first of which the subscriber gets something, and at most 64
abbrev pub passed_over : PlanOf → ℕ → List CommitOf → ℕ → List CommitOf
passed_over plan subscriber log done =
    take_while (λ commit. not (concerns plan commit.changes subscriber)) (take 64 (drop done log))

-- They follow this many others, and the subscriber gets nothing of any.
abbrev pub ArePassed : PlanOf → ℕ → ℕ → List CommitOf → Type 0
ArePassed plan subscriber done [] = Unit {0}
ArePassed plan subscriber done (commit ∷ commits) =
    ((commit.number ≡ suc done) × (concerns plan commit.changes subscriber ≡ false))
    × ArePassed plan subscriber (suc done) commits
