-- What holds in each world that events lead to: each subscriber has exactly its shard of the publisher's tables after
-- the commits that it applied; and if all have applied the same, each row is at exactly one of them: PostgreSQL 15,
-- "Logical Replication", 31.2 Subscription and 31.3 Row Filters.
use Rattle.std.specs.Prelude.{◌≡◌, ◌<◌, ◌≤◌, ◌^◌, ℕ, Bool, true, List, All, length, take, Option, Some, None}
use Rattle.filter_tree.specs.Datum.{Datum}
use Rattle.table_changes.specs.Standing.{Covered, KeepsApart, DividesRows}
use Rattle.table_changes.specs.Tables.{is_row, holds}
use Rattle.pub_catalog.specs.CatalogLimits.{IsLimited}
use Rattle.pub_catalog.specs.CatalogNames.{IsNamedCatalog}
use Rattle.replica_identity.specs.Plans.{plan_of}
use Rattle.shard_checker.specs.CheckedView.{CheckedOf, checked_view, setting_in}
use Rattle.shard_checker.specs.declared.checked.Checked.{Checked}
use Rattle.tables_log.specs.Lsn.{commits_before}
use Rattle.tables_log.specs.StandsFor.{after}
use Rattle.pgoutput_msgs.specs.Telling.{oid_of}
use Rattle.stream_laws.specs.Following.{own_key, HasShard}
use Rattle.shard_world.specs.World.{Connection, Peer, World, Event, Commit, On, first_world, Leads, position_of, machine_of}

-- ---- what is required of the publisher and of events

-- A catalog that was checked, within its limits and named, and its own plan; its log may have at most 1,000,000,000
-- commits.
pub record IsPublisher (checked : CheckedOf) (most : ℕ) : Type 0 where
  pub own : checked.plan ≡ plan_of checked.catalog
  pub covered : Covered (setting_in checked)
  pub apart : KeepsApart (setting_in checked)
  pub limited : IsLimited checked.catalog
  pub named : IsNamedCatalog checked.catalog
  pub most_is : most ≤ 1000000000

-- each `Checked` is such a catalog
abbrev pub CheckedPublish : Type 0
CheckedPublish = (checked : Checked) (most : ℕ) → most ≤ 1000000000 → IsPublisher (checked_view checked) most

-- times have 64 bits: that of a commit, and the clock of an event
abbrev pub HasTime : Event → Type 0
HasTime (Commit commands time) = time < 2 ^ 64
HasTime (On subscriber event) = Unit {0}

abbrev pub IsTimedEvent : ℕ × Event → Type 0
IsTimedEvent event = (event.0 < 2 ^ 64) × HasTime event.1

-- ---- where streams start

-- one that has started did at this position
abbrev pub StartsAt : ℕ → Option ℕ → Type 0
StartsAt position None = Unit {0}
StartsAt position (Some start) = start ≡ position

-- the stream of a connection starts at the position that was requested when it was opened
abbrev pub IsStartedAsAsked : Peer → Option Connection → Type 0
IsStartedAsAsked peer None = Unit {0}
IsStartedAsAsked peer (Some c) = StartsAt peer.position c.start

abbrev pub WorldsStartAsAsked : Type 0
WorldsStartAsAsked = (checked : CheckedOf) (most : ℕ) → IsPublisher checked most → (events : List (ℕ × Event))
    → All IsTimedEvent events
    → (world : World) → Leads checked most events first_world world → (subscriber : ℕ)
    → IsStartedAsAsked (world.peers subscriber) (world.peers subscriber).connection

-- ---- each has its shard

-- how many commits a subscriber has applied: those among them without a change for it are counted too
abbrev pub applied_in : CheckedOf → World → ℕ → ℕ
applied_in checked world subscriber = commits_before (position_of checked world subscriber)

abbrev pub HoldsExactly : CheckedOf → World → Type 0
HoldsExactly checked world = (subscriber : ℕ)
    → HasShard checked subscriber (machine_of checked world subscriber)
    (after (setting_in checked) (take (applied_in checked world subscriber) world.transactions))

abbrev pub WorldsHoldExactly : Type 0
WorldsHoldExactly = (checked : CheckedOf) (most : ℕ) → IsPublisher checked most → (events : List (ℕ × Event))
    → All IsTimedEvent events
    → (world : World) → Leads checked most events first_world world → HoldsExactly checked world

-- ---- all together have the tables

-- the subscriber has the row
abbrev pub has_row : CheckedOf → World → ℕ → ℕ → List Datum → Bool
has_row checked world subscriber table row =
    is_row ((machine_of checked world subscriber).rows (oid_of table) (own_key checked table row)) row

abbrev pub HaveApplied : CheckedOf → World → ℕ → Type 0
HaveApplied checked world count = (subscriber : ℕ) → subscriber < length checked.plan
    → applied_in checked world subscriber ≡ count

-- exactly one subscriber has the row
pub record IsAtOne (checked : CheckedOf) (world : World) (table : ℕ) (row : List Datum) : Type 0 where
  pub owner : ℕ
  pub is_one : owner < length checked.plan
  pub has_it : has_row checked world owner table row ≡ true
  pub no_other : (other : ℕ) → other < length checked.plan → has_row checked world other table row ≡ true
      → other ≡ owner

-- each row of the tables after this number of commits is at exactly one subscriber, and no subscriber has another row
pub record Divides (checked : CheckedOf) (world : World) (count : ℕ) : Type 0 where
  pub somewhere : (table : ℕ) (row : List Datum)
      → holds (setting_in checked).keys (after (setting_in checked) (take count world.transactions)) table row ≡ true
      → IsAtOne checked world table row
  pub nothing_else : (subscriber table : ℕ) (row : List Datum) → subscriber < length checked.plan
      → has_row checked world subscriber table row ≡ true
      → holds (setting_in checked).keys (after (setting_in checked) (take count world.transactions)) table row ≡ true

abbrev pub WorldsDivideRows : Type 0
WorldsDivideRows = (checked : CheckedOf) (most : ℕ) → IsPublisher checked most → DividesRows (setting_in checked)
    → (events : List (ℕ × Event)) → All IsTimedEvent events
    → (world : World) → Leads checked most events first_world world → (count : ℕ) → HaveApplied checked world count
    → Divides checked world count
