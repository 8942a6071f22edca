-- If all subscribers have applied the same commits, what is shown of them divides the publisher's tables.
use Rattle.std.proofs.Common.{◌≡◌, ℕ, zero, suc, ◌<◌, true, List, [], ◌∷◌, length, refl, sym, ap, subst, ◌∙◌, arith}
use Rattle.std.specs.Prelude.{All, IfSome, Some, slice_get}
use Rattle.std.specs.Option.{option_map}
use Rattle.std.proofs.lemmas.List.{length-map}
use Rattle.std.proofs.lemmas.Option.{same_Some, slice_get-map, slice_get_within}
use Rattle.filter_tree.specs.Datum.{Datum}
use Rattle.shard_checker.specs.CheckedView.{CheckedOf, setting_in}
use Rattle.table_changes.specs.Standing.{DividesRows}
use Rattle.table_changes.specs.Tables.{holds}
use Rattle.tables_log.specs.Lsn.{commits_before}
use Rattle.stream_laws.specs.ShardRows.{in_shard}
use Rattle.shard_world.specs.ViewContents.{AllAt}
use Rattle.shard_world.specs.ViewMeaning.{AreRows, DividesShown, ShowsRow, ShowsSubscriber, shown_rows, tables_after}
use Rattle.shard_world.specs.World as w
use Rattle.shard_world.specs.World.{Event, Leads, first_world, source_in}
use Rattle.shard_world.specs.WorldLaws.{Divides, HaveApplied, IsPublisher, IsTimedEvent, has_row}
use Rattle.shard_world.specs.declared.view.SubscriberView.{SubscriberView}
use Rattle.shard_world.specs.declared.view.View.{View}
use Rattle.shard_world.proofs.WorldLemmas.{worlds_divide_rows, worlds_hold_exactly}
use Rattle.std.proofs.lemmas.Bool.{and_parts}

-- ---- lists

-- one exists for each number that is less than their number
pub get_there : {X : Type 0} (xs : List X) (number : ℕ) → number < length xs → (x : X) × (slice_get xs number ≡ Some x)
get_there [] number h = absurd (omega (arith, h))
get_there (x ∷ xs) zero h = (x, refl)
get_there (x ∷ xs) (suc number) h = get_there xs number (omega (arith, h))

pub at_one : {X : Type 0} (P : ℕ → X → Type 0) (xs : List X) (number : ℕ) (x : X) → AllAt P xs
    → slice_get xs number ≡ Some x → P number x
at_one P xs number x all is = subst (λ found. IfSome found (P number)) is (all number)

-- ---- what is shown of one subscriber

module _ (checked : CheckedOf) (world : w.World) (shown : View)
    (each : AllAt (λ number subscriber. ShowsSubscriber (source_in checked world number) (world.peers number)
    subscriber) shown.subscribers.items)
    (count_is : length shown.subscribers.items ≡ length checked.plan) (count : ℕ)
    (all_applied : AllAt (λ number subscriber. subscriber.applied ≡ count) shown.subscribers.items) where
  shown_at : (number : ℕ) (subscriber : SubscriberView) → slice_get shown.subscribers.items number ≡ Some subscriber
      → ShowsSubscriber (source_in checked world number) (world.peers number) subscriber
  shown_at number subscriber is =
      at_one (λ n one. ShowsSubscriber (source_in checked world n) (world.peers n) one) shown.subscribers.items number
      subscriber each is

  applied_at : (number : ℕ) (subscriber : SubscriberView) → slice_get shown.subscribers.items number ≡ Some subscriber
      → subscriber.applied ≡ count
  applied_at number subscriber is =
      at_one (λ n one. one.applied ≡ count) shown.subscribers.items number subscriber all_applied is

  within : (number : ℕ) → number < length checked.plan → number < length shown.subscribers.items
  within number h = omega (arith, h, count_is)

  of_plan : (number : ℕ) (subscriber : SubscriberView) → slice_get shown.subscribers.items number ≡ Some subscriber
      → number < length checked.plan
  of_plan number subscriber is = below (slice_get_within shown.subscribers.items number subscriber is)
    where
      below : number < length shown.subscribers.items → number < length checked.plan
      below h = omega (arith, h, count_is)

  have_applied : HaveApplied checked world count
  have_applied number h =
      let there = get_there shown.subscribers.items number (within number h) in
      let its = shown_at number there.0 there.1 in
      sym (its.applied_is ∙ ap commits_before its.position_is) ∙ applied_at number there.0 there.1

  -- its rows of a table
  rows_at : (number table : ℕ) (subscriber : SubscriberView) (rows : List (List Datum))
      → slice_get shown.subscribers.items number ≡ Some subscriber
      → slice_get (shown_rows subscriber) table ≡ Some rows
      → AreRows (in_shard (setting_in checked) number (tables_after checked world.transactions count) table) rows
  rows_at number table subscriber rows is of_table =
      let its = shown_at number subscriber is in
      subst (λ n. AreRows (in_shard (setting_in checked) number (tables_after checked world.transactions n) table)
      rows) (applied_at number subscriber is) (listed its)
    where
      listed : ShowsSubscriber (source_in checked world number) (world.peers number) subscriber
          → AreRows (in_shard (setting_in checked) number (tables_after checked world.transactions subscriber.applied)
          table) rows
      listed its =
          let there = get_there subscriber.rows.items table
          (subst (λ n. table < n) (length-map subscriber.rows.items (λ one. one.items))
          (slice_get_within (shown_rows subscriber) table rows of_table)) in
          subst (AreRows (in_shard (setting_in checked) number
          (tables_after checked world.transactions subscriber.applied) table))
          (same_Some (there.0).items rows
          (sym (slice_get-map (λ one. one.items) subscriber.rows.items table
          ∙ ap (option_map (λ one. one.items)) there.1) ∙ of_table))
          (at_one (λ n one. AreRows
          (in_shard (setting_in checked) number (tables_after checked world.transactions subscriber.applied) n)
          one.items) subscriber.rows.items table there.0 its.rows there.1)

  -- what it has is shown, and nothing else
  shows_it : (number table : ℕ) (row : List Datum) → number < length checked.plan
      → table < length checked.catalog.tables
      → in_shard (setting_in checked) number (tables_after checked world.transactions count) table row ≡ true
      → ShowsRow shown number table row
  shows_it number table row one fits h =
      let there = get_there shown.subscribers.items number (within number one) in
      let listed = get_there (shown_rows there.0) table (wide there.0 (shown_at number there.0 there.1)) in
      record {
        subscriber = there.0;
        rows = listed.0;
        is = there.1;
        of_table = listed.1;
        has = (rows_at number table there.0 listed.0 there.1 listed.1).all row h;
      }
    where
      wide : (subscriber : SubscriberView)
          → ShowsSubscriber (source_in checked world number) (world.peers number) subscriber
          → table < length (shown_rows subscriber)
      wide subscriber its = omega (arith, fits, its.tables, length-map subscriber.rows.items (λ one. one.items))

  has_it : (number table : ℕ) (row : List Datum) → ShowsRow shown number table row
      → in_shard (setting_in checked) number (tables_after checked world.transactions count) table row ≡ true
  has_it number table row shows =
      (rows_at number table shows.subscriber shows.rows shows.is shows.of_table).only row shows.has

  -- ---- all together

  pub divides_shown : (most : ℕ) → IsPublisher checked most → DividesRows (setting_in checked)
      → (events : List (ℕ × Event)) → All IsTimedEvent events → Leads checked most events first_world world
      → DividesShown checked world.transactions count shown
  divides_shown most publisher sound events times leads = record {
    somewhere = λ table row fits there.
        let one = divides.somewhere table row there in
        record {
          owner = one.owner;
          has_it = shows_it one.owner table row one.is_one fits
              (sym (has_as one.owner one.is_one table row) ∙ one.has_it);
          no_other = λ other shows.
              let is_one = of_plan other shows.subscriber shows.is in
              one.no_other other is_one (has_as other is_one table row ∙ has_it other table row shows);
        };
    nothing_else = λ number table row shows.
        (and_parts (holds (setting_in checked).keys (tables_after checked world.transactions count) table row)
        ((setting_in checked).passes number table row)
        (has_it number table row shows)).0;
  }
    where
      divides : Divides checked world count
      divides = worlds_divide_rows checked most publisher sound events times world leads count have_applied

      has_as : (number : ℕ) → number < length checked.plan → (table : ℕ) (row : List Datum)
          → has_row checked world number table row
          ≡ in_shard (setting_in checked) number (tables_after checked world.transactions count) table row
      has_as number one table row =
          (worlds_hold_exactly checked most publisher events times world leads number table).each row
          ∙ ap (λ n. in_shard (setting_in checked) number (tables_after checked world.transactions n) table row)
          (have_applied number one)
