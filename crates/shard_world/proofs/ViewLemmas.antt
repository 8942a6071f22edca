-- What is shown of a subscriber and of the publisher's tables.
use Rattle.std.proofs.Common.{◌≡◌, ℕ, zero, suc, ◌<◌, ◌≤◌, Bool, ◌&&◌, List, [], ◌∷◌, ◌++◌, length, refl, sym, ap, subst, ◌∙◌, arith}
use Rattle.std.specs.Prelude.{IfSome, Option, Some, None, slice_get}
use Rattle.std.proofs.lemmas.Option.{slice_get_within}
use Rattle.filter_tree.specs.Datum.{Datum}
use Rattle.replica_identity.proofs.PassingLemmas.{takes_what_passes}
use Rattle.shard_checker.specs.CheckedView.{CheckedOf, setting_in}
use Rattle.table_changes.specs.Keys.{key_at}
use Rattle.table_changes.specs.Standing.{DividesRows}
use Rattle.table_changes.specs.Tables.{Tables, SameTables, Stands, found_at, holds, is_row}
use Rattle.table_changes.proofs.CommandListLemmas.{are_alike}
use Rattle.table_changes.proofs.TableLemmas.{row_found}
use Rattle.tables_log.specs.BookView.{book_checked, book_listed, book_rows, book_slots}
use Rattle.tables_log.specs.Listing.{ListsFound, AreRowsOf}
use Rattle.tables_log.specs.Lsn.{commits_before}
use Rattle.tables_log.specs.Places.{IsInOrder}
use Rattle.tables_log.specs.StandsFor.{Transaction, StandsFor, after}
use Rattle.tables_log.specs.declared.book.Book.{Book}
use Rattle.tables_log.proofs.ListingLemmas.{rows_in_order}
use Rattle.tables_log.proofs.StandLemmas.{books_are_right, each_is_logged, listed_are_rows}
use Rattle.pgoutput_msgs.specs.Telling.{oid_of}
use Rattle.tables_log.specs.Slots.{confirmed_at}
use Rattle.copy_both.specs.declared.link.Link.{Link}
use Rattle.test_subscriber.specs.Subscribers.{sub_listed, sub_machine}
use Rattle.stream_laws.specs.ShardRows.{FindsRows, in_shard}
use Rattle.stream_laws.specs.Following.{Follows, own_key}
use Rattle.shard_world.specs.Joined.{PeerOf, PeerIs, IsAt, StaysAlike}
use Rattle.shard_world.specs.ViewContents.{AllAt, FoundIn, FoundBy, IsSeen, SeenAt, AreSeen}
use Rattle.shard_world.specs.ViewMeaning.{AreRows, ShowsSubscriber, ShowsWorld, is_let_through, tables_after}
use Rattle.shard_world.specs.World as w
use Rattle.shard_world.specs.World.{Connection, Event, connection_machine, machine_now, position_now, source_in, position_of, machine_of}
use Rattle.shard_world.specs.Pumping.{IsPosition}
use Rattle.shard_world.specs.WorldCalls.{PeerAt, IsWorldBy, world_book, world_checked, world_peers}
use Rattle.shard_world.specs.declared.world.World.{World}
use Rattle.shard_world.specs.declared.view.SubscriberView.{SubscriberView}
use Rattle.shard_world.specs.declared.view.View.{View}
use Rattle.shard_world.proofs.DividedLemmas.{divides_shown}
use Rattle.stream_laws.proofs.SwapLemmas.{is_it}
use Rattle.shard_world.proofs.WorldLemmas.{all_timed, can_be_said, good_at, published}
use Rattle.shard_world.proofs.WorldPeers.{good_follows}

-- rows that are found by their own keys
pub are_rows : (key_of : List Datum → List Datum) (found : List Datum → Option (List Datum))
    (test : List Datum → Bool) (listed rows : List (List Datum)) → FindsRows key_of found test
    → ListsFound found listed → IsInOrder listed rows → AreRows test rows
are_rows key_of found test listed rows finds lists in_order =
    let are : AreRowsOf found rows =
    rows_in_order found listed rows (λ row. Some (key_of row)) (λ key row is. ap Some (finds.keyed key row is))
    lists in_order in
    record {
      all = λ row is. are.all (key_of row) row (row_found (found (key_of row)) row (finds.each row ∙ is));
      only = λ row has.
          let here = are.only row has in
          sym (finds.each row) ∙ is_it (found (key_of row)) row (ap found (finds.keyed here.0 row here.1) ∙ here.1);
      ascending = are.ascending;
    }

-- tests that agree on every row have the same rows
are_rows_alike : (test other : List Datum → Bool) (rows : List (List Datum))
    → ((row : List Datum) → other row ≡ test row) → AreRows test rows → AreRows other rows
are_rows_alike test other rows same are = record {
  all = λ row is. are.all row (sym (same row) ∙ is);
  only = λ row has. same row ∙ are.only row has;
  ascending = are.ascending;
}

finds_alike : (key_of : List Datum → List Datum) (found other : List Datum → Option (List Datum))
    (test : List Datum → Bool) → ((key : List Datum) → other key ≡ found key)
    → FindsRows key_of found test → FindsRows key_of other test
finds_alike key_of found other test same finds = record {
  keyed = λ key row is. finds.keyed key row (sym (same key) ∙ is);
  each = λ row. ap (λ its. is_row its row) (same (key_of row)) ∙ finds.each row;
}

-- ---- the publisher's tables

module _ (checked : CheckedOf) (book : Book) (transactions : List Transaction)
    (checked_is : book_checked book ≡ checked) (stands : StandsFor book transactions) where
  holding : (table : ℕ) (row : List Datum)
      → holds (setting_in checked).keys (book_rows book) table row
      ≡ holds (setting_in checked).keys (after (setting_in checked) transactions) table row
  holding table row = (are_alike (setting_in checked) (book_rows book) (after (setting_in checked) transactions)
      (subst (λ its. SameTables (book_rows book) (after (setting_in its) transactions)) checked_is
      stands.rows)).holding table row

  stands_keyed : Stands (setting_in checked).keys (book_rows book)
  stands_keyed = subst (λ its. Stands (setting_in its).keys (book_rows book)) checked_is
      (books_are_right book transactions stands).keyed

  -- the row of a key
  held_by : (table : ℕ) (row : List Datum) (key : Option (List Datum))
      → found_at (book_rows book table 0) key ≡ Some row → (value : List Datum)
      × (book_rows book table 0 value ≡ Some row)
  held_by table row None is = absurd cc
  held_by table row (Some value) is = (value, is)

  pub publisher_rows : (table : ℕ) (rows : List (List Datum))
      → ListsFound (book_rows book table 0) (book_listed book table) → IsInOrder (book_listed book table) rows
      → AreRows (holds (setting_in checked).keys (after (setting_in checked) transactions) table) rows
  publisher_rows table rows lists in_order =
      let are : AreRowsOf (book_rows book table 0) rows =
      listed_are_rows book transactions table rows stands lists in_order in
      record {
        all = λ row is.
            let here = held_by table row (key_at (setting_in checked).keys table 0 row)
            (row_found (found_at (book_rows book table 0) (key_at (setting_in checked).keys table 0 row)) row
            (holding table row ∙ is)) in
            are.all here.0 row here.1;
        only = λ row has.
            let here = are.only row has in
            sym (holding table row)
            ∙ is_it (found_at (book_rows book table 0) (key_at (setting_in checked).keys table 0 row)) row
            (ap (found_at (book_rows book table 0)) (stands_keyed.keyed table 0 here.0 row here.1) ∙ here.1);
        ascending = are.ascending;
      }

-- ---- one more

pub at_more : {X : Type 0} (P : ℕ → X → Type 0) (xs : List X) (x : X) → AllAt P xs → P (length xs) x
    → AllAt P (xs ++ x ∷ [])
at_more P [] x all one zero = one
at_more P [] x all one (suc number) = tt
at_more P (first ∷ xs) x all one zero = all zero
at_more P (first ∷ xs) x all one (suc number) = at_more (λ n. P (suc n)) xs x (λ n. all (suc n)) one number

-- each of them has the one and the other
at_also : {X : Type 0} (P Q : ℕ → X → Type 0) (xs : List X) → AllAt P xs
    → ((number : ℕ) (x : X) → slice_get xs number ≡ Some x → P number x → Q number x) → AllAt Q xs
at_also P Q [] all also number = tt
at_also P Q (x ∷ xs) all also zero = also zero x refl (all zero)
at_also P Q (x ∷ xs) all also (suc number) =
    at_also (λ n. P (suc n)) (λ n. Q (suc n)) xs (λ n. all (suc n)) (λ n. also (suc n)) number

-- ---- all that is shown

module _ (checked : CheckedOf) (most : ℕ) (book : Book) (peers : List PeerOf) (events : List (ℕ × Event))
    (world : w.World) (is : IsWorldBy checked most book peers events world) where
  -- a subscriber that matches that of the world is at its position, and has its rows
  stays_at : (number : ℕ) (code : PeerOf)
      → PeerIs (source_in checked world number) (book_slots book) code (world.peers number)
      → StaysAlike (sub_machine code.subscriber) (machine_of checked world number)
  stays_at number code stands = by_link code.link (world.peers number).connection refl stands.at
    where
      by_link : (link : Option Link) (connection : Option Connection) → (world.peers number).connection ≡ connection
          → IsAt (source_in checked world number) (book_slots book) link code.subscriber (world.peers number) connection
          → StaysAlike (sub_machine code.subscriber) (machine_of checked world number)
      by_link None None e at =
          subst (λ its. StaysAlike (sub_machine code.subscriber)
          (connection_machine (source_in checked world number) (world.peers number) its)) (sym e) at.machine
      by_link (Some link) (Some c) e at =
          subst (λ its. StaysAlike (sub_machine code.subscriber)
          (connection_machine (source_in checked world number) (world.peers number) its)) (sym e)
          (record { position = at.machine.position; kept = at.machine.kept; rows = at.machine.rows })
      by_link None (Some c) e at = absurd at
      by_link (Some link) None e at = absurd at

  slot_at : (number : ℕ) (code : PeerOf)
      → PeerIs (source_in checked world number) (book_slots book) code (world.peers number)
      → confirmed_at (book_slots book) number ≡ (world.peers number).confirmed
  slot_at number code stands = by_link code.link (world.peers number).connection stands.at
    where
      by_link : (link : Option Link) (connection : Option Connection)
          → IsAt (source_in checked world number) (book_slots book) link code.subscriber (world.peers number)
          connection
          → confirmed_at (book_slots book) number ≡ (world.peers number).confirmed
      by_link None None at = grind (arith, at.slot)
      by_link (Some link) (Some c) at = grind (arith, at.slot)
      by_link None (Some c) at = absurd at
      by_link (Some link) None at = absurd at

  follows_at : (number : ℕ) → Follows checked world.transactions number
      (position_of checked world number) (machine_of checked world number)
  follows_at number =
      let sayable = can_be_said checked most is.publisher events is.times world is.leads in
      let good = good_at checked is.publisher.covered is.publisher.apart most events (all_timed events is.times) world
      is.leads sayable in
      good_follows (source_in checked world number)
      (published checked is.publisher.covered is.publisher.apart world good) sayable (world.peers number)
      (good.peers number)

  -- it has its shard after as many commits as are shown
  finds_shown : (number count table : ℕ) (code : PeerOf) → count ≡ commits_before (position_of checked world number)
      → StaysAlike (sub_machine code.subscriber) (machine_of checked world number)
      → FindsRows (own_key checked table) ((sub_machine code.subscriber).rows (oid_of table))
      (in_shard (setting_in checked) number (tables_after checked world.transactions count) table)
  finds_shown number count table code e alike =
      subst (λ n. FindsRows (own_key checked table) ((sub_machine code.subscriber).rows (oid_of table))
      (in_shard (setting_in checked) number (tables_after checked world.transactions n) table)) (sym e)
      (finds_alike (own_key checked table) ((machine_of checked world number).rows (oid_of table))
      ((sub_machine code.subscriber).rows (oid_of table))
      (in_shard (setting_in checked) number
      (tables_after checked world.transactions (commits_before (position_of checked world number))) table)
      (λ key. alike.rows (oid_of table) key) ((follows_at number).rows table))

  -- what a subscriber's share of a table takes is what its publications let through
  lets_through : (number : ℕ) (tables : Tables) (table : ℕ) → table < length checked.catalog.tables
      → (rows : List (List Datum))
      → AreRows (in_shard (setting_in checked) number tables table) rows
      → AreRows (is_let_through checked number tables table) rows
  lets_through number tables table within rows are =
      are_rows_alike (in_shard (setting_in checked) number tables table) (is_let_through checked number tables table)
      rows
      (λ row. ap (λ (passes : Bool). holds (setting_in checked).keys tables table row && passes)
      (sym ((takes_what_passes checked.catalog checked.plan is.publisher.own).same number table within row))) are

  shows_subscriber : (tables number : ℕ) → tables ≡ length checked.catalog.tables
      → (code : PeerOf) (shown : SubscriberView)
      → PeerIs (source_in checked world number) (book_slots book) code (world.peers number)
      → IsSeen book tables number code.subscriber shown
      → ShowsSubscriber (source_in checked world number) (world.peers number) shown
  shows_subscriber tables number width code shown stands seen =
      let alike = stays_at number code stands in
      let position : shown.position ≡ position_of checked world number = seen.position_is ∙ alike.position
      ∙ (follows_at number).position_is in
      let shard = at_also (λ table rows. FoundBy code.subscriber table rows.items)
      (λ table rows. AreRows
      (in_shard (setting_in checked) number (tables_after checked world.transactions shown.applied) table)
      rows.items) shown.rows.items seen.rows
      (λ table rows there found. are_rows (own_key checked table) ((sub_machine code.subscriber).rows (oid_of table))
      (in_shard (setting_in checked) number (tables_after checked world.transactions shown.applied) table)
      (sub_listed code.subscriber (oid_of table)) rows.items
      (finds_shown number shown.applied table code (seen.applied_is ∙ ap commits_before position) alike) found.lists
      found.in_order) in
      record {
        position_is = position;
        applied_is = seen.applied_is;
        confirmed_is = seen.confirmed_is ∙ slot_at number code stands;
        tables = seen.width ∙ width;
        rows = shard;
        let_through = at_also
            (λ table rows. AreRows
            (in_shard (setting_in checked) number (tables_after checked world.transactions shown.applied) table)
            rows.items)
            (λ table rows. AreRows
            (is_let_through checked number (tables_after checked world.transactions shown.applied) table)
            rows.items) shown.rows.items shard
            (λ table rows there are. lets_through number (tables_after checked world.transactions shown.applied) table
            (subst (λ n. table < n) (seen.width ∙ width) (slice_get_within shown.rows.items table rows there))
            rows.items are);
      }

  -- a subscriber that is shown exists
  shows_at : (tables number : ℕ) → tables ≡ length checked.catalog.tables → (shown : SubscriberView)
      → number < length checked.plan → (code : Option PeerOf) → slice_get peers number ≡ code
      → PeerAt (source_in checked world number) (book_slots book) (world.peers number) code
      → IfSome code (λ peer. IsSeen book tables number peer.subscriber shown)
      → ShowsSubscriber (source_in checked world number) (world.peers number) shown
  shows_at tables number width shown within None e at seen = absurd at
  shows_at tables number width shown within (Some code) e at seen =
      shows_subscriber tables number width code shown at seen

  pub shows_world : (tables : ℕ) (shown : View) → DividesRows (setting_in checked)
      → tables ≡ length checked.catalog.tables → AreSeen book tables peers shown → ShowsWorld checked world shown
  shows_world tables shown sound width seen = record {
    log_is = seen.log_is ∙ each_is_logged book world.transactions is.stands;
    tables = seen.width ∙ width;
    rows = at_also (λ table rows. FoundIn book table rows.items)
        (λ table rows. AreRows (holds (setting_in checked).keys (after (setting_in checked) world.transactions) table)
        rows.items) shown.rows.items seen.rows
        (λ table rows there found. publisher_rows checked book world.transactions is.checked_is is.stands table
        rows.items found.lists found.in_order);
    count = seen.count ∙ is.count;
    each = shows_each;
    divided = λ count applied. divides_shown checked world shown shows_each (seen.count ∙ is.count) count applied most
        is.publisher sound events is.times is.leads;
  }
    where
      within_plan : (number : ℕ) → number < length shown.subscribers.items → number < length checked.plan
      within_plan number h = omega (arith, h, seen.count, is.count)

      shows_each : AllAt (λ number subscriber. ShowsSubscriber (source_in checked world number) (world.peers number)
          subscriber) shown.subscribers.items
      shows_each = at_also (SeenAt book tables peers)
          (λ number subscriber. ShowsSubscriber (source_in checked world number) (world.peers number) subscriber)
          shown.subscribers.items seen.each
          (λ number subscriber there its.
          let within : number < length checked.plan =
          within_plan number (slice_get_within shown.subscribers.items number subscriber there) in
          shows_at tables number width subscriber within (slice_get peers number) refl (is.each number within) its)

-- ---- where a subscriber is

pub position_shown : (code : World) (number : ℕ) (peer : PeerOf) → slice_get (world_peers code) number ≡ Some peer
    → IsPosition code number (sub_machine peer.subscriber).position
position_shown code number peer at there most events world is =
    let stands : PeerIs (source_in (world_checked code) world number) (book_slots (world_book code)) peer
    (world.peers number) =
    subst (PeerAt (source_in (world_checked code) world number) (book_slots (world_book code)) (world.peers number))
    at (is.each number there) in
    (stays_at (world_checked code) most (world_book code) (world_peers code) events world is number peer
    stands).position
    ∙ (follows_at (world_checked code) most (world_book code) (world_peers code) events world is number).position_is

pub nobody_shown : (code : World) (number position : ℕ) → length (world_peers code) ≤ number
    → IsPosition code number position
nobody_shown code number position past there most events world is = absurd (omega (arith, past, there, is.count))
