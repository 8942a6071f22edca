-- In each world that events lead to, each subscriber has its shard, and together they have the tables.
use Rattle.std.proofs.Common.{◌≡◌, ℕ, ◌<◌, ◌≤◌, ◌^◌, Bool, true, false, ◌&&◌, List, [], ◌∷◌, ◌++◌, length, take, refl, sym, ◌∙◌, ap, subst, arith, append_assoc, length-append}
use Rattle.std.specs.Prelude.{All, ◌==◌, nat_lt, slice_index_or, if◌then◌else◌, Option, Some, None}
use Rattle.std.specs.Cmp.{unsigned_Decides}
use Rattle.std.proofs.Common.{inl, inr}
use Rattle.std.proofs.lemmas.Bool.{ltb-true, ltb-false, and_parts}
use Rattle.std.proofs.lemmas.List.{append-nil, get_or_past}
use Rattle.std.proofs.lemmas.List.Elements.{All-nil, All-cons, All-head, All-tail, All-append}
use Rattle.filter_tree.specs.Datum.{Datum}
use Rattle.table_changes.specs.Standing.{Covered, KeepsApart}
use Rattle.table_changes.specs.Tables.{no_rows, holds}
use Rattle.table_changes.proofs.ChangeLemmas.{begins_well}
use Rattle.replica_identity.specs.Plans.{share_at}
use Rattle.replica_identity.specs.Shares.{ShareOf, Nothing, takes}
use Rattle.shard_checker.specs.CheckedView.{CheckedOf, setting_in}
use Rattle.tables_log.specs.StandsFor.{Transaction, after, AreAccepted}
use Rattle.stream_laws.specs.ShardRows.{in_shard}
use Rattle.stream_laws.specs.Following.{IsPublished}
use Rattle.shard_world.specs.World.{Connection, Peer, World, Event, Commit, On, Answer, first_world, with_peer, with_transaction, StepsPeer, Steps, Leads, source_in, step_in, broken_in}
use Rattle.stream_laws.specs.LayoutRoom.{IsTimedTransaction, FitsLayouts}
use Rattle.shard_world.specs.WorldLaws.{IsPublisher, HasTime, IsTimedEvent, HoldsExactly, WorldsHoldExactly, IsStartedAsAsked, WorldsStartAsAsked, has_row, WorldsDivideRows}
use Rattle.stream_laws.proofs.CommandSteps.{IsRight}
use Rattle.stream_laws.proofs.EntryLemmas.{right_at}
use Rattle.stream_laws.proofs.FollowingBytesLemmas.{first_follows}
use Rattle.stream_laws.proofs.LayoutRoomLemmas.{logs_fit_layouts}
use Rattle.shard_world.proofs.WorldHearing.{longer_good}
use Rattle.shard_world.proofs.WorldItems.{sayable_first}
use Rattle.shard_world.proofs.WorldPeers.{IsConnectedAt, IsGood, good_follows}
use Rattle.shard_world.proofs.WorldSteps.{peer_good, broken_good}
use Rattle.tables_log.proofs.StandLemmas.{accepted_more}
use Rattle.filter_tree.proofs.Tests.{by_test, both_true}

-- its time has 64 bits
abbrev pub IsTimed : ℕ × Event → Type 0
IsTimed event = event.0 < 2 ^ 64

-- ---- the log only grows

pub record GrowsTo (before after : List Transaction) : Type 0 where
  pub more : List Transaction
  pub is : after ≡ before ++ more

stays : (transactions : List Transaction) (next : World) → next.transactions ≡ transactions
    → GrowsTo transactions next.transactions
stays transactions next e = record { more = []; is = e ∙ sym (append-nil transactions) }

transactions_of : (one other : World) → one ≡ other → one.transactions ≡ other.transactions
transactions_of one other e = ap (λ (world : World). world.transactions) e

step_grows : (checked : CheckedOf) (most : ℕ) (world : World) (now : ℕ) (event : Event) (answer : Answer)
    (next : World) → Steps checked most world now event answer next
    → GrowsTo world.transactions next.transactions
step_grows checked most world now (Commit commands time) answer next steps = elim steps [
  | inl commits ↦ record {
    more = record { commands = commands; time = time } ∷ [];
    is =
        transactions_of next (with_transaction world commands time) commits.next_is;
  }
  | inr refuses ↦ stays world.transactions next (transactions_of next world refuses.next_is)
]
step_grows checked most world now (On subscriber event) answer next steps =
    by_number (nat_lt subscriber (length checked.plan)) steps
  where
    by_number : (known : Bool) → StepsPeer known checked world subscriber now event answer next
        → GrowsTo world.transactions next.transactions
    by_number false step = stays world.transactions next (transactions_of next world step.1)
    by_number true step = elim step [
      | inl moves ↦ stays world.transactions next (transactions_of next (with_peer world subscriber _) moves.next_is)
      | inr breaks ↦ stays world.transactions next (transactions_of next (with_peer world subscriber _) breaks.next_is)
    ]

pub leads_grow : (checked : CheckedOf) (most : ℕ) (events : List (ℕ × Event)) (world last : World)
    → Leads checked most events world last → GrowsTo world.transactions last.transactions
leads_grow checked most [] world last leads = stays world.transactions last (transactions_of last world leads)
leads_grow checked most (event ∷ events) world last leads =
    let first = step_grows checked most world event.0 event.1 leads.0 leads.1 leads.2 in
    let later = leads_grow checked most events leads.1 last leads.3 in
    record {
      more = first.more ++ later.more;
      is = later.is ∙ ap (λ front. front ++ later.more) first.is
          ∙ append_assoc world.transactions first.more later.more;
    }

-- ---- what holds of the world

pub record IsGoodWorld (checked : CheckedOf) (world : World) : Type 0 where
  pub accepted : AreAccepted (setting_in checked) no_rows world.transactions
  pub peers : (subscriber : ℕ) → IsGood (source_in checked world subscriber) (world.peers subscriber)

module _ (checked : CheckedOf) (covered : Covered (setting_in checked)) (keeps : KeepsApart (setting_in checked)) where
  pub published : (world : World) → IsGoodWorld checked world → IsPublished checked world.transactions
  published world good = record { covered = covered; apart = keeps; accepted = good.accepted }

  same_world : (one other : World) → one ≡ other → IsGoodWorld checked other → IsGoodWorld checked one
  same_world one other e good = subst (IsGoodWorld checked) (sym e) good

  peer_changes : (world : World) (subscriber : ℕ) (peer : Peer) → IsGoodWorld checked world
      → IsGood (source_in checked world subscriber) peer → IsGoodWorld checked (with_peer world subscriber peer)
  peer_changes world subscriber peer good new = record {
    accepted = good.accepted;
    peers = λ other. by_test (other == subscriber)
        (λ same. subst (IsGood (source_in checked world other))
        (sym (ap (λ b. if b then peer else world.peers other) same))
        (subst (λ n. IsGood (source_in checked world n) peer) (sym ((unsigned_Decides other subscriber).0 same)) new))
        (λ differ. subst (IsGood (source_in checked world other))
        (sym (ap (λ b. if b then peer else world.peers other) differ)) (good.peers other));
  }

  pub step_good : (most : ℕ) (world : World) (now : ℕ) (event : Event) (answer : Answer) (next : World) → now < 2 ^ 64
      → FitsLayouts checked world.transactions → IsGoodWorld checked world
      → Steps checked most world now event answer next → IsGoodWorld checked next
  step_good most world now (Commit commands time) answer next timed sayable good steps = elim steps [
    | inl commits ↦ same_world next (with_transaction world commands time) commits.next_is (record {
      accepted = accepted_more (setting_in checked) no_rows world.transactions
          (record { commands = commands; time = time }) good.accepted commits.accepted;
      peers = λ subscriber. longer_good (source_in checked world subscriber)
          (record { commands = commands; time = time } ∷ []) (world.peers subscriber) (good.peers subscriber);
    })
    | inr refuses ↦ same_world next world refuses.next_is good
  ]
  step_good most world now (On subscriber event) answer next timed sayable good steps =
      by_number (nat_lt subscriber (length checked.plan)) steps
    where
      by_number : (known : Bool) → StepsPeer known checked world subscriber now event answer next
          → IsGoodWorld checked next
      by_number false step = same_world next world step.1 good
      by_number true step = elim step [
        | inl moves ↦ same_world next
            (with_peer world subscriber (step_in checked world subscriber now event).1) moves.next_is
            (peer_changes world subscriber (step_in checked world subscriber now event).1 good
            (peer_good (source_in checked world subscriber) (published world good) sayable now timed event
            (world.peers subscriber) (world.peers subscriber).connection refl (good.peers subscriber)))
        | inr breaks ↦ same_world next
            (with_peer world subscriber (broken_in checked world subscriber now event breaks.some)) breaks.next_is
            (peer_changes world subscriber (broken_in checked world subscriber now event breaks.some) good
            (broken_good (source_in checked world subscriber) (published world good) sayable now timed event
            (world.peers subscriber) breaks.some (world.peers subscriber).connection refl
            (good.peers subscriber)))
      ]

  leads_good : (most : ℕ) (events : List (ℕ × Event)) → All IsTimed events → (world last : World)
      → Leads checked most events world last → FitsLayouts checked last.transactions
      → IsGoodWorld checked world → IsGoodWorld checked last
  leads_good most [] timed world last leads sayable good = same_world last world leads good
  leads_good most (event ∷ events) timed world last leads sayable good =
      let grown = leads_grow checked most (event ∷ events) world last leads in
      let first = sayable_first checked world.transactions grown.more (subst (FitsLayouts checked) grown.is sayable) in
      leads_good most events (All-tail IsTimed event events timed) leads.1 last leads.3 sayable
      (step_good most world event.0 event.1 leads.0 leads.1 (All-head IsTimed event events timed) first good leads.2)

  pub first_good : IsGoodWorld checked first_world
  first_good = record {
    accepted = tt;
    peers = λ subscriber. record { follows = first_follows checked [] subscriber; connected = omega arith };
  }

  pub good_at : (most : ℕ) (events : List (ℕ × Event)) → All IsTimed events → (world : World)
      → Leads checked most events first_world world → FitsLayouts checked world.transactions
      → IsGoodWorld checked world
  good_at most events timed world leads sayable =
      leads_good most events timed first_world world leads sayable first_good

  pub hold_exactly : (most : ℕ) (events : List (ℕ × Event)) → All IsTimed events → (world : World)
      → Leads checked most events first_world world → FitsLayouts checked world.transactions
      → HoldsExactly checked world
  hold_exactly most events timed world leads sayable subscriber =
      let good = good_at most events timed world leads sayable in
      (good_follows (source_in checked world subscriber) (published world good) sayable (world.peers subscriber)
      (good.peers subscriber)).rows

  pub tables_right : (most : ℕ) (events : List (ℕ × Event)) → All IsTimed events → (world : World)
      → Leads checked most events first_world world → FitsLayouts checked world.transactions
      → (count : ℕ) → IsRight (setting_in checked) (after (setting_in checked) (take count world.transactions))
  tables_right most events timed world leads sayable count =
      let begins = begins_well (setting_in checked) in
      right_at checked keeps no_rows world.transactions count (good_at most events timed world leads sayable).accepted
      (record { stands = begins.keyed; fit = begins.fit; apart = begins.apart })

-- ---- what is sent of the log has room

-- transactions that were accepted, whose times have 64 bits, at most this number
record IsTimedLog (checked : CheckedOf) (most : ℕ) (transactions : List Transaction) : Type 0 where
  accepted : AreAccepted (setting_in checked) no_rows transactions
  timed : All IsTimedTransaction transactions
  few : length transactions ≤ most

same_log : (checked : CheckedOf) (most : ℕ) (one other : List Transaction) → one ≡ other
    → IsTimedLog checked most other → IsTimedLog checked most one
same_log checked most one other e so = subst (IsTimedLog checked most) (sym e) so

step_timed : (checked : CheckedOf) (most : ℕ) (world : World) (event : ℕ × Event) (answer : Answer) (next : World)
    → IsTimedEvent event → Steps checked most world event.0 event.1 answer next
    → IsTimedLog checked most world.transactions → IsTimedLog checked most next.transactions
step_timed checked most world event answer next timed steps so = by_event event.1 timed.1 steps
  where
    stays_so : next.transactions ≡ world.transactions → IsTimedLog checked most next.transactions
    stays_so e = same_log checked most next.transactions world.transactions e so

    by_event : (one : Event) → HasTime one → Steps checked most world event.0 one answer next
        → IsTimedLog checked most next.transactions
    by_event (Commit commands time) fits step = elim step [
      | inl commits ↦ same_log checked most next.transactions (with_transaction world commands time).transactions
          (transactions_of next (with_transaction world commands time) commits.next_is) (record {
            accepted = accepted_more (setting_in checked) no_rows world.transactions
                (record { commands = commands; time = time }) so.accepted commits.accepted;
            timed = All-append IsTimedTransaction world.transactions (record { commands = commands; time = time } ∷ [])
                so.timed
                (All-cons IsTimedTransaction (record { commands = commands; time = time }) [] fits
                (All-nil IsTimedTransaction));
            few = omega (
              arith,
              commits.room,
              length-append world.transactions (record { commands = commands; time = time } ∷ []),
            );
          })
      | inr refuses ↦ stays_so (transactions_of next world refuses.next_is)
    ]
    by_event (On subscriber peer_event) fits step = by_number (nat_lt subscriber (length checked.plan)) step
      where
        by_number : (known : Bool) → StepsPeer known checked world subscriber event.0 peer_event answer next
            → IsTimedLog checked most next.transactions
        by_number false moved = stays_so (transactions_of next world moved.1)
        by_number true moved = elim moved [
          | inl moves ↦ stays_so (transactions_of next (with_peer world subscriber _) moves.next_is)
          | inr breaks ↦ stays_so (transactions_of next (with_peer world subscriber _) breaks.next_is)
        ]

leads_timed : (checked : CheckedOf) (most : ℕ) (events : List (ℕ × Event)) → All IsTimedEvent events
    → (world last : World) → Leads checked most events world last
    → IsTimedLog checked most world.transactions → IsTimedLog checked most last.transactions
leads_timed checked most [] timed world last leads so =
    same_log checked most last.transactions world.transactions (transactions_of last world leads) so
leads_timed checked most (event ∷ events) timed world last leads so =
    leads_timed checked most events (All-tail IsTimedEvent event events timed) leads.1 last leads.3
    (step_timed checked most world event leads.0 leads.1 (All-head IsTimedEvent event events timed) leads.2 so)

pub all_timed : (events : List (ℕ × Event)) → All IsTimedEvent events → All IsTimed events
all_timed [] timed = All-nil IsTimed
all_timed (event ∷ events) timed =
    All-cons IsTimed event events (All-head IsTimedEvent event events timed).0
    (all_timed events (All-tail IsTimedEvent event events timed))

pub can_be_said : (checked : CheckedOf) (most : ℕ) → IsPublisher checked most → (events : List (ℕ × Event))
    → All IsTimedEvent events → (world : World) → Leads checked most events first_world world
    → FitsLayouts checked world.transactions
can_be_said checked most publisher events timed world leads =
    let log = leads_timed checked most events timed first_world world leads
    (record { accepted = tt; timed = All-nil IsTimedTransaction; few = omega arith }) in
    logs_fit_layouts checked publisher.covered publisher.limited world.transactions log.accepted log.timed
    (omega (arith, log.few, publisher.most_is))

pub worlds_hold_exactly : WorldsHoldExactly
worlds_hold_exactly checked most publisher events timed world leads =
    hold_exactly checked publisher.covered publisher.apart most events (all_timed events timed) world leads
    (can_be_said checked most publisher events timed world leads)

pub worlds_start_as_asked : WorldsStartAsAsked
worlds_start_as_asked checked most publisher events timed world leads subscriber =
    let good = good_at checked publisher.covered publisher.apart most events (all_timed events timed) world leads
    (can_be_said checked most publisher events timed world leads) in
    asked (world.peers subscriber) (world.peers subscriber).connection (good.peers subscriber).connected
  where
    asked : (peer : Peer) (connection : Option Connection)
        → IsConnectedAt (source_in checked world subscriber) peer connection → IsStartedAsAsked peer connection
    asked peer None connected = tt
    asked peer (Some c) connected = connected.1.started

-- ---- all together

-- who takes a row is one of the subscribers
taker_is_one : (checked : CheckedOf) (subscriber table : ℕ) (row : List Datum)
    → (setting_in checked).passes subscriber table row ≡ true → subscriber < length checked.plan
taker_is_one checked subscriber table row h = by_test (nat_lt subscriber (length checked.plan))
    (λ one. ltb-true subscriber (length checked.plan) one)
    (λ past. absurd (
    let shares : slice_index_or checked.plan subscriber [] ≡ [] =
    get_or_past checked.plan subscriber [] (ltb-false subscriber (length checked.plan) past) in
    let none : takes (share_at checked.plan subscriber table) row ≡ false =
    ap (λ (list : List ShareOf). takes (slice_index_or list table Nothing) row) shares ∙ no_share table in
    cc))
  where
    no_share : (n : ℕ) → takes (slice_index_or [] n Nothing) row ≡ false
    no_share n = ap (λ share. takes share row) (get_or_past [] n Nothing (omega arith))

pub worlds_divide_rows : WorldsDivideRows
worlds_divide_rows checked most publisher sound events timed world leads count applied = record {
  somewhere = λ table row there.
      let owner = sound.one_owner table row
      ((tables_right checked publisher.covered publisher.apart most events (all_timed events timed) world leads
      (can_be_said checked most publisher events timed world leads) count).fit table row there) in
      let is_one = taker_is_one checked owner.owner table row owner.takes_it in
      record {
        owner = owner.owner;
        is_one = is_one;
        has_it = has_as owner.owner is_one table row ∙ both there owner.takes_it;
        no_other = λ other is_other has_it. owner.no_other other
            (both_true (holds (setting_in checked).keys (after (setting_in checked) (take count world.transactions))
            table row)
            ((setting_in checked).passes other table row) (sym (has_as other is_other table row) ∙ has_it)).1;
      };
  nothing_else = λ subscriber table row is_one has_it.
      (and_parts (holds (setting_in checked).keys (after (setting_in checked) (take count world.transactions)) table
      row)
      ((setting_in checked).passes subscriber table row) (sym (has_as subscriber is_one table row) ∙ has_it)).0;
}
  where
    has_as : (subscriber : ℕ) → subscriber < length checked.plan → (table : ℕ) (row : List Datum)
        → has_row checked world subscriber table row
        ≡ in_shard (setting_in checked) subscriber (after (setting_in checked) (take count world.transactions))
        table row
    has_as subscriber is_one table row =
        (hold_exactly checked publisher.covered publisher.apart most events (all_timed events timed) world leads
        (can_be_said checked most publisher events timed world leads) subscriber table).each row
        ∙ ap (λ n. in_shard (setting_in checked) subscriber (after (setting_in checked) (take n world.transactions))
        table row) (applied subscriber is_one)

    both : {p q : Bool} → p ≡ true → q ≡ true → (p && q) ≡ true
    both h k = rw (h, k) refl
