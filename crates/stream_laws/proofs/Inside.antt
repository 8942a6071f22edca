-- A subscriber within a transaction: what it shows stays, and what it staged is its shard of the tables after those of
-- the transaction's commands that were sent.
use Rattle.std.proofs.Common.{◌≡◌, ℕ, zero, suc, ◌<◌, Bool, true, false, List, [], ◌∷◌, length, take, refl, sym, ◌∙◌, ap, subst, arith}
use Rattle.std.specs.Prelude.{Option, Some, None, ◌==◌, All, slice_get, slice_index_or}
use Rattle.std.specs.Cmp.{unsigned_Decides}
use Rattle.std.proofs.lemmas.List.{length-set}
use Rattle.std.proofs.lemmas.List.Elements.{All-head, All-tail}
use Rattle.filter_tree.specs.declared.table.Table.{Table}
use Rattle.table_changes.specs.Tables.{Tables}
use Rattle.shard_checker.specs.CheckedView.{CheckedOf, setting_in}
use Rattle.tables_log.specs.Lsn.{commits_before}
use Rattle.tables_log.specs.StandsFor.{Transaction, after}
use Rattle.pgoutput_msgs.specs.Telling.{oid_of, relation_of, a_relation, introduced, relation_once, relations_of, mark_one, mark_all}
use Rattle.pgoutput_msgs.specs.declared.message.Msg.TheVariants as m
use Rattle.test_subscriber.specs.Hearing.{with_found, hear_in}
use Rattle.test_subscriber.specs.Machine.{Rows, Machine}
use Rattle.test_subscriber.specs.declared.phase.Phase.TheVariants.{Busy}
use Rattle.stream_laws.specs.ShardRows.{FindsRows, in_shard, FindsShard}
use Rattle.stream_laws.specs.Following.{own_key, KeepsRelations, Follows}
use Rattle.stream_laws.proofs.CommandSteps.{finds_alike}
use Rattle.stream_laws.proofs.RelationSteps.{Knows, learns, announced_same, announced_other}
use Rattle.stream_laws.proofs.Safety.{Safe, safe_heard, safe_both}
use Rattle.stream_laws.proofs.SwapLemmas.{Found}
use Rattle.std.proofs.lemmas.Bool.{eqb-true}
use Rattle.stream_laws.proofs.EntryLemmas.{past_end}
use Rattle.filter_tree.proofs.Tests.{by_test}

-- the number of a table that was announced stays announced
pub record Inside (checked : CheckedOf) (subscriber begin : ℕ) (outer : Machine) (sent : List Bool) (tables : Tables)
    (machine : Machine) : Type 0 where
  pub busy : machine.phase ≡ Busy begin
  pub position : machine.position ≡ outer.position
  pub rows : machine.rows ≡ outer.rows
  pub knows : Knows checked sent machine
  pub relations : KeepsRelations checked machine
  pub work : FindsShard (setting_in checked) (own_key checked) subscriber (λ table. machine.work (oid_of table)) tables

pub inside_follows : (checked : CheckedOf) (transactions : List Transaction) (subscriber begin position : ℕ)
    (outer : Machine) (sent : List Bool) (tables : Tables) (machine : Machine)
    → Follows checked transactions subscriber position outer
    → Inside checked subscriber begin outer sent tables machine
    → Follows checked transactions subscriber position machine
inside_follows checked transactions subscriber begin position outer sent tables machine follows inside = record {
  position_is = inside.position ∙ follows.position_is;
  within = follows.within;
  rows = λ table. let P : Rows → Type 0 =
      λ rows. FindsRows (own_key checked table) (rows (oid_of table))
      (in_shard (setting_in checked) subscriber
      (after (setting_in checked) (take (commits_before position) transactions)) table) in
      subst P (sym inside.rows) (follows.rows table);
  relations = inside.relations;
}

-- each is the number of a table, and each was announced
abbrev pub AllAnnounced : List Bool → List ℕ → Type 0
AllAnnounced sent [] = Unit {0}
AllAnnounced sent (number ∷ numbers) = (slice_index_or sent number false ≡ true) × AllAnnounced sent numbers

-- a table that was announced stays announced
stays_announced : (sent : List Bool) (number other : ℕ) → number < length sent → slice_index_or sent other false ≡ true
    → slice_index_or (mark_one sent number) other false ≡ true
stays_announced sent number other less h = by_test (other == number)
    (λ here. ap (λ n. slice_index_or (mark_one sent number) n false) (eqb-true other number here)
    ∙ announced_same sent number less)
    (λ beside. announced_other sent number other beside ∙ h)

same_beside_announced : (sent : List Bool) (number other : ℕ) → slice_index_or sent number false ≡ true
    → slice_index_or (mark_one sent number) other false ≡ slice_index_or sent other false
same_beside_announced sent number other h = by_test (other == number)
    (λ here.
    let same : other ≡ number = eqb-true other number here in
    ap (λ n. slice_index_or (mark_one sent number) n false) same ∙ announced_same sent number (within sent number h)
    ∙ sym h ∙ ap (λ n. slice_index_or sent n false) (sym same))
    (λ beside. announced_other sent number other beside)
  where
    within : (flags : List Bool) (n : ℕ) → slice_index_or flags n false ≡ true → n < length flags
    within [] n e = absurd cc
    within (flag ∷ flags) zero e = omega arith
    within (flag ∷ flags) (suc n) e = let less : n < length flags = within flags n e in omega (arith, less)

pub announced_stays : (sent : List Bool) (numbers : List ℕ) (count other : ℕ) → length sent ≡ count
    → All (λ number. number < count) numbers
    → slice_index_or sent other false ≡ true → slice_index_or (mark_all sent numbers) other false ≡ true
unfolding mark_all
announced_stays sent [] count other long within h = h
announced_stays sent (number ∷ numbers) count other long within h =
    announced_stays (mark_one sent number) numbers count other (length-set sent number true ∙ long)
    (All-tail (λ n. n < count) number numbers within)
    (stays_announced sent number other
    (subst (λ c. number < c) (sym long) (All-head (λ n. n < count) number numbers within)) h)

pub all_are_announced : (sent : List Bool) (numbers : List ℕ) (count : ℕ) → length sent ≡ count
    → All (λ number. number < count) numbers → AllAnnounced (mark_all sent numbers) numbers
unfolding mark_all
all_are_announced sent [] count long within = tt
all_are_announced sent (number ∷ numbers) count long within =
    let less : number < length sent =
    subst (λ c. number < c) (sym long) (All-head (λ n. n < count) number numbers within) in
    let others = All-tail (λ n. n < count) number numbers within in (
      announced_stays (mark_one sent number) numbers count number (length-set sent number true ∙ long) others
          (announced_same sent number less),
      all_are_announced (mark_one sent number) numbers count (length-set sent number true ∙ long) others,
    )

-- ---- within one transaction

module _ (checked : CheckedOf) (transactions : List Transaction) (subscriber begin position : ℕ) (outer : Machine)
    (follows : Follows checked transactions subscriber position outer) (tables : Tables) where
  pub good : (sent : List Bool) (machine : Machine) → Inside checked subscriber begin outer sent tables machine
      → Follows checked transactions subscriber position machine
  good sent machine inside =
      inside_follows checked transactions subscriber begin position outer sent tables machine follows inside

  -- the Relation of a table that was not announced
  new_relation : (sent : List Bool) (number : ℕ) (found : Option Table) (machine : Machine)
      → slice_get checked.catalog.tables number ≡ found → number < length sent
      → Inside checked subscriber begin outer sent tables machine
      → Safe (Follows checked transactions subscriber) position (a_relation number found) machine
      (λ at next. (at ≡ position) × Inside checked subscriber begin outer (mark_one sent number) tables next)
  new_relation sent number None machine e less inside =
      absurd (let past = past_end checked.catalog.tables number e in omega (arith, past, less, inside.knows.flags))
  new_relation sent number (Some table) machine e less inside =
      let learnt = learns checked sent machine number table e less inside.knows inside.relations in
      safe_heard (Follows checked transactions subscriber)
      (λ at next. (at ≡ position) × Inside checked subscriber begin outer (mark_one sent number) tables next)
      position (m.Relation (relation_of number table)) [] machine learnt.next (good sent machine inside)
      (ap (λ phase. hear_in phase (m.Relation (relation_of number table)) machine) inside.busy ∙ learnt.heard) (
        refl,
        record {
          busy = learnt.phase ∙ inside.busy;
          position = learnt.position ∙ inside.position;
          rows = learnt.rows ∙ inside.rows;
          knows = learnt.knows;
          relations = learnt.relations;
          work = λ table. let P : Rows → Type 0 =
              λ work. FindsRows (own_key checked table) (work (oid_of table))
              (in_shard (setting_in checked) subscriber tables table) in
              subst P (sym learnt.work) (inside.work table);
        },
      )

  -- a table that was announced before
  no_relation : (sent : List Bool) (number : ℕ) (machine : Machine) → slice_index_or sent number false ≡ true
      → Inside checked subscriber begin outer sent tables machine
      → Inside checked subscriber begin outer (mark_one sent number) tables machine
  no_relation sent number machine flag inside = record {
    busy = inside.busy;
    position = inside.position;
    rows = inside.rows;
    knows = record {
      flags = length-set sent number true ∙ inside.knows.flags;
      known = λ other. inside.knows.known other ∙ sym (same_beside_announced sent number other flag);
      kept = λ other table there announced_too. inside.knows.kept other table there
          (sym (same_beside_announced sent number other flag) ∙ announced_too);
    };
    relations = inside.relations;
    work = inside.work;
  }

  one_relation : (sent : List Bool) (number : ℕ) (machine : Machine) (flag : Bool)
      → slice_index_or sent number false ≡ flag → number < length sent
      → Inside checked subscriber begin outer sent tables machine
      → Safe (Follows checked transactions subscriber) position (introduced checked.catalog.tables flag number) machine
      (λ at next. (at ≡ position) × Inside checked subscriber begin outer (mark_one sent number) tables next)
  one_relation sent number machine true e less inside = (refl, no_relation sent number machine e inside)
  one_relation sent number machine false e less inside =
      new_relation sent number (slice_get checked.catalog.tables number) machine refl less inside

  pub relations_safe : (numbers : List ℕ) (sent : List Bool) (machine : Machine)
      → All (λ number. number < length checked.catalog.tables) numbers
      → Inside checked subscriber begin outer sent tables machine
      → Safe (Follows checked transactions subscriber) position (relations_of checked.catalog.tables sent numbers)
      machine
      (λ at next. (at ≡ position) × Inside checked subscriber begin outer (mark_all sent numbers) tables next)
  unfolding relations_of relation_once mark_all
  relations_safe [] sent machine within inside = (refl, inside)
  relations_safe (number ∷ numbers) sent machine within inside =
      let less : number < length sent =
      subst (λ c. number < c) (sym inside.knows.flags)
      (All-head (λ n. n < length checked.catalog.tables) number numbers within) in
      safe_both (Follows checked transactions subscriber)
      (λ at next. (at ≡ position)
      × Inside checked subscriber begin outer (mark_all (mark_one sent number) numbers) tables next)
      (Inside checked subscriber begin outer (mark_one sent number) tables)
      position (introduced checked.catalog.tables (slice_index_or sent number false) number)
      (relations_of checked.catalog.tables (mark_one sent number) numbers) machine
      (one_relation sent number machine (slice_index_or sent number false) refl less inside)
      (λ next reached. relations_safe numbers (mark_one sent number) next
      (All-tail (λ n. n < length checked.catalog.tables) number numbers within) reached)

-- ---- what is staged

-- another copy of one table, if the shard changes in that table alone
pub staged_inside : (checked : CheckedOf) (subscriber begin : ℕ) (outer : Machine) (sent : List Bool)
    (before after : Tables) (machine : Machine) (number : ℕ) (found : Found)
    → Inside checked subscriber begin outer sent before machine
    → FindsRows (own_key checked number) found (in_shard (setting_in checked) subscriber after number)
    → ((other : ℕ) → (number == other) ≡ false
    → FindsRows (own_key checked other) (machine.work (oid_of other))
    (in_shard (setting_in checked) subscriber after other))
    → Inside checked subscriber begin outer sent after
    (record machine { work = with_found machine.work (oid_of number) found })
staged_inside checked subscriber begin outer sent before after machine number found inside here beside = record {
  busy = inside.busy;
  position = inside.position;
  rows = inside.rows;
  knows = record { flags = inside.knows.flags; known = inside.knows.known; kept = inside.knows.kept };
  relations = inside.relations;
  work = λ other. by_test (number == other)
      (λ same.
      let numbers : number ≡ other = eqb-true number other same in
      let oids : (oid_of other == oid_of number) ≡ true =
      (unsigned_Decides (oid_of other) (oid_of number)).1 (ap oid_of (sym numbers)) in
      finds_alike (own_key checked other) found (with_found machine.work (oid_of number) found (oid_of other))
      (in_shard (setting_in checked) subscriber after other)
      (subst (λ n. FindsRows (own_key checked n) found (in_shard (setting_in checked) subscriber after n)) numbers here)
      (λ key. rw oids refl))
      (λ differ.
      finds_alike (own_key checked other) (machine.work (oid_of other))
      (with_found machine.work (oid_of number) found (oid_of other))
      (in_shard (setting_in checked) subscriber after other)
      (beside other differ) (λ key. rw (oids_differ number other differ) refl));
}
  where
    oids_differ : (one another : ℕ) → (one == another) ≡ false → (oid_of another == oid_of one) ≡ false
    oids_differ one another h = by_test (oid_of another == oid_of one)
        (λ same. absurd (
        let oids : oid_of another ≡ oid_of one = eqb-true (oid_of another) (oid_of one) same in
        let numbers : (one == another) ≡ true = (unsigned_Decides one another).1 (omega (arith, oids)) in
        cc))
        (λ differ. differ)

-- nothing is staged if the shard stays as it is
pub stays_inside : (checked : CheckedOf) (subscriber begin : ℕ) (outer : Machine) (sent : List Bool)
    (before after : Tables) (machine : Machine)
    → Inside checked subscriber begin outer sent before machine
    → FindsShard (setting_in checked) (own_key checked) subscriber (λ table. machine.work (oid_of table)) after
    → Inside checked subscriber begin outer sent after machine
stays_inside checked subscriber begin outer sent before after machine inside finds = record {
  busy = inside.busy;
  position = inside.position;
  rows = inside.rows;
  knows = inside.knows;
  relations = inside.relations;
  work = finds;
}
