-- A subscriber hears TRUNCATE of the tables that it gets anything of.
use Rattle.std.proofs.Common.{◌≡◌, ℕ, zero, suc, ◌<◌, Bool, true, false, ◌||◌, List, [], ◌∷◌, length, map, refl, sym, ◌∙◌, ap, arith}
use Rattle.std.specs.Prelude.{Option, Some, None, Ok, ◌==◌, All, slice_get, slice_index_or, if◌then◌else◌}
use Rattle.std.specs.Cmp.{unsigned_Decides}
use Rattle.std.specs.List.{list_any}
use Rattle.std.specs.Option.{option_map}
use Rattle.std.proofs.lemmas.List.Elements.{All-head, All-tail}
use Rattle.filter_tree.specs.Datum.{Datum}
use Rattle.filter_tree.specs.declared.table.Table.{Table}
use Rattle.table_changes.specs.Outs.{as_recorded}
use Rattle.table_changes.specs.Seen.{seen_tables}
use Rattle.table_changes.specs.Tables.{Tables}
use Rattle.shard_checker.specs.CheckedView.{CheckedOf, setting_in}
use Rattle.tables_log.specs.StandsFor.{Transaction}
use Rattle.pgoutput_msgs.specs.Telling.{oid_of, relations_of, mark_all, said, mark_by}
use Rattle.pgoutput_msgs.specs.declared.message.Msg.TheVariants as m
use Rattle.test_subscriber.specs.Hearing.{with_found, without_rows, hear_empty, empty_rest, hear_truncate, hear_in}
use Rattle.test_subscriber.specs.Machine.{Machine}
use Rattle.test_subscriber.specs.declared.shape.TableShape.{TableShape}
use Rattle.stream_laws.specs.ShardRows.{in_shard, FindsShard}
use Rattle.stream_laws.specs.Following.{own_key, Follows}
use Rattle.stream_laws.proofs.ChangeSteps.{change_heard}
use Rattle.stream_laws.proofs.CommandSteps.{cleared, finds_alike}
use Rattle.stream_laws.proofs.Inside.{Inside, AllAnnounced, all_are_announced, good, relations_safe}
use Rattle.stream_laws.proofs.RelationSteps.{shape_for}
use Rattle.stream_laws.proofs.Safety.{Safe, safe_heard, safe_both}
use Rattle.filter_tree.proofs.Tests.{by_test}

pub record IsThere (tables : List Table) (number : ℕ) : Type 0 where
  pub table : Table
  pub is : slice_get tables number ≡ Some table

pub there_of : (tables : List Table) (number : ℕ) → number < length tables → IsThere tables number
there_of [] number less = absurd (omega (arith, less))
there_of (first ∷ tables) zero less = record { table = first; is = refl }
there_of (first ∷ tables) (suc number) less = let later = there_of tables number (omega (arith, less)) in
    record { table = later.table; is = later.is }

-- a machine that heard it
record Empties (old : Machine) (numbers : List ℕ) : Type 0 where
  next : Machine
  heard : hear_truncate (map oid_of numbers) old ≡ Ok next
  phase : next.phase ≡ old.phase
  position : next.position ≡ old.position
  rows : next.rows ≡ old.rows
  known : next.known ≡ old.known
  kept : next.kept ≡ old.kept
  work : (table : ℕ) (key : List Datum)
      → next.work (oid_of table) key ≡ cleared (λ t. old.work (oid_of t)) numbers table key

oid_alike : (one other : ℕ) → (oid_of other == oid_of one) ≡ (one == other)
oid_alike one other = by_test (one == other)
    (λ same. (unsigned_Decides (oid_of other) (oid_of one)).1 (ap oid_of (sym ((unsigned_Decides one other).0 same)))
    ∙ sym same)
    (λ differ. by_test (oid_of other == oid_of one)
    (λ same. absurd (
    let oids : oid_of other ≡ oid_of one = (unsigned_Decides (oid_of other) (oid_of one)).0 same in
    let numbers : (one == other) ≡ true = (unsigned_Decides one other).1 (omega (arith, oids)) in
    cc))
    (λ beside. beside ∙ sym differ))

both_clear : (here later : Bool) (found : Option (List Datum))
    → (if later then None else (if here then None else found)) ≡ (if here || later then None else found)
both_clear true true found = refl
both_clear true false found = refl
both_clear false later found = refl

empties : (checked : CheckedOf) (sent : List Bool) (numbers : List ℕ) (machine : Machine)
    → All (λ number. number < length checked.catalog.tables) numbers
    → ((number : ℕ) → machine.known (oid_of number) ≡ slice_index_or sent number false)
    → ((number : ℕ) (table : Table) → slice_get checked.catalog.tables number ≡ Some table
    → slice_index_or sent number false ≡ true → machine.kept (oid_of number) ≡ Some (shape_for number table))
    → AllAnnounced sent numbers → Empties machine numbers
unfolding hear_truncate
empties checked sent [] machine within known kept flags =
    record {
      next = machine;
      heard = refl;
      phase = refl;
      position = refl;
      rows = refl;
      known = refl;
      kept =
          refl;
      work = λ table key. refl;
    }
empties checked sent (number ∷ numbers) machine within known kept flags =
    let there = there_of checked.catalog.tables number
    (All-head (λ n. n < length checked.catalog.tables) number numbers within) in
    let one : hear_empty (oid_of number) machine
    ≡ Ok (record machine { work = with_found machine.work (oid_of number) (λ key. None) }) =
    change_heard machine (oid_of number) without_rows (shape_for number there.table) (λ key. None)
    (known number ∙ flags.0) (kept number there.table there.is flags.0) refl in
    let later = empties checked sent numbers
    (record machine { work = with_found machine.work (oid_of number) (λ key. None) })
    (All-tail (λ n. n < length checked.catalog.tables) number numbers within) known kept flags.1 in
    record {
      next = later.next;
      heard = ap (λ o. empty_rest o (hear_truncate (map oid_of numbers))) one ∙ later.heard;
      phase = later.phase;
      position = later.position;
      rows = later.rows;
      known = later.known;
      kept = later.kept;
      work = λ table key. later.work table key
          ∙ ap (λ b. if list_any (λ n. n == table) numbers then
          None else (if b then None else machine.work (oid_of table) key)) (oid_alike number table)
          ∙ both_clear (number == table) (list_any (λ n. n == table) numbers) (machine.work (oid_of table) key);
    }

module _ (checked : CheckedOf) (transactions : List Transaction) (subscriber begin position : ℕ) (outer : Machine)
    (follows : Follows checked transactions subscriber position outer) (before after : Tables) where
  pub truncate_safe : (numbers : List ℕ) → All (λ number. number < length checked.catalog.tables) numbers
      → ((copies : ℕ → List Datum → Option (List Datum))
      → FindsShard (setting_in checked) (own_key checked) subscriber copies before
      → FindsShard (setting_in checked) (own_key checked) subscriber (cleared copies numbers) after)
      → (sent : List Bool) (machine : Machine) → Inside checked subscriber begin outer sent before machine
      → Safe (Follows checked transactions subscriber) position
      (said checked.catalog.tables sent (option_map (as_recorded (setting_in checked)) (seen_tables numbers)))
      machine
      (λ at next. (at ≡ position)
      × Inside checked subscriber begin outer
      (mark_by sent (option_map (as_recorded (setting_in checked)) (seen_tables numbers))) after next)
  unfolding said mark_by
  truncate_safe [] within clears sent machine inside = (
    refl,
    record {
      busy = inside.busy;
      position = inside.position;
      rows = inside.rows;
      knows = inside.knows;
      relations = inside.relations;
      work = λ table. clears (λ t. machine.work (oid_of t)) inside.work table;
    },
  )
  truncate_safe (number ∷ numbers) within clears sent machine inside =
      safe_both (Follows checked transactions subscriber)
      (λ at next. (at ≡ position)
      × Inside checked subscriber begin outer (mark_all sent (number ∷ numbers)) after next)
      (Inside checked subscriber begin outer (mark_all sent (number ∷ numbers)) before) position
      (relations_of checked.catalog.tables sent (number ∷ numbers))
      (m.Truncate 0 (map oid_of (number ∷ numbers)) ∷ []) machine
      (relations_safe checked transactions subscriber begin position outer follows before (number ∷ numbers) sent
      machine within inside)
      (λ next reached.
      let flags = all_are_announced sent (number ∷ numbers) (length checked.catalog.tables) inside.knows.flags within in
      let emptied_all = empties checked (mark_all sent (number ∷ numbers)) (number ∷ numbers) next within
      reached.knows.known reached.knows.kept flags in
      safe_heard (Follows checked transactions subscriber)
      (λ at last. (at ≡ position)
      × Inside checked subscriber begin outer (mark_all sent (number ∷ numbers)) after last)
      position (m.Truncate 0 (map oid_of (number ∷ numbers))) [] next emptied_all.next
      (good checked transactions subscriber begin position outer follows before (mark_all sent (number ∷ numbers))
      next reached)
      (ap (λ phase. hear_in phase (m.Truncate 0 (map oid_of (number ∷ numbers))) next) reached.busy
      ∙ emptied_all.heard) (
        refl,
        record {
          busy = emptied_all.phase ∙ reached.busy;
          position = emptied_all.position ∙ reached.position;
          rows = emptied_all.rows ∙ reached.rows;
          knows = record {
            flags = reached.knows.flags;
            known = λ other. ap (λ (f : ℕ → Bool). f (oid_of other)) emptied_all.known ∙ reached.knows.known other;
            kept = λ other table is flag. ap (λ (f : ℕ → Option TableShape). f (oid_of other)) emptied_all.kept
                ∙ reached.knows.kept other table is flag;
          };
          relations = λ other table shape is h. reached.relations other table shape is
              (sym (ap (λ (f : ℕ → Option TableShape). f (oid_of other)) emptied_all.kept) ∙ h);
          work = λ table. finds_alike (own_key checked table)
              (cleared (λ t. next.work (oid_of t)) (number ∷ numbers) table) (emptied_all.next.work (oid_of table))
              (in_shard (setting_in checked) subscriber after table)
              (clears (λ t. next.work (oid_of t)) reached.work table) (emptied_all.work table);
        },
      ))
