-- A subscriber hears the Relations of tables that were not announced to it.
use Rattle.std.proofs.Common.{◌≡◌, ℕ, ◌+◌, ◌<◌, Bool, true, false, ◌||◌, List, [], ◌∷◌, length, refl, sym, ◌∙◌, ap, arith, get_or-set_same, get_or-set_other}
use Rattle.std.specs.Prelude.{Option, Some, None, Ok, ◌==◌, nat_eq, slice_get, slice_index_or}
use Rattle.std.specs.Bool.{beq}
use Rattle.std.specs.Cmp.{unsigned_Decides, booleans_Decides}
use Rattle.std.specs.Option.{option_map}
use Rattle.std.specs.Ordering.{int_eq}
use Rattle.std.proofs.lemmas.List.{length-set}
use Rattle.std.proofs.lemmas.Slice.Eq.{bytes_eq-Decides}
use Rattle.std.proofs.lemmas.Bool.Decides.{Decides-int_eq}
use Rattle.filter_tree.specs.declared.table.ColType.{ColType}
use Rattle.filter_tree.specs.declared.table.ColType.TheVariants.{SmallInt, Integer, BigInt, Boolean, Text}
use Rattle.filter_tree.specs.declared.table.Column.{Column}
use Rattle.filter_tree.specs.declared.table.Table.{Table}
use Rattle.shard_checker.specs.CheckedView.{CheckedOf}
use Rattle.pgoutput_msgs.specs.ReadBack as back
use Rattle.pgoutput_msgs.specs.Telling.{oid_of, type_oid_of, columns_from, relation_of, mark_one}
use Rattle.pgoutput_msgs.specs.declared.relation.Relation.{Relation}
use Rattle.pgoutput_msgs.specs.declared.relation.RelationColumn.{RelationColumn}
use Rattle.pgoutput_msgs.specs.declared.relation.ReplicaIdentity.{ReplicaIdentity}
use Rattle.pgoutput_msgs.specs.declared.relation.ReplicaIdentity.TheVariants as i
use Rattle.test_subscriber.specs.Hearing.{knows, learned, recognized, learn_new, learn_as, hear_relation}
use Rattle.test_subscriber.specs.Machine.{Machine}
use Rattle.test_subscriber.specs.SameRelation.{same_identity, same_column, same_columns, same_relation}
use Rattle.test_subscriber.specs.Shapes.{kind_with, with_kind, kinds_of, shaped, shape_of}
use Rattle.test_subscriber.specs.declared.shape.TableShape.{TableShape}
use Rattle.stream_laws.specs.Following.{KeepsRelations}
use Rattle.std.proofs.lemmas.Bool.{and_from, eq-eqb}
use Rattle.std.proofs.lemmas.Option.{same_Some}
use Rattle.filter_tree.proofs.Tests.{by_test}

-- ---- a Relation is the same as itself

identity_itself : (identity : ReplicaIdentity) → same_identity identity identity ≡ true
identity_itself i.Default = refl
identity_itself i.Nothing = refl
identity_itself i.Full = refl
identity_itself i.Index = refl

column_itself : (column : RelationColumn) → same_column column column ≡ true
column_itself column =
    and_from (beq column.is_key column.is_key) _ ((booleans_Decides column.is_key column.is_key).1 refl)
    (and_from _ _ ((bytes_eq-Decides column.name column.name).1 refl)
    (and_from (nat_eq column.type_oid column.type_oid) (int_eq column.type_modifier column.type_modifier)
    (eq-eqb column.type_oid column.type_oid refl)
    ((Decides-int_eq column.type_modifier column.type_modifier).1 refl)))

columns_itself : (columns : List RelationColumn) → same_columns columns columns ≡ true
columns_itself [] = refl
columns_itself (column ∷ columns) =
    and_from (same_column column column) (same_columns columns columns) (column_itself column)
    (columns_itself columns)

relation_itself : (relation : Relation) → same_relation relation relation ≡ true
relation_itself relation =
    and_from (nat_eq relation.oid relation.oid) _ (eq-eqb relation.oid relation.oid refl)
    (and_from _ _ ((bytes_eq-Decides relation.namespace relation.namespace).1 refl)
    (and_from _ _ ((bytes_eq-Decides relation.name relation.name).1 refl)
    (and_from (same_identity relation.identity relation.identity) (same_columns relation.columns relation.columns)
    (identity_itself relation.identity)
    (columns_itself relation.columns))))

-- ---- what a Relation says

kind_back : (kind : ColType) → kind_with (type_oid_of kind) ≡ Some kind
kind_back SmallInt = refl
kind_back Integer = refl
kind_back BigInt = refl
kind_back Boolean = refl
kind_back Text = refl

kinds_back : (table : Table) (number : ℕ) (columns : List Column)
    → kinds_of (columns_from table number columns) ≡ Some (back.kinds_of columns)
kinds_back table number [] = refl
kinds_back table number (column ∷ columns) =
    ap (λ kind. with_kind kind (kinds_of (columns_from table (number + 1) columns))) (kind_back column.kind)
    ∙ ap (λ others. with_kind (Some column.kind) others) (kinds_back table (number + 1) columns)

-- what a subscriber keeps of the table with this number
abbrev pub shape_for : ℕ → Table → TableShape
shape_for number table = shaped (relation_of number table) (back.kinds_of table.columns)

pub has_shape : (number : ℕ) (table : Table) → shape_of (relation_of number table) ≡ Some (shape_for number table)
has_shape number table =
    ap (option_map (λ (kinds : List ColType). shaped (relation_of number table) kinds))
    (kinds_back table 0 table.columns)

-- ---- which tables were announced to it

-- those that the stream's flags mark, and of them it keeps what their Relations say
pub record Knows (checked : CheckedOf) (sent : List Bool) (machine : Machine) : Type 0 where
  pub flags : length sent ≡ length checked.catalog.tables
  pub known : (number : ℕ) → machine.known (oid_of number) ≡ slice_index_or sent number false
  pub kept : (number : ℕ) (table : Table) → slice_get checked.catalog.tables number ≡ Some table
      → slice_index_or sent number false ≡ true
      → machine.kept (oid_of number) ≡ Some (shape_for number table)

oid_differs : (one other : ℕ) → (one == other) ≡ false → (oid_of one == oid_of other) ≡ false
oid_differs one other h = by_test (oid_of one == oid_of other)
    (λ same. absurd (
    let oids : oid_of one ≡ oid_of other = (unsigned_Decides (oid_of one) (oid_of other)).0 same in
    let numbers : (one == other) ≡ true = (unsigned_Decides one other).1 (omega (arith, oids)) in
    cc))
    (λ differ. differ)

pub announced_same : (sent : List Bool) (number : ℕ) → number < length sent
    → slice_index_or (mark_one sent number) number false ≡ true
announced_same sent number less = get_or-set_same sent number true false less

pub announced_other : (sent : List Bool) (number other : ℕ) → (other == number) ≡ false
    → slice_index_or (mark_one sent number) other false ≡ slice_index_or sent other false
announced_other sent number other h = get_or-set_other sent number other true false
    (λ same. let here : (other == number) ≡ true = (unsigned_Decides other number).1 same in absurd cc)

-- ---- one Relation

-- a machine that heard it
pub record Learns (checked : CheckedOf) (sent : List Bool) (old : Machine) (relation : Relation) : Type 0 where
  pub next : Machine
  pub heard : hear_relation relation old ≡ Ok next
  pub phase : next.phase ≡ old.phase
  pub position : next.position ≡ old.position
  pub rows : next.rows ≡ old.rows
  pub work : next.work ≡ old.work
  pub knows : Knows checked sent next
  pub relations : KeepsRelations checked next

knows_more : (checked : CheckedOf) (sent : List Bool) (machine next : Machine) (number : ℕ) → number < length sent
    → Knows checked sent machine
    → next.known ≡ knows machine (oid_of number) → (other : ℕ)
    → next.known (oid_of other) ≡ slice_index_or (mark_one sent number) other false
knows_more checked sent machine next number less known is other = ap (λ (f : ℕ → Bool). f (oid_of other)) is
    ∙ by_test (other == number)
    (λ here.
    let same : other ≡ number = (unsigned_Decides other number).0 here in
    let oids : (oid_of other == oid_of number) ≡ true =
    (unsigned_Decides (oid_of other) (oid_of number)).1 (ap oid_of same) in
    ap (λ b. b || machine.known (oid_of other)) oids ∙ sym (announced_same sent number less)
    ∙ ap (λ n. slice_index_or (mark_one sent number) n false) (sym same))
    (λ beside. ap (λ b. b || machine.known (oid_of other)) (oid_differs other number beside) ∙ known.known other
    ∙ sym (announced_other sent number other beside))

shape_is : (one other : TableShape) → Some one ≡ Some other → one ≡ other
shape_is one other h = cc

same_flags : (checked : CheckedOf) (sent : List Bool) (number : ℕ) → length sent ≡ length checked.catalog.tables
    → length (mark_one sent number) ≡ length checked.catalog.tables
same_flags checked sent number h = length-set sent number true ∙ h

pub learns : (checked : CheckedOf) (sent : List Bool) (machine : Machine) (number : ℕ) (table : Table)
    → slice_get checked.catalog.tables number ≡ Some table → number < length sent
    → Knows checked sent machine → KeepsRelations checked machine
    → Learns checked (mark_one sent number) machine (relation_of number table)
learns checked sent machine number table there less known keeps_all = by_kept (machine.kept (oid_of number)) refl
  where
    kept_after : (next : Machine) → next.kept (oid_of number) ≡ Some (shape_for number table)
        → ((other : ℕ) → (other == number) ≡ false → next.kept (oid_of other) ≡ machine.kept (oid_of other))
        → (other : ℕ) (another : Table) → slice_get checked.catalog.tables other ≡ Some another
        → slice_index_or (mark_one sent number) other false ≡ true
        → next.kept (oid_of other) ≡ Some (shape_for other another)
    kept_after next here elsewhere other another at flag = by_test (other == number)
        (λ same.
        let numbers : other ≡ number = (unsigned_Decides other number).0 same in
        let tables : table ≡ another =
        same_Some table another (sym there ∙ ap (slice_get checked.catalog.tables) (sym numbers) ∙ at) in
        ap (λ n. next.kept (oid_of n)) numbers ∙ here ∙ ap (λ n. Some (shape_for n table)) (sym numbers)
        ∙ ap (λ (t : Table). Some (shape_for other t)) tables)
        (λ beside. elsewhere other beside
        ∙ known.kept other another at (sym (announced_other sent number other beside) ∙ flag))

    relations_after : (next : Machine) → next.kept (oid_of number) ≡ Some (shape_for number table)
        → ((other : ℕ) → (other == number) ≡ false → next.kept (oid_of other) ≡ machine.kept (oid_of other))
        → KeepsRelations checked next
    relations_after next here elsewhere other another shape at h = by_test (other == number)
        (λ same.
        let numbers : other ≡ number = (unsigned_Decides other number).0 same in
        let tables : table ≡ another =
        same_Some table another (sym there ∙ ap (slice_get checked.catalog.tables) (sym numbers) ∙ at) in
        let shapes : Some (shape_for number table) ≡ Some shape = sym here
        ∙ ap (λ n. next.kept (oid_of n)) (sym numbers) ∙ h in
        ap (λ n. shape_of (relation_of n another)) numbers
        ∙ ap (λ (t : Table). shape_of (relation_of number t)) (sym tables) ∙ has_shape number table ∙ shapes)
        (λ beside. keeps_all other another shape at (sym (elsewhere other beside) ∙ h))

    by_kept : (found : Option TableShape) → machine.kept (oid_of number) ≡ found
        → Learns checked (mark_one sent number) machine (relation_of number table)
    by_kept None e =
        let next : Machine = learned (oid_of number) (shape_for number table) machine in
        let here : next.kept (oid_of number) ≡ Some (shape_for number table) =
        rw (eq-eqb (oid_of number) (oid_of number) refl) refl in
        let elsewhere : (other : ℕ) → (other == number) ≡ false
        → next.kept (oid_of other) ≡ machine.kept (oid_of other) =
        λ other beside. rw (oid_differs other number beside) refl in
        record {
          next = next;
          heard = ap (λ found. learn_as found (relation_of number table) machine) e
              ∙ ap (λ shape. learn_new shape (oid_of number) machine) (has_shape number table);
          phase = refl;
          position = refl;
          rows = refl;
          work = refl;
          knows = record {
            flags = same_flags checked sent number known.flags;
            known = knows_more checked sent machine next number less known refl;
            kept = kept_after next here elsewhere;
          };
          relations = relations_after next here elsewhere;
        }
    by_kept (Some shape) e =
        let says : shape_of (relation_of number table) ≡ Some shape = keeps_all number table shape there e in
        let is : shape_for number table ≡ shape =
        shape_is (shape_for number table) shape (sym (has_shape number table) ∙ says) in
        let next : Machine = recognized (oid_of number) machine in
        let here : next.kept (oid_of number) ≡ Some (shape_for number table) = e ∙ ap Some (sym is) in
        let same : same_relation shape.relation (relation_of number table) ≡ true =
        ap (λ (s : TableShape). same_relation s.relation (relation_of number table)) (sym is)
        ∙ relation_itself (relation_of number table) in
        record {
          next = next;
          heard = ap (λ found. learn_as found (relation_of number table) machine) e ∙ rw same refl;
          phase = refl;
          position = refl;
          rows = refl;
          work = refl;
          knows = record {
            flags = same_flags checked sent number known.flags;
            known = knows_more checked sent machine next number less known refl;
            kept = kept_after next here (λ other beside. refl);
          };
          relations = relations_after next here (λ other beside. refl);
        }
