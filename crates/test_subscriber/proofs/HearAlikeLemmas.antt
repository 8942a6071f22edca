-- Machines that are alike hear a message alike.
use Rattle.std.proofs.Common.{◌≡◌, ℕ, true, false, List, refl, ap, subst, max}
use Rattle.std.specs.Prelude.{Option, Some, None, Result, Ok, Err, ◌==◌, ◌||◌, is_some, if◌then◌else◌}
use Rattle.filter_tree.specs.Datum.{Datum}
use Rattle.filter_tree.specs.Same.{same_row}
use Rattle.pgoutput_msgs.specs.declared.message.Msg.{Msg}
use Rattle.pgoutput_msgs.specs.declared.message.Msg.TheVariants as m
use Rattle.pgoutput_msgs.specs.declared.relation.Relation.{Relation}
use Rattle.pgoutput_msgs.specs.declared.tuple.OldTuple.{OldTuple}
use Rattle.table_changes.specs.Columns.{values_at}
use Rattle.test_subscriber.specs.Answers.{SameOutcome}
use Rattle.test_subscriber.specs.Hearing.{RowsChange, known_shape, changed_rows, change_in, staged, learn_as, learn_new, hear_relation, hear_commit, hear_idle, hear_busy, hear_in, hear}
use Rattle.test_subscriber.specs.Machine.{Machine, Alike}
use Rattle.test_subscriber.specs.RowChanges.{Found, put_row, put_new_row, replaced, insert_row, inserted, replace_row, update_row, updated, delete_row, deleted, read_in, key_in, gone_of}
use Rattle.test_subscriber.specs.SameRelation.{same_relation}
use Rattle.test_subscriber.specs.Shapes.{shape_of}
use Rattle.test_subscriber.specs.declared.fault.SubFault.{SubFault}
use Rattle.test_subscriber.specs.declared.phase.Phase.{Phase}
use Rattle.test_subscriber.specs.declared.phase.Phase.TheVariants.{Shut, Waiting, Idle, Busy}
use Rattle.test_subscriber.specs.declared.shape.TableShape.{TableShape}
use Rattle.test_subscriber.proofs.AlikeLemmas.{same_table, truncate_alike}
use Rattle.filter_tree.proofs.Tests.{by_test}

-- ---- rows that are found alike

abbrev pub FoundAlike : Found → Found → Type 0
FoundAlike one other = (key : List Datum) → one key ≡ other key

abbrev pub SameFound : Result Found SubFault → Result Found SubFault → Type 0
SameFound (Ok one) (Ok other) = FoundAlike one other
SameFound (Err one) (Err other) = one ≡ other
SameFound one other = ⊥

put_alike : (one other : Found) (key : List Datum) (row : Option (List Datum)) → FoundAlike one other
    → FoundAlike (put_row one key row) (put_row other key row)
put_alike one other key row alike some = ap (λ found. if same_row key some then row else found) (alike some)

placed_alike : (one other : Found) (key row : List Datum) → FoundAlike one other
    → SameFound (put_new_row one key row) (put_new_row other key row)
placed_alike one other key row alike = by_test (is_some (one key))
    (λ taken. let also : is_some (other key) ≡ true = subst (λ found. is_some found ≡ true) (alike key) taken in
    rw (taken, also) refl)
    (λ free. let also : is_some (other key) ≡ false = subst (λ found. is_some found ≡ false) (alike key) free in
    rw (free, also) (put_alike one other key (Some row) alike))

replaced_alike : (one other : Found) (gone key row : List Datum) → FoundAlike one other
    → SameFound (replaced one gone key row) (replaced other gone key row)
replaced_alike one other gone key row alike = by_test (is_some (one gone))
    (λ there. let also : is_some (other gone) ≡ true = subst (λ found. is_some found ≡ true) (alike gone) there in
    rw (there, also) (placed_alike (put_row one gone None) (put_row other gone None) key row
    (put_alike one other gone None alike)))
    (λ missing. let also : is_some (other gone) ≡ false =
    subst (λ found. is_some found ≡ false) (alike gone) missing in rw (missing, also) alike)

insert_alike : (shape : TableShape) (one other : Found) (read : Result (List Datum) SubFault) → FoundAlike one other
    → SameFound (insert_row shape one read) (insert_row shape other read)
insert_alike shape one other (Err fault) alike = refl
insert_alike shape one other (Ok row) alike = placed_alike one other (values_at shape.key row) row alike

replace_alike : (shape : TableShape) (one other : Found) (gone : Result (List Datum) SubFault) (row : List Datum)
    → FoundAlike one other
    → SameFound (replace_row shape one gone row) (replace_row shape other gone row)
replace_alike shape one other (Err fault) row alike = refl
replace_alike shape one other (Ok gone) row alike = replaced_alike one other gone (values_at shape.key row) row alike

update_alike : (shape : TableShape) (one other : Found) (old : Option OldTuple) (read : Result (List Datum) SubFault)
    → FoundAlike one other
    → SameFound (update_row shape one old read) (update_row shape other old read)
update_alike shape one other old (Err fault) alike = refl
update_alike shape one other old (Ok row) alike = replace_alike shape one other (gone_of shape old row) row alike

delete_alike : (one other : Found) (key : Result (List Datum) SubFault) → FoundAlike one other
    → SameFound (delete_row one key) (delete_row other key)
delete_alike one other (Err fault) alike = refl
delete_alike one other (Ok key) alike = put_alike one other key None alike

-- ---- changes

staged_alike : (one other : Machine) (oid : ℕ) (left right : Result Found SubFault) → SameFound left right
    → Alike one other
    → SameOutcome (staged one oid left) (staged other oid right)
staged_alike one other oid (Ok left) (Ok right) same alike = record {
  phase = alike.phase;
  position = alike.position;
  wants_reply = alike.wants_reply;
  kept = alike.kept;
  known = alike.known;
  rows = alike.rows;
  work = λ some key. by_test (some == oid) (λ here. rw here (same key)) (λ apart. rw apart (alike.work some key));
}
staged_alike one other oid (Err left) (Err right) same alike = same
staged_alike one other oid (Ok left) (Err right) same alike = absurd same
staged_alike one other oid (Err left) (Ok right) same alike = absurd same

change_at : (one other : Machine) (oid : ℕ) (change : RowsChange)
    → ((shape : TableShape) (left right : Found) → FoundAlike left right
    → SameFound (change shape left) (change shape right))
    → (table : Option TableShape) → Alike one other
    → SameOutcome (changed_rows table (one.work oid) oid change one)
    (changed_rows table (other.work oid) oid change other)
change_at one other oid change respects None alike = refl
change_at one other oid change respects (Some shape) alike =
    staged_alike one other oid (change shape (one.work oid)) (change shape (other.work oid))
    (respects shape (one.work oid) (other.work oid) (alike.work oid)) alike

change_alike : (one other : Machine) (oid : ℕ) (change : RowsChange)
    → ((shape : TableShape) (left right : Found) → FoundAlike left right
    → SameFound (change shape left) (change shape right))
    → Alike one other → SameOutcome (change_in oid change one) (change_in oid change other)
change_alike one other oid change respects alike =
    subst (λ table. SameOutcome (changed_rows (known_shape one oid) (one.work oid) oid change one)
    (changed_rows table (other.work oid) oid change other))
    (same_table one other oid alike) (change_at one other oid change respects (known_shape one oid) alike)

-- ---- Relation

learn_alike : (shape : Option TableShape) (oid : ℕ) (one other : Machine) → Alike one other
    → SameOutcome (learn_new shape oid one) (learn_new shape oid other)
learn_alike None oid one other alike = refl
learn_alike (Some shape) oid one other alike = record {
  phase = alike.phase;
  position = alike.position;
  wants_reply = alike.wants_reply;
  rows = alike.rows;
  work = alike.work;
  kept = λ some. ap (λ kept. if some == oid then Some shape else kept) (alike.kept some);
  known = λ some. ap (λ known. (some == oid) || known) (alike.known some);
}

kept_alike : (kept : Option TableShape) (relation : Relation) (one other : Machine) → Alike one other
    → SameOutcome (learn_as kept relation one) (learn_as kept relation other)
kept_alike None relation one other alike = learn_alike (shape_of relation) relation.oid one other alike
kept_alike (Some shape) relation one other alike = by_test (same_relation shape.relation relation)
    (λ same. rw same (record {
      phase = alike.phase;
      position = alike.position;
      wants_reply = alike.wants_reply;
      rows = alike.rows;
      work = alike.work;
      kept = alike.kept;
      known = λ some. ap (λ known. (some == relation.oid) || known) (alike.known some);
    }))
    (λ differs. rw differs refl)

relation_alike : (relation : Relation) (one other : Machine) → Alike one other
    → SameOutcome (hear_relation relation one) (hear_relation relation other)
relation_alike relation one other alike =
    subst (λ kept. SameOutcome (learn_as (one.kept relation.oid) relation one) (learn_as kept relation other))
    (alike.kept relation.oid)
    (kept_alike (one.kept relation.oid) relation one other alike)

-- ---- messages

commit_alike : (begin lsn end_lsn : ℕ) (one other : Machine) → Alike one other
    → SameOutcome (hear_commit begin lsn end_lsn one) (hear_commit begin lsn end_lsn other)
commit_alike begin lsn end_lsn one other alike = by_test (lsn == begin)
    (λ same. rw same (record {
      phase = refl;
      position = ap (λ at. max at end_lsn) alike.position;
      wants_reply = alike.wants_reply;
      kept = alike.kept;
      known = alike.known;
      rows = alike.work;
      work = alike.work;
    }))
    (λ differs. rw differs refl)

idle_alike : (message : Msg) (one other : Machine) → Alike one other
    → SameOutcome (hear_idle message one) (hear_idle message other)
idle_alike (m.Begin final_lsn time xid) one other alike = record {
  phase = refl;
  position = alike.position;
  wants_reply = alike.wants_reply;
  kept = alike.kept;
  known = alike.known;
  rows = alike.rows;
  work = alike.work;
}
idle_alike (m.Commit lsn end_lsn time) one other alike = refl
idle_alike (m.Relation relation) one other alike = relation_alike relation one other alike
idle_alike (m.Insert relation new) one other alike = refl
idle_alike (m.Update relation old new) one other alike = refl
idle_alike (m.Delete relation old) one other alike = refl
idle_alike (m.Truncate options relations) one other alike = refl

busy_alike : (begin : ℕ) (message : Msg) (one other : Machine) → Alike one other
    → SameOutcome (hear_busy begin message one) (hear_busy begin message other)
busy_alike begin (m.Begin final_lsn time xid) one other alike = refl
busy_alike begin (m.Commit lsn end_lsn time) one other alike = commit_alike begin lsn end_lsn one other alike
busy_alike begin (m.Relation relation) one other alike = relation_alike relation one other alike
busy_alike begin (m.Insert relation new) one other alike =
    change_alike one other relation (λ shape found. inserted shape found new)
    (λ shape left right same. insert_alike shape left right (read_in shape new) same) alike
busy_alike begin (m.Update relation old new) one other alike =
    change_alike one other relation (λ shape found. updated shape found old new)
    (λ shape left right same. update_alike shape left right old (read_in shape new) same) alike
busy_alike begin (m.Delete relation old) one other alike =
    change_alike one other relation (λ shape found. deleted shape found old)
    (λ shape left right same. delete_alike left right (key_in shape old) same) alike
busy_alike begin (m.Truncate options relations) one other alike = truncate_alike relations one other alike

in_alike : (phase : Phase) (message : Msg) (one other : Machine) → Alike one other
    → SameOutcome (hear_in phase message one) (hear_in phase message other)
in_alike Shut message one other alike = refl
in_alike Waiting message one other alike = refl
in_alike Idle message one other alike = idle_alike message one other alike
in_alike (Busy begin) message one other alike = busy_alike begin message one other alike

pub hear_alike : (message : Msg) (one other : Machine) → Alike one other
    → SameOutcome (hear message one) (hear message other)
hear_alike message one other alike =
    subst (λ phase. SameOutcome (hear_in one.phase message one) (hear_in phase message other)) alike.phase
    (in_alike one.phase message one other alike)
