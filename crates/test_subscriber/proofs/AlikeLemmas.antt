-- Machines that are alike do the same.
use Rattle.std.proofs.Common.{◌≡◌, ℕ, ◌+◌, ◌<◌, ◌≤◌, List, [], ◌∷◌, length, drop, get_or, refl, sym, ◌∙◌, ap, subst, add-one, drop-cons}
use Rattle.std.specs.Prelude.{Option, Some, None, Ok, Err, ◌==◌, if◌then◌else◌}
use Rattle.std.proofs.Math.ListN.{drop_of_length-le}
use Rattle.filter_tree.specs.Memory.{TellsFault}
use Rattle.test_subscriber.specs.Answers.{Reaches, SameOutcome}
use Rattle.test_subscriber.specs.Copies.{sub_fault, RefusedBy}
use Rattle.test_subscriber.specs.Hearing.{MachineResult, known_shape, changed_rows, without_rows, hear_empty, empty_rest, hear_truncate}
use Rattle.test_subscriber.specs.Machine.{Machine, Alike}
use Rattle.test_subscriber.specs.declared.fault.SubFault.{SubFault}
use Rattle.test_subscriber.specs.declared.shape.TableShape.{TableShape}
use Rattle.filter_tree.proofs.Tests.{by_test}

pub alike_itself : (machine : Machine) → Alike machine machine
alike_itself machine = record {
  phase = refl;
  position = refl;
  wants_reply = refl;
  kept = λ oid. refl;
  known = λ oid. refl;
  rows = λ oid key. refl;
  work = λ oid key. refl;
}

pub alike_back : (one other : Machine) → Alike one other → Alike other one
alike_back one other alike = record {
  phase = sym alike.phase;
  position = sym alike.position;
  wants_reply = sym alike.wants_reply;
  kept = λ oid. sym (alike.kept oid);
  known = λ oid. sym (alike.known oid);
  rows = λ oid key. sym (alike.rows oid key);
  work = λ oid key. sym (alike.work oid key);
}

pub alike_both : (one middle other : Machine) → Alike one middle → Alike middle other → Alike one other
alike_both one middle other first second = record {
  phase = first.phase ∙ second.phase;
  position = first.position ∙ second.position;
  wants_reply = first.wants_reply ∙ second.wants_reply;
  kept = λ oid. first.kept oid ∙ second.kept oid;
  known = λ oid. first.known oid ∙ second.known oid;
  rows = λ oid key. first.rows oid key ∙ second.rows oid key;
  work = λ oid key. first.work oid key ∙ second.work oid key;
}

pub same_both : (one middle other : MachineResult) → SameOutcome one middle → SameOutcome middle other
    → SameOutcome one other
same_both (Ok a) (Ok b) (Ok c) first second = alike_both a b c first second
same_both (Err a) (Err b) (Err c) first second = first ∙ second
same_both (Ok a) (Err b) other first second = absurd first
same_both (Err a) (Ok b) other first second = absurd first
same_both (Ok a) (Ok b) (Err c) first second = absurd second
same_both (Err a) (Err b) (Ok c) first second = absurd second

-- ---- TRUNCATE

pub same_table : (one other : Machine) (oid : ℕ) → Alike one other → known_shape one oid ≡ known_shape other oid
same_table one other oid alike =
    ap (λ known. if known then one.kept oid else None) (alike.known oid)
    ∙ ap (λ shape. if other.known oid then shape else None) (alike.kept oid)

empty_in : (one other : Machine) (oid : ℕ) (table : Option TableShape) → Alike one other
    → SameOutcome (changed_rows table (one.work oid) oid without_rows one)
    (changed_rows table (other.work oid) oid without_rows other)
empty_in one other oid None alike = refl
empty_in one other oid (Some shape) alike = record {
  phase = alike.phase;
  position = alike.position;
  wants_reply = alike.wants_reply;
  kept = alike.kept;
  known = alike.known;
  rows = alike.rows;
  work = λ some key. by_test (some == oid) (λ here. rw here refl) (λ apart. rw apart (alike.work some key));
}

pub empty_alike : (one other : Machine) (oid : ℕ) → Alike one other
    → SameOutcome (hear_empty oid one) (hear_empty oid other)
empty_alike one other oid alike =
    subst (λ table. SameOutcome (changed_rows (known_shape one oid) (one.work oid) oid without_rows one)
    (changed_rows table (other.work oid) oid without_rows other))
    (same_table one other oid alike) (empty_in one other oid (known_shape one oid) alike)

truncate_opens : (oid : ℕ) (oids : List ℕ) (machine : Machine)
    → hear_truncate (oid ∷ oids) machine ≡ empty_rest (hear_empty oid machine) (hear_truncate oids)
unfolding hear_truncate
truncate_opens oid oids machine = refl

truncate_ends : (machine : Machine) → hear_truncate [] machine ≡ Ok machine
unfolding hear_truncate
truncate_ends machine = refl

rest_alike : (others : Machine → MachineResult)
    → ((one other : Machine) → Alike one other → SameOutcome (others one) (others other))
    → (one other : MachineResult) → SameOutcome one other
    → SameOutcome (empty_rest one others) (empty_rest other others)
rest_alike others keeps (Ok one) (Ok other) same = keeps one other same
rest_alike others keeps (Err one) (Err other) same = same
rest_alike others keeps (Ok one) (Err other) same = absurd same
rest_alike others keeps (Err one) (Ok other) same = absurd same

pub truncate_alike : (oids : List ℕ) (one other : Machine) → Alike one other
    → SameOutcome (hear_truncate oids one) (hear_truncate oids other)
unfolding hear_truncate
truncate_alike [] one other alike = alike
truncate_alike (oid ∷ oids) one other alike =
    rest_alike (hear_truncate oids) (truncate_alike oids) (hear_empty oid one) (hear_empty oid other)
    (empty_alike one other oid alike)

pub same_itself : (one : MachineResult) → SameOutcome one one
same_itself (Ok machine) = alike_itself machine
same_itself (Err fault) = refl

pub same_of : (one other : MachineResult) → one ≡ other → SameOutcome one other
same_of one other equal = subst (SameOutcome one) equal (same_itself one)

drop_step : (oids : List ℕ) (i : ℕ) → i < length oids → drop i oids ≡ get_or oids i 0 ∷ drop (i + 1) oids
drop_step oids i low = rw (add-one, drop-cons oids i 0 low) refl

-- the next table is emptied
after_one : (oids : List ℕ) (new : Machine) (one : MachineResult) → Reaches new one
    → SameOutcome (hear_truncate oids new) (empty_rest one (hear_truncate oids))
after_one oids new (Ok machine) reached = truncate_alike oids new machine reached
after_one oids new (Err fault) reached = absurd reached

pub empties_next : (oids : List ℕ) (i : ℕ) (old new : Machine) (whole : MachineResult) → i < length oids
    → Reaches new (hear_empty (get_or oids i 0) old)
    → SameOutcome (hear_truncate (drop i oids) old) whole → SameOutcome (hear_truncate (drop (i + 1) oids) new) whole
empties_next oids i old new whole low reached same =
    same_both (hear_truncate (drop (i + 1) oids) new) (hear_truncate (drop i oids) old) whole
    (subst (λ out. SameOutcome (hear_truncate (drop (i + 1) oids) new) out)
    (sym (ap (λ list. hear_truncate list old) (drop_step oids i low)
    ∙ truncate_opens (get_or oids i 0) (drop (i + 1) oids) old))
    (after_one (drop (i + 1) oids) new (hear_empty (get_or oids i 0) old) reached))
    same

-- one refusal refuses all
stops_one : (oids : List ℕ) (one : MachineResult) (fault : SubFault) → one ≡ Err fault
    → empty_rest one (hear_truncate oids) ≡ Err fault
stops_one oids one fault stops = ap (λ out. empty_rest out (hear_truncate oids)) stops

faults_so : (fault : SubFault) (one whole : MachineResult) → one ≡ Err fault → SameOutcome one whole → whole ≡ Err fault
faults_so fault (Ok machine) whole stops same = absurd cc
faults_so fault (Err found) (Err other) stops same = ap Err (sym same) ∙ stops
faults_so fault (Err found) (Ok machine) stops same = absurd same

refused_so : (oids : List ℕ) (i : ℕ) (old : Machine) (whole : MachineResult) (fault : Option SubFault) → i < length oids
    → TellsFault fault (hear_empty (get_or oids i 0) old) → SameOutcome (hear_truncate (drop i oids) old) whole
    → TellsFault fault whole
refused_so oids i old whole None low tells same = tt
refused_so oids i old whole (Some fault) low tells same =
    faults_so fault (hear_truncate (drop i oids) old) whole
    (ap (λ list. hear_truncate list old) (drop_step oids i low)
    ∙ truncate_opens (get_or oids i 0) (drop (i + 1) oids) old
    ∙ stops_one (drop (i + 1) oids) (hear_empty (get_or oids i 0) old) fault tells)
    same

pub refuses_next : (oids : List ℕ) (i : ℕ) (old : Machine) (whole : MachineResult) (error : SubFault) → i < length oids
    → RefusedBy (hear_empty (get_or oids i 0) old) error → SameOutcome (hear_truncate (drop i oids) old) whole
    → RefusedBy whole error
refuses_next oids i old whole error low refused same = refused_so oids i old whole (sub_fault error) low refused same

reaches_so : (new : Machine) (one whole : MachineResult) → one ≡ Ok new → SameOutcome one whole → Reaches new whole
reaches_so new one (Ok machine) is same = subst (λ out. SameOutcome out (Ok machine)) is same
reaches_so new one (Err fault) is same = subst (λ out. SameOutcome out (Err fault)) is same

pub all_emptied : (oids : List ℕ) (i : ℕ) (new : Machine) (whole : MachineResult) → length oids ≤ i
    → SameOutcome (hear_truncate (drop i oids) new) whole → Reaches new whole
all_emptied oids i new whole past same =
    reaches_so new (hear_truncate (drop i oids) new) whole
    (ap (λ list. hear_truncate list new) (drop_of_length-le oids past) ∙ truncate_ends new) same
