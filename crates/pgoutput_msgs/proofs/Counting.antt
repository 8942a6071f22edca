-- Reading a number of values one after the other, as a loop does.
use Rattle.std.proofs.Common.{◌≡◌, ℕ, suc, ◌-◌, ◌+◌, ◌≤◌, ◌<◌, List, [], ◌∷◌, ◌++◌, Ok, Err, refl, sym, ap, ◌∙◌, append_assoc, append-nil, arith}
use Rattle.filter_tree.specs.Memory.{TellsFault}
use Rattle.pgoutput_msgs.specs.declared.error.MsgError.{MsgError}
use Rattle.pgoutput_msgs.specs.declared.error.MsgError.TheVariants.{Unknown, Toast, BadCount, Short, BadText, Trailing, OutOfMemory}
use Rattle.pgoutput_msgs.specs.Reading.{Outcome, Rule, pure, and_then, mapped, many, msg_fault}

-- what was read before, and what is still read
abbrev pub with_front : {A : Type 0} → List A → Outcome (List A) → Outcome (List A)
with_front front (Ok read) = Ok (front ++ read.0, read.1)
with_front front (Err fault) = Err fault

regroup : {A : Type 0} (front : List A) (a : A) (outcome : Outcome (List A))
    → with_front front (and_then outcome (λ others. pure (a ∷ others))) ≡ with_front (front ++ a ∷ []) outcome
regroup {A = A} front a (Ok read) =
    ap (λ (all : List A). let whole : Outcome (List A) = Ok (all, read.1) in whole)
    (sym (append_assoc front (a ∷ []) read.0))
regroup front a (Err fault) = refl

one_more : {A : Type 0} (rule : Rule A) (n : ℕ) (front : List A) (bytes after : List ℕ) (a : A)
    → rule bytes ≡ Ok (a, after)
    → with_front front (many rule (suc n) bytes) ≡ with_front (front ++ a ∷ []) (many rule n after)
unfolding many
one_more {A = A} rule n front bytes after a read =
    ap (λ (outcome : Outcome A). with_front front
    (and_then outcome (λ x. mapped (λ others. x ∷ others) (many rule n)))) read
    ∙ regroup front a (many rule n after)

pub goes_on : {A : Type 0} (rule : Rule A) (front : List A) (count i : ℕ) (bytes after : List ℕ) (a : A)
    (total : Outcome (List A)) → i < count → rule bytes ≡ Ok (a, after)
    → with_front front (many rule (count - i) bytes) ≡ total
    → with_front (front ++ a ∷ []) (many rule (count - (i + 1)) after) ≡ total
goes_on rule front count i bytes after a total within read so_far =
    let more : count - i ≡ suc (count - (i + 1)) = omega arith in
    sym (one_more rule (count - (i + 1)) front bytes after a read)
    ∙ ap (λ n. with_front front (many rule n bytes)) (sym more) ∙ so_far

fails : {A : Type 0} (rule : Rule A) (n : ℕ) (front : List A) (bytes : List ℕ) (fault : MsgError)
    → rule bytes ≡ Err fault → with_front front (many rule (suc n) bytes) ≡ Err fault
unfolding many
fails {A = A} rule n front bytes fault read =
    ap (λ (outcome : Outcome A). with_front front
    (and_then outcome (λ x. mapped (λ others. x ∷ others) (many rule n)))) read

tells_on : {A : Type 0} (rule : Rule A) (n : ℕ) (front : List A) (bytes : List ℕ) (error : MsgError)
    → TellsFault (msg_fault error) (rule bytes)
    → TellsFault (msg_fault error) (with_front front (many rule (suc n) bytes))
tells_on rule n front bytes (Unknown found) h = fails rule n front bytes (Unknown found) h
tells_on rule n front bytes Toast h = fails rule n front bytes Toast h
tells_on rule n front bytes BadCount h = fails rule n front bytes BadCount h
tells_on rule n front bytes Short h = fails rule n front bytes Short h
tells_on rule n front bytes BadText h = fails rule n front bytes BadText h
tells_on rule n front bytes Trailing h = fails rule n front bytes Trailing h
tells_on rule n front bytes OutOfMemory h = tt

pub ends : {A : Type 0} (rule : Rule A) (front : List A) (count i : ℕ) (bytes : List ℕ) (error : MsgError)
    (total : Outcome (List A)) → i < count → TellsFault (msg_fault error) (rule bytes)
    → with_front front (many rule (count - i) bytes) ≡ total → TellsFault (msg_fault error) total
ends {A = A} rule front count i bytes error total within failed so_far =
    let more : count - i ≡ suc (count - (i + 1)) = omega arith in
    let same : with_front front (many rule (suc (count - (i + 1))) bytes) ≡ total =
    ap (λ n. with_front front (many rule n bytes)) (sym more) ∙ so_far in
    rw same at (tells_on rule (count - (i + 1)) front bytes error failed)

pub is_done : {A : Type 0} (rule : Rule A) (front : List A) (count i : ℕ) (bytes : List ℕ) (total : Outcome (List A))
    → count ≤ i → with_front front (many rule (count - i) bytes) ≡ total → total ≡ Ok (front, bytes)
unfolding many
is_done {A = A} rule front count i bytes total over so_far =
    let none : count - i ≡ 0 = omega arith in
    sym so_far ∙ ap (λ n. with_front front (many rule n bytes)) none
    ∙ ap (λ (all : List A). let whole : Outcome (List A) = Ok (all, bytes) in whole) (append-nil front)

pub ruleset counting = (goes_on, is_done)

pub ruleset counting_turns = (goes_on, ends, is_done)
