-- Which candidates remain, as a path grows and shrinks.
use Rattle.std.proofs.Common.{◌≡◌, ℕ, zero, suc, Bool, true, false, ◌&&◌, List, [], ◌∷◌, ◌++◌, length, refl, sym, ap, subst, ◌∙◌, append_assoc, inl, inr, arith}
use Rattle.std.specs.Prelude.{Option, Some, None, nat_lt, slice_get}
use Rattle.std.proofs.lemmas.Bool.{cases_lt, lt-ltb, le-ltb}
use Rattle.std.proofs.lemmas.List.{append-nil}
use Rattle.std.proofs.lemmas.List.Folds.{list_all-append}
use Rattle.filter_tree.specs.Expr.{AtomOf}
use Rattle.filter_tree.specs.Paths.{Path}
use Rattle.filter_tree.specs.declared.tri.Tri.{Tri}
use Rattle.filter_tree.specs.declared.tri.Tri.TheVariants.{True, False, Null}
use Rattle.shard_checker.specs.BitSets.{has}
use Rattle.shard_checker.specs.Candidates.{Candidate, leaves_candidate, remains}
use Rattle.shard_checker.specs.CandidateSets.{passes, IsSetWhere, AreAtomSets, set_at}
use Rattle.shard_checker.specs.Remaining.{IsAll, Keeps, Restores, AreUndos, Remain}
use Rattle.shard_checker.specs.declared.bit_sets.BitSet.{BitSet}
use Rattle.shard_checker.specs.declared.candidate_sets.AtomSets.{AtomSets}
use Rattle.shard_checker.specs.declared.remaining.Remaining.{Remaining}

-- ---- nothing is known

next_below : (one other : ℕ) → nat_lt (suc one) (suc other) ≡ nat_lt one other
next_below one other = elim (cases_lt one other) [
  | inl low ↦ lt-ltb (suc one) (suc other) (omega (arith, low)) ∙ sym (lt-ltb one other low)
  | inr past ↦ le-ltb (suc one) (suc other) (omega (arith, past)) ∙ sym (le-ltb one other past)
]

all_pass : (candidates : List Candidate) (place : ℕ)
    → nat_lt place (length candidates) ≡ passes (remains []) (slice_get candidates place)
all_pass [] place = le-ltb place 0 (omega arith)
all_pass (candidate ∷ candidates) zero = lt-ltb 0 (suc (length candidates)) (omega arith)
all_pass (candidate ∷ candidates) (suc place) = next_below place (length candidates) ∙ all_pass candidates place

pub all_remain : (candidates : List Candidate) (count : ℕ) (remaining : Remaining) → count ≡ length candidates
    → IsAll count remaining → Remain candidates remaining []
all_remain candidates count remaining long all = record {
  places = record {
    each = λ place. all.each place ∙ ap (nat_lt place) long ∙ all_pass candidates place;
  };
  undos = subst (λ (undos : List BitSet). AreUndos candidates [] undos []) (sym all.undos) tt;
}

-- ---- one more entry

value_set : (candidates : List Candidate) (atom : AtomOf) (sets : AtomSets) (value : Tri)
    → AreAtomSets candidates atom sets
    → IsSetWhere candidates (λ candidate. leaves_candidate candidate atom value) (set_at sets value)
value_set candidates atom sets True are = are.if_true
value_set candidates atom sets False are = are.if_false
value_set candidates atom sets Null are = are.if_null

and_true : (b : Bool) → (b && true) ≡ b
and_true true = refl
and_true false = refl

passes_both : (path : Path) (atom : AtomOf) (value : Tri) (found : Option Candidate)
    → (passes (remains path) found && passes (λ candidate. leaves_candidate candidate atom value) found)
    ≡ passes (remains (path ++ (atom, value) ∷ [])) found
passes_both path atom value None = refl
passes_both path atom value (Some candidate) =
    sym (list_all-append (λ (entry : AtomOf × Tri). leaves_candidate candidate entry.0 entry.1) path
    ((atom, value) ∷ [])
    ∙ ap (λ (b : Bool). remains path candidate && b) (and_true (leaves_candidate candidate atom value)))

before_more : (candidates : List Candidate) (done : Path) (undos : List BitSet) (path : Path) (before : BitSet)
    (entry : AtomOf × Tri) → AreUndos candidates done undos path
    → IsSetWhere candidates (remains (done ++ path)) before
    → AreUndos candidates done (undos ++ before ∷ []) (path ++ entry ∷ [])
before_more candidates done [] [] before entry h set =
    (subst (λ (p : Path). IsSetWhere candidates (remains p) before) (append-nil done) set, tt)
before_more candidates done [] (e ∷ path) before entry h set = absurd h
before_more candidates done (b ∷ undos) [] before entry h set = absurd h
before_more candidates done (b ∷ undos) (e ∷ path) before entry h set = (
  h.0,
  before_more candidates (done ++ e ∷ []) undos path before entry h.1
      (subst (λ (p : Path). IsSetWhere candidates (remains p) before)
      (sym (append_assoc done (e ∷ []) path)) set),
)

pub more_known : (candidates : List Candidate) (old new : Remaining) (path : Path) (atom : AtomOf) (value : Tri)
    (sets : AtomSets) → Remain candidates old path → AreAtomSets candidates atom sets → Keeps old new sets value
    → Remain candidates new (path ++ (atom, value) ∷ [])
more_known candidates old new path atom value sets remain are keeps =
    let kept = value_set candidates atom sets value are in
    record {
      places = record {
        each = λ place. keeps.each place
            ∙ ap (λ (b : Bool). b && has (set_at sets value) place) (remain.places.each place)
            ∙ ap (λ (b : Bool). passes (remains path) (slice_get candidates place) && b) (kept.each place)
            ∙ passes_both path atom value (slice_get candidates place);
      };
      undos = subst (λ (undos : List BitSet). AreUndos candidates [] undos (path ++ (atom, value) ∷ []))
          (sym keeps.undos)
          (before_more candidates [] old.undos.items path old.places (atom, value) remain.undos remain.places);
    }

-- ---- one entry fewer

-- what remained before the last entry
record HadBefore (candidates : List Candidate) (done : Path) (all : List BitSet) (path : Path) : Type 0 where
  undos : List BitSet
  before : BitSet
  is : all ≡ undos ++ before ∷ []
  are : AreUndos candidates done undos path
  set : IsSetWhere candidates (remains (done ++ path)) before

none_before : (candidates : List Candidate) (done path : Path) (entry : AtomOf × Tri)
    → AreUndos candidates done [] (path ++ entry ∷ []) → ⊥
none_before candidates done [] entry h = h
none_before candidates done (e ∷ path) entry h = h

none_more : (candidates : List Candidate) (done : Path) (undos : List BitSet)
    → AreUndos candidates done undos [] → undos ≡ []
none_more candidates done [] h = refl
none_more candidates done (b ∷ undos) h = absurd h

before_less : (candidates : List Candidate) (done : Path) (all : List BitSet) (path : Path) (entry : AtomOf × Tri)
    → AreUndos candidates done all (path ++ entry ∷ []) → HadBefore candidates done all path
before_less candidates done [] path entry h = absurd (none_before candidates done path entry h)
before_less candidates done (b ∷ all) [] entry h = record {
  undos = [];
  before = b;
  is = ap (λ (rest : List BitSet). b ∷ rest) (none_more candidates (done ++ entry ∷ []) all h.1);
  are = tt;
  set = subst (λ (p : Path). IsSetWhere candidates (remains p) b) (sym (append-nil done)) h.0;
}
before_less candidates done (b ∷ all) (e ∷ path) entry h =
    let rest = before_less candidates (done ++ e ∷ []) all path entry h.1 in
    record {
      undos = b ∷ rest.undos;
      before = rest.before;
      is = ap (λ (found : List BitSet). b ∷ found) rest.is;
      are = (h.0, rest.are);
      set = subst (λ (p : Path). IsSetWhere candidates (remains p) rest.before)
          (append_assoc done (e ∷ []) path) rest.set;
    }

pub less_known : (candidates : List Candidate) (old new : Remaining) (path : Path) (entry : AtomOf × Tri)
    → Remain candidates old (path ++ entry ∷ []) → Restores old new → Remain candidates new path
less_known candidates old new path entry remain restores =
    let had = before_less candidates [] old.undos.items path entry remain.undos in
    let restored = restores.each had.undos had.before had.is in
    record {
      places = subst (λ (set : BitSet). IsSetWhere candidates (remains path) set) (sym restored.0) had.set;
      undos = subst (λ (undos : List BitSet). AreUndos candidates [] undos path) (sym restored.1) had.are;
    }
