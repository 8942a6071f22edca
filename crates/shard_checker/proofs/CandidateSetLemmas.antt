-- Sets of candidates, one candidate after another, and what two of them have in common.
use Rattle.std.proofs.Common.{◌≡◌, ℕ, zero, suc, ◌+◌, ◌<◌, Bool, true, false, ◌&&◌, ◌||◌, List, [], ◌∷◌, ◌++◌, length, get_or, take, refl, sym, ap, subst, ◌∙◌, inl, inr, arith}
use Rattle.std.specs.Prelude.{◌==◌, Option, Some, None, slice_get}
use Rattle.std.specs.Borrow.{Bor}
use Rattle.std.specs.List.{list_any, AllZip}
use Rattle.std.proofs.lemmas.Bool.{cases_eq, eq-eqb, ne_eqb}
use Rattle.std.proofs.lemmas.List.{get_or-map, map_more, length-map, length-take, take_more}
use Rattle.std.proofs.lemmas.Option.{same_Some}
use Rattle.filter_tree.specs.Expr.{AtomOf}
use Rattle.filter_tree.specs.Mask.{mask_where}
use Rattle.filter_tree.specs.Shape.{atom_view, atoms_view}
use Rattle.filter_tree.specs.declared.filter.Atom.{Atom}
use Rattle.filter_tree.specs.declared.filter.Term.{Term}
use Rattle.filter_tree.specs.declared.mask.Mask.{Mask}
use Rattle.filter_tree.specs.declared.tri.Tri.TheVariants.{True, False, Null}
use Rattle.filter_tree.proofs.Tests.{or_false}
use Rattle.shard_checker.specs.BitSets.{has, Puts, TellsMeeting}
use Rattle.shard_checker.specs.Candidates.{Candidate, candidate_view, candidates_view, leaves_candidate}
use Rattle.shard_checker.specs.CandidateSets.{passes, IsSetWhere, PutsAll, AreAtomSets, IsTermSet}
use Rattle.shard_checker.specs.declared.bit_sets.BitSet.{BitSet}
use Rattle.shard_checker.specs.declared.candidate_sets.AtomSets.{AtomSets}
use Rattle.shard_checker.specs.declared.candidates.Candidate as d
use Rattle.shard_checker.proofs.Testing.{two_false, left_true, right_true}

-- ---- one more candidate

next_number : (one other : ℕ) → (suc one == suc other) ≡ (one == other)
next_number one other = elim (cases_eq one other) [
  | inl same ↦ eq-eqb (suc one) (suc other) (ap suc same) ∙ sym (eq-eqb one other same)
  | inr apart ↦ ne_eqb (suc one) (suc other) (λ same. apart (omega arith)) ∙ sym (ne_eqb one other apart)
]

pass_next : (test : Candidate → Bool) (candidates : List Candidate) (candidate : Candidate) (bit : Bool) (place : ℕ)
    → bit ≡ test candidate
    → (passes test (slice_get candidates place) || ((place == length candidates) && bit))
    ≡ passes test (slice_get (candidates ++ candidate ∷ []) place)
pass_next test [] candidate bit zero h = h
pass_next test [] candidate bit (suc place) h =
    ap (λ (b : Bool). b && bit) (ne_eqb (suc place) 0 (λ same. omega arith))
pass_next test (first ∷ candidates) candidate bit zero h =
    ap (λ (b : Bool). test first || (b && bit)) (ne_eqb 0 (suc (length candidates)) (λ same. omega arith))
    ∙ or_false (test first)
pass_next test (first ∷ candidates) candidate bit (suc place) h =
    ap (λ (b : Bool). passes test (slice_get candidates place) || (b && bit)) (next_number place (length candidates))
    ∙ pass_next test candidates candidate bit place h

put_next : (test : Candidate → Bool) (candidates : List Candidate) (candidate : Candidate) (old new : BitSet)
    (place : ℕ) (bit : Bool) → place ≡ length candidates → IsSetWhere candidates test old → Puts old new place bit
    → bit ≡ test candidate → IsSetWhere (candidates ++ candidate ∷ []) test new
put_next test candidates candidate old new place bit long set puts h = record {
  each = λ other. puts.each other
      ∙ ap (λ (b : Bool). b || ((other == place) && bit)) (set.each other)
      ∙ ap (λ (n : ℕ). passes test (slice_get candidates other) || ((other == n) && bit)) long
      ∙ pass_next test candidates candidate bit other h;
}

-- the candidates so far, and the next one
module _ (candidates : List d.Candidate) (place : ℕ) (default : d.Candidate) (here : place < length candidates) where
  view_more : candidates_view (take (place + 1) candidates)
      ≡ candidates_view (take place candidates) ++ candidate_view (get_or candidates place default) ∷ []
  view_more = map_more candidate_view candidates place default here

  view_long : place ≡ length (candidates_view (take place candidates))
  view_long = sym (length-map (take place candidates) candidate_view
      ∙ (let whole : length (take place candidates) ≡ place = grind (arith, length-take) in whole))

  pub set_more : (test : Candidate → Bool) (old new : BitSet) (bit : Bool)
      → IsSetWhere (candidates_view (take place candidates)) test old → Puts old new place bit
      → bit ≡ test (candidate_view (get_or candidates place default))
      → IsSetWhere (candidates_view (take (place + 1) candidates)) test new
  set_more test old new bit set puts h =
      subst (λ (seen : List Candidate). IsSetWhere seen test new) (sym view_more)
      (put_next test (candidates_view (take place candidates)) (candidate_view (get_or candidates place default)) old
      new place bit view_long set puts h)

  pub sets_more : (atom : AtomOf) (old new : AtomSets) (mask : Mask)
      → AreAtomSets (candidates_view (take place candidates)) atom old → PutsAll old new place mask
      → mask ≡ mask_where (leaves_candidate (candidate_view (get_or candidates place default)) atom)
      → AreAtomSets (candidates_view (take (place + 1) candidates)) atom new
  sets_more atom old new mask are puts h = record {
    if_true = set_more (λ candidate. leaves_candidate candidate atom True) old.if_true new.if_true mask.truth
        are.if_true puts.if_true (ap (λ (m : Mask). m.truth) h);
    if_false = set_more (λ candidate. leaves_candidate candidate atom False) old.if_false new.if_false mask.falsity
        are.if_false puts.if_false (ap (λ (m : Mask). m.falsity) h);
    if_null = set_more (λ candidate. leaves_candidate candidate atom Null) old.if_null new.if_null mask.null are.if_null
        puts.if_null (ap (λ (m : Mask). m.null) h);
  }

-- ---- candidates of two sets

at_place : (test : Candidate → Bool) (candidates : List Candidate) (place : ℕ)
    → passes test (slice_get candidates place) ≡ true → list_any test candidates ≡ true
at_place test [] place h = absurd cc
at_place test (first ∷ candidates) zero h = left_true (test first) _ h
at_place test (first ∷ candidates) (suc place) h = right_true (test first) _ (at_place test candidates place h)

at_no_place : (test : Candidate → Bool) (candidates : List Candidate)
    → ((place : ℕ) → passes test (slice_get candidates place) ≡ false) → list_any test candidates ≡ false
at_no_place test [] none = refl
at_no_place test (first ∷ candidates) none =
    two_false (test first) (list_any test candidates) (none 0)
    (at_no_place test candidates (λ place. none (suc place)))

both_pass : (one other : Candidate → Bool) (found : Option Candidate)
    → (passes one found && passes other found) ≡ passes (λ candidate. one candidate && other candidate) found
both_pass one other None = refl
both_pass one other (Some candidate) = refl

pub meeting_is : (candidates : List Candidate) (one other : Candidate → Bool) (first second : BitSet) (meets : Bool)
    → IsSetWhere candidates one first → IsSetWhere candidates other second → TellsMeeting first second meets
    → meets ≡ list_any (λ candidate. one candidate && other candidate) candidates
meeting_is candidates one other first second true in_one in_other both =
    sym (at_place (λ candidate. one candidate && other candidate) candidates both.number
    (sym (both_pass one other (slice_get candidates both.number))
    ∙ ap (λ (b : Bool). b && passes other (slice_get candidates both.number))
    (sym (in_one.each both.number) ∙ both.first)
    ∙ (sym (in_other.each both.number) ∙ both.second)))
meeting_is candidates one other first second false in_one in_other apart =
    sym (at_no_place (λ candidate. one candidate && other candidate) candidates (λ place.
    sym (both_pass one other (slice_get candidates place))
    ∙ ap (λ (b : Bool). b && passes other (slice_get candidates place)) (sym (in_one.each place))
    ∙ ap (λ (b : Bool). has first place && b) (sym (in_other.each place))
    ∙ apart place))

-- ---- two lists, place by place

pub zip_long : {X Y : Type 0} (R : X → Y → Type 0) (xs : List X) (ys : List Y) → AllZip R xs ys → length xs ≡ length ys
zip_long R [] [] h = refl
zip_long R [] (held ∷ ys) h = absurd h
zip_long R (first ∷ xs) [] h = absurd h
zip_long R (first ∷ xs) (held ∷ ys) h = ap suc (zip_long R xs ys h.1)

pub zip_read : {X Y : Type 0} (R : X → Y → Type 0) (xs : List X) (ys : List Y) (number : ℕ) (x : X) (y : Y)
    → AllZip R xs ys → slice_get xs number ≡ Some x → y ≡ get_or ys number y → R x y
zip_read R [] ys number x y h there is = absurd cc
zip_read R (first ∷ xs) [] number x y h there is = absurd h
zip_read R (first ∷ xs) (held ∷ ys) zero x y h there is =
    subst (λ (found : _). R found y) (same_Some first x there)
    (subst (λ (found : _). R first found) (sym is) h.0)
zip_read R (first ∷ xs) (held ∷ ys) (suc number) x y h there is = zip_read R xs ys number x y h.1 there is

zip_push : {X Y : Type 0} (R : X → Y → Type 0) (xs : List X) (ys : List Y) (x : X) (y : Y) → AllZip R xs ys → R x y
    → AllZip R (xs ++ x ∷ []) (ys ++ y ∷ [])
zip_push R [] [] x y h here = (here, tt)
zip_push R [] (held ∷ ys) x y h here = absurd h
zip_push R (first ∷ xs) [] x y h here = absurd h
zip_push R (first ∷ xs) (held ∷ ys) x y h here = (h.0, zip_push R xs ys x y h.1 here)

-- an element is the same whatever the default is
same_item : {X : Type 0} (xs : List X) (index : ℕ) (default other : X) → index < length xs
    → get_or xs index default ≡ get_or xs index other
same_item [] index default other low = absurd (omega (arith, low))
same_item (first ∷ xs) zero default other low = refl
same_item (first ∷ xs) (suc index) default other low = same_item xs index default other (omega (arith, low))

-- one more element
zip_more : {X Y : Type 0} (R : X → Y → Type 0) (xs : List X) (ys : List Y) (index : ℕ) (x : X) (y : Y)
    → index < length xs → x ≡ get_or xs index x → AllZip R (take index xs) ys → R x y
    → AllZip R (take (index + 1) xs) (ys ++ y ∷ [])
zip_more R xs ys index x y low is h here =
    subst (λ (taken : List _). AllZip R taken (ys ++ y ∷ []))
    (sym (take_more xs index x low ∙ ap (λ (last : _). take index xs ++ last ∷ []) (sym is)))
    (zip_push R (take index xs) ys x y h here)

-- what one more atom leaves
pub atom_sets_more : {A : _} (candidates : List Candidate) (atoms : List (Bor (Atom A))) (index : ℕ)
    (atom : Bor (Atom A)) (sets more : List AtomSets) (found : AtomSets)
    → index < length atoms → atom ≡ get_or atoms index atom → more ≡ sets ++ found ∷ []
    → AllZip (AreAtomSets candidates) (take index (atoms_view atoms)) sets
    → AreAtomSets candidates (atom_view atom.now) found
    → AllZip (AreAtomSets candidates) (take (index + 1) (atoms_view atoms)) more
atom_sets_more {A} candidates atoms index atom sets more found low is pushed h here =
    let seen : Bor (Atom A) → AtomOf = λ atom. atom_view atom.now in
    let within : index < length (atoms_view atoms) = omega (arith, low, length-map atoms seen) in
    subst (λ (all : List AtomSets). AllZip (AreAtomSets candidates) (take (index + 1) (atoms_view atoms)) all)
    (sym pushed)
    (zip_more (AreAtomSets candidates) (atoms_view atoms) sets index (atom_view atom.now) found within
    (ap seen is ∙ sym (get_or-map seen atoms index atom (atom_view atom.now) low)) h here)

-- the candidates of one more term
pub term_sets_more : (candidates : List Candidate) (terms : List Term) (index : ℕ) (default : Term)
    (sets more : List BitSet) (found : BitSet) → index < length terms → more ≡ sets ++ found ∷ []
    → AllZip (IsTermSet candidates) (take index terms) sets → IsTermSet candidates (get_or terms index default) found
    → AllZip (IsTermSet candidates) (take (index + 1) terms) more
term_sets_more candidates terms index default sets more found low pushed h here =
    subst (λ (all : List BitSet). AllZip (IsTermSet candidates) (take (index + 1) terms) all) (sym pushed)
    (zip_more (IsTermSet candidates) terms sets index (get_or terms index default) found low
    (same_item terms index default (get_or terms index default) low) h here)
