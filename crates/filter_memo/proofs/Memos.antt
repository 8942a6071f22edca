-- Rows with the same values of the atoms have the same text.
use Rattle.std.proofs.Common.{◌≡◌, ℕ, true, List, ◌<◌, length, get_or, sym, subst, ◌∙◌}
use Rattle.std.specs.Prelude.{Option, Some, None, slice_get, All}
use Rattle.std.specs.String.{string_bytes}
use Rattle.std.proofs.lemmas.Option.{get_or_from_slice_get, slice_get_within}
use Rattle.filter_tree.specs.Datum.{Datum}
use Rattle.filter_tree.specs.Expr.{Expr}
use Rattle.filter_tree.specs.declared.filter.Filter.{Filter}
use Rattle.filter_memo.specs.Atoms.{IsAtomsOf, LocateAlike}
use Rattle.filter_memo.specs.Memos.{Follows, IsKept, IsMemoOf, IsLocated, AreEmpty}
use Rattle.filter_memo.specs.Telling.{Tells}
use Rattle.filter_memo.specs.declared.atoms.Atoms.{Atoms}
use Rattle.filter_memo.specs.declared.memo.Kept.{Kept}
use Rattle.filter_memo.specs.declared.memo.Memo.{Memo}
use Rattle.filter_memo.specs.declared.said.Said.{Said}
use Rattle.filter_memo.proofs.AtomLemmas.{say_the_same}

no_text : {A : _} (parts : List (Filter A)) (text_of : List Datum → List ℕ) (slots : List (Option Kept))
    → AreEmpty slots → All (IsKept parts text_of) slots
no_text parts text_of slots empty =
    λ k d within. subst (λ slot. IsKept parts text_of slot) (sym (empty k d within)) tt

-- a memo without texts
pub fresh : (memo : Memo) (filters : List (Option Expr)) (text_of : List Datum → List ℕ)
    → IsAtomsOf filters memo.atoms → AreEmpty memo.slots.items → Follows filters text_of
    → IsMemoOf filters text_of memo
fresh memo filters text_of is no_slot follows = record {
  atoms = is;
  text = λ used. record {
    same = λ one other said at_one at_other. follows.same one other
        (say_the_same memo.atoms filters is used one other said (record { tells = λ own. at_one })
        (record { tells = λ own. at_other }));
  };
  kept = λ used. no_text memo.atoms.parts.items text_of memo.slots.items no_slot;
}

module _ (memo : Memo) (filters : List (Option Expr)) (text_of : List Datum → List ℕ)
    (is : IsMemoOf filters text_of memo) (row : List Datum) (said : Said) (located : IsLocated memo row said)
    (used : memo.atoms.is_used ≡ true) where
  -- the text in a slot is the text of each row with its values of the parts
  pub kept_text : (slot : ℕ) (kept : Kept) → slice_get memo.slots.items slot ≡ Some (Some kept) → kept.said ≡ said
      → string_bytes kept.text ≡ text_of row
  kept_text slot kept found same =
      let within : slot < length memo.slots.items = slice_get_within memo.slots.items slot (Some kept) found in
      let held : get_or memo.slots.items slot None ≡ Some kept =
      get_or_from_slice_get memo.slots.items slot (Some kept) None found in
      (subst (λ it. IsKept memo.atoms.parts.items text_of it) held (is.kept used slot None within)) row
      (subst (λ (own : Said). Tells memo.atoms.parts.items row own) (sym same) (located.atoms.tells used))

  -- a text that is added
  pub new_text : (kept : Kept) → kept.said ≡ said → string_bytes kept.text ≡ text_of row
      → IsKept memo.atoms.parts.items text_of (Some kept)
  new_text kept same text later at_later =
      text ∙ (is.text used).same row later said (located.atoms.tells used)
      (subst (λ (own : Said). Tells memo.atoms.parts.items later own) same at_later)

-- texts of rows with the same values, when something else is kept of the atoms
other_kept : (old new : Atoms) → LocateAlike old new → old.is_used ≡ true → (text_of : List Datum → List ℕ)
    → (slot : Option Kept) → IsKept old.parts.items text_of slot → IsKept new.parts.items text_of slot
other_kept old new alike used text_of None is = tt
other_kept old new alike used text_of (Some kept) is =
    λ row tells. is row ((alike.before row kept.said (record { tells = λ own. tells })).tells used)

-- a memo whose atoms have looked at one more row
pub other_atoms : (old new : Memo) (filters : List (Option Expr)) (text_of : List Datum → List ℕ)
    → IsMemoOf filters text_of old → IsAtomsOf filters new.atoms → LocateAlike old.atoms new.atoms
    → new.slots ≡ old.slots → IsMemoOf filters text_of new
other_atoms old new filters text_of is atoms alike slots = record {
  atoms = atoms;
  text = λ own. record {
    same = λ one other said at_one at_other. (is.text (sym alike.used ∙ own)).same one other said
        (before own one said at_one) (before own other said at_other);
  };
  kept = λ own. rw slots (λ k d within. other_kept old.atoms new.atoms alike (sym alike.used ∙ own) text_of _
      (is.kept (sym alike.used ∙ own) k d within));
} where
  before : new.atoms.is_used ≡ true → (row : List Datum) (said : Said) → Tells new.atoms.parts.items row said
      → Tells old.atoms.parts.items row said
  before own row said tells =
      (alike.before row said (record { tells = λ used. tells })).tells (sym alike.used ∙ own)

-- a memo with one more text
pub other_slots : (old new : Memo) (filters : List (Option Expr)) (text_of : List Datum → List ℕ)
    → IsMemoOf filters text_of old → new.atoms ≡ old.atoms
    → (old.atoms.is_used ≡ true → All (IsKept old.atoms.parts.items text_of) new.slots.items)
    → IsMemoOf filters text_of new
other_slots old new filters text_of is atoms kept = record {
  atoms = rw atoms is.atoms;
  text = rw atoms is.text;
  kept = rw atoms kept;
}
