-- An index that was found by its name is the identity of a table, or is not an identity.
use Rattle.std.proofs.Common.{◌≡◌, ℕ, Bool, true, false, List, refl, sym, ap, ◌∙◌}
use Rattle.std.specs.Prelude.{Option, Some, Ok, Err, slice_get}
use Rattle.filter_tree.specs.declared.table.Column.{Column}
use Rattle.filter_tree.specs.declared.table.Identity.TheVariants.{Index}
use Rattle.filter_tree.specs.declared.table.UniqueIndex.{UniqueIndex}
use Rattle.sql_reader.specs.declared.name.PlacedName.{PlacedName}
use Rattle.sql_reader.specs.ErrorKinds as w
use Rattle.pub_catalog.specs.IndexIdentities.{identifies}
use Rattle.pub_reader.specs.Drafts.{find_index}
use Rattle.pub_reader.specs.Grammar.{fault}
use Rattle.pub_reader.specs.Identities.{index_named}

module _ (columns : List Column) (indexes : List UniqueIndex) (called : PlacedName) {text : List ℕ} {place : Option ℕ}
    {number : ℕ} {holds : Bool}
    (spelled : text ≡ called.text) (found : place ≡ find_index text indexes) (there : place ≡ Some number)
    (tells : holds ≡ identifies columns (slice_get indexes number)) where
  is_found : find_index called.text indexes ≡ Some number
  is_found = sym (found ∙ ap (λ (text : List ℕ). find_index text indexes) spelled) ∙ there

  pub is_identity : holds ≡ true → index_named columns indexes called ≡ Ok (Index number)
  unfolding index_named
  is_identity h = rw (is_found, sym tells ∙ h) refl

  pub is_no_identity : holds ≡ false → index_named columns indexes called ≡ Err (fault called.place w.NullableIndex)
  unfolding index_named
  is_no_identity h = rw (is_found, sym tells ∙ h) refl
