-- Removing what is under a key that has nothing changes nothing.
use Rattle.std.proofs.Common.{◌≡◌, false, List, refl, sym, ◌∙◌, ap}
use Rattle.std.specs.Prelude.{Option, Some, None, is_some, if◌then◌else◌}
use Rattle.filter_tree.specs.Datum.{Datum}
use Rattle.filter_tree.specs.Same.{same_row}
use Rattle.filter_tree.proofs.SameLemmas.{equal_from_same_row}
use Rattle.filter_tree.proofs.Tests.{by_test}
use Rattle.tables_log.specs.Staging.{seen, Puts}
use Rattle.tables_log.specs.declared.staged.Staged.{Staged}

none_there : {V : Type 0} (found : Option V) → is_some found ≡ false → found ≡ None
none_there None e = refl
none_there (Some value) e = absurd cc

pub nothing_taken : {V : Type 0} (old new : Staged V) (gone key : List Datum) → is_some (seen old gone) ≡ false
    → Puts old new gone None
    → seen new key ≡ seen old key
nothing_taken old new gone key none puts = by_test (same_row gone key)
    (λ same.
    let equal : gone ≡ key = equal_from_same_row gone key same in
    let absent : seen old key ≡ None = ap (seen old) (sym equal) ∙ none_there (seen old gone) none in
    puts.sees key ∙ ap (λ b. if b then None else seen old key) same ∙ sym absent)
    (λ apart. puts.sees key ∙ ap (λ b. if b then None else seen old key) apart)
