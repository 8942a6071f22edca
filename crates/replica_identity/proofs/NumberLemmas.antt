-- Lists of the numbers up to a length.
use Rattle.std.proofs.Common.{◌≡◌, ℕ, zero, suc, false, ◌||◌, [], ◌∷◌, nat_lt, ◌==◌, ap, sym, ◌∙◌, arith}
use Rattle.std.specs.List.{list_any}
use Rattle.std.specs.Cmp.{unsigned_Decides}
use Rattle.std.proofs.lemmas.Bool.{eqb-false}
use Rattle.std.proofs.lemmas.Bool.Decides.{nat_tests}
use Rattle.std.proofs.lemmas.List.Folds.{list_any-append}
use Rattle.replica_identity.specs.Identities.{numbers_to}
use Rattle.filter_tree.proofs.Tests.{by_test}

below_next : (column n : ℕ) → nat_lt column (suc n) ≡ (nat_lt column n || (n == column || false))
below_next column n = by_test (nat_lt column n)
    (λ h. rw h (grind (arith, nat_tests)))
    (λ h. by_test (n == column)
    (λ e. let same : n ≡ column = (unsigned_Decides n column).0 e in rw (h, e) (grind (arith, nat_tests)))
    (λ e. rw (h, e) (by_test (nat_lt column (suc n)) (λ k. absurd (eqb-false n column e (grind (arith, nat_tests))))
    (λ k. k))))

none_below : (column : ℕ) → nat_lt column 0 ≡ false
none_below column = grind (arith, nat_tests)

pub has_numbers : (n column : ℕ) → nat_lt column n ≡ list_any (λ number. number == column) (numbers_to n)
has_numbers zero column = none_below column
has_numbers (suc n) column =
    below_next column n
    ∙ ap (λ b. b || (n == column || false)) (has_numbers n column)
    ∙ sym (list_any-append (λ number. number == column) (numbers_to n) (n ∷ []))
