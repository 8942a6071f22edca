-- Bytes that are UTF-8, and bytes that are not.
use Rattle.std.proofs.Common.{◌≡◌, List, ℕ, Some, None, IsUtf8, refl}
use Rattle.std.proofs.lemmas.Str.{IsUtf8-from_is_utf8, is_utf8-from_IsUtf8}
use Rattle.std.specs.Str.{is_utf8}
use Rattle.copy_both.specs.StartAnswers.{text_if_utf8}
use Rattle.filter_tree.proofs.Tests.{by_test}

pub is_text : (bytes : List ℕ) → IsUtf8 bytes → text_if_utf8 bytes ≡ Some bytes
is_text bytes utf8 = rw (is_utf8-from_IsUtf8 bytes utf8) refl

pub is_no_text : (bytes : List ℕ) → ¬ IsUtf8 bytes → text_if_utf8 bytes ≡ None
is_no_text bytes not_utf8 =
    by_test (is_utf8 bytes) (λ e. absurd (not_utf8 (IsUtf8-from_is_utf8 bytes e))) (λ e. rw e refl)
