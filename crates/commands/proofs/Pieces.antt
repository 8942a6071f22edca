-- An input is read piece by piece.
use Rattle.std.proofs.Common.{◌≡◌, ℕ, ◌+◌, ◌≤◌, ◌<◌, inl, inr, Bool, true, false, List, [], ◌++◌, length, take, Option, Some, None, IfSome, arith, refl, sym, ap, subst, ◌∙◌, append-nil, length-append, IsUtf8}
use Rattle.std.proofs.lemmas.List.{length-take}
use Rattle.std.specs.Io.KnownBytes.{Consumes, IsAtEnd, Keeps}
use Rattle.std.proofs.KnownBytes.{Consumes-nil, Consumes-kept, Consumes-trans, Consumes-whole}
use Rattle.commands.specs.Inputs.{IsInput, IsNoInput, IsUnread}

-- these bytes have been read by this many reads, each of which returned at least one byte or may have failed
pub record IsReadSoFar (may_fail : Bool) (bytes : List ℕ) (reads : ℕ) (old new : Option (List ℕ)) : Type 0 where
  pub consumed : Consumes old new bytes
  pub short : length bytes ≤ 16777216
  pub each : may_fail ≡ false → reads ≤ length bytes

module _ (may_fail : Bool) (old : Option (List ℕ)) where
  pub read_nothing : IsReadSoFar may_fail [] 0 old old
  read_nothing = record { consumed = Consumes-nil old; short = omega arith; each = λ never. omega arith }

  pub read_more : (bytes piece all : List ℕ) (count reads : ℕ) (new newer : Option (List ℕ))
      → IsReadSoFar may_fail bytes reads old new → Consumes new newer (take count piece)
      → all ≡ bytes ++ take count piece → count ≤ length piece → 1 ≤ count → length all ≤ 16777216
      → IsReadSoFar may_fail all (reads + 1) old newer
  read_more bytes piece all count reads new newer before more is within some short =
      let grown : length all ≡ length bytes + length (take count piece) =
      ap length is ∙ length-append bytes (take count piece) in
      record {
        consumed = subst (λ (b : List ℕ). Consumes old newer b) (sym is)
            (Consumes-trans old new newer bytes (take count piece) before.consumed more);
        short = short;
        each = λ never. omega (arith, before.each never, grown, length-take count piece);
      }

  pub read_again : (bytes : List ℕ) (reads : ℕ) (new newer : Option (List ℕ)) → may_fail ≡ true
      → IsReadSoFar may_fail bytes reads old new → Keeps new newer → IsReadSoFar may_fail bytes (reads + 1) old newer
  read_again bytes reads new newer may before keeps = record {
    consumed = Consumes-kept old new newer bytes before.consumed keeps;
    short = before.short;
    each = λ never. absurd (let failing : false ≡ true = sym never ∙ may in cc);
  }

  -- a read gave no byte though there was room
  pub read_all : (bytes piece : List ℕ) (count reads : ℕ) (new newer : Option (List ℕ))
      → IsReadSoFar may_fail bytes reads old new → Consumes new newer (take count piece) → count ≡ 0
      → IsAtEnd newer → IsInput old bytes
  read_all bytes piece count reads new newer before more none end =
      let nothing : take count piece ≡ [] = ap (λ n. take n piece) none in
      let whole : Consumes old newer (bytes ++ take count piece) =
      Consumes-trans old new newer bytes (take count piece) before.consumed more in
      let same : bytes ++ take count piece ≡ bytes = ap (λ l. bytes ++ l) nothing ∙ append-nil bytes in
      Consumes-whole old newer bytes (λ b. bytes ≡ b) (subst (λ (b : List ℕ). Consumes old newer b) same whole) end refl

  longer : (given newest : Option (List ℕ)) (all : List ℕ) → Consumes given newest all → 16777216 < length all
      → IfSome given IsNoInput
  longer None newest all consumed long = tt
  longer (Some bytes) None all consumed long = absurd consumed
  longer (Some bytes) (Some left) all consumed long =
      inl (omega (arith, ap length consumed, length-append all left))

  pub read_too_much : (bytes piece all : List ℕ) (count reads : ℕ) (new newer : Option (List ℕ))
      → IsReadSoFar may_fail bytes reads old new → Consumes new newer (take count piece)
      → all ≡ bytes ++ take count piece → 16777216 < length all → IsUnread may_fail old
  read_too_much bytes piece all count reads new newer before more is long =
      inr (longer old newer all
      (subst (λ (b : List ℕ). Consumes old newer b) (sym is)
      (Consumes-trans old new newer bytes (take count piece) before.consumed more))
      long)

-- after this many reads, one of them failed
pub read_too_often : (may_fail : Bool) (bytes : List ℕ) (reads : ℕ) (old new : Option (List ℕ))
    → IsReadSoFar may_fail bytes reads old new → 16777217 ≤ reads → IsUnread may_fail old
read_too_often true bytes reads old new before many = inl refl
read_too_often false bytes reads old new before many = absurd (omega (arith, before.each refl, before.short))

-- what was read is no text
pub read_no_text : (may_fail : Bool) (known : Option (List ℕ)) (bytes : List ℕ) → IsInput known bytes
    → (IsUtf8 bytes → ⊥) → IsUnread may_fail known
read_no_text may_fail None bytes is no_text = inr tt
read_no_text may_fail (Some given) bytes is no_text = inr (inr (subst (λ (b : List ℕ). IsUtf8 b → ⊥) is no_text))
