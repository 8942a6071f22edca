-- How bytes are written, push by push.
use Rattle.std.proofs.Common.{◌≡◌, ℕ, ◌-◌, List, [], ◌++◌, length, take, drop, refl, sym, ◌∙◌, ap, subst, append_assoc, take-append-drop, length-drop}
use Rattle.std.proofs.Math.Seq.{take-length}
use Rattle.std.specs.Prelude.{Bool, true, Option}
use Rattle.std.specs.Io.KnownBytes.{Appends, Keeps}
use Rattle.std.proofs.KnownBytes.{Appends-kept, Appends-nil, Appends-trans}
use Rattle.senders.specs.Refusing.{WritesFirst}

-- Some first bytes were written, and these are left.
pub record IsWriting (before after : Option (List ℕ)) (bytes rest : List ℕ) : Type 0 where
  pub written : List ℕ
  pub bytes_are : bytes ≡ written ++ rest
  pub put : Appends before after written

pub writes_none : (known : Option (List ℕ)) (bytes : List ℕ) → IsWriting known known bytes bytes
writes_none known bytes = record { written = []; bytes_are = refl; put = Appends-nil known }

pub writes_more : (before middle after : Option (List ℕ)) (bytes rest : List ℕ) (count : ℕ)
    → IsWriting before middle bytes rest → Appends middle after (take count rest)
    → IsWriting before after bytes (drop count rest)
writes_more before middle after bytes rest count writing put = record {
  written = writing.written ++ take count rest;
  bytes_are = writing.bytes_are ∙ ap (λ (x : List ℕ). writing.written ++ x) (sym (take-append-drop count rest))
      ∙ sym (append_assoc writing.written (take count rest) (drop count rest));
  put = Appends-trans before middle after writing.written (take count rest) writing.put put;
}

pub wrote_all : (before after : Option (List ℕ)) (failed : Bool) (bytes rest : List ℕ)
    → IsWriting before after bytes rest → rest ≡ [] → WritesFirst before after failed bytes
wrote_all before after failed bytes rest writing none =
    record {
      written = writing.written;
      rest = rest;
      bytes_are = sym writing.bytes_are;
      put = writing.put;
      all =
          λ sound. none;
    }

pub wrote_part : (before middle after : Option (List ℕ)) (failed : Bool) (bytes rest : List ℕ)
    → IsWriting before middle bytes rest → Keeps middle after → failed ≡ true
    → WritesFirst before after failed bytes
wrote_part before middle after failed bytes rest writing kept fails = record {
  written = writing.written;
  rest = rest;
  bytes_are = sym writing.bytes_are;
  put = Appends-kept before middle after writing.written writing.put kept;
  all = λ sound. cc;
}

-- a slice from a place to its end
rest_of_slice : (count : ℕ) (bytes : List ℕ) → take (length bytes - count) (drop count bytes) ≡ drop count bytes
rest_of_slice count bytes =
    subst (λ (n : ℕ). take n (drop count bytes) ≡ drop count bytes) (length-drop count bytes)
    (take-length (drop count bytes))

pub writes_on : (before middle after : Option (List ℕ)) (bytes rest : List ℕ) (count : ℕ)
    → IsWriting before middle bytes rest → Appends middle after (take count rest)
    → IsWriting before after bytes (take (length rest - count) (drop count rest))
writes_on before middle after bytes rest count writing put =
    subst (IsWriting before after bytes) (sym (rest_of_slice count rest))
    (writes_more before middle after bytes rest count writing put)
