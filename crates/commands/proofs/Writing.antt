-- Texts are written one after another, and a prefix of a text if the writer fails.
use Rattle.std.proofs.Common.{◌≡◌, ℕ, inl, inr, List, [], ◌∷◌, ◌++◌, Option, refl, sym, ap, subst, ◌∙◌, append_assoc, append-nil, ◌-◌, length, take, drop, take-append-drop}
use Rattle.std.proofs.lemmas.List.{take_rest}
use Rattle.std.proofs.lemmas.List.Concat.{flat_map-append}
use Rattle.std.specs.Prelude.{Result, Ok, Err, IfOk, IfErr, OnOk}
use Rattle.std.specs.Io.KnownBytes.{Appends, Keeps}
use Rattle.std.proofs.KnownBytes.{Appends-kept, Appends-nil, Appends-trans}
use Rattle.commands.specs.Output.{WritesFirst, StopsText, Writes, Ends, ended, text_of}
use Rattle.commands.specs.declared.failure.Failure.{Failure}
use Rattle.commands.specs.declared.failure.Failure.TheVariants as f
use Rattle.commands.specs.declared.failure.InputFault.{InputFault}
use Rattle.commands.specs.declared.failure.Status.{Status}

-- ---- texts

pub text_of-one : (line : List ℕ) → text_of (line ∷ []) ≡ ended line
text_of-one line = append-nil (ended line)

pub text_of-more : (lines : List (List ℕ)) (line : List ℕ) → text_of (lines ++ line ∷ []) ≡ text_of lines ++ ended line
text_of-more lines line = flat_map-append ended lines (line ∷ []) ∙ ap (λ t. text_of lines ++ t) (text_of-one line)

-- ---- a writer's bytes

pub unwritten : (old new : Option (List ℕ)) → new ≡ old → Appends old new []
unwritten old new e = subst (λ (n : Option (List ℕ)). Appends old n []) (sym e) (Appends-nil old)

-- ---- the first bytes of a text

pub first_whole : (text : List ℕ) (old new : Option (List ℕ)) → Appends old new text → WritesFirst text old new
first_whole text old new appends = record { written = text; rest = []; is = sym (append-nil text); appends = appends }

pub first_kept : (text : List ℕ) (old new newer : Option (List ℕ)) → WritesFirst text old new → Keeps new newer
    → WritesFirst text old newer
first_kept text old new newer now keeps =
    record {
      written = now.written;
      rest = now.rest;
      is = now.is;
      appends =
          Appends-kept old new newer now.written now.appends keeps;
    }

pub first_nothing : (text : List ℕ) (old new : Option (List ℕ)) → new ≡ old → WritesFirst text old new
first_nothing text old new e = record { written = []; rest = text; is = refl; appends = unwritten old new e }

-- of a longer text
pub first_of_longer : (text more : List ℕ) (old new : Option (List ℕ)) → WritesFirst text old new
    → WritesFirst (text ++ more) old new
first_of_longer text more old new now = record {
  written = now.written;
  rest = now.rest ++ more;
  is = ap (λ t. t ++ more) now.is ∙ append_assoc now.written now.rest more;
  appends = now.appends;
}

-- after a text that is written whole
pub first_after : (text more : List ℕ) (old new newer : Option (List ℕ)) → Appends old new text
    → WritesFirst more new newer → WritesFirst (text ++ more) old newer
first_after text more old new newer appends now = record {
  written = text ++ now.written;
  rest = now.rest;
  is = ap (λ t. text ++ t) now.is ∙ sym (append_assoc text now.written now.rest);
  appends = Appends-trans old new newer text now.written appends now.appends;
}

-- ---- a text in turns

-- some bytes of a text are written, and the rest is to go
pub record IsToGo (text rest : List ℕ) (old new : Option (List ℕ)) : Type 0 where
  pub written : List ℕ
  pub is : text ≡ written ++ rest
  pub appends : Appends old new written

pub to_go_next : (text rest : List ℕ) (count : ℕ) (old new newer : Option (List ℕ)) → IsToGo text rest old new
    → Appends new newer (take count rest) → IsToGo text (take (length rest - count) (drop count rest)) old newer
to_go_next text rest count old new newer now more = record {
  written = now.written ++ take count rest;
  is = now.is ∙ ap (λ l. now.written ++ l) (sym (take-append-drop count rest))
      ∙ sym (append_assoc now.written (take count rest) (drop count rest))
      ∙ ap (λ l. (now.written ++ take count rest) ++ l) (sym (take_rest rest count));
  appends = Appends-trans old new newer now.written (take count rest) now.appends more;
}

pub to_go_kept : (text rest : List ℕ) (old new newer : Option (List ℕ)) → IsToGo text rest old new → Keeps new newer
    → IsToGo text rest old newer
to_go_kept text rest old new newer now keeps =
    record { written = now.written; is = now.is; appends = Appends-kept old new newer now.written now.appends keeps }

-- ---- answers

module _ (W V : List (List ℕ) → Status → Type 0) (B C : List (List ℕ) → Type 0) (IsThere : InputFault → Type 0) where
  -- an answer is written that is also one of another kind
  pub ends_as : ((lines : List (List ℕ)) (status : Status) → W lines status → V lines status)
      → ((lines : List (List ℕ)) → B lines → C lines)
      → (old new : Option (List ℕ)) (result : Result Status Failure) → Writes W B old new result
      → Ends V C IsThere old new result
  ends_as whole begun old new (Ok status) now =
      record { lines = now.lines; whole = whole now.lines status now.whole; appends = now.appends }
  ends_as whole begun old new (Err f.OutOfMemory) now =
      record { lines = now.lines; begun = begun now.lines now.begun; appends = now.appends }
  ends_as whole begun old new (Err f.Output) now = record {
    lines = now.lines;
    part = elim now.part [ inl b ↦ inl (begun now.lines b) | inr w ↦ inr (w.0, whole now.lines w.0 w.1) ];
    first = now.first;
  }
  ends_as whole begun old new (Err (f.CommandLine why)) now = absurd now
  ends_as whole begun old new (Err (f.Input fault)) now = absurd now

-- no line at all is a beginning of an answer
module _ (W : List (List ℕ) → Status → Type 0) (B : List (List ℕ) → Type 0) (IsThere : InputFault → Type 0)
    (none : B []) where
  -- memory runs out before the first line of an answer
  pub memory_ends : (old new : Option (List ℕ)) → new ≡ old → Ends W B IsThere old new (Err f.OutOfMemory)
  memory_ends old new e = record { lines = []; begun = none; appends = unwritten old new e }

  -- the text of an answer is written, or its writing stops
  pub text_ends : (text : List ℕ) (lines : List (List ℕ)) → text_of lines ≡ text → (status : Status)
      (old new : Option (List ℕ)) (result : Result Status Failure) → W lines status → IfOk result (λ s. s ≡ status)
      → OnOk result (Appends old new text) → IfErr result (StopsText text old new) → Ends W B IsThere old new result
  text_ends text lines are status old new (Ok given) is same appends stops = record {
    lines = lines;
    whole = subst (λ (s : Status). W lines s) (sym same) is;
    appends = subst (λ (t : List ℕ). Appends old new t) (sym are) appends;
  }
  text_ends text lines are status old new (Err (f.CommandLine why)) is same appends stops = absurd stops
  text_ends text lines are status old new (Err (f.Input fault)) is same appends stops = absurd stops
  text_ends text lines are status old new (Err f.OutOfMemory) is same appends stops = memory_ends old new stops
  text_ends text lines are status old new (Err f.Output) is same appends stops = record {
    lines = lines;
    part = inr (status, is);
    first = subst (λ (t : List ℕ). WritesFirst t old new) (sym are) stops;
  }

  -- the one line of an answer is written, or its writing stops
  pub line_ends : (line : List ℕ) (status : Status) (old new : Option (List ℕ)) (result : Result Status Failure)
      → W (line ∷ []) status → IfOk result (λ s. s ≡ status) → OnOk result (Appends old new (ended line))
      → IfErr result (StopsText (ended line) old new) → Ends W B IsThere old new result
  line_ends line status old new result is same appends stops =
      text_ends (ended line) (line ∷ []) (text_of-one line) status old new result is same appends stops
