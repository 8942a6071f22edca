-- How lines and cuts go on after the first line of a text.
use Rattle.std.proofs.Common.{◌≡◌, ℕ, suc, ◌+◌, ◌<◌, ◌==◌, length, append_assoc, Bool, true, false, List, [], ◌∷◌, ◌++◌, take, drop, Option, Some, None, refl, sym, ap, ◌∙◌, arith}
use Rattle.std.proofs.lemmas.List.{take-append-drop}
use Rattle.std.specs.Option.{option_map}
use Rattle.std.specs.List.{list_any, position_or_len}
use Rattle.filter_tree.proofs.Tests.{by_test}
use Rattle.commands.specs.Parts.{is_newline, first_line, after_line, onto_line, lines_of, CutOnce, onto_part, is_separator, cut_from, cut_of}

-- ---- the first newline

position-newline : (byte : ℕ) (text : List ℕ) → is_newline byte ≡ true → position_or_len is_newline (byte ∷ text) ≡ 0
position-newline byte text e = rw e refl

position-other : (byte : ℕ) (text : List ℕ) → is_newline byte ≡ false
    → position_or_len is_newline (byte ∷ text) ≡ suc (position_or_len is_newline text)
position-other byte text e = rw e (omega arith)

first_line-newline : (byte : ℕ) (text : List ℕ) → is_newline byte ≡ true → first_line (byte ∷ text) ≡ []
first_line-newline byte text e = rw (position-newline byte text e) refl

first_line-other : (byte : ℕ) (text : List ℕ) → is_newline byte ≡ false
    → first_line (byte ∷ text) ≡ byte ∷ first_line text
first_line-other byte text e = rw (position-other byte text e) refl

after_line-newline : (byte : ℕ) (text : List ℕ) → is_newline byte ≡ true → after_line (byte ∷ text) ≡ text
after_line-newline byte text e = rw (position-newline byte text e) refl

after_line-other : (byte : ℕ) (text : List ℕ) → is_newline byte ≡ false → after_line (byte ∷ text) ≡ after_line text
after_line-other byte text e =
    let n : position_or_len is_newline (byte ∷ text) + 1 ≡ suc (position_or_len is_newline text + 1) =
    omega (arith, position-other byte text e) in
    ap (λ k. drop k (byte ∷ text)) n

-- ---- lines

lines_step : (byte : ℕ) (text : List ℕ) (test : Bool) → is_newline byte ≡ test
    → (test ≡ false → onto_line byte (lines_of text) ≡ (byte ∷ first_line text) ∷ lines_of (after_line text))
    → lines_of (byte ∷ text) ≡ first_line (byte ∷ text) ∷ lines_of (after_line (byte ∷ text))
lines_step byte text true e later = rw (first_line-newline byte text e, after_line-newline byte text e, e) refl
lines_step byte text false e later = rw (first_line-other byte text e, after_line-other byte text e, e) (later refl)

-- the lines of a text that has some are its first line and those after it
lines_of-first : (byte : ℕ) (text : List ℕ)
    → lines_of (byte ∷ text) ≡ first_line (byte ∷ text) ∷ lines_of (after_line (byte ∷ text))
lines_of-first byte [] = lines_step byte [] (is_newline byte) refl (λ e. refl)
lines_of-first byte (next ∷ text) =
    lines_step byte (next ∷ text) (is_newline byte) refl (λ e. ap (onto_line byte) (lines_of-first next text))

pub lines_of-some : (text : List ℕ) → 0 < length text → lines_of text ≡ first_line text ∷ lines_of (after_line text)
lines_of-some [] some = absurd (omega arith)
lines_of-some (byte ∷ text) some = lines_of-first byte text

-- ---- cuts

abbrev pub onto_parts : List ℕ → CutOnce → CutOnce
onto_parts front cut = record { part = front ++ cut.part; rest = cut.rest }

option_map-twice : (byte : ℕ) (front : List ℕ) (cut : Option CutOnce)
    → option_map (onto_part byte) (option_map (onto_parts front) cut) ≡ option_map (onto_parts (byte ∷ front)) cut
option_map-twice byte front None = refl
option_map-twice byte front (Some cut) = refl

-- the first line with its newline
abbrev whole_line : List ℕ → List ℕ
whole_line text = take (position_or_len is_newline text + 1) text

whole_line-other : (byte : ℕ) (text : List ℕ) → is_newline byte ≡ false
    → whole_line (byte ∷ text) ≡ byte ∷ whole_line text
whole_line-other byte text e =
    let n : position_or_len is_newline (byte ∷ text) + 1 ≡ suc (position_or_len is_newline text + 1) =
    omega (arith, position-other byte text e) in
    ap (λ k. take k (byte ∷ text)) n

onto_one : (byte : ℕ) (cut : Option CutOnce) → option_map (onto_part byte) cut ≡ option_map (onto_parts (byte ∷ [])) cut
onto_one byte None = refl
onto_one byte (Some cut) = refl

inside_step : (byte : ℕ) (text : List ℕ) (test : Bool) → is_newline byte ≡ test
    → (cut_from false text ≡ option_map (onto_parts (whole_line text)) (cut_of (after_line text)))
    → option_map (onto_part byte) (cut_from test text)
    ≡ option_map (onto_parts (whole_line (byte ∷ text))) (cut_of (after_line (byte ∷ text)))
inside_step byte text true e later = rw (position-newline byte text e) (onto_one byte (cut_from true text))
inside_step byte text false e later =
    rw (after_line-other byte text e, whole_line-other byte text e, later)
    (option_map-twice byte (whole_line text) (cut_of (after_line text)))

cut_from-inside : (text : List ℕ)
    → cut_from false text ≡ option_map (onto_parts (whole_line text)) (cut_of (after_line text))
cut_from-inside [] = refl
cut_from-inside (byte ∷ text) = inside_step byte text (is_newline byte) refl (cut_from-inside text)

onto_parts-twice : (front line : List ℕ) (cut : Option CutOnce)
    → option_map (onto_parts front) (option_map (onto_parts line) cut) ≡ option_map (onto_parts (front ++ line)) cut
onto_parts-twice front line None = refl
onto_parts-twice front line (Some cut) =
    ap (λ part. Some (record { part = part; rest = cut.rest })) (sym (append_assoc front line cut.part))

cut_of-line : (byte : ℕ) (text : List ℕ) (test : Bool) → is_newline byte ≡ test
    → option_map (onto_part byte) (cut_from test text)
    ≡ option_map (onto_parts (whole_line (byte ∷ text))) (cut_of (after_line (byte ∷ text)))
cut_of-line byte text test e = inside_step byte text test e (cut_from-inside text)

-- a text whose first line is no separator is cut after that line
cut_of-other : (byte : ℕ) (text : List ℕ) → is_separator (first_line (byte ∷ text)) ≡ false
    → cut_of (byte ∷ text) ≡ option_map (onto_parts (whole_line (byte ∷ text))) (cut_of (after_line (byte ∷ text)))
cut_of-other byte text e = rw e (cut_of-line byte text (is_newline byte) refl)

-- A text is some front and a rest, and cut as the rest is.
pub record IsCutLater (text rest : List ℕ) : Type 0 where
  pub front : List ℕ
  pub whole : text ≡ front ++ rest
  pub same : cut_of text ≡ option_map (onto_parts front) (cut_of rest)

later_next : (text : List ℕ) (byte : ℕ) (rest : List ℕ) → is_separator (first_line (byte ∷ rest)) ≡ false
    → IsCutLater text (byte ∷ rest) → IsCutLater text (after_line (byte ∷ rest))
later_next text byte rest other now = record {
  front = now.front ++ whole_line (byte ∷ rest);
  whole = now.whole ∙ ap (λ t. now.front ++ t)
      (sym (take-append-drop (position_or_len is_newline (byte ∷ rest) + 1) (byte ∷ rest)))
      ∙ sym (append_assoc now.front (whole_line (byte ∷ rest)) (after_line (byte ∷ rest)));
  same = now.same ∙ ap (option_map (onto_parts now.front)) (cut_of-other byte rest other)
      ∙ onto_parts-twice now.front (whole_line (byte ∷ rest)) (cut_of (after_line (byte ∷ rest)));
}

-- if the next line is no separator
pub later_after_line : (text rest : List ℕ) → 0 < length rest → is_separator (first_line rest) ≡ false
    → IsCutLater text rest → IsCutLater text (after_line rest)
later_after_line text [] some other now = absurd (omega arith)
later_after_line text (byte ∷ rest) some other now = later_next text byte rest other now

-- ---- texts without the byte of a separator

no_separator : (byte : ℕ) (text : List ℕ) → byte == 37 ≡ false → is_separator (first_line (byte ∷ text)) ≡ false
no_separator byte text other =
    by_test (is_newline byte) (λ e. rw (first_line-newline byte text e) refl)
    (λ e. rw (first_line-other byte text e, other) refl)

none_from : (starts : Bool) (text : List ℕ) → list_any (λ byte. byte == 37) text ≡ false → cut_from starts text ≡ None
none_from starts [] none = refl
none_from false (byte ∷ text) none =
    by_test (byte == 37) (λ e. let some = rw e at none in cc)
    (λ e. rw (none_from (is_newline byte) text (rw e at none)) refl)
none_from true (byte ∷ text) none =
    by_test (byte == 37) (λ e. let some = rw e at none in cc)
    (λ e. rw (no_separator byte text e, none_from (is_newline byte) text (rw e at none)) refl)

pub no_percent_no_cut : (text : List ℕ) → list_any (λ byte. byte == 37) text ≡ false → cut_of text ≡ None
no_percent_no_cut text none = none_from true text none
