-- Lines and parts of an input that is read as it comes.
use Rattle.std.proofs.Common.{◌≡◌, ◌≢◌, inl, inr, ℕ, ◌+◌, ◌-◌, ◌<◌, ◌≤◌, ◌==◌, Bool, false, true≢false, List, [], ◌∷◌, ◌++◌, All, Option, Some, None, IfSome, cond, length, take, drop, refl, sym, ap, subst, ◌∙◌, arith, append_assoc, append-nil, ne_eqb, codes, eqb-true, lt-ltb}
use Rattle.std.proofs.KnownBytes.{Consumes-kept, Consumes-nil, Consumes-trans}
use Rattle.std.proofs.Math.Seq.{drop-append-add, take-append_seam}
use Rattle.std.proofs.lemmas.Bool.{cases_lt}
use Rattle.std.proofs.lemmas.List.{drop-drop, drop-take}
use Rattle.std.proofs.lemmas.List.Concat.{flat_map-append}
use Rattle.std.proofs.lemmas.Grind.{common_steps}
use Rattle.std.proofs.lemmas.List.Elements.{All-append, All-cons, All-head, All-nil, All-push, All-tail}
use Rattle.std.proofs.lemmas.List.Quantifiers.{position-Some}
use Rattle.std.proofs.lemmas.List.Sums.{fails_before_first}
use Rattle.std.proofs.lemmas.Str.{IsCharBoundary-after_ascii, IsUtf8-drop, IsUtf8-take}
use Rattle.std.specs.Io.KnownBytes.{Consumes, IsAtEnd, Keeps, prepend_known}
use Rattle.std.specs.List.{position_or_len, slice_index_or}
use Rattle.std.specs.Option.{option_map}
use Rattle.std.specs.Prelude.{IsUtf8, get_or, is_some, position, slice_range}
use Rattle.std.specs.Str.{IsCharBoundary}
use Rattle.commands.specs.Output.{ended, text_of}
use Rattle.commands.specs.Parts.{is_separator, lines_of, onto_line}
use Rattle.commands.specs.Inputs.{IsUnread}
use Rattle.commands.specs.declared.failure.Failure.{Failure}
use Rattle.commands.specs.declared.failure.Failure.TheVariants as f
use Rattle.commands.specs.declared.failure.InputFault.TheVariants as i
use Rattle.cli.specs.Lines.{AreLast, Ends, Fails, Quits, IsPlain, HasNoSeparator, LacksPart, ReadsLast, ReadsLine, ReadsPart, ReadsSome, StopsLine, StopsPart, cut_lines, ended_lines, onto_before, onto_ended, parts_by, parts_of, with_catalog}

-- ---- lines

-- a line and its newline in front of a text
pub ended_lines-line : (line more : List ℕ) → IsPlain line
    → ended_lines (line ++ 10 ∷ more) ≡ line ∷ ended_lines more
ended_lines-line [] more plain = refl
ended_lines-line (byte ∷ line) more plain =
    ap (λ b. cond b ([] ∷ ended_lines (line ++ 10 ∷ more)) (onto_ended byte (ended_lines (line ++ 10 ∷ more))))
    (ne_eqb byte 10 (All-head (λ x. x ≢ 10) byte line plain))
    ∙ ap (onto_ended byte) (ended_lines-line line more (All-tail (λ x. x ≢ 10) byte line plain))

-- what has no newline has no line
pub ended_lines-plain : (bytes : List ℕ) → IsPlain bytes → ended_lines bytes ≡ []
ended_lines-plain [] plain = refl
ended_lines-plain (byte ∷ bytes) plain =
    ap (λ b. cond b ([] ∷ ended_lines bytes) (onto_ended byte (ended_lines bytes)))
    (ne_eqb byte 10 (All-head (λ x. x ≢ 10) byte bytes plain))
    ∙ ap (onto_ended byte) (ended_lines-plain bytes (All-tail (λ x. x ≢ 10) byte bytes plain))

-- lines in front of a text
pub ended_lines-text : (lines : List (List ℕ)) (more : List ℕ) → All IsPlain lines
    → ended_lines (text_of lines ++ more) ≡ lines ++ ended_lines more
ended_lines-text [] more plain = refl
ended_lines-text (line ∷ lines) more plain =
    ap ended_lines (append_assoc (ended line) (text_of lines) more ∙ append_assoc line (10 ∷ []) (text_of lines ++ more))
    ∙ ended_lines-line line (text_of lines ++ more) (All-head IsPlain line lines plain)
    ∙ ap (λ ls. line ∷ ls) (ended_lines-text lines more (All-tail IsPlain line lines plain))

-- ---- parts

pub cut_lines-separated : (lines more : List (List ℕ)) → HasNoSeparator lines
    → cut_lines (lines ++ codes "%%" ∷ more) ≡ Some (record { before = lines; after = more })
cut_lines-separated [] more none = refl
cut_lines-separated (line ∷ lines) more none =
    ap (λ b. cond b (Some (record { before = []; after = lines ++ codes "%%" ∷ more }))
    (option_map (onto_before line) (cut_lines (lines ++ codes "%%" ∷ more))))
    (All-head (λ l. is_separator l ≡ false) line lines none)
    ∙ ap (option_map (onto_before line))
    (cut_lines-separated lines more (All-tail (λ l. is_separator l ≡ false) line lines none))

pub cut_lines-whole : (lines : List (List ℕ)) → HasNoSeparator lines → cut_lines lines ≡ None
cut_lines-whole [] none = refl
cut_lines-whole (line ∷ lines) none =
    ap (λ b. cond b (Some (record { before = []; after = lines })) (option_map (onto_before line) (cut_lines lines)))
    (All-head (λ l. is_separator l ≡ false) line lines none)
    ∙ ap (option_map (onto_before line)) (cut_lines-whole lines (All-tail (λ l. is_separator l ≡ false) line lines none))

-- ---- a line that is read

other : (byte : ℕ) → (byte == 10) ≡ false → byte ≢ 10
other byte isnt e = true≢false (sym (ap (λ (b : ℕ). b == 10) e) ∙ isnt)

some≢none : (x : ℕ) → Some x ≡ None → ⊥
some≢none x e = true≢false (ap (λ (o : Option ℕ). is_some o) e)

-- no byte is a newline if there is no place of one
pub plain_if_none : (xs : List ℕ) → position (λ byte. byte == 10) xs ≡ None → IsPlain xs
plain_if_none xs none = λ (k d : ℕ) (lt : k < length xs) (e : slice_index_or xs k d ≡ 10).
    elim (cases_lt (position_or_len (λ byte. byte == 10) xs) (length xs)) [
      | inl inside ↦ absurd (some≢none (position_or_len (λ byte. byte == 10) xs)
          (rw (lt-ltb (position_or_len (λ byte. byte == 10) xs) (length xs) inside) at none))
      | inr past ↦ other (slice_index_or xs k d) (fails_before_first (λ byte. byte == 10) xs k d (omega arith)) e
    ]

-- the bytes around the first newline
around_newline : (xs : List ℕ) (i : ℕ) → position (λ byte. byte == 10) xs ≡ Some i
    → IsPlain (take i xs) × (xs ≡ take i xs ++ 10 ∷ drop (i + 1) xs)
around_newline xs i found =
    let first = position-Some (λ byte. byte == 10) xs i 0 found in (
      λ (k d : ℕ) (lt : k < length (take i xs)) (e : slice_index_or (take i xs) k d ≡ 10).
          let below : k < i = grind (arith, common_steps) in
          let same : slice_index_or xs k 0 ≡ 10 = grind (arith, common_steps) in
          other (slice_index_or xs k 0) (first.2 k below) same,
      let at : slice_index_or xs i 0 ≡ 10 = eqb-true (slice_index_or xs i 0) 10 first.1 in
          grind (arith, common_steps),
    )

after_place : (all : List ℕ) (start end at : ℕ) → at < end - start
    → drop (at + 1) (slice_range all start end) ≡ slice_range all (start + (at + 1)) end
after_place all start end at inside =
    let room : end - start ≡ (at + 1) + (end - (start + (at + 1))) = omega (arith, inside) in
    ap (λ (n : ℕ). drop (at + 1) (take n (drop start all))) room
    ∙ drop-take (at + 1) (end - (start + (at + 1))) (drop start all)
    ∙ ap (take (end - (start + (at + 1)))) (drop-drop (at + 1) start all)

-- the bytes up to a newline are moved
pub takes : (all piece line after : List ℕ) (start end at : ℕ) → piece ≡ all → end ≤ length all
    → position (λ byte. byte == 10) (slice_range piece start end) ≡ Some at
    → after ≡ line ++ take at (slice_range piece start end)
    → (moved : List ℕ) × IsPlain moved × (slice_range all start end ≡ moved ++ 10 ∷ slice_range all (start + (at + 1)) end)
    × (after ≡ line ++ moved)
takes all piece line after start end at is bounded found grown =
    let xs = slice_range piece start end in
    let around = around_newline xs at found in
    let len : length (slice_range all start end) ≡ end - start = grind (arith, common_steps) in
    let inside : at < end - start =
    subst (λ (n : ℕ). at < n) len (subst (λ (p : List ℕ). at < length (slice_range p start end)) is
    (position-Some (λ byte. byte == 10) xs at 0 found).0) in
    let rest : drop (at + 1) xs ≡ slice_range all (start + (at + 1)) end =
    ap (λ (p : List ℕ). drop (at + 1) (slice_range p start end)) is ∙ after_place all start end at inside in (
      take at xs,
      around.0,
      ap (λ (p : List ℕ). slice_range p start end) (sym is) ∙ around.1
          ∙ ap (λ (r : List ℕ). take at xs ++ 10 ∷ r) rest,
      grown,
    )

-- so far: the bytes of a line were read, of which none is a newline
pub record IsLineSoFar (old now : Option (List ℕ)) (line : List ℕ) : Type 0 where
  pub consumed : Consumes old now line
  pub plain : IsPlain line

pub line_begins : (old : Option (List ℕ)) (line : List ℕ) → line ≡ [] → IsLineSoFar old old line
line_begins old line none =
    subst (λ (l : List ℕ). IsLineSoFar old old l) (sym none)
    (record { consumed = Consumes-nil old; plain = All-nil (λ byte. byte ≢ 10) })

moved_known : (known : Option (List ℕ)) (moved new : List ℕ)
    → Consumes (prepend_known (moved ++ new) known) (prepend_known new known) moved
moved_known None moved new = tt
moved_known (Some rest) moved new = append_assoc moved new rest

moves_on : (old known : Option (List ℕ)) (line moved new : List ℕ)
    → Consumes old (prepend_known (moved ++ new) known) line → Consumes old (prepend_known new known) (line ++ moved)
moves_on old known line moved new consumed =
    Consumes-trans old (prepend_known (moved ++ new) known) (prepend_known new known) line moved consumed
    (moved_known known moved new)

plain_both : (xs ys : List ℕ) → IsPlain xs → IsPlain ys → IsPlain (xs ++ ys)
plain_both xs ys plain more = All-append (λ byte. byte ≢ 10) xs ys plain more

pub line_goes_on : (old known : Option (List ℕ)) (ahead line more : List ℕ)
    → IsLineSoFar old (prepend_known ahead known) line → IsPlain ahead → more ≡ line ++ ahead
    → IsLineSoFar old (prepend_known [] known) more
line_goes_on old known ahead line more far plain is = record {
  consumed = subst (Consumes old (prepend_known [] known)) (sym is)
      (moves_on old known line ahead []
      (subst (λ (l : List ℕ). Consumes old (prepend_known l known) line) (sym (append-nil ahead)) far.consumed));
  plain = subst IsPlain (sym is) (plain_both line ahead far.plain plain);
}

pub line_taken : (old known now : Option (List ℕ)) (ahead new line more : List ℕ)
    → IsLineSoFar old (prepend_known ahead known) line → IsPlain ahead × (new ≡ []) × (more ≡ line ++ ahead)
    → now ≡ known → IsLineSoFar old (prepend_known new now) more
line_taken old known now ahead new line more far moved same =
    subst (λ (k : Option (List ℕ)). IsLineSoFar old (prepend_known new k) more) (sym same)
    (subst (λ (a : List ℕ). IsLineSoFar old (prepend_known a known) more) (sym moved.1)
    (line_goes_on old known ahead line more far moved.0 moved.2))

pub line_ends : (old known : Option (List ℕ)) (ahead new line more moved : List ℕ)
    → IsLineSoFar old (prepend_known ahead known) line → IsPlain moved → ahead ≡ moved ++ 10 ∷ new
    → more ≡ line ++ moved → ReadsLine old (prepend_known new known) more
line_ends old known ahead new line more moved far plain is grown = record {
  consumed = subst (λ (l : List ℕ). Consumes old (prepend_known new known) (l ++ 10 ∷ [])) (sym grown)
      (subst (Consumes old (prepend_known new known)) (sym (append_assoc line moved (10 ∷ [])))
      (moves_on old known line (moved ++ 10 ∷ []) new
      (subst (λ (l : List ℕ). Consumes old (prepend_known l known) line) (is ∙ sym (append_assoc moved (10 ∷ []) new))
      far.consumed)));
  plain = subst IsPlain (sym grown) (plain_both line moved far.plain plain);
}

pub line_waits : (old mid now : Option (List ℕ)) (line : List ℕ) → IsLineSoFar old mid line → Keeps mid now
    → IsLineSoFar old now line
line_waits old mid now line far kept =
    record { consumed = Consumes-kept old mid now line far.consumed kept; plain = far.plain }

pub line_is_last : (old now : Option (List ℕ)) (line : List ℕ) → IsLineSoFar old now line → IsAtEnd now
    → ReadsLast old now
line_is_last None now line far ends = record { bytes = line; consumed = tt; plain = far.plain; at_end = tt }
line_is_last (Some all) now line far ends =
    record { bytes = line; consumed = far.consumed; plain = far.plain; at_end = ends }

pub line_is_lost : (old now : Option (List ℕ)) (line : List ℕ) → IsLineSoFar old now line → ReadsSome old now
line_is_lost old now line far = record { bytes = line; consumed = far.consumed }

-- ---- the lines of a text that ends with a newline

lines_of-line : (line more : List ℕ) → IsPlain line → lines_of (line ++ 10 ∷ more) ≡ line ∷ lines_of more
lines_of-line [] more plain = refl
lines_of-line (byte ∷ line) more plain =
    ap (λ b. cond b ([] ∷ lines_of (line ++ 10 ∷ more)) (onto_line byte (lines_of (line ++ 10 ∷ more))))
    (ne_eqb byte 10 (All-head (λ x. x ≢ 10) byte line plain))
    ∙ ap (onto_line byte) (lines_of-line line more (All-tail (λ x. x ≢ 10) byte line plain))

pub lines_of-text : (lines : List (List ℕ)) → All IsPlain lines → lines_of (text_of lines) ≡ lines
lines_of-text [] plain = refl
lines_of-text (line ∷ lines) plain =
    ap lines_of (append_assoc line (10 ∷ []) (text_of lines))
    ∙ lines_of-line line (text_of lines) (All-head IsPlain line lines plain)
    ∙ ap (λ ls. line ∷ ls) (lines_of-text lines (All-tail IsPlain line lines plain))

-- ---- the parts of an input

separator_plain : IsPlain (codes "%%")
separator_plain =
    All-cons (λ byte. byte ≢ 10) 37 (37 ∷ []) (λ e. omega (arith, e))
    (All-cons (λ byte. byte ≢ 10) 37 [] (λ e. omega (arith, e)) (All-nil (λ byte. byte ≢ 10)))

pub quit_plain : IsPlain (codes "QUIT;")
quit_plain =
    All-cons (λ byte. byte ≢ 10) 81 (85 ∷ 73 ∷ 84 ∷ 59 ∷ []) (λ e. omega (arith, e))
    (All-cons (λ byte. byte ≢ 10) 85 (73 ∷ 84 ∷ 59 ∷ []) (λ e. omega (arith, e))
    (All-cons (λ byte. byte ≢ 10) 73 (84 ∷ 59 ∷ []) (λ e. omega (arith, e))
    (All-cons (λ byte. byte ≢ 10) 84 (59 ∷ []) (λ e. omega (arith, e))
    (All-cons (λ byte. byte ≢ 10) 59 [] (λ e. omega (arith, e)) (All-nil (λ byte. byte ≢ 10))))))

-- the lines of a part and the line that ends it, in front of a text
part_lines : (lines : List (List ℕ)) (more : List ℕ) → All IsPlain lines
    → ended_lines (text_of (lines ++ codes "%%" ∷ []) ++ more) ≡ (lines ++ codes "%%" ∷ []) ++ ended_lines more
part_lines lines more plain =
    ended_lines-text (lines ++ codes "%%" ∷ []) more
    (All-push IsPlain lines (codes "%%") plain separator_plain)

cut_here : (lines more : List (List ℕ)) → HasNoSeparator lines
    → cut_lines ((lines ++ codes "%%" ∷ []) ++ more) ≡ Some (record { before = lines; after = more })
cut_here lines more none =
    ap cut_lines (append_assoc lines (codes "%%" ∷ []) more) ∙ cut_lines-separated lines more none

-- both parts are there
pub parts_there : (first second : List (List ℕ)) (more : List ℕ) → All IsPlain first → All IsPlain second
    → HasNoSeparator first → HasNoSeparator second
    → parts_of (ended_lines (text_of (first ++ codes "%%" ∷ []) ++ (text_of (second ++ codes "%%" ∷ []) ++ more)))
    ≡ Some (record { catalog = first; certificates = second; commands = ended_lines more })
parts_there first second more plain more_plain none no_more =
    ap parts_of (part_lines first (text_of (second ++ codes "%%" ∷ []) ++ more) plain)
    ∙ ap parts_by (cut_here first (ended_lines (text_of (second ++ codes "%%" ∷ []) ++ more)) none)
    ∙ ap (λ lines. with_catalog first (cut_lines lines)) (part_lines second more more_plain)
    ∙ ap (with_catalog first) (cut_here second (ended_lines more) no_more)

whole_lines : (lines : List (List ℕ)) (last : List ℕ) → All IsPlain lines → IsPlain last
    → ended_lines (text_of lines ++ last) ≡ lines
whole_lines lines last plain last_plain =
    ended_lines-text lines last plain ∙ ap (λ more. lines ++ more) (ended_lines-plain last last_plain) ∙ append-nil lines

-- the first one is not
pub no_first_part : (lines : List (List ℕ)) (last : List ℕ) → All IsPlain lines → IsPlain last → HasNoSeparator lines
    → parts_of (ended_lines (text_of lines ++ last)) ≡ None
no_first_part lines last plain last_plain none =
    ap parts_of (whole_lines lines last plain last_plain) ∙ ap parts_by (cut_lines-whole lines none)

-- the second one is not
pub no_second_part : (first lines : List (List ℕ)) (last : List ℕ) → All IsPlain first → HasNoSeparator first
    → All IsPlain lines → IsPlain last → HasNoSeparator lines
    → parts_of (ended_lines (text_of (first ++ codes "%%" ∷ []) ++ (text_of lines ++ last))) ≡ None
no_second_part first lines last plain none more_plain last_plain no_more =
    ap parts_of (part_lines first (text_of lines ++ last) plain)
    ∙ ap parts_by (cut_here first (ended_lines (text_of lines ++ last)) none)
    ∙ ap (λ more. with_catalog first (cut_lines more)) (whole_lines lines last more_plain last_plain)
    ∙ ap (with_catalog first) (cut_lines-whole lines no_more)

-- ---- a part that is read

-- so far: lines were read, of which none is the last, and these are their bytes
pub record IsReading (old now : Option (List ℕ)) (part : List ℕ) : Type 0 where
  pub lines : List (List ℕ)
  pub consumed : Consumes old now (text_of lines)
  pub plain : All IsPlain lines
  pub whole : HasNoSeparator lines
  pub is : part ≡ text_of lines

pub reading_begins : (old : Option (List ℕ)) (part : List ℕ) → part ≡ [] → IsReading old old part
reading_begins old part is = record {
  lines = [];
  consumed = Consumes-nil old;
  plain = All-nil IsPlain;
  whole = All-nil (λ line. is_separator line ≡ false);
  is = is;
}

text_of-push : (lines : List (List ℕ)) (line : List ℕ) → text_of (lines ++ line ∷ []) ≡ text_of lines ++ ended line
text_of-push lines line =
    flat_map-append ended lines (line ∷ []) ∙ ap (λ t. text_of lines ++ t) (append-nil (ended line))

push_read : (old now next : Option (List ℕ)) (lines : List (List ℕ)) (line : List ℕ) → Consumes old now (text_of lines)
    → ReadsLine now next line → Consumes old next (text_of (lines ++ line ∷ []))
push_read old now next lines line consumed read =
    subst (Consumes old next) (sym (text_of-push lines line))
    (Consumes-trans old now next (text_of lines) (ended line) consumed read.consumed)

pub reading_goes_on : (old now next : Option (List ℕ)) (part line more : List ℕ) → IsReading old now part
    → ReadsLine now next line → is_separator line ≡ false → more ≡ part ++ (line ++ 10 ∷ []) → IsReading old next more
reading_goes_on old now next part line more reading read other is = record {
  lines = reading.lines ++ line ∷ [];
  consumed = push_read old now next reading.lines line reading.consumed read;
  plain = All-push IsPlain reading.lines line reading.plain read.plain;
  whole = All-push (λ line. is_separator line ≡ false) reading.lines line reading.whole other;
  is = is ∙ ap (λ t. t ++ (line ++ 10 ∷ [])) reading.is ∙ sym (text_of-push reading.lines line);
}

pub reading_ends : (old now next : Option (List ℕ)) (part line : List ℕ) → IsReading old now part
    → ReadsLine now next line → line ≡ codes "%%" → ReadsPart old next part
reading_ends old now next part line reading read is = record {
  lines = reading.lines;
  consumed = subst (λ (l : List ℕ). Consumes old next (text_of (reading.lines ++ l ∷ []))) is
      (push_read old now next reading.lines line reading.consumed read);
  plain = reading.plain;
  whole = reading.whole;
  is = reading.is;
}

pub at_end_of_all : (old now next : Option (List ℕ)) (bytes : List ℕ) → Consumes old now bytes
    → IfSome now (λ all. IsAtEnd next) → IfSome old (λ all. IsAtEnd next)
at_end_of_all None now next bytes consumes ends = tt
at_end_of_all (Some all) None next bytes consumes ends = absurd consumes
at_end_of_all (Some all) (Some rest) next bytes consumes ends = ends

-- the last bytes are the last after others, too
pub last_of_all : (may_fail : Bool) (old now next : Option (List ℕ)) (read bytes : List ℕ) → Consumes old now read
    → AreLast may_fail now next bytes → AreLast may_fail old next bytes
last_of_all may_fail old now next read bytes consumed (Quits is) = Quits is
last_of_all may_fail old now next read bytes consumed (Ends plain at_end) =
    Ends plain (at_end_of_all old now next read consumed at_end)
last_of_all may_fail old now next read bytes consumed (Fails is) = Fails is

pub reading_lacks : (old now next : Option (List ℕ)) (part : List ℕ) → IsReading old now part → ReadsLast now next
    → LacksPart old next
reading_lacks old now next part reading last = record {
  lines = reading.lines;
  last = last.bytes;
  consumed = Consumes-trans old now next (text_of reading.lines) last.bytes reading.consumed last.consumed;
  plain = reading.plain;
  last_plain = last.plain;
  whole = reading.whole;
  at_end = at_end_of_all old now next (text_of reading.lines) reading.consumed last.at_end;
}

pub reading_unread : (may_fail : Bool) (old next : Option (List ℕ)) (failure : Failure) → StopsLine may_fail failure
    → StopsPart may_fail old next failure
reading_unread may_fail old next (f.Input i.Unread) is = inl is
reading_unread may_fail old next f.OutOfMemory is = tt
reading_unread may_fail old next f.Output is = absurd is
reading_unread may_fail old next (f.Input i.Parts) is = absurd is
reading_unread may_fail old next (f.CommandLine why) is = absurd is
reading_unread may_fail old next (f.Input (i.Catalog error)) is = absurd is
reading_unread may_fail old next (f.Input (i.Table name)) is = absurd is
reading_unread may_fail old next (f.Input (i.Certificate number error)) is = absurd is
reading_unread may_fail old next (f.Input (i.Script error)) is = absurd is

-- ---- a part that is no text

-- a part is too long, and so is the input
pub reading_too_much : (may_fail : Bool) (old now : Option (List ℕ)) (part : List ℕ) → IsReading old now part
    → 16777216 < length part → IsUnread may_fail old
reading_too_much may_fail None now part reading long = inr tt
reading_too_much may_fail (Some all) None part reading long = absurd reading.consumed
reading_too_much may_fail (Some all) (Some rest) part reading long =
    let is : all ≡ part ++ rest = reading.consumed ∙ ap (λ (t : List ℕ). t ++ rest) (sym reading.is) in
    inr (inl (subst (λ (l : List ℕ). 16777216 < length l) (sym is) (grind (arith, common_steps))))

-- the bytes before a byte of ASCII are a text if all are
text_before : (xs ys : List ℕ) (byte : ℕ) → byte < 128 → IsUtf8 (xs ++ byte ∷ ys) → IsUtf8 xs
text_before xs ys byte low all =
    let here : slice_index_or (xs ++ byte ∷ ys) (length xs) 0 ≡ byte = grind (arith, common_steps) in
    let inside : length xs ≤ length (xs ++ byte ∷ ys) = grind (arith, common_steps) in
    let seam : IsCharBoundary (xs ++ byte ∷ ys) (length xs) =
    (inside, λ lt high. absurd (let large : 128 ≤ byte = subst (λ (n : ℕ). 128 ≤ n) here high in omega (arith, large, low))) in
    subst IsUtf8 (take-append_seam xs (byte ∷ ys)) (IsUtf8-take (xs ++ byte ∷ ys) (length xs) all seam)

-- and those after it
text_after : (xs ys : List ℕ) (byte : ℕ) → byte < 128 → IsUtf8 (xs ++ byte ∷ ys) → IsUtf8 ys
text_after xs ys byte low all =
    let here : get_or (xs ++ byte ∷ ys) (length xs) 0 ≡ byte = grind (arith, common_steps) in
    let inside : length xs < length (xs ++ byte ∷ ys) = grind (arith, common_steps) in
    let seam : IsCharBoundary (xs ++ byte ∷ ys) (length xs + 1) =
    IsCharBoundary-after_ascii (xs ++ byte ∷ ys) (length xs) all inside (subst (λ (n : ℕ). n < 128) (sym here) low) in
    let rest : drop (length xs + 1) (xs ++ byte ∷ ys) ≡ ys = drop-append-add xs (byte ∷ ys) 1 in
    subst IsUtf8 rest (IsUtf8-drop (xs ++ byte ∷ ys) (length xs + 1) all seam)

-- a part is no text, and so neither is the input
pub part_no_text : (may_fail : Bool) (old now : Option (List ℕ)) (part : List ℕ) → ReadsPart old now part
    → (IsUtf8 part → ⊥) → IsUnread may_fail old
part_no_text may_fail None now part read not_text = inr tt
part_no_text may_fail (Some all) None part read not_text = absurd read.consumed
part_no_text may_fail (Some all) (Some rest) part read not_text =
    let is : all ≡ part ++ 37 ∷ (37 ∷ 10 ∷ rest) =
    read.consumed ∙ ap (λ (t : List ℕ). t ++ rest) (text_of-push read.lines (codes "%%"))
    ∙ append_assoc (text_of read.lines) (ended (codes "%%")) rest
    ∙ ap (λ (t : List ℕ). t ++ 37 ∷ (37 ∷ 10 ∷ rest)) (sym read.is) in
    inr (inr (λ text. not_text (text_before part (37 ∷ 10 ∷ rest) 37 (omega arith) (subst IsUtf8 is text))))

-- the input after a part is no input, and so neither is the whole
pub whole_unread : (may_fail : Bool) (old mid : Option (List ℕ)) (part : List ℕ) → ReadsPart old mid part
    → IsUnread may_fail mid → IsUnread may_fail old
whole_unread may_fail old mid part read (inl fails) = inl fails
whole_unread may_fail None mid part read (inr is) = inr tt
whole_unread may_fail (Some all) None part read (inr is) = absurd read.consumed
whole_unread may_fail (Some all) (Some rest) part read (inr (inl long)) =
    let whole : all ≡ text_of (read.lines ++ codes "%%" ∷ []) ++ rest = read.consumed in
    inr (inl (subst (λ (l : List ℕ). 16777216 < length l) (sym whole) (grind (arith, common_steps))))
whole_unread may_fail (Some all) (Some rest) part read (inr (inr not_text)) =
    let whole : all ≡ (text_of read.lines ++ codes "%%") ++ 10 ∷ rest =
    read.consumed ∙ ap (λ (t : List ℕ). t ++ rest) (text_of-push read.lines (codes "%%"))
    ∙ append_assoc (text_of read.lines) (ended (codes "%%")) rest
    ∙ sym (append_assoc (text_of read.lines) (codes "%%") (10 ∷ rest)) in
    inr (inr (λ text. not_text (text_after (text_of read.lines ++ codes "%%") rest 10 (omega arith) (subst IsUtf8 whole text))))
