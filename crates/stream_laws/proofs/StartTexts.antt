-- The text of a command that requests a stream is UTF-8 and has no zero byte, so that its Query carries all of it.
use Rattle.std.proofs.Common.{◌≡◌, ℕ, suc, ◌+◌, ◌/◌, ◌%◌, ◌^◌, ◌<◌, Bool, true, false, not, ◌&&◌, ◌==◌, List, [], ◌∷◌, ◌++◌, length, get_or, drop, Some, IsUtf8, refl, sym, ap, ◌∙◌, subst, arith, append_assoc, length-append, eqb-true}
use Rattle.std.specs.Prelude.{nat_lt, codes, All, Contains}
use Rattle.std.specs.Char.{is_ascii_hexdigit}
use Rattle.std.specs.Fmt.{digits}
use Rattle.std.specs.List.{flat_map, list_all, position_or_len}
use Rattle.std.proofs.lemmas.Bool.{and_parts}
use Rattle.std.proofs.lemmas.Bool.Decides.{nat_tests}
use Rattle.std.proofs.lemmas.List.{take_at}
use Rattle.std.proofs.lemmas.List.Elements.{All-head, All-tail}
use Rattle.std.proofs.lemmas.Str.{IsUtf8-append, IsUtf8-nil, IsUtf8-from_ascii, IsUtf8-take, IsUtf8-drop, IsCharBoundary-before_ascii, IsCharBoundary-after_ascii}
use Rattle.std.proofs.lemmas.Str.Ascii.{IsAscii-cons}
use Rattle.pub_catalog.specs.CatalogLimits.{IsPlainName}
use Rattle.sql_tokens.specs.Doubled.{doubled, in_quotes}
use Rattle.copy_both.proofs.Utf8Texts.{is_text}
use Rattle.copy_both.specs.StartAnswers.{text_of_query}
use Rattle.test_subscriber.specs.StartQuery.{lsn_text, names_text, start_text}
use Rattle.stream_laws.proofs.CommandPieces.{hex_digits}
use Rattle.filter_tree.proofs.Tests.{by_test}

abbrev is_clean : List ℕ → Bool
is_clean text = list_all (λ b. not (b == 0)) text

pub record IsQueryText (text : List ℕ) : Type 0 where
  pub clean : list_all (λ b. not (b == 0)) text ≡ true
  pub utf8 : IsUtf8 text

both_clean : (one other : List ℕ) → is_clean one ≡ true → is_clean other ≡ true → is_clean (one ++ other) ≡ true
both_clean [] other h k = k
both_clean (b ∷ one) other h k =
    let both = and_parts (not (b == 0)) (is_clean one) h in
    rw (both.0, both_clean one other both.1 k) refl

joined : (one other : List ℕ) → IsQueryText one → IsQueryText other → IsQueryText (one ++ other)
joined one other h k =
    record { clean = both_clean one other h.clean k.clean; utf8 = IsUtf8-append one other h.utf8 k.utf8 }

one_utf8 : (b : ℕ) → b < 128 → IsUtf8 (b ∷ [])
one_utf8 b small = IsUtf8-from_ascii (b ∷ []) (IsAscii-cons b [] small (λ i. omega arith))

abbrev is_plain : ℕ → Bool
is_plain b = nat_lt 0 b && nat_lt b 128

plain_clean : (b : ℕ) → is_plain b ≡ true → not (b == 0) ≡ true
plain_clean b e = grind (arith, nat_tests)

plain_small : (b : ℕ) → is_plain b ≡ true → b < 128
plain_small b e = grind (arith, nat_tests)

plain_text : (text : List ℕ) → list_all is_plain text ≡ true → IsQueryText text
plain_text [] e = record { clean = refl; utf8 = IsUtf8-nil }
plain_text (b ∷ text) e =
    let both = and_parts (is_plain b) (list_all is_plain text) e in
    let more = plain_text text both.1 in
    joined (b ∷ []) text (record { clean = rw (plain_clean b both.0) refl; utf8 = one_utf8 b (plain_small b both.0) })
    more

-- ---- between quotes

doubled_clean : (quote : ℕ) (text : List ℕ) → not (quote == 0) ≡ true → is_clean text ≡ true
    → is_clean (doubled quote text) ≡ true
doubled_clean quote [] some e = refl
doubled_clean quote (b ∷ text) some e =
    let both = and_parts (not (b == 0)) (is_clean text) e in
    let more = doubled_clean quote text some both.1 in
    by_test (b == quote)
    (λ same. rw (same, some, more) refl)
    (λ other. rw (other, both.0, more) refl)

-- a quote in a text is at a place where the text may be cut
doubled_utf8 : (quote : ℕ) (text part : List ℕ) → quote < 128 → IsUtf8 (part ++ text)
    → IsUtf8 (part ++ doubled quote text)
doubled_utf8 quote [] part small utf8 = utf8
doubled_utf8 quote (b ∷ text) part small utf8 =
    by_test (b == quote)
    (λ same. let at : get_or (part ++ (b ∷ text)) (length part) 0 ≡ b = here part b text in
    let is : b ≡ quote = eqb-true b quote same in
    let long : length (part ++ (b ∷ text)) ≡ length part + suc (length text) = length-append part (b ∷ text) in
    let low : get_or (part ++ (b ∷ text)) (length part) 0 < 128 = omega (arith, at, is, small) in
    let front = subst IsUtf8 (take_at part (b ∷ text) (length part) refl)
    (IsUtf8-take (part ++ (b ∷ text)) (length part) utf8
    (IsCharBoundary-before_ascii (part ++ (b ∷ text)) (length part) (omega (arith, long)) low)) in
    let rest = subst IsUtf8 (past part b text)
    (IsUtf8-drop (part ++ (b ∷ text)) (length part + 1) utf8
    (IsCharBoundary-after_ascii (part ++ (b ∷ text)) (length part) utf8 (omega (arith, long)) low)) in
    rw same (IsUtf8-append part (quote ∷ quote ∷ doubled quote text) front
    (IsUtf8-append (quote ∷ []) (quote ∷ doubled quote text) (one_utf8 quote small)
    (IsUtf8-append (quote ∷ []) (doubled quote text) (one_utf8 quote small)
    (doubled_utf8 quote text [] small rest)))))
    (λ other. rw other (subst IsUtf8 (append_assoc part (b ∷ []) (doubled quote text))
    (doubled_utf8 quote text (part ++ b ∷ []) small (subst IsUtf8 (sym (append_assoc part (b ∷ []) text)) utf8))))
  where
    here : (part : List ℕ) (b : ℕ) (text : List ℕ) → get_or (part ++ (b ∷ text)) (length part) 0 ≡ b
    here [] b text = refl
    here (c ∷ part) b text = here part b text

    past_suc : (part : List ℕ) (b : ℕ) (text : List ℕ) → drop (suc (length part)) (part ++ (b ∷ text)) ≡ text
    past_suc [] b text = refl
    past_suc (c ∷ part) b text = past_suc part b text

    past : (part : List ℕ) (b : ℕ) (text : List ℕ) → drop (length part + 1) (part ++ (b ∷ text)) ≡ text
    past part b text = let next : length part + 1 ≡ suc (length part) = omega arith in
        ap (λ n. drop n (part ++ (b ∷ text))) next ∙ past_suc part b text

quoted_text : (quote : ℕ) (text : List ℕ) → is_plain quote ≡ true → IsQueryText text
    → IsQueryText (in_quotes quote text)
quoted_text quote text plain h =
    let mark = plain_text (quote ∷ []) (rw plain refl) in
    let inner : IsQueryText (doubled quote text) =
    record {
      clean = doubled_clean quote text (plain_clean quote plain) h.clean;
      utf8 =
          doubled_utf8 quote text [] (plain_small quote plain) h.utf8;
    } in
    joined (quote ∷ []) (doubled quote text ++ (quote ∷ [])) mark (joined (doubled quote text) (quote ∷ []) inner mark)

-- ---- names and places

name_clean : (name : List ℕ) → ¬ Contains name 0 → is_clean name ≡ true
name_clean [] clean = refl
name_clean (b ∷ name) clean =
    let first : b == 0 ≡ false = by_test (b == 0) (λ e. absurd (clean (0, omega arith, eqb-true b 0 e))) (λ e. e) in
    rw (first, name_clean name (λ found. clean (suc found.0, omega (arith, found.1), found.2))) refl

name_text : (name : List ℕ) → IsPlainName name → IsQueryText name
name_text name is = record { clean = name_clean name is.no_zero; utf8 = is.utf8 }

later_text : (names : List (List ℕ)) → All IsPlainName names
    → IsQueryText (flat_map (λ name. codes "," ++ in_quotes 34 name) names)
later_text [] all = record { clean = refl; utf8 = IsUtf8-nil }
later_text (name ∷ names) all =
    joined (44 ∷ in_quotes 34 name) (flat_map (λ name. codes "," ++ in_quotes 34 name) names)
    (joined (44 ∷ []) (in_quotes 34 name) (plain_text (44 ∷ []) refl)
    (quoted_text 34 name refl (name_text name (All-head IsPlainName name names all))))
    (later_text names (All-tail IsPlainName name names all))

all_names : (names : List (List ℕ)) → All IsPlainName names → IsQueryText (names_text names)
all_names [] all = record { clean = refl; utf8 = IsUtf8-nil }
all_names (name ∷ names) all =
    joined (in_quotes 34 name) (flat_map (λ name. codes "," ++ in_quotes 34 name) names)
    (quoted_text 34 name refl (name_text name (All-head IsPlainName name names all)))
    (later_text names (All-tail IsPlainName name names all))

hex_plain : (written : List ℕ) → list_all is_ascii_hexdigit written ≡ true → list_all is_plain written ≡ true
hex_plain [] e = refl
hex_plain (d ∷ written) e =
    let both = and_parts (is_ascii_hexdigit d) (list_all is_ascii_hexdigit written) e in
    let first : is_plain d ≡ true = hex_byte d both.0 in
    rw (first, hex_plain written both.1) refl
  where
    hex_byte : (d : ℕ) → is_ascii_hexdigit d ≡ true → is_plain d ≡ true
    hex_byte d e = grind (arith, nat_tests)

place_text : (position : ℕ) → position < 2 ^ 64 → IsQueryText (lsn_text position)
place_text position small =
    let high = plain_text (digits 16 true (position / 2 ^ 32))
    (hex_plain (digits 16 true (position / 2 ^ 32)) (hex_digits (position / 2 ^ 32) (omega (arith, small)))) in
    let low = plain_text (digits 16 true (position % 2 ^ 32))
    (hex_plain (digits 16 true (position % 2 ^ 32)) (hex_digits (position % 2 ^ 32) (omega arith))) in
    joined (digits 16 true (position / 2 ^ 32)) (47 ∷ digits 16 true (position % 2 ^ 32)) high
    (joined (47 ∷ []) (digits 16 true (position % 2 ^ 32)) (plain_text (47 ∷ []) refl) low)

pub start_is_text : (slot : List ℕ) (names : List (List ℕ)) (position : ℕ) → IsPlainName slot → All IsPlainName names
    → position < 2 ^ 64 → IsQueryText (start_text slot names position)
start_is_text slot names position named all small =
    joined (codes "START_REPLICATION SLOT ") _ (plain_text (codes "START_REPLICATION SLOT ") refl)
    (joined (in_quotes 34 slot) _ (quoted_text 34 slot refl (name_text slot named))
    (joined (codes " LOGICAL ") _ (plain_text (codes " LOGICAL ") refl)
    (joined (lsn_text position) _ (place_text position small)
    (joined (codes " (proto_version '1', publication_names ") _
    (plain_text (codes " (proto_version '1', publication_names ") refl)
    (joined (in_quotes 39 (names_text names)) (codes ")")
    (quoted_text 39 (names_text names) refl (all_names names all)) (plain_text (codes ")") refl))))))

-- ---- the Query

zero_at : (text : List ℕ) → is_clean text ≡ true → position_or_len (λ b. b == 0) (text ++ (0 ∷ [])) ≡ length text
zero_at [] e = refl
zero_at (b ∷ text) e =
    let both = and_parts (not (b == 0)) (is_clean text) e in
    rw (both.0, zero_at text both.1) (omega arith)

pub query_text : (text : List ℕ) → IsQueryText text → text_of_query (text ++ (0 ∷ [])) ≡ Some text
query_text text is =
    let long : length (text ++ (0 ∷ [])) ≡ length text + 1 = length-append text (0 ∷ []) in
    let within : nat_lt (length text) (length text + 1) ≡ true = grind (arith, nat_tests) in
    let same : length text + 1 == length text + 1 ≡ true = grind (arith, nat_tests) in
    rw (zero_at text is.clean, long, within, long, same, take_at text (0 ∷ []) (length text) refl)
    (is_text text is.utf8)
