-- A start that a subscriber requests is not refused, and which stream it starts.
use Rattle.std.proofs.Common.{◌≡◌, ℕ, zero, suc, ◌^◌, ◌<◌, Bool, true, false, ◌||◌, List, [], ◌∷◌, ◌++◌, length, Option, Some, None, refl, sym, ap, ◌∙◌, arith, append_assoc}
use Rattle.std.specs.Prelude.{map, max, nat_lt, slice_get, All}
use Rattle.std.specs.List.{list_all, list_any}
use Rattle.std.specs.Str.{bytes_eq}
use Rattle.std.proofs.lemmas.List.{length-map}
use Rattle.std.proofs.lemmas.List.Elements.{All-nil, All-cons, All-head, All-tail}
use Rattle.filter_tree.specs.Expr.{Expr}
use Rattle.pub_catalog.specs.CatalogLimits.{IsPlainName}
use Rattle.pub_catalog.specs.Catalogs.{PublicationOf}
use Rattle.pub_catalog.specs.declared.catalog.Subscription.{Subscription}
use Rattle.tables_log.specs.Lsn.{end_lsn_of}
use Rattle.tables_log.specs.Slots.{confirmed_at, slot_fault, start_fault}
use Rattle.tables_log.specs.declared.slots.Slot.{Slot}
use Rattle.copy_both.specs.CommandText.{command_of}
use Rattle.copy_both.specs.Hearing.{ServedFrom, Begins, offer_in, unless_fault, begin_by, begin_of}
use Rattle.copy_both.specs.StartAnswers.{Stream, asked_in, asked_by_command, asked_at, unless_refused, asked_of}
use Rattle.copy_both.specs.StartOrder.{is_called, unknown_refusal, same_publications, slot_name, slot_refusal, publications_of}
use Rattle.test_subscriber.specs.StartQuery.{start_text}
use Rattle.stream_laws.specs.Asking.{IsShortName, CanAsk, start_command, StartsAreAnswered}
use Rattle.stream_laws.specs.Ups.{publication_name, publications_taken, subscription_name}
use Rattle.stream_laws.proofs.CommandReading.{commands_are_read}
use Rattle.stream_laws.proofs.StartTexts.{start_is_text, query_text}
use Rattle.std.proofs.lemmas.Bool.{eq-eqb}
use Rattle.filter_tree.proofs.Tests.{by_test}

or_true : (b : Bool) → b || true ≡ true
or_true true = refl
or_true false = refl

same_bytes : (bytes : List ℕ) → bytes_eq bytes bytes ≡ true
same_bytes [] = refl
same_bytes (b ∷ bytes) = rw (eq-eqb b b refl, same_bytes bytes) refl

any_at : {X : Type 0} (p : X → Bool) (before : List X) (x : X) (after : List X) → p x ≡ true
    → list_any p (before ++ (x ∷ after)) ≡ true
any_at p [] x after e = rw e refl
any_at p (y ∷ before) x after e = rw (any_at p before x after e) (or_true (p y))

-- ---- the publications' names

module _ (publications : List (PublicationOf Expr)) where
  abbrev known : List (List ℕ)
  known = map (λ p. p.name) publications

  abbrev called : ℕ → List ℕ
  called number = publication_name (slice_get publications number)

  abbrev IsKnown : ℕ → Type 0
  IsKnown number = number < length publications

name_at : (publications : List (PublicationOf Expr)) (number : ℕ) → number < length publications
    → slice_get (known publications) number ≡ Some (called publications number)
name_at [] number less = absurd (omega (arith, less))
name_at (p ∷ publications) zero less = refl
name_at (p ∷ publications) (suc number) less = name_at publications number (omega (arith, less))

name_known : (publications : List (PublicationOf Expr)) (number : ℕ) → number < length publications
    → list_any (bytes_eq (called publications number)) (known publications) ≡ true
name_known [] number less = absurd (omega (arith, less))
name_known (p ∷ publications) zero less = rw (same_bytes p.name) refl
name_known (p ∷ publications) (suc number) less =
    rw (name_known publications number (omega (arith, less))) (or_true (bytes_eq (called publications number) p.name))

name_is_plain : (publications : List (PublicationOf Expr)) (number : ℕ) → number < length publications
    → All IsPlainName (known publications) → IsPlainName (called publications number)
name_is_plain [] number less all = absurd (omega (arith, less))
name_is_plain (p ∷ publications) zero less all = All-head IsPlainName p.name (known publications) all
name_is_plain (p ∷ publications) (suc number) less all =
    name_is_plain publications number (omega (arith, less)) (All-tail IsPlainName p.name (known publications) all)

module _ (publications : List (PublicationOf Expr)) where
  pub names_are_plain : (numbers : List ℕ) → All (IsKnown publications) numbers → All IsPlainName (known publications)
      → All IsPlainName (map (called publications) numbers)
  names_are_plain [] all texts = All-nil IsPlainName
  names_are_plain (number ∷ numbers) all texts =
      All-cons IsPlainName (called publications number) (map (called publications) numbers)
      (name_is_plain publications number (All-head (IsKnown publications) number numbers all) texts)
      (names_are_plain numbers (All-tail (IsKnown publications) number numbers all) texts)

  names_known : (numbers : List ℕ) → All (IsKnown publications) numbers
      → unknown_refusal (known publications) (map (called publications) numbers) ≡ None
  names_known [] all = refl
  names_known (number ∷ numbers) all =
      rw (
        name_known publications number (All-head (IsKnown publications) number numbers all),
        names_known numbers (All-tail (IsKnown publications) number numbers all),
      ) refl

  is_its_name : (number : ℕ) → IsKnown publications number
      → is_called (known publications) (called publications number) number ≡ true
  is_its_name number less = rw (name_at publications number less) (same_bytes (called publications number))

  each_name : (before after : List ℕ) → All (IsKnown publications) after
      → list_all (λ name. list_any (is_called (known publications) name) (before ++ after))
      (map (called publications) after) ≡ true
  each_name before [] all = refl
  each_name before (number ∷ after) all =
      let first = any_at (is_called (known publications) (called publications number)) before number after
      (is_its_name number (All-head (IsKnown publications) number after all)) in
      let more = ap (λ numbers. list_all (λ name. list_any (is_called (known publications) name) numbers)
      (map (called publications) after)) (sym (append_assoc before (number ∷ []) after))
      ∙ each_name (before ++ number ∷ []) after (All-tail (IsKnown publications) number after all) in
      rw (first, more) refl

  any_name : (before after : List ℕ) (number : ℕ) → IsKnown publications number
      → list_any (λ name. is_called (known publications) name number)
      (map (called publications) (before ++ (number ∷ after))) ≡ true
  any_name [] after number less = rw (is_its_name number less) refl
  any_name (other ∷ before) after number less =
      rw (any_name before after number less)
      (or_true (is_called (known publications) (called publications other) number))

  each_number : (before after : List ℕ) → All (IsKnown publications) after
      → list_all (λ number. list_any (λ name. is_called (known publications) name number)
      (map (called publications) (before ++ after))) after ≡ true
  each_number before [] all = refl
  each_number before (number ∷ after) all =
      let first = any_name before after number (All-head (IsKnown publications) number after all) in
      let more = ap (λ numbers. list_all
      (λ number. list_any (λ name. is_called (known publications) name number)
      (map (called publications) numbers)) after) (sym (append_assoc before (number ∷ []) after))
      ∙ each_number (before ++ number ∷ []) after (All-tail (IsKnown publications) number after all) in
      rw (first, more) refl

  names_same : (numbers : List ℕ) → All (IsKnown publications) numbers
      → same_publications (known publications) (map (called publications) numbers) numbers ≡ true
  names_same numbers all = rw (each_name [] numbers all, each_number [] numbers all) refl

-- ---- no refusal

short_name : (name : List ℕ) → IsPlainName name → IsShortName name
short_name name is = record { some = is.some; short = is.short }

all_short : (names : List (List ℕ)) → All IsPlainName names → All IsShortName names
all_short [] all = All-nil IsShortName
all_short (name ∷ names) all =
    All-cons IsShortName name names (short_name name (All-head IsPlainName name names all))
    (all_short names (All-tail IsPlainName name names all))

not_ahead : (slot : Option Slot) (end position : ℕ) → slot_fault slot end position ≡ None → nat_lt end position ≡ false
not_ahead None end position e = absurd cc
not_ahead (Some slot) end position e =
    by_test (nat_lt end position) (λ ahead. absurd (let fault = rw ahead at e in cc)) (λ reached. reached)

module _ (served : ServedFrom) (slots : List Slot) (subscriber position : ℕ) (subscription : Subscription)
    (can : CanAsk served.checked.catalog subscriber subscription)
    (small : position < 2 ^ 64) (free : start_fault slots (end_lsn_of served.commits) subscriber position ≡ None) where
  abbrev names : List (List ℕ)
  names = map (called served.checked.catalog.publications) subscription.publications

  abbrev text : List ℕ
  text = start_text subscription.name names position

  not_refused : slot_refusal (offer_in served) (start_command subscription.name names position) subscriber
      subscription.publications ≡ None
  not_refused =
      rw (
        names_known served.checked.catalog.publications subscription.publications can.known,
        names_same served.checked.catalog.publications subscription.publications can.known,
        not_ahead (slice_get slots subscriber) (end_lsn_of served.commits) position free,
      ) refl

  plain : All IsPlainName names
  plain = names_are_plain served.checked.catalog.publications subscription.publications can.known can.publications

  some : 0 < length names
  some = omega (arith, length-map subscription.publications (called served.checked.catalog.publications), can.some)

  reads : command_of text ≡ Some (start_command subscription.name names position)
  reads = commands_are_read subscription.name names position (short_name subscription.name can.named) some
      (all_short names plain) small

  is_asked : asked_of (offer_in served) 81 (text ++ (0 ∷ [])) ≡ Stream subscriber position
  unfolding asked_of
  is_asked =
      ap (asked_in (offer_in served))
      (query_text text (start_is_text subscription.name names position can.named plain small))
      ∙ ap (asked_by_command (offer_in served)) reads
      ∙ ap (asked_at (offer_in served) (start_command subscription.name names position)) can.found
      ∙ ap (λ its. unless_refused
      (slot_refusal (offer_in served) (start_command subscription.name names position) subscriber its) subscriber
      position)
      (ap publications_of can.is_there)
      ∙ ap (λ refusal. unless_refused refusal subscriber position) not_refused

  begins : begin_of served slots 81 (text ++ (0 ∷ []))
      ≡ Begins subscriber (max position (confirmed_at slots subscriber))
  unfolding begin_of
  begins =
      ap (begin_by served slots) is_asked
      ∙ ap (λ fault. unless_fault fault subscriber (max position (confirmed_at slots subscriber))
      (slot_name served.checked.catalog.subscriptions subscriber)) free

pub starts_are_answered : StartsAreAnswered
starts_are_answered served slots subscriber position subscription can small free =
    ap (λ found. begin_of served slots 81
    (start_text (subscription_name found)
    (map (called served.checked.catalog.publications) (publications_taken found)) position ++ (0 ∷ [])))
    can.is_there
    ∙ begins served slots subscriber position subscription can small free
