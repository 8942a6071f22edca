-- The command with which a subscriber of a catalog requests its stream fits a frame: names are short, and there are few
-- of them.
use Rattle.std.proofs.Common.{◌≡◌, ℕ, zero, suc, ◌+◌, ◌*◌, ◌/◌, ◌%◌, ◌^◌, ◌<◌, ◌≤◌, ◌==◌, true, List, [], ◌∷◌, ◌++◌, All, length, map, refl, arith, length-append}
use Rattle.std.specs.Prelude.{codes, slice_get, Option, Some, None}
use Rattle.std.specs.Fmt.{digits}
use Rattle.std.specs.List.{flat_map}
use Rattle.std.proofs.lemmas.List.{length-map}
use Rattle.std.proofs.lemmas.List.Elements.{All-head, All-tail}
use Rattle.filter_tree.specs.Expr.{Expr}
use Rattle.pub_catalog.specs.CatalogLimits.{IsLimited, IsPlainName}
use Rattle.pub_catalog.specs.CatalogNames.{IsNamedCatalog}
use Rattle.pub_catalog.specs.Catalogs.{CatalogOf}
use Rattle.pub_catalog.specs.declared.catalog.Subscription.{Subscription}
use Rattle.sql_tokens.specs.Doubled.{doubled, in_quotes}
use Rattle.test_subscriber.specs.StartQuery.{lsn_text, names_text, start_text}
use Rattle.stream_laws.specs.Asking.{CanAsk, IsAsking, SubscribersCanAsk}
use Rattle.stream_laws.specs.Ups.{publication_name, start_of}
use Rattle.stream_laws.proofs.CommandPieces.{digits_short}
use Rattle.stream_laws.proofs.NamedLemmas.{can_ask, few_taken, its_taken}
use Rattle.stream_laws.proofs.StartAnswered.{names_are_plain}
use Rattle.filter_tree.proofs.Tests.{by_test}

-- ---- between quotes

doubled_short : (quote : ℕ) (text : List ℕ) → length (doubled quote text) ≤ 2 * length text
doubled_short quote [] = omega arith
doubled_short quote (b ∷ text) =
    let more = doubled_short quote text in
    by_test (b == quote) (λ same. rw same (omega (arith, more))) (λ other. rw other (omega (arith, more)))

quoted_short : (quote : ℕ) (text : List ℕ) → length (in_quotes quote text) ≤ 2 * length text + 2
quoted_short quote text = omega (arith, doubled_short quote text, length-append (doubled quote text) (quote ∷ []))

-- ---- names

later_short : (names : List (List ℕ)) → All IsPlainName names
    → length (flat_map (λ name. codes "," ++ in_quotes 34 name) names) ≤ 129 * length names
later_short [] all = omega arith
later_short (name ∷ names) all =
    let more = later_short names (All-tail IsPlainName name names all) in
    let plain = All-head IsPlainName name names all in
    let split = length-append (44 ∷ in_quotes 34 name) (flat_map (λ name. codes "," ++ in_quotes 34 name) names) in
    omega (arith, more, split, quoted_short 34 name, plain.short)

names_short : (names : List (List ℕ)) → All IsPlainName names → length (names_text names) ≤ 129 * length names
names_short [] all = omega arith
names_short (name ∷ names) all =
    let more = later_short names (All-tail IsPlainName name names all) in
    let plain = All-head IsPlainName name names all in
    let split = length-append (in_quotes 34 name) (flat_map (λ name. codes "," ++ in_quotes 34 name) names) in
    omega (arith, more, split, quoted_short 34 name, plain.short)

-- ---- the command

place_short : (position : ℕ) → position < 2 ^ 64 → length (lsn_text position) ≤ 17
place_short position small =
    let high = digits_short (position / 2 ^ 32) (omega (arith, small)) in
    let low = digits_short (position % 2 ^ 32) (omega arith) in
    let split = length-append (digits 16 true (position / 2 ^ 32)) (47 ∷ digits 16 true (position % 2 ^ 32)) in
    omega (arith, high, low, split)

start_short : (slot : List ℕ) (names : List (List ℕ)) (position : ℕ) → length slot ≤ 63 → All IsPlainName names
    → length names ≤ 64 → position < 2 ^ 64
    → length (start_text slot names position) ≤ 65531
start_short slot names position short all few small =
    let end = in_quotes 39 (names_text names) ++ codes ")" in
    let fifth = length-append (in_quotes 39 (names_text names)) (codes ")") in
    let fourth = length-append (codes " (proto_version '1', publication_names ") end in
    let third = length-append (lsn_text position) (codes " (proto_version '1', publication_names " ++ end) in
    let second = length-append (codes " LOGICAL ")
    (lsn_text position ++ (codes " (proto_version '1', publication_names " ++ end)) in
    let first = length-append (in_quotes 34 slot)
    (codes " LOGICAL " ++ (lsn_text position ++ (codes " (proto_version '1', publication_names " ++ end))) in
    let whole = length-append (codes "START_REPLICATION SLOT ")
    (in_quotes 34 slot ++
    (codes " LOGICAL " ++ (lsn_text position ++ (codes " (proto_version '1', publication_names " ++ end)))) in
    omega (
      arith,
      whole,
      first,
      second,
      third,
      fourth,
      fifth,
      quoted_short 34 slot,
      quoted_short 39 (names_text names),
      names_short names all,
      few,
      place_short position small,
      short,
    )

start_fits : (catalog : CatalogOf Expr) (subscriber position : ℕ) (subscription : Subscription) → IsLimited catalog
    → IsNamedCatalog catalog
    → CanAsk catalog subscriber subscription → position < 2 ^ 64 → length (start_of catalog subscriber position) ≤ 65531
start_fits catalog subscriber position subscription limited named can small =
    let names = map (λ number. publication_name (slice_get catalog.publications number)) subscription.publications in
    let taken = few_taken (length catalog.publications) subscription.publications
    (its_taken catalog named subscriber subscription can.is_there) in
    let few : length names ≤ 64 =
    omega (
      arith,
      taken,
      limited.publications,
      length-map subscription.publications (λ number. publication_name (slice_get catalog.publications number)),
    ) in
    let fits = start_short subscription.name names position can.named.short
    (names_are_plain catalog.publications subscription.publications can.known can.publications) few small in
    rw can.is_there fits

-- ---- each subscriber

none_past : (subscriptions : List Subscription) (number : ℕ) → slice_get subscriptions number ≡ None
    → length subscriptions ≤ number
none_past [] number e = omega arith
none_past (subscription ∷ subscriptions) zero e = absurd cc
none_past (subscription ∷ subscriptions) (suc number) e = omega (arith, none_past subscriptions number e)

pub subscribers_can_ask : SubscribersCanAsk
subscribers_can_ask catalog subscriber limited named within = by_found (slice_get catalog.subscriptions subscriber) refl
  where
    by_found : (found : Option Subscription) → slice_get catalog.subscriptions subscriber ≡ found
        → IsAsking catalog subscriber
    by_found None e = absurd (omega (arith, none_past catalog.subscriptions subscriber e, within))
    by_found (Some subscription) e =
        let can = can_ask catalog named subscriber subscription e in
        record {
          subscription = subscription;
          asks = can;
          fits =
              λ position small. start_fits catalog subscriber position subscription limited named can small;
        }
