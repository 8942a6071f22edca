-- That the command with which a subscriber requests its stream is read as it was meant, and which stream then starts:
-- PostgreSQL 15, 55.4. Streaming Replication Protocol (START_REPLICATION SLOT slot_name LOGICAL), 55.5.1. Logical
-- Streaming Replication Parameters, and 4.1.1. Identifiers and Key Words.
use Rattle.std.specs.Prelude.{◌≡◌, ◌<◌, ◌≤◌, ◌^◌, ℕ, max, List, [], ◌∷◌, All, length, map, slice_get, Some, None, codes}
use Rattle.filter_tree.specs.Expr.{Expr}
use Rattle.pub_catalog.specs.CatalogLimits.{IsLimited, IsPlainName}
use Rattle.pub_catalog.specs.CatalogNames.{IsNamedCatalog}
use Rattle.pub_catalog.specs.Catalogs.{CatalogOf}
use Rattle.pub_catalog.specs.declared.catalog.Subscription.{Subscription}
use Rattle.tables_log.specs.Lsn.{end_lsn_of}
use Rattle.tables_log.specs.Slots.{confirmed_at, start_fault}
use Rattle.tables_log.specs.declared.slots.Slot.{Slot}
use Rattle.copy_both.specs.CommandText.{command_of}
use Rattle.copy_both.specs.declared.start_command.OptionValue.TheVariants.{Version, Publications}
use Rattle.copy_both.specs.declared.start_command.StartCommand.{StartCommand}
use Rattle.copy_both.specs.Hearing.{ServedFrom, Begins, begin_of}
use Rattle.copy_both.specs.StartOrder.{find_slot}
use Rattle.test_subscriber.specs.StartQuery.{start_text}
use Rattle.stream_laws.specs.Ups.{Asks, start_of, up_frame}

-- a name of a slot or a publication has 1 to 63 bytes
pub record IsShortName (name : List ℕ) : Type 0 where
  pub some : 0 < length name
  pub short : length name ≤ 63

-- the stream of a slot at a position, in version 1 of the protocol, of the publications of these names
abbrev pub start_command : List ℕ → List (List ℕ) → ℕ → StartCommand
start_command slot names position = record {
  slot = slot;
  position = position;
  options = record { name = codes "proto_version"; value = Version }
      ∷ record { name = codes "publication_names"; value = Publications names } ∷ [];
}

-- Names may have any bytes, quotes and commas among them. There is at least one publication.
abbrev pub CommandsAreRead : Type 0
CommandsAreRead = (slot : List ℕ) (names : List (List ℕ)) (position : ℕ) → IsShortName slot → 0 < length names
    → All IsShortName names → position < 2 ^ 64
    → command_of (start_text slot names position) ≡ Some (start_command slot names position)

-- ---- the answer

-- The subscription with this number is found by its name, and its publications, at least one, are the catalog's.
pub record CanAsk (catalog : CatalogOf Expr) (subscriber : ℕ) (subscription : Subscription) : Type 0 where
  pub is_there : slice_get catalog.subscriptions subscriber ≡ Some subscription
  pub found : find_slot subscription.name catalog.subscriptions ≡ Some subscriber
  pub named : IsPlainName subscription.name
  pub some : 0 < length subscription.publications
  pub known : All (λ number. number < length catalog.publications) subscription.publications
  pub publications : All IsPlainName (map (λ p. p.name) catalog.publications)

-- If the slot is free and the log reaches the position, the stream starts there, or where the slot is confirmed if that
-- is later.
abbrev pub StartsAreAnswered : Type 0
StartsAreAnswered = (served : ServedFrom) (slots : List Slot) (subscriber position : ℕ) (subscription : Subscription)
    → CanAsk served.checked.catalog subscriber subscription
    → position < 2 ^ 64 → start_fault slots (end_lsn_of served.commits) subscriber position ≡ None
    → begin_of served slots (up_frame served.checked subscriber (Asks position)).kind
    (up_frame served.checked subscriber (Asks position)).body
    ≡ Begins subscriber (max position (confirmed_at slots subscriber))

-- ---- who can request a stream

-- it has a subscription, and its command fits a frame
pub record IsAsking (catalog : CatalogOf Expr) (subscriber : ℕ) : Type 0 where
  pub subscription : Subscription
  pub asks : CanAsk catalog subscriber subscription
  pub fits : (position : ℕ) → position < 2 ^ 64 → length (start_of catalog subscriber position) ≤ 65531

-- each subscriber of a catalog
abbrev pub SubscribersCanAsk : Type 0
SubscribersCanAsk = (catalog : CatalogOf Expr) (subscriber : ℕ) → IsLimited catalog → IsNamedCatalog catalog
    → subscriber < length catalog.subscriptions → IsAsking catalog subscriber
