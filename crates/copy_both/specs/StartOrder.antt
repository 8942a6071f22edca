-- Whether a stream is started from a slot: the first refusal, in their order, of what a start command requests ("55.4.
-- Streaming Replication Protocol", "55.5. Logical Streaming Replication Protocol"). The order is this project's own.
use Rattle.std.specs.Prelude.{ℕ, Bool, true, false, not, ◌&&◌, ◌||◌, if◌then◌else◌, nat_lt, List, [], ◌∷◌, ◌++◌, map, position, Option, Some, None, codes, slice_get, unwrap_or}
use Rattle.std.specs.List.{list_any, list_all}
use Rattle.std.specs.Str.{bytes_eq}
use Rattle.pub_catalog.specs.declared.catalog.Subscription.{Subscription}
use Rattle.copy_both.specs.declared.start_command.OptionValue.{OptionValue}
use Rattle.copy_both.specs.declared.start_command.OptionValue.TheVariants.{Wrong, Unsupported, Version, Publications, Off}
use Rattle.copy_both.specs.declared.start_command.StartCommand.{StartCommand}
use Rattle.copy_both.specs.declared.start_command.StartOption.{StartOption}
use Rattle.copy_both.specs.declared.start_order.Offer.{Offer}
use Rattle.tables_log.specs.declared.error.StartError.{StartError}
use Rattle.tables_log.specs.declared.error.StartError.TheVariants as error
use Rattle.copy_both.specs.Refusals.{RefusalOf, NoSlot, WrongOption, UnsupportedOption, MissingOption, NoPublication, OtherPublications, Ahead, InUse}

-- what a start is checked against: the names of the publications, the subscriptions, each with the slot of its name,
-- where the log ends, and which slots are in use
pub record OfferOf : Type 0 where
  pub publications : List (List ℕ)
  pub subscriptions : List Subscription
  pub log_end : ℕ
  pub in_use : List Bool

abbrev pub offer_view : Offer → OfferOf
offer_view offer =
    record {
      publications = map (λ p. p.name) offer.publications.now;
      subscriptions =
          offer.subscriptions.now;
      log_end = offer.log_end;
      in_use = offer.in_use.now;
    }

-- the first refusal, or the next ones
abbrev pub or_else : Option RefusalOf → Option RefusalOf → Option RefusalOf
or_else (Some refusal) later = Some refusal
or_else None later = later

abbrev pub refused : Bool → RefusalOf → Option RefusalOf
refused true refusal = Some refusal
refused false refusal = None

-- ---- options

abbrev pub is_wrong : OptionValue → Bool
is_wrong Wrong = true
is_wrong Unsupported = false
is_wrong Version = false
is_wrong (Publications names) = false
is_wrong Off = false

abbrev pub is_unsupported : OptionValue → Bool
is_unsupported Wrong = false
is_unsupported Unsupported = true
is_unsupported Version = false
is_unsupported (Publications names) = false
is_unsupported Off = false

abbrev pub is_version : OptionValue → Bool
is_version Wrong = false
is_version Unsupported = false
is_version Version = true
is_version (Publications names) = false
is_version Off = false

abbrev pub has_publications : OptionValue → Bool
has_publications Wrong = false
has_publications Unsupported = false
has_publications Version = false
has_publications (Publications names) = true
has_publications Off = false

-- an option with this name
abbrev pub is_named : List ℕ → StartOption → Bool
is_named name option = bytes_eq option.name name

-- an option is unknown, given twice or has a bad value, or it requests what is not supported
abbrev pub option_refusal : List StartOption → StartOption → Option RefusalOf
option_refusal earlier option =
    or_else (refused (is_wrong option.value || list_any (is_named option.name) earlier) (WrongOption option.name))
    (refused (is_unsupported option.value) (UnsupportedOption option.name))

-- the first of the options that come after these
abbrev pub options_refusal : List StartOption → List StartOption → Option RefusalOf
options_refusal earlier [] = None
options_refusal earlier (option ∷ later) =
    or_else (option_refusal earlier option) (options_refusal (earlier ++ option ∷ []) later)

-- both are required
abbrev pub missing_refusal : List StartOption → Option RefusalOf
missing_refusal options =
    or_else (refused (not (list_any (λ option. is_version option.value) options))
    (MissingOption (codes "proto_version")))
    (refused (not (list_any (λ option. has_publications option.value) options))
    (MissingOption (codes "publication_names")))

-- ---- publications

abbrev pub names_of : OptionValue → List (List ℕ)
names_of Wrong = []
names_of Unsupported = []
names_of Version = []
names_of (Publications names) = names
names_of Off = []

-- the names that the first such option gives
abbrev pub names_in : List StartOption → List (List ℕ)
names_in [] = []
names_in (option ∷ options) = if has_publications option.value then names_of option.value else names_in options

abbrev pub unknown_refusal : List (List ℕ) → List (List ℕ) → Option RefusalOf
unknown_refusal known [] = None
unknown_refusal known (name ∷ names) =
    or_else (refused (not (list_any (bytes_eq name) known)) (NoPublication name)) (unknown_refusal known names)

abbrev pub is_this : List ℕ → Option (List ℕ) → Bool
is_this name None = false
is_this name (Some other) = bytes_eq name other

-- the publication with this number has this name
abbrev pub is_called : List (List ℕ) → List ℕ → ℕ → Bool
is_called known name number = is_this name (slice_get known number)

-- the publications with these numbers are those of these names, as sets
abbrev pub same_publications : List (List ℕ) → List (List ℕ) → List ℕ → Bool
same_publications known names numbers =
    list_all (λ name. list_any (is_called known name) numbers) names
    && list_all (λ number. list_any (λ name. is_called known name number) names) numbers

-- ---- the slot

abbrev pub is_in_use : List Bool → ℕ → Bool
is_in_use in_use slot = unwrap_or (slice_get in_use slot) false

-- the refusals of a command, if the slot is that of the subscription with this number
abbrev pub slot_refusal : OfferOf → StartCommand → ℕ → List ℕ → Option RefusalOf
slot_refusal offer command slot taken =
    or_else (options_refusal [] command.options)
    (or_else (missing_refusal command.options)
    (or_else (unknown_refusal offer.publications (names_in command.options))
    (or_else (refused (not (same_publications offer.publications (names_in command.options) taken))
    (OtherPublications command.slot))
    (or_else (refused (nat_lt offer.log_end command.position) Ahead)
    (refused (is_in_use offer.in_use slot) (InUse command.slot))))))

-- the number of the subscription with this name
abbrev pub find_slot : List ℕ → List Subscription → Option ℕ
find_slot name subscriptions = position (λ subscription. bytes_eq name subscription.name) subscriptions

abbrev pub publications_of : Option Subscription → List ℕ
publications_of None = []
publications_of (Some subscription) = subscription.publications

abbrev pub publications_at : List Subscription → ℕ → List ℕ
publications_at subscriptions slot = publications_of (slice_get subscriptions slot)

abbrev pub refusal_at : OfferOf → StartCommand → Option ℕ → Option RefusalOf
refusal_at offer command None = Some (NoSlot command.slot)
refusal_at offer command (Some slot) = slot_refusal offer command slot (publications_at offer.subscriptions slot)

-- the first refusal of a start
abbrev pub start_refusal : OfferOf → StartCommand → Option RefusalOf
start_refusal offer command = refusal_at offer command (find_slot command.slot offer.subscriptions)

-- ---- what a book refuses

abbrev pub name_or_empty : Option Subscription → List ℕ
name_or_empty None = []
name_or_empty (Some subscription) = subscription.name

-- the name of the slot with this number
abbrev pub slot_name : List Subscription → ℕ → List ℕ
slot_name subscriptions slot = name_or_empty (slice_get subscriptions slot)

-- why a book does not start a stream from the slot of this name
abbrev pub book_refusal : List ℕ → StartError → RefusalOf
book_refusal name error.NoSlot = NoSlot name
book_refusal name error.Ahead = Ahead
book_refusal name error.InUse = InUse name
