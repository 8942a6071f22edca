-- That a subscriber follows its stream however the bytes are cut into pieces, and from its first connection across all
-- others: PostgreSQL 15, 31.2. Subscription, 55.4. Streaming Replication Protocol, and 55.7. Message Formats.
use Rattle.std.specs.Prelude.{◌≡◌, ℕ, List, [], ◌++◌, All, length, None}
use Rattle.shard_checker.specs.CheckedView.{CheckedOf}
use Rattle.tables_log.specs.StandsFor.{Transaction}
use Rattle.copy_both.specs.Streams.{StreamItem, Move, stream}
use Rattle.copy_both.specs.Tellings.{telling_of}
use Rattle.copy_frames.specs.Frames.{cut}
use Rattle.test_subscriber.specs.Copies.{sub_fault}
use Rattle.test_subscriber.specs.Feeding.{limit}
use Rattle.test_subscriber.specs.Frames.{MachineHeard, hear_cut}
use Rattle.test_subscriber.specs.Machine.{Machine, opened}
use Rattle.test_subscriber.specs.Subscribers.{sub_machine, first_machine, Loses, Opens, Feeds, FeedStops}
use Rattle.test_subscriber.specs.declared.fault.SubFault.{SubFault}
use Rattle.test_subscriber.specs.declared.subscriber.Subscriber.{Subscriber}
use Rattle.stream_laws.specs.Cutting.{whole_in}
use Rattle.stream_laws.specs.Following.{position_after, Follows, IsPublished, log_of, items_from, IsSentItem}

-- these are the first bytes of the stream
abbrev pub AreFirst : CheckedOf → List Transaction → ℕ → ℕ → List Move → List ℕ → List ℕ → Type 0
AreFirst checked transactions subscriber position moves bytes others =
    bytes ++ others ≡ stream (telling_of checked) (log_of checked transactions) subscriber
    (length checked.catalog.tables) position moves

-- the position after the items whose frames are whole in this number of bytes
abbrev pub position_after_bytes : CheckedOf → List Transaction → ℕ → ℕ → List Move → List ℕ → ℕ
position_after_bytes checked transactions subscriber position moves bytes =
    position_after position (whole_in (length bytes) (items_from checked transactions subscriber position moves))

-- what is heard has no fault, and follows
pub record IsFollowed (checked : CheckedOf) (transactions : List Transaction) (subscriber position : ℕ)
    (heard : MachineHeard) : Type 0 where
  pub no_fault : heard.fault ≡ None
  pub follows : Follows checked transactions subscriber position heard.machine

-- After the first bytes of the stream, however many, a subscriber that opened a connection at its own position
-- follows, at the position after the items that are whole in them.
abbrev pub BytesAreFollowed : Type 0
BytesAreFollowed = (checked : CheckedOf) (transactions : List Transaction) → IsPublished checked transactions
    → (subscriber : ℕ) (machine : Machine) → Follows checked transactions subscriber machine.position machine
    → (moves : List Move) → All IsSentItem (items_from checked transactions subscriber machine.position moves)
    → (bytes others : List ℕ) → AreFirst checked transactions subscriber machine.position moves bytes others
    → IsFollowed checked transactions subscriber
    (position_after_bytes checked transactions subscriber machine.position moves bytes)
    (hear_cut (cut limit bytes) (opened machine))

-- ---- subscribers, by what their calls leave

-- it follows, at its own position
abbrev pub SubFollows : CheckedOf → List Transaction → ℕ → Subscriber → Type 0
SubFollows checked transactions number subscriber =
    Follows checked transactions number (sub_machine subscriber).position (sub_machine subscriber)

-- The same holds for a subscriber that is fed them; all pieces that were fed are as one.
abbrev pub FedFollow : Type 0
FedFollow = (checked : CheckedOf) (transactions : List Transaction) → IsPublished checked transactions
    → (number : ℕ) (old between new : Subscriber) → SubFollows checked transactions number old → Opens old between
    → (moves : List Move) → All IsSentItem (items_from checked transactions number (sub_machine old).position moves)
    → (bytes others : List ℕ) → AreFirst checked transactions number (sub_machine old).position moves bytes others
    → Feeds between bytes new
    → Follows checked transactions number
    (position_after_bytes checked transactions number (sub_machine old).position moves bytes) (sub_machine new)

-- nothing has to be fed before the first piece
abbrev pub NothingIsFed : Type 0
NothingIsFed = (old between : Subscriber) → Opens old between → Feeds between [] between

-- it stopped after all items that are whole in the bytes before the piece, and some of those that are whole with it,
-- and follows at the position after them
pub record StopsFollowing (checked : CheckedOf) (transactions : List Transaction) (number : ℕ) (position : ℕ)
    (before fed : List StreamItem) (new : Subscriber) : Type 0 where
  pub more : List StreamItem
  pub others : List StreamItem
  pub among : (before ++ more) ++ others ≡ fed
  pub follows : Follows checked transactions number (position_after position (before ++ more)) (sub_machine new)

-- It stops only when memory ran out, and then still follows: this number of bytes were fed before the piece for which
-- memory was refused.
abbrev pub StoppedFollow : Type 0
StoppedFollow = (checked : CheckedOf) (transactions : List Transaction) → IsPublished checked transactions
    → (number : ℕ) (old between middle new : Subscriber) → SubFollows checked transactions number old
    → Opens old between
    → (moves : List Move) → All IsSentItem (items_from checked transactions number (sub_machine old).position moves)
    → (bytes piece others : List ℕ) (error : SubFault)
    → AreFirst checked transactions number (sub_machine old).position moves (bytes ++ piece) others
    → Feeds between bytes middle → FeedStops middle piece error new
    → (sub_fault error ≡ None) × StopsFollowing checked transactions number (sub_machine old).position
    (whole_in (length bytes) (items_from checked transactions number (sub_machine old).position moves))
    (whole_in (length (bytes ++ piece)) (items_from checked transactions number (sub_machine old).position moves)) new

-- A subscriber that loses its connection follows as before.
abbrev pub LostFollow : Type 0
LostFollow = (checked : CheckedOf) (transactions : List Transaction) (number : ℕ) (old new : Subscriber)
    → SubFollows checked transactions number old → Loses old new
    → SubFollows checked transactions number new

-- Before its first connection it follows, at position 0.
abbrev pub FirstFollows : Type 0
FirstFollows = (checked : CheckedOf) (transactions : List Transaction) (number : ℕ)
    → Follows checked transactions number 0 first_machine

-- A subscriber that follows a list of transactions follows each longer list that begins with it.
abbrev pub FollowsLonger : Type 0
FollowsLonger = (checked : CheckedOf) (transactions more : List Transaction) (number position : ℕ) (machine : Machine)
    → Follows checked transactions number position machine
    → Follows checked (transactions ++ more) number position machine
