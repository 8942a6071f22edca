-- The publisher hears what a subscriber sends, and the log grows.
use Rattle.std.proofs.Common.{◌≡◌, ℕ, ◌+◌, ◌-◌, ◌<◌, ◌≤◌, ◌^◌, Bool, true, false, List, [], ◌∷◌, ◌++◌, length, map, refl, sym, ◌∙◌, ap, subst, arith}
use Rattle.std.specs.Prelude.{Option, Some, None, All, max, nat_le, fold}
use Rattle.std.specs.List.{flat_map}
use Rattle.std.proofs.lemmas.List.{append-nil}
use Rattle.std.proofs.lemmas.List.Elements.{All-nil, All-cons, All-head, All-tail, All-drop, All-map}
use Rattle.shard_checker.specs.CheckedView.{CheckedOf}
use Rattle.tables_log.specs.StandsFor.{Transaction}
use Rattle.copy_both.specs.StreamLaws.{AllThere}
use Rattle.copy_both.specs.Streams.{Response, spelled, Move, Keep, state_at, all_items}
use Rattle.copy_both.specs.Tellings.{telling_of}
use Rattle.copy_both.proofs.StreamLemmas.{items_longer, all_there_longer}
use Rattle.copy_frames.specs.declared.status.Status.{Status}
use Rattle.stream_laws.specs.Cutting.{if_whole, whole_in}
use Rattle.stream_laws.specs.Following.{position_after}
use Rattle.shard_world.specs.World.{Up, Asks, Says, Connection, Peer, Session, down_items, connection_position, position_now, spelled_up, whole_up, ups_of, start_at, replies_to, hear_up, newly, heard_of, hears, StreamSource, log_in}
use Rattle.stream_laws.proofs.FollowingBytesLemmas.{follows_longer}
use Rattle.shard_world.proofs.WorldItems.{none_in_nothing, log_goes_on, with_more}
use Rattle.shard_world.proofs.WorldPeers.{StartsAt, IsReported, IsConnected, IsConnectedAt, IsGood, moves_connected}

-- ---- what the subscriber sends

-- it requests its own position, and reports no more than what it reached
abbrev pub IsFair : ℕ → ℕ → Up → Type 0
IsFair position reached (Asks asked) = asked ≡ position
IsFair position reached (Says status) = status.flushed ≤ reached

ups_fair : (position reached : ℕ) (reports : List Status) → All (IsReported reached) reports
    → All (IsFair position reached) (Asks position ∷ map Says reports)
ups_fair position reached reports low =
    All-cons (IsFair position reached) (Asks position) (map Says reports) refl
    (All-map (IsFair position reached) Says reports low)

if_fair : (P : Up → Type 0) (whole : Bool) (up : Up) (others : List Up) → P up → All P others
    → All P (if_whole whole up others)
if_fair P true up others here later = All-cons P up others here later
if_fair P false up others here later = All-nil P

whole_fair : (checked : CheckedOf) (subscriber : ℕ) (P : Up → Type 0) (count : ℕ) (ups : List Up) → All P ups
    → All P (whole_up checked subscriber count ups)
whole_fair checked subscriber P count [] fair = All-nil P
whole_fair checked subscriber P count (up ∷ ups) fair =
    if_fair P (nat_le (length (spelled_up checked subscriber up)) count) up
    (whole_up checked subscriber (count - length (spelled_up checked subscriber up)) ups)
    (All-head P up ups fair)
    (whole_fair checked subscriber P (count - length (spelled_up checked subscriber up)) ups
    (All-tail P up ups fair))

-- ---- one command or status

module _ (source : StreamSource) (position reached now : ℕ) (timed : now < 2 ^ 64) (reports : List Status)
    (heard delivered : ℕ) where
  -- the connection that a session makes
  abbrev IsHeardTo : Session → Type 0
  IsHeardTo session = IsConnected source position session.confirmed reached
      (record { start = session.start; moves = session.moves; reports = reports; heard = heard; delivered = delivered })

  asks_connected : (confirmed : ℕ) (start : Option ℕ) (moves : List Move)
      → IsHeardTo (record { confirmed = confirmed; start = start; moves = moves })
      → IsHeardTo (record { confirmed = confirmed; start = start_at start position confirmed; moves = moves })
  asks_connected confirmed (Some start) moves connected = connected
  asks_connected confirmed None moves connected = record {
    started = greatest confirmed (subst (λ n. confirmed ≤ n) (sym connected.reached_is) connected.confirmed_is);
    there = connected.there;
    clocked = connected.clocked;
    delivered = at_most delivered
        (length (flat_map spelled (down_items source (Some (max position confirmed)) moves))) connected.delivered;
    reached_is = subst (λ n. position_after position
        (whole_in n (down_items source (Some (max position confirmed)) moves)) ≡ reached)
        (zero_is delivered connected.delivered)
        (ap (position_after position) (none_in_nothing (down_items source (Some (max position confirmed)) moves))
        ∙ connected.reached_is);
    confirmed_is = connected.confirmed_is;
    reports = connected.reports;
  }
    where
      greatest : (confirmed : ℕ) → confirmed ≤ position → max position confirmed ≡ position
      greatest confirmed h = omega (arith, h)

      at_most : (a b : ℕ) → a ≤ 0 → a ≤ b
      at_most a b h = omega (arith, h)

      zero_is : (a : ℕ) → a ≤ 0 → 0 ≡ a
      zero_is a h = omega (arith, h)

  replies_connected : (confirmed : ℕ) (start : Option ℕ) (moves : List Move) (wants : Bool)
      → IsHeardTo (record { confirmed = confirmed; start = start; moves = moves })
      → IsHeardTo (record { confirmed = confirmed; start = start; moves = moves ++ replies_to wants now })
  replies_connected confirmed start moves true connected =
      moves_connected source position confirmed reached
      (record { start = start; moves = moves; reports = reports; heard = heard; delivered = delivered })
      (Keep now false) connected timed tt
  replies_connected confirmed start moves false connected =
      subst (λ all. IsHeardTo (record { confirmed = confirmed; start = start; moves = all })) (sym (append-nil moves))
      connected

  says_connected : (confirmed flushed : ℕ) (start : Option ℕ) (moves : List Move) → flushed ≤ reached
      → IsHeardTo (record { confirmed = confirmed; start = start; moves = moves })
      → IsHeardTo (record { confirmed = max confirmed flushed; start = start; moves = moves })
  says_connected confirmed flushed start moves low connected = record {
    started = connected.started;
    there = connected.there;
    clocked = connected.clocked;
    delivered = connected.delivered;
    reached_is = connected.reached_is;
    confirmed_is = both_low confirmed flushed connected.confirmed_is low;
    reports = connected.reports;
  }
    where
      both_low : (a b : ℕ) → a ≤ reached → b ≤ reached → max a b ≤ reached
      both_low a b h k = omega (arith, h, k)

  up_connected : (session : Session) (up : Up) → IsFair position reached up → IsHeardTo session
      → IsHeardTo (hear_up now session up)
  up_connected session (Asks asked) fair connected =
      subst (λ p. IsHeardTo
      (record {
        confirmed = session.confirmed;
        start = start_at session.start p session.confirmed;
        moves =
            session.moves;
      })) (sym fair)
      (asks_connected session.confirmed session.start session.moves connected)
  up_connected session (Says status) fair connected =
      replies_connected (max session.confirmed status.flushed) session.start session.moves status.wants_reply
      (says_connected session.confirmed status.flushed session.start session.moves fair connected)

  pub ups_connected : (ups : List Up) (session : Session) → All (IsFair position reached) ups → IsHeardTo session
      → IsHeardTo (fold (hear_up now) session ups)
  ups_connected [] session fair connected = connected
  ups_connected (up ∷ ups) session fair connected =
      ups_connected ups (hear_up now session up) (All-tail (IsFair position reached) up ups fair)
      (up_connected session up (All-head (IsFair position reached) up ups fair) connected)

-- when a connection hears more bytes
heard_connected : (source : StreamSource) (now : ℕ) → now < 2 ^ 64 → (peer : Peer) (c : Connection) (more : ℕ)
    → (good : IsGood source (record peer { connection = Some c }))
    → IsConnected source peer.position (heard_of source now peer c more).confirmed good.connected.0
    (record c {
      start = (heard_of source now peer c more).start;
      moves =
          (heard_of source now peer c more).moves;
      heard = c.heard + more;
    })
heard_connected source now timed peer c more good =
    let fair = All-drop (IsFair peer.position good.connected.0)
    (length (whole_up source.checked source.number c.heard (ups_of peer c)))
    (whole_up source.checked source.number (c.heard + more) (ups_of peer c))
    (whole_fair source.checked source.number (IsFair peer.position good.connected.0) (c.heard + more) (ups_of peer c)
    (ups_fair peer.position good.connected.0 c.reports good.connected.1.reports)) in
    ups_connected source peer.position good.connected.0 now timed c.reports (c.heard + more) c.delivered
    (newly source peer c more)
    (record { confirmed = peer.confirmed; start = c.start; moves = c.moves }) fair
    (record {
      started = good.connected.1.started;
      there = good.connected.1.there;
      clocked = good.connected.1.clocked;
      delivered = good.connected.1.delivered;
      reached_is = good.connected.1.reached_is;
      confirmed_is = good.connected.1.confirmed_is;
      reports = good.connected.1.reports;
    })

pub hears_good : (source : StreamSource) (now : ℕ) → now < 2 ^ 64 → (peer : Peer) (c : Connection) (more : ℕ)
    → IsGood source (record peer { connection = Some c }) → IsGood source (hears source now peer c more)
hears_good source now timed peer c more good =
    record { follows = good.follows; connected = (good.connected.0, heard_connected source now timed peer c more good) }

-- the subscriber stays where it is
pub hears_stay : (source : StreamSource) (now : ℕ) → now < 2 ^ 64 → (peer : Peer) (c : Connection) (more : ℕ)
    → IsGood source (record peer { connection = Some c })
    → position_now source (hears source now peer c more) ≡ connection_position source peer (Some c)
hears_stay source now timed peer c more good =
    (heard_connected source now timed peer c more good).reached_is ∙ sym good.connected.1.reached_is

-- ---- the log grows

pub down_longer : (source : StreamSource) (more : List Transaction) (position : ℕ) (start : Option ℕ)
    → StartsAt position start → (moves : List Move)
    → AllThere (telling_of source.checked) (log_in source)
    (state_at source.number (length source.checked.catalog.tables) position) moves
    → down_items (with_more source more) start moves ≡ down_items source start moves
down_longer source more position None at moves there = refl
down_longer source more position (Some start) at moves there =
    let on = log_goes_on source.checked source.transactions more in
    let there_at = subst (λ p. AllThere (telling_of source.checked) (log_in source)
    (state_at source.number (length source.checked.catalog.tables) p) moves) (sym at) there in
    ap (λ log. Response ∷ all_items (telling_of source.checked) log
    (state_at source.number (length source.checked.catalog.tables) start) moves) on.is
    ∙ ap (λ items. Response ∷ items)
    (items_longer (telling_of source.checked) (log_in source) on.others
    (state_at source.number (length source.checked.catalog.tables) start) moves there_at)

longer_connected : (source : StreamSource) (more : List Transaction) (position confirmed reached : ℕ) (c : Connection)
    → IsConnected source position confirmed reached c → IsConnected (with_more source more) position confirmed reached c
longer_connected source more position confirmed reached c connected =
    let on = log_goes_on source.checked source.transactions more in
    let same = down_longer source more position c.start connected.started c.moves connected.there in
    record {
      started = connected.started;
      there = subst (λ log. AllThere (telling_of source.checked) log
          (state_at source.number (length source.checked.catalog.tables) position) c.moves) (sym on.is)
          (all_there_longer (telling_of source.checked) (log_in source) on.others
          (state_at source.number (length source.checked.catalog.tables) position) c.moves connected.there);
      clocked = connected.clocked;
      delivered = subst (λ items. c.delivered ≤ length (flat_map spelled items)) (sym same) connected.delivered;
      reached_is = ap (λ items. position_after position (whole_in c.delivered items)) same ∙ connected.reached_is;
      confirmed_is = connected.confirmed_is;
      reports = connected.reports;
    }

longer_at : (source : StreamSource) (more : List Transaction) (peer : Peer) (connection : Option Connection)
    → IsConnectedAt source peer connection → IsConnectedAt (with_more source more) peer connection
longer_at source more peer None connected = connected
longer_at source more peer (Some c) connected =
    (connected.0, longer_connected source more peer.position peer.confirmed connected.0 c connected.1)

pub longer_good : (source : StreamSource) (more : List Transaction) (peer : Peer) → IsGood source peer
    → IsGood (with_more source more) peer
longer_good source more peer good = record {
  follows = follows_longer source.checked source.transactions more source.number peer.position peer.machine
      good.follows;
  connected = longer_at source more peer peer.connection good.connected;
}
