-- What was written is a first part of a stream over the log, and who is fed it follows.
use Rattle.std.proofs.Common.{◌≡◌, ℕ, List, [], ◌∷◌, ◌++◌, length, refl, sym, ◌∙◌, ap, subst, append-nil, append_assoc, length-append, arith}
use Rattle.std.specs.Prelude.{◌≤◌, ◌<◌, ◌^◌, All, Bool, Option, unwrap_or}
use Rattle.std.proofs.lemmas.List.{length-map, nil_from_length}
use Rattle.std.proofs.lemmas.List.Elements.{All-nil, All-cons, All-head, All-tail, All-append, All-contains}
use Rattle.std.proofs.lemmas.List.Sorted.{All-permutation}
use Rattle.shard_checker.specs.CheckedView.{CheckedOf, checked_view, setting_in}
use Rattle.shard_checker.specs.declared.checked.Checked.{Checked}
use Rattle.shard_checker.proofs.LimitFacts.{checked_limited}
use Rattle.shard_checker.proofs.PlanFacts.{kept_own}
use Rattle.shard_checker.proofs.SoundFacts.{kept_sound}
use Rattle.shard_checker.proofs.StandingLemmas.{own_apart, own_covered}
use Rattle.pub_catalog.specs.CatalogView.{catalog_view}
use Rattle.replica_identity.specs.Plans.{plan_view}
use Rattle.table_changes.specs.Tables.{no_rows}
use Rattle.tables_log.specs.BookView.{book_checked, book_log}
use Rattle.tables_log.specs.Commits.{CommitOf}
use Rattle.tables_log.specs.Routes.{commit_in}
use Rattle.tables_log.specs.StandsFor.{Transaction, AreAccepted, StandsFor}
use Rattle.tables_log.specs.declared.book.Book.{Book}
use Rattle.copy_frames.specs.declared.frame.Frame.{Frame}
use Rattle.copy_both.specs.HeardFrames.{BooksOf}
use Rattle.copy_both.specs.Streams.{Move, stream}
use Rattle.tables_log.specs.Lsn.{commits_before}
use Rattle.copy_both.specs.Tellings.{telling_of}
use Rattle.copy_both.specs.VoiceLaws.{AreAt}
use Rattle.senders.specs.declared.end.End.{End}
use Rattle.publisher_desk.specs.Receipts.{ReceiptOf, transaction_of, transactions_of}
use Rattle.publisher_desk.specs.Seats.{HasTime, IsTimedSeat, SeatOf}
use Rattle.publisher_desk.specs.declared.note.Note.{Note}
use Rattle.publisher_desk.specs.declared.note.Note.TheVariants.{Committed, Looked}
use Rattle.senders.specs.Gathering.{all_receipts, receipts_in}
use Rattle.senders.specs.TakenCommits.{IsTaken}
use Rattle.stream_laws.specs.Cutting.{whole_in}
use Rattle.stream_laws.specs.Following.{Follows, IsPublished, IsSentItem, items_from, log_of}
use Rattle.stream_laws.specs.FollowingBytes.{AreFirst, StopsFollowing, position_after_bytes}
use Rattle.stream_laws.specs.LayoutRoom.{IsClocked, IsTimedTransaction}
use Rattle.stream_laws.proofs.FollowingBytesLemmas.{fed_follow, stopped_follow}
use Rattle.stream_laws.proofs.LayoutRoomLemmas.{logs_fit_layouts}
use Rattle.stream_laws.proofs.SentItems.{streams_can_be_sent}
use Rattle.test_subscriber.specs.Subscribers.{sub_machine}
use Rattle.senders.specs.Following.{ClientsFollow, ClientsStop, ClosedAreFollowed, ClosedAreExplained, ClosedTellTheLog, IsFirstPart, IsLastPart, NoBytes, OfDone, ServedAreFirstParts}
use Rattle.senders.specs.Serving.{IsAfterStream, IsStream, IsTail}
use Rattle.senders.specs.Serving as serving

-- ---- a list that is cut in two ways

data Cut (a b c d : List ℕ) : Type 0 where
  Before : (middle : List ℕ) → c ≡ a ++ middle → b ≡ middle ++ d → Cut a b c d
  After : (middle : List ℕ) → a ≡ c ++ middle → d ≡ middle ++ b → Cut a b c d

cut_cons : (x y : ℕ) (a b c d : List ℕ) → x ≡ y → Cut a b c d → Cut (x ∷ a) b (y ∷ c) d
cut_cons x y a b c d same (Before middle left right) =
    Before middle (ap (λ (z : ℕ). z ∷ c) (sym same) ∙ ap (λ (l : List ℕ). x ∷ l) left) right
cut_cons x y a b c d same (After middle left right) =
    After middle (ap (λ (z : ℕ). z ∷ a) same ∙ ap (λ (l : List ℕ). y ∷ l) left) right

cut : (a b c d : List ℕ) → a ++ b ≡ c ++ d → Cut a b c d
cut [] b c d e = Before c refl e
cut (x ∷ a) b [] d e = After (x ∷ a) refl (sym e)
cut (x ∷ a) b (y ∷ c) d e =
    let same : x ≡ y = cc in
    let rest : a ++ b ≡ c ++ d = cc in
    cut_cons x y a b c d same (cut a b c d rest)

-- ---- what was written

last_part : (frames : List Frame) (last front rest : List ℕ) → last ≡ front ++ rest → IsAfterStream frames last
    → IsLastPart frames front
last_part frames last front rest is (serving.Nothing none) =
    NoBytes (nil_from_length front (omega (arith, ap length (sym is ∙ none), length-append front rest)))
last_part frames last front rest is (serving.Done done ends) = OfDone rest (sym is ∙ done) ends

-- where the whole stream was written, nothing of it is left
none_between : (middle last rest : List ℕ) → IsTail rest last → rest ≡ middle ++ last → middle ≡ []
none_between middle last rest tail is =
    nil_from_length middle
    (omega (
      arith,
      ap length is,
      ap length tail.list_is,
      length-append middle last,
      length-append tail.front rest,
    ))

module _ (checked : CheckedOf) (transactions : List Transaction) (known : BooksOf) (frames : List Frame) (slot start : ℕ)
    (taken : List CommitOf) (written : List ℕ) (failed : Bool) (why : End)
    (is : IsStream checked known frames slot start taken written failed why) where
  by_cut : (all : List ℕ)
      → all ≡ stream (telling_of checked) (log_of checked transactions) slot (length checked.catalog.tables) start
      is.moves → Cut written is.rest all is.last
      → IsFirstPart checked transactions frames slot start taken written why
  by_cut all whole (Before middle left right) = record {
    moves = is.moves;
    clocks = is.clocks;
    takes = is.takes;
    front = written;
    last = [];
    written_is = sym (append-nil written);
    last_is = NoBytes refl;
    others = middle;
    first = sym left ∙ whole;
    uncut = λ some. absurd (some refl);
    whole = λ finished. none_between middle is.last is.rest (is.whole finished) right;
  }
  by_cut all whole (After middle left right) = record {
    moves = is.moves;
    clocks = is.clocks;
    takes = is.takes;
    front = all;
    last = middle;
    written_is = left;
    last_is = last_part frames is.last middle is.rest right is.last_is;
    others = [];
    first = append-nil all ∙ whole;
    uncut = λ some. refl;
    whole = λ finished. refl;
  }

log_is : (checked : CheckedOf) (book : Book) (transactions : List Transaction) → book_checked book ≡ checked
    → StandsFor book transactions → book_log book ≡ log_of checked transactions
log_is checked book transactions named stands = stands.log ∙ ap (λ (k : CheckedOf). log_of k transactions) named

pub served_are_first_parts : ServedAreFirstParts
served_are_first_parts checked book transactions named stands known frames slot start taken written failed why is at =
    let log : List CommitOf = log_of checked transactions in
    let there : AreAt log (commits_before start) taken =
    subst (λ (l : List CommitOf). AreAt l (commits_before start) taken)
    (log_is checked book transactions named stands) at in
    by_cut checked transactions known frames slot start taken written failed why is
    (stream (telling_of checked) log slot (length checked.catalog.tables) start is.moves) refl
    (cut written is.rest (stream (telling_of checked) log slot (length checked.catalog.tables) start is.moves) is.last
    (is.bytes log there))

-- ---- who is fed it

-- what is so of a catalog that was checked, and of a log of transactions that were accepted
module _ (checked : Checked) (transactions : List Transaction)
    (accepted : AreAccepted (setting_in (checked_view checked)) no_rows transactions)
    (timed : All IsTimedTransaction transactions)
    (few : length transactions ≤ 1000000000) where
  published : IsPublished (checked_view checked) transactions
  published =
      let catalog = catalog_view checked.catalog in
      let plan = plan_view checked.plan in
      let own = kept_own catalog plan checked.own in
      let sound = kept_sound catalog checked.sound in
      record {
        covered = own_covered catalog plan own sound;
        apart = own_apart catalog plan own sound;
        accepted =
            accepted;
      }

  sent : (slot position : ℕ) (moves : List Move) → commits_before position ≤ length transactions → All IsClocked moves
      → All IsSentItem (items_from (checked_view checked) transactions slot position moves)
  unfolding published
  sent slot position moves low clocks =
      streams_can_be_sent (checked_view checked) transactions accepted
      (logs_fit_layouts (checked_view checked) published.covered (checked_limited checked) transactions accepted timed
      few) slot position moves low clocks

pub clients_follow : ClientsFollow
clients_follow checked transactions accepted timed few slot start moves clocks old between new follows at opens bytes
    others first feeds =
    let view : CheckedOf = checked_view checked in
    let position : ℕ = (sub_machine old).position in
    let here : AreFirst view transactions slot position moves bytes others =
    subst (λ (p : ℕ). AreFirst view transactions slot p moves bytes others) (sym at) first in
    subst (λ (p : ℕ). Follows view transactions slot (position_after_bytes view transactions slot p moves bytes)
    (sub_machine new)) at
    (fed_follow view transactions (published checked transactions accepted timed few) slot old between new follows
    opens moves
    (sent checked transactions accepted timed few slot position moves follows.within clocks) bytes others here feeds)

pub clients_stop : ClientsStop
clients_stop checked transactions accepted timed few slot start moves clocks old between middle new follows at opens
    bytes piece others error first feeds stops =
    let view : CheckedOf = checked_view checked in
    let position : ℕ = (sub_machine old).position in
    let here : AreFirst view transactions slot position moves (bytes ++ piece) others =
    subst (λ (p : ℕ). AreFirst view transactions slot p moves (bytes ++ piece) others) (sym at) first in
    let stopped = stopped_follow view transactions (published checked transactions accepted timed few) slot old
    between middle new follows opens moves
    (sent checked transactions accepted timed few slot position moves follows.within clocks) bytes piece others error
    here feeds stops in (
      stopped.0,
      subst (λ (p : ℕ). StopsFollowing view transactions slot p
          (whole_in (length bytes) (items_from view transactions slot p moves))
          (whole_in (length (bytes ++ piece)) (items_from view transactions slot p moves)) new) at stopped.1,
    )

-- ---- in a publisher that was closed

abbrev IsTimedReceipt : ReceiptOf → Type 0
IsTimedReceipt receipt = receipt.time < 2 ^ 64

receipts_timed : (notes : List Note) → All HasTime notes → All IsTimedReceipt (receipts_in notes)
receipts_timed [] timed = All-nil IsTimedReceipt
receipts_timed (Committed receipt ∷ notes) timed =
    All-cons IsTimedReceipt receipt (receipts_in notes) (All-head HasTime (Committed receipt) notes timed)
    (receipts_timed notes (All-tail HasTime (Committed receipt) notes timed))
receipts_timed (Looked reading ∷ notes) timed = receipts_timed notes (All-tail HasTime (Looked reading) notes timed)

all_timed : (seats : List SeatOf) → All IsTimedSeat seats → All IsTimedReceipt (all_receipts seats)
all_timed [] timed = All-nil IsTimedReceipt
all_timed (seat ∷ seats) timed =
    All-append IsTimedReceipt (receipts_in seat.notes) (all_receipts seats)
    (receipts_timed seat.notes (All-head IsTimedSeat seat seats timed))
    (all_timed seats (All-tail IsTimedSeat seat seats timed))

transactions_timed : (receipts : List ReceiptOf) → All IsTimedReceipt receipts
    → All IsTimedTransaction (transactions_of receipts)
transactions_timed [] timed = All-nil IsTimedTransaction
transactions_timed (receipt ∷ receipts) timed =
    All-cons IsTimedTransaction (transaction_of receipt) (transactions_of receipts)
    (All-head IsTimedReceipt receipt receipts timed)
    (transactions_timed receipts (All-tail IsTimedReceipt receipt receipts timed))

pub closed_are_explained : ClosedAreExplained
closed_are_explained checked limit closing seats served book closed =
    let order : List ReceiptOf = closing.log in
    let each : All IsTimedReceipt order =
    All-permutation IsTimedReceipt (all_receipts seats) order closed.ordered.all (all_timed seats closed.timed) in
    let long : length (transactions_of order) ≡ length order = length-map order transaction_of in
    let logged : length (book_log book) ≡ length book.log.items = length-map book.log.items commit_in in
    record {
      accepted = subst (λ (c : CheckedOf). AreAccepted (setting_in c) no_rows (transactions_of order)) closed.named
          closed.stands.accepted;
      timed = transactions_timed order each;
      few = omega (arith, long, logged, closed.counted, book.room, book.within);
    }

pub closed_tell_the_log : ClosedTellTheLog
closed_tell_the_log checked limit closing seats served book closed one among known frames slot start at written failed
    is =
    let taken : IsTaken (book_log book) one = All-contains (IsTaken (book_log book)) served one closed.taken among in
    served_are_first_parts checked book (transactions_of closing.log) closed.named closed.stands known frames slot start
    one.taken written failed one.end is
    (subst (λ (o : Option ℕ). AreAt (book_log book) (commits_before (unwrap_or o 0)) one.taken) at taken.at)

pub closed_are_followed : ClosedAreFollowed
closed_are_followed checked limit closing seats served book closed one frames slot start written part old between new
    follows at opens bytes rest is feeds =
    let view : CheckedOf = checked_view checked in
    let all : List Transaction = transactions_of closing.log in
    let explained = closed_are_explained view limit closing seats served book closed in
    let first : AreFirst view all slot start part.moves bytes (rest ++ part.others) =
    sym (append_assoc bytes rest part.others) ∙ ap (λ (l : List ℕ). l ++ part.others) is ∙ part.first in
    clients_follow checked all explained.accepted explained.timed explained.few slot start part.moves part.clocks old
    between new follows at opens bytes (rest ++ part.others) first feeds
