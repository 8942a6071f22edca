-- What a listener has heard, read after read.
use Rattle.senders.proofs.PermitLemmas.{kept_by}
use Rattle.copy_frames.specs.Frames.{fault_in}
use Rattle.std.proofs.Common.{◌≡◌, ℕ, List, [], ◌++◌, length, refl, sym, ◌∙◌, ap, subst, append_assoc, append-nil}
use Rattle.std.specs.Prelude.{Bool, true, Option, Some, None, Result, Ok, Err}
use Rattle.std.proofs.KnownBytes.{Consumes-nil, Consumes-trans}
use Rattle.shard_checker.specs.CheckedView.{CheckedOf}
use Rattle.copy_both.specs.Ears.{ear_confirmed, ear_refusal, ear_started}
use Rattle.copy_both.specs.HeardFrames.{AsksIfStarted, BooksOf, GoesOnOrEnds, HasHeard, frames_in, IsStartedBy}
use Rattle.copy_both.specs.declared.ear.Ear.{Ear}
use Rattle.copy_both.specs.declared.heard.Heard.{Heard}
use Rattle.copy_both.specs.declared.link_fault.LinkFault.{LinkFault}
use Rattle.copy_both.specs.ConfirmedFrames.{HasConfirmedAll}
use Rattle.publisher_desk.specs.Viewers.{HoldsIf, ViewerOf}
use Rattle.senders.specs.Hearing.{HearsPiece, IsSilent, StaysStarted}
use Rattle.senders.specs.Confirming.{ConfirmsBy, ReportsIf}
use Rattle.senders.specs.Listening.{EndsFor, EndsOf, HasItsSlot, HasListened, HoldsStream, HearsLast, HearsMore, HearsNext, SaysOfPiece, SaysRequested, next_by, next_by_end, piece_of, PermitsStart, HearsAll, HasSentNone, RefusesLast, RefusesNow}
use Rattle.senders.specs.Refusing.{fault_by}
use Rattle.senders.specs.Results.{books_seen}
use Rattle.senders.specs.declared.failed.Failed.{Failed}
use Rattle.senders.proofs.SeenLogs.{sees_on, sees_same}
use Rattle.senders.specs.Pieces.{Pulls, PullsNothing, PullsPiece}
use Rattle.senders.specs.declared.listener_end.ListenerEnd.{ListenerEnd}
use Rattle.senders.specs.declared.listener_end.ListenerEnd.TheVariants as listener_end
use Rattle.senders.specs.declared.listener.Listener.{Listener}
use Rattle.senders.specs.declared.next.Next.{Next}
use Rattle.senders.specs.declared.next.Next.TheVariants as next
use Rattle.senders.proofs.ConfirmingLemmas.{confirms_all, reports_all, reports_fault, reports_frame}

-- ---- a read

asks_on : (checked : CheckedOf) (known : BooksOf) (bytes : List ℕ) (started : Option (ℕ × ℕ))
    → IsStartedBy checked known (frames_in bytes) started → AsksIfStarted checked known (frames_in bytes) started
asks_on checked known bytes None by = tt
asks_on checked known bytes (Some started) by = by

pub has_asked : (checked : CheckedOf) (known : BooksOf) (bytes : List ℕ) (ear : Ear) → HasHeard checked known bytes ear
    → AsksIfStarted checked known (frames_in bytes) (ear_started ear)
has_asked checked known bytes ear has = asks_on checked known bytes (ear_started ear) has.started

-- with the same ear, and said of it the same
same_listened : (checked : CheckedOf) (viewer : ViewerOf) (bytes : List ℕ) (old new : Listener) → new.ear ≡ old.ear
    → new.is_requested ≡ old.is_requested → new.number ≡ old.number
    → HasListened checked viewer bytes old → HasListened checked viewer bytes new
same_listened checked viewer bytes old new same said number has = record {
  heard = subst (HasHeard checked (books_seen viewer) bytes) (sym same) has.heard;
  requested = λ slot start started says.
      has.requested slot start (sym (ap ear_started same) ∙ started) (sym said ∙ says);
  confirmed = subst (λ (ear : Ear). HasConfirmedAll (ear_started ear) (frames_in bytes) (ear_confirmed ear)) (sym same)
      has.confirmed;
  holding = subst (λ (ear : Ear). HoldsStream (ear_started ear) new.is_requested new.number (ear_confirmed ear)
      viewer.held) (sym same)
      (subst (λ (b : Bool). HoldsStream (ear_started old.ear) b new.number (ear_confirmed old.ear) viewer.held) (sym said)
      (subst (λ (n : ℕ). HoldsStream (ear_started old.ear) old.is_requested n (ear_confirmed old.ear) viewer.held)
      (sym number) has.holding));
}

same_slot : (viewer : ViewerOf) (old new : Listener) → new.ear ≡ old.ear → HasItsSlot viewer old
    → HasItsSlot viewer new
same_slot viewer old new same = subst (λ (ear : Ear). HoldsIf viewer.held (ear_started ear)) (sym same)

stays_from : (old middle new : Ear) → middle ≡ old → StaysStarted middle new → StaysStarted old new
stays_from old middle new same stays = subst (λ (ear : Ear). StaysStarted ear new) same stays

module _ (checked : CheckedOf) (was now : ViewerOf) (left now_left : Option (List ℕ)) (failed ended : Bool)
    (old middle new : Listener)
    (pulls : PullsPiece left now_left (piece_of middle) old middle)
    (room : length new.piece.items ≡ length middle.piece.items)
    (result : Result Heard LinkFault) (says : SaysOfPiece checked was now (piece_of middle) middle new result)
    (permit : Option ℕ) (permits : PermitsStart (ear_started middle.ear) (ear_started new.ear) permit) where
  has_pulled : (bytes : List ℕ) → HasListened checked was bytes old → HasListened checked was bytes middle
  has_pulled bytes has = same_listened checked was bytes old middle pulls.ear pulls.same pulls.number has

  -- what is said of confirmations, of the answer
  says_of : (heard : Result Heard LinkFault) → result ≡ heard → (bytes : List ℕ) → HasListened checked was bytes middle
      → ConfirmsBy (ear_started new.ear) new.number now.events (frames_in (bytes ++ piece_of middle)) heard
      (ear_confirmed new.ear)
  says_of heard is bytes has =
      subst (λ (r : Result Heard LinkFault). ConfirmsBy (ear_started new.ear) new.number now.events
      (frames_in (bytes ++ piece_of middle)) r (ear_confirmed new.ear)) is (says.confirms bytes has)

  by_end : (was_over : Bool) (heard : Heard) → result ≡ Ok heard
      → HearsPiece checked was now (piece_of middle) middle.ear new.ear (Ok heard)
      → (kind : Option ℕ) → heard.ended ≡ kind
      → HearsNext checked was now left now_left failed ended old new (next_by_end was_over kind)
  by_end was_over heard is hears None none = record {
    more = piece_of middle;
    read = pulls.read;
    sees = says.sees;
    mine = λ has. says.mine (same_slot was old middle pulls.ear has);
    heard = λ bytes has.
        let listened = has_pulled bytes has in
        let one = hears.each bytes listened.heard in
        let goes : HasHeard checked (books_seen now) (bytes ++ piece_of middle) new.ear =
        subst (GoesOnOrEnds checked (books_seen now) (bytes ++ piece_of middle) new.ear) none one.explained in
        record {
          has = record {
            heard = goes;
            requested = says.each bytes listened;
            confirmed = confirms_all (ear_started new.ear) new.number now.events (frames_in (bytes ++ piece_of middle)) heard
                (ear_confirmed new.ear) none (says_of (Ok heard) is bytes listened);
            holding = says.holding bytes listened;
          };
          stays = stays_from old.ear middle.ear new.ear pulls.ear one.stays;
        };
    started = λ was. record {
      stream = was.stream;
      started_is = (kept_by (ear_started middle.ear) (ear_started new.ear) permit was.stream
          (ap ear_started pulls.ear ∙ was.started_is) permits).0;
    };
    room = room ∙ pulls.room;
  }
  by_end was_over heard is hears (Some kind) some = record {
    more = piece_of middle;
    read = pulls.read;
    sees = says.sees;
    ends = λ bytes has.
        let listened = has_pulled bytes has in
        let one = hears.each bytes listened.heard in
        record {
          asks = one.asks;
          ends = (subst (GoesOnOrEnds checked (books_seen now) (bytes ++ piece_of middle) new.ear) some one.explained).0;
          stays = stays_from old.ear middle.ear new.ear pulls.ear one.stays;
          requested = says.each bytes listened;
          reports = reports_frame (ear_started new.ear) new.number now.events (bytes ++ piece_of middle) heard kind
              (ear_confirmed new.ear) some (says_of (Ok heard) is bytes listened);
          none = (subst (GoesOnOrEnds checked (books_seen now) (bytes ++ piece_of middle) new.ear) some one.explained).1;
          refuses = tt;
          holding = says.holding bytes listened;
        };
  }

  pub hears_next : (was_over : Bool) (heard : Result Heard LinkFault) → result ≡ heard
      → HearsPiece checked was now (piece_of middle) middle.ear new.ear heard
      → HearsNext checked was now left now_left failed ended old new (next_by was_over heard)
  hears_next was_over (Ok heard) is hears = by_end was_over heard is hears heard.ended refl
  hears_next was_over (Err f) is hears = record {
    more = piece_of middle;
    read = pulls.read;
    sees = says.sees;
    ends = λ bytes has.
        let listened = has_pulled bytes has in
        let one = hears.each bytes listened.heard in
        record {
          asks = one.asks;
          ends = one.explained;
          stays = stays_from old.ear middle.ear new.ear pulls.ear one.stays;
          requested = says.each bytes listened;
          reports = reports_fault (ear_started new.ear) new.number now.events (bytes ++ piece_of middle) f
              (ear_confirmed new.ear) (says_of (Err f) is bytes listened);
          none = λ idle. (subst (RefusesNow checked now (bytes ++ piece_of middle) new) is (says.refuses bytes listened)
              idle).1;
          refuses = subst (RefusesNow checked now (bytes ++ piece_of middle) new) is (says.refuses bytes listened);
          holding = says.holding bytes listened;
        };
  }

-- nothing was read, as the source says
asks_still_for : (checked : CheckedOf) (viewer : ViewerOf) (bytes : List ℕ) (new : Listener)
    → HasListened checked viewer bytes new
    → AsksIfStarted checked (books_seen viewer) (frames_in (bytes ++ [])) (ear_started new.ear)
asks_still_for checked viewer bytes new has =
    subst (λ (all : List ℕ). AsksIfStarted checked (books_seen viewer) (frames_in all) (ear_started new.ear))
    (sym (append-nil bytes)) (has_asked checked (books_seen viewer) bytes new.ear has.heard)

says_still : (checked : CheckedOf) (viewer : ViewerOf) (bytes : List ℕ) (new : Listener)
    → HasListened checked viewer bytes new → SaysRequested (bytes ++ []) new
says_still checked viewer bytes new has =
    subst (λ (all : List ℕ). SaysRequested all new) (sym (append-nil bytes)) has.requested

reports_still : (checked : CheckedOf) (viewer : ViewerOf) (bytes : List ℕ) (new : Listener)
    → HasListened checked viewer bytes new
    → ReportsIf (ear_started new.ear) new.number viewer.events (bytes ++ []) None (ear_confirmed new.ear)
reports_still checked viewer bytes new has =
    subst (λ (all : List ℕ). ReportsIf (ear_started new.ear) new.number viewer.events all None (ear_confirmed new.ear))
    (sym (append-nil bytes))
    (reports_all (ear_started new.ear) new.number viewer.events bytes (ear_confirmed new.ear) has.heard.good has.confirmed)

stays_same : (old new : Ear) → new ≡ old → StaysStarted old new
stays_same old new same started is = ap ear_started same ∙ is

module _ (checked : CheckedOf) (viewer : ViewerOf) (left now_left : Option (List ℕ)) (failed ended : Bool)
    (old new : Listener) where
  nothing_read : (says : Bool) (why : ListenerEnd) → PullsNothing left now_left says old new
      → fault_by why ≡ None → ((bytes : List ℕ) → IsSilent bytes → HasSentNone bytes why)
      → ((bytes : List ℕ) → RefusesLast checked viewer bytes new why)
      → ((bytes : List ℕ) → EndsFor checked (books_seen viewer) bytes (ear_started new.ear) (ear_refusal new.ear) failed
      ended why)
      → HearsLast checked viewer viewer left now_left failed ended old new why
  nothing_read says why pulls sound silent unrefused ends = record {
    more = [];
    read = pulls.read;
    sees = sees_same viewer;
    ends = λ bytes has.
        let listened = same_listened checked viewer bytes old new pulls.ear pulls.same pulls.number has in
        record {
          asks = asks_still_for checked viewer bytes new listened;
          ends = ends (bytes ++ []);
          stays = stays_same old.ear new.ear pulls.ear;
          requested = says_still checked viewer bytes new listened;
          reports = subst (λ (o : Option LinkFault). ReportsIf (ear_started new.ear) new.number viewer.events
              (bytes ++ []) o (ear_confirmed new.ear)) (sym sound) (reports_still checked viewer bytes new listened);
          none = λ idle. silent (bytes ++ []) (record {
            none = ap frames_in (append-nil bytes)
                ∙ subst (IsStartedBy checked (books_seen viewer) (frames_in bytes)) idle listened.heard.started;
            good = ap (fault_in 65536) (append-nil bytes) ∙ listened.heard.good;
          });
          refuses = unrefused (bytes ++ []);
          holding = listened.holding;
        };
  }

  pub read_fails : PullsNothing left now_left failed old new
      → HearsLast checked viewer viewer left now_left failed ended old new listener_end.SourceFailed
  read_fails pulls = nothing_read failed listener_end.SourceFailed pulls refl (λ bytes none. none) (λ bytes. tt)
      (λ bytes. pulls.said)

  pub read_ends : PullsNothing left now_left ended old new
      → HearsLast checked viewer viewer left now_left failed ended old new listener_end.SourceEnded
  read_ends pulls = nothing_read ended listener_end.SourceEnded pulls refl (λ bytes none. none) (λ bytes. tt)
      (λ bytes. pulls.said)

-- ---- reads, one after another

pub hears_nothing : (checked : CheckedOf) (viewer : ViewerOf) (left : Option (List ℕ)) (listener : Listener)
    → HearsMore checked viewer viewer left left listener listener
hears_nothing checked viewer left listener = record {
  more = [];
  read = Consumes-nil left;
  sees = sees_same viewer;
  mine = λ has. has;
  heard = λ bytes has. record {
    has = subst (λ (all : List ℕ). HasListened checked viewer all listener) (sym (append-nil bytes)) has;
    stays = λ started is. is;
  };
  started = λ was. was;
  room = refl;
}

module _ (checked : CheckedOf) (was between now : ViewerOf) (left middle_left last_left : Option (List ℕ))
    (old middle new : Listener) (first : HearsMore checked was between left middle_left old middle) where
  pub hears_more : HearsMore checked between now middle_left last_left middle new
      → HearsMore checked was now left last_left old new
  hears_more then = record {
    more = first.more ++ then.more;
    read = Consumes-trans left middle_left last_left first.more then.more first.read then.read;
    sees = sees_on was between now first.sees then.sees;
    mine = λ has. then.mine (first.mine has);
    heard = λ bytes has.
        let one = first.heard bytes has in
        let two = then.heard (bytes ++ first.more) one.has in
        record {
          has = subst (λ (all : List ℕ). HasListened checked now all new) (append_assoc bytes first.more then.more)
              two.has;
          stays = λ started is. two.stays started (one.stays started is);
        };
    started = λ was. then.started (first.started was);
    room = then.room ∙ first.room;
  }

  pub hears_last : (failed ended : Bool) (why : ListenerEnd)
      → HearsLast checked between now middle_left last_left failed ended middle new why
      → HearsLast checked was now left last_left failed ended old new why
  hears_last failed ended why then = record {
    more = first.more ++ then.more;
    read = Consumes-trans left middle_left last_left first.more then.more first.read then.read;
    sees = sees_on was between now first.sees then.sees;
    ends = λ bytes has.
        let one = first.heard bytes has in
        let two = then.ends (bytes ++ first.more) one.has in
        subst (λ (all : List ℕ). EndsOf checked now all old new failed ended why)
        (append_assoc bytes first.more then.more)
        (record {
          asks = two.asks;
          ends = two.ends;
          stays = λ started is. two.stays started (one.stays started is);
          requested = two.requested;
          reports = two.reports;
          none = two.none;
          refuses = two.refuses;
          holding = two.holding;
        });
  }

  pub hears_all : (failed ended : Bool) (why : Option ListenerEnd)
      → HearsAll checked between now middle_left last_left failed ended middle new why
      → HearsAll checked was now left last_left failed ended old new why
  hears_all failed ended None then = hears_more then
  hears_all failed ended (Some why) then = hears_last failed ended why then

-- ---- what came of a read

pub pulled : (left now_left : Option (List ℕ)) (failed ended : Bool) (old new : Listener)
    (result : Result Bool Failed) (more : Bool) → result ≡ Ok more → more ≡ true
    → Pulls left now_left failed ended old new result → PullsPiece left now_left (piece_of new) old new
pulled left now_left failed ended old new result more is some pulls =
    subst (Pulls left now_left failed ended old new) (is ∙ ap (λ (b : Bool). Ok b) some) pulls

module _ (checked : CheckedOf) (was between now : ViewerOf) (left middle_left last_left : Option (List ℕ))
    (failed ended : Bool) (old middle new : Listener)
    (first : HearsMore checked was between left middle_left old middle) (result : Next)
    (hears : HearsNext checked between now middle_left last_left failed ended middle new result) where
  pub on_after : (was_over : Bool) → result ≡ next.GoesOn was_over
      → HearsMore checked was now left last_left old new
  on_after was_over is =
      hears_more checked was between now left middle_left last_left old middle new first
      (subst (HearsNext checked between now middle_left last_left failed ended middle new) is hears)

  pub last_after : (why : ListenerEnd) → result ≡ next.Ends why
      → HearsLast checked was now left last_left failed ended old new why
  last_after why is = hears_last checked was between now left middle_left last_left old middle new first failed ended why
      (subst (HearsNext checked between now middle_left last_left failed ended middle new) is hears)
