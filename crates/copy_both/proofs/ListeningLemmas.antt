-- The frames that are held are heard one after another.
use Rattle.std.proofs.Common.{◌≡◌, ℕ, ◌+◌, ◌<◌, ◌≤◌, ◌^◌, Bool, true, false, List, [], ◌∷◌, ◌++◌, length, length-append, refl, sym, ap, ◌∙◌, subst, append-nil, arith}
use Rattle.std.specs.Prelude.{Option, Some, None, Err, not, is_some}
use Rattle.shard_checker.specs.CheckedView.{CheckedOf}
use Rattle.tables_log.specs.BookView.{book_log, book_slots}
use Rattle.tables_log.specs.Commits.{CommitOf}
use Rattle.tables_log.specs.Committing.{ChangesSlots}
use Rattle.tables_log.specs.declared.book.Book.{Book}
use Rattle.copy_frames.specs.Frames.{FrameCut, Rest, Bad, Then, cut, framed, frames_of, rest_of}
use Rattle.copy_frames.specs.Inboxes.{Inbox, Gives, GivesFrame, has_frame}
use Rattle.copy_frames.specs.declared.fault.FrameFault.{FrameFault}
use Rattle.copy_frames.specs.declared.frame.Frame.{Frame}
use Rattle.copy_frames.proofs.InboxLemmas.{rest_left, gives_none}
use Rattle.copy_both.specs.Hearing.{HearingOf, ServedFrom, is_over, is_over_by, unless_over, with_fault, next_heard, frames_heard}
use Rattle.copy_both.specs.Listening.{silence, held_frames, FramesHeard, resting, part_heard, Leaves}
use Rattle.copy_both.specs.Sessions.{session_checked, served_by, hearing_view, FailsBy, KeepsRest}
use Rattle.copy_both.specs.declared.link_fault.LinkFault.{LinkFault}
use Rattle.copy_both.specs.declared.link_fault.LinkFault.TheVariants as fault
use Rattle.copy_both.specs.declared.session.Session.{Session}
use Rattle.copy_both.proofs.HearingLemmas.{over_stays, heard_none, HeardSome, heard_on, all_heard, fails_all}

-- ---- what is cut

no_frames : (c : FrameCut) → has_frame c ≡ false → frames_of c ≡ []
no_frames (Rest bytes) none = refl
no_frames (Bad fault bytes) none = refl
no_frames (Then frame more) none = absurd (let clash : true ≡ false = none in cc)

first_cut : (old new : Inbox) (frame : Frame) → GivesFrame old frame new
    → cut old.limit old.bytes ≡ Then frame (cut new.limit new.bytes)
first_cut old new frame gives =
    ap (cut old.limit) (sym (append-nil old.bytes)) ∙ gives.cuts []
    ∙ ap (λ (bytes : List ℕ). Then frame (cut old.limit bytes)) (append-nil new.bytes)
    ∙ ap (λ (n : ℕ). Then frame (cut n new.bytes)) (sym gives.limit)

-- ---- what stays

pub same_served : (old new : Session) (before after : Book) → KeepsRest old new before after
    → served_by new after ≡ served_by old before
same_served old new before after kept =
    ap (λ (x : CheckedOf). record { checked = x; commits = length (book_log after) }) kept.checked
    ∙ ap (λ (x : List CommitOf). record { checked = session_checked old; commits = length x }) kept.book.log

pub keeps_on : (first old new : Session) (one before after : Book) → KeepsRest first old one before
    → KeepsRest old new before after
    → KeepsRest first new one after
keeps_on first old new one before after early late = record {
  checked = late.checked ∙ early.checked;
  book = record {
    checked = late.book.checked ∙ early.book.checked;
    limit = late.book.limit ∙ early.book.limit;
    rows = λ table number value. late.book.rows table number value ∙ early.book.rows table number value;
    log = late.book.log ∙ early.book.log;
    slots_are = refl;
  };
}

pub keeps_all : (session : Session) (book : Book) → KeepsRest session session book book
keeps_all session book = record {
  checked = refl;
  book = record { checked = refl; limit = refl; rows = λ table number value. refl; log = refl; slots_are = refl };
}

-- ---- frame by frame

-- the first of the frames that were held at first were heard, and the others are held
pub record IsListening (served : ServedFrom) (start now : HearingOf) (first held : Inbox) : Type 0 where
  pub some : HeardSome served start now (held_frames first) (held_frames held)
  pub rest : rest_of (cut held.limit held.bytes) ≡ rest_of (cut first.limit first.bytes)
  pub limit : held.limit ≡ first.limit
  pub fault : held.fault ≡ first.fault

pub listens_first : (served : ServedFrom) (start : HearingOf) (inbox : Inbox)
    → IsListening served start start inbox inbox
listens_first served start inbox = record {
  some = (0, record { now_is = sym (heard_none served start); left_is = refl });
  rest = refl;
  limit = refl;
  fault = refl;
}

pub listens_on : (served : ServedFrom) (start now new : HearingOf) (first held next : Inbox) (frame : Frame)
    → IsListening served start now first held
    → is_over now ≡ false → GivesFrame held frame next → new ≡ next_heard served frame now.started now
    → IsListening served start new first next
listens_on served start now new first held next frame listens going gives is =
    let front_is : held_frames held ≡ frame ∷ held_frames next = ap frames_of (first_cut held next frame gives) in
    record {
      some =
          heard_on served start now new (held_frames first) frame (held_frames next)
          (subst (λ (left : List Frame). HeardSome served start now (held_frames first) left) front_is listens.some)
          (is ∙ sym (ap (λ b. unless_over b now (next_heard served frame now.started now)) going));
      rest = sym (ap rest_of (first_cut held next frame gives)) ∙ listens.rest;
      limit = gives.limit ∙ listens.limit;
      fault = gives.fault ∙ listens.fault;
    }

-- no further frame is whole
pub heard_whole : (served : ServedFrom) (start now : HearingOf) (first held : Inbox)
    → IsListening served start now first held
    → has_frame (cut held.limit held.bytes) ≡ false → now ≡ frames_heard served start (held_frames first)
heard_whole served start now first held listens none =
    sym (all_heard served start now (held_frames first) (held_frames held) listens.some
    ∙ ap (frames_heard served now) (no_frames (cut held.limit held.bytes) none) ∙ heard_none served now)

pub rests : (served : ServedFrom) (start now : HearingOf) (first held : Inbox) → IsListening served start now first held
    → has_frame (cut held.limit held.bytes) ≡ false → held ≡ resting first
rests served start now first held listens none =
    let bytes_are : held.bytes ≡ rest_of (cut first.limit first.bytes) = sym (rest_left held.limit held.bytes none)
    ∙ listens.rest in
    ap (λ (bytes : List ℕ). record { limit = held.limit; bytes = bytes; fault = held.fault }) bytes_are
    ∙ ap (λ (limit : ℕ). record { limit = limit; bytes = rest_of (cut first.limit first.bytes); fault = held.fault })
    listens.limit
    ∙ ap (λ (fault : Option FrameFault). record
    { limit = first.limit; bytes = rest_of (cut first.limit first.bytes); fault = fault }) listens.fault

-- an end came
pub heard_over : (served : ServedFrom) (start now : HearingOf) (first held : Inbox)
    → IsListening served start now first held
    → is_over now ≡ true → now ≡ frames_heard served start (held_frames first)
heard_over served start now first held listens over =
    sym (all_heard served start now (held_frames first) (held_frames held) listens.some
    ∙ over_stays served now (held_frames held) over)

-- memory was refused
pub heard_part : (served : ServedFrom) (start now : HearingOf) (first held : Inbox)
    → IsListening served start now first held
    → FramesHeard served start now (held_frames first) (Err fault.OutOfMemory)
heard_part served start now first held listens = (listens.some.0, listens.some.1.now_is)

failed_by : (served : ServedFrom) (start now new : HearingOf) (first held next : Inbox) (frame : Frame) (f : LinkFault)
    → IsListening served start now first held → is_over now ≡ false → GivesFrame held frame next
    → next_heard served frame now.started now ≡ with_fault f new
    → frames_heard served start (held_frames first) ≡ with_fault f new
failed_by served start now new first held next frame f listens going gives is =
    let front_is : held_frames held ≡ frame ∷ held_frames next = ap frames_of (first_cut held next frame gives) in
    fails_all served start now (with_fault f new) (held_frames first) frame (held_frames next)
    (subst (λ (left : List Frame). HeardSome served start now (held_frames first) left) front_is listens.some)
    (ap (λ b. unless_over b now (next_heard served frame now.started now)) going ∙ is) refl

-- the next frame has a fault, or memory was refused
pub heard_fault : (f : LinkFault) (served : ServedFrom) (start now new : HearingOf) (first held next : Inbox)
    (frame : Frame)
    → IsListening served start now first held → is_over now ≡ false → GivesFrame held frame next
    → FailsBy f (next_heard served frame now.started now) now new
    → FramesHeard served start new (held_frames first) (Err f)
heard_fault fault.OutOfMemory served start now new first held next frame listens going gives is =
    (listens.some.0, is ∙ listens.some.1.now_is)
heard_fault fault.FrameTooLong served start now new first held next frame listens going gives is =
    failed_by served start now new first held next frame fault.FrameTooLong listens going gives is
heard_fault fault.BadLength served start now new first held next frame listens going gives is =
    failed_by served start now new first held next frame fault.BadLength listens going gives is
heard_fault (fault.Unexpected byte) served start now new first held next frame listens going gives is =
    failed_by served start now new first held next frame (fault.Unexpected byte) listens going gives is
heard_fault (fault.BadStart state) served start now new first held next frame listens going gives is =
    failed_by served start now new first held next frame (fault.BadStart state) listens going gives is
heard_fault fault.StatusAhead served start now new first held next frame listens going gives is =
    failed_by served start now new first held next frame fault.StatusAhead listens going gives is
heard_fault fault.Closed served start now new first held next frame listens going gives is =
    failed_by served start now new first held next frame fault.Closed listens going gives is

-- ---- what `next` returns

pub no_more : (served : ServedFrom) (start now : HearingOf) (first held : Inbox) (found : Option Frame) (next : Inbox)
    → IsListening served start now first held
    → ((frame : Frame) → found ≡ Some frame → ⊥) → Gives held found next
    → now ≡ frames_heard served start (held_frames first)
no_more served start now first held found next listens never gives =
    heard_whole served start now first held listens (gives_none held found next never gives).1

pub no_more_rests : (served : ServedFrom) (start now : HearingOf) (first held : Inbox) (found : Option Frame)
    (next : Inbox) → IsListening served start now first held
    → ((frame : Frame) → found ≡ Some frame → ⊥) → Gives held found next → next ≡ resting first
no_more_rests served start now first held found next listens never gives =
    (gives_none held found next never gives).0
    ∙ rests served start now first held listens (gives_none held found next never gives).1

gives_some : (found : Option Frame) (frame : Frame) (old new : Inbox) → found ≡ Some frame → Gives old found new
    → GivesFrame old frame new
gives_some found frame old new is gives = subst (λ (x : Option Frame). Gives old x new) is gives

-- a frame was heard, and what was agreed before it is what was agreed at first
pub goes_on : (served other : ServedFrom) (start now new : HearingOf) (first held next : Inbox) (found : Option Frame)
    (frame : Frame)
    → IsListening served start now first held → other ≡ served → is_over now ≡ false → found ≡ Some frame
    → Gives held found next
    → new ≡ next_heard other frame now.started now → IsListening served start new first next
goes_on served other start now new first held next found frame listens same going is gives heard =
    listens_on served start now new first held next frame listens going (gives_some found frame held next is gives)
    (heard ∙ ap (λ (s : ServedFrom). next_heard s frame now.started now) same)

pub stops_at : (f : LinkFault) (served other : ServedFrom) (start now new : HearingOf) (first held next : Inbox)
    (found : Option Frame) (frame : Frame)
    → IsListening served start now first held → other ≡ served → is_over now ≡ false → found ≡ Some frame
    → Gives held found next
    → FailsBy f (next_heard other frame now.started now) now new
    → FramesHeard served start new (held_frames first) (Err f)
stops_at f served other start now new first held next found frame listens same going is gives fails =
    heard_fault f served start now new first held next frame listens going (gives_some found frame held next is gives)
    (subst (λ (s : ServedFrom). FailsBy f (next_heard s frame now.started now) now new) same fails)

-- each reply that is wanted was in a frame of its own, so that with the bytes that are held they are no more than
-- were held at first
pub still_counted : (old new : Inbox) (found : Option Frame) (frame : Frame) (before after : ℕ) → found ≡ Some frame
    → Gives old found new
    → before + length old.bytes < 2 ^ 63 → after ≤ before + 1 → after + length new.bytes < 2 ^ 63
still_counted old new found frame before after is gives few more =
    let given : GivesFrame old frame new = gives_some found frame old new is gives in
    let shorter : length old.bytes ≡ length (framed frame ++ new.bytes) = ap length given.spelled in
    omega (arith, shorter, length-append (framed frame) new.bytes, few, more)

-- no end was heard, or one was
pub is_going : (ended : Option ℕ) (none : Bool) → is_some ended ≡ not none → none ≡ true → is_over_by None ended ≡ false
is_going None none is so = refl
is_going (Some kind) true is so = absurd cc
is_going (Some kind) false is so = absurd cc

pub is_ended : (ended : Option ℕ) (none : Bool) → is_some ended ≡ not none → none ≡ false → is_over_by None ended ≡ true
is_ended None true is so = absurd cc
is_ended None false is so = absurd cc
is_ended (Some kind) none is so = refl

-- ---- before any frame

pub nothing_heard : (session : Session) (book : Book) (inbox : Inbox) (piece : List ℕ) (sent : ℕ)
    → (count : ℕ) × Leaves session session book book (part_heard count session book inbox piece sent)
nothing_heard session book inbox piece sent =
    let start : HearingOf = hearing_view session (silence sent) book in
    let none : start ≡ frames_heard (served_by session book) start [] =
    sym (heard_none (served_by session book) start) in
    let same : ChangesSlots book book (book_slots book) =
    record { checked = refl; limit = refl; rows = λ table number value. refl; log = refl; slots_are = refl } in (
      0,
      record {
        checked = refl;
        started = ap (λ (h : HearingOf). h.started) none;
        confirmed = ap (λ (h : HearingOf). h.confirmed) none;
        response = ap (λ (h : HearingOf). h.response) none;
        book = subst (λ (h : HearingOf). ChangesSlots book book h.slots) none same;
      },
    )
