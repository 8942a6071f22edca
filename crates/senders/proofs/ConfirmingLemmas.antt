-- Up to where a client confirmed the log, after each piece and at the end.
use Rattle.std.proofs.Common.{◌≡◌, ◌≢◌, ℕ, ◌≤◌, List, [], ◌∷◌, ◌++◌, refl, sym, ◌∙◌, ap, subst, append-nil, append_assoc}
use Rattle.std.specs.Prelude.{Bool, Option, Some, None, Result, Ok, Err}
use Rattle.copy_frames.specs.Frames.{fault_in}
use Rattle.copy_frames.specs.declared.frame.Frame.{Frame}
use Rattle.copy_both.specs.ConfirmedFrames.{AreUnheard, HasConfirmedAll, HasConfirmedIf, StopsAt, UnheardAt}
use Rattle.copy_both.specs.HeardFrames.{frames_in}
use Rattle.copy_both.specs.declared.heard.Heard.{Heard}
use Rattle.copy_both.specs.declared.link_fault.LinkFault.{LinkFault}
use Rattle.copy_both.specs.declared.link_fault.LinkFault.TheVariants as fault
use Rattle.copy_both.proofs.ConfirmedHeard.{stops_lower, stops_other}
use Rattle.publisher_desk.specs.SlotSights.{BeginsWith}
use Rattle.publisher_desk.specs.declared.slot_event.SlotEvent.{SlotEvent}
use Rattle.publisher_desk.specs.declared.slot_event.SlotEvent.TheVariants.{Confirmed}
use Rattle.senders.specs.Confirming.{ConfirmsBy, FitsEnd, HasReported, IsRefusedAt, ReportsIf, StopsFor}
use Rattle.senders.specs.Refusing.{cause_by, fault_by, fault_after}
use Rattle.senders.specs.Running as running
use Rattle.senders.specs.Running.{IsEndOf, Memory, Whole, Writing}
use Rattle.senders.specs.declared.end.End.{End}
use Rattle.senders.specs.declared.end.End.TheVariants as end
use Rattle.senders.specs.declared.listener_end.ListenerEnd.{ListenerEnd}
use Rattle.senders.specs.declared.listener_end.ListenerEnd.TheVariants as listener_end

-- ---- a piece

no_fault_ahead : None ≢ Some fault.StatusAhead
no_fault_ahead same = let no : None ≡ Some fault.StatusAhead = same in cc

unheard_ended : (low high : ℕ) (rest : List Frame) (ended : Option ℕ) → UnheardAt high rest ended
    → UnheardAt low rest ended
unheard_ended low high rest None unheard = unheard
unheard_ended low high rest (Some kind) unheard =
    (unheard.0, stops_other None low high no_fault_ahead rest unheard.1)

-- by another position that was sent, which is lower if a status was ahead
unheard_lower : (low high : ℕ) (rest : List Frame) (heard : Result Heard LinkFault)
    → (heard ≡ Err fault.StatusAhead → low ≤ high) → AreUnheard high rest heard → AreUnheard low rest heard
unheard_lower low high rest (Ok heard) less unheard = unheard_ended low high rest heard.ended unheard
unheard_lower low high rest (Err fault.OutOfMemory) less unheard = tt
unheard_lower low high rest (Err fault.StatusAhead) less unheard =
    stops_lower (Some fault.StatusAhead) low high (less refl) rest unheard
unheard_lower low high rest (Err fault.FrameTooLong) less unheard =
    stops_other (Some fault.FrameTooLong) low high (λ same. cc) rest unheard
unheard_lower low high rest (Err fault.BadLength) less unheard =
    stops_other (Some fault.BadLength) low high (λ same. cc) rest unheard
unheard_lower low high rest (Err (fault.Unexpected byte)) less unheard =
    stops_other (Some (fault.Unexpected byte)) low high (λ same. cc) rest unheard
unheard_lower low high rest (Err (fault.BadStart state)) less unheard =
    stops_other (Some (fault.BadStart state)) low high (λ same. cc) rest unheard
unheard_lower low high rest (Err fault.Closed) less unheard =
    stops_other (Some fault.Closed) low high (λ same. cc) rest unheard

pub confirms_lower : (started : Option (ℕ × ℕ)) (number : ℕ) (events : List SlotEvent) (frames : List Frame)
    (low high : ℕ) (heard : Result Heard LinkFault) (confirmed : ℕ)
    → (heard ≡ Err fault.StatusAhead → (s : ℕ × ℕ) → started ≡ Some s
    → (low ≤ high) × IsRefusedAt s number events low)
    → HasConfirmedIf started frames high heard confirmed → ConfirmsBy started number events frames heard confirmed
confirms_lower None number events frames low high heard confirmed less has = has
confirms_lower (Some s) number events frames low high heard confirmed less has = record {
  sent = low;
  refused = λ ahead. (less ahead s refl).1;
  has = record {
    first = has.first;
    front = has.front;
    rest = has.rest;
    frames_are = has.frames_are;
    statuses = has.statuses;
    confirmed_is = has.confirmed_is;
    unheard = unheard_lower low high has.rest heard (λ ahead. (less ahead s refl).0) has.unheard;
  };
}

-- nothing more was heard, since memory was refused
pub confirms_nothing : (started : Option (ℕ × ℕ)) (number : ℕ) (events : List SlotEvent)
    (frames all more : List Frame) (confirmed : ℕ) → all ≡ frames ++ more → HasConfirmedAll started frames confirmed
    → ConfirmsBy started number events all (Err fault.OutOfMemory) confirmed
confirms_nothing None number events frames all more confirmed split has = has
confirms_nothing (Some s) number events frames all more confirmed split has = record {
  sent = 0;
  refused = λ ahead. cc;
  has = record {
    first = has.first;
    front = has.others;
    rest = more;
    frames_are = split ∙ ap (λ (x : List Frame). x ++ more) has.frames_are;
    statuses = has.statuses;
    confirmed_is = has.confirmed_is;
    unheard = tt;
  };
}

-- all frames were heard
pub confirms_all : (started : Option (ℕ × ℕ)) (number : ℕ) (events : List SlotEvent) (frames : List Frame)
    (heard : Heard) (confirmed : ℕ) → heard.ended ≡ None → ConfirmsBy started number events frames (Ok heard) confirmed
    → HasConfirmedAll started frames confirmed
confirms_all None number events frames heard confirmed on has = has
confirms_all (Some s) number events frames heard confirmed on from =
    let has = from.has in
    let none : has.rest ≡ [] = subst (UnheardAt from.sent has.rest) on has.unheard in
    record {
      first = has.first;
      others = has.front;
      frames_are = has.frames_are ∙ ap (λ (x : List Frame). has.first ∷ has.front ++ x) none
          ∙ ap (λ (x : List Frame). has.first ∷ x) (append-nil has.front);
      statuses = has.statuses;
      confirmed_is = has.confirmed_is;
    }

-- ---- the end

stops_ended : (first : ℕ) (rest : List Frame) (ended : Option ℕ) → UnheardAt first rest ended
    → StopsAt None first rest
stops_ended first rest None none = subst (StopsAt None first) (sym none) tt
stops_ended first rest (Some kind) stops = stops.1

stops_by : (start : ℕ) (rest : List Frame) (f : LinkFault) → AreUnheard start rest (Err f)
    → StopsFor (Some f) start rest
stops_by start rest fault.OutOfMemory unheard = tt
stops_by start rest fault.StatusAhead unheard = unheard
stops_by start rest fault.FrameTooLong unheard = unheard
stops_by start rest fault.BadLength unheard = unheard
stops_by start rest (fault.Unexpected byte) unheard = unheard
stops_by start rest (fault.BadStart state) unheard = unheard
stops_by start rest fault.Closed unheard = unheard

its_fault : (f g : LinkFault) → ◌≡◌ {A = Option LinkFault} (Some f) (Some g)
    → ◌≡◌ {A = Result Heard LinkFault} (Err f) (Err g)
its_fault f g same = let alike : f ≡ g = cc in ap (λ (x : LinkFault). Err x) alike

-- of more events
refused_more : (started : ℕ × ℕ) (number : ℕ) (events later : List SlotEvent) (sent : ℕ) → BeginsWith later events
    → IsRefusedAt started number events sent → IsRefusedAt started number later sent
refused_more started number events later sent begins at = record {
  before = at.before;
  one = at.one;
  after = at.after ++ begins.0;
  events_are = begins.1 ∙ (ap (λ (list : List SlotEvent). list ++ begins.0) at.events_are
      ∙ append_assoc at.before (Confirmed at.one ∷ at.after) begins.0);
  ahead = at.ahead;
  slot_is = at.slot_is;
  own = at.own;
  sent_is = at.sent_is;
}

pub reports_more : (bytes : List ℕ) (started : ℕ × ℕ) (number : ℕ) (events later : List SlotEvent)
    (found : Option LinkFault) (confirmed : ℕ) → BeginsWith later events
    → HasReported bytes started number events found confirmed
    → HasReported bytes started number later found confirmed
reports_more bytes started number events later found confirmed begins has = record {
  first = has.first;
  front = has.front;
  rest = has.rest;
  frames_are = has.frames_are;
  statuses = has.statuses;
  confirmed_is = has.confirmed_is;
  sent = has.sent;
  refused = λ ahead. refused_more started number events later has.sent begins (has.refused ahead);
  stops = has.stops;
  whole = has.whole;
}

-- a frame ended it
pub reports_frame : (started : Option (ℕ × ℕ)) (number : ℕ) (events : List SlotEvent) (bytes : List ℕ) (heard : Heard)
    (kind confirmed : ℕ) → heard.ended ≡ Some kind
    → ConfirmsBy started number events (frames_in bytes) (Ok heard) confirmed
    → ReportsIf started number events bytes None confirmed
reports_frame None number events bytes heard kind confirmed some has = has
reports_frame (Some s) number events bytes heard kind confirmed some from =
    let has = from.has in
    let unheard : UnheardAt from.sent has.rest (Some kind) =
    subst (UnheardAt from.sent has.rest) some has.unheard in
    record {
      sent = from.sent;
      refused = λ ahead. absurd (no_fault_ahead ahead);
      first = has.first;
      front = has.front;
      rest = has.rest;
      frames_are = has.frames_are;
      statuses = has.statuses;
      confirmed_is = has.confirmed_is;
      stops = unheard.1;
      whole = λ none sound. absurd (unheard.0 none);
    }

-- a fault did
pub reports_fault : (started : Option (ℕ × ℕ)) (number : ℕ) (events : List SlotEvent) (bytes : List ℕ)
    (f : LinkFault) (confirmed : ℕ) → ConfirmsBy started number events (frames_in bytes) (Err f) confirmed
    → ReportsIf started number events bytes (Some f) confirmed
reports_fault None number events bytes f confirmed has = has
reports_fault (Some s) number events bytes f confirmed from = record {
  sent = from.sent;
  refused = λ ahead. from.refused (its_fault f fault.StatusAhead ahead);
  first = from.has.first;
  front = from.has.front;
  rest = from.has.rest;
  frames_are = from.has.frames_are;
  statuses = from.has.statuses;
  confirmed_is = from.has.confirmed_is;
  stops = stops_by from.sent from.has.rest f from.has.unheard;
  whole = λ none sound. absurd (let no : Some f ≡ None = sound in cc);
}

-- all frames were heard, and nothing has a fault
pub reports_all : (started : Option (ℕ × ℕ)) (number : ℕ) (events : List SlotEvent) (bytes : List ℕ) (confirmed : ℕ)
    → fault_in 65536 bytes ≡ None → HasConfirmedAll started (frames_in bytes) confirmed
    → ReportsIf started number events bytes None confirmed
reports_all None number events bytes confirmed good has = has
reports_all (Some s) number events bytes confirmed good has = record {
  sent = 0;
  refused = λ ahead. absurd (no_fault_ahead ahead);
  first = has.first;
  front = has.others;
  rest = [];
  frames_are = has.frames_are ∙ ap (λ (x : List Frame). has.first ∷ x) (sym (append-nil has.others));
  statuses = has.statuses;
  confirmed_is = has.confirmed_is;
  stops = tt;
  whole = λ none sound. good;
}

-- the listener that ended with this fault
pub fault_end : (why : ListenerEnd) (f : LinkFault) → fault_by why ≡ Some f → why ≡ listener_end.Fault f
fault_end listener_end.SourceFailed f is = absurd cc
fault_end listener_end.SourceEnded f is = absurd cc
fault_end (listener_end.Frame kind) f is = absurd cc
fault_end (listener_end.Fault g) f is = let same : g ≡ f = cc in ap (λ (x : LinkFault). listener_end.Fault x) same

pub fault_ended : (why : Option ListenerEnd) (f : LinkFault) → fault_after why ≡ Some f
    → why ≡ Some (listener_end.Fault f)
fault_ended None f is = absurd cc
fault_ended (Some why) f is = ap (λ (x : ListenerEnd). Some x) (fault_end why f is)

-- ---- the fault and the end

fits_cause : (ending : ListenerEnd) (f : LinkFault) → cause_by ending ≡ end.Link f → fault_by ending ≡ Some f
fits_cause listener_end.SourceFailed f same = absurd cc
fits_cause listener_end.SourceEnded f same = absurd cc
fits_cause (listener_end.Frame kind) f same = absurd cc
fits_cause (listener_end.Fault g) f same = let alike : g ≡ f = cc in ap (λ (x : LinkFault). Some x) alike

-- a fault that ended it, other than out of memory, is the listener's
link_fits : (why : Option ListenerEnd) (failed : Bool) (is : End) (f : LinkFault) → IsEndOf why failed is
    → is ≡ end.Link f → f ≢ fault.OutOfMemory → fault_after why ≡ Some f
link_fits why failed is f (Writing same fails) link other = absurd (let no : end.WriteFault ≡ end.Link f = sym same ∙ link in cc)
link_fits why failed is f (Memory same) link other =
    absurd (let both : end.Link fault.OutOfMemory ≡ end.Link f = sym same ∙ link in
    let alike : fault.OutOfMemory ≡ f = cc in other (sym alike))
link_fits why failed is f (Whole ending some same) link other = absurd (let no : end.Finished ≡ end.Link f = sym same ∙ link in cc)
link_fits why failed is f (running.Heard ending some same) link other =
    ap fault_after some ∙ fits_cause ending f (sym same ∙ link)

memory_fits : (why : Option ListenerEnd) (is : End)
    → (why ≡ Some (listener_end.Fault fault.OutOfMemory) → is ≡ end.Link fault.OutOfMemory)
    → is ≢ end.Link fault.OutOfMemory → fault_after why ≢ Some fault.OutOfMemory
memory_fits why is refused other found = other (refused (fault_ended why fault.OutOfMemory found))

fits_link : (f : LinkFault) (found : Option LinkFault) → (f ≢ fault.OutOfMemory → found ≡ Some f)
    → FitsEnd (end.Link f) found
fits_link fault.OutOfMemory found fits = tt
fits_link fault.StatusAhead found fits = fits (λ same. cc)
fits_link fault.FrameTooLong found fits = fits (λ same. cc)
fits_link fault.BadLength found fits = fits (λ same. cc)
fits_link (fault.Unexpected byte) found fits = fits (λ same. cc)
fits_link (fault.BadStart state) found fits = fits (λ same. cc)
fits_link fault.Closed found fits = fits (λ same. cc)

-- by both
fits_by : (is : End) (found : Option LinkFault)
    → ((f : LinkFault) → is ≡ end.Link f → f ≢ fault.OutOfMemory → found ≡ Some f)
    → (is ≢ end.Link fault.OutOfMemory → found ≢ Some fault.OutOfMemory) → FitsEnd is found
fits_by (end.Link f) found link memory = fits_link f found (link f refl)
fits_by end.ReadFault found link memory = memory (λ same. cc)
fits_by end.WriteFault found link memory = memory (λ same. cc)
fits_by end.Client found link memory = memory (λ same. cc)
fits_by end.Finished found link memory = memory (λ same. cc)

pub stream_fits : (why : Option ListenerEnd) (failed : Bool) (is : End) → IsEndOf why failed is
    → (why ≡ Some (listener_end.Fault fault.OutOfMemory) → is ≡ end.Link fault.OutOfMemory) → FitsEnd is (fault_after why)
stream_fits why failed is ends refused =
    fits_by is (fault_after why) (λ f link other. link_fits why failed is f ends link other)
    (memory_fits why is refused)

pub listener_fits : (why : ListenerEnd) → FitsEnd (cause_by why) (fault_by why)
listener_fits listener_end.SourceFailed = λ same. cc
listener_fits listener_end.SourceEnded = λ same. cc
listener_fits (listener_end.Frame kind) = λ same. cc
listener_fits (listener_end.Fault f) = fits_link f (Some f) (λ other. refl)
