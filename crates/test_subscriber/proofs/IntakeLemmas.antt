-- What is heard of frames one after another is what is heard of all.
use Rattle.std.proofs.Common.{◌≡◌, ℕ, ◌<◌, false, List, [], ◌∷◌, ◌++◌, length, refl, sym, ap, subst, ◌∙◌, append-nil, arith, length-append}
use Rattle.std.specs.Prelude.{Option, Some, None, Ok, Err}
use Rattle.copy_frames.specs.Frames.{framed, FrameCut, Rest, Bad, Then, cut, after_frames}
use Rattle.copy_frames.specs.Inboxes.{Inbox, GivesFrame, Gives, has_frame}
use Rattle.copy_frames.specs.declared.frame.Frame.{Frame}
use Rattle.copy_frames.proofs.InboxLemmas.{rest_left, gives_none}
use Rattle.copy_frames.proofs.PieceLemmas.{rest_after}
use Rattle.filter_tree.specs.Memory.{TellsFault}
use Rattle.test_subscriber.specs.Answers.{Reaches, Stays, SameOutcome}
use Rattle.test_subscriber.specs.Copies.{sub_fault, RefusedBy}
use Rattle.test_subscriber.specs.Feeding.{length_fault, hear_frames, next_heard, StaysOf, StopsBy, StopsAmong, StopsFor}
use Rattle.test_subscriber.specs.Frames.{MachineHeard, heard_then, hear_frame, hear_cut}
use Rattle.test_subscriber.specs.Hearing.{MachineResult}
use Rattle.test_subscriber.specs.Intake.{HearsHeld}
use Rattle.test_subscriber.specs.Machine.{Machine, Alike, stopped}
use Rattle.test_subscriber.specs.declared.fault.SubFault.{SubFault}
use Rattle.test_subscriber.specs.declared.fault.SubFault.TheVariants as f
use Rattle.test_subscriber.proofs.AlikeLemmas.{alike_itself, alike_both}
use Rattle.test_subscriber.proofs.FrameAlikeLemmas.{frame_alike}

pub stopped_alike : (one other : Machine) → Alike one other → Alike (stopped one) (stopped other)
stopped_alike one other alike = record {
  phase = refl;
  position = alike.position;
  wants_reply = alike.wants_reply;
  kept = alike.kept;
  known = λ oid. refl;
  rows = alike.rows;
  work = alike.rows;
}

-- ---- the progress: these frames were heard, and the rest is cut this way

pub record HasHeard (whole left : FrameCut) (old new : Machine) : Type 0 where
  pub frames : List Frame
  pub first : after_frames frames left ≡ whole
  pub heard : Reaches new (hear_frames frames old)

pub heard_none : (whole : FrameCut) (machine : Machine) → HasHeard whole whole machine machine
heard_none whole machine = record { frames = []; first = refl; heard = alike_itself machine }

after_one_more : (frames : List Frame) (frame : Frame) (left : FrameCut)
    → after_frames (frames ++ frame ∷ []) left ≡ after_frames frames (Then frame left)
after_one_more [] frame left = refl
after_one_more (first ∷ frames) frame left = ap (Then first) (after_one_more frames frame left)

reaches_alike : (new : Machine) (one other : MachineResult) → SameOutcome one other → Reaches new one
    → Reaches new other
reaches_alike new (Ok one) (Ok other) same reaches = alike_both new one other reaches same
reaches_alike new (Ok one) (Err other) same reaches = absurd same
reaches_alike new (Err one) other same reaches = absurd reaches

then_none : (new : Machine) (outcome : MachineResult) → Reaches new outcome
    → Reaches new (next_heard outcome (hear_frames []))
then_none new (Ok reached) reaches = reaches
then_none new (Err fault) reaches = absurd reaches

hear_one_more : (frames : List Frame) (frame : Frame) (old middle new : Machine)
    → Reaches middle (hear_frames frames old)
    → Reaches new (hear_frame frame middle) → Reaches new (hear_frames (frames ++ frame ∷ []) old)
hear_one_more [] frame old middle new got more =
    then_none new (hear_frame frame old)
    (reaches_alike new (hear_frame frame middle) (hear_frame frame old) (frame_alike frame middle old got) more)
hear_one_more (first ∷ frames) frame old middle new got more =
    elim (hear_frame first old) as
    (λ outcome. Reaches middle (next_heard outcome (hear_frames frames))
    → Reaches new (next_heard outcome (hear_frames (frames ++ frame ∷ [])))) [
      | Ok reached ↦ (λ got. hear_one_more frames frame reached middle new got more)
      | Err fault ↦ (λ got. absurd got)
    ] got

gives_cut : (old : Inbox) (frame : Frame) (new : Inbox) → GivesFrame old frame new
    → cut old.limit old.bytes ≡ Then frame (cut old.limit new.bytes)
gives_cut old frame new gives =
    ap (cut old.limit) (sym (append-nil old.bytes)) ∙ gives.cuts []
    ∙ ap (λ bytes. Then frame (cut old.limit bytes)) (append-nil new.bytes)

heard_next : (whole : FrameCut) (limit : ℕ) (before : Inbox) (frame : Frame) (after : Inbox) (old middle new : Machine)
    → HasHeard whole (cut limit before.bytes) old middle → before.limit ≡ limit → GivesFrame before frame after
    → Reaches new (hear_frame frame middle)
    → HasHeard whole (cut limit after.bytes) old new
heard_next whole limit before frame after old middle new has same gives reaches = record {
  frames = has.frames ++ frame ∷ [];
  first = after_one_more has.frames frame (cut limit after.bytes)
      ∙ ap (after_frames has.frames)
      (sym (subst (λ l. cut l before.bytes ≡ Then frame (cut l after.bytes)) same
      (gives_cut before frame after gives)))
      ∙ has.first;
  heard = hear_one_more has.frames frame old middle new has.heard reaches;
}

gives_some : (before : Inbox) (found : Option Frame) (frame : Frame) (after : Inbox) → found ≡ Some frame
    → Gives before found after → GivesFrame before frame after
gives_some before found frame after is gives = subst (λ some. Gives before some after) is gives

-- what was held first was heard up to what is held now
pub record IsAt (start now : Inbox) (old new : Machine) : Type 0 where
  pub heard : HasHeard (cut start.limit start.bytes) (cut start.limit now.bytes) old new
  pub limit : now.limit ≡ start.limit
  pub fault : now.fault ≡ start.fault

pub at_next : (start before : Inbox) (found : Option Frame) (frame : Frame) (after : Inbox) (old middle new : Machine)
    → IsAt start before old middle
    → found ≡ Some frame → Gives before found after → Reaches new (hear_frame frame middle) → IsAt start after old new
at_next start before found frame after old middle new at is given reaches =
    let gives : GivesFrame before frame after = gives_some before found frame after is given in
    record {
      heard = heard_next (cut start.limit start.bytes) start.limit before frame after old middle new at.heard at.limit
          gives reaches;
      limit = gives.limit ∙ at.limit;
      fault = gives.fault ∙ at.fault;
    }

pub shorter : (before : Inbox) (frame : Frame) (after : Inbox) → GivesFrame before frame after
    → length after.bytes < length before.bytes
shorter before frame after gives = omega (arith, ap length gives.spelled, length-append (framed frame) after.bytes)

-- ---- if all is heard

record Matches (heard : MachineHeard) (fault : Option SubFault) (new : Machine) : Type 0 where
  fault_is : heard.fault ≡ fault
  reached : Alike new heard.machine

heard_all : (frames : List Frame) (left : FrameCut) (old new : Machine) → has_frame left ≡ false
    → Reaches new (hear_frames frames old)
    → Matches (hear_cut (after_frames frames left) old) (length_fault (after_frames frames left)) new
heard_all [] (Rest bytes) old new none reaches = record { fault_is = refl; reached = reaches }
heard_all [] (Bad fault bytes) old new none reaches = record { fault_is = refl; reached = reaches }
heard_all [] (Then frame more) old new none reaches = absurd cc
heard_all (first ∷ frames) left old new none reaches =
    elim (hear_frame first old) as (λ outcome. Reaches new (next_heard outcome (hear_frames frames))
    → Matches (heard_then old outcome (hear_cut (after_frames frames left))) (length_fault (after_frames frames left))
    new) [
      | Ok reached ↦ (λ reaches. heard_all frames left reached new none reaches)
      | Err fault ↦ (λ reaches. absurd reaches)
    ] reaches

pub hears_held : (start before : Inbox) (found : Option Frame) (after : Inbox) (old new : Machine)
    → IsAt start before old new
    → ((frame : Frame) → found ≡ Some frame → ⊥) → Gives before found after
    → HearsHeld (cut start.limit start.bytes) (hear_cut (cut start.limit start.bytes) old) start after new
hears_held start before found after old new at never gives =
    let whole : FrameCut = cut start.limit start.bytes in
    let has : HasHeard whole (cut start.limit before.bytes) old new = at.heard in
    let none : (after ≡ before) × (has_frame (cut before.limit before.bytes) ≡ false) =
    gives_none before found after never gives in
    let nothing : has_frame (cut start.limit before.bytes) ≡ false =
    subst (λ limit. has_frame (cut limit before.bytes) ≡ false) at.limit none.1 in
    let matches = heard_all has.frames (cut start.limit before.bytes) old new nothing has.heard in
    subst (λ inbox. HearsHeld whole (hear_cut whole old) start inbox new) (sym none.0)
    (subst (λ cut. HearsHeld cut (hear_cut cut old) start before new) has.first (record {
      fault = matches.fault_is;
      reached = matches.reached;
      held = sym (rest_after has.frames (cut start.limit before.bytes) ∙ rest_left start.limit before.bytes nothing);
      limit = at.limit;
      inbox_fault = at.fault;
    }))

-- ---- if it stops

stays_of : (outcome : MachineResult) (middle new : Machine) → Reaches middle outcome → Alike new (stopped middle)
    → StaysOf outcome new
stays_of (Ok reached) middle new got stays =
    alike_both new (stopped middle) (stopped reached) stays (stopped_alike middle reached got)
stays_of (Err fault) middle new got stays = absurd got

stops_among : (whole left : FrameCut) (old middle new : Machine) → HasHeard whole left old middle
    → Alike new (stopped middle) → StopsAmong whole old new
stops_among whole left old middle new has stays = record {
  frames = has.frames;
  rest = left;
  first = has.first;
  stays = stays_of (hear_frames has.frames old) middle new has.heard stays;
}

error_alike : (one other : MachineResult) (fault : SubFault) → SameOutcome one other → one ≡ Err fault
    → other ≡ Err fault
error_alike (Ok one) other fault same is = absurd cc
error_alike (Err one) (Ok other) fault same is = absurd same
error_alike (Err one) (Err other) fault same is = cc

stops_at : (frames : List Frame) (frame : Frame) (more : FrameCut) (old middle new : Machine) (fault : SubFault)
    → Reaches middle (hear_frames frames old)
    → hear_frame frame middle ≡ Err fault → Alike new (stopped middle)
    → StopsBy fault (hear_cut (after_frames frames (Then frame more)) old) new
stops_at [] frame more old middle new fault got is stays =
    subst (λ outcome. StopsBy fault (heard_then old outcome (hear_cut more)) new)
    (sym (error_alike (hear_frame frame middle) (hear_frame frame old) fault (frame_alike frame middle old got) is))
    (record {
      fault_is = refl;
      stays =
          alike_both new (stopped middle) (stopped old) stays (stopped_alike middle old got);
    })
stops_at (first ∷ frames) frame more old middle new fault got is stays =
    elim (hear_frame first old) as (λ outcome. Reaches middle (next_heard outcome (hear_frames frames))
    → StopsBy fault (heard_then old outcome (hear_cut (after_frames frames (Then frame more)))) new) [
      | Ok reached ↦ (λ got. stops_at frames frame more reached middle new fault got is stays)
      | Err other ↦ (λ got. absurd got)
    ] got

stops_by : (tells : Option SubFault) (whole : FrameCut) (frame : Frame) (more : FrameCut) (old middle new : Machine)
    → HasHeard whole (Then frame more) old middle
    → TellsFault tells (hear_frame frame middle) → Alike new (stopped middle)
    → StopsFor tells (hear_cut whole old) whole old new
stops_by None whole frame more old middle new has refused stays =
    stops_among whole (Then frame more) old middle new has stays
stops_by (Some fault) whole frame more old middle new has refused stays =
    subst (λ cut. StopsBy fault (hear_cut cut old) new) has.first
    (stops_at has.frames frame more old middle new fault has.heard refused stays)

-- a frame was returned and refused
pub stops_after : (start before : Inbox) (found : Option Frame) (frame : Frame) (after : Inbox)
    (old middle new : Machine) (error : SubFault)
    → IsAt start before old middle → found ≡ Some frame → Gives before found after
    → RefusedBy (hear_frame frame middle) error → Stays middle new
    → StopsFor (sub_fault error) (hear_cut (cut start.limit start.bytes) old) (cut start.limit start.bytes) old
    (stopped new)
stops_after start before found frame after old middle new error at is given refused stays =
    let gives : GivesFrame before frame after = gives_some before found frame after is given in
    let next : cut start.limit before.bytes ≡ Then frame (cut start.limit after.bytes) =
    subst (λ l. cut l before.bytes ≡ Then frame (cut l after.bytes)) at.limit (gives_cut before frame after gives) in
    stops_by (sub_fault error) (cut start.limit start.bytes) frame (cut start.limit after.bytes) old middle
    (stopped new)
    (subst (λ left. HasHeard (cut start.limit start.bytes) left old middle) next at.heard) refused stays

-- no frame could be returned
pub stops_there : (whole left : FrameCut) (old middle : Machine) (error : SubFault) → HasHeard whole left old middle
    → error ≡ f.OutOfMemory
    → StopsFor (sub_fault error) (hear_cut whole old) whole old (stopped middle)
stops_there whole left old middle error has is =
    subst (λ e. StopsFor (sub_fault e) (hear_cut whole old) whole old (stopped middle)) (sym is)
    (stops_among whole left old middle (stopped middle) has (alike_itself (stopped middle)))
