-- What was written of a stream, from its first bytes to its last.
use Rattle.std.proofs.Common.{◌≡◌, ℕ, List, [], ◌++◌, length, map, refl, sym, ◌∙◌, ap, subst, append_assoc, append-nil}
use Rattle.std.specs.Prelude.{◌≢◌, ◌||◌, All, Bool, true, false, Option, Some, None}
use Rattle.std.specs.Arc.{arc_value}
use Rattle.std.specs.Io.KnownBytes.{Appends}
use Rattle.std.proofs.KnownBytes.{Appends-trans}
use Rattle.shard_checker.specs.CheckedView.{CheckedOf}
use Rattle.tables_log.specs.Commits.{CommitOf}
use Rattle.copy_frames.specs.Contents.{copy_both_response, copy_done}
use Rattle.copy_both.specs.LinkLaws.{started_at}
use Rattle.copy_both.specs.Streams.{Move, stream}
use Rattle.tables_log.specs.Lsn.{commits_before}
use Rattle.copy_both.specs.StreamLaws.{Start}
use Rattle.copy_both.specs.Tellings.{telling_of}
use Rattle.copy_both.specs.VoiceLaws.{AreAt, Follow, VoiceRun, start_count, takes_in}
use Rattle.copy_both.specs.Voices.{voice_output}
use Rattle.copy_both.specs.declared.link_fault.LinkFault.TheVariants as fault
use Rattle.copy_both.specs.declared.voice.Voice.{Voice}
use Rattle.senders.specs.declared.end.End.{End}
use Rattle.senders.specs.declared.end.End.TheVariants as end
use Rattle.senders.specs.declared.outcome.Outcome.{Outcome}
use Rattle.std.proofs.lemmas.List.Elements.{All-nil}
use Rattle.stream_laws.specs.LayoutRoom.{IsClocked}
use Rattle.senders.specs.Causes.{chosen, chosen_by, end_by, goes_first, is_refused, unopened_by}
use Rattle.senders.specs.Listening.{HasEnded}
use Rattle.senders.specs.Refusing.{cause_by, fault_after}
use Rattle.senders.specs.Running.{Concludes, IsEndOf, IsWithout, Memory, Writing, Whole, Heard, Streams}
use Rattle.senders.specs.Sending.{Breaks, Follows, GoesOn, Spells, StopsAs, started_telling}
use Rattle.senders.specs.Results.{commits_of}
use Rattle.senders.specs.Speaking.{Answers, Closes, FailsToOpen, IsClosing, Nothing, Opens, Refused, SaysLast, SaysNothing, WritesPart}
use Rattle.senders.specs.declared.listener_end.ListenerEnd.{ListenerEnd}
use Rattle.senders.specs.declared.listener_end.ListenerEnd.TheVariants as listener_end
use Rattle.senders.specs.declared.running.Sent.{Sent}
use Rattle.senders.specs.declared.sender_end.SenderEnd.{SenderEnd}
use Rattle.senders.specs.declared.sender_end.SenderEnd.TheVariants as sender_end
use Rattle.senders.proofs.SendingLemmas.{spells}

-- What was passed on and what waits are together the stream of these commits.
pub record Wrote (checked : CheckedOf) (slot start : ℕ) (taken : List CommitOf) (passed output : List ℕ) : Type 0 where
  pub follow : Follow (commits_before start) taken
  pub moves : List Move
  pub clocks : All IsClocked moves
  pub takes : takes_in moves ≡ length taken
  pub bytes : (log : List CommitOf) → AreAt log (commits_before start) taken
      → passed ++ output ≡ stream (telling_of checked) log slot (length checked.catalog.tables) start moves

-- CopyDone was said where the client said it, unless memory was refused, which is then reported
answered_by : (was now : SenderEnd) (why : Option ListenerEnd) (last : List ℕ) (is : End)
    → (now ≡ sender_end.OutOfMemory → is ≡ end.Link fault.OutOfMemory) → IsClosing was now why last
    → is ≢ end.Link fault.OutOfMemory → why ≡ Some (listener_end.Frame 99) → last ≡ copy_done
answered_by was now why last is refused (Refused same) other done = absurd (other (refused same))
answered_by was now why last is refused (Answers same answers) other done = answers done

whole_last : (written rest last : List ℕ) → written ++ rest ≡ last → rest ≡ [] → written ≡ last
whole_last written rest last bytes none =
    sym (append-nil written) ∙ ap (λ (x : List ℕ). written ++ x) (sym none) ∙ bytes

module _ (checked : CheckedOf) (slot start : ℕ) where
  wrote : (taken : List CommitOf) (now : VoiceRun) (bytes output : List ℕ) → All IsClocked now.moves
      → Follows (started_telling checked slot start copy_both_response) now taken bytes → Spells now output []
      → Wrote checked slot start taken (copy_both_response ++ bytes) output
  wrote taken now bytes output clocks follows spelled =
      let position : start_count now ≡ commits_before start =
      ap (λ (s : Start). commits_before s.position) follows.start_is in
      let here : Start = started_at checked (slot, start) in
      record {
        follow = subst (Follow (commits_before start)) follows.taken_is
            (subst (λ (n : ℕ). Follow n now.taken) position spelled.follow);
        moves = now.moves;
        clocks = clocks;
        takes = spelled.takes ∙ ap length follows.taken_is;
        bytes = λ log are.
            let at : AreAt log (start_count now) now.taken =
            subst (λ (n : ℕ). AreAt log n now.taken) (sym position)
            (subst (AreAt log (commits_before start)) (sym follows.taken_is) are) in
            ap (λ (passed : List ℕ). passed ++ output) (sym follows.passed_is) ∙ spelled.bytes log at
            ∙ append-nil (stream (telling_of now.checked) log now.start.slot now.start.tables now.start.position
            now.moves)
            ∙ ap (λ (k : CheckedOf). stream (telling_of k) log now.start.slot now.start.tables now.start.position
            now.moves) follows.checked_is
            ∙ ap (λ (s : Start). stream (telling_of checked) log s.slot s.tables s.position now.moves) follows.start_is;
      }

  module _ (before opened sent last : Option (List ℕ)) (put : Appends before opened copy_both_response)
      (taken : List CommitOf) (voice : Voice) (why : Option ListenerEnd) (was_failed failed : Bool)
      (served : Outcome) (slot_is : served.slot ≡ Some slot) (start_is : served.start ≡ Some start)
      (taken_is : commits_of served ≡ taken) (ends : IsEndOf why failed served.end)
      (fault_is : served.fault ≡ fault_after why)
      (refused : why ≡ Some (listener_end.Fault fault.OutOfMemory) → served.end ≡ end.Link fault.OutOfMemory) where
    after_all : (was now : SenderEnd) → GoesOn opened sent taken voice (started_telling checked slot start copy_both_response)
        → Closes was now why sent last failed
        → (now ≡ sender_end.OutOfMemory → served.end ≡ end.Link fault.OutOfMemory)
        → Streams checked slot start before last failed why served
    after_all was now goes closes unanswered =
        let front : List ℕ = copy_both_response ++ goes.bytes in
        let w : Wrote checked slot start taken front (voice_output voice) =
        wrote taken goes.now goes.bytes (voice_output voice) goes.clocks goes.follows
        (spells voice goes.now goes.quiet.tells) in
        record {
          slot_is = slot_is;
          start_is = start_is;
          written = front ++ closes.written;
          put = Appends-trans before sent last front closes.written
              (Appends-trans before opened sent copy_both_response goes.bytes put goes.put) closes.put;
          follow = subst (Follow (commits_before start)) (sym taken_is) w.follow;
          moves = w.moves;
          clocks = w.clocks;
          takes = w.takes ∙ ap length (sym taken_is);
          rest = closes.rest;
          last = closes.last;
          said = closes.said;
          bytes = λ log are.
              append_assoc front closes.written closes.rest ∙ ap (λ (x : List ℕ). front ++ x) closes.bytes
              ∙ ap (λ (x : List ℕ). x ++ closes.last)
              (sym (append-nil front) ∙ ap (λ (x : List ℕ). front ++ x) (sym goes.quiet.none)
              ∙ w.bytes log (subst (AreAt log (commits_before start)) taken_is are));
          all = λ sound memory. closes.all sound;
          whole = λ finished. record { front = closes.written; list_is = sym closes.bytes };
          answered = λ sound other done. record {
            front = front;
            list_is = ap (λ (x : List ℕ). front ++ x)
                (whole_last closes.written closes.rest closes.last closes.bytes (closes.all sound)
                ∙ answered_by was now why closes.last served.end unanswered closes.closing other done);
          };
          ends = ends;
          fault_is = fault_is;
          refused = refused;
        }

    after_part : (was now : SenderEnd) → Breaks opened sent taken voice (started_telling checked slot start copy_both_response)
        → SaysNothing was now sent last was_failed failed
        → (failed ≡ false → voice_output voice ≡ []) → (served.end ≡ end.Finished → ⊥)
        → (failed ≡ false → served.end ≢ end.Link fault.OutOfMemory → ⊥)
        → Streams checked slot start before last failed why served
    after_part was now breaks says all unfinished not_left =
        let front : List ℕ = copy_both_response ++ breaks.bytes in
        let w : Wrote checked slot start taken front (voice_output voice) =
        wrote taken breaks.now breaks.bytes (voice_output voice) breaks.clocks breaks.follows breaks.spells in
        record {
          slot_is = slot_is;
          start_is = start_is;
          written = front ++ [];
          put = Appends-trans before sent last front []
              (Appends-trans before opened sent copy_both_response breaks.bytes put breaks.put) says.put;
          follow = subst (Follow (commits_before start)) (sym taken_is) w.follow;
          moves = w.moves;
          clocks = w.clocks;
          takes = w.takes ∙ ap length (sym taken_is);
          rest = voice_output voice;
          last = [];
          said = Nothing refl;
          bytes = λ log are.
              ap (λ (x : List ℕ). x ++ voice_output voice) (append-nil front)
              ∙ w.bytes log (subst (AreAt log (commits_before start)) taken_is are)
              ∙ sym (append-nil (stream (telling_of checked) log slot (length checked.catalog.tables) start w.moves));
          all = λ sound memory. all sound;
          whole = λ finished. absurd (unfinished finished);
          answered = λ sound other done. absurd (not_left sound other);
          ends = ends;
          fault_is = fault_is;
          refused = refused;
        }

-- ---- the causes that streams have

pub heard_unfinished : (why : ListenerEnd) → cause_by why ≡ end.Finished → ⊥
heard_unfinished listener_end.SourceFailed is = cc
heard_unfinished listener_end.SourceEnded is = cc
heard_unfinished (listener_end.Frame kind) is = cc
heard_unfinished (listener_end.Fault fault) is = cc

stop_unfinished : (s : SenderEnd) → (s ≡ sender_end.Finished → ⊥) → end_by s ≡ end.Finished → ⊥
stop_unfinished sender_end.ConnectionEnded not is = cc
stop_unfinished sender_end.Finished not is = not refl
stop_unfinished sender_end.WriteFault not is = cc
stop_unfinished sender_end.OutOfMemory not is = cc

by_unfinished : (s : SenderEnd) (is_first : Bool) (why : ListenerEnd) → (s ≡ sender_end.Finished → ⊥)
    → chosen_by s is_first why ≡ end.Finished → ⊥
by_unfinished s true why not is = stop_unfinished s not is
by_unfinished s false why not is = heard_unfinished why is

unfinished : (s : SenderEnd) (is_first : Bool) (why : Option ListenerEnd) → (s ≡ sender_end.Finished → ⊥)
    → chosen s is_first why ≡ end.Finished → ⊥
unfinished s is_first None not is = stop_unfinished s not is
unfinished s is_first (Some why) not is = by_unfinished s (is_refused s || goes_first is_first why) why not is

refused_end : (s : SenderEnd) (is_first : Bool) (why : Option ListenerEnd) → s ≡ sender_end.OutOfMemory
    → chosen s is_first why ≡ end.Link fault.OutOfMemory
refused_end sender_end.OutOfMemory is_first None is = refl
refused_end sender_end.OutOfMemory is_first (Some why) is = refl
refused_end sender_end.ConnectionEnded is_first why is = cc
refused_end sender_end.Finished is_first why is = cc
refused_end sender_end.WriteFault is_first why is = cc

-- out of memory of the listener goes before all else
memory_goes : (s : SenderEnd) (is_first : Bool)
    → chosen s is_first (Some (listener_end.Fault fault.OutOfMemory)) ≡ end.Link fault.OutOfMemory
memory_goes sender_end.ConnectionEnded is_first = refl
memory_goes sender_end.Finished is_first = refl
memory_goes sender_end.WriteFault is_first = refl
memory_goes sender_end.OutOfMemory is_first = refl

memory_first : (s : SenderEnd) (is_first : Bool) (why : Option ListenerEnd) (is : End) → is ≡ chosen s is_first why
    → why ≡ Some (listener_end.Fault fault.OutOfMemory) → is ≡ end.Link fault.OutOfMemory
memory_first s is_first why is same some = same ∙ ap (chosen s is_first) some ∙ memory_goes s is_first

not_fault : (was now : SenderEnd) (why : Option ListenerEnd) (last : List ℕ) → (was ≡ sender_end.WriteFault → ⊥)
    → IsClosing was now why last → now ≡ sender_end.WriteFault → ⊥
not_fault was now why last not (Refused same) is = cc
not_fault was now why last not (Answers same answers) is = not (sym same ∙ is)

not_finished : (was now : SenderEnd) (why : Option ListenerEnd) (last : List ℕ) → (was ≡ sender_end.Finished → ⊥)
    → IsClosing was now why last → now ≡ sender_end.Finished → ⊥
not_finished was now why last not (Refused same) is = cc
not_finished was now why last not (Answers same answers) is = not (sym same ∙ is)

stop_ends : (s : SenderEnd) (why : Option ListenerEnd) (failed : Bool) (is : End) → (s ≡ sender_end.WriteFault → failed ≡ true)
    → (s ≡ sender_end.Finished → HasEnded why) → is ≡ end_by s → IsEndOf why failed is
stop_ends sender_end.ConnectionEnded why failed is fails out same = Memory same
stop_ends sender_end.Finished why failed is fails out same = let heard = out refl in Whole heard.0 heard.1 same
stop_ends sender_end.WriteFault why failed is fails out same = Writing same (fails refl)
stop_ends sender_end.OutOfMemory why failed is fails out same = Memory same

both_end : (s : SenderEnd) (is_first : Bool) (why : ListenerEnd) (failed : Bool) (is : End)
    → (s ≡ sender_end.WriteFault → failed ≡ true) → is ≡ chosen_by s is_first why → IsEndOf (Some why) failed is
both_end s true why failed is fails same = stop_ends s (Some why) failed is fails (λ finished. (why, refl)) same
both_end s false why failed is fails same = Heard why refl same

ends_by : (s : SenderEnd) (is_first : Bool) (why : Option ListenerEnd) (failed : Bool) (is : End)
    → (s ≡ sender_end.WriteFault → failed ≡ true) → (s ≡ sender_end.Finished → HasEnded why)
    → is ≡ chosen s is_first why → IsEndOf why failed is
ends_by s is_first None failed is fails out same = stop_ends s None failed is fails out same
ends_by s is_first (Some why) failed is fails out same =
    both_end s (is_refused s || goes_first is_first why) why failed is fails same

-- ---- all of a stream

module _ (checked : CheckedOf) (slot start : ℕ) (before opened sent last : Option (List ℕ)) (voice : Voice)
    (why : Option ListenerEnd) (was_failed failed : Bool) (served : Outcome) (fault_is : served.fault ≡ fault_after why) where
  by_stop : (s now : SenderEnd) (is_first : Bool) (taken : List CommitOf) → (s ≡ sender_end.Finished → HasEnded why)
      → Appends before opened copy_both_response
      → StopsAs s opened sent taken voice (started_telling checked slot start copy_both_response)
      → (s ≡ sender_end.WriteFault → was_failed ≡ true) → served.slot ≡ Some slot → served.start ≡ Some start
      → commits_of served ≡ taken → served.end ≡ chosen now is_first why
      → SaysLast s now why sent last was_failed failed
      → Streams checked slot start before last failed why served
  by_stop sender_end.ConnectionEnded now is_first taken out put stops fails slot_is start_is taken_is end_is says =
      after_all checked slot start before opened sent last put taken voice why was_failed failed served slot_is
      start_is taken_is
      (ends_by now is_first why failed served.end
      (λ same. absurd (not_fault sender_end.ConnectionEnded now why says.last (λ no. cc) says.closing same))
      (λ same. absurd (not_finished sender_end.ConnectionEnded now why says.last (λ no. cc) says.closing same)) end_is)
      fault_is (memory_first now is_first why served.end end_is)
      sender_end.ConnectionEnded now stops says (λ same. end_is ∙ refused_end now is_first why same)
  by_stop sender_end.Finished now is_first taken out put stops fails slot_is start_is taken_is end_is says =
      after_all checked slot start before opened sent last put taken voice why was_failed failed served slot_is
      start_is taken_is
      (ends_by now is_first why failed served.end
      (λ same. absurd (not_fault sender_end.Finished now why says.last (λ no. cc) says.closing same))
      (λ same. out refl) end_is)
      fault_is (memory_first now is_first why served.end end_is)
      sender_end.Finished now stops says (λ same. end_is ∙ refused_end now is_first why same)
  by_stop sender_end.WriteFault now is_first taken out put stops fails slot_is start_is taken_is end_is says =
      let failing : failed ≡ true = says.same ∙ fails refl in
      let is : served.end ≡ chosen sender_end.WriteFault is_first why =
      end_is ∙ ap (λ (s : SenderEnd). chosen s is_first why) says.now_is in
      after_part checked slot start before opened sent last put taken voice why was_failed failed served slot_is
      start_is taken_is
      (ends_by sender_end.WriteFault is_first why failed served.end (λ same. failing) (λ no. cc) is)
      fault_is (memory_first now is_first why served.end end_is) sender_end.WriteFault now stops says
      (λ sound. cc)
      (λ finished. unfinished sender_end.WriteFault is_first why (λ no. cc) (sym is ∙ finished)) (λ sound other. cc)
  by_stop sender_end.OutOfMemory now is_first taken out put stops fails slot_is start_is taken_is end_is says =
      let is : served.end ≡ chosen sender_end.OutOfMemory is_first why =
      end_is ∙ ap (λ (s : SenderEnd). chosen s is_first why) says.now_is in
      after_part checked slot start before opened sent last put taken voice why was_failed failed served slot_is
      start_is taken_is
      (ends_by sender_end.OutOfMemory is_first why failed served.end (λ no. cc) (λ no. cc) is)
      fault_is (memory_first now is_first why served.end end_is) sender_end.OutOfMemory now stops.breaks says
      (λ sound. stops.none)
      (λ finished. unfinished sender_end.OutOfMemory is_first why (λ no. cc) (sym is ∙ finished))
      (λ sound other. other (is ∙ refused_end sender_end.OutOfMemory is_first why refl))

pub streams_to_its_end : (checked : CheckedOf) (slot start : ℕ) (before opened sent last : Option (List ℕ))
    (voice old_voice : Voice) (why : Option ListenerEnd) (was_failed failed : Bool) (served : Outcome) (did : Sent)
    → Opens checked slot start before opened old_voice
    → StopsAs did.stop opened sent (map (λ commit. arc_value commit) did.taken.items) voice
    (started_telling checked slot start copy_both_response) → (did.stop ≡ sender_end.WriteFault → was_failed ≡ true)
    → (did.stop ≡ sender_end.Finished → HasEnded why) → Concludes slot start did why sent last was_failed failed served
    → Streams checked slot start before last failed why served
streams_to_its_end checked slot start before opened sent last voice old_voice why was_failed failed served did opens
    stops fails out concludes =
    by_stop checked slot start before opened sent last voice why was_failed failed served concludes.fault_is did.stop
    concludes.stop
    did.is_first
    (map (λ commit. arc_value commit) did.taken.items) out opens.put stops fails concludes.slot_is
    concludes.start_is (ap (λ taken. map (λ commit. arc_value commit) taken.items) concludes.taken_is)
    concludes.end_is concludes.says

-- ---- no commit was taken up

module _ (checked : CheckedOf) (slot start : ℕ) (before last : Option (List ℕ)) (failed : Bool) (why : Option ListenerEnd)
    (served : Outcome) where
  abbrev Refuses : Type 0
  Refuses = why ≡ Some (listener_end.Fault fault.OutOfMemory) → served.end ≡ end.Link fault.OutOfMemory

  without : (written rest : List ℕ) → Appends before last written → written ++ rest ≡ copy_both_response
      → served.slot ≡ Some slot → served.start ≡ Some start → served.taken.items ≡ []
      → (failed ≡ false → served.end ≢ end.Link fault.OutOfMemory → rest ≡ []) → (served.end ≡ end.Finished → ⊥)
      → (failed ≡ false → served.end ≢ end.Link fault.OutOfMemory → ⊥) → IsEndOf why failed served.end → served.fault ≡ fault_after why → Refuses
      → Streams checked slot start before last failed why served
  without written rest put bytes slot_is start_is none all not not_left ends fault_is refused =
      let no_commits : commits_of served ≡ [] = ap (map (λ commit. arc_value commit)) none in
      record {
        slot_is = slot_is;
        start_is = start_is;
        written = written;
        put = put;
        follow = subst (Follow (commits_before start)) (sym no_commits) tt;
        moves = [];
        clocks = All-nil IsClocked;
        takes = ap length (sym no_commits);
        rest = rest;
        last = [];
        said = Nothing refl;
        bytes = λ log are. bytes ∙ sym (append-nil copy_both_response) ∙ sym (append-nil (copy_both_response ++ []));
        all = all;
        whole = λ finished. absurd (not finished);
        answered = λ sound other done. absurd (not_left sound other);
        ends = ends;
        fault_is = fault_is;
        refused = refused;
      }

  not_opened : (is : End) → WritesPart before last failed → IsWithout slot start (fault_after why) is served
      → (is ≡ end.Finished → ⊥) → IsEndOf why failed served.end → Refuses
      → Streams checked slot start before last failed why served
  not_opened is fails without_it not ends refused =
      without fails.written fails.rest fails.put fails.bytes without_it.slot_is without_it.start_is without_it.none
      (λ sound memory. cc) (λ finished. not (sym without_it.end_is ∙ finished)) (λ sound other. cc) ends
      without_it.fault_is refused

  starved : Appends before last [] → IsWithout slot start (fault_after why) (end.Link fault.OutOfMemory) served
      → Streams checked slot start before last failed why served
  starved put is =
      without [] copy_both_response put refl is.slot_is is.start_is is.none
      (λ sound memory. absurd (memory is.end_is)) (λ finished. cc) (λ sound other. other is.end_is) (Memory is.end_is)
      is.fault_is (λ some. is.end_is)

  -- it was not heard any further
  pub streams_not : (s : SenderEnd) → why ≡ None → FailsToOpen before last failed s
      → IsWithout slot start (fault_after why) (end_by s) served
      → Streams checked slot start before last failed why served
  streams_not sender_end.ConnectionEnded none fails is = absurd fails
  streams_not sender_end.Finished none fails is = absurd fails
  streams_not sender_end.WriteFault none fails is =
      not_opened end.WriteFault fails is (λ finished. cc) (Writing is.end_is fails.fails)
      (λ some. absurd (let no : None ≡ Some (listener_end.Fault fault.OutOfMemory) = sym none ∙ some in cc))
  streams_not sender_end.OutOfMemory none fails is = starved fails is

  -- the client had ended it
  pub streams_ended : (s : SenderEnd) (ending : ListenerEnd) → why ≡ Some ending → FailsToOpen before last failed s
      → IsWithout slot start (fault_after why) (unopened_by s ending) served
      → Streams checked slot start before last failed why served
  streams_ended sender_end.ConnectionEnded ending some fails is = absurd fails
  streams_ended sender_end.Finished ending some fails is = absurd fails
  streams_ended sender_end.WriteFault ending some fails is =
      not_opened (cause_by ending) fails is (heard_unfinished ending) (Heard ending some is.end_is)
      (λ out. let both : Some ending ≡ Some (listener_end.Fault fault.OutOfMemory) = sym some ∙ out in
      let same : ending ≡ listener_end.Fault fault.OutOfMemory = cc in is.end_is ∙ ap cause_by same)
  streams_ended sender_end.OutOfMemory ending some fails is = starved fails is

  -- no thread could be started
  pub streams_no_further : Appends before last copy_both_response
      → IsWithout slot start (fault_after why) (end.Link fault.OutOfMemory) served
      → Streams checked slot start before last failed why served
  streams_no_further put is =
      without copy_both_response [] put (append-nil copy_both_response) is.slot_is is.start_is is.none
      (λ sound memory. refl) (λ finished. cc) (λ sound other. other is.end_is) (Memory is.end_is) is.fault_is
      (λ some. is.end_is)
