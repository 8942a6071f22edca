-- What the fault of some bytes says about them.
use Rattle.std.proofs.Common.{◌≡◌, ℕ, List, [], ◌∷◌, ◌++◌, length, append_assoc, append-nil, Result, Ok, Err, refl, sym, ap, subst, ◌∙◌, inl, inr}
use Rattle.std.specs.Prelude.{◌⊎◌, IfErr}
use Rattle.std.specs.Str.{IsUtf8}
use Rattle.std.proofs.lemmas.Bool.{cases_lt}
use Rattle.filter_tree.specs.Memory.{Answers}
use Rattle.pgoutput_msgs.specs.declared.error.MsgError.{MsgError}
use Rattle.pgoutput_msgs.specs.declared.error.MsgError.TheVariants.{Unknown, Toast, BadCount, Short, BadText, Trailing, OutOfMemory}
use Rattle.pgoutput_msgs.specs.declared.message.Msg.{Msg}
use Rattle.pgoutput_msgs.specs.Faults.{Begins, HasBadField, IsNegative, IsTooFew, IsUnended, EndsEarly, GoesOn, HasFault}
use Rattle.pgoutput_msgs.specs.Laws.{IsBytes, FaultsAreTrue}
use Rattle.pgoutput_msgs.specs.Ranges.{IsMessage}
use Rattle.pgoutput_msgs.specs.Reading.{Outcome, message_at, all_read, decoded, msg_fault}
use Rattle.pgoutput_msgs.specs.Spelling.{string, spelling_of}
use Rattle.pgoutput_msgs.proofs.Messages.{exact_message}
use Rattle.pgoutput_msgs.proofs.SpellingLaws.{not_at_end}
use Rattle.pgoutput_msgs.proofs.Stopping.{Begun, AtField, AtEnd, Stops, TooFew, Unended, failed, no_fault}
use Rattle.pgoutput_msgs.proofs.StoppingMessages.{halts_message}

begins : (bytes : List ℕ) → Begun spelling_of IsMessage bytes → Begins bytes
begins bytes begun =
    record { message = begun.value; rest = begun.rest; is = begun.fits; spelled = begun.spelled }

-- a message is read by its spelling
is_read : (message : Msg) (fault : MsgError) → IsMessage message → message_at (spelling_of message) ≡ Err fault → ⊥
is_read message fault fits e =
    no_fault message [] fault (sym (exact_message.again message [] fits)
    ∙ ap message_at (append-nil (spelling_of message)) ∙ e)

bad_field : (IsBadHere : List ℕ → Type 0) (bytes : List ℕ) (fault : MsgError)
    → (at : AtField message_at spelling_of IsMessage bytes fault) → IsBadHere at.field → HasBadField IsBadHere bytes
bad_field IsBadHere bytes fault at bad = record {
  before = at.before;
  field = at.field;
  after = at.after;
  bytes_are = at.bytes_are;
  begins = begins at.before at.begun;
  is_bad = bad;
  none = λ other. is_read other.message fault other.is
      (ap message_at (other.spelled ∙ append_assoc at.before at.field other.rest) ∙ at.stays other.rest);
}

at_field : (bytes : List ℕ) (fault : MsgError) → AtField message_at spelling_of IsMessage bytes fault
    → HasFault bytes fault
at_field bytes (Unknown found) at = bad_field (λ field. field ≡ found ∷ []) bytes (Unknown found) at at.is_bad
at_field bytes Toast at = bad_field (λ field. field ≡ 117 ∷ []) bytes Toast at at.is_bad
at_field bytes BadCount at = bad_field IsNegative bytes BadCount at at.is_bad
at_field bytes BadText at = bad_field (λ field. ¬ IsUtf8 field) bytes BadText at at.is_bad
at_field bytes Short at = absurd at.is_bad
at_field bytes Trailing at = absurd at.is_bad
at_field bytes OutOfMemory at = tt

lacks : (before part : List ℕ) → TooFew message_at before part ⊎ Unended spelling_of IsMessage before part
    → IsTooFew before part ⊎ IsUnended before part
lacks before part (inl few) = inl (λ message rest is spelled.
    elim (cases_lt (length part) (length rest)) [
      | inl more ↦ more
      | inr le ↦ absurd (is_read message Short is (ap message_at spelled ∙ few rest le))
    ])
lacks before part (inr unended) = inr (record {
  is_name = λ name is. begins (before ++ string name) (unended.is_name name is);
  no_end = unended.no_end;
})

at_end : (bytes : List ℕ) (fault : MsgError) → AtEnd message_at spelling_of IsMessage bytes fault → HasFault bytes fault
at_end bytes fault at = subst (HasFault bytes) (sym at.fault_is)
    (let ends : EndsEarly bytes = record {
      before = at.before;
      part = at.part;
      bytes_are = at.bytes_are;
      begins = begins at.before at.begun;
      lacks = lacks at.before at.part at.lacks;
    } in ends)

stopped : (bytes : List ℕ) (fault : MsgError) → Stops message_at spelling_of IsMessage bytes fault
    → HasFault bytes fault
stopped bytes fault (inl at) = at_field bytes fault at
stopped bytes fault (inr at) = at_end bytes fault at

same_fault : (fault other : MsgError) → (let one : Result Msg MsgError = Err fault in one ≡ Err other) → fault ≡ other
same_fault fault other e = cc

followed : (bytes rest : List ℕ) (message : Msg) (fault : MsgError) → IsMessage message
    → bytes ≡ spelling_of message ++ rest → all_read (Ok (message, rest)) ≡ Err fault → HasFault bytes fault
followed bytes [] message fault is e failure = absurd cc
followed bytes (next ∷ more) message fault is e failure =
    subst (HasFault bytes) (same_fault Trailing fault (sym (not_at_end message next more) ∙ failure))
    (let goes : GoesOn bytes = record { message = message; next = next; more = more; is = is; bytes_are = e } in goes)

fault_by : (bytes : List ℕ) (outcome : Outcome Msg) (fault : MsgError) → IsBytes bytes → message_at bytes ≡ outcome
    → all_read outcome ≡ Err fault → HasFault bytes fault
fault_by bytes (Ok read) fault is_bytes at e =
    let t = exact_message.takes bytes read.0 read.1 is_bytes at in
    followed bytes read.1 read.0 fault t.fits t.spelled e
fault_by bytes (Err other) fault is_bytes at e =
    stopped bytes fault (halts_message.stops bytes fault is_bytes
    (at ∙ ap (λ (f : MsgError). failed {A = Msg} f) (same_fault other fault e)))

pub faults_are_true : FaultsAreTrue
unfolding decoded
faults_are_true bytes fault is_bytes e = fault_by bytes (message_at bytes) fault is_bytes refl e

pub is_true : (bytes : List ℕ) (result : Result Msg MsgError) → IsBytes bytes
    → Answers (λ message. message) msg_fault (decoded bytes) result → IfErr result (HasFault bytes)
is_true bytes (Ok message) is_bytes answer = tt
is_true bytes (Err (Unknown found)) is_bytes answer = faults_are_true bytes (Unknown found) is_bytes answer
is_true bytes (Err Toast) is_bytes answer = faults_are_true bytes Toast is_bytes answer
is_true bytes (Err BadCount) is_bytes answer = faults_are_true bytes BadCount is_bytes answer
is_true bytes (Err Short) is_bytes answer = faults_are_true bytes Short is_bytes answer
is_true bytes (Err BadText) is_bytes answer = faults_are_true bytes BadText is_bytes answer
is_true bytes (Err Trailing) is_bytes answer = faults_are_true bytes Trailing is_bytes answer
is_true bytes (Err OutOfMemory) is_bytes answer = tt
