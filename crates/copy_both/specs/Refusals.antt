-- Why a stream is not started, and the ErrorResponse that reports it ("55.7. Message Formats", "55.8. Error and Notice
-- Message Fields", "Appendix A. PostgreSQL Error Codes"). The texts are this project's own.
use Rattle.std.specs.Prelude.{ℕ, ◌<◌, ◌+◌, ◌^◌, List, [], ◌∷◌, ◌++◌, length, codes}
use Rattle.copy_both.specs.declared.refusal.Refusal.{Refusal}
use Rattle.copy_both.specs.declared.refusal.Refusal.TheVariants as code
use Rattle.copy_both.specs.declared.sql_state.SqlState.{SqlState}
use Rattle.copy_both.specs.declared.sql_state.SqlState.TheVariants as state
use Rattle.copy_frames.specs.Frames.{framed}

-- the names are those of the slot, the option or the publication
pub data RefusalOf : Type 0 where
  ExpectedQuery : RefusalOf
  Unreadable : RefusalOf
  NoSlot : List ℕ → RefusalOf
  WrongOption : List ℕ → RefusalOf
  UnsupportedOption : List ℕ → RefusalOf
  MissingOption : List ℕ → RefusalOf
  NoPublication : List ℕ → RefusalOf
  OtherPublications : List ℕ → RefusalOf
  Ahead : RefusalOf
  InUse : List ℕ → RefusalOf

abbrev pub refusal_view : Refusal → RefusalOf
refusal_view code.ExpectedQuery = ExpectedQuery
refusal_view code.Unreadable = Unreadable
refusal_view (code.NoSlot slot) = NoSlot slot.now
refusal_view (code.WrongOption option) = WrongOption option.now
refusal_view (code.UnsupportedOption option) = UnsupportedOption option.now
refusal_view (code.MissingOption option) = MissingOption option.now
refusal_view (code.NoPublication publication) = NoPublication publication.now
refusal_view (code.OtherPublications slot) = OtherPublications slot.now
refusal_view code.Ahead = Ahead
refusal_view (code.InUse slot) = InUse slot.now

abbrev pub state_of : RefusalOf → SqlState
state_of ExpectedQuery = state.ProtocolViolation
state_of Unreadable = state.SyntaxError
state_of (NoSlot slot) = state.UndefinedObject
state_of (WrongOption option) = state.InvalidParameterValue
state_of (UnsupportedOption option) = state.FeatureNotSupported
state_of (MissingOption option) = state.InvalidParameterValue
state_of (NoPublication publication) = state.UndefinedObject
state_of (OtherPublications slot) = state.InvalidParameterValue
state_of Ahead = state.InvalidParameterValue
state_of (InUse slot) = state.ObjectInUse

abbrev pub code_text : SqlState → List ℕ
code_text state.ProtocolViolation = codes "08P01"
code_text state.SyntaxError = codes "42601"
code_text state.UndefinedObject = codes "42704"
code_text state.InvalidParameterValue = codes "22023"
code_text state.FeatureNotSupported = codes "0A000"
code_text state.ObjectInUse = codes "55006"

abbrev pub code_of : RefusalOf → List ℕ
code_of refusal = code_text (state_of refusal)

-- a text with a name between double quotes
abbrev pub naming : List ℕ → List ℕ → List ℕ → List ℕ
naming before name after = before ++ (34 ∷ (name ++ (34 ∷ after)))

abbrev pub refusal_text : RefusalOf → List ℕ
refusal_text ExpectedQuery = codes "expected a query"
refusal_text Unreadable = codes "cannot read the replication command"
refusal_text (NoSlot slot) = naming (codes "replication slot ") slot (codes " does not exist")
refusal_text (WrongOption option) = naming (codes "option ") option (codes " is wrong")
refusal_text (UnsupportedOption option) = naming (codes "option ") option (codes " is not supported")
refusal_text (MissingOption option) = naming (codes "option ") option (codes " is missing")
refusal_text (NoPublication publication) = naming (codes "publication ") publication (codes " does not exist")
refusal_text (OtherPublications slot) = naming (codes "publications differ from those of slot ") slot []
refusal_text Ahead = codes "start position is ahead of the log"
refusal_text (InUse slot) = naming (codes "replication slot ") slot (codes " is active")

-- a field: its letter, and its value with a zero byte after it
abbrev pub field : ℕ → List ℕ → List ℕ
field letter value = letter ∷ (value ++ (0 ∷ []))

-- severity, severity that is never translated, code and text
abbrev pub error_fields : List ℕ → List ℕ → List ℕ
error_fields code text =
    field 83 (codes "ERROR") ++ (field 86 (codes "ERROR") ++ (field 67 code ++ (field 77 text ++ (0 ∷ []))))

abbrev pub error_response : RefusalOf → List ℕ
error_response refusal = framed (record { kind = 69; body = error_fields (code_of refusal) (refusal_text refusal) })

-- its length is a signed number of 32 bits
abbrev pub CanBeSent : RefusalOf → Type 0
CanBeSent refusal = length (refusal_text refusal) + 29 < 2 ^ 31
