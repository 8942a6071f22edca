-- The answer to the first frame of a client: a stream is started from a slot, or the start is refused by an
-- ErrorResponse ("55.4. Streaming Replication Protocol", "55.7. Message Formats").
use Rattle.std.specs.Prelude.{ℕ, ◌+◌, ◌==◌, if◌then◌else◌, List, ◌++◌, length, take, position, Option, Some, None}
use Rattle.std.specs.Str.{is_utf8}
use Rattle.copy_both.specs.declared.answer.StartAnswer.{StartAnswer}
use Rattle.copy_both.specs.declared.answer.StartAnswer.TheVariants as code
use Rattle.copy_both.specs.declared.start_command.StartCommand.{StartCommand}
use Rattle.copy_both.specs.CommandText.{command_of}
use Rattle.copy_both.specs.Refusals.{RefusalOf, ExpectedQuery, Unreadable, NoSlot, state_of, error_response}
use Rattle.copy_both.specs.StartOrder.{OfferOf, find_slot, publications_at, slot_refusal}

-- the stream of a slot is requested from a position on, or a refusal
pub data StartAnswerOf : Type 0 where
  Stream : ℕ → ℕ → StartAnswerOf
  Refused : RefusalOf → StartAnswerOf

-- bytes that are UTF-8
abbrev pub text_if_utf8 : List ℕ → Option (List ℕ)
text_if_utf8 bytes = if is_utf8 bytes then Some bytes else None

-- if the first zero byte is at this place, the bytes before it, provided that it is the last byte
abbrev pub text_until : Option ℕ → List ℕ → Option (List ℕ)
text_until None body = None
text_until (Some n) body = if n + 1 == length body then text_if_utf8 (take n body) else None

-- the text of a Query, which is UTF-8 and ends with a zero byte
abbrev pub text_of_query : List ℕ → Option (List ℕ)
text_of_query body = text_until (position (λ b. b == 0) body) body

abbrev pub unless_refused : Option RefusalOf → ℕ → ℕ → StartAnswerOf
unless_refused (Some refusal) slot position = Refused refusal
unless_refused None slot position = Stream slot position

abbrev pub asked_at : OfferOf → StartCommand → Option ℕ → StartAnswerOf
asked_at offer command None = Refused (NoSlot command.slot)
asked_at offer command (Some slot) =
    unless_refused (slot_refusal offer command slot (publications_at offer.subscriptions slot)) slot command.position

abbrev pub asked_by_command : OfferOf → Option StartCommand → StartAnswerOf
asked_by_command offer None = Refused Unreadable
asked_by_command offer (Some command) = asked_at offer command (find_slot command.slot offer.subscriptions)

abbrev pub asked_in : OfferOf → Option (List ℕ) → StartAnswerOf
asked_in offer None = Refused ExpectedQuery
asked_in offer (Some text) = asked_by_command offer (command_of text)

-- what a frame of this kind and body requests; `Q` is a Query
unfoldable pub asked_of : OfferOf → ℕ → List ℕ → StartAnswerOf
asked_of offer kind body = if kind == 81 then asked_in offer (text_of_query body) else Refused ExpectedQuery

-- what is reported of it to a caller
abbrev pub start_reported : StartAnswerOf → StartAnswer
start_reported (Stream slot position) = code.Stream slot position
start_reported (Refused refusal) = code.Refused (state_of refusal)

-- what is to be sent, after what was to be sent before
abbrev pub sent_after : List ℕ → StartAnswerOf → List ℕ
sent_after before (Stream slot position) = before
sent_after before (Refused refusal) = before ++ error_response refusal
