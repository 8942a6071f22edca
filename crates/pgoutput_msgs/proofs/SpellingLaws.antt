-- What is decoded has this spelling, what is spelled is decoded, and a spelling with bytes after it is not.
use Rattle.std.proofs.Common.{◌≡◌, ℕ, Bool, true, false, List, [], ◌∷◌, ◌++◌, length, append-nil, Result, Ok, Err, refl, sym, ap, ◌∙◌, arith}
use Rattle.std.specs.Prelude.{◌==◌, IfOk, if◌then◌else◌}
use Rattle.std.proofs.lemmas.Bool.{eqb-true}
use Rattle.std.proofs.lemmas.List.{nil_from_length}
use Rattle.filter_tree.specs.Memory.{Answers}
use Rattle.pgoutput_msgs.specs.declared.error.MsgError.{MsgError}
use Rattle.pgoutput_msgs.specs.declared.error.MsgError.TheVariants.{Trailing}
use Rattle.pgoutput_msgs.specs.declared.message.Msg.{Msg}
use Rattle.pgoutput_msgs.specs.Laws.{IsBytes, NoneIsProperPrefix, EachSpellsOne, SpellingsAreDecoded, DecodedAreSpellings, NothingMayFollow}
use Rattle.pgoutput_msgs.specs.Ranges.{IsMessage}
use Rattle.pgoutput_msgs.specs.Reading.{Outcome, message_at, all_read, decoded, msg_fault}
use Rattle.pgoutput_msgs.specs.Spelling.{spelling_of}
use Rattle.pgoutput_msgs.proofs.Exact.{done, same_read}
use Rattle.pgoutput_msgs.proofs.Fields.{not_true}
use Rattle.pgoutput_msgs.proofs.Messages.{exact_message}

abbrev good : {A : Type 0} → A → Result A MsgError
good a = Ok a

end_ok : (read : Msg × List ℕ) (message : Msg) (at_end : Bool)
    → (if at_end then good read.0 else Err Trailing) ≡ Ok message → (at_end ≡ true) × (read.0 ≡ message)
end_ok read message true e = (refl, cc)
end_ok read message false e = absurd cc

ended_ok : (outcome : Outcome Msg) (message : Msg) → all_read outcome ≡ Ok message → outcome ≡ Ok (message, [])
ended_ok (Ok read) message e =
    let found = end_ok read message (length read.1 == 0) e in
    ap (λ (rest : List ℕ). done read.0 rest) (nil_from_length read.1 (eqb-true _ _ found.0))
    ∙ ap (λ (x : Msg). done x []) found.1
ended_ok (Err fault) message e = absurd cc

pub are_spellings : DecodedAreSpellings
unfolding decoded
are_spellings bytes message is_bytes e =
    let t = exact_message.takes bytes message [] is_bytes (ended_ok (message_at bytes) message e) in
    (t.fits, t.spelled ∙ append-nil (spelling_of message))

pub are_decoded : SpellingsAreDecoded
unfolding decoded
are_decoded message fits =
    ap (λ (bytes : List ℕ). all_read (message_at bytes)) (sym (append-nil (spelling_of message)))
    ∙ ap all_read (exact_message.again message [] fits)

pub not_at_end : (message : Msg) (next : ℕ) (more : List ℕ) → all_read (Ok (message, next ∷ more)) ≡ Err Trailing
not_at_end message next more =
    ap (λ (test : Bool). if test then good message else Err Trailing)
    (not_true (length (next ∷ more) == 0) (λ e. let none = eqb-true (length (next ∷ more)) 0 e in omega (arith, none)))

pub nothing_follows : NothingMayFollow
unfolding decoded
nothing_follows message next more fits = ap all_read (exact_message.again message (next ∷ more) fits)
    ∙ not_at_end message next more

pub prefix_free : NoneIsProperPrefix
prefix_free one other rest p q e =
    let both : done one rest ≡ done other [] =
    sym (exact_message.again one rest p) ∙ ap message_at (e ∙ sym (append-nil (spelling_of other)))
    ∙ exact_message.again other [] q in
    (same_read one other rest [] both).1

pub same_message : EachSpellsOne
same_message one other p q e =
    let both : done one [] ≡ done other [] =
    sym (exact_message.again one [] p) ∙ ap (λ (bytes : List ℕ). message_at (bytes ++ [])) e
    ∙ exact_message.again other [] q in
    (same_read one other [] [] both).0

pub is_found : (bytes : List ℕ) (result : Result Msg MsgError) → IsBytes bytes
    → Answers (λ message. message) msg_fault (decoded bytes) result
    → IfOk result (λ message. IsMessage message × (bytes ≡ spelling_of message))
is_found bytes (Ok message) is_bytes answer = are_spellings bytes message is_bytes answer
is_found bytes (Err error) is_bytes answer = tt
