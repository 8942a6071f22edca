use Rattle.std.proofs.Common.{◌≡◌, ℕ, refl, sym, ap, subst, ◌∙◌}
use Rattle.std.specs.Prelude.{Option, Result, Err}
use Rattle.std.specs.List.{concat}
use Rattle.shard_checker.specs.CheckedView.{CheckedOf}
use Rattle.copy_both.specs.Ears.{ear_phase, HearLeaves}
use Rattle.copy_both.specs.ConnectionStates.{said_state}
use Rattle.copy_both.specs.Hearing.{HeardOf}
use Rattle.copy_both.specs.Links.{SendsFirst, frames_by, frames_said, link_heard, link_ear, link_sent, link_stage, link_checked, stage_by}
use Rattle.copy_both.specs.Sessions.{heard_view, reported_hearing}
use Rattle.copy_both.specs.Voices.{Sends, voice_stage}
use Rattle.copy_both.specs.declared.heard.Heard.{Heard}
use Rattle.copy_both.specs.declared.link_fault.LinkFault.{LinkFault}
use Rattle.copy_both.specs.declared.link_fault.LinkFault.TheVariants as fault
use Rattle.copy_both.proofs.LinkLemmas.{of_all_heard, over_after, refused_closed, together_after, unanswered, unsaid, only_memory}
use Rattle.copy_both.proofs.link.Link.hear.Goals as goal

pub returns-in_err-refuse-in-Err-BadStart-clause-left : goal.returns-in_err-refuse-in-Err-BadStart-clause-left
returns-in_err-refuse-in-Err-BadStart-clause-left c =
    let link = c.args.self.now in
    let Left : ℕ → Result Heard LinkFault → Type 0 =
    λ (sent : ℕ) (r : Result Heard LinkFault).
    HearLeaves (ear_phase (link_ear link)) (link_ear link) c.listen.new.self c.args.book.now c.listen.new.book
    c.args.piece.now sent r in
    let sent : c.unwrap_or-sent.result ≡ link_sent link = cc in
    let is : c.from_residual.result ≡ Err fault.OutOfMemory =
    only_memory c.from_residual.result c.from_residual.ensures.1 in
    let at_state : Left c.unwrap_or-sent.result (Err (fault.BadStart c.in-Err-BadStart.state)) =
    subst (λ (f : LinkFault). Left c.unwrap_or-sent.result (Err f)) c.in-Err-BadStart.field-0-is
    c.in-Err-BadStart.ensures.left in
    subst (λ (r : Result Heard LinkFault). Left (link_sent link) r) (sym is)
    (unanswered (ear_phase (link_ear link)) (link_ear link) c.listen.new.self c.args.book.now c.listen.new.book
    c.args.piece.now (link_sent link)
    c.in-Err-BadStart.state (subst (λ (n : ℕ). Left n (Err (fault.BadStart c.in-Err-BadStart.state))) sent at_state))

pub invariant_of-self-in-Ok-answer_heard : goal.invariant_of-self-in-Ok-answer_heard
invariant_of-self-in-Ok-answer_heard c =
    let link = c.args.self.now in
    let started : voice_stage c.answer_heard.new.voice
    ≡ stage_by (link_checked link) (link_stage link) c.listen.new.self.session.started (heard_view c.in-Ok.heard)
    =
    c.in-Ok-answer_heard.ensures.ok.stage_is
    ∙ ap (λ (s : Option (ℕ × ℕ)). stage_by (link_checked link) (link_stage link) s (heard_view c.in-Ok.heard))
    c.stream.ensures in
    record {
      together =
          together_after (link_checked link) (link_ear link) c.listen.new.self c.args.book.now c.listen.new.book
          c.args.piece.now c.unwrap_or-sent.result
          (heard_view c.in-Ok.heard) (link_stage link) (voice_stage c.answer_heard.new.voice) c.in-Ok.ensures.answer
          c.in-Ok.ensures.left link.together started;
    }

pub returns-in-Err-answer_heard-clause-left : goal.returns-in-Err-answer_heard-clause-left
returns-in-Err-answer_heard-clause-left c =
    let link = c.args.self.now in
    let sent : c.unwrap_or-sent.result ≡ link_sent link = cc in
    let Left : ℕ → LinkFault → Type 0 =
    λ (n : ℕ) (f : LinkFault).
    HearLeaves (ear_phase (link_ear link)) (link_ear link) c.close-in-Err-answer_heard.new.self c.args.book.now
    c.listen.new.book c.args.piece.now n (Err f) in
    subst (λ (f : LinkFault). Left (link_sent link) f) (sym c.in-Err-answer_heard.ensures.memory)
    (subst (λ (n : ℕ). Left n fault.OutOfMemory) sent
    (unsaid (ear_phase (link_ear link)) (link_ear link) c.listen.new.self c.close-in-Err-answer_heard.new.self
    c.args.book.now c.listen.new.book
    c.args.piece.now c.unwrap_or-sent.result (reported_hearing c.in-Ok.heard) c.in-Ok.ensures.answer c.in-Ok.ensures.left
    c.close-in-Err-answer_heard.ensures))

pub invariant_of-self : goal.invariant_of-self
invariant_of-self c =
    let link = c.args.self.now in
    record {
      together =
          over_after (ear_phase (link_ear link)) (link_ear link) c.listen.new.self c.args.book.now c.listen.new.book
          c.args.piece.now c.unwrap_or-sent.result
          c.in-Err-BadStart.field-0 refl c.in-Err-BadStart.ensures.left
          ∙ sym (ap said_state (refused_closed c.refuse.result link.voice c.refuse.new.self c.refusal.result.now
          c.refuse.ensures.ok c.refuse.ensures.err));
    }

pub invariant_of-self-in-Err : goal.invariant_of-self-in-Err
invariant_of-self-in-Err c =
    let link = c.args.self.now in
    record {
      together =
          over_after (ear_phase (link_ear link)) (link_ear link) c.listen.new.self c.args.book.now c.listen.new.book
          c.args.piece.now c.unwrap_or-sent.result
          c.in-Err.fault refl c.in-Err.ensures.left
          ∙ sym (ap said_state c.close.ensures.stage_is);
    }

pub returns-in-Ok-answer_heard-clause-says : goal.returns-in-Ok-answer_heard-clause-says
returns-in-Ok-answer_heard-clause-says c =
    let link = c.args.self.now in
    let checked : CheckedOf = link_checked link in
    let sent : c.unwrap_or-sent.result ≡ link_sent link = cc in
    of_all_heard
    (λ (started : Option (ℕ × ℕ)) (heard : HeardOf).
    Sends link.voice c.answer_heard.new.voice (concat (frames_by checked (link_stage link) started heard c.args.now))
    (stage_by checked (link_stage link) started heard))
    (link_ear link) c.listen.new.self c.args.book.now c.listen.new.book c.args.piece.now (heard_view c.in-Ok.heard)
    c.stream.result c.unwrap_or-sent.result (link_sent link)
    sent c.in-Ok.ensures.answer c.in-Ok.ensures.left c.in-Ok.ensures.exact c.stream.ensures
    c.in-Ok-answer_heard.ensures.ok

pub returns-in-Err-answer_heard-clause-says : goal.returns-in-Err-answer_heard-clause-says
returns-in-Err-answer_heard-clause-says c =
    let link = c.args.self.now in
    let checked : CheckedOf = link_checked link in
    let sent : c.unwrap_or-sent.result ≡ link_sent link = cc in
    let first : SendsFirst link.voice c.answer_heard.new.voice
    (frames_said checked (link_stage link) (link_heard link c.args.book.now c.args.piece.now) c.args.now) =
    of_all_heard
    (λ (started : Option (ℕ × ℕ)) (heard : HeardOf). SendsFirst link.voice c.answer_heard.new.voice
    (frames_by checked (link_stage link) started heard c.args.now))
    (link_ear link) c.listen.new.self c.args.book.now c.listen.new.book c.args.piece.now (heard_view c.in-Ok.heard)
    c.stream.result c.unwrap_or-sent.result (link_sent link)
    sent c.in-Ok.ensures.answer c.in-Ok.ensures.left c.in-Ok.ensures.exact c.stream.ensures
    c.in-Err-answer_heard.ensures.err in
    rw c.in-Err-answer_heard.ensures.memory first
