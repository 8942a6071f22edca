use Rattle.std.proofs.Common.{◌≡◌, ℕ, ◌++◌, Bool, List, All, length, sym, ap, subst, refl, ◌∙◌, arith, rules}
use Rattle.std.proofs.lemmas.Grind.{common_steps}
use Rattle.shard_checker.specs.CheckedView.{CheckedOf, checked_view}
use Rattle.shard_checker.proofs.LimitFacts.{checked_limited}
use Rattle.tables_log.specs.Lsn.{lsn_of}
use Rattle.pgoutput_msgs.specs.Ranges.{HasTexts}
use Rattle.pgoutput_msgs.specs.Telling.{messages_for}
use Rattle.pgoutput_msgs.specs.declared.message.Msg.{Msg}
use Rattle.pgoutput_msgs.proofs.SentLemmas.{messages_sent}
use Rattle.copy_frames.specs.declared.xlog_data.XLogData.{XLogData}
use Rattle.copy_both.specs.Framing.{frames_with}
use Rattle.copy_both.specs.declared.taken.Taken.TheVariants.{Skipped, Sent}
use Rattle.copy_both.proofs.FramingLemmas.{skipped_if, sent_if}
use Rattle.copy_both.proofs.stream_state.StreamState.take.Goals.{then-is_empty, else-is_empty}
use Rattle.copy_both.proofs.stream_state.StreamState.take.Goals as goal

pub returns-clause-taken : goal.returns-clause-taken
returns-clause-taken c =
    let checked : CheckedOf = checked_view c.args.checked.now in
    let head : XLogData = record { start = c.to_u64-lsn.result; end = c.to_u64-lsn.result; clock = c.args.now } in
    let messages : List Msg =
    messages_for checked c.args.self.now.slot c.args.self.now.relation_sent.items c.args.commit.now in
    let exact : c.in_ok-frames.frames.items ≡ frames_with head messages =
    c.in_ok-frames.ensures.frames
    ∙ ap (λ (sent : List Bool). frames_with head (messages_for checked c.args.self.now.slot sent c.args.commit.now))
    c.as_mut_slice-relation_sent.ensures.value in
    elim c.if-is_empty.branch [
      | then-is_empty w ↦
          let none : length c.in_ok-frames.frames.items ≡ 0 = first_of (search rules, grind (arith, common_steps)) in
          w.taken-is ∙ ap Skipped c.number-number.ensures.shows
          ∙ sym (skipped_if head c.args.commit.now.number messages (ap length (sym exact) ∙ none))
      | else-is_empty w ↦
          let some : length c.in_ok-frames.frames.items ≡ 0 → ⊥ =
          first_of (search rules, grind (arith, common_steps)) in
          w.taken-is ∙ ap Sent c.number-number.ensures.shows
          ∙ sym (sent_if head c.args.commit.now.number messages (λ none. some (ap length exact ∙ none)))
    ]

pub returns-clause-said : goal.returns-clause-said
returns-clause-said c =
    let messages : List Bool → List Msg =
    λ sent. messages_for (checked_view c.args.checked.now) c.args.self.now.slot sent c.args.commit.now in
    let framed : ℕ → List Msg → List ℕ =
    λ n messages. frames_with (record { start = n; end = n; clock = c.args.now }) messages in
    c.in_ok-append_frames.ensures.ok
    ∙ ap (λ (x : List ℕ). c.args.out.now.items ++ x) (c.in_ok-frames.ensures.frames
    ∙ ap (λ (sent : List Bool). framed c.to_u64-lsn.result (messages sent)) c.as_mut_slice-relation_sent.ensures.value
    ∙ ap (λ (n : ℕ). framed n (messages c.args.self.now.relation_sent.items))
    (c.to_u64-lsn.ensures ∙ c.of_commit.ensures ∙ ap lsn_of c.number-number.ensures.shows))

-- the messages are those of the definition
pub returns-clause-read_back : goal.returns-clause-read_back
returns-clause-read_back c =
    let checked : CheckedOf = checked_view c.args.checked.now in
    let messages : List Bool → List Msg = λ sent. messages_for checked c.args.self.now.slot sent c.args.commit.now in
    messages_sent checked c.args.self.now.slot c.args.self.now.relation_sent.items c.args.commit.now
    (messages c.args.self.now.relation_sent.items) c.number-number.ensures.sendable
    (checked_limited c.args.checked.now) refl
    (subst (λ (sent : List Bool). All HasTexts (messages sent)) c.as_mut_slice-relation_sent.ensures.value
    c.in_ok-frames.ensures.texts)
