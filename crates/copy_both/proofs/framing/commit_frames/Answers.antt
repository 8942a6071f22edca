use Rattle.std.proofs.Common.{◌≡◌, ℕ, List, [], ◌++◌, ap, subst, sym, ◌∙◌}
use Rattle.std.specs.Prelude.{All}
use Rattle.std.proofs.lemmas.List.Elements.{All-nil}
use Rattle.shard_checker.specs.CheckedView.{checked_view}
use Rattle.copy_frames.specs.declared.xlog_data.XLogData.{XLogData}
use Rattle.pgoutput_msgs.specs.Ranges.{HasTexts}
use Rattle.pgoutput_msgs.specs.Silent.{IsSilent}
use Rattle.pgoutput_msgs.specs.Telling.{said_each, enclosed}
use Rattle.pgoutput_msgs.specs.declared.message.Msg.{Msg}
use Rattle.copy_both.specs.Framing.{frames_with}
use Rattle.copy_both.proofs.CountLemmas.{none_is_said}
use Rattle.copy_both.proofs.FramingLemmas.{AddsFrames, none_framed, commit_framed}
use Rattle.copy_both.proofs.framing.commit_frames.Goals as goal

-- if no change is for the subscriber
pub returns-then-count-eq0-clause-frames : goal.returns-then-count-eq0-clause-frames
returns-then-count-eq0-clause-frames c =
    let silent : IsSilent (checked_view c.args.checked.now) c.args.slot c.args.relation_sent.now c.args.commit.now =
    none_is_said (checked_view c.args.checked.now) c.args.slot c.args.relation_sent.now c.args.commit.now
    c.args.owners.now c.changes.result.now c.count_of-count.result c.count_of-count.ensures.none c.if-count-eq0.true
    c.changes.ensures.shows c.requires in
    c.new.ensures.items ∙ ap (frames_with c.args.head) (sym silent.messages)

pub returns-then-count-eq0-clause-relation_sent : goal.returns-then-count-eq0-clause-relation_sent
returns-then-count-eq0-clause-relation_sent c =
    let silent : IsSilent (checked_view c.args.checked.now) c.args.slot c.args.relation_sent.now c.args.commit.now =
    none_is_said (checked_view c.args.checked.now) c.args.slot c.args.relation_sent.now c.args.commit.now
    c.args.owners.now c.changes.result.now c.count_of-count.result c.count_of-count.ensures.none c.if-count-eq0.true
    c.changes.ensures.shows c.requires in
    sym silent.after

pub returns-then-count-eq0-clause-texts : goal.returns-then-count-eq0-clause-texts
returns-then-count-eq0-clause-texts c =
    let silent : IsSilent (checked_view c.args.checked.now) c.args.slot c.args.relation_sent.now c.args.commit.now =
    none_is_said (checked_view c.args.checked.now) c.args.slot c.args.relation_sent.now c.args.commit.now
    c.args.owners.now c.changes.result.now c.count_of-count.result c.count_of-count.ensures.none c.if-count-eq0.true
    c.changes.ensures.shows c.requires in
    subst (All HasTexts) (sym silent.messages) (All-nil HasTexts)

nothing_said : (c : goal.After-drop-frames-then-len-begun)
    → enclosed c.args.commit.now
    (said_each (checked_view c.args.checked.now) c.args.slot c.args.relation_sent.now c.args.commit.now.changes) ≡ []
nothing_said c =
    none_framed c.args.commit.now c.begin.new.self c.tell_changes.new.sink
    (said_each (checked_view c.args.checked.now) c.args.slot c.args.relation_sent.now c.args.commit.now.changes)
    c.in_ok-tell_changes.ensures.said
    (sym c.tell_changes.new.sink.bytes.ok.0 ∙ sym c.len.ensures ∙ c.if-len-begun.true ∙ c.len-begun.ensures
    ∙ c.begin.new.self.bytes.ok.0)

pub returns-then-len-begun-clause-frames : goal.returns-then-len-begun-clause-frames
returns-then-len-begun-clause-frames c =
    c.new-then-len-begun.ensures.items ∙ ap (frames_with c.args.head) (sym (nothing_said c))

pub returns-then-len-begun-clause-texts : goal.returns-then-len-begun-clause-texts
returns-then-len-begun-clause-texts c = subst (All HasTexts) (sym (nothing_said c)) (All-nil HasTexts)

all_said : (c : goal.In_ok-end)
    → AddsFrames c.new-frames.result c.end.new.self
    (enclosed c.args.commit.now
    (said_each (checked_view c.args.checked.now) c.args.slot c.args.relation_sent.now c.args.commit.now.changes))
all_said c =
    commit_framed c.args.commit.now c.new-frames.result c.begin.new.self c.tell_changes.new.sink c.end.new.self
    (said_each (checked_view c.args.checked.now) c.args.slot c.args.relation_sent.now c.args.commit.now.changes)
    c.in_ok-begin.ensures c.in_ok-tell_changes.ensures.said
    (λ same. c.if-len-begun.false
    (c.len.ensures ∙ c.tell_changes.new.sink.bytes.ok.0 ∙ same ∙ sym c.begin.new.self.bytes.ok.0
    ∙ sym c.len-begun.ensures))
    c.in_ok-end.ensures

pub returns-clause-frames : goal.returns-clause-frames
returns-clause-frames c =
    let messages : List Msg =
    enclosed c.args.commit.now
    (said_each (checked_view c.args.checked.now) c.args.slot c.args.relation_sent.now c.args.commit.now.changes) in
    (all_said c).appended
    ∙ ap (λ (x : List ℕ). x ++ frames_with c.new-frames.result.head messages) c.new-frames.ensures.bytes
    ∙ ap (λ (head : XLogData). frames_with head messages) c.new-frames.ensures.head

pub returns-clause-texts : goal.returns-clause-texts
returns-clause-texts c = (all_said c).texts
