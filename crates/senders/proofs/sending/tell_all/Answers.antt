use Rattle.std.proofs.Common.{ℕ, List, map, ap, refl, subst, sym, ◌∙◌}
use Rattle.std.specs.Prelude.{false}
use Rattle.std.proofs.lemmas.List.Elements.{All-nil}
use Rattle.stream_laws.specs.LayoutRoom.{IsClocked}
use Rattle.tables_log.specs.Commits.{CommitOf}
use Rattle.tables_log.specs.Routes.{commit_in}
use Rattle.std.specs.Arc.{arc_value}
use Rattle.copy_both.specs.Voices.{next_of}
use Rattle.copy_frames.specs.Contents.{copy_both_response}
use Rattle.publisher_desk.specs.Lending.{IsNext, IsStepOf}
use Rattle.publisher_desk.specs.Viewers.{log_seen}
use Rattle.senders.specs.Sending.{TellsOn, started_telling}
use Rattle.senders.proofs.SendingLemmas.{breaks_at, breaks_kept, breaks_unchanged, on_err, on_ok, tells_entry, tells_first, tells_kept, tells_reply, tells_skips}
use Rattle.senders.proofs.SeenLogs.{entry_logged, passed_logged, takes_entry, takes_first, takes_kept, takes_passed}
use Rattle.senders.proofs.SkippingLemmas.{next_are_quiet, next_is_routed}
use Rattle.senders.proofs.sending.tell_all.Goals as goal

pub loop-init : goal.loop-init
loop-init g c = (
  subst (λ (commits : List CommitOf). TellsOn (g.W.Sink.taken c.args.writer.now) (g.W.Sink.taken c.args.writer.now)
      commits c.args.voice.now
      (started_telling g.P.Publishing.checked c.args.started.0 c.args.started.1 copy_both_response))
      (sym (ap (map (λ commit. arc_value commit)) c.new-taken.ensures.items))
      (tells_first (g.W.Sink.taken c.args.writer.now) (g.W.Sink.taken c.args.writer.now)
      (started_telling g.P.Publishing.checked c.args.started.0 c.args.started.1 copy_both_response) c.args.voice.now
      (All-nil IsClocked) c.requires),
  takes_first g.P.Publishing.checked c.args.viewer.now (map (λ commit. arc_value commit) c.new-taken.result.items)
      (ap (map (λ commit. arc_value commit)) c.new-taken.ensures.items),
  refl,
)

pub loop-preserved-in-Sent : goal.loop-preserved-in-Sent
loop-preserved-in-Sent g c =
    let taken = g.W.Sink.taken in
    let told = started_telling g.P.Publishing.checked c.args.started.0 c.args.started.1 copy_both_response in (
      tells_entry (λ commit. arc_value commit) (taken c.args.writer.now) (taken c.loop.writer)
          (taken c.await_step.new.writer) told c.loop.taken.items c.reserve.new.self.items c.loop.voice
          c.await_step.new.voice c.loop.invariant.0 c.await_step.ensures.flushes c.reserve.ensures.items
          c.push_reserved.new.self.items c.into_commit.result (commit_in c.in-Entry.entry) c.take_routed.new.self
          c.next-in-loop.result c.in-Some-next.number c.clock.result c.clock.ensures c.next-in-loop.ensures
          c.in-Some-next.is
          (subst (IsNext g.P.Publishing.checked.plan c.started.inside.slot c.in-Some-next.number) c.in-Entry.is
          c.in-Ok.ensures.next).0 (sym c.into_commit.ensures)
          c.in-Ok-take_routed.ensures.ok c.push_reserved.ensures.items,
      takes_entry g.P.Publishing.checked c.args.viewer.now c.loop.viewer c.await_step.new.viewer c.await_step.ensures.sees
          (map (λ commit. arc_value commit) c.loop.taken.items) c.loop.invariant.1
          (λ commit. arc_value commit) c.reserve.new.self.items c.push_reserved.new.self.items
          (ap (map (λ commit. arc_value commit)) c.reserve.ensures.items) c.into_commit.result
          (commit_in c.in-Entry.entry) c.into_commit.ensures c.push_reserved.ensures.items
          (entry_logged (log_seen g.P.Publishing.checked c.await_step.new.viewer.seen) c.in-Some-next.number
          (commit_in c.in-Entry.entry)
          (subst (IsStepOf g.P.Publishing.checked.plan c.started.inside.slot
          (log_seen g.P.Publishing.checked c.await_step.new.viewer.seen) c.in-Some-next.number) c.in-Entry.is
          c.in-Ok.ensures.logged).0
          (subst (IsNext g.P.Publishing.checked.plan c.started.inside.slot c.in-Some-next.number) c.in-Entry.is
          c.in-Ok.ensures.next).0),
      c.await_step.ensures.refused ∙ c.loop.invariant.2,
    )

pub loop-preserved-in_default-told : goal.loop-preserved-in_default-told
loop-preserved-in_default-told g c =
    let taken = g.W.Sink.taken in
    let told = started_telling g.P.Publishing.checked c.args.started.0 c.args.started.1 copy_both_response in (
      tells_entry (λ commit. arc_value commit) (taken c.args.writer.now) (taken c.loop.writer)
          (taken c.await_step.new.writer) told c.loop.taken.items c.reserve.new.self.items c.loop.voice
          c.await_step.new.voice c.loop.invariant.0 c.await_step.ensures.flushes c.reserve.ensures.items
          c.push_reserved.new.self.items c.into_commit.result (commit_in c.in-Entry.entry) c.take_routed.new.self
          c.next-in-loop.result c.in-Some-next.number c.clock.result c.clock.ensures c.next-in-loop.ensures
          c.in-Some-next.is
          (subst (IsNext g.P.Publishing.checked.plan c.started.inside.slot c.in-Some-next.number) c.in-Entry.is
          c.in-Ok.ensures.next).0 (sym c.into_commit.ensures)
          c.in-Ok-take_routed.ensures.ok c.push_reserved.ensures.items,
      takes_entry g.P.Publishing.checked c.args.viewer.now c.loop.viewer c.await_step.new.viewer c.await_step.ensures.sees
          (map (λ commit. arc_value commit) c.loop.taken.items) c.loop.invariant.1
          (λ commit. arc_value commit) c.reserve.new.self.items c.push_reserved.new.self.items
          (ap (map (λ commit. arc_value commit)) c.reserve.ensures.items) c.into_commit.result
          (commit_in c.in-Entry.entry) c.into_commit.ensures c.push_reserved.ensures.items
          (entry_logged (log_seen g.P.Publishing.checked c.await_step.new.viewer.seen) c.in-Some-next.number
          (commit_in c.in-Entry.entry)
          (subst (IsStepOf g.P.Publishing.checked.plan c.started.inside.slot
          (log_seen g.P.Publishing.checked c.await_step.new.viewer.seen) c.in-Some-next.number) c.in-Entry.is
          c.in-Ok.ensures.logged).0
          (subst (IsNext g.P.Publishing.checked.plan c.started.inside.slot c.in-Some-next.number) c.in-Entry.is
          c.in-Ok.ensures.next).0),
      c.await_step.ensures.refused ∙ c.loop.invariant.2,
    )

-- the entry is routed by the plan of the voice, which is the publisher's
pub take_routed-requires-clause-routed : goal.take_routed-requires-clause-routed
take_routed-requires-clause-routed g c =
    let taken = g.W.Sink.taken in
    let told = started_telling g.P.Publishing.checked c.args.started.0 c.args.started.1 copy_both_response in
    next_is_routed (taken c.args.writer.now) (taken c.await_step.new.writer)
    (map (λ commit. arc_value commit) c.reserve.new.self.items) c.await_step.new.voice g.P.Publishing.checked
    c.args.started.0 c.args.started.1 copy_both_response c.in-Entry.entry
    (tells_kept (λ commit. arc_value commit) (taken c.args.writer.now) (taken c.loop.writer)
    (taken c.await_step.new.writer) told c.loop.taken.items c.reserve.new.self.items c.loop.voice
    c.await_step.new.voice c.loop.invariant.0 c.await_step.ensures.flushes c.reserve.ensures.items)
    (subst (IsNext g.P.Publishing.checked.plan c.started.inside.slot c.in-Some-next.number) c.in-Entry.is
    c.in-Ok.ensures.next).2

-- commits that are passed over are the next ones, and the subscriber gets nothing of any
pub pass_over-requires : goal.pass_over-requires
pass_over-requires g c =
    let taken = g.W.Sink.taken in
    let told = started_telling g.P.Publishing.checked c.args.started.0 c.args.started.1 copy_both_response in
    next_are_quiet (taken c.args.writer.now) (taken c.await_step.new.writer)
    (map (λ commit. arc_value commit) c.reserve.new.self.items)
    (map (λ commit. arc_value commit) c.in-Skip.commits.items) c.await_step.new.voice g.P.Publishing.checked
    c.args.started.0 c.args.started.1 c.in-Some-next.number copy_both_response
    (tells_kept (λ commit. arc_value commit) (taken c.args.writer.now) (taken c.loop.writer)
    (taken c.await_step.new.writer) told c.loop.taken.items c.reserve.new.self.items c.loop.voice
    c.await_step.new.voice c.loop.invariant.0 c.await_step.ensures.flushes c.reserve.ensures.items)
    (ap next_of c.await_step.ensures.flushes.stage_is ∙ sym c.next-in-loop.ensures ∙ c.in-Some-next.is)
    (subst (IsNext g.P.Publishing.checked.plan c.args.started.0 c.in-Some-next.number) c.in-Skip.is
    (subst (λ (slot : ℕ). IsNext g.P.Publishing.checked.plan slot c.in-Some-next.number c.in-Ok.step)
    (ap (λ (started : ℕ × ℕ). started.0) c.started.view_is) c.in-Ok.ensures.next))

pub loop-preserved-in-Skip : goal.loop-preserved-in-Skip
loop-preserved-in-Skip g c =
    let taken = g.W.Sink.taken in
    let told = started_telling g.P.Publishing.checked c.args.started.0 c.args.started.1 copy_both_response in (
      tells_skips (λ commit. arc_value commit) (taken c.args.writer.now) (taken c.loop.writer)
          (taken c.await_step.new.writer) told c.loop.taken.items c.reserve.new.self.items c.loop.voice
          c.await_step.new.voice c.loop.invariant.0 c.await_step.ensures.flushes c.reserve.ensures.items
          c.pass_over.new.taken.items c.in-Skip.commits.items c.pass_over.new.voice c.in-Ok-pass_over.ensures.ok
          c.in-Ok-pass_over.ensures.taken,
      takes_passed g.P.Publishing.checked c.args.viewer.now c.loop.viewer c.await_step.new.viewer c.await_step.ensures.sees
          (map (λ commit. arc_value commit) c.loop.taken.items) c.loop.invariant.1
          (λ commit. arc_value commit) c.reserve.new.self.items c.pass_over.new.taken.items
          (ap (map (λ commit. arc_value commit)) c.reserve.ensures.items) c.in-Skip.commits.items
          c.in-Ok-pass_over.ensures.taken
          (passed_logged g.P.Publishing.checked c.await_step.new.viewer.seen g.P.Publishing.checked.plan
          c.started.inside.slot c.in-Some-next.number (map (λ commit. arc_value commit) c.in-Skip.commits.items)
          (subst (IsStepOf g.P.Publishing.checked.plan c.started.inside.slot
          (log_seen g.P.Publishing.checked c.await_step.new.viewer.seen) c.in-Some-next.number) c.in-Skip.is
          c.in-Ok.ensures.logged).0
          (subst (IsNext g.P.Publishing.checked.plan c.started.inside.slot c.in-Some-next.number) c.in-Skip.is
          c.in-Ok.ensures.next)),
      c.await_step.ensures.refused ∙ c.loop.invariant.2,
    )

pub returns-in_default-pass_over-clause-tells : goal.returns-in_default-pass_over-clause-tells
returns-in_default-pass_over-clause-tells g c =
    let taken = g.W.Sink.taken in
    let told = started_telling g.P.Publishing.checked c.args.started.0 c.args.started.1 copy_both_response in
    breaks_unchanged (λ commit. arc_value commit) (taken c.args.writer.now) (taken c.loop.writer)
    (taken c.await_step.new.writer) told c.loop.taken.items c.reserve.new.self.items c.loop.voice
    c.await_step.new.voice c.loop.invariant.0 c.await_step.ensures.flushes c.reserve.ensures.items
    c.pass_over.new.taken.items c.pass_over.new.voice c.in_default-pass_over.ensures.kept
    c.in_default-pass_over.ensures.err

pub loop-preserved : goal.loop-preserved
loop-preserved g c =
    let taken = g.W.Sink.taken in
    let told = started_telling g.P.Publishing.checked c.args.started.0 c.args.started.1 copy_both_response in (
      tells_reply (λ commit. arc_value commit) (taken c.args.writer.now) (taken c.loop.writer)
          (taken c.await_step.new.writer) told c.loop.taken.items c.reserve.new.self.items c.loop.voice
          c.await_step.new.voice c.loop.invariant.0 c.await_step.ensures.flushes c.reserve.ensures.items
          c.keepalive.new.self c.clock-in-Reply.result false c.clock-in-Reply.ensures
          (on_ok c.keepalive.result c.is_err-in-Reply.result _ c.is_err-in-Reply.ensures.value c.if-is_err-2.false
          c.keepalive.ensures.ok),
      takes_kept g.P.Publishing.checked c.args.viewer.now c.loop.viewer c.await_step.new.viewer c.await_step.ensures.sees
          (map (λ commit. arc_value commit) c.loop.taken.items) c.loop.invariant.1 (map (λ commit. arc_value commit) c.reserve.new.self.items)
          (ap (map (λ commit. arc_value commit)) c.reserve.ensures.items),
      c.await_step.ensures.refused ∙ c.loop.invariant.2,
    )

pub returns-in_default-await_step-clause-tells : goal.returns-in_default-await_step-clause-tells
returns-in_default-await_step-clause-tells g c =
    let taken = g.W.Sink.taken in
    let told = started_telling g.P.Publishing.checked c.args.started.0 c.args.started.1 copy_both_response in
    breaks_kept (λ commit. arc_value commit) (taken c.args.writer.now) (taken c.loop.writer)
    (taken c.await_step.new.writer) told c.loop.taken.items c.reserve.new.self.items c.loop.voice
    c.await_step.new.voice c.loop.invariant.0 c.await_step.ensures.flushes c.reserve.ensures.items

pub returns-in_default-take_routed-clause-tells : goal.returns-in_default-take_routed-clause-tells
returns-in_default-take_routed-clause-tells g c =
    let taken = g.W.Sink.taken in
    let told = started_telling g.P.Publishing.checked c.args.started.0 c.args.started.1 copy_both_response in
    breaks_at (λ commit. arc_value commit) (taken c.args.writer.now) (taken c.loop.writer)
    (taken c.await_step.new.writer) told c.loop.taken.items c.reserve.new.self.items c.loop.voice
    c.await_step.new.voice c.loop.invariant.0 c.await_step.ensures.flushes c.reserve.ensures.items
    c.take_routed.new.self c.in_default-take_routed.ensures.err

pub returns-then-is_err-2-clause-tells : goal.returns-then-is_err-2-clause-tells
returns-then-is_err-2-clause-tells g c =
    let taken = g.W.Sink.taken in
    let told = started_telling g.P.Publishing.checked c.args.started.0 c.args.started.1 copy_both_response in
    breaks_at (λ commit. arc_value commit) (taken c.args.writer.now) (taken c.loop.writer)
    (taken c.await_step.new.writer) told c.loop.taken.items c.reserve.new.self.items c.loop.voice
    c.await_step.new.voice c.loop.invariant.0 c.await_step.ensures.flushes c.reserve.ensures.items
    c.keepalive.new.self
    (on_err c.keepalive.result c.is_err-in-Reply.result _ c.is_err-in-Reply.ensures.value c.if-is_err-2.true
    c.keepalive.ensures.err)

pub returns-in-Ended-clause-tells : goal.returns-in-Ended-clause-tells
returns-in-Ended-clause-tells g c =
    let taken = g.W.Sink.taken in
    let told = started_telling g.P.Publishing.checked c.args.started.0 c.args.started.1 copy_both_response in
    tells_kept (λ commit. arc_value commit) (taken c.args.writer.now) (taken c.loop.writer)
    (taken c.await_step.new.writer) told c.loop.taken.items c.reserve.new.self.items c.loop.voice
    c.await_step.new.voice c.loop.invariant.0 c.await_step.ensures.flushes c.reserve.ensures.items

pub returns-in-Finished-clause-tells : goal.returns-in-Finished-clause-tells
returns-in-Finished-clause-tells g c =
    let taken = g.W.Sink.taken in
    let told = started_telling g.P.Publishing.checked c.args.started.0 c.args.started.1 copy_both_response in
    tells_kept (λ commit. arc_value commit) (taken c.args.writer.now) (taken c.loop.writer)
    (taken c.await_step.new.writer) told c.loop.taken.items c.reserve.new.self.items c.loop.voice
    c.await_step.new.voice c.loop.invariant.0 c.await_step.ensures.flushes c.reserve.ensures.items

pub returns-in-OutOfMemory-clause-tells : goal.returns-in-OutOfMemory-clause-tells
returns-in-OutOfMemory-clause-tells g c =
    let taken = g.W.Sink.taken in
    let told = started_telling g.P.Publishing.checked c.args.started.0 c.args.started.1 copy_both_response in
    breaks_kept (λ commit. arc_value commit) (taken c.args.writer.now) (taken c.loop.writer)
    (taken c.await_step.new.writer) told c.loop.taken.items c.reserve.new.self.items c.loop.voice
    c.await_step.new.voice c.loop.invariant.0 c.await_step.ensures.flushes c.reserve.ensures.items

pub returns-in_default-await_step-clause-logged : goal.returns-in_default-await_step-clause-logged
returns-in_default-await_step-clause-logged g c =
    takes_kept g.P.Publishing.checked c.args.viewer.now c.loop.viewer c.await_step.new.viewer c.await_step.ensures.sees
    (map (λ commit. arc_value commit) c.loop.taken.items) c.loop.invariant.1 (map (λ commit. arc_value commit) c.reserve.new.self.items)
    (ap (map (λ commit. arc_value commit)) c.reserve.ensures.items)

pub returns-in_default-take_routed-clause-logged : goal.returns-in_default-take_routed-clause-logged
returns-in_default-take_routed-clause-logged g c =
    takes_kept g.P.Publishing.checked c.args.viewer.now c.loop.viewer c.await_step.new.viewer c.await_step.ensures.sees
    (map (λ commit. arc_value commit) c.loop.taken.items) c.loop.invariant.1 (map (λ commit. arc_value commit) c.reserve.new.self.items)
    (ap (map (λ commit. arc_value commit)) c.reserve.ensures.items)

pub returns-then-is_err-2-clause-logged : goal.returns-then-is_err-2-clause-logged
returns-then-is_err-2-clause-logged g c =
    takes_kept g.P.Publishing.checked c.args.viewer.now c.loop.viewer c.await_step.new.viewer c.await_step.ensures.sees
    (map (λ commit. arc_value commit) c.loop.taken.items) c.loop.invariant.1 (map (λ commit. arc_value commit) c.reserve.new.self.items)
    (ap (map (λ commit. arc_value commit)) c.reserve.ensures.items)

pub returns-in-Ended-clause-logged : goal.returns-in-Ended-clause-logged
returns-in-Ended-clause-logged g c =
    takes_kept g.P.Publishing.checked c.args.viewer.now c.loop.viewer c.await_step.new.viewer c.await_step.ensures.sees
    (map (λ commit. arc_value commit) c.loop.taken.items) c.loop.invariant.1 (map (λ commit. arc_value commit) c.reserve.new.self.items)
    (ap (map (λ commit. arc_value commit)) c.reserve.ensures.items)

pub returns-in-Finished-clause-logged : goal.returns-in-Finished-clause-logged
returns-in-Finished-clause-logged g c =
    takes_kept g.P.Publishing.checked c.args.viewer.now c.loop.viewer c.await_step.new.viewer c.await_step.ensures.sees
    (map (λ commit. arc_value commit) c.loop.taken.items) c.loop.invariant.1 (map (λ commit. arc_value commit) c.reserve.new.self.items)
    (ap (map (λ commit. arc_value commit)) c.reserve.ensures.items)

pub returns-in-OutOfMemory-clause-logged : goal.returns-in-OutOfMemory-clause-logged
returns-in-OutOfMemory-clause-logged g c =
    takes_kept g.P.Publishing.checked c.args.viewer.now c.loop.viewer c.await_step.new.viewer c.await_step.ensures.sees
    (map (λ commit. arc_value commit) c.loop.taken.items) c.loop.invariant.1 (map (λ commit. arc_value commit) c.reserve.new.self.items)
    (ap (map (λ commit. arc_value commit)) c.reserve.ensures.items)

pub returns-in_default-pass_over-clause-logged : goal.returns-in_default-pass_over-clause-logged
returns-in_default-pass_over-clause-logged g c =
    takes_kept g.P.Publishing.checked c.args.viewer.now c.loop.viewer c.await_step.new.viewer c.await_step.ensures.sees
    (map (λ commit. arc_value commit) c.loop.taken.items) c.loop.invariant.1 (map (λ commit. arc_value commit) c.pass_over.new.taken.items)
    (ap (map (λ commit. arc_value commit)) (c.in_default-pass_over.ensures.kept ∙ c.reserve.ensures.items))
