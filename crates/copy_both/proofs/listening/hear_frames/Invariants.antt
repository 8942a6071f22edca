use Rattle.std.proofs.Common.{◌+◌, ◌<◌, ◌^◌, length}
use Rattle.copy_both.specs.Sessions.{served_by, hearing_view, KeepsRest}
use Rattle.copy_both.proofs.ListeningLemmas.{IsListening}
use Rattle.copy_both.proofs.listening.hear_frames.Given as goal

abbrev pub invariant-loop-frames : goal.invariant-loop-frames
invariant-loop-frames l = record {
  kept : KeepsRest l.initial.session l.session l.initial.book l.book;
  listens : IsListening (served_by l.initial.session l.initial.book)
      (hearing_view l.initial.session l.initial.hearing l.initial.book)
      (hearing_view l.session l.hearing l.book) l.initial.frames l.frames;
  counted : l.hearing.replies + length l.frames.bytes < 2 ^ 63;
}

abbrev pub decreases-loop-frames : goal.decreases-loop-frames
decreases-loop-frames l = length l.frames.bytes
