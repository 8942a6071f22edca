use Rattle.std.specs.List.{concat}
use Rattle.copy_both.specs.Links.{replies}
use Rattle.copy_both.specs.Voices.{Sends, voice_stage}
use Rattle.copy_both.proofs.replies.reply.Given as goal

abbrev pub invariant-loop : goal.invariant-loop
invariant-loop l = Sends l.initial.voice l.voice (concat (replies (voice_stage l.initial.voice) l.counter l.now))
    (voice_stage l.initial.voice)
